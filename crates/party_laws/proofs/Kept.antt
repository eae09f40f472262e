-- What rules, messages and starts leave as it is.
use mathlib.Core.Path.{◌≡◌, refl, sym, ap, ◌∙◌, subst}
use mathlib.Core.Bool.{Bool, true, false, not}
use Prim.Native.Nat.{ℕ, ◌+◌}
use lib.Dec.{T, eqb, T_not}
use lib.ListN.{length, get_or, set}
use lib.Seq.{set-get_or}
use Rattle.base.specs.Pick.{pick}
use Rattle.base.specs.Sets.{Set}
use Rattle.base.specs.Limits.{level_count}
use Rattle.base.proofs.Bools.{T→true}
use Rattle.component.specs.Component.{whole_of, degree_of, centre_of, port_of, side_of}
use Rattle.message.specs.declared.Body.{Body}
use Rattle.message.specs.declared.Message.{Message}
use Rattle.senders.specs.Senders.{with_sender}
use Rattle.senders.proofs.Laws.{with_old}
use Rattle.level.specs.Rules.{Effect}
use Rattle.level.specs.Level.{Level, senders, slot, held, with_heard}
use Rattle.level_laws.proofs.Moves.{Move}
use Rattle.level_laws.proofs.Moves.{port_echo, none_echo, first_proposal_lem, first_value, first_none, own_echo, relay, second_proposal_lem, sure_result, none_result, unsure_result, centre_output, sure_entry, unsure_entry, centre_message, sided_entry, told_output, next_output_lem}
use Rattle.level_laws.proofs.Law.{Same}
use Rattle.level_laws.proofs.Grows.{Unmoved, move_unmoved}
use Rattle.party.specs.Party.{Party, level_at, with_level, component_of, sending, context_of, entering, entered, started, held_by, hearing}
use Rattle.party.specs.Run.{rule_at, open_at, descend, gate, after_rule, step_at, resting, run_up_to, run, starting, taking}
use Rattle.party_laws.specs.Inner.{SameBoard}
use Rattle.party_laws.proofs.Levels.{board_refl, board_trans, board_with, board_entering, level_field, level_back, entry_other, component_same}
use Rattle.party_laws.proofs.Valid.{Valid}
use Rattle.party_laws.proofs.Components.{entered_down}
use Rattle.party_laws.proofs.Updates.{sending_same}
use Rattle.party_laws.proofs.Moves.{open_move}
use Rattle.party_laws.proofs.Runs.{runs_keep, run_keeps, starting_keeps, taking_keeps}

-- ---- the two things that a rule does to a party

-- it changes the record of its level, or enters the next level, which was not entered
pub data Step (p : Party) (i : ℕ) : Party → Type 0 where
  changes : (m : Level) (e : Effect) → Move (context_of p i) (level_at p i) m e → Step p i (with_level p i m)
  enters : (k x : ℕ) → (T (level_at p (i + 1)).entered → ⊥) → Step p i (descend p i k x)

module _ (p : Party) (i : ℕ) where
  -- a rule that enters leaves its own level's record
  entering_step : (k x : ℕ) → T (not (context_of p i).next_entered) → Step p i (descend (with_level p i (level_at p i)) i k x)
  unfolding context_of
  entering_step k x new =
      subst (λ (q : Party). Step p i (descend q i k x)) (sym (level_back p i)) (enters k x (T_not (level_at p (i + 1)).entered new))

  move_step : (m : Level) (e : Effect) → Move (context_of p i) (level_at p i) m e → Step p i (after_rule p i m e)
  unfolding after_rule
  move_step m e (port_echo a) = changes m e (port_echo a)
  move_step m e (none_echo a b) = changes m e (none_echo a b)
  move_step m e (first_proposal_lem w a b c) = changes m e (first_proposal_lem w a b c)
  move_step m e (first_value w a b c) = changes m e (first_value w a b c)
  move_step m e (first_none a b) = changes m e (first_none a b)
  move_step m e (own_echo a b) = changes m e (own_echo a b)
  move_step m e (relay w a b c d) = changes m e (relay w a b c d)
  move_step m e (second_proposal_lem w a b c d) = changes m e (second_proposal_lem w a b c d)
  move_step m e (sure_result w a b c d) = changes m e (sure_result w a b c d)
  move_step m e (none_result a b c) = changes m e (none_result a b c)
  move_step m e (unsure_result w a b c d f) = changes m e (unsure_result w a b c d f)
  move_step m e (centre_output a b) = changes m e (centre_output a b)
  move_step m e (sure_entry a b c) =
      entering_step (level_at p i).result (pick (eqb (context_of p i).port (level_at p i).result) (level_at p i).position (gate p i (level_at p i).result)) b
  move_step m e (unsure_entry a b c) = entering_step (level_at p i).result (gate p i (level_at p i).result) b
  move_step m e (centre_message a b) = changes m e (centre_message a b)
  move_step m e (sided_entry k a b c d f) = entering_step k (gate p i k) b
  move_step m e (told_output a b) = changes m e (told_output a b)
  move_step m e (next_output_lem a b c) = changes m e (next_output_lem a b c)

  pub open_step : T (open_at p i) → Step p i (step_at p i)
  open_step h = move_step (rule_at p i).level (rule_at p i).effect (open_move p i h)

-- ---- settings, plan and entries

-- q is of p's board, vote and plan, and p's entered levels are entered there by the same side and at the same position
pub record Keeps (p q : Party) : Type 0 where
  pub board : SameBoard p q
  pub entry : (i : ℕ) → T (level_at p i).entered → T (level_at q i).entered × ((level_at q i).side ≡ (level_at p i).side) × ((level_at q i).position ≡ (level_at p i).position)

-- every level heard the same
abbrev pub SameSets : Party → Party → Type 0
SameSets p q = (i : ℕ) → (level_at q i).sets ≡ (level_at p i).sets

pub keeps_refl : (p : Party) → Keeps p p
keeps_refl p = record { board = board_refl p; entry = λ i h. (h, refl, refl) }

pub keeps_trans : (p q r : Party) → Keeps p q → Keeps q r → Keeps p r
keeps_trans p q r a b = record {
  board = board_trans p q r a.board b.board;
  entry = λ i h.
      let x = a.entry i h in
      let y = b.entry i x.0 in
      (y.0, y.1 ∙ x.1, y.2 ∙ x.2);
}

-- a level replaced by one that was entered likewise
keeps_with : (p : Party) (i : ℕ) (m : Level) → m.entered ≡ (level_at p i).entered → m.side ≡ (level_at p i).side → m.position ≡ (level_at p i).position
    → Keeps p (with_level p i m)
keeps_with p i m e s x = record {
  board = board_with p i m;
  entry = λ j h.
      (subst T (sym (level_field p i m (λ l. l.entered) e j)) h, level_field p i m (λ l. l.side) s j, level_field p i m (λ l. l.position) x j);
}

-- a level that was not entered is
keeps_entering : (p : Party) (i : ℕ) (S : Set) (k x : ℕ) → (T (level_at p i).entered → ⊥) → Keeps p (entering p i S k x)
keeps_entering p i S k x new = record {
  board = board_entering p i S k x;
  entry = λ j h.
      let o = entry_other p i S k x j (λ e. new (subst (λ (z : ℕ). T (level_at p z).entered) e h)) in
      (subst (λ (l : Level). T l.entered) (sym o) h, ap (λ (l : Level). l.side) o, ap (λ (l : Level). l.position) o);
}

sets_entering : (p : Party) (i : ℕ) (S : Set) (k x : ℕ) → SameSets p (entering p i S k x)
unfolding entering
sets_entering p i S k x = level_field p i _ (λ l. l.sets) refl

stepped : (p : Party) (i : ℕ) (q : Party) → Step p i q → Keeps p q × SameSets p q
stepped p i q (changes m e x) =
    let u : Unmoved (level_at p i) m = move_unmoved (context_of p i) (level_at p i) m e x in
    (keeps_with p i m u.entered u.side u.position, level_field p i m (λ l. l.sets) u.sets)
stepped p i q (enters k x new) =
    (keeps_entering p (i + 1) (side_of p.plan (component_of p i) k) k x new, sets_entering p (i + 1) (side_of p.plan (component_of p i) k) k x)

-- one rule
pub step_kept : (p : Party) (i : ℕ) → T (open_at p i) → Keeps p (step_at p i) × SameSets p (step_at p i)
step_kept p i h = stepped p i (step_at p i) (open_step p i h)

pub keeps_hearing : (p : Party) (s : ℕ) (m : Message) → Keeps p (hearing p s m)
unfolding hearing with_heard
keeps_hearing p s m = keeps_with p m.level (with_heard (level_at p m.level) m.body s) refl refl refl

pub keeps_entered : (p : Party) (x : ℕ) → (T (started p) → ⊥) → Keeps p (entered p x)
unfolding entered
keeps_entered p x new = keeps_entering p 0 (whole_of p.plan) 0 x new

pub sets_entered : (p : Party) (x : ℕ) → SameSets p (entered p x)
unfolding entered
sets_entered p x = sets_entering p 0 (whole_of p.plan) 0 x

-- ---- the same along a run

-- q is p after rules
abbrev Ruled : Party → Party → Type 0
Ruled p q = Keeps p q × SameSets p q

ruled_step : (p q : Party) (i : ℕ) → Ruled p q → T (open_at q i) → Ruled p (step_at q i)
ruled_step p q i h o =
    let s = step_kept q i o in
    (keeps_trans p q (step_at q i) h.0 s.0, λ j. s.1 j ∙ h.1 j)

pub runs_kept : (f : ℕ) (p : Party) → Keeps p (run_up_to f p).party × SameSets p (run_up_to f p).party
runs_kept f p = runs_keep (Ruled p) (ruled_step p) f p (keeps_refl p, λ i. refl)

pub run_kept : (p : Party) → Keeps p (run p).party × SameSets p (run p).party
run_kept p = run_keeps (Ruled p) (ruled_step p) p (keeps_refl p, λ i. refl)

pub starting_kept : (p : Party) (x : ℕ) → (T (started p) → ⊥) → Keeps p (starting p x).party × SameSets p (starting p x).party
starting_kept p x new = starting_keeps (Ruled p) (ruled_step p) p x (keeps_entered p x new, sets_entered p x)

pub taking_kept : (p : Party) (s : ℕ) (m : Message) → Keeps p (taking p s m).party
taking_kept p s m = taking_keeps (Keeps p) (λ q i h o. keeps_trans p q (step_at q i) h (step_kept q i o).0) p s m (keeps_refl p) (keeps_hearing p s m)

-- ---- a message that was held

heard_held : (l : Level) (b : Body) (s : ℕ) → T (held l b s) → with_heard l b s ≡ l
unfolding with_heard held senders
heard_held l b s h =
    let e : set l.sets (slot b) (with_sender (get_or l.sets (slot b) 0) s) ≡ l.sets
    = ap (set l.sets (slot b)) (with_old (get_or l.sets (slot b) 0) s h) ∙ set-get_or l.sets (slot b) 0 in
    λ i. record {
      sets = e i;
      entered = l.entered;
      side = l.side;
      position = l.position;
      echoed_port = l.echoed_port;
      echoed_none = l.echoed_none;
      proposal = l.proposal;
      first = l.first;
      echoed = l.echoed;
      second_proposal = l.second_proposal;
      result = l.result;
      sure = l.sure;
      told_centre = l.told_centre;
      output = l.output;
    }

-- taking it again changes nothing
pub hearing_held : (p : Party) (s : ℕ) (m : Message) → T (held_by p s m) → hearing p s m ≡ p
unfolding held_by hearing
hearing_held p s m h =
    let i : ℕ = m.level in
    ap (with_level p i) (heard_held (level_at p i) m.body s h) ∙ level_back p i

-- after a message was taken the levels have heard it, and nothing else
pub taking_sets : (p : Party) (s : ℕ) (m : Message) → SameSets (hearing p s m) (taking p s m).party
unfolding taking
taking_sets p s m = go (held_by p s m) refl
  where
    go : (b : Bool) → held_by p s m ≡ b → SameSets (hearing p s m) (pick b (resting p) (run (hearing p s m))).party
    go true e = subst (λ (q : Party). SameSets q p) (sym (hearing_held p s m (subst T (sym e) tt))) (λ i. refl)
    go false e = (run_kept (hearing p s m)).1

-- ---- an entered level stays over its component

module _ (p q : Party) (v : Valid p) (full : length p.levels ≡ level_count) (k : Keeps p q) (i : ℕ) (h : T (level_at p i).entered) where
  pub kept_component : component_of q i ≡ component_of p i
  kept_component = component_same p q k.board.plan i (λ j _ l. (k.entry j (entered_down p v full j i l h)).1)

  pub kept_sending : sending q i ≡ sending p i
  kept_sending = sending_same p q i k.board.plan kept_component (T→true (level_at q i).entered (k.entry i h).0 ∙ sym (T→true (level_at p i).entered h))

  -- and what its rules see, but for the next level
  pub kept_context : Same (context_of p i) (context_of q i)
  unfolding context_of
  kept_context =
      let b = k.board in
      let c = kept_component in
      record {
        n = sym b.n;
        t = sym b.t;
        degree = λ z. degree_of (sym b.plan z) (sym c z);
        port = λ z. port_of (sym b.plan z) (sym c z) (sym (k.entry i h).2 z);
        centre = λ z. centre_of (sym b.plan z) (sym c z);
      }
