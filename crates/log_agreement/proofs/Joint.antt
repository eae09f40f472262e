-- The states of a vote's boards after a history, and what ties the sound ones together.
use mathlib.Core.Path.{◌≡◌, refl, sym, ◌∙◌, subst, subst₂}
use mathlib.Core.Logic.{◌⊎◌, inl, inr}
use mathlib.Core.List.{List, [], ◌∷◌}
use Prim.Native.Nat.{ℕ, ◌≤◌, ◌<◌}
use lib.Dec.{T}
use Rattle.base.specs.Sets.{Set, count, Sound}
use Rattle.base.proofs.Counts.{sound_member}
use Rattle.plan.specs.Plan.{Plan}
use Rattle.message.specs.declared.Body.TheVariants.{SecondEcho}
use Rattle.message.specs.declared.Message.{Message}
use Rattle.level_laws.specs.Inner.{Present, Echoed, SentIn, heard_from}
use Rattle.graded_levels.proofs.Board.{law_own}
use Rattle.party.specs.Party.{Party, level_at, sending, context_of}
use Rattle.party_laws.proofs.Laws.{sending_entered}
use Rattle.execution.specs.Machine.{Event, Machine}
use Rattle.execution.specs.History.{HStep, log, after}
use Rattle.execution.specs.Inner.{ValidH}
use Rattle.execution.proofs.Lawful.{Lawful}
use Rattle.execution.proofs.Histories.{inv_after, authentic_log, causal_log}
use Rattle.vote_machine.specs.Machine.{vote_machine, Heard, Sent}
use Rattle.vote_machine.specs.Inner.{Inv, Le}
use Rattle.vote_machine.proofs.Laws.{le_sending, le_called, valued, Passes, vote_lawful}

-- a board of the vote
pub record Seated (n t agreement : ℕ) (plan : Plan) (p : Party) : Type 0 where
  pub boards : p.n ≡ n
  pub faults : p.t ≡ t
  pub number : p.agreement ≡ agreement
  pub on : p.plan ≡ plan

-- some sound board has the first result w at level L
abbrev pub FirstAt : (n : ℕ) (bad : Set) (st : ℕ → Party) (L w : ℕ) → Type 0
FirstAt n bad st L w = (j : ℕ) × Sound n bad j × T (sending (st j) L) × ((level_at (st j) L).first ≡ w)

-- the boards' states, of which at most t are faulty
pub record Joint (n t agreement : ℕ) (plan : Plan) (bad : Set) (st : ℕ → Party) : Type 0 where
  pub passes : Passes n t plan
  pub few : count n bad ≤ t
  pub seated : (i : ℕ) → Seated n t agreement plan (st i)
  pub inv : (i : ℕ) → Inv (st i)
  -- what was heard of a sound board, it made
  pub authentic : (i j : ℕ) (m : Message) → Sound n bad j → Heard (st i) j m → Sent (st j) m
  -- a sound board's second echo of w: some sound board has the first result w
  pub origin : (i L w : ℕ) → Sound n bad i → T (sending (st i) L) → Echoed (level_at (st i) L) w → FirstAt n bad st L w

-- ---- second echoes

-- a second echo of w is of the own first result, or was heard from t+1 boards
echo_cases : (p : Party) → Inv p → (L w : ℕ) → T (sending p L) → Echoed (level_at p L) w
    → (Present (level_at p L).first × ((level_at p L).first ≡ w)) ⊎ (p.t < count p.n (heard_from (level_at p L) (SecondEcho w)))
unfolding context_of
echo_cases p v L w on e =
    (law_own (context_of p L) (level_at p L) (valued p v.regular.formed L (sending_entered p L on)) (v.regular.law L on)).second_echo_lem w e

-- a board that heard second echoes only where a first result is, has made only such
module _ (n t agreement : ℕ) (plan : Plan) (bad : Set) (few : count n bad ≤ t) (st : ℕ → Party) (seated : (i : ℕ) → Seated n t agreement plan (st i)) where
  abbrev Good : ℕ → Message → Type 0
  Good i m = (w : ℕ) → m.body ≡ SecondEcho w → FirstAt n bad st m.level w

  echo_good : (i : ℕ) (s : Party) → Sound n bad i → Inv s → Le s (st i) → ((j : ℕ) (m : Message) → Sound n bad j → Heard s j m → Good j m)
      → (m : Message) → Sent s m → Good i m
  echo_good i s g v o heard m sent w e =
      go (echo_cases s v L w sent.sends (subst (SentIn (context_of s L) (level_at s L)) e sent.body))
    where
      L : ℕ
      L = m.level

      on : T (level_at s L).entered
      on = sending_entered s L sent.sends

      go : (Present (level_at s L).first × ((level_at s L).first ≡ w)) ⊎ (s.t < count s.n (heard_from (level_at s L) (SecondEcho w))) → FirstAt n bad st L w
      go (inl x) = (i, g, subst T (sym (le_sending s (st i) o L on)) sent.sends, (o.grown L).first x.0 ∙ x.1)
      go (inr x) =
          let a : s.n ≡ n = sym o.board.n ∙ (seated i).boards in
          let b : s.t ≡ t = sym o.board.t ∙ (seated i).faults in
          let r = sound_member n t bad (heard_from (level_at s L) (SecondEcho w)) few (subst₂ (λ y z. y < count z (heard_from (level_at s L) (SecondEcho w))) b a x) in
          heard r.0 m (r.1, r.3) (record { number = sent.number; body = subst (λ y. T (heard_from (level_at s L) y r.0)) (sym e) r.2 }) w e

-- ---- after a history

module _ (n t agreement : ℕ) (plan : Plan) (v : Passes n t plan) where
  abbrev M : Machine
  M = vote_machine n t agreement plan

  abbrev W : Lawful M
  W = vote_lawful n t agreement plan v

  -- what holds of the party that a log gives
  pub invariant : (i : ℕ) (l : List (Event Message ℕ)) → Inv (after (vote_machine n t agreement plan) i l)
  unfolding vote_lawful
  invariant i l = inv_after M W i l

  -- calls keep the settings
  pub settings : (i : ℕ) (l : List (Event Message ℕ)) → Seated n t agreement plan (after (vote_machine n t agreement plan) i l)
  unfolding after
  settings i [] = record { boards = refl; faults = refl; number = refl; on = refl }
  settings i (e ∷ l) =
      let b = (le_called (after M i l) (invariant i l).regular e).board in
      let s = settings i l in
      record { boards = b.n ∙ s.boards; faults = b.t ∙ s.faults; number = b.agreement ∙ s.number; on = b.plan ∙ s.on }

  pub joint : (bad : Set) → count n bad ≤ t → (h : List (HStep (vote_machine n t agreement plan))) → ValidH (vote_machine n t agreement plan) n bad h
      → Joint n t agreement plan bad (λ i. after (vote_machine n t agreement plan) i (log (vote_machine n t agreement plan) i h))
  unfolding vote_lawful
  joint bad few h w = record {
    passes = v;
    few = few;
    seated = seated;
    inv = λ i. invariant i (log M i h);
    authentic = authentic_log M W n bad h w;
    origin = λ i L x g on e.
        causal_log M W n bad h w (Good n t agreement plan bad few st seated) (echo_good n t agreement plan bad few st seated) i g
        (record { number = agreement; level = L; body = SecondEcho x }) (record { number = sym (seated i).number; sends = on; body = e }) x refl;
  }
    where
      st : ℕ → Party
      st i = after M i (log M i h)

      seated : (i : ℕ) → Seated n t agreement plan (st i)
      seated i = settings i (log M i h)
