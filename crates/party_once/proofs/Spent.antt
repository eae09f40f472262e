-- The messages that a level makes no more, read off its record, whatever record it is.
use mathlib.Core.Path.{◌≡◌, refl, sym, ◌∙◌, subst}
use mathlib.Core.Bool.{Bool, true, false, not, ◌||◌}
use Prim.Native.Nat.{ℕ, ◌≤◌}
use native.Mathlib.Omega.{arith}
use lib.Dec.{T, T_not}
use lib.ListN.{length, get_or}
use lib.Seq.{get_or-set_same}
use Rattle.message.specs.Message.{none_value}
use Rattle.message.specs.declared.Body.{Body}
use Rattle.message.specs.declared.Body.TheVariants.{FirstEcho, FirstProposal, SecondEcho, SecondProposal, Side, Centre}
use Rattle.level.specs.declared.Context.{Context}
use Rattle.level.specs.Rules.{Effect}
use Rattle.level.specs.Rules.{Send, SendEnter}
use Rattle.level.specs.Level.{Level, value_count, with_heard, with_second_echo}
use Rattle.level.specs.Inner.{InLimits}
use Rattle.level_laws.specs.Inner.{Present, Echoed, Grows}
use Rattle.level_laws.proofs.Searches.{candidate_small}
use Rattle.level_laws.proofs.Moves.{Move, enters}
use Rattle.level_laws.proofs.Moves.{port_echo, none_echo, first_proposal_lem, first_value, first_none, own_echo, relay, second_proposal_lem, sure_result, none_result, unsure_result, centre_output, sure_entry, unsure_entry, centre_message, sided_entry, told_output, next_output_lem}
use Rattle.level_laws.proofs.Messages.{Makes}
use Rattle.party_bounds.proofs.Measures.{Later, same, heard, entry}

-- the level makes message b no more; next says whether the next level is entered. Of first echoes it makes that of none and that of the port, which is no
-- none; of a proposal the first, whatever its value; and a side with the entry of the next level
abbrev pub Spent : Bool → Level → Body → Type 0
Spent next l (FirstEcho v) = (v ≡ none_value → T l.echoed_none) × ((v ≡ none_value → ⊥) → T l.echoed_port)
Spent next l (FirstProposal v) = Present l.proposal
Spent next l (SecondEcho w) = Echoed l w
Spent next l (SecondProposal w) = Present l.second_proposal
Spent next l (Side k) = T next
Spent next l Centre = T l.told_centre

-- ---- it stays so

-- what was made at l was made at m
pub record Stays (l m : Level) : Type 0 where
  pub port : T l.echoed_port → T m.echoed_port
  pub none_echo : T l.echoed_none → T m.echoed_none
  pub proposal : Present l.proposal → Present m.proposal
  pub echoed : (w : ℕ) → Echoed l w → Echoed m w
  pub second : Present l.second_proposal → Present m.second_proposal
  pub told : T l.told_centre → T m.told_centre

pub spent_stays : (next next' : Bool) (l m : Level) → (T next → T next') → Stays l m → (b : Body) → Spent next l b → Spent next' m b
spent_stays next next' l m n s (FirstEcho v) h = ((λ e. s.none_echo (h.0 e)), (λ d. s.port (h.1 d)))
spent_stays next next' l m n s (FirstProposal v) h = s.proposal h
spent_stays next next' l m n s (SecondEcho w) h = s.echoed w h
spent_stays next next' l m n s (SecondProposal w) h = s.second h
spent_stays next next' l m n s (Side k) h = n h
spent_stays next next' l m n s Centre h = s.told h

-- in a record that only grew
pub stays_grows : (l m : Level) → Grows l m → Stays l m
stays_grows l m g = record {
  port = g.echoed_port_lem;
  none_echo = g.echoed_none_lem;
  proposal = λ p e. p (sym (g.proposal p) ∙ e);
  echoed = g.echoed;
  second = λ p e. p (sym (g.second_proposal_lem p) ∙ e);
  told = g.told;
}

-- and without a rule
pub stays_later : (l m : Level) → Later l m → Stays l m
unfolding with_heard
stays_later l m same = record { port = λ h. h; none_echo = λ h. h; proposal = λ h. h; echoed = λ w h. h; second = λ h. h; told = λ h. h }
stays_later l m (heard b s) = record { port = λ h. h; none_echo = λ h. h; proposal = λ h. h; echoed = λ w h. h; second = λ h. h; told = λ h. h }
stays_later l m (entry k x out h) = record { port = λ h. h; none_echo = λ h. h; proposal = λ h. h; echoed = λ w h. h; second = λ h. h; told = λ h. h }

-- ---- a rule makes only what it can still make, and makes it no more

-- the message of the effect was not spent before the rule, and is so after it
abbrev pub Spends : Context → Level → Level → Effect → Type 0
Spends c l m e = (b : Body) → Makes e b → (Spent c.next_entered l b → ⊥) × Spent (enters e || c.next_entered) m b

module _ (c : Context) (l : Level) (limits : InLimits c l) (port : c.port ≤ c.degree) (echoes : length l.echoed ≡ value_count) where
  -- by the one message of the effect
  spends_send : (m : Level) (x : Body) → (Spent c.next_entered l x → ⊥) → Spent c.next_entered m x → Spends c l m (Send x)
  spends_send m x new done b e = subst (λ (y : Body). (Spent c.next_entered l y → ⊥) × Spent c.next_entered m y) e (new, done)

  spends_enter : (m : Level) (k : ℕ) → T (not c.next_entered) → Spends c l m (SendEnter k)
  spends_enter m k new b e = subst (λ (y : Body). (Spent c.next_entered l y → ⊥) × Spent true m y) e (T_not c.next_entered new, tt)

  -- a second echo
  spends_echo : (w : ℕ) → w ≤ none_value → T (not (get_or l.echoed w false)) → Spends c l (with_second_echo l w) (Send (SecondEcho w))
  spends_echo w k new =
      spends_send (with_second_echo l w) (SecondEcho w) (T_not (get_or l.echoed w false) new)
      (subst T (sym (get_or-set_same l.echoed w true false (omega arith))) tt)

  pub move_spends : (m : Level) (e : Effect) → Move c l m e → Spends c l m e
  move_spends m e (port_echo p) =
      let d : c.port ≡ none_value → ⊥ = λ i. omega (arith, limits.degree) in
      spends_send m (FirstEcho c.port) (λ h. T_not l.echoed_port p (h.1 d)) ((λ i. absurd (d i)), (λ _. tt))
  move_spends m e (none_echo p q) = spends_send m (FirstEcho none_value) (λ h. T_not l.echoed_none p (h.0 refl)) ((λ _. tt), (λ d. absurd (d refl)))
  move_spends m e (first_proposal_lem v p k q) = spends_send m (FirstProposal v) (λ h. h p) (λ i. omega (arith, limits.degree))
  move_spends m e (first_value v p k q) = λ b x. absurd x
  move_spends m e (first_none p q) = λ b x. absurd x
  move_spends m e (own_echo p q) = spends_echo l.first (omega (arith, limits.first, p)) q
  move_spends m e (relay w p k q r) = spends_echo w (candidate_small c w (omega (arith, limits.degree)) k) r
  move_spends m e (second_proposal_lem w p r k q) =
      let s : w ≤ none_value = candidate_small c w (omega (arith, limits.degree)) k in
      spends_send m (SecondProposal w) (λ h. h r) (λ i. omega arith)
  move_spends m e (sure_result v p r k q) = λ b x. absurd x
  move_spends m e (none_result p r q) = λ b x. absurd x
  move_spends m e (unsure_result v p r k q q') = λ b x. absurd x
  move_spends m e (centre_output r o) = λ b x. absurd x
  move_spends m e (sure_entry r n s) = λ b x. absurd x
  move_spends m e (unsure_entry r n s) = spends_enter m l.result n
  move_spends m e (centre_message r t) = spends_send m Centre (T_not l.told_centre t) tt
  move_spends m e (sided_entry k r n a b q) = λ b' x. absurd x
  move_spends m e (told_output q o) = λ b x. absurd x
  move_spends m e (next_output_lem r o x) = λ b y. absurd y
