-- The search for the lowest level at which some rule applies: what is known of the levels below, and that a rule there opens none but its neighbours.
use mathlib.Core.Path.{◌≡◌, sym, ap, ◌∙◌, subst}
use mathlib.Core.Bool.{Bool, true, false, ◌&&◌}
use mathlib.Core.List.{List}
use Prim.Native.Nat.{ℕ, ◌+◌, ◌-◌, ◌≤◌, ◌<◌}
use native.Mathlib.Decide.{ℕ_discrete}
use native.Mathlib.Omega.{arith}
use lib.Dec.{T, leb}
use lib.ListN.{get_or}
use Rattle.base.specs.Limits.{level_count}
use Rattle.base.proofs.Bools.{T→true, true→T, false→not-T}
use Rattle.base.proofs.Smallest.{smallest_is}
use Rattle.component.specs.declared.Survey.{Survey}
use Rattle.component.specs.Component.{size_of, centre_of, degree_of, port_of}
use Rattle.component.specs.Inner.{survey_of}
use Rattle.level.specs.declared.Context.{Context}
use Rattle.level.specs.Inner.{InLimits}
use Rattle.level.specs.Rules.{Applied, lowest_rule, applies}
use Rattle.party.specs.declared.Chart.{Chart}
use Rattle.party.specs.Party.{Party, level_at, with_level, component_of, sending, context_of}
use Rattle.party.specs.Run.{rule_at, open_at, open_level, step_at}
use Rattle.party.specs.Inner.{Charts, no_survey}
use Rattle.party_laws.proofs.Laws.{Formed, SameBoard, sending_level, open_sending, board_with, board_entering, level_other, component_above, entry_other, entry_above, Step, changes, enters, open_step}
use Rattle.party_bounds.proofs.Laws.{levels_quiescent}
use Rattle.party_step.specs.Inner.{seen}
use Rattle.party_step.proofs.Charts.{charted_sends, sends_charted}

-- no rule applies below i
abbrev pub Closed : Party → ℕ → Type 0
Closed p i = (j : ℕ) → j < i → T (open_at p j) → ⊥

pub closed_start : (p : Party) → Closed p 0
closed_start p j l o = omega arith

-- ---- at level i

module _ (p : Party) (c : Chart) (w : Formed p) (h : Charts p c) where
  -- no level from c.sending on sends
  pub closed_end : (i : ℕ) → Closed p i → c.sending ≤ i → open_level p ≡ level_count
  closed_end i n l = levels_quiescent p (λ j o.
      let s = open_sending p j o in
      let k : j < c.sending = sends_charted p c h j (omega (arith, (sending_level p w j s).next)) s in
      n j (omega arith) o)

  module _ (i : ℕ) (l : i < c.sending) where
    below : i < level_count
    below = omega (arith, h.last)

    sends : T (sending p i)
    sends = charted_sends p c h i below l

    -- the rules at level i see what the survey and the next level tell
    module _ (x : Context) (e : x ≡ seen p.n p.t (get_or c.surveys i no_survey) (level_at p (i + 1)).entered (level_at p (i + 1)).output) where
      seen_context : x ≡ context_of p i
      unfolding context_of survey_of
      seen_context = e ∙ ap (λ (s : Survey). seen p.n p.t s (level_at p (i + 1)).entered (level_at p (i + 1)).output) (h.surveys i l)

      pub rule_limits : InLimits x (level_at p i)
      rule_limits = subst (λ (y : Context). InLimits y (level_at p i)) (sym seen_context) (sending_level p w i sends).limits

      pub rule_found : lowest_rule x (level_at p i) ≡ rule_at p i
      unfolding rule_at
      rule_found = ap (λ (y : Context). lowest_rule y (level_at p i)) seen_context

    -- some rule applies there, or not
    module _ (a : Applied) (e : a ≡ rule_at p i) (b : Bool) (f : b ≡ applies a.effect) where
      here : open_at p i ≡ b
      unfolding open_at
      here =
          ap (λ (y : Bool). y && applies (rule_at p i).effect) (T→true (sending p i) sends)
          ∙ ap (λ (y : Applied). applies y.effect) (sym e) ∙ sym f

      pub open_here : b ≡ true → T (open_at p i)
      open_here t = true→T (here ∙ t)

      pub closed_next : Closed p i → b ≡ false → Closed p (i + 1)
      closed_next n t j k o = go (ℕ_discrete j i)
        where
          go : Dec (j ≡ i) → ⊥
          go (yes q) = false→not-T (here ∙ t) (subst (λ (z : ℕ). T (open_at p z)) q o)
          go (no d) = n j (omega arith) o

-- the level that is chosen
pub closed_open : (p : Party) (i : ℕ) → i < level_count → Closed p i → T (open_at p i) → open_level p ≡ i
unfolding open_level
closed_open p i l n o = smallest_is level_count (open_at p) i l o n

-- ---- after a rule at level i

-- a level's rule sees its own record, its component, and of the next level whether it is entered and its output
open_same : (p q : Party) (j : ℕ) → SameBoard p q → component_of q j ≡ component_of p j → level_at q j ≡ level_at p j → level_at q (j + 1) ≡ level_at p (j + 1)
    → open_at q j ≡ open_at p j
unfolding open_at rule_at context_of sending
open_same p q j b c l m z =
    ((l z).entered && leb 3 (size_of (b.plan z) (c z)))
    && applies (lowest_rule (record {
      n = b.n z;
      t = b.t z;
      degree = degree_of (b.plan z) (c z);
      port = port_of (b.plan z) (c z) (l z).position;
      centre = centre_of (b.plan z) (c z);
      next_entered = (m z).entered;
      next_output = (m z).output;
    }) (l z)).effect

step_same : (p : Party) (i : ℕ) (q : Party) → Step p i q → (j : ℕ) → j + 1 < i → open_at q j ≡ open_at p j
step_same p i q (changes m e x) j l =
    open_same p (with_level p i m) j (board_with p i m) (component_above p i m j (omega arith)) (level_other p i m j (λ e. omega arith))
    (level_other p i m (j + 1) (λ e. omega arith))
step_same p i q (enters k x new) j l =
    open_same p _ j (board_entering p (i + 1) _ k x) (entry_above p (i + 1) _ k x j (omega arith)) (entry_other p (i + 1) _ k x j (λ e. omega arith))
    (entry_other p (i + 1) _ k x (j + 1) (λ e. omega arith))

-- no rule applies below the level before
pub closed_back : (p : Party) (i : ℕ) → T (open_at p i) → Closed p i → Closed (step_at p i) (i - 1)
closed_back p i o n j l t = n j (omega arith) (subst T (step_same p i (step_at p i) (open_step p i o) j (omega arith)) t)
