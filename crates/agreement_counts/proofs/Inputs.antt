-- What the boards of a script started with, by the run of the script.
use mathlib.Core.Path.{◌≡◌, refl, sym, ap, ◌∙◌, subst}
use mathlib.Core.Logic.{◌⊎◌, inl, inr}
use mathlib.Core.Bool.{true}
use mathlib.Core.List.Memᴰ
use mathlib.Core.List.{List, [], ◌∷◌, Memᴰ}
use Prim.Native.Nat.{ℕ}
use lib.IntN.{ℤ}
use Rattle.base.specs.Sets.{Set}
use Rattle.agreement.specs.History.{Instance, StartInput, read_as_count, Act, a_start, a_take, Counted, Board, board_after}
use Rattle.agreement.specs.Demand.{StartedBy, party_by}
use Rattle.agreement_histories.specs.Scripts.{Action, history_of}
use Rattle.agreement_histories.proofs.Worlds.{World, board_of}
use Rattle.agreement_histories.proofs.Passing.{ending, passes, shown}
use Rattle.agreement_counts.specs.Demand.{count_now}
use Rattle.board_calls.specs.Answers.{Answer}

abbrev input_of : Act → List StartInput → List StartInput
input_of (a_start x input) l = input ∷ l
input_of (a_take s e) l = l

-- the inputs of the starts among some calls
unfoldable pub inputs_in : List Counted → List StartInput
inputs_in [] = []
inputs_in (c ∷ cs) = input_of c.act (inputs_in cs)

in_inputs : (x : ℕ) (input : StartInput) (c : Counted) (cs : List Counted) → Memᴰ c cs → c.act ≡ a_start x input → Memᴰ input (inputs_in cs)
unfolding inputs_in
in_inputs x input c [] m e = absurd (Memᴰ.not-nil m)
in_inputs x input c (d ∷ cs) m e = go (in_inputs x input c cs) (Memᴰ.cases_cons m)
  where
    later : (a : Act) → Memᴰ input (inputs_in cs) → Memᴰ input (input_of a (inputs_in cs))
    later (a_start y w) n = Memᴰ.tail n
    later (a_take s r) n = n

    go : (Memᴰ c cs → c.act ≡ a_start x input → Memᴰ input (inputs_in cs)) → (c ≡ d) ⊎ Memᴰ c cs → Memᴰ input (input_of d.act (inputs_in cs))
    go below (inl i) = subst (λ (a : Act). Memᴰ input (input_of a (inputs_in cs))) (sym e ∙ ap (λ (y : Counted). y.act) i) (Memᴰ.head refl)
    go below (inr n) = later d.act (below n e)

-- a start with this input is among the calls
abbrev HasInput : StartInput → List Counted → Type 0
HasInput input cs = (x : ℕ) × (c : Counted) × Memᴰ c cs × (c.act ≡ a_start x input)

inputs_in_lem : (input : StartInput) (cs : List Counted) → Memᴰ input (inputs_in cs) → HasInput input cs
unfolding inputs_in
inputs_in_lem input [] m = absurd (Memᴰ.not-nil m)
inputs_in_lem input (c ∷ cs) m = go (inputs_in_lem input cs) c.act refl m
  where
    later : HasInput input cs → HasInput input (c ∷ cs)
    later k = (k.0, k.1, Memᴰ.tail k.2, k.3)

    first : (Memᴰ input (inputs_in cs) → HasInput input cs) → (x : ℕ) (w : StartInput) → c.act ≡ a_start x w → (input ≡ w) ⊎ Memᴰ input (inputs_in cs)
        → HasInput input (c ∷ cs)
    first below x w e (inl i) = (x, c, Memᴰ.head refl, e ∙ ap (a_start x) (sym i))
    first below x w e (inr n) = later (below n)

    go : (Memᴰ input (inputs_in cs) → HasInput input cs) → (a : Act) → c.act ≡ a → Memᴰ input (input_of a (inputs_in cs)) → HasInput input (c ∷ cs)
    go below (a_start x w) e n = first below x w e (Memᴰ.cases_cons n)
    go below (a_take s r) e n = later (below n)

-- the count answer of a board, as the run shows it
abbrev pub count_in : Instance → World → ℕ → ℕ → ℤ → Answer
count_in v w i g c = (read_as_count (party_by v i (board_of w i) (board_of w i).stage) g c).answer

module _ (v : Instance) (bad : Set) (script : List Action) (f : passes v bad script ≡ true) (i : ℕ) where
  -- board i started with this input, and with no other
  module _ (input : StartInput) (e : inputs_in (board_of (ending v script) i).counted ≡ input ∷ []) where
    same_inputs : inputs_in (board_after (history_of v script) i).counted ≡ input ∷ []
    same_inputs = ap (λ (b : Board). inputs_in b.counted) (sym ((shown v bad script f).board i)) ∙ e

    pub started_by_lem : (x : ℕ) × StartedBy (history_of v script) i x input
    started_by_lem =
        let k = inputs_in_lem input (board_after (history_of v script) i).counted (subst (λ (l : List StartInput). Memᴰ input l) (sym same_inputs) (Memᴰ.head refl)) in
        (k.0, (k.1, k.2, k.3))

    pub only_by : (x : ℕ) (other : StartInput) → StartedBy (history_of v script) i x other → other ≡ input
    only_by x other (c, m, k) =
        Memᴰ.eq_of_singleton (subst (λ (l : List StartInput). Memᴰ other l) same_inputs (in_inputs x other c (board_after (history_of v script) i).counted m k))

  pub count_now_lem : (g : ℕ) (c : ℤ) → count_now v (history_of v script) i g c ≡ count_in v (ending v script) i g c
  count_now_lem g c = ap (λ (b : Board). (read_as_count (party_by v i b b.stage) g c).answer) (sym ((shown v bad script f).board i))
