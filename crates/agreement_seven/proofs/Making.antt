-- Different messages that a board's calls made after a script, by tests in one run of it.
use mathlib.Core.Path.{◌≡◌, refl, sym, ap, ◌∙◌, subst}
use mathlib.Core.Logic.{◌⊎◌, inl, inr}
use mathlib.Core.Bool.{Bool, true, false, not, ◌&&◌, ◌||◌}
use mathlib.Core.List.Memᴰ
use mathlib.Core.List.{List, [], ◌∷◌, Memᴰ}
use Prim.Native.Nat.{ℕ}
use lib.Dec.{T, eqb, eqb→eq, eqb_refl, T_not}
use Rattle.base.specs.Sets.{Set}
use Rattle.base.proofs.Bools.{T_and, T-left, T-right, T→true, true→T, or_left, or_right}
use Rattle.message.specs.declared.Message.{Message}
use Rattle.message.specs.Message.{kind_of}
use Rattle.message.specs.Format.{value_of}
use Rattle.base.specs.Distinct.{Distinct}
use Rattle.agreement.specs.History.{Instance, Counted, Board}
use Rattle.agreement.specs.Demand.{Made}
use Rattle.agreement_histories.specs.Scripts.{Action, history_of}
use Rattle.agreement_histories.proofs.Worlds.{World, board_of, beginning, acted, world_after, same, among, fits, all_fit}
use Rattle.agreement_histories.proofs.Tests.{among→}
use Rattle.agreement_histories.proofs.Passing.{passes, ending, shown}
use Rattle.agreement_histories.proofs.Delivery.{all_made}
use Rattle.agreement_messages.specs.Statement.{Different}
use Rattle.agreement_seven.specs.Seven.{AtLevel}

-- ---- the tests of a list of messages

-- no message twice
unfoldable pub all_differ : List Message → Bool
all_differ [] = true
all_differ (m ∷ ms) = not (among m ms) && all_differ ms

-- all of level L
unfoldable pub all_at : ℕ → List Message → Bool
all_at L [] = true
all_at L (m ∷ ms) = eqb m.level L && all_at L ms

-- all among others
unfoldable pub all_among : List Message → List Message → Bool
all_among [] l = true
all_among (m ∷ ms) l = among m l && all_among ms l

-- ---- what they tell

same_refl : (m : Message) → T (same m m)
same_refl m =
    T_and (eqb m.number m.number && eqb m.level m.level) (eqb (kind_of m.body) (kind_of m.body) && eqb (value_of m.body) (value_of m.body))
    (T_and (eqb m.number m.number) (eqb m.level m.level) (eqb_refl m.number) (eqb_refl m.level))
    (T_and (eqb (kind_of m.body) (kind_of m.body)) (eqb (value_of m.body) (value_of m.body)) (eqb_refl (kind_of m.body)) (eqb_refl (value_of m.body)))

→among : (m : Message) (l : List Message) → Memᴰ m l → T (among m l)
unfolding among
→among m [] h = absurd (Memᴰ.not-nil h)
→among m (x ∷ l) h = go (→among m l) (Memᴰ.cases_cons h)
  where
    go : (Memᴰ m l → T (among m l)) → (m ≡ x) ⊎ Memᴰ m l → T (same m x || among m l)
    go below (inl e) = or_left (same m x) (among m l) (subst (λ (y : Message). T (same m y)) e (same_refl m))
    go below (inr r) = or_right (same m x) (among m l) (below r)

pub distinct : (ms : List Message) → T (all_differ ms) → Distinct ms
unfolding all_differ
distinct [] h = tt
distinct (m ∷ ms) h =
    (λ k. T_not (among m ms) (T-left (not (among m ms)) (all_differ ms) h) (→among m ms k), distinct ms (T-right (not (among m ms)) (all_differ ms) h))

pub at_level : (L : ℕ) (ms : List Message) → T (all_at L ms) → AtLevel L ms
unfolding all_at
at_level L [] h m k = absurd (Memᴰ.not-nil k)
at_level L (x ∷ ms) h m k = go (at_level L ms (T-right (eqb x.level L) (all_at L ms) h) m) (Memᴰ.cases_cons k)
  where
    go : (Memᴰ m ms → m.level ≡ L) → (m ≡ x) ⊎ Memᴰ m ms → m.level ≡ L
    go below (inl e) = ap (λ (y : Message). y.level) e ∙ eqb→eq x.level L (T-left (eqb x.level L) (all_at L ms) h)
    go below (inr r) = below r

pub all_among_lem : (ms l : List Message) → T (all_among ms l) → (m : Message) → Memᴰ m ms → Memᴰ m l
unfolding all_among
all_among_lem [] l h m k = absurd (Memᴰ.not-nil k)
all_among_lem (x ∷ ms) l h m k = go (all_among_lem ms l (T-right (among x l) (all_among ms l) h) m) (Memᴰ.cases_cons k)
  where
    go : (Memᴰ m ms → Memᴰ m l) → (m ≡ x) ⊎ Memᴰ m ms → Memᴰ m l
    go below (inl e) = Memᴰ.cast e (among→ x l (T-left (among x l) (all_among ms l) h))
    go below (inr r) = below r

-- some call made m
abbrev MadeIn : List Counted → Message → Type 0
MadeIn cs m = (c : Counted) × Memᴰ c cs × Memᴰ m c.made

made_in : (cs : List Counted) (m : Message) → Memᴰ m (all_made cs) → MadeIn cs m
unfolding all_made
made_in [] m h = absurd (Memᴰ.not-nil h)
made_in (c ∷ cs) m h = go (made_in cs m) (Memᴰ.append_cases c.made h)
  where
    go : (Memᴰ m (all_made cs) → MadeIn cs m) → Memᴰ m c.made ⊎ Memᴰ m (all_made cs) → MadeIn (c ∷ cs) m
    go below (inl k) = (c, Memᴰ.head refl, k)
    go below (inr k) = let x = below k in (x.0, Memᴰ.tail x.1, x.2)

-- ---- a script that is lawful, and whose calls of board i make the messages

unfoldable pub making : Instance → Set → ℕ → List Message → World → List Action → Bool
making v bad i ms w [] = all_among ms (all_made (board_of w i).counted)
making v bad i ms w (a ∷ rest) = fits v bad w a && making v bad i ms (acted v w a) rest

and_and : (a b c : Bool) → a && (b && c) ≡ (a && b) && c
and_and true b c = refl
and_and false b c = refl

-- the run gives what the tests give one by one
making_tests : (v : Instance) (bad : Set) (i : ℕ) (ms : List Message) (w : World) (script : List Action)
    → making v bad i ms w script ≡ all_fit v bad w script && all_among ms (all_made (board_of (world_after v w script) i).counted)
unfolding making all_fit world_after
making_tests v bad i ms w [] = refl
making_tests v bad i ms w (a ∷ rest) =
    ap (λ (b : Bool). fits v bad w a && b) (making_tests v bad i ms (acted v w a) rest)
    ∙ and_and (fits v bad w a) (all_fit v bad (acted v w a) rest) (all_among ms (all_made (board_of (world_after v (acted v w a) rest) i).counted))

-- from boards not yet set up
abbrev pub Makes : Instance → Set → List Action → ℕ → List Message → Type 0
Makes v bad script i ms = making v bad i ms (beginning v) script ≡ true

module _ (v : Instance) (bad : Set) (script : List Action) (i : ℕ) (ms : List Message) (f : Makes v bad script i ms) where
  abbrev there : Bool
  there = all_among ms (all_made (board_of (ending v script) i).counted)

  both : T (passes v bad script && there)
  both = true→T (sym (making_tests v bad i ms (beginning v) script) ∙ f)

  pub passing : passes v bad script ≡ true
  passing = T→true (passes v bad script) (T-left (passes v bad script) there both)

  made : (m : Message) → Memᴰ m ms → Made (history_of v script) i m
  made m k =
      subst (λ (b : Board). MadeIn b.counted m) ((shown v bad script passing).board i)
      (made_in (board_of (ending v script) i).counted m (all_among_lem ms (all_made (board_of (ending v script) i).counted) (T-right (passes v bad script) there both) m k))

  pub different : all_differ ms ≡ true → Different (history_of v script) i ms
  different e = record { once = distinct ms (true→T e); made = made }
