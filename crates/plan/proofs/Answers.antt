-- What a set-up answers, question by question.
use mathlib.Core.Path.{◌≡◌, refl, sym, ap, ◌∙◌}
use mathlib.Core.List.{List}
use mathlib.Core.Bool.{Bool, true, false, ◌&&◌}
use Prim.Native.Nat.{ℕ, ◌*◌, ◌≤◌, ◌<◌}
use lib.Dec.{T, leb, ltb}
use borrow.Author.Tests.{ne_eqb}
use Rattle.base.specs.Limits.{max_boards}
use Rattle.settings.specs.Settings.{settings_fault}
use Rattle.settings.proofs.Laws.{ask_all, fault_none}
use Rattle.base.specs.Found.{Found, found, refused, ask}
use Rattle.plan.specs.Plan.{Plan}
use Rattle.plan.specs.Reading.{plan_of, settled_plan, PlanRead, answered}

-- an answer, and what it is the answer of
pub answer : {x : PlanRead} {f g : Found Plan} → x ≡ answered g → f ≡ g → x ≡ answered f
answer e i = e ∙ ap answered (sym i)

pub answer_found : {x : PlanRead} {f : Found Plan} {p q : Plan} → x ≡ answered (found p) → p ≡ q → f ≡ found q → x ≡ answered f
answer_found e i j = e ∙ ap (λ (r : Plan). answered (found r)) i ∙ ap answered (sym j)

pub ask_no : {A : Type 0} (t : Bool) (number place : ℕ) (go : Found A) → (T t → ⊥) → ask t number place go ≡ refused number place
ask_no true number place go h = absurd (h tt)
ask_no false number place go h = refl

-- ---- settings

module _ (n t own : ℕ) (s : List ℕ) where
  -- settings that fail a question
  pub settle_refused : {number : ℕ} → number ≡ settings_fault n t own → (number ≡ 0 → ⊥) → settled_plan n t own s ≡ refused number 0
  unfolding settled_plan
  settle_refused e d = rw (← e, ne_eqb _ 0 d)

  -- settings that pass
  pub settle_passed : settings_fault n t own ≡ 0 → settled_plan n t own s ≡ plan_of s
  unfolding settled_plan
  settle_passed e = rw e

  pub settle_plan : 1 ≤ n → n ≤ max_boards → 3 * t < n → own < n → settled_plan n t own s ≡ plan_of s
  settle_plan a b h k = settle_passed (fault_none n t own a b h k)

  -- one question after the other
  pub settle_asked : settled_plan n t own s ≡ ask (leb 1 n && leb n max_boards) 1 0 (ask (ltb (3 * t) n) 2 0 (ask (ltb own n) 3 0 (plan_of s)))
  unfolding settled_plan
  settle_asked = ask_all (leb 1 n && leb n max_boards) (ltb (3 * t) n) (ltb own n) 0 (plan_of s)
