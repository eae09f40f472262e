-- A level entered over a component: what is found there, with three or more positions and with fewer.
use mathlib.Core.Path.{◌≡◌, refl, sym, ap, ◌∙◌, subst}
use mathlib.Core.Bool.{Bool, true, false}
use mathlib.Core.List.{List}
use Prim.Native.Nat.{ℕ, ◌+◌, ◌≤◌, ◌<◌}
use native.Mathlib.Omega.{arith}
use lib.Dec.{T, leb}
use lib.ListN.{set}
use borrow.Author.Tests.{le-leb, lt-leb}
use Rattle.base.specs.Pick.{pick}
use Rattle.base.specs.Sets.{Set}
use Rattle.plan.specs.Plan.{Plan}
use Rattle.component.specs.declared.Component.{Component}
use Rattle.component.specs.declared.Survey.{Survey}
use Rattle.component.specs.Component.{size_of}
use Rattle.component.specs.Inner.{members, Lent, OfPlan, Enterable, Surveys, Holds, survey_of}
use Rattle.level.specs.Level.{with_entry}
use Rattle.level.specs.declared.Level.{Level}
use Rattle.level.specs.Tie.{as_level}
use Rattle.party.specs.declared.Chart.{Chart}
use Rattle.party.specs.Inner.{Sends, Keeps}
use Rattle.party_step.specs.Inner.{Enters}

-- ---- a level entered

module _ (p : Plan) (S : Set) (old : Level) (k x i : ℕ) (m : Level) where
  by_size : (b : Bool) → leb 3 (size_of p S) ≡ b → ((sets : List ℕ) → as_level sets m ≡ with_entry (as_level sets old) k x (pick b old.output x))
      → (sets : List ℕ) → as_level sets m ≡ with_entry (as_level sets old) k x (pick (leb 3 (size_of p S)) old.output x)
  by_size b q h sets = h sets ∙ ap (λ (y : Bool). with_entry (as_level sets old) k x (pick y old.output x)) (sym q)

  -- over one or two positions
  pub small_enters : (c : Chart) → size_of p S < 3 → ((sets : List ℕ) → as_level sets m ≡ with_entry (as_level sets old) k x x) → Enters p S old k x i c m c
  small_enters c l h = record {
    level = by_size false (lt-leb 3 (size_of p S) l) h;
    small = λ _. record { sending = refl; surveys = refl };
    large = λ n. absurd (omega arith);
  }

  -- over three or more
  pub large_enters : (c : Chart) (d : Component) (s : Survey) → 3 ≤ size_of p S → ((sets : List ℕ) → as_level sets m ≡ with_entry (as_level sets old) k x old.output)
      → Surveys p S x d s → Enters p S old k x i c m (record { sending = i + 1; surveys = set c.surveys i s; deepest = d })
  large_enters c d s l h f = record {
    level = by_size true (le-leb 3 (size_of p S) l) h;
    small = λ n. absurd (omega arith);
    large = λ _. record { sending = refl; surveys = ap (set c.surveys i) f.is; deepest = f.same; numbers = f.numbers };
  }

-- ---- a set as it is kept

module _ (p : Plan) (c : Component) (S : Set) (h : Holds p c S) where
  pub holds_enterable : (x : ℕ) → OfPlan p S → T (S x) → Lent p → Enterable p c x
  holds_enterable x o t r = record {
    rows = r;
    of = subst (OfPlan p) (sym h.is) o;
    flat = h.flat;
    place = subst (λ (y : Set). T (y x)) (sym h.is) t;
  }

-- what is entered over the component that is kept is entered over S; before the side was put there the chart was another, with the same surveys
pub side_enters : (p : Plan) (S : Set) (old : Level) (k x i : ℕ) (c d : Chart) (m : Level) (after : Chart) → members p d.deepest ≡ S → Keeps c d
    → Enters p (members p d.deepest) old k x i d m after → Enters p S old k x i c m after
side_enters p S old k x i c d m after e q g =
    let h : Enters p S old k x i d m after = subst (λ (y : Set). Enters p y old k x i d m after) e g in
    record {
      level = h.level;
      small = λ l. record { sending = (h.small l).sending ∙ q.sending; surveys = (h.small l).surveys ∙ q.surveys };
      large = λ l.
          let f = h.large l in
          record { sending = f.sending; surveys = f.surveys ∙ ap (λ (l : List Survey). set l i (survey_of p S x)) q.surveys; deepest = f.deepest; numbers = f.numbers };
    }
