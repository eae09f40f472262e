-- The position and the results of an entered level, and the last level that sends with it.
use mathlib.Core.Path.{◌≡◌, refl, sym, ap, ◌∙◌, subst}
use mathlib.Core.Bool.{Bool, true, false}
use mathlib.Core.List.{List}
use Prim.Native.Nat.{ℕ, ◌+◌, ◌≤◌, ◌<◌}
use native.Mathlib.Numerals.{add-one}
use native.Mathlib.Omega.{arith}
use borrow.Author.Tests.{le-leb, lt-leb}
use Rattle.base.specs.Sets.{Set}
use Rattle.plan.specs.Plan.{Plan}
use Rattle.component.specs.declared.Component.{Component}
use Rattle.component.specs.declared.Survey.{Survey}
use Rattle.component.specs.Component.{size_of, degree_of}
use Rattle.component.specs.Inner.{members, Holds, Surveys, survey_of}
use Rattle.level.specs.declared.Level as Code
use Rattle.party_fields.specs.Inner.{is_unresolved, values_fit, entry_fits}
use Rattle.party.specs.declared.Chart.{Chart}
use Rattle.party.specs.Inner.{Sends, Keeps}
use lib.ListN.{set}
use Rattle.party_inspect.specs.Inner.{results_fit, part_fits, part_of, survey_before, entered_fits, Settles}

-- ---- a level that sends

module _ (p : Plan) (S : Set) (x : ℕ) (c : Component) (r : Survey) (f : Surveys p S x c r) where
  pub sends_passes : (l : Code.Level) (b : Bool) → b ≡ values_fit r.degree l → b ≡ values_fit (degree_of p S) l
  unfolding survey_of
  sends_passes l b h = h ∙ ap (λ (y : Survey). values_fit y.degree l) f.is

  pub sends_part : (i : ℕ) (d : Chart) → Sends p S x i d (record { sending = i + 1; surveys = set d.surveys i r; deepest = c })
  sends_part i d = record { sending = refl; surveys = ap (set d.surveys i) f.is; deepest = f.same; numbers = f.numbers }

-- ---- the position and the results

module _ (p : Plan) (S : Set) (l : Code.Level) (i : ℕ) (d : Chart) where
  -- the position lies elsewhere
  pub part_elsewhere : (b : Bool) → b ≡ S l.position → b ≡ false → Settles p (part_fits p S l) S l.position i d false d
  unfolding part_fits
  part_elsewhere b h f = record {
    passes = rw (← h, f);
    small = λ t. absurd t;
    large = λ t. absurd t;
  }

  module _ (b : Bool) (h : b ≡ S l.position) (f : b ≡ true) where
    in_part : part_fits p S l ≡ results_fit p S l
    unfolding part_fits
    in_part = rw (← h, f)

    -- a level of one or two positions
    pub part_small : (u : Bool) → size_of p S < 3 → u ≡ is_unresolved l → Settles p (part_fits p S l) S l.position i d u d
    unfolding results_fit
    part_small u k e = record {
      passes = e ∙ sym (in_part ∙ rw (lt-leb 3 (size_of p S) k));
      small = λ t q. record { sending = refl; surveys = refl };
      large = λ t q. absurd (omega arith);
    }

    -- a level of three or more
    pub part_large : (r : Bool) (after : Chart) → 3 ≤ size_of p S → r ≡ values_fit (degree_of p S) l → Sends p S l.position i d after
        → Settles p (part_fits p S l) S l.position i d r after
    unfolding results_fit
    part_large r after k e s = record {
      passes = e ∙ sym (in_part ∙ rw (le-leb 3 (size_of p S) k));
      small = λ t q. absurd (omega arith);
      large = λ t q. s;
    }

-- ---- the entry, and the rest

module _ (p : Plan) (d : Chart) (i : ℕ) (l : Code.Level) (b : Bool) (h : b ≡ entry_fits d.sending (survey_before d i).degree i l.side) where
  abbrev part : Set
  part = part_of p d.deepest i l.side

  pub entered_not : (after : Chart) → b ≡ false → Settles p (entered_fits p d i l) part l.position i d false after
  unfolding entered_fits
  entered_not after f = record {
    passes = rw (← h, f);
    small = λ t. absurd t;
    large = λ t. absurd t;
  }

  pub entered_part : (c : Component) (r : Bool) (after : Chart) → b ≡ true → Holds p c part
      → Settles p (part_fits p (members p c) l) (members p c) l.position i (record { sending = d.sending; surveys = d.surveys; deepest = c }) r after
      → Settles p (entered_fits p d i l) part l.position i d r after
  unfolding entered_fits
  entered_part c r after f o z =
      let y : Settles p (part_fits p part l) part l.position i (record { sending = d.sending; surveys = d.surveys; deepest = c }) r after =
      subst (λ (M : Set). Settles p (part_fits p M l) M l.position i (record { sending = d.sending; surveys = d.surveys; deepest = c }) r after) o.is z in
      record {
        passes = y.passes ∙ rw (← h, f);
        small = λ t q. let s = y.small t q in record { sending = s.sending; surveys = s.surveys };
        large = λ t q. let s = y.large t q in record { sending = s.sending; surveys = s.surveys; deepest = s.deepest; numbers = s.numbers };
      }
