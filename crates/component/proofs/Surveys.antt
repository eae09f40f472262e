-- What numbering a component found, and its survey.
use mathlib.Core.Path.{◌≡◌, sym, ap, ◌∙◌, subst}
use mathlib.Core.List.{List}
use Prim.Native.Nat.{ℕ, ◌≤◌}
use lib.Dec.{T}
use Rattle.base.specs.Sets.{Set}
use Rattle.plan.specs.Plan.{Plan}
use Rattle.component.specs.declared.Component.{Component}
use Rattle.component.specs.declared.Centre.{Centre}
use Rattle.component.specs.Component.{size_of, port_of}
use Rattle.component.specs.Inner.{OfPlan, members, Surveyed, Finds, Surveys, survey_of}

module _ (p : Plan) (S : Set) (c : Component) (h : Centre) (f : Finds p S c h) where
  pub found_surveyed : OfPlan p S → 3 ≤ size_of p S → Surveyed p c
  found_surveyed o t = record {
    of = subst (OfPlan p) (sym f.same) o;
    three = subst (λ (y : Set). 3 ≤ size_of p y) (sym f.same) t;
    numbers = f.numbers;
  }

  pub found_place : (x : ℕ) → T (S x) → T (members p c x)
  found_place x t = subst (λ (y : Set). T (y x)) (sym f.same) t

  pub found_survey : (x port : ℕ) → port ≡ port_of p (members p c) x → Surveys p S x c (record { centre = h.centre; degree = h.degree; port = port })
  unfolding survey_of
  found_survey x port e =
      let q : port ≡ port_of p S x = e ∙ ap (λ (y : Set). port_of p y x) f.same in
      record { is = λ z. record { centre = f.centre z; degree = f.degree z; port = q z }; same = f.same; numbers = f.numbers }
