-- `party_step::enter` meets its contract.
use mathlib.Core.Path.{refl, subst}
use Prim.Native.Nat.{ℕ, ◌≤◌, ◌<◌}
use Rattle.party_step.proofs.Entries.{small_enters, large_enters}
use Rattle.party_step.proofs.enter.Goals as goal

pub size-requires : goal.size-requires
size-requires c = let s = c in (s.requires.0.of, s.requires.0.flat)

pub returns-then-size-lt3 : goal.returns-then-size-lt3
returns-then-size-lt3 c = small_enters _ _ _ _ _ _ _ _ (subst (λ (n : ℕ). n < 3) c.size.ensures c.if-size-lt3.true) (λ sets. refl)

pub survey_at-s-requires : goal.survey_at-s-requires
survey_at-s-requires c =
    let e = c in
    (e.requires.0, subst (λ (n : ℕ). 3 ≤ n) e.size.ensures e.if-size-lt3.false)

pub returns : goal.returns
returns c =
    let e = c in
    large_enters _ _ _ _ _ _ _ _ _ _ (subst (λ (n : ℕ). 3 ≤ n) e.size.ensures e.if-size-lt3.false) (λ sets. refl) c.survey_at-s.ensures
