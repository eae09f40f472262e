-- Of two rules the first that applies.
use mathlib.Core.Path.{◌≡◌, refl, sym}
use mathlib.Core.Bool.{true}
use mathlib.Core.List.{List}
use Prim.Native.Nat.{ℕ}
use Rattle.std.specs.Prelude.{Some, None}
use Rattle.level.specs.Rules.{Applied, applies, or_else}
use Rattle.level.specs.Tie.{as_effect, as_applied}
use Rattle.level.specs.declared.Level as CodeLevel
use Rattle.level.specs.declared.Applied as CodeApplied
use Rattle.level.specs.declared.Effect as CodeEffect
use Rattle.level.specs.declared.Effect.TheVariants.{Quiet, Send, Enter, SendEnter}

-- a rule that gives something applies
pub given : (e : CodeEffect.Effect) → applies (as_effect e) ≡ true
given Quiet = refl
given (Send b) = refl
given (Enter k keep) = refl
given (SendEnter k) = refl

module _ (s : List ℕ) (l : CodeLevel.Level) where
  pub taken : (r : CodeApplied.Applied) (a b : Applied) → as_applied s l (Some r) ≡ a → or_else a b ≡ a
  taken r a b e = rw (sym e, given r.effect)

  pub passed : (a b : Applied) → as_applied s l None ≡ a → or_else a b ≡ b
  passed a b e = rw (sym e)
