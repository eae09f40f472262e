-- What the laws of executions ask of a machine.
use mathlib.Core.Path.{◌≡◌}
use mathlib.Core.Logic.{◌⊎◌}
use Prim.Native.Nat.{ℕ}
use Rattle.execution.specs.Machine.{Event, start, take, Machine}

pub record Lawful (M : Machine) : Type 1 where
  -- an invariant of one board, whatever it takes
  pub Inv : M.State → Type 0
  pub inv_initial : (i : ℕ) → Inv (M.initial i)
  pub inv_run : (s : M.State) (e : Event M.Msg M.Input) → Inv s → Inv (M.run s e)
  -- an order in which a run only rises; what was made stays made
  pub Le : M.State → M.State → Type 0
  pub le_refl : (s : M.State) → Le s s
  pub le_trans : (a b c : M.State) → Le a b → Le b c → Le a c
  pub le_run : (s : M.State) (e : Event M.Msg M.Input) → Inv s → Le s (M.run s e)
  pub le_sent : (a b : M.State) → Le a b → (m : M.Msg) → M.Sent a m → M.Sent b m
  -- only what was taken is heard
  pub heard_initial : (a i : ℕ) (m : M.Msg) → M.Heard (M.initial a) i m → ⊥
  pub heard_start : (s : M.State) (x : M.Input) (i : ℕ) (m : M.Msg) → M.Heard (M.run s (start x)) i m → M.Heard s i m
  pub heard_take : (s : M.State) (j : ℕ) (k : M.Msg) (i : ℕ) (m : M.Msg) → M.Heard (M.run s (take j k)) i m → M.Heard s i m ⊎ ((j ≡ i) × (k ≡ m))
