-- Laws of executions, for histories with cuts: by the execution without cuts that each amounts to.
use mathlib.Core.Path.{sym, subst}
use mathlib.Core.List.{List}
use Prim.Native.Nat.{ℕ}
use Rattle.base.specs.Sets.{Set, Sound}
use Rattle.execution.specs.Machine.{Machine}
use Rattle.execution.specs.History.{HStep, log, after}
use Rattle.execution.specs.Inner.{ValidH}
use Rattle.execution.proofs.Lawful.{Lawful}
use Rattle.execution.proofs.Executions.{authentic, causal}
use Rattle.execution.proofs.Uncut.{uncut}
-- every state that a log gives meets the invariant; what held when it was seen and is kept still holds
pub use Rattle.execution.proofs.Logs.{inv_after, inv_still, handed_sent}

module _ (M : Machine) (W : Lawful M) where
  module _ (n : ℕ) (bad : Set) (h : List (HStep M)) (v : ValidH M n bad h) where
    -- what any board heard of a sound one, the sound one made
    pub authentic_log : (i j : ℕ) (m : M.Msg) → Sound n bad j → M.Heard (after M i (log M i h)) j m → M.Sent (after M j (log M j h)) m
    authentic_log i j m g p =
        let u = uncut M W n bad h v in
        subst (λ s. M.Sent s m) (u.2 j) (authentic M W n bad u.0 u.1 i j m g (subst (λ s. M.Heard s j m) (sym (u.2 i)) p))

    -- induction along causes
    pub causal_log : (Good : ℕ → M.Msg → Type 0)
        → ((i : ℕ) (s : M.State) → Sound n bad i → W.Inv s → W.Le s (after M i (log M i h))
        → ((j : ℕ) (m : M.Msg) → Sound n bad j → M.Heard s j m → Good j m)
        → (m : M.Msg) → M.Sent s m → Good i m)
        → (i : ℕ) → Sound n bad i → (m : M.Msg) → M.Sent (after M i (log M i h)) m → Good i m
    causal_log Good each i g m p =
        let u = uncut M W n bad h v in
        causal M W n bad u.0 u.1 Good (λ a s ga va l. each a s ga va (subst (W.Le s) (u.2 a) l)) i g m (subst (λ s. M.Sent s m) (sym (u.2 i)) p)
