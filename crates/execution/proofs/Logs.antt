-- Laws of logs: what is held is never cut, and what was so at a mark or a handing over stays so.
use mathlib.Core.Path.{◌≡◌, refl, subst, subst₂}
use mathlib.Core.Logic.{◌⊎◌, inl, inr}
use mathlib.Core.List.{List, [], ◌∷◌, ◌++◌}
use mathlib.Core.Bool.{Bool, true, false}
use Prim.Native.Nat.{ℕ, zero, suc, ◌+◌, ◌-◌, ◌≤◌}
use native.Mathlib.Omega.{arith}
use lib.Dec.{T, eqb, eqb→eq, eqb_refl}
use lib.ListN.{length, drop, length-drop}
use lib.Seq.{drop-drop}
use Rattle.base.specs.Pick.{pick}
use Rattle.base.specs.Sets.{Set}
use Rattle.execution.specs.Machine.{Event, Machine}
use Rattle.execution.specs.History.{HStep, act, hand, mark, cut, log, held, after, Handed}
use Rattle.execution.specs.Inner.{Seen, ValidH}
use Rattle.execution.proofs.Lawful.{Lawful}

module _ (M : Machine) where
  abbrev Ev : Type 0
  Ev = Event M.Msg M.Input

  length_act : (b : Bool) (l : List Ev) (e : Ev) → length l ≤ length (pick b (e ∷ l) l)
  length_act true l e = omega arith
  length_act false l e = omega arith

  length_hold : (b : Bool) (x y : ℕ) → y ≤ x → pick b x y ≤ x
  length_hold true x y h = omega arith
  length_hold false x y h = h

  length_cut : (b : Bool) (x k : ℕ) (l : List Ev) → (T b → (x ≤ k) × (k ≤ length l)) → x ≤ length l → x ≤ length (pick b (drop (length l - k) l) l)
  length_cut true x k l f h = omega (arith, f tt, length-drop (length l - k) l)
  length_cut false x k l f h = h

  module _ (n : ℕ) (bad : Set) where
    -- the records held are in the log
    pub held_le : (h : List (HStep M)) → ValidH M n bad h → (j : ℕ) → held M j h ≤ length (log M j h)
    unfolding held log
    held_le [] v j = omega arith
    held_le (act i e ∷ h) v j = omega (arith, held_le h v.0 j, length_act (eqb i j) (log M j h) e)
    held_le (hand i m ∷ h) v j = length_hold (eqb i j) (length (log M j h)) (held M j h) (held_le h v.0 j)
    held_le (mark i ∷ h) v j = length_hold (eqb i j) (length (log M j h)) (held M j h) (held_le h v.0 j)
    held_le (cut i k ∷ h) v j =
        length_cut (eqb i j) (held M j h) k (log M j h)
        (λ b. subst (λ x. (held M x h ≤ k) × (k ≤ length (log M x h))) (eqb→eq i j b) v.1) (held_le h v.0 j)

  -- P holds of board j's state by the log l, and by each log that a cut may leave of it, where the oldest x records are held
  unfoldable pub Kept : ℕ → (M.State → Type 0) → ℕ → List Ev → Type 0
  Kept j P x l = (c : ℕ) → c + x ≤ length l → P (after M j (drop c l))

  module _ (P : M.State → Type 0) (rises : (s : M.State) (e : Ev) → P s → P (M.run s e)) where
    kept_act : (j : ℕ) (b : Bool) (x : ℕ) (l : List Ev) (e : Ev) → x ≤ length l → Kept j P x l → Kept j P x (pick b (e ∷ l) l)
    unfolding Kept after
    kept_act j true x l e g s zero q = rises (after M j l) e (s 0 (omega arith))
    kept_act j true x l e g s (suc c) q = s c (omega arith)
    kept_act j false x l e g s c q = s c q

    kept_hold : (j : ℕ) (b : Bool) (x : ℕ) (l : List Ev) → x ≤ length l → Kept j P x l → Kept j P (pick b (length l) x) l
    unfolding Kept
    kept_hold j true x l g s c q = s c (omega arith)
    kept_hold j false x l g s c q = s c q

    kept_cut : (j : ℕ) (b : Bool) (x k : ℕ) (l : List Ev) → (T b → k ≤ length l) → Kept j P x l → Kept j P x (pick b (drop (length l - k) l) l)
    unfolding Kept
    kept_cut j true x k l f s c q = rw drop-drop (s (length l - k + c) (omega (arith, f tt, length-drop (length l - k) l)))
    kept_cut j false x k l f s c q = s c q

    kept_now : (j : ℕ) (b : Bool) (x : ℕ) (l : List Ev) → T b → P (after M j l) → Kept j P (pick b (length l) x) l
    unfolding Kept
    kept_now j true x l t p zero q = p
    kept_now j true x l t p (suc c) q = absurd (omega arith)
    kept_now j false x l t p c q = absurd t

    module _ (n : ℕ) (bad : Set) where
      -- at a handing over or mark of board i
      kept_at : (i j : ℕ) (h : List (HStep M)) → ValidH M n bad h → ((i ≡ j) × P (after M j (log M j h))) ⊎ Seen M j P h
          → (Seen M j P h → Kept j P (held M j h) (log M j h)) → Kept j P (pick (eqb i j) (length (log M j h)) (held M j h)) (log M j h)
      kept_at i j h v (inl p) ih = kept_now j (eqb i j) (held M j h) (log M j h) (subst (λ x. T (eqb i x)) p.0 (eqb_refl i)) p.1
      kept_at i j h v (inr p) ih = kept_hold j (eqb i j) (held M j h) (log M j h) (held_le n bad h v j) (ih p)

      pub seen_kept : (h : List (HStep M)) → ValidH M n bad h → (j : ℕ) → Seen M j P h → Kept j P (held M j h) (log M j h)
      unfolding held log
      seen_kept [] v j p = absurd p
      seen_kept (act i e ∷ h) v j p = kept_act j (eqb i j) (held M j h) (log M j h) e (held_le n bad h v.0 j) (seen_kept h v.0 j p)
      seen_kept (hand i m ∷ h) v j p = kept_at i j h v.0 p (seen_kept h v.0 j)
      seen_kept (mark i ∷ h) v j p = kept_at i j h v.0 p (seen_kept h v.0 j)
      seen_kept (cut i k ∷ h) v j p =
          kept_cut j (eqb i j) (held M j h) k (log M j h) (λ b. subst (λ x. k ≤ length (log M x h)) (eqb→eq i j b) v.1.1) (seen_kept h v.0 j p)

      -- What held of a board's state at a mark or a handing over, and is kept by every call, holds of its state after the whole history.
      pub still : (h : List (HStep M)) → ValidH M n bad h → (j : ℕ) → Seen M j P h → P (after M j (log M j h))
      unfolding Kept
      still h v j p = seen_kept h v j p 0 (omega (arith, held_le n bad h v j))

  -- a mark in the middle of a history
  pub seen_mark : (j : ℕ) (P : M.State → Type 0) (later h : List (HStep M)) → P (after M j (log M j h)) → Seen M j P (later ++ (mark j ∷ h))
  seen_mark j P [] h p = inl (refl, p)
  seen_mark j P (act i e ∷ later) h p = seen_mark j P later h p
  seen_mark j P (hand i m ∷ later) h p = inr (seen_mark j P later h p)
  seen_mark j P (mark i ∷ later) h p = inr (seen_mark j P later h p)
  seen_mark j P (cut i k ∷ later) h p = seen_mark j P later h p

  module _ (n : ℕ) (bad : Set) where
    -- what was handed over was made then
    pub handed_seen : (h : List (HStep M)) → ValidH M n bad h → (j : ℕ) (m : M.Msg) → Handed M j m h → Seen M j (λ s. M.Sent s m) h
    handed_seen [] v j m p = absurd p
    handed_seen (act i e ∷ h) v j m p = handed_seen h v.0 j m p
    handed_seen (hand i k ∷ h) v j m (inl p) = inl (p.0, subst₂ (λ a c. M.Sent (after M a (log M a h)) c) p.0 p.1 v.1)
    handed_seen (hand i k ∷ h) v j m (inr p) = inr (handed_seen h v.0 j m p)
    handed_seen (mark i ∷ h) v j m p = inr (handed_seen h v.0 j m p)
    handed_seen (cut i k ∷ h) v j m p = handed_seen h v.0 j m p

  module _ (W : Lawful M) where
    -- every state that a log gives meets the invariant
    pub inv_after : (i : ℕ) (l : List Ev) → W.Inv (after M i l)
    unfolding after
    inv_after i [] = W.inv_initial i
    inv_after i (e ∷ l) = W.inv_run (after M i l) e (inv_after i l)

    seen_inv : (j : ℕ) (P : M.State → Type 0) (h : List (HStep M)) → Seen M j P h → Seen M j (λ s. W.Inv s × P s) h
    seen_inv j P [] p = absurd p
    seen_inv j P (act i e ∷ h) p = seen_inv j P h p
    seen_inv j P (hand i m ∷ h) (inl p) = inl (p.0, (inv_after j (log M j h), p.1))
    seen_inv j P (hand i m ∷ h) (inr p) = inr (seen_inv j P h p)
    seen_inv j P (mark i ∷ h) (inl p) = inl (p.0, (inv_after j (log M j h), p.1))
    seen_inv j P (mark i ∷ h) (inr p) = inr (seen_inv j P h p)
    seen_inv j P (cut i k ∷ h) p = seen_inv j P h p

  module _ (n : ℕ) (bad : Set) (W : Lawful M) where
    -- What held of a board's state at a mark or a handing over, and is kept by every call where the invariant holds, holds of its state now,
    -- and of each that a cut may leave.
    pub inv_kept : (P : M.State → Type 0) → ((s : M.State) (e : Ev) → W.Inv s → P s → P (M.run s e))
        → (h : List (HStep M)) → ValidH M n bad h → (j : ℕ) → Seen M j P h → Kept j P (held M j h) (log M j h)
    unfolding Kept
    inv_kept P rises h v j p c q =
        (seen_kept (λ s. W.Inv s × P s) (λ s e x. (W.inv_run s e x.0, rises s e x.0 x.1)) n bad h v j (seen_inv W j P h p) c q).1

    pub inv_still : (P : M.State → Type 0) → ((s : M.State) (e : Ev) → W.Inv s → P s → P (M.run s e))
        → (h : List (HStep M)) → ValidH M n bad h → (j : ℕ) → Seen M j P h → P (after M j (log M j h))
    unfolding Kept
    inv_still P rises h v j p = inv_kept P rises h v j p 0 (omega (arith, held_le n bad h v j))

    -- What was handed over is made in the board's state now, and in each that a cut may leave.
    pub handed_kept : (h : List (HStep M)) → ValidH M n bad h → (j : ℕ) (m : M.Msg) → Handed M j m h → Kept j (λ s. M.Sent s m) (held M j h) (log M j h)
    handed_kept h v j m p = inv_kept (λ s. M.Sent s m) (λ s e x. W.le_sent s (M.run s e) (W.le_run s e x) m) h v j (handed_seen n bad h v j m p)

    pub handed_sent : (h : List (HStep M)) → ValidH M n bad h → (j : ℕ) (m : M.Msg) → Handed M j m h → M.Sent (after M j (log M j h)) m
    unfolding Kept
    handed_sent h v j m p = handed_kept h v j m p 0 (omega (arith, held_le n bad h v j))
