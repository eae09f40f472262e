-- Erasing cuts: the execution without cuts that a history amounts to.
use mathlib.Core.Path.{◌≡◌, refl, sym, ap, ◌∙◌, subst}
use mathlib.Core.List.{List, [], ◌∷◌}
use mathlib.Core.Bool.{Bool, true, false}
use Prim.Native.Nat.{ℕ, zero, suc, ◌+◌, ◌-◌, ◌≤◌}
use native.Mathlib.Nat.{add_comm}
use native.Mathlib.Omega.{arith}
use lib.Dec.{T, eqb, eqb→eq}
use lib.ListN.{length, drop, length-drop}
use lib.Seq.{drop-drop}
use Rattle.base.specs.Pick.{pick}
use Rattle.base.specs.Sets.{Set}
use Rattle.execution.specs.Machine.{Event, start, take, Machine}
use Rattle.execution.specs.Inner.{Step, move, state, Fair, Valid, ValidH}
use Rattle.execution.specs.History.{HStep, act, hand, mark, cut, log, held, after, FairH}
use Rattle.execution.proofs.Lawful.{Lawful}
use Rattle.execution.proofs.Logs.{held_le, Kept, handed_kept}

-- d with v at i
abbrev upd : (ℕ → ℕ) → ℕ → ℕ → ℕ → ℕ
upd d i v j = pick (eqb i j) v (d j)

module _ (M : Machine) where
  abbrev Ev : Type 0
  Ev = Event M.Msg M.Input

  -- a call that stays, or is one of the newest k + 1 to leave out
  abbrev thin : ℕ → List (Step M) → (ℕ → List (Step M)) → List (Step M)
  thin zero a f = a
  thin (suc k) a f = f k

  -- the execution in which the newest d i records of each board i are left out
  unfoldable weave : List (HStep M) → (ℕ → ℕ) → List (Step M)
  weave [] d = []
  weave (act i e ∷ h) d = thin (d i) (record { who = i; what = e } ∷ weave h d) (λ k. weave h (upd d i k))
  weave (hand i m ∷ h) d = weave h d
  weave (mark i ∷ h) d = weave h d
  weave (cut i k ∷ h) d = weave h (upd d i (d i + (length (log M i h) - k)))

  -- ---- a board's state in that execution is the one by its log without its newest d i records

  at_zero : (i : ℕ) (b : Bool) (c : ℕ) (l : List Ev) (e : Ev) → (T b → c ≡ 0) → move M b (after M i (drop c l)) e ≡ after M i (drop c (pick b (e ∷ l) l))
  unfolding after move
  at_zero i true c l e z = rw (z tt) refl
  at_zero i false c l e z = refl

  at_suc : (i : ℕ) (b : Bool) (c k : ℕ) (l : List Ev) (e : Ev) → (T b → c ≡ suc k) → after M i (drop (pick b k c) l) ≡ after M i (drop c (pick b (e ∷ l) l))
  unfolding after
  at_suc i true c k l e z = rw (z tt) refl
  at_suc i false c k l e z = refl

  at_cut : (i : ℕ) (b : Bool) (c x y : ℕ) (l : List Ev) → (T b → x ≡ y + c) → after M i (drop (pick b x c) l) ≡ after M i (drop c (pick b (drop y l) l))
  at_cut i true c x y l z = rw (z tt) (ap (after M i) (sym (drop-drop c y l)))
  at_cut i false c x y l z = refl

  at_nil : (i c : ℕ) → after M i (drop c []) ≡ M.initial i
  unfolding after
  at_nil i zero = refl
  at_nil i (suc c) = refl

  weave_state : (h : List (HStep M)) (d : ℕ → ℕ) (i : ℕ) → state M i (weave h d) ≡ after M i (drop (d i) (log M i h))
  unfolding weave log state
  weave_state [] d i = sym (at_nil i (d i))
  weave_state (act j e ∷ h) d i = go (d j) refl (λ d. weave_state h d i)
    where
      go : (k : ℕ) → d j ≡ k → ((d : ℕ → ℕ) → state M i (weave h d) ≡ after M i (drop (d i) (log M i h)))
          → state M i (thin k (record { who = j; what = e } ∷ weave h d) (λ k. weave h (upd d j k))) ≡ after M i (drop (d i) (log M i (act j e ∷ h)))
      go zero q ih = ap (λ s. move M (eqb j i) s e) (ih d) ∙ at_zero i (eqb j i) (d i) (log M i h) e (λ b. ap d (sym (eqb→eq j i b)) ∙ q)
      go (suc k) q ih = ih (upd d j k) ∙ at_suc i (eqb j i) (d i) k (log M i h) e (λ b. ap d (sym (eqb→eq j i b)) ∙ q)
  weave_state (hand j m ∷ h) d i = weave_state h d i
  weave_state (mark j ∷ h) d i = weave_state h d i
  weave_state (cut j k ∷ h) d i =
      weave_state h (upd d j (d j + (length (log M j h) - k))) i
      ∙ at_cut i (eqb j i) (d i) (d j + (length (log M j h) - k)) (length (log M i h) - k) (log M i h)
      (λ b. ap (λ x. d x + (length (log M x h) - k)) (eqb→eq j i b) ∙ add_comm (d i) (length (log M i h) - k))

  -- ---- it is valid where nothing held is left out

  -- nothing held is left out
  abbrev Within : (ℕ → ℕ) → List (HStep M) → Type 0
  Within d h = (j : ℕ) → d j + held M j h ≤ length (log M j h)

  in_zero : (b : Bool) (c x : ℕ) (l : List Ev) (e : Ev) → (T b → c ≡ 0) → x ≤ length l → c + x ≤ length (pick b (e ∷ l) l) → c + x ≤ length l
  in_zero true c x l e z g q = omega (arith, z tt)
  in_zero false c x l e z g q = q

  in_suc : (b : Bool) (c k x : ℕ) (l : List Ev) (e : Ev) → (T b → c ≡ suc k) → c + x ≤ length (pick b (e ∷ l) l) → pick b k c + x ≤ length l
  in_suc true c k x l e z q = omega (arith, z tt)
  in_suc false c k x l e z q = q

  in_hold : (b : Bool) (c x : ℕ) (l : List Ev) → x ≤ length l → c + pick b (length l) x ≤ length l → c + x ≤ length l
  in_hold true c x l g q = omega arith
  in_hold false c x l g q = q

  in_cut : (b : Bool) (c y x k : ℕ) (l : List Ev) → (T b → (k ≤ length l) × (y ≡ c + (length l - k))) → c + x ≤ length (pick b (drop (length l - k) l) l)
      → pick b y c + x ≤ length l
  in_cut true c y x k l f q = omega (arith, f tt, length-drop (length l - k) l)
  in_cut false c y x k l f q = q

  module _ (W : Lawful M) (n : ℕ) (bad : Set) where
    fair : (e : Ev) (h : List (HStep M)) (d : ℕ → ℕ) → ValidH M n bad h → Within d h → FairH M n bad e h → Fair M n bad e (weave h d)
    unfolding Kept
    fair (start x) h d v w f = tt
    fair (take j m) h d v w f = λ g. rw weave_state (handed_kept M n bad W h v j m (f g) (d j) (w j))

    weave_valid : (h : List (HStep M)) (d : ℕ → ℕ) → ValidH M n bad h → Within d h → Valid M n bad (weave h d)
    unfolding weave log held
    weave_valid [] d v w = tt
    weave_valid (act i e ∷ h) d v w = go (d i) refl (weave_valid h)
      where
        go : (k : ℕ) → d i ≡ k → ((d : ℕ → ℕ) → ValidH M n bad h → Within d h → Valid M n bad (weave h d))
            → Valid M n bad (thin k (record { who = i; what = e } ∷ weave h d) (λ k. weave h (upd d i k)))
        go zero q ih =
            let w' : Within d h = λ j. in_zero (eqb i j) (d j) (held M j h) (log M j h) e (λ b. ap d (sym (eqb→eq i j b)) ∙ q) (held_le M n bad h v.0 j) (w j) in
            (ih d v.0 w', fair e h d v.0 w' v.1)
        go (suc k) q ih = ih (upd d i k) v.0 (λ j. in_suc (eqb i j) (d j) k (held M j h) (log M j h) e (λ b. ap d (sym (eqb→eq i j b)) ∙ q) (w j))
    weave_valid (hand i m ∷ h) d v w = weave_valid h d v.0 (λ j. in_hold (eqb i j) (d j) (held M j h) (log M j h) (held_le M n bad h v.0 j) (w j))
    weave_valid (mark i ∷ h) d v w = weave_valid h d v.0 (λ j. in_hold (eqb i j) (d j) (held M j h) (log M j h) (held_le M n bad h v.0 j) (w j))
    weave_valid (cut i k ∷ h) d v w =
        weave_valid h (upd d i (d i + (length (log M i h) - k))) v.0
        (λ j. in_cut (eqb i j) (d j) (d i + (length (log M i h) - k)) (held M j h) k (log M j h)
        (λ b. (subst (λ x. k ≤ length (log M x h)) (eqb→eq i j b) v.1.1, ap (λ x. d x + (length (log M x h) - k)) (eqb→eq i j b))) (w j))

    -- Every valid history is, for the states of the boards, a valid execution without cuts.
    pub uncut : (h : List (HStep M)) → ValidH M n bad h
        → (tr : List (Step M)) × Valid M n bad tr × ((i : ℕ) → state M i tr ≡ after M i (log M i h))
    uncut h v = (weave h (λ _. 0), weave_valid h (λ _. 0) v (λ j. omega (arith, held_le M n bad h v j)), weave_state h (λ _. 0))
