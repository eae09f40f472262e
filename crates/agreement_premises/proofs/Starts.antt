-- Where boards started, by a test of the world; an answer that is not between inputs.
use mathlib.Core.Path.{◌≡◌, sym, ap, ◌∙◌, subst}
use mathlib.Core.Logic.{◌⊎◌, inl, inr}
use mathlib.Core.Bool.{Bool, true, not, ◌&&◌}
use mathlib.Core.List.Memᴰ
use mathlib.Core.List.{List, [], ◌∷◌, Memᴰ}
use Prim.Native.Nat.{ℕ, ◌<◌}
use lib.Dec.{T, leb, eqb, leb→le, eqb→eq, eqb_refl, T_not}
use lib.IntN.{ℤ, nat_abs}
use Rattle.base.specs.Sets.{Set, count}
use Rattle.base.proofs.Bools.{T-left, T-right}
use Rattle.base.proofs.Counts.{count_full}
use Rattle.tree.specs.Walk.{Walk, Not, here}
use Rattle.tree.specs.Edges.{Adjacent}
use Rattle.plan.specs.Plan.{Plan}
use Rattle.plan.specs.Positions.{edges_of, reading_of}
use Rattle.agreement.specs.History.{Instance, History, Board, board_after}
use Rattle.agreement.specs.Allowed.{Sound}
use Rattle.agreement.specs.Demand.{Started, Answers, Holds}
use Rattle.agreement_histories.proofs.Worlds.{World, board_of}
use Rattle.agreement_histories.proofs.Shows.{Shows}
use Rattle.agreement_histories.proofs.Delivery.{starts_in}
use Rattle.agreement_histories.proofs.Delivered.{in_starts}

-- every number of the list is in the set
unfoldable pub all_in : Set → List ℕ → Bool
all_in S [] = true
all_in S (x ∷ l) = S x && all_in S l

all_in→ : (S : Set) (x : ℕ) (l : List ℕ) → T (all_in S l) → Memᴰ x l → T (S x)
unfolding all_in
all_in→ S x [] h m = absurd (Memᴰ.not-nil m)
all_in→ S x (y ∷ l) h m = go (all_in→ S x l (T-right (S y) (all_in S l) h)) (Memᴰ.cases_cons m)
  where
    go : (Memᴰ x l → T (S x)) → (x ≡ y) ⊎ Memᴰ x l → T (S x)
    go below (inl e) = subst (λ (z : ℕ). T (S z)) (sym e) (T-left (S y) (all_in S l) h)
    go below (inr r) = below r

abbrev starts_of : World → Set → ℕ → Bool
starts_of w S i = all_in S (starts_in (board_of w i).counted)

-- every start of a board is at a position of the set
abbrev pub starts_at : Instance → World → Set → Bool
starts_at v w S = leb v.n (count v.n (starts_of w S))

pub started_in : (v : Instance) (w : World) (h : History) → Shows v w h → (S : Set) → T (starts_at v w S) → (i x : ℕ) (z : ℤ) → i < v.n → Started h i x z → T (S x)
started_in v w h s S f i x z l k =
    all_in→ S x (starts_in (board_after h i).counted)
    (subst (λ (b : Board). T (all_in S (starts_in b.counted))) (s.board i) (count_full v.n (starts_of w S) (leb→le v.n (count v.n (starts_of w S)) f) i l))
    (in_starts x k.0 k.1.0 (board_after h i).counted k.1.1 k.1.2)

-- z is not what position x stands for
abbrev pub apart : Plan → ℕ → ℤ → Bool
apart plan x z = not (eqb (nat_abs (reading_of plan x)) (nat_abs z))

pub apart→ : (plan : Plan) (x : ℕ) (z : ℤ) → T (apart plan x z) → reading_of plan x ≡ z → ⊥
apart→ plan x z f e =
    T_not (eqb (nat_abs (reading_of plan x)) (nat_abs z)) f
    (subst (λ (y : ℤ). T (eqb (nat_abs (reading_of plan x)) (nat_abs y))) e (eqb_refl (nat_abs (reading_of plan x))))

-- every start is at x, and z is what another position stands for
abbrev pub misplaced : Instance → Plan → World → ℕ → ℤ → Bool
misplaced v plan w x z = starts_at v w (eqb x) && apart plan x z

-- then the answer z is not between inputs
pub not_between : (v : Instance) (plan : Plan) (bad : Set) (w : World) (h : History) → Shows v w h → (x : ℕ) (z : ℤ) → T (misplaced v plan w x z)
    → (i : ℕ) → Sound v bad i → Answers v h i z → Holds v plan bad h → ⊥
not_between v plan bad w h s x z f i o a q =
    let r = q.validity i z o a in
    let b = r.2 in
    let e : x ≡ b.2 = at b.0 b.2 b.4 b.6.0 b.8.started in
    let g : x ≡ b.3 = at b.1 b.3 b.5 b.7.0 b.9.started in
    let off : b.2 ≡ r.0 → ⊥ = λ k. apart→ plan x z (T-right only far f) (ap (reading_of plan) (e ∙ k) ∙ r.1.1) in
    b.11 (subst (λ (y : ℕ). Walk (Adjacent (edges_of plan)) (Not r.0) b.2 y) (sym e ∙ g) (here off))
  where
    only : Bool
    only = starts_at v w (eqb x)

    far : Bool
    far = apart plan x z

    at : (j y : ℕ) (p : ℤ) → j < v.n → Started h j y p → x ≡ y
    at j y p l k = eqb→eq x y (started_in v w h s (eqb x) (T-left only far f) j y p l k)
