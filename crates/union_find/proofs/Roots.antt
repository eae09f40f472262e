-- Laws of the way up to a root.
use mathlib.Core.Path.{◌≡◌, refl, sym, ap, ◌∙◌, subst}
use mathlib.Core.Logic.{◌⊎◌, inl, inr}
use mathlib.Core.List.{List}
use Prim.Native.Nat.{ℕ, zero, suc, ◌+◌, ◌*◌, ◌^◌, ◌≤◌, ◌<◌}
use native.Mathlib.Nat.{le_refl, pow-suc}
use native.Mathlib.Decide.{ℕ_discrete}
use native.Mathlib.Omega.{arith}
use lib.Dec.{T, eqb, eqb→eq, eqb_refl}
use lib.ListN.{get_or}
use Rattle.base.proofs.Smallest.{sought, found}
use Rattle.union_find.specs.Inner.{root, Top, topped, steps, Rooted, Forest}

-- a root stays
pub root_stays : (k : ℕ) (up : List ℕ) (r : ℕ) → Top up r → root k up r ≡ r
unfolding root
root_stays zero up r h = refl
root_stays (suc k) up r h = ap (root k up) h ∙ root_stays k up r h

-- the way up ends at one root, however many steps are made
pub one_root : (k l : ℕ) (up : List ℕ) (x : ℕ) → Top up (root k up x) → Top up (root l up x) → root k up x ≡ root l up x
unfolding root
one_root zero l up x h g = sym (root_stays l up x h)
one_root (suc k) zero up x h g = root_stays (suc k) up x g
one_root (suc k) (suc l) up x h g = one_root k l up (get_or up x 0) h g

-- a is one step above x: it lies inside, and has the same root
pub above_inside : (n : ℕ) (up : List ℕ) → Rooted n up → (x a : ℕ) → x < n → a ≡ get_or up x 0 → a < n
above_inside n up h x a l e = rw e (h.inside x l)

pub above_root : (n : ℕ) (up : List ℕ) → Rooted n up → (x a : ℕ) → x < n → a ≡ get_or up x 0 → root n up a ≡ root n up x
unfolding root
above_root n up h x a l e = ap (root n up) e ∙ one_root (suc n) n up x (h.ends (get_or up x 0) (h.inside x l)) (h.ends x l)

pub root_inside : (k n : ℕ) (up : List ℕ) → ((x : ℕ) → x < n → get_or up x 0 < n) → (x : ℕ) → x < n → root k up x < n
unfolding root
root_inside zero n up h x l = l
root_inside (suc k) n up h x l = root_inside k n up h (get_or up x 0) (h x l)

-- the way up is at its end
pub at_root : (n : ℕ) (up : List ℕ) (x r a : ℕ) → a ≡ get_or up r 0 → a ≡ r → root n up r ≡ root n up x → r ≡ root n up x
at_root n up x r a e t h = sym (root_stays n up r (sym e ∙ t)) ∙ h

-- where weights rise along the way up and are at most n, n steps lead to a root
module _ (n : ℕ) (up weight : List ℕ) (inside : (x : ℕ) → x < n → get_or up x 0 < n) (some : (x : ℕ) → x < n → 0 < get_or weight x 0)
    (most : (x : ℕ) → x < n → get_or weight x 0 ≤ n) (rises : (x : ℕ) → x < n → (Top up x → ⊥) → get_or weight x 0 < get_or weight (get_or up x 0) 0) where
  -- k steps up lead to a root, or each of them to a greater weight
  climbed : (k x : ℕ) → x < n → Top up (root k up x) ⊎ (get_or weight x 0 + k ≤ get_or weight (root k up x) 0)
  unfolding root
  climbed zero x l = inr (omega arith)
  climbed (suc k) x l = go (ℕ_discrete (get_or up x 0) x) (climbed k (get_or up x 0) (inside x l))
    where
      go : Dec (Top up x) → Top up (root k up (get_or up x 0)) ⊎ (get_or weight (get_or up x 0) 0 + k ≤ get_or weight (root k up (get_or up x 0)) 0)
          → Top up (root k up (get_or up x 0)) ⊎ (get_or weight x 0 + suc k ≤ get_or weight (root k up (get_or up x 0)) 0)
      go d (inl t) = inl t
      go (yes t) (inr h) = inl (subst (Top up) (sym (ap (root k up) t ∙ root_stays k up x t)) t)
      go (no d) (inr h) = inr (omega (arith, rises x l d))

  pub rooted_by : Rooted n up
  rooted_by = record { inside = inside; ends = λ x l. go x l (climbed n x l) }
    where
      go : (x : ℕ) → x < n → Top up (root n up x) ⊎ (get_or weight x 0 + n ≤ get_or weight (root n up x) 0) → Top up (root n up x)
      go x l (inl t) = t
      go x l (inr h) = absurd (omega (arith, some x l, most (root n up x) (root_inside n n up inside x l)))

pub rooted : (n : ℕ) (up weight : List ℕ) → Forest n up weight → Rooted n up
rooted n up weight f = rooted_by n up weight f.inside f.some f.most (λ x l d. omega (arith, f.doubles x l d, f.some x l))

-- the root of x lies inside, and is a root
pub placed : (n : ℕ) (up weight : List ℕ) → Forest n up weight → (x r : ℕ) → x < n → r ≡ root n up x → (r < n) × Top up r
placed n up weight f x r k e =
    (subst (λ (z : ℕ). z < n) (sym e) (root_inside n n up f.inside x k), subst (Top up) (sym e) ((rooted n up weight f).ends x k))

steps_fall : (n : ℕ) (up : List ℕ) → Rooted n up → (x : ℕ) → x < n → (Top up x → ⊥) → steps n up (get_or up x 0) < steps n up x
unfolding root
steps_fall n up h x l d = go (steps n up x) refl
  where
    top : T (topped up x n)
    top = subst (λ (z : ℕ). T (eqb z (root n up x))) (sym (h.ends x l)) (eqb_refl (root n up x))

    f : T (topped up x (steps n up x)) × (steps n up x < suc n) × (steps n up x ≤ n)
    f = found (suc n) (topped up x) n (le_refl (suc n)) top

    go : (k : ℕ) → steps n up x ≡ k → steps n up (get_or up x 0) < steps n up x
    go zero e = absurd (d (eqb→eq (get_or up x 0) x (subst (λ (z : ℕ). T (topped up x z)) e f.0)))
    go (suc k) e =
        let g = found (suc n) (topped up (get_or up x 0)) k (omega (arith, f.1)) (subst (λ (z : ℕ). T (topped up x z)) e f.0) in
        omega (arith, g.2)

pub above_steps : (n : ℕ) (up : List ℕ) → Rooted n up → (x a : ℕ) → x < n → a ≡ get_or up x 0 → (a ≡ x → ⊥) → steps n up a < steps n up x
above_steps n up h x a l e d = subst (λ (z : ℕ). steps n up z < steps n up x) (sym e) (steps_fall n up h x l (λ t. d (e ∙ t)))

-- one step more, at the end of the way
root_more : (k : ℕ) (up : List ℕ) (x : ℕ) → root (suc k) up x ≡ get_or up (root k up x) 0
unfolding root
root_more zero up x = refl
root_more (suc k) up x = root_more k up (get_or up x 0)

doubled : (n : ℕ) (up weight : List ℕ) → Forest n up weight → (x : ℕ) → x < n → (k : ℕ) → ((j : ℕ) → j < k → T (topped up x j) → ⊥)
    → 2 ^ k ≤ get_or weight (root k up x) 0
unfolding root
doubled n up weight f x l zero h = f.some x l
doubled n up weight f x l (suc k) h =
    let y : ℕ = root k up x in
    let i : 2 ^ k ≤ get_or weight y 0 = doubled n up weight f x l k (λ j m. h j (omega arith)) in
    let d : get_or weight y 0 * 2 ≤ get_or weight (get_or up y 0) 0 =
    f.doubles y (root_inside k n up f.inside x l) (λ t. h k (le_refl (suc k)) (subst (λ (z : ℕ). T (eqb z y)) (sym t) (eqb_refl y))) in
    let e : get_or weight (root (suc k) up x) 0 ≡ get_or weight (get_or up y 0) 0 = ap (λ (z : ℕ). get_or weight z 0) (root_more k up x) in
    omega (arith, pow-suc 2 k)

-- a way up has at most log n steps
pub steps_log : (n : ℕ) (up weight : List ℕ) → Forest n up weight → (x : ℕ) → x < n → 2 ^ steps n up x ≤ n
steps_log n up weight f x l =
    let k : ℕ = steps n up x in
    let d : 2 ^ k ≤ get_or weight (root k up x) 0 = doubled n up weight f x l k (sought (suc n) (topped up x)).none in
    omega (arith, f.most (root k up x) (root_inside k n up f.inside x l))
