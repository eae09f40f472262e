-- Levels of a path: 3 · 2 ^ l positions or more have a level l that sends, to which the sides above the centres lead; fewer have none.
use mathlib.Core.Path.{◌≡◌, refl, sym, ap, ◌∙◌, subst}
use mathlib.Core.Logic.{◌↔◌}
use mathlib.Core.List.{List}
use Prim.Native.Nat.{ℕ, zero, suc, ◌+◌, ◌-◌, ◌*◌, ◌^◌, ◌≤◌, ◌<◌, zero-le}
use native.Mathlib.Nat.{pow-suc, mul_assoc, mul_comm, mul-one, pow-le-pow_right}
use native.Mathlib.Omega.{arith}
use lib.Dec.{T}
use lib.ListN.{length, replicate, length-replicate}
use Rattle.base.specs.Sets.{Set, count}
use Rattle.tree.specs.Edges.{Edges}
use Rattle.tree.specs.Component.{upto, degree, side}
use Rattle.tree.specs.Path.{path_edges}
use Rattle.tree.specs.Inner.{interval, middle}
use Rattle.tree.proofs.Whole.{whole, count_upto}
use Rattle.tree.proofs.PathEdges.{Along, path_along, path_below, path_length, path_acyclic}
use Rattle.tree.proofs.PathInterval.{to_interval, upto_interval, interval_size}
use Rattle.tree.proofs.PathSides.{interval_degree, interval_side_two}
use Rattle.tree.proofs.Levels.{inner, Entered, three_needs}

-- doubling
twice : (k l : ℕ) → k * 2 ^ suc l ≡ (2 * k) * 2 ^ l
twice k l = ap (λ (x : ℕ). k * x) (pow-suc 2 l ∙ mul_comm (2 ^ l) 2) ∙ sym (mul_assoc k 2 (2 ^ l)) ∙ ap (λ (x : ℕ). x * 2 ^ l) (mul_comm k 2)

module _ (n : ℕ) (E : Edges) (path : Along n E) (a b : ℕ) (bn : b < n) where
  -- what l sides above the centre lead to: an interval that ends at b too, with one 2 ^ l-th of the positions, rounded down
  pub record Above (l : ℕ) : Type 0 where
    pub low : ℕ
    pub is : inner E n (interval a b) (replicate l 2) ≡ interval low b
    pub share : (k : ℕ) → k * 2 ^ l ≤ b + 1 - a → k ≤ b + 1 - low
    pub entered : Entered E n (interval a b) (replicate l 2)

  pub above : (l : ℕ) → 3 * 2 ^ l ≤ b + 1 - a → Above l
  unfolding inner
  above zero h = record { low = a; is = refl; share = λ k e. omega (arith, mul-one k); entered = tt }
  above (suc l) h = next (above l (omega (arith, twice 3 l)))
    where
      next : Above l → Above (suc l)
      next x =
          let c : ℕ = x.low in
          let S : Set = inner E n (interval a b) (replicate l 2) in
          let six : 6 ≤ b + 1 - c = x.share 6 (omega (arith, twice 3 l)) in
          record {
            low = middle c b + 1;
            is = ap (λ (T' : Set). side E n T' 2) x.is ∙ interval_side_two n E path c b bn (omega arith);
            share = λ k e. let y : 2 * k ≤ b + 1 - c = x.share (2 * k) (omega (arith, twice k l)) in omega arith;
            entered = (
              omega (arith, ap (count n) x.is, interval_size n c b bn),
              omega arith,
              omega (arith, ap (degree E n) x.is, interval_degree n E path c b bn (omega arith)),
              x.entered,
            );
          }

-- ---- whole paths

-- all positions of a path, and the last one of them
module _ (n : ℕ) (E : Edges) (path : Along n E) where
  -- what l sides above the centre of the whole path lead to
  pub above_whole : (l : ℕ) → 3 * 2 ^ l ≤ n → (low : ℕ) × (inner E n (upto n) (replicate l 2) ≡ interval low (n - 1)) × (3 ≤ n - low) × Entered E n (upto n) (replicate l 2)
  above_whole l h =
      let some : 0 < n = positive in
      let e : upto n ≡ interval 0 (n - 1) = upto_interval n some in
      let x : Above n E path 0 (n - 1) (omega arith) l = above n E path 0 (n - 1) (omega arith) l (omega arith) in (
        x.low,
        ap (λ (S : Set). inner E n S (replicate l 2)) e ∙ x.is,
        omega (arith, x.share 3 (omega arith)),
        subst (λ (S : Set). Entered E n S (replicate l 2)) (sym e) x.entered,
      )
    where
      positive : 0 < n
      positive = let z : 0 < 2 = omega arith in omega (arith, pow-le-pow_right {n = 2} z {i = 0} {j = l} zero-le)

  -- a path of 3 · 2 ^ l positions or more has a level l of three or more; the path's last position is among them
  pub path_level : (l : ℕ) → 3 * 2 ^ l ≤ n
      → Entered E n (upto n) (replicate l 2) × (3 ≤ count n (inner E n (upto n) (replicate l 2))) × T (inner E n (upto n) (replicate l 2) (n - 1))
  path_level l h =
      let x = above_whole l h in
      let three : 3 ≤ n - x.0 = x.2 in (
        x.3,
        omega (arith, ap (count n) x.1, interval_size n x.0 (n - 1) (omega arith)),
        subst (λ (S : Set). T (S (n - 1))) (sym x.1) (to_interval x.0 (n - 1) (n - 1) (omega arith) (omega arith)),
      )

-- some level l of the path 0 .. k has three positions or more exactly if the path has 3 · 2 ^ l: 49,152 for level 14
pub path_levels : (k l : ℕ) → ((ks : List ℕ) × (length ks ≡ l) × Entered (path_edges k) (suc k) (upto (suc k)) ks × (3 ≤ count (suc k) (inner (path_edges k) (suc k) (upto (suc k)) ks)))
    ↔ (3 * 2 ^ l ≤ suc k)
path_levels k l = (needs, has)
  where
    needs : ((ks : List ℕ) × (length ks ≡ l) × Entered (path_edges k) (suc k) (upto (suc k)) ks × (3 ≤ count (suc k) (inner (path_edges k) (suc k) (upto (suc k)) ks))) → 3 * 2 ^ l ≤ suc k
    needs (ks, e, t, three) =
        let C = whole (suc k) (path_edges k) (path_below k) (path_acyclic k) (omega arith) (omega (arith, path_length k)) in
        let h : 3 * 2 ^ length ks ≤ count (suc k) (upto (suc k)) = three_needs (path_edges k) (path_acyclic k) (suc k) (upto (suc k)) C ks t three in
        subst (λ (m : ℕ). 3 * 2 ^ m ≤ suc k) e (omega (arith, count_upto (suc k)))

    has : 3 * 2 ^ l ≤ suc k → (ks : List ℕ) × (length ks ≡ l) × Entered (path_edges k) (suc k) (upto (suc k)) ks × (3 ≤ count (suc k) (inner (path_edges k) (suc k) (upto (suc k)) ks))
    has h = let x = path_level (suc k) (path_edges k) (path_along k) l h in (replicate l 2, length-replicate l 2, x.0, x.1)
