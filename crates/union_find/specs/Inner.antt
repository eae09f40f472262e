-- Disjoint sets of the positions 0 .. n-1, kept as trees (union by size): `up` leads from each position towards the root of its set, and from a root
-- to itself; `weight` of a root is the number of positions in its set. Serves proofs, and contracts of this crate's functions and of inner functions that call them.
use Rattle.std.specs.Prelude.{◌≡◌, List, Bool, ℕ, zero, suc, ◌*◌, ◌≤◌, ◌<◌, eqb, get_or, set}
use Rattle.base.specs.Pick.{smallest}
use Rattle.base.specs.Sets.{count}
use Rattle.tree.specs.Edges.{Edges, all, joined}

-- where k steps up lead from x: with k = n, to the root of its set
unfoldable pub root : ℕ → List ℕ → ℕ → ℕ
root zero up x = x
root (suc k) up x = root k up (get_or up x 0)

-- r is a root
abbrev pub Top : List ℕ → ℕ → Type 0
Top up r = get_or up r 0 ≡ r

-- x and y are in one set
abbrev pub together : ℕ → List ℕ → ℕ → ℕ → Bool
together n up x y = eqb (root n up x) (root n up y)

-- k steps up lead from x to a root
abbrev pub topped : List ℕ → ℕ → ℕ → Bool
topped up x k = eqb (get_or up (root k up x) 0) (root k up x)

-- how many steps lead from x to its root
abbrev pub steps : ℕ → List ℕ → ℕ → ℕ
steps n up x = smallest (suc n) (topped up x)

-- n steps up lead to a root
pub record Rooted (n : ℕ) (up : List ℕ) : Type 0 where
  pub inside : (x : ℕ) → x < n → get_or up x 0 < n
  pub ends : (x : ℕ) → x < n → Top up (root n up x)

-- each step up at least doubles the weight, which is at most n: so there are at most log n of them
pub record Forest (n : ℕ) (up weight : List ℕ) : Type 0 where
  pub inside : (x : ℕ) → x < n → get_or up x 0 < n
  pub some : (x : ℕ) → x < n → 0 < get_or weight x 0
  pub most : (x : ℕ) → x < n → get_or weight x 0 ≤ n
  pub doubles : (x : ℕ) → x < n → (Top up x → ⊥) → get_or weight x 0 * 2 ≤ get_or weight (get_or up x 0) 0
  pub size : (r : ℕ) → r < n → Top up r → get_or weight r 0 ≡ count n (λ x. eqb (root n up x) r)

-- the sets are those that the edges join
pub record Unions (n : ℕ) (E : Edges) (up weight : List ℕ) : Type 0 where
  pub forest : Forest n up weight
  pub agree : (x y : ℕ) → x < n → y < n → together n up x y ≡ joined all E x y

-- up' is up with the root r under another root, or with nothing moved
pub record Under (n r : ℕ) (up up' : List ℕ) : Type 0 where
  pub inside : r < n
  pub above : Top up' (get_or up' r 0)
  pub back : set up' r r ≡ up
