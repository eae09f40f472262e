-- The sets of a fresh forest, and what putting one root under another does to them.
use mathlib.Core.Path.{◌≡◌, refl, sym, ap, ap₂, ◌∙◌, subst}
use mathlib.Core.Logic.{◌⊎◌, inl, inr}
use mathlib.Core.List.{List, [], ◌∷◌}
use mathlib.Core.Bool.{Bool, true, false, ◌&&◌, ◌||◌}
use Prim.Native.Nat.{ℕ, zero, suc, ◌+◌, ◌*◌, ◌≤◌, ◌<◌}
use native.Mathlib.Decide.{ℕ_discrete}
use native.Mathlib.Omega.{arith}
use lib.Dec.{eqb, eqb→eq, eqb_refl}
use lib.ListN.{length, get_or, set}
use lib.Seq.{get_or-set_same, get_or-set_other, set-get_or, set-set}
use borrow.Author.Tests.{eqb-true, eqb-false, eq-eqb, ne_eqb}
use Rattle.base.specs.Pick.{pick}
use Rattle.base.specs.Sets.{bit, count}
use Rattle.base.proofs.Counts.{count_le, count_same, count_sum, count_single}
use Rattle.tree.specs.Edges.{Edges, all, label, joined}
use Rattle.tree.proofs.Labels.{relabel}
use Rattle.tree.proofs.Relabel.{alike, relabel_alike, joined_more}
use Rattle.union_find.specs.Inner.{root, Top, together, Rooted, Forest, Unions, Under}
use Rattle.union_find.proofs.Roots.{root_stays, one_root, rooted, rooted_by, placed}

-- every position its own root, of weight 1
pub singles : (n : ℕ) (up weight : List ℕ) → ((x : ℕ) → x < n → get_or up x 0 ≡ x) → ((x : ℕ) → x < n → get_or weight x 0 ≡ 1) → Unions n [] up weight
unfolding joined label
singles n up weight u w =
    record {
      forest = record {
        inside = λ x l. rw (u x l) l;
        some = λ x l. omega (arith, w x l);
        most = λ x l. omega (arith, w x l);
        doubles = λ x l d. absurd (d (u x l));
        size = λ r l t. w r l ∙ sym (count_same n (λ x. eqb (root n up x) r) (λ x. eqb x r) (λ x k. ap (λ (z : ℕ). eqb z r) (own x k)) ∙ count_single n (λ x. eqb x r) r l (eqb_refl r) (λ x p. eqb→eq x r p));
      };
      agree = λ x y k l. ap₂ eqb (own x k) (own y l);
    }
  where
    own : (x : ℕ) → x < n → root n up x ≡ x
    own x l = root_stays n up x (u x l)

relabel_other : (high low r z : ℕ) → (r ≡ high → ⊥) → (r ≡ low → ⊥) → eqb (relabel true high low z) r ≡ eqb z r
relabel_other high low r z h l = go (eqb z low) refl
  where
    go : (b : Bool) → eqb z low ≡ b → eqb (pick b high z) r ≡ eqb z r
    go true e = ne_eqb high r (λ i. h (sym i)) ∙ sym (ne_eqb z r (λ i. l (sym i ∙ eqb-true z low e)))
    go false e = refl

-- the members of two sets
both_roots : (low high : ℕ) → (low ≡ high → ⊥) → (r : ℕ) → bit (eqb (relabel true high low r) high) ≡ bit (eqb r low) + bit (eqb r high)
both_roots low high d r = go (eqb r low) refl
  where
    go : (b : Bool) → eqb r low ≡ b → bit (eqb (pick b high r) high) ≡ bit b + bit (eqb r high)
    go true e = omega (arith, ap bit (eq-eqb high high refl), ap bit (ne_eqb r high (λ i. d (sym (eqb-true r low e) ∙ i))))
    go false e = omega arith

count_both : (n : ℕ) (up : List ℕ) (low high : ℕ) → (low ≡ high → ⊥)
    → count n (λ x. eqb (relabel true high low (root n up x)) high) ≡ count n (λ x. eqb (root n up x) low) + count n (λ x. eqb (root n up x) high)
count_both n up low high d =
    count_sum n (λ x. eqb (root n up x) low) (λ x. eqb (root n up x) high) (λ x. eqb (relabel true high low (root n up x)) high) (λ x _. both_roots low high d (root n up x))

-- two sets together have at most n positions
pub weights_fit : (n : ℕ) (up weight : List ℕ) (low high : ℕ) → Forest n up weight → low < n → high < n → Top up low → Top up high → (low ≡ high → ⊥)
    → get_or weight low 0 + get_or weight high 0 ≤ n
weights_fit n up weight low high f l h tl th d =
    omega (arith, f.size low l tl, f.size high h th, count_both n up low high d, count_le n (λ x. eqb (relabel true high low (root n up x)) high))

-- The root `low` is put under the root `high`, which is at least as heavy.
module _ (n : ℕ) (up weight up' weight' : List ℕ) (low high : ℕ) (f : Forest n up weight) (l : low < n) (h : high < n)
    (tl : Top up low) (th : Top up high) (apart : low ≡ high → ⊥) (less : get_or weight low 0 ≤ get_or weight high 0)
    (up-low : get_or up' low 0 ≡ high) (up-other : (x : ℕ) → (x ≡ low → ⊥) → get_or up' x 0 ≡ get_or up x 0)
    (weight-high : get_or weight' high 0 ≡ get_or weight low 0 + get_or weight high 0) (weight-other : (x : ℕ) → (x ≡ high → ⊥) → get_or weight' x 0 ≡ get_or weight x 0) where
  -- no weight falls
  grows : (x : ℕ) → get_or weight x 0 ≤ get_or weight' x 0
  grows x = go (ℕ_discrete x high)
    where
      go : Dec (x ≡ high) → get_or weight x 0 ≤ get_or weight' x 0
      go (yes e) = rw e (omega (arith, weight-high))
      go (no d) = omega (arith, weight-other x d)

  -- where k steps led to the root r, some number of steps now leads to r, or to `high` where r is `low`
  Leads : ℕ → ℕ → Type 0
  Leads x r = (j : ℕ) × (root j up' x ≡ r) × Top up' r

  from_low : Leads low high
  unfolding root Leads
  from_low = (1, up-low, up-other high (λ e. apart (sym e)) ∙ th)

  ends_at : (x : ℕ) → Top up x → Leads x (relabel true high low x)
  unfolding root Leads
  ends_at x t = go (eqb x low) refl
    where
      go : (b : Bool) → eqb x low ≡ b → Leads x (pick b high x)
      go true e = rw (eqb-true x low e) from_low
      go false e = (0, refl, up-other x (eqb-false x low e) ∙ t)

  onward : (x r : ℕ) → get_or up' x 0 ≡ get_or up x 0 → Leads (get_or up x 0) r → Leads x r
  unfolding root Leads
  onward x r e g = (suc g.0, ap (root g.0 up') e ∙ g.1, g.2)

  leads : (k x : ℕ) → Top up (root k up x) → Leads x (relabel true high low (root k up x))
  unfolding root
  leads zero x t = ends_at x t
  leads (suc k) x t = go (ℕ_discrete x low) (leads k (get_or up x 0) t)
    where
      go : Dec (x ≡ low) → Leads (get_or up x 0) (relabel true high low (root k up (get_or up x 0))) → Leads x (relabel true high low (root k up (get_or up x 0)))
      go (yes e) g =
          let t : Top up x = subst (Top up) (sym e) tl in
          subst (λ (r : ℕ). Leads x (relabel true high low r)) (sym (ap (root k up) t ∙ root_stays k up x t)) (ends_at x t)
      go (no d) g = onward x _ (up-other x d) g

  inside' : (x : ℕ) → x < n → get_or up' x 0 < n
  inside' x k = go (ℕ_discrete x low)
    where
      go : Dec (x ≡ low) → get_or up' x 0 < n
      go (yes e) = rw (e, up-low) h
      go (no d) = rw (up-other x d) (f.inside x k)

  some' : (x : ℕ) → x < n → 0 < get_or weight' x 0
  some' x k = omega (arith, f.some x k, grows x)

  most' : (x : ℕ) → x < n → get_or weight' x 0 ≤ n
  most' x k = go (ℕ_discrete x high)
    where
      go : Dec (x ≡ high) → get_or weight' x 0 ≤ n
      go (yes e) = rw (e, weight-high) (weights_fit n up weight low high f l h tl th apart)
      go (no d) = rw (weight-other x d) (f.most x k)

  top_high : Top up' high
  top_high = up-other high (λ e. apart (sym e)) ∙ th

  doubles' : (x : ℕ) → x < n → (Top up' x → ⊥) → get_or weight' x 0 * 2 ≤ get_or weight' (get_or up' x 0) 0
  doubles' x k d = go (ℕ_discrete x low)
    where
      go : Dec (x ≡ low) → get_or weight' x 0 * 2 ≤ get_or weight' (get_or up' x 0) 0
      go (yes e) = rw (e, up-low, weight-high, weight-other low apart) (omega arith)
      go (no e) =
          rw (up-other x e, weight-other x (λ i. d (subst (Top up') (sym i) top_high)))
          (omega (arith, f.doubles x k (λ t. d (up-other x e ∙ t)), grows (get_or up x 0)))

  rooted' : Rooted n up'
  rooted' = rooted_by n up' weight' inside' some' most' (λ x k d. omega (arith, doubles' x k d, some' x k))

  -- the root `low` becomes `high`, other roots stay
  root_moves : (x : ℕ) → x < n → root n up' x ≡ relabel true high low (root n up x)
  unfolding Leads
  root_moves x k =
      let g : Leads x (relabel true high low (root n up x)) = leads n x ((rooted n up weight f).ends x k) in
      one_root n g.0 up' x (rooted'.ends x k) (subst (Top up') (sym g.1) g.2) ∙ g.1

  count_moves : (r : ℕ) → count n (λ x. eqb (root n up' x) r) ≡ count n (λ x. eqb (relabel true high low (root n up x)) r)
  count_moves r =
      count_same n (λ x. eqb (root n up' x) r) (λ x. eqb (relabel true high low (root n up x)) r) (λ x k. ap (λ (z : ℕ). eqb z r) (root_moves x k))

  size_high : get_or weight' high 0 ≡ count n (λ x. eqb (root n up' x) high)
  size_high = omega (arith, f.size low l tl, f.size high h th, count_both n up low high apart, count_moves high, weight-high)

  size' : (r : ℕ) → r < n → Top up' r → get_or weight' r 0 ≡ count n (λ x. eqb (root n up' x) r)
  size' r k t = go (ℕ_discrete r high)
    where
      not_low : r ≡ low → ⊥
      not_low e = apart (sym (sym (ap (λ (z : ℕ). get_or up' z 0) e ∙ up-low) ∙ t ∙ e))

      go : Dec (r ≡ high) → get_or weight' r 0 ≡ count n (λ x. eqb (root n up' x) r)
      go (yes e) = subst (λ (z : ℕ). get_or weight' z 0 ≡ count n (λ x. eqb (root n up' x) z)) (sym e) size_high
      go (no d) =
          weight-other r d
          ∙ f.size r k (sym (up-other r not_low) ∙ t)
          ∙ count_same n (λ x. eqb (root n up x) r) (λ x. eqb (relabel true high low (root n up x)) r) (λ x _. sym (relabel_other high low r (root n up x) d not_low))
          ∙ sym (count_moves r)

  attached : Forest n up' weight'
  attached = record { inside = inside'; some = some'; most = most'; doubles = doubles'; size = size' }

  -- two positions are in one set where they were, or where each was in one of the two sets
  together_moves : (x y : ℕ) → x < n → y < n → together n up' x y ≡ alike high low (root n up x) (root n up y)
  together_moves x y j k = ap₂ eqb (root_moves x j) (root_moves y k) ∙ relabel_alike high low (root n up x) (root n up y)

or_comm : (a b : Bool) → a || b ≡ b || a
or_comm true true = refl
or_comm true false = refl
or_comm false true = refl
or_comm false false = refl

alike_swap : (p q y z : ℕ) → alike p q y z ≡ alike q p y z
alike_swap p q y z = ap₂ (λ (a b : Bool). eqb y z || (a && b)) (or_comm (eqb y p) (eqb y q)) (or_comm (eqb z p) (eqb z q))

alike_one : (p y z : ℕ) → alike p p y z ≡ eqb y z
alike_one p y z = sym (relabel_alike p p y z) ∙ ap₂ eqb (stays y) (stays z)
  where
    stays : (z : ℕ) → relabel true p p z ≡ z
    stays z = go (eqb z p) refl
      where
        go : (b : Bool) → eqb z p ≡ b → pick b p z ≡ z
        go true e = sym (eqb-true z p e)
        go false e = refl

-- One more edge, from a to b, and a forest in which just the sets of a and b fell together.
module _ (n : ℕ) (E : Edges) (up weight : List ℕ) (u : Unions n E up weight) (a b : ℕ) (ka : a < n) (kb : b < n) where
  joins : (x y : ℕ) → x < n → y < n → alike (root n up a) (root n up b) (root n up x) (root n up y) ≡ joined all (record { one = a; two = b } ∷ E) x y
  joins x y j k =
      ap₂ ◌||◌ (u.agree x y j k)
      (ap₂ ◌&&◌ (ap₂ ◌||◌ (u.agree x a j ka) (u.agree x b j kb)) (ap₂ ◌||◌ (u.agree y a k ka) (u.agree y b k kb)))
      ∙ sym (joined_more all (record { one = a; two = b }) E x y)

  -- a and b were in one set already
  pub linked_same : root n up a ≡ root n up b → Unions n (record { one = a; two = b } ∷ E) up weight
  linked_same e =
      record {
        forest = u.forest;
        agree = λ x y j k. sym (alike_one (root n up a) (root n up x) (root n up y)) ∙ ap (λ (q : ℕ). alike (root n up a) q (root n up x) (root n up y)) e ∙ joins x y j k;
      }

  -- the root `low` was put under the root `high`
  pub linked_under : (low high : ℕ) → ((low ≡ root n up a) × (high ≡ root n up b)) ⊎ ((low ≡ root n up b) × (high ≡ root n up a)) → (low ≡ high → ⊥)
      → get_or weight low 0 ≤ get_or weight high 0 → n ≤ length up → n ≤ length weight → (up' weight' : List ℕ)
      → up' ≡ set up low high → weight' ≡ set weight high (get_or weight low 0 + get_or weight high 0)
      → Unions n (record { one = a; two = b } ∷ E) up' weight'
  linked_under low high w d less lu lw up' weight' eu ew = go w
    where
      R : ℕ → ℕ
      R = root n up

      at : (x r : ℕ) → x < n → r ≡ R x → (r < n) × Top up r
      at x r k e = placed n up weight u.forest x r k e

      make : (low < n) × Top up low → (high < n) × Top up high → ((x y : ℕ) → alike high low (R x) (R y) ≡ alike (R a) (R b) (R x) (R y))
          → Unions n (record { one = a; two = b } ∷ E) up' weight'
      make l h m =
          let up-low : get_or up' low 0 ≡ high = ap (λ (z : List ℕ). get_or z low 0) eu ∙ get_or-set_same up low high 0 (omega (arith, l.0)) in
          let up-other : (x : ℕ) → (x ≡ low → ⊥) → get_or up' x 0 ≡ get_or up x 0 = λ x i. ap (λ (z : List ℕ). get_or z x 0) eu ∙ get_or-set_other up low x high 0 i in
          let sum : ℕ = get_or weight low 0 + get_or weight high 0 in
          let weight-high : get_or weight' high 0 ≡ sum = ap (λ (z : List ℕ). get_or z high 0) ew ∙ get_or-set_same weight high sum 0 (omega (arith, h.0)) in
          let weight-other : (x : ℕ) → (x ≡ high → ⊥) → get_or weight' x 0 ≡ get_or weight x 0 = λ x i. ap (λ (z : List ℕ). get_or z x 0) ew ∙ get_or-set_other weight high x sum 0 i in
          record {
            forest = attached n up weight up' weight' low high u.forest l.0 h.0 l.1 h.1 d less up-low up-other weight-high weight-other;
            agree = λ x y j k.
                together_moves n up weight up' weight' low high u.forest l.0 h.0 l.1 h.1 d less up-low up-other weight-high weight-other x y j k
                ∙ m x y
                ∙ joins x y j k;
          }

      go : ((low ≡ R a) × (high ≡ R b)) ⊎ ((low ≡ R b) × (high ≡ R a)) → Unions n (record { one = a; two = b } ∷ E) up' weight'
      go (inl (i, j)) = make (at a low ka i) (at b high kb j) (λ x y. alike_swap high low (R x) (R y) ∙ ap₂ (λ (p q : ℕ). alike p q (R x) (R y)) i j)
      go (inr (i, j)) = make (at b low kb i) (at a high ka j) (λ x y. ap₂ (λ (p q : ℕ). alike p q (R x) (R y)) j i)

-- ---- which root was moved

-- none
pub under_same : (n r : ℕ) (up : List ℕ) → r < n → Top up r → Under n r up up
under_same n r up k t =
    record { inside = k; above = ap (λ (z : ℕ). get_or up z 0) t; back = ap (set up r) (sym t) ∙ set-get_or up r 0 }

-- r went under the root `high`
pub under_high : (n r high : ℕ) (up up' : List ℕ) → r < n → n ≤ length up → Top up r → Top up high → (r ≡ high → ⊥) → up' ≡ set up r high → Under n r up up'
under_high n r high up up' k l t h d e =
    let there : get_or up' r 0 ≡ high = ap (λ (z : List ℕ). get_or z r 0) e ∙ get_or-set_same up r high 0 (omega arith) in
    record {
      inside = k;
      above = rw there (ap (λ (z : List ℕ). get_or z high 0) e ∙ get_or-set_other up r high high 0 (λ i. d (sym i)) ∙ h);
      back = ap (λ (z : List ℕ). set z r r) e ∙ set-set up r high r ∙ ap (set up r) (sym t) ∙ set-get_or up r 0;
    }
