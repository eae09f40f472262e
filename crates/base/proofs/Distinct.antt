-- Lists of different entries: put one behind the other, and how long they are at most.
use mathlib.Core.Path.{◌≡◌, refl, sym, ap, ◌∙◌}
use mathlib.Core.Logic.{◌⊎◌, inl, inr}
use mathlib.Core.List.Memᴰ
use mathlib.Core.List.{List, [], ◌∷◌, ◌++◌, Memᴰ}
use Prim.Native.Nat.{suc, ◌≤◌}
use native.Mathlib.Omega.{arith}
use lib.ListN.{length}
use Rattle.base.specs.Distinct.{Distinct}

-- a list without one place of an entry: it is one shorter, and every other entry is still there
record Without (A : Type 0) (z : A) (m : List A) : Type 0 where
  rest : List A
  shorter : length m ≡ suc (length rest)
  kept : (y : A) → (y ≡ z → ⊥) → Memᴰ y m → Memᴰ y rest

without : (A : Type 0) (z : A) (m : List A) → Memᴰ z m → Without A z m
without A z [] w = absurd (Memᴰ.not-nil w)
without A z (x ∷ m) w = go (Memᴰ.cases_cons w) (without A z m)
  where
    first : z ≡ x → (y : A) → (y ≡ z → ⊥) → (y ≡ x) ⊎ Memᴰ y m → Memᴰ y m
    first e y d (inl q) = absurd (d (q ∙ sym e))
    first e y d (inr k) = k

    later : (r : Without A z m) (y : A) → (y ≡ z → ⊥) → (y ≡ x) ⊎ Memᴰ y m → Memᴰ y (x ∷ r.rest)
    later r y d (inl q) = Memᴰ.head q
    later r y d (inr k) = Memᴰ.tail (r.kept y d k)

    go : (z ≡ x) ⊎ Memᴰ z m → (Memᴰ z m → Without A z m) → Without A z (x ∷ m)
    go (inl e) ih = record { rest = m; shorter = refl; kept = λ y d k. first e y d (Memᴰ.cases_cons k) }
    go (inr k) ih = let r = ih k in record { rest = x ∷ r.rest; shorter = ap suc r.shorter; kept = λ y d j. later r y d (Memᴰ.cases_cons j) }

-- different entries that are all in m are at most as many
pub distinct_within : {A : Type 0} (l m : List A) → Distinct l → ((x : A) → Memᴰ x l → Memᴰ x m) → length l ≤ length m
distinct_within [] m d f = omega arith
distinct_within {A} (x ∷ l) m d f =
    let r = without A x m (f x (Memᴰ.head refl)) in
    omega (arith, r.shorter, distinct_within l r.rest d.1 (λ y k. r.kept y (λ e. d.0 (Memᴰ.cast (sym e) k)) (f y (Memᴰ.tail k))))

-- two lists without a common entry, one after the other
pub distinct_append : {A : Type 0} (s t : List A) → Distinct s → Distinct t → ((x : A) → Memᴰ x s → Memᴰ x t → ⊥) → Distinct (s ++ t)
distinct_append [] t a b d = b
distinct_append (x ∷ s) t a b d = ((λ h. go (Memᴰ.append_cases s h)), distinct_append s t a.1 b (λ y h. d y (Memᴰ.tail h)))
  where
    go : Memᴰ x s ⊎ Memᴰ x t → ⊥
    go (inl h) = a.0 h
    go (inr h) = d x (Memᴰ.head refl) h
