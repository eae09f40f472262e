-- What the reading of a varint says of the bytes from a place on.
use mathlib.Core.Path.{◌≡◌, sym, ap, ap₂, ◌∙◌, subst}
use mathlib.Core.List.{List, [], ◌∷◌, ◌++◌, append-nil}
use Prim.Native.Nat.{ℕ, ◌+◌, ◌-◌, ◌<◌, ◌≤◌, max}
use native.Mathlib.Omega.{arith}
use native.Mathlib.Nat.{le_of_eq}
use lib.ListN.{length, take, drop, length-append, length-drop, take-append-drop}
use lib.Seq.{take_all, drop-append-le, length-take-le, drop-drop}
use Rattle.base.specs.Limits.{max_number}
use Rattle.varint.specs.declared.VarintError.TheVariants.{Short, Malformed}
use Rattle.varint.specs.Varint.{AllBytes, varint_bytes}
use Rattle.std.specs.Prelude.{Err}
use Rattle.varint.specs.Reading.{value, varint_at}
use Rattle.varint.proofs.Laws.{all_bytes_append}
use Rattle.varint.proofs.RoundTrip.{varint_read, varint_was_written}
use Rattle.varint.proofs.Further.{varint_least, varint_malformed_stays, complete}
use Rattle.varint.specs.Statement.{Beginning}

-- the bytes from one place on, at another
pub from_to : (s : List ℕ) (at next : ℕ) {bs : List ℕ} → at ≤ next → take (next - at) (drop at s) ≡ bs → drop at s ≡ bs ++ drop next s
from_to s at next l e =
    let f : at + (next - at) ≡ next = omega arith in
    sym (take-append-drop (next - at) (drop at s)) ∙ ap₂ (λ (x y : List ℕ). x ++ y) e (drop-drop (next - at) at s ∙ ap (λ (n : ℕ). drop n s) f)

-- a value: its bytes stand there
pub value_stands : (s : List ℕ) (at v next : ℕ) → AllBytes s → varint_at s at ≡ value v next → (v ≤ max_number) × (drop at s ≡ varint_bytes v ++ drop next s)
value_stands s at v next h e =
    let w = varint_was_written s at v next h e in
    (omega (arith, w.0), from_to s at next (omega (arith, w.1)) w.3)

-- bytes that stand there are read
module _ (s : List ℕ) (at : ℕ) (l : at ≤ length s) (v : ℕ) (h : v ≤ max_number) where
  pub read_there : (q : List ℕ) → drop at s ≡ varint_bytes v ++ q → varint_at s at ≡ value v (at + length (varint_bytes v))
  read_there q e =
      let n : length (take at s) ≡ at = length-take-le at s l in
      let f : s ≡ take at s ++ (varint_bytes v ++ q) = sym (take-append-drop at s) ∙ ap (λ (x : List ℕ). take at s ++ x) e in
      ap₂ varint_at f (sym n) ∙ varint_read v (take at s) q (omega arith) ∙ ap (λ (x : ℕ). value v (x + length (varint_bytes v))) n

-- a beginning of a varint, with the rest of it
pub read_further : (s : List ℕ) (at : ℕ) → at ≤ length s → (v : ℕ) → v ≤ max_number → (b : Beginning (varint_bytes v) (drop at s))
    → varint_at (s ++ b.0) at ≡ value v (at + length (varint_bytes v))
read_further s at l v h b =
    read_there (s ++ b.0) at (omega (arith, length-append s b.0)) v h [] (drop-append-le at s b.0 l ∙ b.2 ∙ sym (append-nil (varint_bytes v)))

-- short: further bytes, at least one, make it the least value, or w of one byte if that is above it
pub short_completed : (s : List ℕ) (at w least : ℕ) → AllBytes s → w < 128 → at ≤ length s → varint_at s at ≡ Err (Short least)
    → (max w least ≤ max_number) × Beginning (varint_bytes (max w least)) (drop at s)
short_completed s at w least h k l e =
    let c = complete 5 s at w least k l e in
    let t : List ℕ = c.0 in
    let a : AllBytes (s ++ t) = all_bytes_append s t h c.1 in
    let r = varint_was_written (s ++ t) at (max w least) (length (s ++ t)) a c.2 in
    let whole : drop at (s ++ t) ≡ varint_bytes (max w least)
    = sym (take_all (length (s ++ t) - at) (drop at (s ++ t)) (le_of_eq (length-drop at (s ++ t)))) ∙ r.3 in
    (omega (arith, r.0), (t, longer t c.2, sym (drop-append-le at s t l) ∙ whole))
  where
    longer : (t : List ℕ) → varint_at (s ++ t) at ≡ value (max w least) (length (s ++ t)) → 0 < length t
    longer [] f =
        let g : varint_at (s ++ []) at ≡ varint_at s at = ap (λ (x : List ℕ). varint_at x at) (append-nil s) in
        let z : ◌≡◌ {A = ℕ} 0 1 = cc in
        absurd (omega arith)
    longer (x ∷ t) f = omega arith

-- the same of the least value
pub short_begins : (s : List ℕ) (at least : ℕ) → AllBytes s → at ≤ length s → varint_at s at ≡ Err (Short least) → (least ≤ max_number) × Beginning (varint_bytes least) (drop at s)
short_begins s at least h l e =
    let w = short_completed s at 0 least h (omega arith) l e in
    let m : max 0 least ≡ least = omega arith in
    (omega (arith, w.0), subst (λ (v : ℕ). Beginning (varint_bytes v) (drop at s)) m w.1)

-- and of no less
pub short_least : (s : List ℕ) (at least : ℕ) → at ≤ length s → varint_at s at ≡ Err (Short least) → (v : ℕ) → v ≤ max_number → Beginning (varint_bytes v) (drop at s) → least ≤ v
short_least s at least l e v h b = varint_least s b.0 at least v (at + length (varint_bytes v)) e (read_further s at l v h b)

-- malformed: no varint stands there, and the bytes end inside none
module _ (s : List ℕ) (at : ℕ) (l : at ≤ length s) (e : varint_at s at ≡ Err Malformed) (v : ℕ) (h : v ≤ max_number) where
  pub none_begins : Beginning (varint_bytes v) (drop at s) → ⊥
  none_begins b =
      let f : varint_at (s ++ b.0) at ≡ Err Malformed = varint_malformed_stays s b.0 at e in
      let g : varint_at (s ++ b.0) at ≡ value v (at + length (varint_bytes v)) = read_further s at l v h b in
      let z : ◌≡◌ {A = ℕ} 0 1 = cc in
      absurd (omega arith)

  pub none_stands : (q : List ℕ) → drop at s ≡ varint_bytes v ++ q → ⊥
  none_stands q f =
      let g : varint_at s at ≡ value v (at + length (varint_bytes v)) = read_there s at l v h q f in
      let z : ◌≡◌ {A = ℕ} 0 1 = cc in
      absurd (omega arith)
