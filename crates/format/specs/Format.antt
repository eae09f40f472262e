-- Formats: what stands in bytes as varints one after another, each within limits.
use Rattle.std.specs.Prelude.{◌≡◌, List, [], ◌++◌, ℕ, ◌≤◌}
use Rattle.varint.specs.Varint.{varint_bytes}

-- A format is its next field's least and largest value with what follows each value of it, or, after the last field, what they all say.
pub data Format (A : Type 0) : Type 0 where
  says : A → Format A
  field : ℕ → ℕ → (ℕ → Format A) → Format A

-- the same fields, which say f of it
abbrev pub saying : {A B : Type 0} → (A → B) → Format A → Format B
saying f (says a) = says (f a)
saying f (field low high rest) = field low high (λ v. saying f (rest v))

-- the bytes are the format's fields, each within its limits, and say x
abbrev pub Spells : {A : Type 0} → Format A → List ℕ → A → Type 0
Spells (says a) bs x = (bs ≡ []) × (a ≡ x)
Spells (field low high rest) bs x = (v : ℕ) × (low ≤ v) × (v ≤ high) × (more : List ℕ) × (bs ≡ varint_bytes v ++ more) × Spells (rest v) more x
