-- Document 02, Q-3: plans drawn by hand, and the cycle ("the ring it closes") that each shows, if it shows one. proofs/Examples.antt shows that every row holds.
use Rattle.std.specs.Prelude.{◌≡◌, List, [], ◌∷◌, ◌++◌, ℕ, length}
use Rattle.plan.specs.Positions.{padded}
use Rattle.plan_cycle.specs.Cycle.{cycle_of}

-- a plan's bytes, and of each edge on the cycle its number among the edges, its first end and its second
pub data Row : Type 0 where
  row : (plan numbers one two : List ℕ) → Row

-- what a row claims
abbrev pub Shown : Row → Type 0
Shown (row plan numbers one two) = cycle_of plan ≡ record { count = length numbers; numbers = padded numbers; one = padded one; two = padded two }

-- a row with no cycle
abbrev pub none : List ℕ → Row
none plan = row plan [] [] []

-- 15 edges at vertex 0, of 18 vertices
abbrev pub star : List ℕ
star =
    0x01 ∷ 0x12
    ∷ 0x00 ∷ 0x01 ∷ 0x00 ∷ 0x02 ∷ 0x00 ∷ 0x03 ∷ 0x00 ∷ 0x04 ∷ 0x00 ∷ 0x05 ∷ 0x00 ∷ 0x06 ∷ 0x00 ∷ 0x07 ∷ 0x00 ∷ 0x08
    ∷ 0x00 ∷ 0x09 ∷ 0x00 ∷ 0x0A ∷ 0x00 ∷ 0x0B ∷ 0x00 ∷ 0x0C ∷ 0x00 ∷ 0x0D ∷ 0x00 ∷ 0x0E ∷ 0x00 ∷ 0x0F ∷ []

-- and the first of them again
abbrev pub star_twice : List ℕ
star_twice = star ++ (0x00 ∷ 0x01 ∷ [])

unfoldable pub examples : List Row
examples =
    -- an edge given twice, and given again the other way round
    row (0x01 ∷ 0x04 ∷ 0x00 ∷ 0x01 ∷ 0x00 ∷ 0x01 ∷ []) (0 ∷ 1 ∷ []) (0 ∷ 0 ∷ []) (1 ∷ 1 ∷ [])
    ∷ row (0x01 ∷ 0x04 ∷ 0x00 ∷ 0x01 ∷ 0x01 ∷ 0x00 ∷ []) (0 ∷ 1 ∷ []) (0 ∷ 1 ∷ []) (1 ∷ 0 ∷ [])
    -- a triangle 1-2-3, with a tail drawn before it and one between: both are left out
    ∷ row (0x01 ∷ 0x06 ∷ 0x00 ∷ 0x01 ∷ 0x01 ∷ 0x02 ∷ 0x02 ∷ 0x04 ∷ 0x02 ∷ 0x03 ∷ 0x03 ∷ 0x01 ∷ []) (1 ∷ 3 ∷ 4 ∷ []) (1 ∷ 2 ∷ 3 ∷ []) (2 ∷ 3 ∷ 1 ∷ [])
    -- a cycle apart from the first edge
    ∷ row (0x01 ∷ 0x05 ∷ 0x00 ∷ 0x01 ∷ 0x02 ∷ 0x03 ∷ 0x03 ∷ 0x02 ∷ []) (1 ∷ 2 ∷ []) (2 ∷ 3 ∷ []) (3 ∷ 2 ∷ [])
    -- a second cycle behind the first is not shown
    ∷ row (0x01 ∷ 0x06 ∷ 0x00 ∷ 0x01 ∷ 0x01 ∷ 0x02 ∷ 0x02 ∷ 0x00 ∷ 0x03 ∷ 0x04 ∷ 0x04 ∷ 0x03 ∷ []) (0 ∷ 1 ∷ 2 ∷ []) (0 ∷ 1 ∷ 2 ∷ []) (1 ∷ 2 ∷ 0 ∷ [])
    -- vertices of two bytes: 0 and 128, of 201
    ∷ row (0x01 ∷ 0xC9 ∷ 0x01 ∷ 0x80 ∷ 0x01 ∷ 0x00 ∷ 0x00 ∷ 0x80 ∷ 0x01 ∷ []) (0 ∷ 1 ∷ []) (128 ∷ 0 ∷ []) (0 ∷ 128 ∷ [])
    -- a malformed group behind the rejected edge, and one before it, which is refused by 4
    ∷ row (0x01 ∷ 0x04 ∷ 0x00 ∷ 0x01 ∷ 0x01 ∷ 0x00 ∷ 0x80 ∷ 0x00 ∷ []) (0 ∷ 1 ∷ []) (0 ∷ 1 ∷ []) (1 ∷ 0 ∷ [])
    ∷ none (0x01 ∷ 0x04 ∷ 0x80 ∷ 0x00 ∷ 0x00 ∷ 0x01 ∷ 0x01 ∷ 0x00 ∷ [])
    -- edges refused by 7 before one that closes a cycle: an end that is no vertex, and two ends alike
    ∷ none (0x01 ∷ 0x04 ∷ 0x00 ∷ 0x04 ∷ 0x00 ∷ 0x01 ∷ 0x00 ∷ 0x01 ∷ [])
    ∷ none (0x01 ∷ 0x04 ∷ 0x01 ∷ 0x01 ∷ 0x00 ∷ 0x01 ∷ 0x00 ∷ 0x01 ∷ [])
    -- an edge more at a vertex that has 15 already, which is refused by 9; where its ends are joined already, 8 comes first
    ∷ none (star ++ (0x00 ∷ 0x10 ∷ []))
    ∷ row star_twice (0 ∷ 15 ∷ []) (0 ∷ 0 ∷ []) (1 ∷ 1 ∷ [])
    -- a cycle only behind the last edge that the vertex count allows: refused by 11
    ∷ none (0x01 ∷ 0x03 ∷ 0x00 ∷ 0x01 ∷ 0x01 ∷ 0x02 ∷ 0x02 ∷ 0x00 ∷ [])
    -- no bytes: refused by 4; kind 3: by 5; 256 vertices: by 6; a range too wide: by 10
    ∷ none []
    ∷ none (0x03 ∷ 0x04 ∷ 0x00 ∷ 0x01 ∷ 0x00 ∷ 0x01 ∷ [])
    ∷ none (0x01 ∷ 0x80 ∷ 0x02 ∷ 0x00 ∷ 0x01 ∷ 0x00 ∷ 0x01 ∷ [])
    ∷ none (0x02 ∷ 0x00 ∷ 0x80 ∷ 0x80 ∷ 0x04 ∷ [])
    -- plans that pass: a tree of three vertices, and a range
    ∷ none (0x01 ∷ 0x03 ∷ 0x00 ∷ 0x01 ∷ 0x01 ∷ 0x02 ∷ [])
    ∷ none (0x02 ∷ 0x00 ∷ 0x02 ∷ [])
    ∷ []
