-- Document 01, "Questions at the door", 4 and 7 to 9: the edges of a plan, left to right, "both groups of an edge .. read before 7 .. is asked".
use Rattle.std.specs.Prelude.{Bool, not, ◌&&◌, List, ◌∷◌, ℕ, zero, suc, ltb, eqb, Ok, Err}
use Rattle.base.specs.Found.{Found, refused, ask}
use Rattle.base.specs.Limits.{max_degree}
use Rattle.varint.specs.Reading.{VarintRead, varint_at}
use Rattle.tree.specs.Edges.{Edges, all, joined, edges_at}

-- "Is each group whole and well formed? 4": what is read at `at`, and then what follows it
abbrev pub onward : {A : Type 0} → ℕ → VarintRead → (ℕ → ℕ → Found A) → Found A
onward at (Ok r) f = f r.value r.next
onward at (Err e) f = refused 4 at

abbrev pub varint_then : {A : Type 0} → List ℕ → ℕ → (ℕ → ℕ → Found A) → Found A
varint_then s at f = onward at (varint_at s at) f

-- "Are an edge's ends below V and different? 7."
abbrev pub ends_apart : ℕ → ℕ → ℕ → Bool
ends_apart v a b = (ltb a v && ltb b v) && not (eqb a b)

-- "Are its ends not yet joined through earlier edges? 8."
abbrev pub not_joined : Edges → ℕ → ℕ → Bool
not_joined E a b = not (joined all E a b)

-- "Has neither end 15 edges already? 9."
abbrev pub room_at_ends : Edges → ℕ → ℕ → Bool
room_at_ends E a b = ltb (edges_at E a) max_degree && ltb (edges_at E b) max_degree

-- k edges from `at` on, after those of E; at the end `done` gets all of them and the place reached
unfoldable pub edges_from : {A : Type 0} → ℕ → ℕ → List ℕ → ℕ → Edges → (Edges → ℕ → Found A) → Found A
edges_from v zero s at E done = done E at
edges_from v (suc k) s at E done =
    varint_then s at (λ a second. varint_then s second (λ b next.
    ask (ends_apart v a b) 7 second
    (ask (not_joined E a b) 8 second
    (ask (room_at_ends E a b) 9 second
    (edges_from v k s next (record { one = a; two = b } ∷ E) done)))))
