-- Document 01, "Plans", kind 1 (tree): the bytes in which a tree is written.
use Rattle.std.specs.Prelude.{List, [], ◌∷◌, ◌++◌, ℕ}
use Rattle.tree.specs.Edges.{Edges}
use Rattle.varint.specs.Varint.{varint_bytes}

-- the varints of the ends of each edge, the oldest edge first
unfoldable pub edge_bytes : Edges → List ℕ
edge_bytes [] = []
edge_bytes (e ∷ E) = edge_bytes E ++ (varint_bytes e.one ++ varint_bytes e.two)

-- the kind, the vertex count v and the edges E
abbrev pub tree_bytes : ℕ → Edges → List ℕ
tree_bytes v E = varint_bytes 1 ++ (varint_bytes v ++ edge_bytes E)
