-- The same of a tree that is lent: for the contracts of inner functions.
use Rattle.base.specs.Sets.{Set}
use Rattle.tree_pass.specs.declared.lent.Tree.{Tree}
use Rattle.component_tree.specs.Inner.{OfTree}

-- a set of its positions that is joined in itself and not empty
abbrev pub SetOf : Tree → Set → Type 0
SetOf t S = OfTree t.parents.now t.children.now t.positions S
