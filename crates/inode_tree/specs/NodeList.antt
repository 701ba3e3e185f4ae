-- Nodes in one list, and how many more have memory.
use Rattle.std.specs.Prelude.{ℕ, List, [], ◌∷◌}
use Rattle.inode_tree.specs.declared.rows.Link.{Link}
use Rattle.inode_tree.specs.declared.rows.Node.{Node}
use Rattle.inode_tree.specs.declared.rows.Row.{Row}

pub record NodeList : Type 0 where
  pub items : List Node
  pub spare : ℕ

-- the nodes that have these links and these rows
abbrev pub joined : List Link → List Row → List Node
joined [] rs = []
joined (l ∷ ls) [] = []
joined (l ∷ ls) (r ∷ rs) = record { parent = l.parent; name = l.name; row = r } ∷ joined ls rs
