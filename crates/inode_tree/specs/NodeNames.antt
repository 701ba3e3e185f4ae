-- The names of nodes, as they are held.
use Rattle.std.specs.Prelude.{ℕ, ◌≤◌, List, take, ⊤}
use Rattle.inode_tree.specs.declared.names.Held.{Held}
use Rattle.inode_tree.specs.declared.names.Held.TheVariants.{Long, Short}

abbrev pub held_bytes : Held → List ℕ
held_bytes (Short len bytes) = take len bytes
held_bytes (Long text) = text

abbrev pub IsShort : Held → Type 0
IsShort (Short len bytes) = len ≤ 30
IsShort (Long text) = ⊤
