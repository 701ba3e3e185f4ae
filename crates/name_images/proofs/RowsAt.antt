-- Rows at their places.
use Rattle.std.proofs.Common.{◌≡◌, ℕ, ◌<◌, List, length, get_or, Some, subst, arith}
use Rattle.std.specs.Prelude.{slice_get}
use Rattle.inode_tree.specs.Rows.{Entry}
use Rattle.frozen_nodes.specs.Copies.{no_entry}
use Rattle.name_images.proofs.Lists.{at-is}

-- a name that the path of the row at a place has
pub has-name : (rows : List Entry) (at k d : ℕ) → d ≡ length (get_or rows at no_entry).path → k < d → (e : Entry) → slice_get rows at ≡ Some e → k < length e.path
has-name rows at k d same lt e h = subst (λ (x : Entry). k < length x.path) (at-is rows at no_entry e h) (omega (arith, same, lt))
