-- Properties of images of the namesystem's table.
use Rattle.std.specs.Prelude.{◌≡◌, ℕ, ◌≤◌, true, List, length, Some}
use Rattle.std.specs.List.{All}
use Rattle.edit_ops.specs.declared.ops.EditOp.{EditOp}
use Rattle.name_store.specs.Replay.{name_replay}
use Rattle.name_store.specs.Table.{IsNameTable, NameTable, Replayed, nothing_logged}
use Rattle.name_images.specs.Images.{HasImage, IsNameImage, KeepsImageRules, in_image_order, is_id_up_to, is_of_opening_up_to, name_image, zones_once}

-- an image stands for one table
abbrev pub OneNameTable : Type 0
OneNameTable = (bytes : List ℕ) (t u : NameTable) → IsNameImage bytes t → IsNameImage bytes u → t ≡ u

-- a table that keeps the rules has an image, which is that of the table with its statuses in the order of their zones' ids
abbrev pub HasNameImage : Type 0
HasNameImage = (t : NameTable) → IsNameTable t → HasImage t → KeepsImageRules t → IsNameImage (name_image t) (in_image_order t)

-- what the operations of a log keep of the rules of images

-- a table that they make has at most 1,000,000 rows
abbrev pub LoggedFew : Type 0
LoggedFew = (ops : List EditOp) (r : Replayed) → name_replay nothing_logged ops ≡ Some r → length r.table.rows ≤ 1000000

-- the ids of its rows are of its openings
abbrev pub LoggedIds : Type 0
LoggedIds = (ops : List EditOp) (r : Replayed) → name_replay nothing_logged ops ≡ Some r → All (λ e. is_id_up_to r.table.opening e.row.id ≡ true) r.table.rows

-- no zone of it has two statuses
abbrev pub LoggedZones : Type 0
LoggedZones = (ops : List EditOp) (r : Replayed) → name_replay nothing_logged ops ≡ Some r → zones_once r.table.statuses ≡ true

-- and the sessions of its statuses are of its openings
abbrev pub LoggedSessions : Type 0
LoggedSessions = (ops : List EditOp) (r : Replayed) → name_replay nothing_logged ops ≡ Some r → All (λ s. is_of_opening_up_to r.table.opening s.session ≡ true) r.table.statuses
