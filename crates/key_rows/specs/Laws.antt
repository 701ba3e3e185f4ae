-- Properties of the records of the key log, and of the images of tables.
use Rattle.std.specs.Prelude.{◌≡◌, ℕ, List, IsTrue}
use Rattle.key_rows.specs.declared.rows.KeyCommand.{KeyCommand}
use Rattle.key_rows.specs.Image.{HasKeyImage, IsKeyImage}
use Rattle.key_rows.specs.Table.{Table, after, applies, no_keys}
use Rattle.key_rows.specs.Records.{HasSpelling, fits, spelling}

abbrev pub OneSpelling : Type 0
OneSpelling = (a b : KeyCommand) → HasSpelling a → HasSpelling b → spelling a ≡ spelling b → a ≡ b

abbrev pub ApplyingIsSpelled : Type 0
ApplyingIsSpelled = (t : Table) (command : KeyCommand) → IsTrue (applies t command) → IsTrue (fits command)

-- an image is of one table
abbrev pub OneTable : Type 0
OneTable = (bytes : List ℕ) (t u : Table) → IsKeyImage bytes t → IsKeyImage bytes u → t ≡ u

-- the table without keys has an image, and so has each table that commands of a log make
abbrev pub EmptyHasImage : Type 0
EmptyHasImage = HasKeyImage no_keys

abbrev pub ImageStays : Type 0
ImageStays = (t : Table) (command : KeyCommand) → HasKeyImage t → HasSpelling command → IsTrue (applies t command) → HasKeyImage (after t command)
