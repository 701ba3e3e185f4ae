-- What the index of an image stands for, and what the file with the image holds.
use Rattle.std.specs.Prelude.{◌≡◌, ℕ, List, length}
use Rattle.hk_base.specs.Disk.{piece}
use Rattle.key_rows.specs.Image.{IsKeyImage, key_image}
use Rattle.key_rows.specs.Table.{Table}
use Rattle.key_index.specs.Held.{AreHeld}
use Rattle.key_index.specs.Index.{Index, Materials, table_of}
use Rattle.key_index.specs.Sound.{AllSized, IsSoundIndex}
use Rattle.key_images.specs.Places.{index_at}
use Rattle.key_images.specs.Sources.{AreIn, table_in}

-- the index stands for the table, beside older materials; the file holds each material at its place
pub record StandsInFile (file : List ℕ) (x : Index) (t : Table) : Type 0 where
  pub older : Materials
  pub table_is : table_of older x ≡ t
  pub held : AreHeld older file x

-- a file that has the image of a table at a place holds the materials of the index
abbrev pub ImageIsHeld : Type 0
ImageIsHeld = (file bytes : List ℕ) (place : ℕ) (t : Table) → IsKeyImage bytes t → piece place (length bytes) file ≡ bytes → StandsInFile file (index_at place t) t

-- The image of an index, whose materials are read from a range of a file that holds them, is that of the table that it stands for.
abbrev pub HeldIsImaged : Type 0
HeldIsImaged = (m : Materials) (file : List ℕ) (x : Index) (from count : ℕ) → IsSoundIndex x → AreHeld m file x → AreIn from count x → table_in from (piece from count file) x ≡ table_of m x

-- a file that holds the materials has each of them within its length
abbrev pub HeldIsWithin : Type 0
HeldIsWithin = (m : Materials) (file : List ℕ) (x : Index) → IsSoundIndex x → AreHeld m file x → AreIn 0 (length file) x

-- A file that has the image of the table at a place holds the same materials as before, for the index whose places are in the image.
abbrev pub RelocatedIsHeld : Type 0
RelocatedIsHeld = (m : Materials) (file : List ℕ) (x : Index) (place : ℕ) → IsSoundIndex x → AllSized m x → piece place (length (key_image (table_of m x))) file ≡ key_image (table_of m x)
    → AreHeld m file (index_at place (table_of m x)) × (table_of m (index_at place (table_of m x)) ≡ table_of m x)
