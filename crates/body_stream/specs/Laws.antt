-- What was put is what is read.
use Rattle.std.specs.Prelude.{◌≡◌, ℕ, List, length, Option, ◌++◌}
use Rattle.std.specs.Io.KnownBytes.{Appends}
use Rattle.hk_base.specs.Disk.{piece}
use Rattle.body_stream.specs.Forms.{stored_form}
use Rattle.body_stream.specs.Transfers.{PutsBody, ReadsBody}
use Rattle.body_stream.specs.Vaults.{TellsBodies, VaultState}
use Rattle.body_stream.specs.declared.keys.BodyKey.{BodyKey}

-- A body that was put with a key, and is the same at a later read with that key, gives the range of the bytes that were
-- put. `n` is how many they are.
abbrev pub BodiesAreReadBack : Type 0
BodiesAreReadBack =
    (key : Option BodyKey) (id long from count n : ℕ) (left left' written now : Option (List ℕ)) (old put later : VaultState)
    → (was : PutsBody key id long left left' old put) → TellsBodies old → TellsBodies later → later.bodies id ≡ put.bodies id
    → ReadsBody key id from count n later written now
    → Appends written now (piece from count was.bytes) × (n ≡ length (piece from count was.bytes))

-- the stored form of a range of a body, under the key of the body from the place of the range on, is the range of the file
abbrev pub StoredFormUndoesItself : Type 0
StoredFormUndoesItself = (key : Option BodyKey) (from count : ℕ) (file : List ℕ) → stored_form key from (piece from count (stored_form key 0 file)) ≡ piece from count file

-- a body has the length of its file, and a prefix of a file has a prefix of its body
abbrev pub StoredFormKeepsLength : Type 0
StoredFormKeepsLength = (key : Option BodyKey) (file : List ℕ) → length (stored_form key 0 file) ≡ length file

abbrev pub StoredFormKeepsPrefixes : Type 0
StoredFormKeepsPrefixes = (key : Option BodyKey) (front more : List ℕ) → (rest : List ℕ) × (stored_form key 0 (front ++ more) ≡ stored_form key 0 front ++ rest)
