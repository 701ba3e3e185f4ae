-- A batch that is added to a walk.
use Rattle.std.specs.Prelude.{◌≡◌, ℕ, true, ◌∷◌, ◌++◌, [], Some}
use Rattle.reenc_walk.specs.declared.files.Files.{Files}
use Rattle.reenc_walk.specs.declared.sent.BatchNote.{BatchNote}
use Rattle.reenc_walk.specs.declared.walker.Walk.{Walk}
use Rattle.reenc_walk.specs.declared.walker.Walk.TheVariants as walk
use Rattle.reenc_walk.specs.Walks.{WalkState}

abbrev pub with_files : Files → WalkState → WalkState
with_files files w = record w { cursor = Some files.cursor; batches = w.batches ++ record { sent = files.kept; last = files.last; outstanding = true } ∷ [] }

abbrev pub note_with : ℕ → Files → WalkState → BatchNote
note_with zone files w = record { zone = zone; session = w.session; sent = files.sent }

-- what is answered, and the state after it
abbrev pub AddsBatch : WalkState → ℕ → Files → Walk → WalkState → Type 0
AddsBatch w zone files (walk.Batch note) w' = (note ≡ note_with zone files w) × (w' ≡ with_files files w)
AddsBatch w zone files walk.NoneLeft w' = ⊥
AddsBatch w zone files walk.NoMemory w' = w' ≡ w
