-- The walk of a session: its cursor, and its batches from the earliest outstanding one on.
use Rattle.std.specs.Prelude.{◌≡◌, ◌≢◌, ℕ, ◌&&◌, Bool, true, false, List, [], ◌∷◌, ◌++◌, length, take, Option, Some, None, if◌then◌else◌, IsTrue, ⊤}
use Rattle.std.specs.List.{filter, list_any}
use Rattle.inode_tree.specs.Rows.{Entry}
use Rattle.reenc_walk.specs.declared.batches.WalkedBatch.{WalkedBatch}
use Rattle.reenc_walk.specs.declared.sent.BatchNote.{BatchNote}
use Rattle.reenc_walk.specs.declared.sent.Sent.{Sent}
use Rattle.reenc_walk.specs.declared.walker.Walk.{Walk}
use Rattle.reenc_walk.specs.declared.walker.Walk.TheVariants as walk
use Rattle.reenc_walk.specs.Files.{last_in, same_sent, sent_list, walk_list}

pub record WalkState : Type 0 where
  pub session : ℕ
  -- the path in the zone up to which files have been walked
  pub cursor : Option (List (List ℕ))
  pub batches : List WalkedBatch

-- the batch is outstanding and has sent these files
abbrev pub is_of : List Sent → WalkedBatch → Bool
is_of sent b = b.outstanding && same_sent b.sent sent

abbrev pub has_batch : List WalkedBatch → List Sent → Bool
has_batch batches sent = list_any (is_of sent) batches

abbrev pub outstanding : List WalkedBatch → ℕ
outstanding batches = length (filter (λ b. b.outstanding) batches)

-- the earliest outstanding batch that has sent these files is no longer outstanding
abbrev pub retired : List Sent → List WalkedBatch → List WalkedBatch
retired sent [] = []
retired sent (b ∷ bs) = if is_of sent b then record b { outstanding = false } ∷ bs else b ∷ retired sent bs

-- the batches from the earliest outstanding one on
abbrev pub from_outstanding : List WalkedBatch → List WalkedBatch
from_outstanding [] = []
from_outstanding (b ∷ bs) = if b.outstanding then b ∷ bs else from_outstanding bs

-- the last path of the batches before the earliest outstanding one
abbrev pub mark_over : Option (List (List ℕ)) → List WalkedBatch → Option (List (List ℕ))
mark_over mark [] = mark
mark_over mark (b ∷ bs) = if b.outstanding then mark else mark_over (Some b.last) bs

-- the mark after the batch is retired, if that moves it
abbrev pub mark_after : List WalkedBatch → List Sent → Option (List (List ℕ))
mark_after batches sent = mark_over None (retired sent batches)

abbrev pub retire : List Sent → WalkState → WalkState
retire sent w = record w { batches = from_outstanding (retired sent w.batches) }

-- the first batch, if there is one, is outstanding
abbrev pub StartsOutstanding : List WalkedBatch → Type 0
StartsOutstanding [] = ⊤
StartsOutstanding (b ∷ bs) = IsTrue b.outstanding

-- the first files after the cursor
abbrev pub next_files : List Entry → ℕ → ℕ → WalkState → List Entry
next_files rows zone size w = take size (walk_list rows zone w.cursor)

-- the state after these files have been walked
abbrev pub with_batch : List Sent → List (List ℕ) → WalkState → WalkState
with_batch sent last w = record w { cursor = Some last; batches = w.batches ++ record { sent = sent; last = last; outstanding = true } ∷ [] }

abbrev pub walked : List Entry → ℕ → ℕ → WalkState → WalkState
walked rows zone size w = with_batch (sent_list (next_files rows zone size w)) (last_in rows zone (next_files rows zone size w)) w

abbrev pub note_of : List Entry → ℕ → ℕ → WalkState → BatchNote
note_of rows zone size w = record { zone = zone; session = w.session; sent = sent_list (next_files rows zone size w) }

-- what a walk answers, and the state after it
abbrev pub Walks : List Entry → ℕ → ℕ → WalkState → Walk → WalkState → Type 0
Walks rows zone size w (walk.Batch note) w' = (walk_list rows zone w.cursor ≢ []) × (note ≡ note_of rows zone size w) × (w' ≡ walked rows zone size w)
Walks rows zone size w walk.NoneLeft w' = (walk_list rows zone w.cursor ≡ []) × (w' ≡ w)
Walks rows zone size w walk.NoMemory w' = w' ≡ w
