-- Batches by their index.
use Rattle.std.specs.Prelude.{ℕ, suc, List, [], ◌∷◌, if◌then◌else◌}
use Rattle.reenc_walk.specs.declared.batches.WalkedBatch.{WalkedBatch}
use Rattle.reenc_walk.specs.declared.sent.Sent.{Sent}
use Rattle.reenc_walk.specs.Walks.{is_of}

-- the index of the first outstanding batch that has sent these files, or the number of batches
abbrev pub batch_at : List Sent → List WalkedBatch → ℕ
batch_at sent [] = 0
batch_at sent (b ∷ bs) = if is_of sent b then 0 else suc (batch_at sent bs)

-- how many batches come before the first outstanding one
abbrev pub run_length : List WalkedBatch → ℕ
run_length [] = 0
run_length (b ∷ bs) = if b.outstanding then 0 else suc (run_length bs)
