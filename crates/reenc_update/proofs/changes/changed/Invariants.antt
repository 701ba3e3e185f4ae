use Rattle.std.proofs.Common.{◌≡◌, take}
use Rattle.reenc_update.specs.Changes.{changed}
use Rattle.reenc_update.proofs.changes.changed.Given as goal

-- the files so far, of those that were sent
abbrev pub invariant-loop-k : goal.invariant-loop-k
invariant-loop-k l = l.files.items ≡ changed l.tree.rows l.zone (take l.k l.sent) (take l.k l.edeks)
