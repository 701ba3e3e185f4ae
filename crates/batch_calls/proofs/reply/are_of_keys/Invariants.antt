use Rattle.std.proofs.Common.{◌≡◌, drop}
use Rattle.reenc_update.specs.Replies.{are_of_keys}
use Rattle.batch_calls.proofs.reply.are_of_keys.Given as goal

-- the files from the k-th on decide
abbrev pub invariant-loop-k : goal.invariant-loop-k
invariant-loop-k l = are_of_keys (drop l.k l.sent) (drop l.k l.keys) ≡ are_of_keys l.sent l.keys
