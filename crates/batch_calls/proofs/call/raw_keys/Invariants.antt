use Rattle.std.proofs.Common.{◌≡◌, take}
use Rattle.batch_calls.specs.Batches.{raw_keys}
use Rattle.batch_calls.proofs.call.raw_keys.Given as goal

abbrev pub invariant-loop-file : goal.invariant-loop-file
invariant-loop-file l = l.raw ≡ raw_keys (take l.file-index l.fn.sent)
