use Rattle.std.proofs.Common.{◌-◌}
use Rattle.edit_ops.specs.Reading.{file_key_at}
use Rattle.edit_ops.proofs.Counted.{GoesOn}
use Rattle.edit_ops.proofs.reading.files_of.Given as goal

-- the files so far, and those that are still to be read from what is left
abbrev pub invariant-loop : goal.invariant-loop
invariant-loop l = GoesOn file_key_at l.count l.bytes l.files.items (l.count - l.counter) l.left
