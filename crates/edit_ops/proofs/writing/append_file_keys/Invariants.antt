use Rattle.std.proofs.Common.{◌≡◌, ◌++◌, take}
use Rattle.std.specs.List.{AllByRecursion}
use Rattle.edit_ops.specs.Records.{IsFileKey, files_field}
use Rattle.edit_ops.proofs.writing.append_file_keys.Given as goal

abbrev pub invariant-loop-file : goal.invariant-loop-file
invariant-loop-file l = (l.out ≡ l.initial.out ++ files_field (take l.file-index l.files)) × AllByRecursion IsFileKey (take l.file-index l.files)
