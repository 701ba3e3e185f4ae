use Rattle.std.proofs.Common.{◌≡◌, drop}
use Rattle.name_store.specs.Table.{with_edeks}
use Rattle.name_store.specs.Updates.{AreFiles}
use Rattle.name_store.proofs.effects.update.Given as goal

abbrev pub invariant-loop-file : goal.invariant-loop-file
invariant-loop-file l = record {
  files : AreFiles l.tree.rows (drop l.file-index l.fn.files);
  rows : with_edeks (drop l.file-index l.fn.files) l.tree.rows ≡ with_edeks l.fn.files l.fn.tree.rows;
}
