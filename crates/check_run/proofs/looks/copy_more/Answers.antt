use Rattle.std.proofs.Common.{◌∙◌}
use Rattle.disk_kinds.specs.Plain.{contents}
use Rattle.check_run.proofs.LookLemmas.{copied_more}
use Rattle.check_run.proofs.looks.copy_more.Goals as goal

pub pieces-preserved : goal.pieces-preserved
pieces-preserved g c = record {
  so_far =
      copied_more c.args.file c.pieces.at c.in-Ok.size (g.D.Disk.state c.args.disk.now) (g.D.Disk.state c.pieces.disk) (g.D.Disk.state c.copy_piece.new.disk) (contents c.pieces.copy c.args.file) (contents c.copy_piece.new.copy c.args.file)
      c.in-Ok-copy_piece.count c.requires.file c.pieces.invariant.so_far c.copy_piece.ensures.looks c.in-Ok-copy_piece.ensures.copied;
  other = c.copy_piece.ensures.other ∙ c.pieces.invariant.other;
}
