use Rattle.cell_tests.proofs.Drawing.{met}
use Rattle.cell_tests.proofs.workers.meet_and_give_back.Goals as goal

pub act-requires : goal.act-requires
act-requires g c = record {
  allowed = met _ c.args.other c.meet.new.into c.args.number c.in-Some.number c.in-Some.is c.meet.ensures.both c.requires.drawn;
  alone = tt;
}
