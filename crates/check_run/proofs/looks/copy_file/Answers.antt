use Rattle.disk_kinds.specs.Plain.{contents}
use Rattle.check_run.proofs.LookLemmas.{front_of_copy}
use Rattle.check_run.proofs.looks.copy_file.Goals as goal

pub copy_more-requires-in-rounds-clause-front : goal.copy_more-requires-in-rounds-clause-front
copy_more-requires-in-rounds-clause-front g c =
    front_of_copy c.args.file c.rounds.at (g.D.Disk.state c.args.disk.now) (g.D.Disk.state c.rounds.disk) (contents c.rounds.copy c.args.file) c.requires.file c.rounds.invariant.looks c.rounds.invariant.copied
