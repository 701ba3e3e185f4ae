use Rattle.std.proofs.Common.{refl}
use Rattle.disk_kinds.specs.Plain.{state_of}
use Rattle.check_run.proofs.FoundLemmas.{sums_names}
use Rattle.check_run.proofs.run.text_beside.Goals as goal

pub returns-in-Ok-text-clause-sums : goal.returns-in-Ok-text-clause-sums
returns-in-Ok-text-clause-sums c = sums_names c.args.keys.now.table.keys (state_of c.args.copy.now) (state_of c.start.new.disk) c.in-Ok.names c.in-Ok-text.text c.in-Ok.ensures.started refl c.in-Ok-text.ensures
