use Rattle.std.proofs.Common.{refl}
use Rattle.disk_kinds.specs.Plain.{contents, state_of}
use Rattle.check_run.proofs.FoundLemmas.{finds_keys, sums_both, unsummed_both}
use Rattle.check_run.proofs.run.text_of.Goals as goal

pub returns-in-Ok-clause-sums : goal.returns-in-Ok-clause-sums
returns-in-Ok-clause-sums c =
    sums_both (contents c.args.copy.now) (contents c.start.new.disk) c.in-Ok.keys.table.keys c.text_beside-text.result (finds_keys (contents c.args.copy.now 0) (state_of c.start.new.disk) c.in-Ok.keys (c.in-Ok.ensures.log refl))
    (c.start.ensures.opens.run.other_reads refl) c.text_beside-text.ensures.sums

pub returns-in-Ok-clause-ends : goal.returns-in-Ok-clause-ends
returns-in-Ok-clause-ends c = unsummed_both (contents c.args.copy.now) (contents c.start.new.disk) c.in-Ok.keys.table.keys c.text_beside-text.result (finds_keys (contents c.args.copy.now 0) (state_of c.start.new.disk) c.in-Ok.keys (c.in-Ok.ensures.log refl)) (c.start.ensures.opens.run.other_reads refl) c.text_beside-text.ensures.ends
