use Rattle.copy_runs.proofs.command.copy_in.Goals as goal

pub returns-clause-copies : goal.returns-clause-copies
returns-clause-copies g c = (_, (_, c.copy_opened_over-ended.ensures.read, c.copy_opened_over-ended.ensures.copies, c.copy_opened_over-ended.ensures.refused))
