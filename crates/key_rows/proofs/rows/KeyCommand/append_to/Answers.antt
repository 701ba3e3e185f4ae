use Rattle.key_rows.proofs.rows.KeyCommand.append_to.Goals as goal

pub returns-in-Roll-clause-ok : goal.returns-in-Roll-clause-ok
returns-in-Roll-clause-ok c = rw c.in-Roll.is c.append_roll.ensures.ok
