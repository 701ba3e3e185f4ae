use Rattle.std.proofs.Common.{subst}
use Rattle.name_history.specs.Entries.{MakesLending}
use Rattle.name_history.specs.declared.acts.NameAct.TheVariants as act
use Rattle.name_history.specs.declared.acts.NameActed.{NameActed}
use Rattle.name_cell.proofs.ReplyLemmas.{walk_is_answered, shows_lending}
use Rattle.name_cell.proofs.calls.walk_names.Goals as goal

pub walk_in-walked-requires : goal.walk_in-walked-requires
walk_in-walked-requires g c = walk_is_answered _ _ _ _ c.args.zone c.in-Ok.acted c.in-Ok.ensures.lent.acts

pub returns-in-Ok-clause-lent : goal.returns-in-Ok-clause-lent
returns-in-Ok-clause-lent g c =
    subst (λ (r : NameActed). MakesLending g.K.D.Disk.state g.K.KeysCell.to_come c.args.pass.now (act.Walk c.args.zone) r c.act_lending.new.pass (g.K.KeysCell.seen c.in-Ok.lent)) c.walk_in-walked.ensures
    (shows_lending _ _ g.K.KeysCell.seen _ _ c.args.zone _ c.in-Ok.lent c.in-Ok.ensures.lent)
