use Rattle.std.proofs.Common.{subst}
use Rattle.name_history.specs.Entries.{MakesMeeting}
use Rattle.name_history.specs.declared.acts.NameAct.TheVariants as act
use Rattle.name_history.specs.declared.acts.NameActed.{NameActed}
use Rattle.name_cell.proofs.ReplyLemmas.{delivery_is_answered, shows_meeting}
use Rattle.name_cell.proofs.calls.deliver_names.Goals as goal

pub delivery_in-requires : goal.delivery_in-requires
delivery_in-requires g c = delivery_is_answered _ _ _ _ c.args.front c.args.reply c.act_meeting-acted.result c.act_meeting-acted.ensures.acts

pub returns : goal.returns
returns g c =
    subst (λ (r : NameActed). MakesMeeting g.K.D.Disk.state g.K.KeysCell.to_come c.args.pass.now (g.K.KeysCell.seen c.args.with) (act.Deliver c.args.front c.args.reply) r c.act_meeting-acted.new.pass) c.delivery_in.ensures
    (shows_meeting _ _ g.K.KeysCell.seen _ _ c.args.with _ _ c.act_meeting-acted.ensures)
