use Rattle.std.proofs.Common.{subst}
use Rattle.name_history.specs.Entries.{MakesMeeting}
use Rattle.name_history.specs.declared.acts.NameAct.TheVariants as act
use Rattle.name_history.specs.declared.acts.NameActed.{NameActed}
use Rattle.name_cell.proofs.ReplyLemmas.{finish_is_answered, shows_meeting}
use Rattle.name_cell.proofs.calls.finish_meeting.Goals as goal

pub finish_in-requires : goal.finish_in-requires
finish_in-requires g c = finish_is_answered _ _ _ _ c.args.answered c.act_meeting-acted.result c.act_meeting-acted.ensures.acts

pub returns : goal.returns
returns g c =
    subst (λ (r : NameActed). MakesMeeting g.K.D.Disk.state g.K.KeysCell.to_come c.args.pass.now (g.K.KeysCell.seen c.args.with) (act.Finish c.args.answered) r c.act_meeting-acted.new.pass) c.finish_in.ensures
    (shows_meeting _ _ g.K.KeysCell.seen _ _ c.args.with _ _ c.act_meeting-acted.ensures)
