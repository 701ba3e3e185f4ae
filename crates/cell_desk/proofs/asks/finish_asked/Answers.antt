use Rattle.std.proofs.Common.{refl, subst}
use Rattle.name_history.specs.Asked.{AnswersWant}
use Rattle.cell_desk.proofs.FinishLemmas.{finished_alone, finished_meeting, got_for_note}
use Rattle.cell_desk.proofs.asks.finish_asked.Goals as goal

pub finish_names-requires-clause-seen : goal.finish_names-requires-clause-seen
finish_names-requires-clause-seen g c = (c.args.note, c.requires.noted, record { id = refl; answers = subst (AnswersWant c.args.note.want) c.in-None.is c.call_wanted.ensures.answers })

pub returns-in-None : goal.returns-in-None
returns-in-None g c =
    finished_alone g.S.Turns.state g.S.Turns.to_come (g.S.Turns.keys_seen c.call_wanted.new.pass) (g.S.Turns.names_seen c.args.names.now) (g.S.Turns.names_seen c.finish_names.new.pass) c.args.note c.call_wanted.result c.finish_names.result
    c.call_wanted.ensures.got c.call_wanted.ensures.answers c.in-None.is c.finish_names.ensures

pub finish_meeting-requires-clause-seen : goal.finish_meeting-requires-clause-seen
finish_meeting-requires-clause-seen g c = (c.args.note, c.requires.noted, record { id = refl; answers = subst (AnswersWant c.args.note.want) c.in-Some.is c.call_wanted.ensures.answers })

pub finish_meeting-requires-clause-got : goal.finish_meeting-requires-clause-got
finish_meeting-requires-clause-got g c =
    (c.args.note, c.requires.noted, got_for_note (g.S.Turns.keys_seen c.call_wanted.new.pass) c.args.note c.call_wanted.result c.in-Some.reply c.call_wanted.ensures.got c.in-Some.is)

pub returns-in-Some : goal.returns-in-Some
returns-in-Some g c =
    finished_meeting g.S.Turns.state g.S.Turns.to_come (g.S.Turns.keys_seen c.call_wanted.new.pass) (g.S.Turns.names_seen c.args.names.now) (g.S.Turns.names_seen c.finish_meeting.new.pass) c.args.note c.call_wanted.result c.in-Some.reply c.finish_meeting.result
    c.call_wanted.ensures.got c.call_wanted.ensures.none_met c.call_wanted.ensures.answers c.in-Some.is c.finish_meeting.ensures
