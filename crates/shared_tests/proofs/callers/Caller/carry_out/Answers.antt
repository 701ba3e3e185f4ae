use Rattle.shared_tests.proofs.AskLemmas.{has_noted}
use Rattle.shared_tests.proofs.callers.Caller.carry_out.Goals as goal

pub finish-requires : goal.finish-requires
finish-requires g c =
    has_noted g.S.Turns.state g.S.Turns.to_come (g.S.Turns.names_seen c.args.self.now.names) (g.S.Turns.names_seen c.ask_names-asked.new.pass) c.text-user.result c.args.ask c.ask_names-asked.result c.expect-note.result
    c.ask_names-asked.ensures c.expect-note.ensures
