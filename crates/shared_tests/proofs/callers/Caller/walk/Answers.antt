use Rattle.shared_tests.proofs.BatchLemmas.{front_lent}
use Rattle.shared_tests.proofs.callers.Caller.walk.Goals as goal

pub returns : goal.returns
returns g c =
    front_lent g.S.Turns.state g.S.Turns.to_come g.S.Turns.keys_seen (g.S.Turns.names_seen c.args.self.now.names) (g.S.Turns.names_seen c.walk_turn-lent.new.pass) c.path-zone.result c.walk_turn-lent.result c.expect.result c.walk_turn-lent.ensures.lent
    c.expect.ensures
