use Rattle.shared_tests.proofs.AskLemmas.{got_as_superuser}
use Rattle.shared_tests.proofs.asks.call.Goals as goal

pub returns : goal.returns
returns g c =
    got_as_superuser g.S.Turns.state g.S.Turns.to_come (g.S.Turns.keys_seen c.args.keys.now) (g.S.Turns.keys_seen c.call_keys.new.pass) c.superuser.result c.expect-user.result c.args.call c.call_keys.result c.superuser.ensures
    c.expect-user.ensures c.call_keys.ensures
