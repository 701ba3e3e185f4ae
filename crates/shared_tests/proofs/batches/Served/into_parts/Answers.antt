use Rattle.std.proofs.Common.{◌≤◌, ℕ, subst, sym}
use Rattle.shared_tests.proofs.BatchLemmas.{got_after_earlier}
use Rattle.shared_tests.proofs.batches.Served.into_parts.Goals as goal

pub returns : goal.returns
returns g c =
    got_after_earlier c.args.front c.self.inside.front c.self.inside.reply (g.S.Turns.keys_seen c.self.inside.keys) (subst (λ (n : ℕ). c.args.front ≤ n) (sym c.self.view_is) c.requires) c.self.invariant
