use Rattle.batch_calls.proofs.FitLemmas.{other-length}
use Rattle.batch_calls.proofs.reply.are_of_keys.Goals as goal

pub returns-then-sent-keys : goal.returns-then-sent-keys
returns-then-sent-keys c = other-length c.args.sent.now c.args.keys.now c.if-sent-keys.true
