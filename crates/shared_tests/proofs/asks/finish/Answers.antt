use Rattle.std.proofs.Common.{refl}
use Rattle.shared_tests.proofs.asks.finish.Goals as goal

pub finish_meeting-finished-requires-clause-seen : goal.finish_meeting-finished-requires-clause-seen
finish_meeting-finished-requires-clause-seen g c = (c.args.note, c.requires, record { id = refl; answers = c.call_wanted-reply.ensures.answers })

pub finish_meeting-finished-requires-clause-got : goal.finish_meeting-finished-requires-clause-got
finish_meeting-finished-requires-clause-got g c = (c.args.note, c.requires, record { id = refl; got = c.call_wanted-reply.ensures.got })
