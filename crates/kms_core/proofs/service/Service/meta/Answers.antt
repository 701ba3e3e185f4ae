use Rattle.kms_core.specs.State.{keys_of}
use Rattle.kms_core.proofs.AnswerLemmas.{known_of}
use Rattle.kms_core.proofs.service.Service.meta.Goals as goal

pub returns : goal.returns
returns c = known_of (keys_of c.args.self.now) c.args.name.now c.in-Some.ensures.key _ c.in-Some.ensures.is (c.in_ok-known.ensures c.in-Some.ensures.key c.in-Some.ensures.shows)
