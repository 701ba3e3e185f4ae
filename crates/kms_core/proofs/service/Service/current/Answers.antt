use Rattle.kms_core.specs.State.{keys_of}
use Rattle.kms_core.proofs.KeyLemmas.{newest_is}
use Rattle.kms_core.proofs.service.Service.current.Goals as goal

pub returns : goal.returns
returns c =
    let has = c.in_ok-key.ensures.key in
    newest_is (keys_of c.args.self.now) c.args.name.now has.key c.newest.result has.found has.born (c.newest.ensures has.key has.knows has.rules)
