use Rattle.http_wire.specs.Reading.{ahead}
use Rattle.http_wire.proofs.StreamLemmas.{exactly}
use Rattle.http_wire.proofs.requests.read_request.Goals as goal

pub returns-clause-exact : goal.returns-clause-exact
returns-clause-exact g c = exactly (ahead c.args.buffer.now (g.S.Source.left c.args.source.now)) (ahead c.read_message.new.buffer (g.S.Source.left c.read_message.new.source)) c.read_message.result c.read_message.ensures.request c.read_message.ensures.fault
