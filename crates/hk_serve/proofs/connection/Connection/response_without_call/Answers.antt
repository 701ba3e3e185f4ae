use Rattle.std.proofs.Common.{refl}
use Rattle.kms_rest.specs.Responses.{fault_status, fault_text}
use Rattle.hk_serve.specs.Exchanges.{KeysFault, NoCall}
use Rattle.hk_serve.proofs.ResponseLemmas.{responds_with}
use Rattle.hk_serve.proofs.connection.Connection.response_without_call.Goals as goal

pub returns-clause-comes : goal.returns-clause-comes
returns-clause-comes g c = (
  NoCall (KeysFault c.args.fault),
  ((c.requires.says, λ e. let no = c.if-is_no_route.ensures.1 e in absurd cc), (refl, responds_with (NoCall (KeysFault c.args.fault)) (fault_status c.args.fault) (fault_text c.args.fault) refl refl c.respond_fault.result c.respond_fault.ensures.status c.respond_fault.ensures.body c.respond_fault.ensures.known)),
)
