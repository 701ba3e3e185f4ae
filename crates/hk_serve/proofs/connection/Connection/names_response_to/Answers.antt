use Rattle.std.proofs.Common.{refl}
use Rattle.name_rest.specs.Responses.{fault_status, fault_text}
use Rattle.hk_serve.specs.Exchanges.{NamesFault, NoCall}
use Rattle.hk_serve.proofs.ResponseLemmas.{responds_with}
use Rattle.hk_serve.proofs.connection.Connection.names_response_to.Goals as goal

pub returns-in-Err-clause-comes : goal.returns-in-Err-clause-comes
returns-in-Err-clause-comes g c = (
  NoCall (NamesFault c.in-Err.fault),
  ((c.requires.names, c.in-Err.ensures), (refl, responds_with (NoCall (NamesFault c.in-Err.fault)) (fault_status c.in-Err.fault) (fault_text c.in-Err.fault) refl refl c.respond_name_fault.result c.respond_name_fault.ensures.status c.respond_name_fault.ensures.body c.respond_name_fault.ensures.known)),
)
