-- The call that a request makes of the key management service, and its user.
use Rattle.std.specs.Prelude.{◌≡◌, ◌⊎◌, ℕ, List, Result, Ok, Err, ⊤}
use Rattle.percent_encoding.specs.Percent.{percent_decode}
use Rattle.http_wire.specs.Message.{Message}
use Rattle.kms_calls.specs.declared.calls.KmsCall.{KmsCall}
use Rattle.path_routes.specs.declared.query.Parameter.{Parameter}
use Rattle.path_routes.specs.Queries.{parameters, path_of, query_of}
use Rattle.path_routes.specs.Users.{NamesBadUser, NamesNoUser, NamesUser}
use Rattle.kms_rest.specs.declared.faults.RestFault.{RestFault}
use Rattle.kms_rest.specs.declared.faults.RestFault.TheVariants as fault
use Rattle.kms_rest.specs.declared.operation.Operation.{Operation}
use Rattle.kms_rest.specs.Operations.{HasBadMethod, HasNoRoute, Routes}
use Rattle.kms_rest.specs.Calls.{AreGivenOnce, AsksBy, AsksNothingBy}

-- the parameters of a request's query
abbrev pub query_in : Message → List Parameter
query_in request = parameters (query_of request.target)

-- The request names this operation, and this name in its path: the open part, percent-decoded.
pub record NamesOperation (request : Message) (operation : Operation) (name : List ℕ) : Type 0 where
  pub part : List ℕ
  pub routes : Routes request.method (path_of request.target) operation part
  pub decoded : name ≡ percent_decode part

-- The request makes this call, as this user.
pub record AsksCall (request : Message) (user : List ℕ) (call : KmsCall) : Type 0 where
  pub operation : Operation
  pub name : List ℕ
  pub names : NamesOperation request operation name
  pub named : NamesUser (query_in request) user
  pub single : AreGivenOnce (query_in request)
  pub asks : AsksBy operation name (query_in request) request.body call

-- The request names an operation, and no user.
pub record HasNoUser (request : Message) : Type 0 where
  pub operation : Operation
  pub name : List ℕ
  pub names : NamesOperation request operation name
  pub none : NamesNoUser (query_in request)

-- The request names an operation, and a user or `doAs`, and makes no call: the user is not allowed, a parameter is given
-- twice, or the operation lacks what it needs.
pub record IsBadRequest (request : Message) : Type 0 where
  pub operation : Operation
  pub name : List ℕ
  pub names : NamesOperation request operation name
  pub some : ¬ NamesNoUser (query_in request)
  pub why : NamesBadUser (query_in request) ⊎ (¬ AreGivenOnce (query_in request) ⊎ AsksNothingBy operation name (query_in request) request.body)

-- the meaning of a request: a call and its user, or why there is none; memory may run out for any request
abbrev pub Says : Message → Result (List ℕ × KmsCall) RestFault → Type 0
Says request (Ok asked) = AsksCall request asked.0 asked.1
Says request (Err fault.NoRoute) = HasNoRoute (path_of request.target)
Says request (Err fault.BadMethod) = HasBadMethod request.method (path_of request.target)
Says request (Err fault.NoUser) = HasNoUser request
Says request (Err fault.BadRequest) = IsBadRequest request
Says request (Err fault.NoMemory) = ⊤
