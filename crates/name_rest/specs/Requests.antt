-- The order that a request gives the namesystem, and its user.
use Rattle.std.specs.Prelude.{◌≡◌, ◌⊎◌, ℕ, List, Result, Ok, Err, ⊤}
use Rattle.http_wire.specs.Message.{Message}
pub use Rattle.kms_rest.specs.Requests.{query_in}
use Rattle.path_routes.specs.Queries.{path_of}
use Rattle.path_routes.specs.Users.{NamesBadUser, NamesNoUser, NamesUser}
use Rattle.name_rest.specs.declared.faults.NameRestFault.{NameRestFault}
use Rattle.name_rest.specs.declared.faults.NameRestFault.TheVariants as fault
use Rattle.name_rest.specs.declared.operation.Operation.{Operation}
use Rattle.name_rest.specs.declared.order.NameOrder.{NameOrder}
use Rattle.name_rest.specs.Operations.{HasBadMethod, HasNoRoute, Routes}
use Rattle.name_rest.specs.Orders.{order_of}

-- the request's method and path are those of the operation
abbrev pub IsOfOperation : Message → Operation → Type 0
IsOfOperation request operation = Routes request.method (path_of request.target) operation

-- The request gives this order, as this user.
pub record GivesOrder (request : Message) (user : List ℕ) (order : NameOrder) : Type 0 where
  pub operation : Operation
  pub of : IsOfOperation request operation
  pub named : NamesUser (query_in request) user
  pub order_is : order_of operation (query_in request) ≡ Ok order

-- The request is of an operation, and names no user.
pub record HasNoUser (request : Message) : Type 0 where
  pub operation : Operation
  pub of : IsOfOperation request operation
  pub none : NamesNoUser (query_in request)

-- The request is of an operation and gives a user. The user is not allowed, or a parameter is at fault.
pub record IsBadRequest (request : Message) : Type 0 where
  pub operation : Operation
  pub of : IsOfOperation request operation
  pub some : ¬ NamesNoUser (query_in request)
  pub why : NamesBadUser (query_in request) ⊎ (order_of operation (query_in request) ≡ Err fault.BadRequest)

-- The request is of an operation and names a user and each parameter, and a path or the name of a snapshot breaks its rule.
pub record HasBadPath (request : Message) : Type 0 where
  pub operation : Operation
  pub user : List ℕ
  pub of : IsOfOperation request operation
  pub named : NamesUser (query_in request) user
  pub why : order_of operation (query_in request) ≡ Err fault.BadPath

-- the meaning of a request: an order and its user, or why there is none; memory may run out for any request
abbrev pub Says : Message → Result (List ℕ × NameOrder) NameRestFault → Type 0
Says request (Ok said) = GivesOrder request said.0 said.1
Says request (Err fault.NoRoute) = HasNoRoute (path_of request.target)
Says request (Err fault.BadMethod) = HasBadMethod request.method (path_of request.target)
Says request (Err fault.NoUser) = HasNoUser request
Says request (Err fault.BadRequest) = IsBadRequest request
Says request (Err fault.BadPath) = HasBadPath request
Says request (Err fault.NoMemory) = ⊤
