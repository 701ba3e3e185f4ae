-- A request has one meaning.
use Rattle.std.proofs.Common.{◌≡◌, ◌⊎◌, inl, inr, ℕ, Bool, true, false, cond, List, [], ◌∷◌, codes, Option, Some, None, Ok, Err, refl, sym, ap, ◌∙◌, subst}
use Rattle.std.specs.Option.{ok_or}
use Rattle.std.specs.Str.{bytes_eq}
use Rattle.hk_base.specs.Names.{is_key_name}
use Rattle.http_wire.specs.Message.{Message}
use Rattle.name_calls.specs.Paths.{is_component, read_path}
use Rattle.name_calls.specs.declared.read_paths.ReadPath.{ReadPath}
use Rattle.name_calls.specs.ReadPaths.{read_any_path}
use Rattle.path_routes.specs.declared.query.Parameter.{Parameter}
use Rattle.path_routes.specs.Queries.{path_of as target_path, values}
use Rattle.path_routes.specs.Users.{NamesBadUser, NamesNoUser, NamesUser, user_values}
use Rattle.name_rest.specs.declared.faults.NameRestFault.{NameRestFault}
use Rattle.name_rest.specs.declared.faults.NameRestFault.TheVariants as fault
use Rattle.name_rest.specs.declared.operation.Operation.{Operation}
use Rattle.name_rest.specs.declared.operation.Operation.TheVariants as op
use Rattle.name_rest.specs.declared.order.NameOrder.{NameOrder}
use Rattle.name_rest.specs.Operations.{HasBadMethod, HasNoRoute}
use Rattle.name_rest.specs.Orders.{OrderReading, and_then, any_path_in, delete_in, flag_or_false, key_in, needed, on_any_path, on_path, on_snapshot, only, order_of, path_in, path_of, recursive_in, rename_in, snapshot_name_of, zone_in}
use Rattle.kms_rest.specs.Requests.{query_in}
use Rattle.name_rest.specs.Requests.{HasBadPath, IsBadRequest, IsOfOperation, GivesOrder, Says}
use Rattle.name_rest.specs.Laws.{SaysOneThing}
use Rattle.name_rest.proofs.RouteLemmas.{same_operation}

-- ---- the faults of an order are BadRequest and BadPath

abbrev IsOfQuery : {A : Type 0} → OrderReading A → Type 0
IsOfQuery (Ok a) = Unit {0}
IsOfQuery (Err fault.NoRoute) = ⊥
IsOfQuery (Err fault.BadMethod) = ⊥
IsOfQuery (Err fault.NoUser) = ⊥
IsOfQuery (Err fault.BadRequest) = Unit {0}
IsOfQuery (Err fault.BadPath) = Unit {0}
IsOfQuery (Err fault.NoMemory) = ⊥

after : {A B : Type 0} (read : OrderReading A) (next : A → OrderReading B) → IsOfQuery read → ((a : A) → IsOfQuery (next a)) → IsOfQuery (and_then read next)
after (Ok a) next h k = k a
after (Err fault.NoRoute) next h k = absurd h
after (Err fault.BadMethod) next h k = absurd h
after (Err fault.NoUser) next h k = absurd h
after (Err fault.BadRequest) next h k = tt
after (Err fault.BadPath) next h k = tt
after (Err fault.NoMemory) next h k = absurd h

either : {A : Type 0} (b : Bool) (x y : OrderReading A) → IsOfQuery x → IsOfQuery y → IsOfQuery (cond b x y)
either true x y h k = h
either false x y h k = k

or_bad_path : {A : Type 0} (o : Option A) → IsOfQuery (ok_or o fault.BadPath)
or_bad_path (Some a) = tt
or_bad_path None = tt

only_given : (vs : List (List ℕ)) → IsOfQuery (only vs)
only_given [] = tt
only_given (v ∷ []) = tt
only_given (v ∷ w ∷ vs) = tt

flag_given : (vs : List (List ℕ)) → IsOfQuery (flag_or_false vs)
flag_given [] = tt
flag_given (v ∷ []) = either (bytes_eq v (codes "true")) _ _ tt (either (bytes_eq v (codes "false")) _ _ tt tt)
flag_given (v ∷ w ∷ vs) = tt

on_path_given : (ps : List Parameter) (made : List (List ℕ) → NameOrder) → IsOfQuery (on_path ps made)
on_path_given ps made =
    after (path_in ps) _ (after (needed (codes "path") ps) _ (only_given (values (codes "path") ps)) (λ text. or_bad_path (read_path text))) (λ path. tt)

on_any_path_given : (ps : List Parameter) (made : ReadPath → NameOrder) → IsOfQuery (on_any_path ps made)
on_any_path_given ps made =
    after (any_path_in ps) _ (after (needed (codes "path") ps) _ (only_given (values (codes "path") ps)) (λ text. or_bad_path (read_any_path text))) (λ path. tt)

on_snapshot_given : (ps : List Parameter) (made : List (List ℕ) → List ℕ → NameOrder) → IsOfQuery (on_snapshot ps made)
on_snapshot_given ps made =
    after (needed (codes "path") ps) _ (only_given (values (codes "path") ps)) (λ text.
    after (needed (codes "name") ps) _ (only_given (values (codes "name") ps)) (λ name.
    after (path_of text) _ (or_bad_path (read_path text)) (λ path.
    after (snapshot_name_of name) _ (either (is_component name) _ _ tt tt) (λ snapshot. tt))))

delete_given : (ps : List Parameter) → IsOfQuery (delete_in ps)
delete_given ps =
    after (needed (codes "path") ps) _ (only_given (values (codes "path") ps)) (λ text.
    after (recursive_in ps) _ (flag_given (values (codes "recursive") ps)) (λ recursive.
    after (path_of text) _ (or_bad_path (read_path text)) (λ path. tt)))

rename_given : (ps : List Parameter) → IsOfQuery (rename_in ps)
rename_given ps =
    after (needed (codes "path") ps) _ (only_given (values (codes "path") ps)) (λ text.
    after (needed (codes "to") ps) _ (only_given (values (codes "to") ps)) (λ other.
    after (path_of text) _ (or_bad_path (read_path text)) (λ path.
    after (path_of other) _ (or_bad_path (read_path other)) (λ to. tt))))

zone_given : (ps : List Parameter) → IsOfQuery (zone_in ps)
zone_given ps =
    after (needed (codes "path") ps) _ (only_given (values (codes "path") ps)) (λ text.
    after (key_in ps) _ (after (needed (codes "key") ps) _ (only_given (values (codes "key") ps)) (λ value. either (is_key_name value) _ _ tt tt)) (λ key.
    after (path_of text) _ (or_bad_path (read_path text)) (λ path. tt)))

order_given : (o : Operation) (ps : List Parameter) → IsOfQuery (order_of o ps)
order_given op.Mkdir ps = on_path_given ps _
order_given op.Create ps = on_path_given ps _
order_given op.Delete ps = delete_given ps
order_given op.Rename ps = rename_given ps
order_given op.Zone ps = zone_given ps
order_given op.Reencrypt ps = on_path_given ps _
order_given op.Cancel ps = on_path_given ps _
order_given op.Allow ps = on_path_given ps _
order_given op.Disallow ps = on_path_given ps _
order_given op.Snapshot ps = on_snapshot_given ps _
order_given op.Unsnapshot ps = on_snapshot_given ps _
order_given op.Info ps = on_any_path_given ps _
order_given op.List ps = on_any_path_given ps _
order_given op.Status ps = on_path_given ps _
order_given op.Zones ps = tt

-- ---- a fault of an order as a fault of the request

no_user_named : (ps : List Parameter) (user : List ℕ) → NamesUser ps user → NamesNoUser ps → ⊥
no_user_named ps user is (inl none) = two (user_values ps) user is.once none
  where
    two : (vs : List (List ℕ)) (u : List ℕ) → vs ≡ u ∷ [] → vs ≡ [] → ⊥
    two vs u a b = cc
no_user_named ps user is (inr empty) = is.some (unhead user [] (sym is.once ∙ empty))
  where
    unhead : (u v : List ℕ) → u ∷ [] ≡ v ∷ [] → u ≡ v
    unhead u v e = cc

abbrev failed : NameRestFault → OrderReading NameOrder
failed e = Err e

no_such_fault : (e : NameRestFault) (read : OrderReading NameOrder) → read ≡ Err e → IsOfQuery read → IsOfQuery (failed e)
no_such_fault e read is h = subst (λ (r : OrderReading NameOrder). IsOfQuery r) is h

pub said_nothing : (request : Message) (o : Operation) (ps : List Parameter) (user : List ℕ) → IsOfOperation request o → ps ≡ query_in request → NamesUser ps user
    → (e : NameRestFault) → (¬ (e ≡ fault.NoMemory) → order_of o ps ≡ Err e) → Says request (Err e)
said_nothing request o ps user is q u fault.NoRoute h = absurd (no_such_fault fault.NoRoute (order_of o ps) (h (λ x. cc)) (order_given o ps))
said_nothing request o ps user is q u fault.BadMethod h = absurd (no_such_fault fault.BadMethod (order_of o ps) (h (λ x. cc)) (order_given o ps))
said_nothing request o ps user is q u fault.NoUser h = absurd (no_such_fault fault.NoUser (order_of o ps) (h (λ x. cc)) (order_given o ps))
said_nothing request o ps user is q u fault.BadRequest h = record {
  operation = o;
  of = is;
  some = no_user_named (query_in request) user (subst (λ (qs : List Parameter). NamesUser qs user) q u);
  why = inr (ap (order_of o) (sym q) ∙ h (λ x. cc));
}
said_nothing request o ps user is q u fault.BadPath h = record {
  operation = o;
  user = user;
  of = is;
  named = subst (λ (qs : List Parameter). NamesUser qs user) q u;
  why = ap (order_of o) (sym q) ∙ h (λ x. cc);
}
said_nothing request o ps user is q u fault.NoMemory h = tt

-- ---- one meaning

same : (request : Message) (o q : Operation) → IsOfOperation request o → IsOfOperation request q → o ≡ q
same request o q x y = same_operation (target_path request.target) o q x.there y.there

unhead_user : (vs : List (List ℕ)) (u v : List ℕ) → vs ≡ u ∷ [] → vs ≡ v ∷ [] → u ≡ v
unhead_user vs u v x y = cc

unok : (r : OrderReading NameOrder) (a b : NameOrder) → r ≡ Ok a → r ≡ Ok b → a ≡ b
unok r a b x y = cc

no_two : (r : OrderReading NameOrder) (a : NameOrder) (e : NameRestFault) → r ≡ Ok a → r ≡ Err e → ⊥
no_two r a e x y = cc

two_faults : (r : OrderReading NameOrder) → r ≡ Err fault.BadRequest → r ≡ Err fault.BadPath → ⊥
two_faults r x y = cc

-- what one operation gives, the other one gives
moved : (request : Message) (o q : Operation) (r : OrderReading NameOrder) → IsOfOperation request o → IsOfOperation request q → order_of o (query_in request) ≡ r → order_of q (query_in request) ≡ r
moved request o q r x y e = ap (λ p. order_of p (query_in request)) (same request q o y x) ∙ e

same_order : (request : Message) (u v : List ℕ) (a b : NameOrder) → GivesOrder request u a → GivesOrder request v b → (u ≡ v) × (a ≡ b)
same_order request u v a b x y =
    (unhead_user (user_values (query_in request)) u v x.named.once y.named.once, unok (order_of x.operation (query_in request)) a b x.order_is (moved request y.operation x.operation (Ok b) y.of x.of y.order_is))

order_not_bad : (request : Message) (u : List ℕ) (a : NameOrder) → GivesOrder request u a → IsBadRequest request → ⊥
order_not_bad request u a x y = by y.why
  where
    by : NamesBadUser (query_in request) ⊎ (order_of y.operation (query_in request) ≡ Err fault.BadRequest) → ⊥
    by (inl bad) = bad.1 u x.named
    by (inr e) = no_two (order_of x.operation (query_in request)) a fault.BadRequest x.order_is (moved request y.operation x.operation (Err fault.BadRequest) y.of x.of e)

order_not_path : (request : Message) (u : List ℕ) (a : NameOrder) → GivesOrder request u a → HasBadPath request → ⊥
order_not_path request u a x y = no_two (order_of x.operation (query_in request)) a fault.BadPath x.order_is (moved request y.operation x.operation (Err fault.BadPath) y.of x.of y.why)

path_not_bad : (request : Message) → HasBadPath request → IsBadRequest request → ⊥
path_not_bad request x y = by y.why
  where
    by : NamesBadUser (query_in request) ⊎ (order_of y.operation (query_in request) ≡ Err fault.BadRequest) → ⊥
    by (inl bad) = bad.1 x.user x.named
    by (inr e) = two_faults (order_of x.operation (query_in request)) (moved request y.operation x.operation (Err fault.BadRequest) y.of x.of e) x.why

no_route_of : (request : Message) (o : Operation) → HasNoRoute (target_path request.target) → IsOfOperation request o → ⊥
no_route_of request o none x = none o x.there

no_route_bad : (request : Message) → HasNoRoute (target_path request.target) → HasBadMethod request.method (target_path request.target) → ⊥
no_route_bad request none bad = none bad.operation bad.there

bad_method_of : (request : Message) (o : Operation) → HasBadMethod request.method (target_path request.target) → IsOfOperation request o → ⊥
bad_method_of request o bad x = bad.other o x

pub one_answer : (request : Message) → SaysOneThing request
one_answer request (Ok p) (Ok q) x y k m = let e = same_order request p.0 q.0 p.1 q.1 x y in λ i. Ok (e.0 i, e.1 i)
one_answer request (Ok p) (Err fault.NoRoute) x y k m = absurd (no_route_of request x.operation y x.of)
one_answer request (Ok p) (Err fault.BadMethod) x y k m = absurd (bad_method_of request x.operation y x.of)
one_answer request (Ok p) (Err fault.NoUser) x y k m = absurd (no_user_named (query_in request) p.0 x.named y.none)
one_answer request (Ok p) (Err fault.BadRequest) x y k m = absurd (order_not_bad request p.0 p.1 x y)
one_answer request (Ok p) (Err fault.BadPath) x y k m = absurd (order_not_path request p.0 p.1 x y)
one_answer request (Ok p) (Err fault.NoMemory) x y k m = absurd (m refl)
one_answer request (Err fault.NoRoute) (Ok q) x y k m = absurd (no_route_of request y.operation x y.of)
one_answer request (Err fault.NoRoute) (Err fault.NoRoute) x y k m = refl
one_answer request (Err fault.NoRoute) (Err fault.BadMethod) x y k m = absurd (no_route_bad request x y)
one_answer request (Err fault.NoRoute) (Err fault.NoUser) x y k m = absurd (no_route_of request y.operation x y.of)
one_answer request (Err fault.NoRoute) (Err fault.BadRequest) x y k m = absurd (no_route_of request y.operation x y.of)
one_answer request (Err fault.NoRoute) (Err fault.BadPath) x y k m = absurd (no_route_of request y.operation x y.of)
one_answer request (Err fault.NoRoute) (Err fault.NoMemory) x y k m = absurd (m refl)
one_answer request (Err fault.BadMethod) (Ok q) x y k m = absurd (bad_method_of request y.operation x y.of)
one_answer request (Err fault.BadMethod) (Err fault.NoRoute) x y k m = absurd (no_route_bad request y x)
one_answer request (Err fault.BadMethod) (Err fault.BadMethod) x y k m = refl
one_answer request (Err fault.BadMethod) (Err fault.NoUser) x y k m = absurd (bad_method_of request y.operation x y.of)
one_answer request (Err fault.BadMethod) (Err fault.BadRequest) x y k m = absurd (bad_method_of request y.operation x y.of)
one_answer request (Err fault.BadMethod) (Err fault.BadPath) x y k m = absurd (bad_method_of request y.operation x y.of)
one_answer request (Err fault.BadMethod) (Err fault.NoMemory) x y k m = absurd (m refl)
one_answer request (Err fault.NoUser) (Ok q) x y k m = absurd (no_user_named (query_in request) q.0 y.named x.none)
one_answer request (Err fault.NoUser) (Err fault.NoRoute) x y k m = absurd (no_route_of request x.operation y x.of)
one_answer request (Err fault.NoUser) (Err fault.BadMethod) x y k m = absurd (bad_method_of request x.operation y x.of)
one_answer request (Err fault.NoUser) (Err fault.NoUser) x y k m = refl
one_answer request (Err fault.NoUser) (Err fault.BadRequest) x y k m = absurd (y.some x.none)
one_answer request (Err fault.NoUser) (Err fault.BadPath) x y k m = absurd (no_user_named (query_in request) y.user y.named x.none)
one_answer request (Err fault.NoUser) (Err fault.NoMemory) x y k m = absurd (m refl)
one_answer request (Err fault.BadRequest) (Ok q) x y k m = absurd (order_not_bad request q.0 q.1 y x)
one_answer request (Err fault.BadRequest) (Err fault.NoRoute) x y k m = absurd (no_route_of request x.operation y x.of)
one_answer request (Err fault.BadRequest) (Err fault.BadMethod) x y k m = absurd (bad_method_of request x.operation y x.of)
one_answer request (Err fault.BadRequest) (Err fault.NoUser) x y k m = absurd (x.some y.none)
one_answer request (Err fault.BadRequest) (Err fault.BadRequest) x y k m = refl
one_answer request (Err fault.BadRequest) (Err fault.BadPath) x y k m = absurd (path_not_bad request y x)
one_answer request (Err fault.BadRequest) (Err fault.NoMemory) x y k m = absurd (m refl)
one_answer request (Err fault.BadPath) (Ok q) x y k m = absurd (order_not_path request q.0 q.1 y x)
one_answer request (Err fault.BadPath) (Err fault.NoRoute) x y k m = absurd (no_route_of request x.operation y x.of)
one_answer request (Err fault.BadPath) (Err fault.BadMethod) x y k m = absurd (bad_method_of request x.operation y x.of)
one_answer request (Err fault.BadPath) (Err fault.NoUser) x y k m = absurd (no_user_named (query_in request) x.user x.named y.none)
one_answer request (Err fault.BadPath) (Err fault.BadRequest) x y k m = absurd (path_not_bad request x y)
one_answer request (Err fault.BadPath) (Err fault.BadPath) x y k m = refl
one_answer request (Err fault.BadPath) (Err fault.NoMemory) x y k m = absurd (m refl)
one_answer request (Err fault.NoMemory) (Ok q) x y k m = absurd (k refl)
one_answer request (Err fault.NoMemory) (Err fault.NoRoute) x y k m = absurd (k refl)
one_answer request (Err fault.NoMemory) (Err fault.BadMethod) x y k m = absurd (k refl)
one_answer request (Err fault.NoMemory) (Err fault.NoUser) x y k m = absurd (k refl)
one_answer request (Err fault.NoMemory) (Err fault.BadRequest) x y k m = absurd (k refl)
one_answer request (Err fault.NoMemory) (Err fault.BadPath) x y k m = absurd (k refl)
one_answer request (Err fault.NoMemory) (Err fault.NoMemory) x y k m = absurd (k refl)
