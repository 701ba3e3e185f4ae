-- A request has one meaning.
use Rattle.std.proofs.Common.{◌≡◌, ◌≢◌, ◌⊎◌, inl, inr, ℕ, List, [], ◌∷◌, codes, Some, true, false, Result, Ok, Err, refl, sym, ap, ◌∙◌, subst}
use Rattle.std.specs.Str.{bytes_eq}
use Rattle.std.proofs.lemmas.Slice.Eq.{bytes_eq-Decides}
use Rattle.percent_encoding.specs.Percent.{percent_decode}
use Rattle.serde_json.specs.Data.{Data}
use Rattle.hk_base.specs.Names.{Version}
use Rattle.http_wire.specs.Message.{Message}
use Rattle.kms_calls.specs.declared.calls.KmsCall.{KmsCall}
use Rattle.kms_calls.specs.declared.calls.KmsCall.TheVariants as call
use Rattle.kms_json.specs.declared.eek.EekBody.{EekBody}
use Rattle.kms_json.specs.declared.faults.JsonFault.{JsonFault}
use Rattle.kms_json.specs.declared.faults.JsonFault.TheVariants as json
use Rattle.kms_json.specs.Bodies.{IsReadingOf, batch_of, create_of, eek_of, or_no_members, roll_of}
use Rattle.kms_json.specs.Laws.{NamedByText, OneCall, OneEek}
use Rattle.kms_json.specs.Versions.{version_named}
use Rattle.path_routes.specs.declared.query.Parameter.{Parameter}
use Rattle.path_routes.specs.Queries.{path_of}
use Rattle.path_routes.specs.Users.{NamesNoUser, NamesUser, user_values}
use Rattle.kms_rest.specs.declared.faults.RestFault.{RestFault}
use Rattle.kms_rest.specs.declared.faults.RestFault.TheVariants as fault
use Rattle.kms_rest.specs.declared.operation.Operation.{Operation}
use Rattle.kms_rest.specs.declared.operation.Operation.TheVariants as op
use Rattle.kms_rest.specs.Calls.{AreGivenOnce, AsksBy, AsksEek, AsksNothingBy, CountsKeys, IsFaultyBody, NamesVersion, SaysCall, operation_values}
use Rattle.kms_rest.specs.Operations.{HasBadMethod, HasNoRoute, Routes}
use Rattle.kms_rest.specs.Places.{IsUnrouted}
use Rattle.kms_rest.specs.Requests.{AsksCall, HasNoUser, IsBadRequest, NamesOperation, Says, query_in}
use Rattle.kms_rest.specs.Laws.{SaysOneThing}
use Rattle.kms_rest.proofs.RouteLemmas.{AreBytes, same_route}

-- ---- a fault of a part as a fault of the request

pub said_unrouted : (request : Message) (e : RestFault) → IsUnrouted request.method (path_of request.target) e → Says request (Err e)
said_unrouted request fault.NoRoute h = h
said_unrouted request fault.BadMethod h = h
said_unrouted request fault.NoUser h = absurd h
said_unrouted request fault.BadRequest h = absurd h
said_unrouted request fault.NoMemory h = absurd h

no_user_named : (ps : List Parameter) (user : List ℕ) → NamesUser ps user → NamesNoUser ps → ⊥
no_user_named ps user is (inl none) = cc2 (user_values ps) user is.once none
  where
    cc2 : (vs : List (List ℕ)) (u : List ℕ) → vs ≡ u ∷ [] → vs ≡ [] → ⊥
    cc2 vs u a b = cc
no_user_named ps user is (inr empty) = is.some (unhead user [] (sym is.once ∙ empty))
  where
    unhead : (u v : List ℕ) → u ∷ [] ≡ v ∷ [] → u ≡ v
    unhead u v e = cc

-- The names of a request's query and body while it is read: n the name, ps the parameters, b the body.
pub record IsRead (request : Message) (operation : Operation) (part n b : List ℕ) (ps : List Parameter) : Type 0 where
  pub routes : Routes request.method (path_of request.target) operation part
  pub decoded : n ≡ percent_decode part
  pub body : b ≡ request.body
  pub query : ps ≡ query_in request

names_read : (request : Message) (operation : Operation) (part n b : List ℕ) (ps : List Parameter) → IsRead request operation part n b ps → NamesOperation request operation n
names_read request operation part n b ps r = record { part = part; routes = r.routes; decoded = r.decoded }

pub said_asked : (request : Message) (operation : Operation) (part n b : List ℕ) (ps : List Parameter) (user : List ℕ) (asked : KmsCall) → IsRead request operation part n b ps
    → NamesUser ps user → AreGivenOnce ps → SaysCall operation n ps b (Ok asked) → AsksCall request user asked
said_asked request operation part n b ps user asked r u i s =
    let one = subst (λ (m : List ℕ). AsksBy operation n ps m asked) r.body s in
    record {
      operation = operation;
      name = n;
      names = names_read request operation part n b ps r;
      named = subst (λ (qs : List Parameter). NamesUser qs user) r.query u;
      single = subst (λ (qs : List Parameter). AreGivenOnce qs) r.query i;
      asks = subst (λ (qs : List Parameter). AsksBy operation n qs request.body asked) r.query one;
    }

pub said_nothing : (request : Message) (operation : Operation) (part n b : List ℕ) (ps : List Parameter) (user : List ℕ) → IsRead request operation part n b ps
    → NamesUser ps user → (e : RestFault) → SaysCall operation n ps b (Err e) → Says request (Err e)
said_nothing request operation part n b ps user r u fault.NoRoute h = absurd h
said_nothing request operation part n b ps user r u fault.BadMethod h = absurd h
said_nothing request operation part n b ps user r u fault.NoUser h = absurd h
said_nothing request operation part n b ps user r u fault.BadRequest h =
    let one = subst (λ (m : List ℕ). AsksNothingBy operation n ps m) r.body h in
    record {
      operation = operation;
      name = n;
      names = names_read request operation part n b ps r;
      some = no_user_named (query_in request) user (subst (λ (qs : List Parameter). NamesUser qs user) r.query u);
      why = inr (inr (subst (λ (qs : List Parameter). AsksNothingBy operation n qs request.body) r.query one));
    }
said_nothing request operation part n b ps user r u fault.NoMemory h = tt

-- ---- one call

unhead_user : (vs : List (List ℕ)) (u v : List ℕ) → vs ≡ u ∷ [] → vs ≡ v ∷ [] → u ≡ v
unhead_user vs u v x y = cc

-- an outcome of a body
abbrev done : {A : Type 0} → A → Result A JsonFault
done a = Ok a

abbrev failed : {A : Type 0} → JsonFault → Result A JsonFault
failed e = Err e

unok : (r : Result KmsCall JsonFault) (a b : KmsCall) → r ≡ Ok a → r ≡ Ok b → a ≡ b
unok r a b x y = cc

unok_eek : (r : Result EekBody JsonFault) (a b : EekBody) → r ≡ Ok a → r ≡ Ok b → a ≡ b
unok_eek r a b x y = cc

unsome : (v w : Version) → Some v ≡ Some w → v ≡ w
unsome v w e = cc

one_version : NamedByText → (text : List ℕ) (v w : Version) → NamesVersion text v → NamesVersion text w → v ≡ w
one_version named text v w x y =
    unsome v w (sym (named v.key v.number x.0 x.1.0) ∙ ap version_named (sym x.1.1 ∙ y.1.1) ∙ named w.key w.number y.0 y.1.0)

one_count : (found : List (List ℕ)) (m n : ℕ) → CountsKeys found m → CountsKeys found n → m ≡ n
one_count [] m n x y = x ∙ sym y
one_count (text ∷ more) m n x y = sym x.1.1.0 ∙ y.1.1.0

apart : (a b : List ℕ) → bytes_eq a b ≡ false → a ≡ b → ⊥
apart a b n e =
    let yes : bytes_eq a b ≡ true = (bytes_eq-Decides a b).1 e in
    cc

two_operations : (found : List (List ℕ)) → found ≡ codes "decrypt" ∷ [] → found ≡ codes "reencrypt" ∷ [] → ⊥
two_operations found x y = apart (codes "decrypt") (codes "reencrypt") refl (unhead_user found (codes "decrypt") (codes "reencrypt") x y)

one_eek_call : (found : List (List ℕ)) (v : Version) (eek : EekBody) (a b : KmsCall) → AsksEek found v eek a → AsksEek found v eek b → a ≡ b
one_eek_call found v eek a b (inl x) (inl y) = x.1 ∙ sym y.1
one_eek_call found v eek a b (inl x) (inr y) = absurd (two_operations found x.0 y.0)
one_eek_call found v eek a b (inr x) (inl y) = absurd (two_operations found y.0 x.0)
one_eek_call found v eek a b (inr x) (inr y) = x.1 ∙ sym y.1

-- the laws of bodies and versions
pub record Laws : Type 0 where
  pub body : OneCall
  pub eek : OneEek
  pub named : NamedByText

one_body : Laws → (reading : Data → Result KmsCall JsonFault) (body : List ℕ) (a b : KmsCall) → IsReadingOf reading body (Ok a) → IsReadingOf reading body (Ok b) → a ≡ b
one_body laws reading body a b x y = unok (done a) a b refl (laws.body reading body (Ok a) (Ok b) x y (λ q. cc) (λ q. cc))

no_two : (r : Result KmsCall JsonFault) (a : KmsCall) (e : JsonFault) → r ≡ Ok a → r ≡ Err e → ⊥
no_two r a e x y = cc

no_two_eek : (r : Result EekBody JsonFault) (a : EekBody) (e : JsonFault) → r ≡ Ok a → r ≡ Err e → ⊥
no_two_eek r a e x y = cc

unerr : (r : Result KmsCall JsonFault) (e f : JsonFault) → r ≡ Err e → r ≡ Err f → e ≡ f
unerr r e f x y = cc

unerr_eek : (r : Result EekBody JsonFault) (e f : JsonFault) → r ≡ Err e → r ≡ Err f → e ≡ f
unerr_eek r e f x y = cc

faultless : Laws → (reading : Data → Result KmsCall JsonFault) (body : List ℕ) (a : KmsCall) → IsReadingOf reading body (Ok a) → ¬ IsFaultyBody reading body
faultless laws reading body a x f = no_two (done a) a f.0 refl (laws.body reading body (Ok a) (Err f.0) x f.1.1 (λ q. cc) (λ q. f.1.0 (unerr (failed f.0) f.0 json.NoMemory refl q)))

faultless_eek : Laws → (body : List ℕ) (a : EekBody) → IsReadingOf eek_of body (Ok a) → ¬ IsFaultyBody eek_of body
faultless_eek laws body a x f = no_two_eek (done a) a f.0 refl (laws.eek eek_of body (Ok a) (Err f.0) x f.1.1 (λ q. cc) (λ q. f.1.0 (unerr_eek (failed f.0) f.0 json.NoMemory refl q)))

same_call : Laws → (operation : Operation) (name : List ℕ) (ps : List Parameter) (body : List ℕ) (a b : KmsCall) → AsksBy operation name ps body a → AsksBy operation name ps body b → a ≡ b
same_call laws op.Create name ps body a b x y = one_body laws create_of body a b x y
same_call laws op.Roll name ps body a b x y = one_body laws (roll_of name) (or_no_members body) a b x.1 y.1
same_call laws op.Delete name ps body a b x y = x.1 ∙ sym y.1
same_call laws op.Invalidate name ps body a b x y = x.1 ∙ sym y.1
same_call laws op.Metadata name ps body a b x y = x.1 ∙ sym y.1
same_call laws op.Current name ps body a b x y = x.1 ∙ sym y.1
same_call laws op.Versions name ps body a b x y = x.1 ∙ sym y.1
same_call laws op.Generate name ps body a b x y = x.is ∙ ap (λ n. call.Generate name n) (one_count _ x.count y.count x.counts y.counts) ∙ sym y.is
same_call laws op.Batch name ps body a b x y = one_body laws (batch_of name) body a b x.1 y.1
same_call laws op.Version name ps body a b x y = x.1.1 ∙ ap (λ v. call.Version v) (one_version laws.named name x.0 y.0 x.1.0 y.1.0) ∙ sym y.1.1
same_call laws op.Eek name ps body a b x y =
    let v = one_version laws.named name y.version x.version y.named x.named in
    let e = unok_eek (done y.eek) y.eek x.eek refl (laws.eek eek_of body (Ok y.eek) (Ok x.eek) y.stands x.stands (λ q. cc) (λ q. cc)) in
    one_eek_call (operation_values ps) x.version x.eek a b x.asks
    (subst (λ (w : Version). AsksEek (operation_values ps) w x.eek b) v (subst (λ (f : EekBody). AsksEek (operation_values ps) y.version f b) e y.asks))
same_call laws op.Names name ps body a b x y = x ∙ sym y
same_call laws op.Metadatas name ps body a b x y = x.1.1 ∙ sym y.1.1

no_eek_call : (found : List (List ℕ)) (v : Version) (eek : EekBody) (a : KmsCall) → AsksEek found v eek a → (found ≢ codes "decrypt" ∷ []) × (found ≢ codes "reencrypt" ∷ []) → ⊥
no_eek_call found v eek a (inl x) y = y.0 x.0
no_eek_call found v eek a (inr x) y = y.1 x.0

not_both : Laws → (operation : Operation) (name : List ℕ) (ps : List Parameter) (body : List ℕ) (a : KmsCall) → AsksBy operation name ps body a → AsksNothingBy operation name ps body → ⊥
not_both laws op.Create name ps body a x y = faultless laws create_of body a x y
not_both laws op.Roll name ps body a x (inl y) = y x.0
not_both laws op.Roll name ps body a x (inr y) = faultless laws (roll_of name) (or_no_members body) a x.1 y
not_both laws op.Delete name ps body a x y = y x.0
not_both laws op.Invalidate name ps body a x y = y x.0
not_both laws op.Metadata name ps body a x y = y x.0
not_both laws op.Current name ps body a x y = y x.0
not_both laws op.Versions name ps body a x y = y x.0
not_both laws op.Generate name ps body a x (inl y) = y x.name
not_both laws op.Generate name ps body a x (inr (inl y)) = y x.generate
not_both laws op.Generate name ps body a x (inr (inr y)) = y x.count x.counts
not_both laws op.Batch name ps body a x (inl y) = y x.0
not_both laws op.Batch name ps body a x (inr y) = faultless laws (batch_of name) body a x.1 y
not_both laws op.Version name ps body a x y = y x.0 x.1.0
not_both laws op.Eek name ps body a x (inl y) = y x.version x.named
not_both laws op.Eek name ps body a x (inr (inl y)) = no_eek_call (operation_values ps) x.version x.eek a x.asks y
not_both laws op.Eek name ps body a x (inr (inr y)) = faultless_eek laws body x.eek x.stands y
not_both laws op.Names name ps body a x y = absurd y
not_both laws op.Metadatas name ps body a x (inl y) = x.0 y
not_both laws op.Metadatas name ps body a x (inr y) = y x.1.0

-- ---- one meaning

same_names : (request : Message) → AreBytes (path_of request.target) → (o q : Operation) (m n : List ℕ) → NamesOperation request o m → NamesOperation request q n → (o ≡ q) × (m ≡ n)
same_names request h o q m n x y =
    let u = same_route request.method (path_of request.target) h o q x.part y.part x.routes y.routes in
    (u.0, x.decoded ∙ ap percent_decode u.1 ∙ sym y.decoded)

same_asked : Laws → (request : Message) → AreBytes (path_of request.target) → (u v : List ℕ) (a b : KmsCall) → AsksCall request u a → AsksCall request v b → (u ≡ v) × (a ≡ b)
same_asked laws request h u v a b x y =
    let e = same_names request h y.operation x.operation y.name x.name y.names x.names in
    let one = subst (λ (o : Operation). AsksBy o y.name (query_in request) request.body b) e.0 y.asks in
    let two = subst (λ (n : List ℕ). AsksBy x.operation n (query_in request) request.body b) e.1 one in
    (unhead_user (user_values (query_in request)) u v x.named.once y.named.once, same_call laws x.operation x.name (query_in request) request.body a b x.asks two)

asked_not_bad : Laws → (request : Message) → AreBytes (path_of request.target) → (u : List ℕ) (a : KmsCall) → AsksCall request u a → IsBadRequest request → ⊥
asked_not_bad laws request h u a x y = by y.why
  where
    e : (y.operation ≡ x.operation) × (y.name ≡ x.name)
    e = same_names request h y.operation x.operation y.name x.name y.names x.names

    by : ((¬ NamesNoUser (query_in request)) × ((user : List ℕ) → ¬ NamesUser (query_in request) user)) ⊎ (¬ AreGivenOnce (query_in request) ⊎ AsksNothingBy y.operation y.name (query_in request) request.body) → ⊥
    by (inl bad) = bad.1 u x.named
    by (inr (inl twice)) = twice x.single
    by (inr (inr nothing)) =
        let one = subst (λ (o : Operation). AsksNothingBy o y.name (query_in request) request.body) e.0 nothing in
        let two = subst (λ (n : List ℕ). AsksNothingBy x.operation n (query_in request) request.body) e.1 one in
        not_both laws x.operation x.name (query_in request) request.body a x.asks two

asked_user : (request : Message) (u : List ℕ) (a : KmsCall) → AsksCall request u a → HasNoUser request → ⊥
asked_user request u a x y = no_user_named (query_in request) u x.named y.none

no_route_named : (request : Message) (o : Operation) (n : List ℕ) → HasNoRoute (path_of request.target) → NamesOperation request o n → ⊥
no_route_named request o n none x = none o x.part x.routes.fits

no_route_bad : (request : Message) → HasNoRoute (path_of request.target) → HasBadMethod request.method (path_of request.target) → ⊥
no_route_bad request none bad = none bad.operation bad.part bad.fits

bad_method_named : (request : Message) (o : Operation) (n : List ℕ) → HasBadMethod request.method (path_of request.target) → NamesOperation request o n → ⊥
bad_method_named request o n bad x = bad.other o x.part x.routes

pub one_answer : Laws → (request : Message) → AreBytes (path_of request.target) → SaysOneThing request
one_answer laws request h (Ok p) (Ok q) x y k m = let e = same_asked laws request h p.0 q.0 p.1 q.1 x y in λ i. Ok (e.0 i, e.1 i)
one_answer laws request h (Ok p) (Err fault.NoRoute) x y k m = absurd (no_route_named request x.operation x.name y x.names)
one_answer laws request h (Ok p) (Err fault.BadMethod) x y k m = absurd (bad_method_named request x.operation x.name y x.names)
one_answer laws request h (Ok p) (Err fault.NoUser) x y k m = absurd (asked_user request p.0 p.1 x y)
one_answer laws request h (Ok p) (Err fault.BadRequest) x y k m = absurd (asked_not_bad laws request h p.0 p.1 x y)
one_answer laws request h (Ok p) (Err fault.NoMemory) x y k m = absurd (m refl)
one_answer laws request h (Err fault.NoRoute) (Ok q) x y k m = absurd (no_route_named request y.operation y.name x y.names)
one_answer laws request h (Err fault.NoRoute) (Err fault.NoRoute) x y k m = refl
one_answer laws request h (Err fault.NoRoute) (Err fault.BadMethod) x y k m = absurd (no_route_bad request x y)
one_answer laws request h (Err fault.NoRoute) (Err fault.NoUser) x y k m = absurd (no_route_named request y.operation y.name x y.names)
one_answer laws request h (Err fault.NoRoute) (Err fault.BadRequest) x y k m = absurd (no_route_named request y.operation y.name x y.names)
one_answer laws request h (Err fault.NoRoute) (Err fault.NoMemory) x y k m = absurd (m refl)
one_answer laws request h (Err fault.BadMethod) (Ok q) x y k m = absurd (bad_method_named request y.operation y.name x y.names)
one_answer laws request h (Err fault.BadMethod) (Err fault.NoRoute) x y k m = absurd (no_route_bad request y x)
one_answer laws request h (Err fault.BadMethod) (Err fault.BadMethod) x y k m = refl
one_answer laws request h (Err fault.BadMethod) (Err fault.NoUser) x y k m = absurd (bad_method_named request y.operation y.name x y.names)
one_answer laws request h (Err fault.BadMethod) (Err fault.BadRequest) x y k m = absurd (bad_method_named request y.operation y.name x y.names)
one_answer laws request h (Err fault.BadMethod) (Err fault.NoMemory) x y k m = absurd (m refl)
one_answer laws request h (Err fault.NoUser) (Ok q) x y k m = absurd (asked_user request q.0 q.1 y x)
one_answer laws request h (Err fault.NoUser) (Err fault.NoRoute) x y k m = absurd (no_route_named request x.operation x.name y x.names)
one_answer laws request h (Err fault.NoUser) (Err fault.BadMethod) x y k m = absurd (bad_method_named request x.operation x.name y x.names)
one_answer laws request h (Err fault.NoUser) (Err fault.NoUser) x y k m = refl
one_answer laws request h (Err fault.NoUser) (Err fault.BadRequest) x y k m = absurd (y.some x.none)
one_answer laws request h (Err fault.NoUser) (Err fault.NoMemory) x y k m = absurd (m refl)
one_answer laws request h (Err fault.BadRequest) (Ok q) x y k m = absurd (asked_not_bad laws request h q.0 q.1 y x)
one_answer laws request h (Err fault.BadRequest) (Err fault.NoRoute) x y k m = absurd (no_route_named request x.operation x.name y x.names)
one_answer laws request h (Err fault.BadRequest) (Err fault.BadMethod) x y k m = absurd (bad_method_named request x.operation x.name y x.names)
one_answer laws request h (Err fault.BadRequest) (Err fault.NoUser) x y k m = absurd (x.some y.none)
one_answer laws request h (Err fault.BadRequest) (Err fault.BadRequest) x y k m = refl
one_answer laws request h (Err fault.BadRequest) (Err fault.NoMemory) x y k m = absurd (m refl)
one_answer laws request h (Err fault.NoMemory) (Ok q) x y k m = absurd (k refl)
one_answer laws request h (Err fault.NoMemory) (Err fault.NoRoute) x y k m = absurd (k refl)
one_answer laws request h (Err fault.NoMemory) (Err fault.BadMethod) x y k m = absurd (k refl)
one_answer laws request h (Err fault.NoMemory) (Err fault.NoUser) x y k m = absurd (k refl)
one_answer laws request h (Err fault.NoMemory) (Err fault.BadRequest) x y k m = absurd (k refl)
one_answer laws request h (Err fault.NoMemory) (Err fault.NoMemory) x y k m = absurd (k refl)
