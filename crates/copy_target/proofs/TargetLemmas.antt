-- What a call on two clusters comes to.
use Rattle.std.proofs.Common.{◌≡◌, ⊎_elim, inl, inr, ℕ, List, true, ap, sym, ◌∙◌, subst}
use Rattle.std.specs.Prelude.{◌⊎◌, Option, None, Some, is_some, Result, Ok, Err, IfErr, IsErrOf, OnOk}
use Rattle.hk_base.specs.Disk.{DiskState}
use Rattle.hk_base.specs.declared.names.Edek.{Edek}
use Rattle.hk_base.specs.declared.names.KeyName.{KeyName}
use Rattle.hk_base.specs.declared.texts.Text.{Text}
use Rattle.kms_calls.specs.declared.calls.KmsRefusal.TheVariants as key_refusal
use Rattle.kms_calls.specs.declared.calls.KmsReply.{KmsReply}
use Rattle.kms_calls.specs.declared.calls.KmsReply.TheVariants as key_reply
use Rattle.name_calls.specs.declared.paths.NPath.{NPath}
use Rattle.name_calls.specs.declared.calls.Ask.{Ask}
use Rattle.name_calls.specs.declared.calls.Ask.TheVariants as ask
use Rattle.name_calls.specs.Answers.{answer_of}
use Rattle.name_calls.specs.declared.calls.KeyAnswer.TheVariants as answer
use Rattle.name_calls.specs.declared.calls.NameCall.TheVariants as call
use Rattle.name_core.specs.Asks.{open_ask}
use Rattle.name_core.specs.State.{NameService, RunningNames, service_of}
use Rattle.name_store.specs.Store.{StoreState}
use Rattle.name_store.specs.Table.{NameTable, new_file}
use Rattle.inode_tree.specs.Rows.{Entry, entry_of, put, row_at}
use Rattle.file_orders.specs.Ends.{IsFailure}
use Rattle.file_orders.specs.declared.ends.FsEnd.{FsEnd}
use Rattle.file_orders.specs.declared.ends.FsEnd.TheVariants as end
use Rattle.backup_names.specs.Ends.{IsFaultOfKeys, ShowsRefusal}
use Rattle.backup_names.specs.Changes.{ChangesTable, FinishesFile, IsAsked}
use Rattle.backup_names.specs.Orders.{IsSettled, OnlyAsks}
use Rattle.backup_names.specs.Refusals.{AskRefused, CallRefused, FinishRefused, NoMemoryOr, info_at}
use Rattle.backup_names.proofs.OrderLemmas.{ask_orders, no_orders}
use Rattle.body_copies.specs.Copies.{CopiesBody, CopyFails}
use Rattle.body_stream.specs.Vaults.{VaultState}
use Rattle.row_copies.specs.Clusters.{CopiesFile, CopyState, EndsFor, KeepsCluster}
use Rattle.row_copies.specs.Copies.{ChainOf, Done, Then}
use Rattle.row_copies.proofs.CauseLemmas.{ends-failed, ends-so}
use Rattle.copy_target.specs.Targets.{BodyFails, DirectoryRefused, FileAskRefused, FileRefused, KnowsKey, LookRefused, NamesRefuse, PartsRefuse, RepliedTo, ZoneAskRefused, ZoneRefused}

pub one_step : {X : Type 0} (follows : X → X → Type 0) (a b : X) → follows a b → ChainOf follows a b
one_step follows a b f = Then a b Done f

-- nothing is pending after a call that left the service as it was
pub still_settled : (r r' : RunningNames) → service_of r' ≡ service_of r → IsSettled r → IsSettled r'
still_settled r r' same settled = ap (λ (s : NameService). s.pending) same ∙ settled

-- or after a change that was done
pub if_done : (result : Result (Unit {0}) FsEnd) (change : NameTable → NameTable → Type 0) (r r' : RunningNames) (A : Type 0) → ChangesTable result change r r' → (IsSettled r' → A) → OnOk result A
if_done (Ok done) change r r' A changes gives = gives changes.1
if_done (Err why) change r r' A changes gives = tt

asked_store : (user : Text) (a : Ask) (r r' : RunningNames) → OnlyAsks user a r r' → r'.store ≡ r.store
asked_store user a r r' only = ⊎_elim (λ same. ap (λ (x : RunningNames). x.store) same) (λ asked. asked.0) only

pub copied_file : (result : Result (Unit {0}) FsEnd) (from id : ℕ) (path : NPath) (edek : Option Edek) (old new : CopyState) (user : Text) (r mid r' : RunningNames)
    → OnlyAsks user (ask.Create path) r mid → IsAsked (ask.Create path) mid id → ChangesTable result (FinishesFile id edek mid) mid r'
    → old.target.rows ≡ r.store.table.rows → new.target.rows ≡ r'.store.table.rows → KeepsCluster old.source new.source
    → CopiesBody from id old.source.bodies old.target.bodies new.target.bodies → OnOk result (CopiesFile from path edek old new)
copied_file (Err why) from id path edek old new user r mid r' only asked changes was is source body = tt
copied_file (Ok done) from id path edek old new user r mid r' only asked changes was is source body =
    let makes = changes.0 path asked in
    let rows : mid.store.table.rows ≡ old.target.rows = ap (λ (s : StoreState). s.table.rows) (asked_store user (ask.Create path) r mid only) ∙ sym was in
    record {
      source = source;
      id = id;
      free = subst (λ (rows : _). entry_of rows id ≡ None) rows makes.free;
      absent = subst (λ (rows : _). row_at rows path ≡ None) rows makes.absent;
      rows = is ∙ ap (λ (t : NameTable). t.rows) makes.made ∙ ap (put (new_file id path edek)) rows;
      tells = body.tells;
      body = body.body;
      others = body.others;
    }

-- ---- why a call failed

-- an order of the namesystem
order_ends : {T : Type 0} (result : Result T FsEnd) (store vault : Type 0) (cause refused : FsEnd → Type 0) → IfErr result IsFailure → (IsErrOf result end.StoreFault → store) → IfErr result (NoMemoryOr cause) → ((why : FsEnd) → cause why → refused why)
    → IfErr result (EndsFor store vault refused)
order_ends (Ok done) store vault cause refused fails fault caused so = tt
order_ends (Err why) store vault cause refused fails fault caused so = ends-failed store vault refused why fails (λ is. fault (ap Err is)) (⊎_elim (λ is. inl is) (λ c. inr (so why c)) caused)

-- a finish of an ask
finish_ends : {T : Type 0} (result : Result T FsEnd) (store vault : Type 0) (cause refused : FsEnd → Type 0) → IfErr result IsFailure → (IsErrOf result end.StoreFault → store) → IfErr result cause → ((why : FsEnd) → cause why → refused why)
    → IfErr result (EndsFor store vault refused)
finish_ends (Ok done) store vault cause refused fails fault caused so = tt
finish_ends (Err why) store vault cause refused fails fault caused so = ends-failed store vault refused why fails (λ is. fault (ap Err is)) (inr (so why caused))

module _ {S E : Type 0} (refuses : S → S → FsEnd → Type 0) (replies : S → KeyName → KmsReply → S → Type 0) (disk : E → DiskState) (user : Text) (s s' : S) (e e' : E) (r r' : RunningNames) where
  abbrev Refused : FsEnd → Type 0
  Refused why = PartsRefuse refuses replies disk user s s' e e' r r' why

  -- the first order was refused
  first : (why : FsEnd) → NamesRefuse user (RepliedTo replies s s') (disk e) (disk e') r r' why → Refused why
  first why refused = inr (record { mid = e; names = r; orders = no_orders (disk e) r; refused = refused })

  -- or the one after an ask
  then : (mid : RunningNames) (a : Ask) (why : FsEnd) → OnlyAsks user a r mid → NamesRefuse user (RepliedTo replies s s') (disk e) (disk e') mid r' why → Refused why
  then mid a why only refused = inr (record { mid = e; names = mid; orders = ask_orders (disk e) user a r mid only; refused = refused })

  -- the source was read
  pub read_ends : {T : Type 0} (result : Result T FsEnd) (store vault : Type 0) → IfErr result (EndsFor ⊥ ⊥ (refuses s s')) → IfErr result (EndsFor store vault (PartsRefuse refuses replies disk user s s' e e' r r'))
  read_ends (Ok done) store vault ends = tt
  read_ends (Err why) store vault ends = ends-so ⊥ ⊥ store vault (refuses s s') Refused why (λ h. absurd h) (λ h. absurd h) (λ h. inl h) ends

  module _ {T : Type 0} (result : Result T FsEnd) (store vault : Type 0) (fails : IfErr result IsFailure) (fault : IsErrOf result end.StoreFault → store) where
    pub look_ends : (path : NPath) → IfErr result (NoMemoryOr (CallRefused (disk e) (disk e') r r' user (info_at path))) → IfErr result (EndsFor store vault (PartsRefuse refuses replies disk user s s' e e' r r'))
    look_ends path cause = order_ends result store vault (CallRefused (disk e) (disk e') r r' user (info_at path)) Refused fails fault cause (λ why refused. first why (LookRefused path refused))

    pub make_ends : (path : NPath) → IfErr result (NoMemoryOr (CallRefused (disk e) (disk e') r r' user (call.Mkdir path))) → IfErr result (EndsFor store vault (PartsRefuse refuses replies disk user s s' e e' r r'))
    make_ends path cause = order_ends result store vault (CallRefused (disk e) (disk e') r r' user (call.Mkdir path)) Refused fails fault cause (λ why refused. first why (DirectoryRefused path refused))

    pub ask_zone_ends : (path : NPath) (key : KeyName) → IfErr result (NoMemoryOr (AskRefused r r' user (ask.Zone path key))) → IfErr result (EndsFor store vault (PartsRefuse refuses replies disk user s s' e e' r r'))
    ask_zone_ends path key cause = order_ends result store vault (AskRefused r r' user (ask.Zone path key)) Refused fails fault cause (λ why refused. first why (ZoneAskRefused path key refused))

    pub ask_file_ends : (path : NPath) → IfErr result (NoMemoryOr (AskRefused r r' user (ask.Create path))) → IfErr result (EndsFor store vault (PartsRefuse refuses replies disk user s s' e e' r r'))
    ask_file_ends path cause = order_ends result store vault (AskRefused r r' user (ask.Create path)) Refused fails fault cause (λ why refused. first why (FileAskRefused path refused))

    pub zone_ends : (mid : RunningNames) (a : Ask) (id : ℕ) (key : KeyName) (reply : KmsReply) → OnlyAsks user a r mid → replies s key reply s' → IfErr result (FinishRefused (disk e) (disk e') mid r' id (answer_of (Some reply)))
        → IfErr result (EndsFor store vault (PartsRefuse refuses replies disk user s s' e e' r r'))
    zone_ends mid a id key reply only replied cause =
        finish_ends result store vault (FinishRefused (disk e) (disk e') mid r' id (answer_of (Some reply))) Refused fails fault cause (λ why refused. then mid a why only (ZoneRefused id reply (key, replied) refused))

    pub file_ends : (mid : RunningNames) (a : Ask) (id : ℕ) (edek : Option Edek) → OnlyAsks user a r mid → IfErr result (FinishRefused (disk e) (disk e') mid r' id (answer.Given edek))
        → IfErr result (EndsFor store vault (PartsRefuse refuses replies disk user s s' e e' r r'))
    file_ends mid a id edek only cause =
        finish_ends result store vault (FinishRefused (disk e) (disk e') mid r' id (answer.Given edek)) Refused fails fault cause (λ why refused. then mid a why only (FileRefused id edek refused))

-- the key management service has no fault of its disk
pub only_names : (given : KmsReply) (result : Result KmsReply FsEnd) (fault : Type 0) → (result ≡ Ok (key_reply.Refused key_refusal.StoreFault) → ⊥) → result ≡ Ok given → fault ⊎ IsFaultOfKeys given → fault
only_names given result fault never is (inl failed) = failed
only_names given result fault never is (inr keys) = absurd (never (is ∙ ap Ok keys))

pub body_fails : (user : Text) (path : NPath) (r mid : RunningNames) (id : ℕ) (source source' old new : VaultState) → OnlyAsks user (ask.Create path) r mid → IsAsked (ask.Create path) mid id → CopyFails id source source' old new
    → BodyFails r.store.table.rows source source' old new
body_fails user path r mid id source source' old new only asked (inl rose) = inl rose
body_fails user path r mid id source source' old new only asked (inr (inl rose)) = inr (inl rose)
body_fails user path r mid id source source' old new only asked (inr (inr had)) =
    let same : mid.store.table.rows ≡ r.store.table.rows = ap (λ (s : StoreState). s.table.rows) (asked_store user (ask.Create path) r mid only) in
    inr (inr (λ tells tells'. (id, subst (λ (rows : List Entry). entry_of rows id ≡ None) same asked.free, λ none. had tells tells' (λ told. none))))

-- ---- a mark

pub known_if : {S : Type 0} (replies : S → KeyName → KmsReply → S → Type 0) (a b : S) (user : Text) (path : NPath) (key : KeyName) (r : RunningNames) (id : ℕ) (given : KmsReply) (result : Result (Unit {0}) FsEnd)
    → IsAsked (ask.Zone path key) r id → ShowsRefusal given id r result → replies a key given b → OnOk result (KnowsKey replies a key b)
known_if replies a b user path key r id given (Err why) asked shows replied = tt
known_if replies a b user path key r id given (Ok done) asked shows replied = record {
  reply = given;
  replied = replied;
  accepted = λ why is.
      let there : is_some (open_ask r.asks id) ≡ true = ap is_some asked.found in
      let refused = subst (λ (reply : KmsReply). ShowsRefusal reply id r (Ok done)) is shows there in
      cc;
}
