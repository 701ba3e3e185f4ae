-- What is not done doesn't end as what is done.
use Rattle.std.proofs.Common.{◌≡◌, inl, inr, ℕ, Bool, true, false, List, sym, subst}
use Rattle.std.specs.Prelude.{◌^◌, nat_lt, Option, Some, None, Result, Ok, Err, if◌then◌else◌}
use Rattle.hk_base.specs.declared.names.Dek.{Dek}
use Rattle.hk_base.specs.declared.names.Edek.{Edek}
use Rattle.hk_events.specs.declared.event.Line.{Line}
use Rattle.hk_events.specs.declared.event.Line.TheVariants as line
use Rattle.kms_calls.specs.declared.calls.KmsRefusal.{KmsRefusal}
use Rattle.kms_calls.specs.declared.calls.KmsRefusal.TheVariants as key
use Rattle.kms_calls.specs.declared.calls.KmsReply.{KmsReply}
use Rattle.kms_calls.specs.declared.calls.KmsReply.TheVariants as key_reply
use Rattle.name_calls.specs.declared.calls.NameRefusal.{NameRefusal}
use Rattle.name_calls.specs.declared.calls.NameRefusal.TheVariants as refusal
use Rattle.name_calls.specs.declared.calls.NameReply.{NameReply}
use Rattle.name_calls.specs.declared.calls.NameReply.TheVariants as reply
use Rattle.file_orders.specs.Ends.{end_of_keys, end_of_names, end_of_refused}
pub use Rattle.file_orders.specs.Ends.{IsFailure}
use Rattle.file_orders.specs.Events.{Leading}
use Rattle.file_orders.specs.Opening.{CreatesFile, Decrypts, Draws, FinishesCreate, OpensEdek, OpensFile, OpensShown, asked_in, dek_by, dek_in, finished_in, replied_in, shown_by, shown_in}
use Rattle.file_orders.specs.declared.ends.FsEnd.{FsEnd}
use Rattle.file_orders.specs.declared.ends.FsEnd.TheVariants as end
use Rattle.file_orders.specs.declared.open.OpenFile.{OpenFile}
use Rattle.file_orders.specs.declared.open.ShownFile.{ShownFile}

keys_fail : (why : KmsRefusal) → IsFailure (end_of_keys why)
keys_fail key.BadRequest = tt
keys_fail key.NoUser = tt
keys_fail (key.Denied table op) = tt
keys_fail key.NoSuchKey = tt
keys_fail key.NoSuchVersion = tt
keys_fail key.KeyExists = tt
keys_fail key.WrongKey = tt
keys_fail key.BadMaterial = tt
keys_fail key.BadLength = tt
keys_fail key.TooManyKeys = tt
keys_fail key.TooManyVersions = tt
keys_fail key.TooManyAsked = tt
keys_fail key.NoMemory = tt
keys_fail key.StoreFault = tt

refused_fail : (refused : KmsRefusal) (why : NameRefusal) → IsFailure (end_of_refused refused why)
refused_fail key.BadRequest why = tt
refused_fail key.NoUser why = tt
refused_fail (key.Denied table op) why = tt
refused_fail key.NoSuchKey why = tt
refused_fail key.NoSuchVersion why = tt
refused_fail key.KeyExists why = tt
refused_fail key.WrongKey why = tt
refused_fail key.BadMaterial why = tt
refused_fail key.BadLength why = tt
refused_fail key.TooManyKeys why = tt
refused_fail key.TooManyVersions why = tt
refused_fail key.TooManyAsked why = tt
refused_fail key.NoMemory why = tt
refused_fail key.StoreFault why = tt

pub names_fail : (why : NameRefusal) → IsFailure (end_of_names why)
names_fail refusal.BadPath = tt
names_fail refusal.NoSuchPath = tt
names_fail refusal.Exists = tt
names_fail refusal.NotADirectory = tt
names_fail refusal.NotEmpty = tt
names_fail refusal.NotSuperuser = tt
names_fail refusal.AlreadyInZone = tt
names_fail refusal.NotAZoneRoot = tt
names_fail refusal.CrossZone = tt
names_fail refusal.UnderReencryption = tt
names_fail refusal.HasSnapshots = tt
names_fail refusal.NotSnapshottable = tt
names_fail refusal.SnapshotExists = tt
names_fail refusal.NoSuchSnapshot = tt
names_fail refusal.TooManySnapshots = tt
names_fail (refusal.AskGone opening next) = tt
names_fail refusal.ZoneChanged = tt
names_fail refusal.AlreadySubmitted = tt
names_fail refusal.NotSubmitted = tt
names_fail refusal.TooManyInodes = tt
names_fail refusal.NoMemory = tt
names_fail refusal.StoreFault = tt
names_fail refusal.NestedSnapshottable = tt
names_fail refusal.RootOrInside = tt
names_fail (refusal.KeyRefused refused) = refused_fail refused (refusal.KeyRefused refused)

-- a result that is an error is a failure
abbrev pub Fails : {X : Type 0} → Result X FsEnd → Type 0
Fails (Ok x) = Unit {0}
Fails (Err why) = IsFailure why

numbered_fails : (few : Bool) (number : ℕ) → Fails (if few then Ok number else Err end.NoMemory)
numbered_fails true number = tt
numbered_fails false number = tt

asked_fails : (answer : Line) → Fails (asked_in answer)
asked_fails (line.Kms given) = tt
asked_fails (line.Name given) = tt
asked_fails (line.Ticket number version wanted) = tt
asked_fails line.NoTicket = tt
asked_fails (line.Deposit deposit) = tt
asked_fails (line.Opened opening) = tt
asked_fails (line.Asked number note) = numbered_fails (nat_lt number (2 ^ 32)) number
asked_fails (line.Replied number given) = tt
asked_fails (line.Batch number files) = tt
asked_fails (line.NoneLeft count) = tt
asked_fails line.Completed = tt
asked_fails (line.Delivered delivered) = tt
asked_fails (line.Refused why) = names_fail why
asked_fails line.Unknown = tt

replied_fails : (answer : Line) → Fails (replied_in answer)
replied_fails (line.Kms given) = tt
replied_fails (line.Name given) = tt
replied_fails (line.Ticket number version wanted) = tt
replied_fails line.NoTicket = tt
replied_fails (line.Deposit deposit) = tt
replied_fails (line.Opened opening) = tt
replied_fails (line.Asked number note) = tt
replied_fails (line.Replied number given) = numbered_fails (nat_lt number (2 ^ 32)) number
replied_fails (line.Batch number files) = tt
replied_fails (line.NoneLeft count) = tt
replied_fails line.Completed = tt
replied_fails (line.Delivered delivered) = tt
replied_fails (line.Refused why) = tt
replied_fails line.Unknown = tt

-- an end that comes is a failure
abbrev pub FailsIf : Option FsEnd → Type 0
FailsIf None = Unit {0}
FailsIf (Some why) = IsFailure why

name_fails : (given : NameReply) → FailsIf (finished_in (line.Name given))
name_fails reply.Done = tt
name_fails (reply.Dir id area key) = tt
name_fails (reply.File id area edek) = tt
name_fails (reply.List children) = tt
name_fails (reply.Status status) = tt
name_fails (reply.Zones zones) = tt
name_fails (reply.Refused why) = tt

finished_fails : (answer : Line) → FailsIf (finished_in answer)
finished_fails (line.Kms given) = tt
finished_fails (line.Name given) = name_fails given
finished_fails (line.Ticket number version wanted) = tt
finished_fails line.NoTicket = tt
finished_fails (line.Deposit deposit) = tt
finished_fails (line.Opened opening) = tt
finished_fails (line.Asked number note) = tt
finished_fails (line.Replied number given) = tt
finished_fails (line.Batch number files) = tt
finished_fails (line.NoneLeft count) = tt
finished_fails line.Completed = tt
finished_fails (line.Delivered delivered) = tt
finished_fails (line.Refused why) = names_fail why
finished_fails line.Unknown = tt

shown_by_fails : (given : NameReply) → Fails (shown_by given)
shown_by_fails reply.Done = tt
shown_by_fails (reply.Dir id area key) = tt
shown_by_fails (reply.File id area edek) = tt
shown_by_fails (reply.List children) = tt
shown_by_fails (reply.Status status) = tt
shown_by_fails (reply.Zones zones) = tt
shown_by_fails (reply.Refused why) = names_fail why

shown_fails : (answer : Line) → Fails (shown_in answer)
shown_fails (line.Kms given) = tt
shown_fails (line.Name given) = shown_by_fails given
shown_fails (line.Ticket number version wanted) = tt
shown_fails line.NoTicket = tt
shown_fails (line.Deposit deposit) = tt
shown_fails (line.Opened opening) = tt
shown_fails (line.Asked number note) = tt
shown_fails (line.Replied number given) = tt
shown_fails (line.Batch number files) = tt
shown_fails (line.NoneLeft count) = tt
shown_fails line.Completed = tt
shown_fails (line.Delivered delivered) = tt
shown_fails (line.Refused why) = tt
shown_fails line.Unknown = tt

dek_by_fails : (given : KmsReply) → Fails (dek_by given)
dek_by_fails (key_reply.Key dek) = tt
dek_by_fails (key_reply.Refused why) = keys_fail why
dek_by_fails (key_reply.Version version material) = tt
dek_by_fails (key_reply.Metadata meta) = tt
dek_by_fails (key_reply.Metadatas metas) = tt
dek_by_fails (key_reply.Names names) = tt
dek_by_fails (key_reply.Versions versions) = tt
dek_by_fails (key_reply.Ready keys) = tt
dek_by_fails (key_reply.Resealed sealed) = tt
dek_by_fails key_reply.Done = tt

dek_fails : (answer : Line) → Fails (dek_in answer)
dek_fails (line.Kms given) = dek_by_fails given
dek_fails (line.Name given) = tt
dek_fails (line.Ticket number version wanted) = tt
dek_fails line.NoTicket = tt
dek_fails (line.Deposit deposit) = tt
dek_fails (line.Opened opening) = tt
dek_fails (line.Asked number note) = tt
dek_fails (line.Replied number given) = tt
dek_fails (line.Batch number files) = tt
dek_fails (line.NoneLeft count) = tt
dek_fails line.Completed = tt
dek_fails (line.Delivered delivered) = tt
dek_fails (line.Refused why) = tt
dek_fails line.Unknown = tt

module _ {X : Type 0} (leads : Leading X) where
  finishes_fail : (replied : Result ℕ FsEnd) (a b : X) (result : Option FsEnd) → Fails replied → FinishesCreate leads replied a result b → FailsIf result
  finishes_fail (Err why) a b result f (is, same) = subst FailsIf (sym is) f
  finishes_fail (Ok number) a b result f (answer, led, is) = subst FailsIf (sym is) (finished_fails answer)

  draws_fail : (asked : Result ℕ FsEnd) (a b : X) (result : Option FsEnd) → Fails asked → Draws leads asked a result b → FailsIf result
  draws_fail (Err why) a b result f (is, same) = subst FailsIf (sym is) f
  draws_fail (Ok number) a b result f (answer, mid, led, more) = finishes_fail (replied_in answer) mid b result (replied_fails answer) more

  pub makes_fail : (user path : List ℕ) (a b : X) (result : Option FsEnd) → CreatesFile leads user path a result b → FailsIf result
  makes_fail user path a b result (inl (answer, mid, led, more)) = draws_fail (asked_in answer) mid b result (asked_fails answer) more
  makes_fail user path a b result (inr (none, same)) = subst FailsIf (sym none) tt

  decrypts_fail : (user : List ℕ) (edek : Edek) (a b : X) (result : Result Dek FsEnd) → Decrypts leads user edek a result b → Fails result
  decrypts_fail user edek a b result (inl (answer, led, is)) = subst Fails (sym is) (dek_fails answer)
  decrypts_fail user edek a b result (inr (none, same)) = subst Fails (sym none) tt

  edek_fails : (user : List ℕ) (id : ℕ) (edek : Option Edek) (a b : X) (result : Result OpenFile FsEnd) → OpensEdek leads user id edek a result b → Fails result
  edek_fails user id None a b result (is, same) = subst Fails (sym is) tt
  edek_fails user id (Some edek) a b result (Ok dek, decrypts, is) = subst Fails (sym is) tt
  edek_fails user id (Some edek) a b result (Err why, decrypts, is) = subst Fails (sym is) (decrypts_fail user edek a b (Err why) decrypts)

  pub shown_fail : (user : List ℕ) (shown : Result ShownFile FsEnd) (a b : X) (result : Result OpenFile FsEnd) → Fails shown → OpensShown leads user shown a result b → Fails result
  shown_fail user (Err why) a b result f (is, same) = subst Fails (sym is) f
  shown_fail user (Ok shown) a b result f opens = edek_fails user shown.id shown.edek a b result opens

  pub opens_fail : (user path : List ℕ) (a b : X) (result : Result OpenFile FsEnd) → OpensFile leads user path a result b → Fails result
  opens_fail user path a b result (inl (answer, mid, led, more)) = shown_fail user (shown_in answer) mid b result (shown_fails answer) more
  opens_fail user path a b result (inr (none, same)) = subst Fails (sym none) tt

-- an end that no failure is

pub never : (why own : FsEnd) → IsFailure why → why ≡ own → (IsFailure own → ⊥) → ⊥
never why own fails is not = not (subst IsFailure is fails)
