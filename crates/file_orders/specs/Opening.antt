-- A file is made, or opened: the events of a user, and what comes of them.
use Rattle.std.specs.Prelude.{◌≡◌, ◌⊎◌, ℕ, ◌^◌, nat_lt, List, Option, None, Some, Result, Ok, Err, if◌then◌else◌}
use Rattle.hk_base.specs.declared.names.Dek.{Dek}
use Rattle.hk_base.specs.declared.names.Edek.{Edek}
use Rattle.hk_base.specs.declared.names.Iv.{Iv}
use Rattle.hk_events.specs.declared.event.Event.TheVariants as event
use Rattle.hk_events.specs.declared.event.Line.{Line}
use Rattle.hk_events.specs.declared.event.Line.TheVariants as line
use Rattle.kms_calls.specs.declared.calls.KmsCall.TheVariants as call
use Rattle.kms_calls.specs.declared.calls.KmsReply.{KmsReply}
use Rattle.kms_calls.specs.declared.calls.KmsReply.TheVariants as key_reply
use Rattle.kms_calls.specs.declared.calls.RawEdek.{RawEdek}
use Rattle.name_calls.specs.declared.calls.NameReply.{NameReply}
use Rattle.name_calls.specs.declared.calls.NameReply.TheVariants as reply
use Rattle.file_orders.specs.declared.ends.FsEnd.{FsEnd}
use Rattle.file_orders.specs.declared.ends.FsEnd.TheVariants as end
use Rattle.file_orders.specs.declared.open.OpenFile.{OpenFile}
use Rattle.file_orders.specs.declared.open.ShownFile.{ShownFile}
use Rattle.file_orders.specs.Ends.{end_of_keys, end_of_names}
use Rattle.file_orders.specs.Events.{Leading}

-- ---- a file is made

-- the number under which an answer is kept; events have numbers below 2^32
abbrev pub kept_under : ℕ → Result ℕ FsEnd
kept_under number = if nat_lt number (2 ^ 32) then Ok number else Err end.NoMemory

-- The number of the ask, or why there is none. An ask gets no other answer.
abbrev pub asked_in : Line → Result ℕ FsEnd
asked_in (line.Asked number note) = kept_under number
asked_in (line.Refused why) = Err (end_of_names why)
asked_in _ = Err end.NoMemory

-- The number of the reply to the call that the ask wanted. It may only lack room.
abbrev pub replied_in : Line → Result ℕ FsEnd
replied_in (line.Replied number given) = kept_under number
replied_in _ = Err end.NoMemory

-- Why the file was not made, if it wasn't. A finish gets no other answer.
abbrev pub finished_in : Line → Option FsEnd
finished_in (line.Name reply.Done) = None
finished_in (line.Refused why) = Some (end_of_names why)
finished_in _ = Some end.NoMemory

-- the ask is finished by the reply of this number
abbrev pub FinishesCreate : {X : Type 0} → Leading X → Result ℕ FsEnd → X → Option FsEnd → X → Type 0
FinishesCreate leads (Err why) a result b = (result ≡ Some why) × (b ≡ a)
FinishesCreate leads (Ok number) a result b = (answer : Line) × leads a (event.Finish number) answer b × (result ≡ finished_in answer)

-- the call that the ask of this number wants is made
abbrev pub Draws : {X : Type 0} → Leading X → Result ℕ FsEnd → X → Option FsEnd → X → Type 0
Draws leads (Err why) a result b = (result ≡ Some why) × (b ≡ a)
Draws {X} leads (Ok number) a result b = (answer : Line) × (mid : X) × leads a (event.Draw number) answer mid × FinishesCreate leads (replied_in answer) mid result b

-- A user makes a file at a path: it is asked for, then the call is made that the ask wants, and then the ask is finished. If there is no
-- memory for the first event, nothing happens.
abbrev pub CreatesFile : {X : Type 0} → Leading X → List ℕ → List ℕ → X → Option FsEnd → X → Type 0
CreatesFile {X} leads user path a result b =
    ((answer : Line) × (mid : X) × leads a (event.AskCreate user path) answer mid × Draws leads (asked_in answer) mid result b)
    ⊎ ((result ≡ Some end.NoMemory) × (b ≡ a))

-- ---- a file is opened

-- the file that is at a path: its id and its encrypted key. No other reply than these comes.
abbrev pub shown_by : NameReply → Result ShownFile FsEnd
shown_by (reply.File id _ edek) = Ok (record { id = id; edek = edek })
shown_by (reply.Dir _ _ _) = Err end.Directory
shown_by (reply.Refused why) = Err (end_of_names why)
shown_by _ = Err end.NoMemory

abbrev pub shown_in : Line → Result ShownFile FsEnd
shown_in (line.Name given) = shown_by given
shown_in _ = Err end.NoMemory

-- an encrypted key as a client sends it
abbrev pub as_sent : Edek → RawEdek
as_sent edek = record { version = edek.version; iv = edek.iv; sealed = edek.sealed }

-- the data encryption key in a reply. No other reply than these comes.
abbrev pub dek_by : KmsReply → Result Dek FsEnd
dek_by (key_reply.Key dek) = Ok dek
dek_by (key_reply.Refused why) = Err (end_of_keys why)
dek_by _ = Err end.NoMemory

abbrev pub dek_in : Line → Result Dek FsEnd
dek_in (line.Kms given) = dek_by given
dek_in _ = Err end.NoMemory

-- a user has an encrypted key decrypted, unless there is no memory for the event
abbrev pub Decrypts : {X : Type 0} → Leading X → List ℕ → Edek → X → Result Dek FsEnd → X → Type 0
Decrypts leads user edek a result b =
    ((answer : Line) × leads a (event.Kms user (call.Decrypt edek.version.key (as_sent edek))) answer b × (result ≡ dek_in answer)) ⊎ ((result ≡ Err end.NoMemory) × (b ≡ a))

-- the file with this id and this initialization vector, whose key was decrypted
abbrev pub file_with : ℕ → Iv → Result Dek FsEnd → Result OpenFile FsEnd
file_with id iv (Ok dek) = Ok (record { id = id; key = Some (record { dek = dek; iv = iv }) })
file_with id iv (Err why) = Err why

-- a file outside every zone has no key; that of another is decrypted
abbrev pub OpensEdek : {X : Type 0} → Leading X → List ℕ → ℕ → Option Edek → X → Result OpenFile FsEnd → X → Type 0
OpensEdek leads user id None a result b = (result ≡ Ok (record { id = id; key = None })) × (b ≡ a)
OpensEdek leads user id (Some edek) a result b = (dek : Result Dek FsEnd) × Decrypts leads user edek a dek b × (result ≡ file_with id edek.iv dek)

abbrev pub OpensShown : {X : Type 0} → Leading X → List ℕ → Result ShownFile FsEnd → X → Result OpenFile FsEnd → X → Type 0
OpensShown leads user (Err why) a result b = (result ≡ Err why) × (b ≡ a)
OpensShown leads user (Ok shown) a result b = OpensEdek leads user shown.id shown.edek a result b

-- A user opens the file at a path: it is asked what is there, and then its key is decrypted. If there is no memory for the first event,
-- nothing happens.
abbrev pub OpensFile : {X : Type 0} → Leading X → List ℕ → List ℕ → X → Result OpenFile FsEnd → X → Type 0
OpensFile {X} leads user path a result b =
    ((answer : Line) × (mid : X) × leads a (event.Info user path) answer mid × OpensShown leads user (shown_in answer) mid result b)
    ⊎ ((result ≡ Err end.NoMemory) × (b ≡ a))
