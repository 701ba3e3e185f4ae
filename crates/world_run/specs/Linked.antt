-- What stays true from event to event, and gives the promise on zone files.
use Rattle.std.specs.Prelude.{◌≡◌, ◌≢◌, ◌⊎◌, ◌+◌, ◌*◌, ◌/◌, ◌^◌, ◌<◌, ◌≤◌, ℕ, ⊤, Bool, List, [], ◌∷◌, length, true, slice_get, Option, None, Some}
use Rattle.std.specs.List.{AllByRecursion}
use Rattle.hk_base.specs.Disk.{DiskState, Image, IsImage}
use Rattle.hk_base.specs.declared.names.Edek.{Edek}
use Rattle.hk_base.specs.declared.names.KeyName.{KeyName}
use Rattle.hk_base.specs.declared.names.VersionName.{VersionName}
use Rattle.eek_queues.specs.Queues.{Queue, has_queue, ready_in}
use Rattle.eek_seal.specs.declared.tickets.Ticket.{Ticket}
use Rattle.inode_tree.specs.declared.rows.Row.{Row}
use Rattle.inode_tree.specs.Rows.{Entry}
use Rattle.edit_ops.specs.declared.ops.EditOp.{EditOp}
use Rattle.key_rows.specs.declared.rows.KeyCommand.{KeyCommand}
use Rattle.key_rows.specs.declared.rows.KeyRow.{KeyRow}
use Rattle.key_rows.specs.Table.{Table}
use Rattle.kms_core.specs.Draws.{words_of_draw}
use Rattle.kms_core.specs.Opening.{unseals}
use Rattle.kms_core.specs.State.{AllReady, IsService}
use Rattle.kms_store.specs.Store.{IsSoundLog, settled_table}
use Rattle.name_store.specs.Table.{NameTable, Replayed, kept_rows, key_of_zone, settled_log}
use Rattle.name_store.specs.Store.{IsSoundLog as IsSoundNames}
use Rattle.name_core.specs.declared.asks.OpenAsk.{OpenAsk}
use Rattle.name_calls.specs.declared.calls.KeyAnswer.{KeyAnswer}
use Rattle.name_calls.specs.declared.calls.KeyAnswer.TheVariants.{Given, Refused}
use Rattle.name_core.specs.State.{IsNames, next_id, settled as settled_names}
use Rattle.world_run.specs.declared.kept.KeptReply.{KeptReply}
use Rattle.world_run.specs.declared.kept.KeptReply.TheVariants.{ToAsk, ToBatch}
use Rattle.reenc_update.specs.Replies.{FitsSent}
use Rattle.reenc_update.specs.declared.reply.BatchResult.{BatchResult}
use Rattle.reenc_update.specs.declared.reply.BatchResult.TheVariants as batch_result
use Rattle.reenc_walk.specs.declared.sent.BatchNote.{BatchNote}
use Rattle.reenc_walk.specs.declared.sent.Sent.{Sent}
use Rattle.zone_table.specs.declared.statuses.StatusRow.{StatusRow}
use Rattle.world_run.specs.World.{Kept, WorldState, numbered}
use Rattle.world_run.specs.Ledger.{Draw, Hidden, Ledger, Past, drawn_before, past_of}
use Rattle.world_run.specs.Covered.{CoveredBy}
use Rattle.world_run.specs.Promise.{Apart, FilesApart, FitsZone, In, edek_of}

-- what is true of each service by itself
pub record ServicesFit (w : WorldState) : Type 0 where
  pub keys : IsService w.keys
  pub names : IsNames w.names

-- The row opens the encrypted key to the data key drawn, which is as long as the row's materials. The initialization vector has 16
-- bytes.
pub record OpensUnder (row : KeyRow) (d : Draw) (e : Edek) : Type 0 where
  pub opens : unseals (row ∷ []) e ≡ Some d.dek
  pub long : length d.dek ≡ row.bits / 8
  pub vector : length e.iv ≡ 16

-- the row of the draw's birth, while it exists, opens the encrypted key to the data key drawn
abbrev pub OpensTo : List KeyRow → Draw → Edek → Type 0
OpensTo rows d e = (row : KeyRow) → In row rows → row.birth ≡ d.birth → OpensUnder row d e

-- a file with this id and this encrypted key has a draw, whose initialization vector the encrypted key has
pub record HasDraw (ledger : Ledger) (rows : List KeyRow) (id : ℕ) (e : Edek) : Type 0 where
  pub draw : Draw
  pub entered : In (id, draw) ledger
  pub of_key : e.version.key ≡ draw.version.key
  pub carries : e.iv ≡ draw.iv
  pub opens : OpensTo rows draw e

-- the re-encryption of this id has a draw, and notes its version
pub record HasNoted (ledger : Ledger) (session : ℕ) (noted : VersionName) : Type 0 where
  pub draw : Draw
  pub entered : In (session, draw) ledger
  pub noted_is : noted ≡ draw.version

abbrev pub StatusesLinked : Ledger → List StatusRow → Type 0
StatusesLinked ledger statuses = (s : StatusRow) → In s statuses → HasNoted ledger s.session s.noted

-- another re-encryption, of another zone
pub record IsOther (s t : StatusRow) : Type 0 where
  pub session : s.session ≢ t.session
  pub zone : s.zone ≢ t.zone

-- no two re-encryptions have one id or one zone
abbrev pub AreDistinct : List StatusRow → Type 0
AreDistinct [] = ⊤
AreDistinct (s ∷ ss) = AllByRecursion (IsOther s) ss × AreDistinct ss

-- a draw of the ledger, while its key exists, has that key's name and one of its versions
abbrev pub VersionsStand : Ledger → List KeyRow → Type 0
VersionsStand ledger keys = (id : ℕ) (d : Draw) (row : KeyRow) → In (id, d) ledger → In row keys → row.birth ≡ d.birth → (row.name ≡ d.version.key) × (d.version.number < length row.materials)

-- each file that the table keeps has a draw, each live entry fits its zone, and each re-encryption has a draw
pub record FilesLinked (ledger : Ledger) (keys : List KeyRow) (names : NameTable) : Type 0 where
  pub files : (row : Row) (e : Edek) → In row (kept_rows names) → edek_of row.kind ≡ Some e → HasDraw ledger keys row.id e
  pub zones : (x : Entry) → In x names.rows → FitsZone (key_of_zone names.rows x.path) x.row.kind
  pub statuses : StatusesLinked ledger names.statuses
  pub distinct : AreDistinct names.statuses

-- the key of a kept reply, and its draw
abbrev pub KeyLinked : List KeyRow → Option Edek → Option Draw → Type 0
KeyLinked keys None None = ⊤
KeyLinked keys None (Some d) = ⊥
KeyLinked keys (Some e) None = ⊥
KeyLinked keys (Some e) (Some d) = (e.version ≡ d.version) × (e.iv ≡ d.iv) × OpensTo keys d e

abbrev pub given : KeyAnswer → Option Edek
given (Refused why) = None
given (Given edek) = edek

-- the encrypted key that a kept reply gives, if it gives one
abbrev pub key_in_reply : KeptReply → Option Edek
key_in_reply (ToAsk id answer) = given answer
key_in_reply (ToBatch reply) = None

-- the reply is to the ask of this id
abbrev pub IsReplyTo : ℕ → KeptReply → Type 0
IsReplyTo id (ToAsk ask_id answer) = ask_id ≡ id
IsReplyTo id (ToBatch reply) = ⊥

-- a reply and its draw, if it has one, kept under one number
abbrev pub Replied : List KeptReply → List (Option Draw) → KeptReply → Option Draw → Type 0
Replied replies replied r o = (n : ℕ) × (numbered replies n ≡ Some r) × (numbered replied n ≡ Some o)

pub record RepliesLinked (keys : List KeyRow) (replies : List KeptReply) (replied : List (Option Draw)) : Type 0 where
  pub as_many : length replied ≡ length replies
  pub keys_open : (r : KeptReply) (o : Option Draw) → Replied replies replied r o → KeyLinked keys (key_in_reply r) o
  -- no two replies have one draw
  pub one_reply : (n m : ℕ) (d : Draw) → numbered replied n ≡ Some (Some d) → numbered replied m ≡ Some (Some d) → n ≡ m

-- a draw that an entry of the ledger, a kept reply or a ready key has
abbrev pub IsDrawn : Hidden → Draw → Type 0
IsDrawn h d = ((id : ℕ) × In (id, d) h.ledger) ⊎ (In (Some d) h.replied ⊎ ((birth : ℕ) × In d (h.queued birth)))

-- the birth is of an opening before the table's, or none above its greatest
abbrev pub IsOldBirth : Table → ℕ → Type 0
IsOldBirth t birth = (birth < t.opening * 2 ^ 32) ⊎ (birth ≤ t.greatest)

-- the birth is of an opening that the log of the table records
abbrev pub IsRecordedBirth : Table → ℕ → Type 0
IsRecordedBirth t birth = birth < (t.opening + 1) * 2 ^ 32

-- draws: each has a place below the next one, which no other draw has, and a key of such a birth, which is of an opening from 1 on
pub record DrawsFit (h : Hidden) (IsBirth : ℕ → Type 0) : Type 0 where
  pub below : (d : Draw) → IsDrawn h d → d.place < h.place
  pub one_place : (d f : Draw) → IsDrawn h d → IsDrawn h f → d.place ≡ f.place → d ≡ f
  pub born : (d : Draw) → IsDrawn h d → IsBirth d.birth
  pub recent : (d : Draw) → IsDrawn h d → 2 ^ 32 ≤ d.birth

-- draws are of words that were drawn, and no two have a word in common
pub record WordsApart (h : Hidden) : Type 0 where
  pub taken : (d : Draw) → IsDrawn h d → d.place + words_of_draw (length d.dek) ≤ h.place
  pub apart : (d f : Draw) → IsDrawn h d → IsDrawn h f → (d ≡ f) ⊎ Apart d f

-- and so the draws of two files
pub record AreDrawsApart (h : Hidden) : Type 0 where
  pub words : WordsApart h
  pub files : FilesApart h.ledger

pub record LedgerFits (ledger : Ledger) (replies : List KeptReply) (replied : List (Option Draw)) (asks : List OpenAsk) (next : ℕ) : Type 0 where
  pub one_draw : (id : ℕ) (d f : Draw) → In (id, d) ledger → In (id, f) ledger → d ≡ f
  pub one_file : (i j : ℕ) (d : Draw) → In (i, d) ledger → In (j, d) ledger → i ≡ j
  pub below : (id : ℕ) (d : Draw) → In (id, d) ledger → id < next
  -- each id is of an opening from 1 on
  pub recent : (id : ℕ) (d : Draw) → In (id, d) ledger → 2 ^ 32 ≤ id
  -- an open ask has no entry
  pub not_open : (a : OpenAsk) (d : Draw) → In a asks → In (a.id, d) ledger → ⊥
  -- the draw of an entry is of no other ask's reply
  pub its_ask : (id : ℕ) (r : KeptReply) (d : Draw) → In (id, d) ledger → Replied replies replied r (Some d) → IsReplyTo id r

-- P is true of each element of a list and the one at its place in another, which is as long
abbrev pub Pairs : {X Y : Type 0} → (X → Y → Type 0) → List X → List Y → Type 0
Pairs P [] [] = ⊤
Pairs P [] (y ∷ ys) = ⊥
Pairs P (x ∷ xs) [] = ⊥
Pairs P (x ∷ xs) (y ∷ ys) = P x y × Pairs P xs ys

-- a ready key in the queue of this birth, and its draw
pub record ReadyLinked (keys : List KeyRow) (birth : ℕ) (e : Edek) (d : Draw) : Type 0 where
  pub of_birth : d.birth ≡ birth
  pub of_version : e.version ≡ d.version
  pub of_iv : e.iv ≡ d.iv
  pub opens : OpensTo keys d e

-- the places of draws rise
abbrev pub AreDrawsRising : List Draw → Type 0
AreDrawsRising [] = ⊤
AreDrawsRising (d ∷ ds) = AllByRecursion (λ (f : Draw). d.place < f.place) ds × AreDrawsRising ds

-- Each ready key opens to the data key of its draw, while its key exists. The draw is queued once, and no kept reply and no entry of
-- the ledger has it.
pub record QueuesLinked (keys : List KeyRow) (queues : List Queue) (h : Hidden) : Type 0 where
  pub opens : (birth : ℕ) → Pairs (ReadyLinked keys birth) (ready_in queues birth) (h.queued birth)
  -- each queue is of the birth of a key that exists, and its ready keys are of that key's current version
  pub current : AllReady keys queues
  pub rising : (birth : ℕ) → AreDrawsRising (h.queued birth)
  pub not_replied : (birth : ℕ) (d : Draw) → In d (h.queued birth) → In (Some d) h.replied → ⊥
  pub not_entered : (birth id : ℕ) (d : Draw) → In d (h.queued birth) → In (id, d) h.ledger → ⊥

-- A kept ticket, whenever it is used: its birth is of a key of such an opening, and while the key exists, it has the name and the
-- version of the ticket, whose material is that of the ticket. Until the next restart the key has a queue.
pub record TicketLinked (keys : Table) (queues : List Queue) (t : Ticket) : Type 0 where
  pub opened : t.opening ≤ keys.opening
  pub born : IsOldBirth keys t.birth
  pub recent : 2 ^ 32 ≤ t.birth
  pub of_key : (row : KeyRow) → In row keys.rows → row.birth ≡ t.birth → (row.name ≡ t.version.key) × (slice_get row.materials t.version.number ≡ Some t.material)
  pub waits : (row : KeyRow) → In row keys.rows → row.birth ≡ t.birth → t.opening ≡ keys.opening → has_queue queues t.birth ≡ true

abbrev pub TicketsLinked : Table → List Queue → List Ticket → Type 0
TicketsLinked keys queues tickets = (t : Ticket) → In t tickets → TicketLinked keys queues t

-- the draw of the re-encryption of this id is of this key
pub record OfSession (ledger : Ledger) (session : ℕ) (key : KeyName) : Type 0 where
  pub draw : Draw
  pub entered : In (session, draw) ledger
  pub of_key : draw.version.key ≡ key

-- the encrypted key is not of an earlier version than the draw of the re-encryption of this id, while the key of that draw exists
abbrev pub NotBelow : Ledger → List KeyRow → ℕ → Edek → Type 0
NotBelow ledger keys session e = (d : Draw) (row : KeyRow) → In (session, d) ledger → In row keys → row.birth ≡ d.birth → d.version.number ≤ e.version.number

-- an encrypted key that came back for a file, under the same key as the one that was sent: it is that of the file's draw
pub record CameBack (ledger : Ledger) (keys : List KeyRow) (x : Sent) (e : Edek) : Type 0 where
  pub of_key : e.version.key ≡ x.edek.version.key
  pub has : HasDraw ledger keys x.id e

-- an encrypted key that came back in a re-encryption, for a file that was sent
pub record CameBackIn (ledger : Ledger) (keys : List KeyRow) (session : ℕ) (x : Sent) (e : Edek) : Type 0 where
  pub came : CameBack ledger keys x e
  pub of_session : OfSession ledger session e.version.key
  pub not_below : NotBelow ledger keys session e

-- each key of the result of a call for a batch came back for the file at its place
abbrev pub KeysCameBack : Ledger → List KeyRow → BatchNote → BatchResult → Type 0
KeysCameBack ledger keys note batch_result.Refused = ⊤
KeysCameBack ledger keys note (batch_result.Ready edeks) =
    (place : ℕ) (x : Sent) (e : Edek) → slice_get note.sent place ≡ Some x → slice_get edeks place ≡ Some e → CameBackIn ledger keys note.session x e

-- as many came back as were sent, each of the same key
abbrev pub ReplyCameBack : Ledger → List KeyRow → KeptReply → Type 0
ReplyCameBack ledger keys (ToAsk id answer) = ⊤
ReplyCameBack ledger keys (ToBatch reply) = FitsSent reply.note.sent reply.result × KeysCameBack ledger keys reply.note reply.result

-- the encrypted keys of kept batches, each of the key of its re-encryption, and those that came back for them
pub record BatchesLinked (ledger : Ledger) (keys : List KeyRow) (kept : Kept) : Type 0 where
  pub sent : (batch : BatchNote) (x : Sent) → In batch kept.batches → In x batch.sent → HasDraw ledger keys x.id x.edek
  pub sessions : (batch : BatchNote) (x : Sent) → In batch kept.batches → In x batch.sent → OfSession ledger batch.session x.edek.version.key
  pub back : (r : KeptReply) → In r kept.replies → ReplyCameBack ledger keys r

-- Files, asks, replies, ready keys, tickets and batches have their draws, with and without the pending operation of the namesystem.
pub record LinkedDraws (w : WorldState) (h : Hidden) : Type 0 where
  pub files : (kept : Bool) → FilesLinked h.ledger w.keys.keys.table.rows (settled_names kept w.names).table
  pub replies : RepliesLinked w.keys.keys.table.rows w.kept.replies h.replied
  pub draws : DrawsFit h (IsOldBirth w.keys.keys.table)
  pub ledger : LedgerFits h.ledger w.kept.replies h.replied w.names.names.asks (next_id w.names.names)
  pub queues : QueuesLinked w.keys.keys.table.rows w.keys.keys.ready.queues h
  pub tickets : TicketsLinked w.keys.keys.table w.keys.keys.ready.queues w.kept.tickets
  pub batches : BatchesLinked h.ledger w.keys.keys.table.rows w.kept
  pub versions : VersionsStand h.ledger w.keys.keys.table.rows

-- From event to event: also the re-encryptions cover their files, with and without the pending operation.
pub record LinkedWorld (w : WorldState) (h : Hidden) : Type 0 where
  pub draws : LinkedDraws w h
  pub covered : (kept : Bool) → CoveredBy (past_of h) w.keys.keys.table.rows (settled_names kept w.names).table (settled_names kept w.names).walks

-- What is true of two tables that are found in the files, while nothing is kept: files are linked, the births of the ledger are of
-- openings that the key log records, its ids of openings that the edit log records, and its versions of the keys that exist; and the
-- re-encryptions cover their files.
pub record LinkedTables (past : Past) (keys : Table) (names : NameTable) : Type 0 where
  pub files : FilesLinked past.ledger keys.rows names
  pub draws : DrawsFit (drawn_before past) (IsRecordedBirth keys)
  pub fits : LedgerFits past.ledger [] [] [] ((names.opening + 1) * 2 ^ 32)
  pub versions : VersionsStand past.ledger keys.rows
  pub covered : CoveredBy past keys.rows names []

-- Files that a run may start from, with what is hidden of earlier runs: two logs, and after each there may be one more record,
-- which applies. The two tables are linked with those records and without them.
pub record SoundFiles (past : Past) (image : Image) : Type 0 where
  pub commands : List KeyCommand
  pub more : Option KeyCommand
  pub table : Table
  pub ops : List EditOp
  pub more_ops : Option EditOp
  pub made : Replayed
  pub keys : IsSoundLog (image 0) commands more table
  pub names : IsSoundNames (image 1) ops more_ops made
  pub linked : (found found_names : Bool) → LinkedTables past (settled_table found more table) (settled_log found_names more_ops made).table

-- every image of a moment is such files
abbrev pub StartsSound : DiskState → Past → Type 0
StartsSound old past = (c : Image) → IsImage old c → SoundFiles past c
