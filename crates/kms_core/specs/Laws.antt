-- Properties of data encryption keys that are generated, decrypted and re-encrypted, and of births.
use Rattle.std.specs.Prelude.{◌≡◌, ◌⊎◌, ℕ, ◌+◌, ◌<◌, ◌≤◌, Bool, List, [], ◌∷◌, ◌++◌, length, true, false, None, Ok, Some, is_none, slice_get, IsTrue}
use Rattle.hk_base.specs.Faults.{Rose}
use Rattle.hk_base.specs.declared.names.Dek.{Dek}
use Rattle.hk_base.specs.declared.names.Edek.{Edek}
use Rattle.hk_base.specs.declared.names.KeyName.{KeyName}
use Rattle.hk_base.specs.declared.names.VersionName.{VersionName}
use Rattle.hk_base.specs.declared.texts.Text.{Text}
use Rattle.prop_text.specs.declared.lines.PropLine.{PropLine}
use Rattle.kms_acls.specs.declared.answers.Shown.{Shown}
use Rattle.kms_acls.specs.Verdict.{verdict}
use Rattle.kms_calls.specs.declared.calls.KmsCall.{KmsCall}
use Rattle.kms_calls.specs.declared.calls.KmsCall.TheVariants as call
use Rattle.kms_calls.specs.declared.calls.KmsReply.{KmsReply}
use Rattle.kms_calls.specs.declared.calls.KmsReply.TheVariants as reply
use Rattle.kms_calls.specs.declared.calls.RawEdek.{RawEdek}
use Rattle.key_rows.specs.Table.{Table, find_birth, material_of}
use Rattle.key_rows.specs.Sound.{IsKeyTable}
use Rattle.eek_seal.specs.Seal.{seal, unseal}
use Rattle.eek_seal.specs.Tickets.{SealedKey}
use Rattle.eek_seal.specs.declared.tickets.Ticket.{Ticket}
use Rattle.eek_queues.specs.Queues.{AllQueues, ready_in}
use Rattle.eek_seal.specs.declared.deposit.Deposit.TheVariants.{Kept}
use Rattle.kms_core.specs.Ready.{deposit_answer, deposited, edek_of_sealed, ticket_of}
use Rattle.kms_core.specs.Draws.{drawn_dek, drawn_edek, place_of_draw, words_of_draw}
use Rattle.kms_core.specs.Opening.{unseals}
use Rattle.key_rows.specs.declared.rows.KeyCommand.{KeyCommand}
use Rattle.kms_core.specs.State.{IsService, KmsState, ServiceState, next_birth, service_after_opening, settled}
use Rattle.kms_store.specs.Store.{is_older}
use Rattle.kms_core.specs.Service.{ReadFails}
use Rattle.kms_core.specs.Users.{ServesUser}
use Rattle.kms_core.specs.Calls.{CallActs, birth_of, current_version, first_cause, sent_causes, row_of, edek_of, current_material, ready_of}

-- a decryption without a cause of a refusal opens the key, and gets no other answer
abbrev pub DecryptOpens : Type 0
DecryptOpens =
    (s : KmsState) (words : ℕ → ℕ) (now : ℕ) (name : KeyName) (sent : RawEdek) (result : KmsReply) (s' : KmsState) (words' : ℕ → ℕ)
    → first_cause (sent_causes (row_of s name) name sent) ≡ None → CallActs s words now (call.Decrypt name sent) result s' words'
    → (key : Dek) × (unseals s.table.rows (edek_of sent) ≡ Some key) × (result ≡ reply.Key key)

-- So the decryption of a permitted user opens the key, unless the disk fails while it is asked for an older material. Nothing changes.
abbrev pub PermittedDecryptOpens : Type 0
PermittedDecryptOpens =
    (lines : List PropLine) (user : Text) (s : ServiceState) (words : ℕ → ℕ) (now : ℕ) (name : KeyName) (sent : RawEdek) (before later : ℕ) (tells : Bool)
    (result : KmsReply) (drawn : ℕ) (logged : List KeyCommand) (s' : ServiceState) (shown : Shown)
    → verdict lines user (call.Decrypt name sent) ≡ Ok shown → first_cause (sent_causes (row_of s.keys name) name sent) ≡ None
    → ServesUser lines user s words now (call.Decrypt name sent) (Rose before later) (IsTrue tells) result drawn logged s' → (IsTrue (is_older s.keys.table sent.version) → IsTrue tells)
    → (((key : Dek) × (unseals s.keys.table.rows (edek_of sent) ≡ Some key) × (result ≡ reply.Key key)) ⊎ ReadFails s.keys (call.Decrypt name sent) (Rose before later) result)
    × (s' ≡ s)

-- the data key of the draw of this number in a generate, from 0
abbrev pub dek_of_draw : KmsState → (ℕ → ℕ) → KeyName → ℕ → Dek
dek_of_draw s words name number =
    let len = length (current_material s name) in
    drawn_dek words (place_of_draw len number) len

-- a generate returns the oldest ready keys first
abbrev pub ReadyFirst : Type 0
ReadyFirst =
    (s : KmsState) (words : ℕ → ℕ) (now : ℕ) (name : KeyName) (count : ℕ) (keys : List Edek) (s' : KmsState) (words' : ℕ → ℕ)
    → CallActs s words now (call.Generate name count) (reply.Ready keys) s' words'
    → (number : ℕ) → number < count → number < length (ready_of s name) → slice_get keys number ≡ slice_get (ready_of s name) number

-- A ready key is of the current version, and opens under its material.
pub record OpensReady (s : KmsState) (name : KeyName) (key : Edek) : Type 0 where
  pub version : key.version ≡ current_version (row_of s name)
  pub opens : unseals s.table.rows key ≡ Some (unseal (current_material s name) key.iv key.sealed)

abbrev pub ReadyOpens : Type 0
ReadyOpens =
    (s : ServiceState) (name : KeyName) → IsService s → is_none (row_of s.keys name) ≡ false
    → (number : ℕ) (key : Edek) → slice_get (ready_of s.keys name) number ≡ Some key → OpensReady s.keys name key

-- the material of a ticket is that of its version
abbrev pub TicketOpens : Type 0
TicketOpens = (s : ServiceState) (ticket : Ticket) → IsService s → ticket_of s.keys ≡ Some ticket → material_of s.keys.table.rows ticket.version ≡ Some ticket.material

-- A key that was deposited is the newest ready key of its queue. If the current material sealed it, it opens to the data key that was
-- sealed.
pub record OpensDeposited (s : KmsState) (x : SealedKey) : Type 0 where
  pub newest : ready_in (deposited s x).ready.queues x.birth ≡ ready_in s.ready.queues x.birth ++ edek_of_sealed x ∷ []
  pub opens : x.sealed ≡ seal (current_material s x.version.key) x.iv x.dek → unseals (deposited s x).table.rows (edek_of_sealed x) ≡ Some x.dek

abbrev pub DepositOpens : Type 0
DepositOpens =
    (s : ServiceState) (x : SealedKey) → IsService s → deposit_answer s.keys x ≡ Kept → OpensDeposited s.keys x

-- each key that a generate returns after the ready keys opens, under the table after it, to the data key drawn for it
abbrev pub GeneratedOpens : Type 0
GeneratedOpens =
    (s : KmsState) (words : ℕ → ℕ) (now : ℕ) (name : KeyName) (count : ℕ) (keys : List Edek) (s' : KmsState) (words' : ℕ → ℕ)
    → IsKeyTable s.table → CallActs s words now (call.Generate name count) (reply.Ready keys) s' words'
    → (number : ℕ) (key : Edek) → slice_get keys (length (ready_of s name) + number) ≡ Some key → unseals s'.table.rows key ≡ Some (dek_of_draw s words name number)

-- the encrypted key, as it is sent back
abbrev pub sent_of : Edek → RawEdek
sent_of key = record { version = key.version; iv = key.iv; sealed = key.sealed }

-- decrypt returns that data key
abbrev pub GeneratedDecrypts : Type 0
GeneratedDecrypts =
    (s : KmsState) (words : ℕ → ℕ) (now : ℕ) (name : KeyName) (count : ℕ) (keys : List Edek) (s' : KmsState) (words' : ℕ → ℕ)
    → IsKeyTable s.table → CallActs s words now (call.Generate name count) (reply.Ready keys) s' words'
    → (number : ℕ) (key : Edek) → slice_get keys (length (ready_of s name) + number) ≡ Some key
    → (later : ℕ → ℕ) (then : ℕ) (result : KmsReply) (s'' : KmsState) (later' : ℕ → ℕ)
    → CallActs s' later then (call.Decrypt name (sent_of key)) result s'' later' → result ≡ reply.Key (dek_of_draw s words name number)

-- The key sent and the key returned open to the same data encryption key, with the same initialization vector, and the
-- key returned is on the current version.
pub record SameKey (s : KmsState) (name : KeyName) (sent : RawEdek) (s' : KmsState) (key : Edek) : Type 0 where
  pub dek : Dek
  pub before : unseals s.table.rows (edek_of sent) ≡ Some dek
  pub after : unseals s'.table.rows key ≡ Some dek
  pub iv : key.iv ≡ sent.iv
  pub version : key.version ≡ current_version (row_of s' name)

-- the key that a reencrypt returns opens, under the table after it, to the data key of the key sent
abbrev pub ReencryptedOpens : Type 0
ReencryptedOpens =
    (s : KmsState) (words : ℕ → ℕ) (now : ℕ) (name : KeyName) (sent : RawEdek) (key : Edek) (s' : KmsState) (words' : ℕ → ℕ)
    → IsKeyTable s.table → CallActs s words now (call.Reencrypt name sent) (reply.Resealed key) s' words' → SameKey s name sent s' key

-- so does each key of a batch; as many are returned as were sent
abbrev pub BatchOpens : Type 0
BatchOpens =
    (s : KmsState) (words : ℕ → ℕ) (now : ℕ) (name : KeyName) (sent : List RawEdek) (keys : List Edek) (s' : KmsState) (words' : ℕ → ℕ)
    → IsKeyTable s.table → CallActs s words now (call.Batch name sent) (reply.Ready keys) s' words'
    → (length keys ≡ length sent)
    × ((place : ℕ) (one : RawEdek) (key : Edek) → slice_get sent place ≡ Some one → slice_get keys place ≡ Some key → SameKey s name one s' key)

-- a birth that was used, and that no key has
pub record Gone (t : Table) (birth : ℕ) : Type 0 where
  pub used : birth ≤ t.greatest
  pub absent : is_none (find_birth t.rows birth) ≡ true

-- no call of a user gives a used birth to a key again
abbrev pub GoneStays : Type 0
GoneStays =
    (lines : List PropLine) (user : Text) (s : ServiceState) (words : ℕ → ℕ) (now : ℕ) (c : KmsCall) (before later : ℕ) (tells : Bool) (result : KmsReply) (drawn : ℕ) (logged : List KeyCommand)
    (s' : ServiceState)
    → IsService s → ServesUser lines user s words now c (Rose before later) (IsTrue tells) result drawn logged s' → (birth : ℕ) → Gone s.keys.table birth → Gone s'.keys.table birth

-- nor does a start, whether it finds the pending command or not
abbrev pub GoneStaysAtStart : Type 0
GoneStaysAtStart =
    (s : ServiceState) (kept : Bool) (sizes : AllQueues) → IsService s → (birth : ℕ) → Gone s.keys.table birth → Gone (service_after_opening sizes (settled kept s).table).keys.table birth

-- the birth of a deleted key is used and gone
abbrev pub DeletedIsGone : Type 0
DeletedIsGone =
    (lines : List PropLine) (user : Text) (s : ServiceState) (words : ℕ → ℕ) (now : ℕ) (name : KeyName) (before later : ℕ) (tells : Bool) (drawn : ℕ) (logged : List KeyCommand) (s' : ServiceState)
    → IsService s → ServesUser lines user s words now (call.Delete name) (Rose before later) (IsTrue tells) reply.Done drawn logged s'
    → (kept : Bool) × Gone s'.keys.table (birth_of (row_of (settled kept s) name))

-- A birth below the next one that no key has, whether or not the pending command was kept. Its key was deleted, or it was
-- taken for a create whose record could not be written.
pub record IsUsedUp (s : ServiceState) (birth : ℕ) : Type 0 where
  pub below : birth < next_birth s.keys
  pub absent : (kept : Bool) → is_none (find_birth (settled kept s).table.rows birth) ≡ true

-- no call of a user gives a used-up birth to a key
abbrev pub UsedUpStays : Type 0
UsedUpStays =
    (lines : List PropLine) (user : Text) (s : ServiceState) (words : ℕ → ℕ) (now : ℕ) (c : KmsCall) (before later : ℕ) (tells : Bool) (result : KmsReply) (drawn : ℕ) (logged : List KeyCommand)
    (s' : ServiceState)
    → IsService s → ServesUser lines user s words now c (Rose before later) (IsTrue tells) result drawn logged s' → (birth : ℕ) → IsUsedUp s birth → IsUsedUp s' birth

-- the queues of ready keys may differ, and nothing else
abbrev pub OnlyQueues : ServiceState → ServiceState → Type 0
OnlyQueues s s' = s' ≡ record s { keys = record s.keys { ready = s'.keys.ready } }

-- A birth below the next one that no key has after a call is used up, unless the call left everything but the queues unchanged:
-- then the pending command, which may create a key with it, is still pending.
abbrev pub LostIsUsedUp : Type 0
LostIsUsedUp =
    (lines : List PropLine) (user : Text) (s : ServiceState) (words : ℕ → ℕ) (now : ℕ) (c : KmsCall) (before later : ℕ) (tells : Bool) (result : KmsReply) (drawn : ℕ) (logged : List KeyCommand)
    (s' : ServiceState)
    → IsService s → ServesUser lines user s words now c (Rose before later) (IsTrue tells) result drawn logged s'
    → (birth : ℕ) → birth < next_birth s.keys → is_none (find_birth s'.keys.table.rows birth) ≡ true → IsUsedUp s' birth ⊎ OnlyQueues s s'

-- so is each birth below the next one that no key has in the table that a start finds
abbrev pub UsedUpAtStart : Type 0
UsedUpAtStart =
    (s : ServiceState) (kept : Bool) (sizes : AllQueues) → IsService s → (birth : ℕ) → birth < next_birth s.keys → is_none (find_birth (settled kept s).table.rows birth) ≡ true
    → IsUsedUp (service_after_opening sizes (settled kept s).table) birth

-- `count` words from this place on are the same in both streams
abbrev pub SameWords : (ℕ → ℕ) → (ℕ → ℕ) → ℕ → ℕ → Type 0
SameWords words others place count = (k : ℕ) → k < count → words (place + k) ≡ others (place + k)

-- A draw reads only its own words.
pub record ReadsItsOwn (version : VersionName) (material : Dek) (words others : ℕ → ℕ) (place : ℕ) : Type 0 where
  pub edek : drawn_edek version material words place ≡ drawn_edek version material others place
  pub dek : drawn_dek words place (length material) ≡ drawn_dek others place (length material)

abbrev pub DrawsReadTheirOwn : Type 0
DrawsReadTheirOwn =
    (version : VersionName) (material : Dek) (words others : ℕ → ℕ) (place : ℕ)
    → SameWords words others place (words_of_draw (length material)) → ReadsItsOwn version material words others place

-- the words of a draw end where the next draw begins, or before, so no word is used by two draws
abbrev pub DrawsApart : Type 0
DrawsApart = (len number later : ℕ) → number < later → place_of_draw len number + words_of_draw len ≤ place_of_draw len later
