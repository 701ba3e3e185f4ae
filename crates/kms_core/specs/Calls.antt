-- The calls of the key management service: why each is refused, what it answers, and the state it leaves.
use Rattle.std.specs.Prelude.{◌≡◌, ◌≤◌, ℕ, ◌+◌, ◌-◌, ◌/◌, Bool, true, false, not, ◌&&◌, ◌||◌, ◌==◌, nat_lt, nat_le, List, [], ◌∷◌, ◌++◌, length, take, drop, map, Option, Some, None, is_some, is_none, unwrap_or, bytes_eq, if◌then◌else◌}
use Rattle.std.specs.List.{list_any}
use Rattle.hk_base.specs.declared.names.Dek.{Dek}
use Rattle.hk_base.specs.declared.names.Edek.{Edek}
use Rattle.hk_base.specs.declared.names.KeyName.{KeyName}
use Rattle.hk_base.specs.declared.names.VersionName.{VersionName}
use Rattle.key_rows.specs.declared.rows.KeyRow.{KeyRow}
use Rattle.key_rows.specs.declared.rows.KeyCommand.{KeyCommand}
use Rattle.key_rows.specs.declared.rows.KeyCommand.TheVariants as command
use Rattle.kms_calls.specs.declared.calls.KmsCall.{KmsCall}
use Rattle.kms_calls.specs.declared.calls.KmsCall.TheVariants as call
use Rattle.kms_calls.specs.declared.calls.KeyMeta.{KeyMeta}
use Rattle.kms_calls.specs.declared.calls.RawEdek.{RawEdek}
use Rattle.kms_calls.specs.declared.calls.KmsReply.{KmsReply}
use Rattle.kms_calls.specs.declared.calls.KmsReply.TheVariants as reply
use Rattle.kms_calls.specs.declared.calls.KmsRefusal.{KmsRefusal}
use Rattle.kms_calls.specs.declared.calls.KmsRefusal.TheVariants as refusal
use Rattle.kms_calls.specs.Shown.{Shown}
use Rattle.key_rows.specs.Table.{find_name, is_length, material_of, current_of}
use Rattle.eek_seal.specs.Seal.{seal}
use Rattle.kms_core.specs.Draws.{material_for, words_for, drawn_edeks, place_of_draw}
use Rattle.kms_core.specs.Opening.{unseals}
use Rattle.kms_core.specs.Order.{names_in_order}
use Rattle.eek_queues.specs.Queues.{AllQueues, has_queue, put_queue, ready_in, set_ready}
use Rattle.kms_core.specs.State.{KmsState, emptied, next_birth, is_spent, took}

-- the causes of a refusal, in the order of the rules; the first that is true counts
abbrev pub first_cause : List (Bool × KmsRefusal) → Option KmsRefusal
first_cause [] = None
first_cause (cause ∷ causes) = if cause.0 then Some cause.1 else first_cause causes

abbrev pub row_of : KmsState → KeyName → Option KeyRow
row_of s name = find_name s.table.rows name

-- the data of a key, if it exists

abbrev pub bits_of : Option KeyRow → ℕ
bits_of None = 0
bits_of (Some row) = row.bits

abbrev pub birth_of : Option KeyRow → ℕ
birth_of None = 0
birth_of (Some row) = row.birth

abbrev pub versions_of : Option KeyRow → ℕ
versions_of None = 0
versions_of (Some row) = length row.materials

abbrev pub description_of : Option KeyRow → List ℕ
description_of None = []
description_of (Some row) = row.description

abbrev pub created_of : Option KeyRow → ℕ
created_of None = 0
created_of (Some row) = row.created

abbrev pub current_version : Option KeyRow → VersionName
current_version None = record { key = []; number = 0 }
current_version (Some row) = current_of row

-- the material of the current version
abbrev pub current_material : KmsState → KeyName → Dek
current_material s name = unwrap_or (material_of s.table.rows (current_version (row_of s name))) []

-- the given material does not have the length of the key
abbrev pub is_misfit : ℕ → Option (List ℕ) → Bool
is_misfit bits None = false
is_misfit bits (Some material) = not (length material == bits / 8)

abbrev pub is_full : KmsState → Bool
is_full s = nat_le 10000 (length s.table.rows) || is_spent s

abbrev pub is_absent : KmsState → KeyName → Bool
is_absent s name = is_none (row_of s name)

-- the key has no version of the number
abbrev pub lacks_number : Option KeyRow → ℕ → Bool
lacks_number row number = nat_le (versions_of row) number

-- the key has no version of the number sent
abbrev pub lacks_version : Option KeyRow → RawEdek → Bool
lacks_version row sent = lacks_number row sent.version.number

abbrev pub is_of_other_key : KeyName → RawEdek → Bool
is_of_other_key name sent = not (bytes_eq sent.version.key name)

-- the sealed bytes do not have the length of the key, or the initialization vector does not have 16 bytes
abbrev pub is_malformed : ℕ → RawEdek → Bool
is_malformed bits sent = not (length sent.sealed == bits / 8) || not (length sent.iv == 16)

-- why a call is refused

abbrev pub create_causes : KmsState → KeyName → ℕ → Option (List ℕ) → List (Bool × KmsRefusal)
create_causes s name bits material =
    (is_some (row_of s name), refusal.KeyExists) ∷ (not (is_length bits), refusal.BadLength) ∷ (is_misfit bits material, refusal.BadMaterial)
    ∷ (is_full s, refusal.TooManyKeys) ∷ []

abbrev pub roll_causes : Option KeyRow → Option (List ℕ) → List (Bool × KmsRefusal)
roll_causes row material =
    (is_none row, refusal.NoSuchKey) ∷ (is_misfit (bits_of row) material, refusal.BadMaterial) ∷ (nat_le 65535 (versions_of row), refusal.TooManyVersions) ∷ []

abbrev pub generate_causes : Option KeyRow → ℕ → List (Bool × KmsRefusal)
generate_causes row count = (is_none row, refusal.NoSuchKey) ∷ (nat_lt 1000 count, refusal.TooManyAsked) ∷ []

abbrev pub sent_causes : Option KeyRow → KeyName → RawEdek → List (Bool × KmsRefusal)
sent_causes row name sent =
    (is_none row, refusal.NoSuchKey) ∷ (lacks_version row sent, refusal.NoSuchVersion) ∷ (is_of_other_key name sent, refusal.WrongKey)
    ∷ (is_malformed (bits_of row) sent, refusal.BadMaterial) ∷ []

-- for keys sent together: each cause is tried on all of them before the next one
abbrev pub batch_causes : Option KeyRow → KeyName → List RawEdek → List (Bool × KmsRefusal)
batch_causes row name sent =
    (is_none row, refusal.NoSuchKey) ∷ (list_any (lacks_version row) sent, refusal.NoSuchVersion) ∷ (list_any (is_of_other_key name) sent, refusal.WrongKey)
    ∷ (list_any (is_malformed (bits_of row)) sent, refusal.BadMaterial) ∷ (nat_lt 1000 (length sent), refusal.TooManyAsked) ∷ []

abbrev pub version_causes : Option KeyRow → ℕ → List (Bool × KmsRefusal)
version_causes row number = (is_none row, refusal.NoSuchKey) ∷ (lacks_number row number, refusal.NoSuchVersion) ∷ []

-- for a call that only requires that the key exists
abbrev pub absence_causes : Option KeyRow → List (Bool × KmsRefusal)
absence_causes row = (is_none row, refusal.NoSuchKey) ∷ []

abbrev pub causes : KmsState → KmsCall → List (Bool × KmsRefusal)
causes s (call.Create name bits material description) = create_causes s name bits material
causes s (call.Roll name material) = roll_causes (row_of s name) material
causes s (call.Delete name) = absence_causes (row_of s name)
causes s (call.Invalidate name) = absence_causes (row_of s name)
causes s (call.Metadata name) = absence_causes (row_of s name)
causes s (call.Metadatas names) = (list_any (is_absent s) names, refusal.NoSuchKey) ∷ []
causes s call.Names = []
causes s (call.Current name) = absence_causes (row_of s name)
causes s (call.Versions name) = absence_causes (row_of s name)
causes s (call.Version version) = version_causes (row_of s version.key) version.number
causes s (call.Generate name count) = generate_causes (row_of s name) count
causes s (call.Decrypt name sent) = sent_causes (row_of s name) name sent
causes s (call.Reencrypt name sent) = sent_causes (row_of s name) name sent
causes s (call.Batch name sent) = batch_causes (row_of s name) name sent

-- What a call that is not refused does: its answer, its change of the table, the state in which the change takes
-- effect, and the number of words that it draws.
pub record Deed : Type 0 where
  pub answer : KmsReply
  pub logs : Option KeyCommand
  pub state : KmsState
  pub words : ℕ

abbrev pub version_with_material : KeyName → ℕ → List ℕ → KmsReply
version_with_material name number material = reply.Version (record { key = name; number = number }) (Some material)

-- the key with its first version
abbrev pub created : KmsState → ℕ → KeyName → ℕ → List ℕ → List ℕ → ℕ → Deed
created s now name bits description material words =
    record {
      answer = version_with_material name 0 material;
      logs = Some (command.Create (next_birth s) name bits description now material);
      state = record s { next = s.next + 1 };
      words = words;
    }

-- the key with its next version
abbrev pub rolled : KmsState → KeyName → Option KeyRow → List ℕ → ℕ → Deed
rolled s name row material words =
    record {
      answer = version_with_material name (versions_of row) material;
      logs = Some (command.Roll (birth_of row) (versions_of row) material);
      state = s;
      words = words;
    }

-- the key of the birth is deleted, with all its versions
abbrev pub deleted : KmsState → ℕ → Deed
deleted s birth = record { answer = reply.Done; logs = Some (command.Delete birth); state = s; words = 0 }

abbrev pub only_answer : KmsState → KmsReply → Deed
only_answer s answer = record { answer = answer; logs = None; state = s; words = 0 }

abbrev pub meta_of : KeyName → Option KeyRow → KeyMeta
meta_of name row = record { name = name; bits = bits_of row; description = description_of row; created = created_of row; versions = versions_of row }

-- the metadata of each key, in the order of the request
abbrev pub metas_of : KmsState → List KeyName → List KeyMeta
metas_of s names = map (λ name. meta_of name (row_of s name)) names

-- the versions of a key with these materials, numbered from the first on
abbrev pub versions_from : KeyName → ℕ → List Dek → List Shown
versions_from name number [] = []
versions_from name number (material ∷ materials) =
    record { version = record { key = name; number = number }; material = Some material } ∷ versions_from name (number + 1) materials

-- all versions of a key, in order of number
abbrev pub all_versions : Option KeyRow → List Shown
all_versions None = []
all_versions (Some row) = versions_from row.name 0 row.materials

-- the ready keys of a key, the oldest first
abbrev pub ready_of : KmsState → KeyName → List Edek
ready_of s name = ready_in s.ready.queues (birth_of (row_of s name))

-- the queues with one for this birth: an empty one if it had none
abbrev pub with_queue : AllQueues → ℕ → AllQueues
with_queue all birth = if has_queue all.queues birth then all else record all { queues = put_queue (record { birth = birth; ready = [] }) all.queues }

-- the queues without the oldest `count` ready keys of this birth, which then has a queue
abbrev pub handed_out : AllQueues → ℕ → ℕ → AllQueues
handed_out all birth count =
    let made = with_queue all birth in
    record made { queues = set_ready made.queues birth (drop count (ready_in made.queues birth)) }

-- `count` data encryption keys under the current version: the oldest ready keys, and the rest drawn from the next words
abbrev pub generated : KmsState → (ℕ → ℕ) → KeyName → ℕ → Deed
generated s words name count =
    let material = current_material s name in
    let rest = count - length (ready_of s name) in
    record {
      answer = reply.Ready (take count (ready_of s name) ++ drawn_edeks (current_version (row_of s name)) material words rest);
      logs = None;
      state = record s { ready = handed_out s.ready (birth_of (row_of s name)) count };
      words = place_of_draw (length material) rest;
    }

-- the ready keys of a key are dropped
abbrev pub invalidated : KmsState → KeyName → Deed
invalidated s name =
    record { answer = reply.Done; logs = None; state = record s { ready = emptied s.ready (birth_of (row_of s name)) }; words = 0 }

-- the sent key as an encrypted data encryption key
abbrev pub edek_of : RawEdek → Edek
edek_of sent = record { version = sent.version; iv = sent.iv; sealed = sent.sealed }

-- the sent key, opened under the material of its version
abbrev pub unsealed_dek : KmsState → RawEdek → Dek
unsealed_dek s sent = unwrap_or (unseals s.table.rows (edek_of sent)) []

abbrev pub same_version : VersionName → VersionName → Bool
same_version version other = bytes_eq version.key other.key && version.number == other.number

-- the data encryption key that was sent, under the current version: unchanged if it is on that version, else opened and
-- sealed again with the same initialization vector
abbrev pub resealed : KmsState → KeyName → RawEdek → Edek
resealed s name sent =
    let current = current_version (row_of s name) in
    if same_version sent.version current then edek_of sent
    else record { version = current; iv = sent.iv; sealed = seal (current_material s name) sent.iv (unsealed_dek s sent) }

abbrev pub deed : KmsState → (ℕ → ℕ) → ℕ → KmsCall → Deed
deed s words now (call.Create name bits material description) =
    created s now name bits description (material_for words bits material) (words_for bits material)
deed s words now (call.Roll name material) =
    let row = row_of s name in
    rolled s name row (material_for words (bits_of row) material) (words_for (bits_of row) material)
deed s words now (call.Delete name) = deleted s (birth_of (row_of s name))
deed s words now (call.Invalidate name) = invalidated s name
deed s words now (call.Metadata name) = only_answer s (reply.Metadata (meta_of name (row_of s name)))
deed s words now (call.Metadatas names) = only_answer s (reply.Metadatas (metas_of s names))
deed s words now call.Names = only_answer s (reply.Names (names_in_order s.table.rows))
deed s words now (call.Current name) = only_answer s (reply.Version (current_version (row_of s name)) (Some (current_material s name)))
deed s words now (call.Versions name) = only_answer s (reply.Versions (all_versions (row_of s name)))
deed s words now (call.Version version) = only_answer s (reply.Version version (material_of s.table.rows version))
deed s words now (call.Generate name count) = generated s words name count
deed s words now (call.Decrypt name sent) = only_answer s (reply.Key (unsealed_dek s sent))
deed s words now (call.Reencrypt name sent) = only_answer s (reply.Resealed (resealed s name sent))
deed s words now (call.Batch name sent) = only_answer s (reply.Ready (map (resealed s name) sent))

abbrev pub done_with : Option KeyCommand → KmsState → KmsState
done_with None s = s
done_with (Some c) s = took s c

-- the result of a call: its reply, the number of words drawn, and the state after it
pub record Outcome : Type 0 where
  pub reply : KmsReply
  pub drawn : ℕ
  pub state : KmsState

-- a refusal leaves the state unchanged
abbrev pub refused : KmsRefusal → ℕ → KmsState → Outcome
refused why drawn s = record { reply = reply.Refused why; drawn = drawn; state = s }

abbrev pub accepted : Deed → Outcome
accepted d = record { reply = d.answer; drawn = d.words; state = done_with d.logs d.state }

abbrev pub unless_refused : Option KmsRefusal → KmsState → Deed → Outcome
unless_refused (Some why) s d = refused why 0 s
unless_refused None s d = accepted d

-- what is left open in a call: memory may run out after some of its words were drawn
pub data Ending : Type 0 where
  Plain : Ending
  NoRoom : (drawn : ℕ) → Ending

abbrev pub takes_memory : KmsCall → Bool
takes_memory (call.Create name bits material description) = true
takes_memory (call.Roll name material) = true
takes_memory (call.Delete name) = true
takes_memory (call.Invalidate name) = false
takes_memory (call.Metadata name) = true
takes_memory (call.Metadatas names) = true
takes_memory call.Names = true
takes_memory (call.Current name) = false
takes_memory (call.Versions name) = true
takes_memory (call.Version version) = false
takes_memory (call.Generate name count) = true
takes_memory (call.Decrypt name sent) = false
takes_memory (call.Reencrypt name sent) = false
takes_memory (call.Batch name sent) = true

-- memory may run out only if the call allocates and no other refusal applies, after at most the words that the call draws
abbrev pub MayEnd : KmsState → (ℕ → ℕ) → ℕ → KmsCall → Ending → Type 0
MayEnd s words now c Plain = Unit {0}
MayEnd s words now c (NoRoom drawn) = (takes_memory c ≡ true) × (first_cause (causes s c) ≡ None) × (drawn ≤ (deed s words now c).words)

abbrev pub outcome : KmsState → (ℕ → ℕ) → ℕ → KmsCall → Ending → Outcome
outcome s words now c Plain = unless_refused (first_cause (causes s c)) s (deed s words now c)
outcome s words now c (NoRoom drawn) = refused refusal.NoMemory drawn s

-- From s, with these words to come, a call may get this reply, draw this number of words, and leave s'.
abbrev pub KmsActs : KmsState → (ℕ → ℕ) → ℕ → KmsCall → KmsReply → ℕ → KmsState → Type 0
KmsActs s words now c answered drawn s' = (e : Ending) × MayEnd s words now c e × (record { reply = answered; drawn = drawn; state = s' } ≡ outcome s words now c e)

-- the same, with the words that come afterwards
pub record CallActs (s : KmsState) (words : ℕ → ℕ) (now : ℕ) (c : KmsCall) (answered : KmsReply) (s' : KmsState) (words' : ℕ → ℕ) : Type 0 where
  pub drawn : ℕ
  pub acts : KmsActs s words now c answered drawn s'
  pub rest : (k : ℕ) → words' k ≡ words (drawn + k)
