-- The transcript: a line for each event, with its number and its answer.
use Rattle.std.specs.Prelude.{ℕ, ◌+◌, List, [], ◌∷◌, ◌++◌, codes, Option, None, Some}
use Rattle.std.specs.Fmt.{decimal}
use Rattle.std.specs.List.{flat_map}
use Rattle.hex.specs.Hex.{encode_lower}
use Rattle.hk_base.specs.declared.names.Edek.{Edek}
use Rattle.hk_base.specs.declared.names.KeyName.{KeyName}
use Rattle.hk_base.specs.Names.{Version, version_text}
use Rattle.name_calls.specs.declared.status.Delivered.{Delivered}
use Rattle.name_calls.specs.declared.status.Delivered.TheVariants as delivered
use Rattle.name_calls.specs.declared.calls.Want.{Want}
use Rattle.name_calls.specs.declared.calls.Want.TheVariants as want
use Rattle.name_text.specs.Answers.{answer_text, edek_part}
use Rattle.name_text.specs.Refusals.{name_refusal_text}
use Rattle.eek_seal.specs.declared.deposit.Deposit.{Deposit}
use Rattle.eek_seal.specs.declared.deposit.Deposit.TheVariants as deposit
use Rattle.hk_events.specs.declared.event.Line.{Line}
use Rattle.hk_events.specs.declared.event.Line.TheVariants as line
use Rattle.kms_calls.specs.declared.calls.KeyMeta.{KeyMeta}
use Rattle.kms_calls.specs.declared.calls.KmsReply.{KmsReply}
use Rattle.kms_calls.specs.declared.calls.KmsReply.TheVariants as reply
use Rattle.kms_calls.specs.Refusals.{refusal_text}
use Rattle.kms_calls.specs.Shown.{Shown}

abbrev pub material_text : Option (List ℕ) → List ℕ
material_text None = codes "-"
material_text (Some material) = encode_lower material

abbrev pub meta_text : KeyMeta → List ℕ
meta_text meta = codes "meta " ++ meta.name ++ codes " " ++ decimal meta.bits ++ codes " " ++ decimal meta.versions ++ codes " " ++ decimal meta.created

-- the metadata of one key in a list
abbrev pub meta_part : KeyMeta → List ℕ
meta_part meta = codes " " ++ meta.name ++ codes ":" ++ decimal meta.bits ++ codes ":" ++ decimal meta.versions ++ codes ":" ++ decimal meta.created

abbrev pub name_part : KeyName → List ℕ
name_part name = codes " " ++ name

-- a version in a list, with its material
abbrev pub shown_part : Shown → List ℕ
shown_part shown = codes " " ++ version_text shown.version.key shown.version.number ++ codes ":" ++ material_text shown.material

abbrev pub edek_text : Edek → List ℕ
edek_text edek = codes " " ++ edek_part edek

abbrev pub kms_answer_text : KmsReply → List ℕ
kms_answer_text (reply.Version version material) = codes "version " ++ version_text version.key version.number ++ codes " " ++ material_text material
kms_answer_text reply.Done = codes "done"
kms_answer_text (reply.Metadata meta) = meta_text meta
kms_answer_text (reply.Metadatas metas) = codes "metas" ++ flat_map meta_part metas
kms_answer_text (reply.Names names) = codes "names" ++ flat_map name_part names
kms_answer_text (reply.Versions versions) = codes "versions" ++ flat_map shown_part versions
kms_answer_text (reply.Ready edeks) = codes "ready" ++ flat_map edek_text edeks
kms_answer_text (reply.Resealed edek) = codes "resealed " ++ edek_part edek
kms_answer_text (reply.Key dek) = codes "key " ++ encode_lower dek
kms_answer_text (reply.Refused why) = codes "refused " ++ refusal_text why

-- the call that an ask needs, and its key
abbrev pub want_text : Want → List ℕ
want_text want.Nothing = codes "none"
want_text (want.Generate key) = codes "generate " ++ key
want_text (want.Metadata key) = codes "metadata " ++ key

-- the reply that a draw or a serve keeps
abbrev pub kept_text : Option KmsReply → List ℕ
kept_text None = codes "nothing"
kept_text (Some reply) = kms_answer_text reply

-- a ticket: its number, the version and how many ready keys are wanted
abbrev pub ticket_text : ℕ → Version → ℕ → List ℕ
ticket_text number version wanted = codes "ticket " ++ decimal number ++ codes " " ++ version_text version.key version.number ++ codes " " ++ decimal wanted

-- what became of a ready key; if it is stale, the current opening, birth and number of the version are written
abbrev pub deposit_text : Deposit → List ℕ
deposit_text deposit.Kept = codes "kept"
deposit_text (deposit.Stale opening birth number) = codes "stale " ++ decimal opening ++ codes " " ++ decimal birth ++ codes " " ++ decimal number
deposit_text deposit.Full = codes "full"

-- what became of a reply or of a batch that was given up: how many files were changed, skipped and failed, or the zone's last session
abbrev pub delivered_text : Delivered → List ℕ
delivered_text (delivered.Applied changed skipped failed) = codes "applied " ++ decimal changed ++ codes " " ++ decimal skipped ++ codes " " ++ decimal failed
delivered_text (delivered.Ignored session) = codes "ignored " ++ decimal session

abbrev pub outcome_text : Line → List ℕ
outcome_text (line.Kms reply) = kms_answer_text reply
outcome_text (line.Ticket number version wanted) = ticket_text number version wanted
outcome_text line.NoTicket = codes "none"
outcome_text (line.Deposit outcome) = deposit_text outcome
outcome_text (line.Opened opening) = codes "opened " ++ decimal opening
outcome_text (line.Name reply) = answer_text reply
outcome_text (line.Asked number note) = codes "ask " ++ decimal number ++ codes " " ++ decimal note.id ++ codes " " ++ want_text note.want
outcome_text (line.Replied number reply) = codes "reply " ++ decimal number ++ codes " " ++ kept_text reply
outcome_text (line.Batch number files) = codes "batch " ++ decimal number ++ codes " " ++ decimal files
outcome_text (line.NoneLeft outstanding) = codes "noneleft " ++ decimal outstanding
outcome_text line.Completed = codes "completed"
outcome_text (line.Delivered outcome) = delivered_text outcome
outcome_text (line.Refused why) = codes "refused " ++ name_refusal_text why
outcome_text line.Unknown = codes "unknown"

-- the number of the event and its answer
abbrev pub line_text : ℕ → Line → List ℕ
line_text number outcome = decimal number ++ codes " " ++ outcome_text outcome ++ codes "\n"

-- the answers of events from this number on
abbrev pub transcript : ℕ → List Line → List ℕ
transcript number [] = []
transcript number (outcome ∷ more) = line_text number outcome ++ transcript (number + 1) more
