-- What is stored nowhere: which data encryption key was drawn for which file, which showed the version noted by a re-encryption, and
-- which files a zone had when its re-encryption was submitted.
use Rattle.std.specs.Prelude.{ℕ, ◌+◌, ◌-◌, ◌==◌, if◌then◌else◌, drop, Bool, true, false, List, [], ◌∷◌, ◌++◌, length, map, Option, None, Some}
use Rattle.std.specs.List.{filter, find}
use Rattle.std.specs.Option.{option_map_or}
use Rattle.hk_base.specs.declared.names.Dek.{Dek}
use Rattle.hk_base.specs.declared.names.Iv.{Iv}
use Rattle.hk_base.specs.declared.names.KeyName.{KeyName}
use Rattle.hk_base.specs.declared.names.VersionName.{VersionName}
use Rattle.kms_calls.specs.declared.calls.KmsReply.{KmsReply}
use Rattle.kms_calls.specs.declared.calls.KmsReply.TheVariants.{Ready}
use Rattle.eek_seal.specs.declared.tickets.Ticket.{Ticket}
use Rattle.eek_seal.specs.declared.deposit.Deposit.TheVariants.{Kept}
use Rattle.eek_queues.specs.Queues.{Queue, ready_in}
use Rattle.kms_core.specs.Draws.{drawn_dek, drawn_iv}
use Rattle.kms_core.specs.State.{KmsState}
use Rattle.kms_core.specs.Calls.{birth_of, current_material, current_version, row_of}
use Rattle.name_calls.specs.declared.calls.AskNote.{AskNote}
use Rattle.edit_ops.specs.declared.ops.EditOp.{EditOp}
use Rattle.edit_ops.specs.declared.ops.EditOp.TheVariants.{File, Submit}
use Rattle.inode_tree.specs.Rows.{Entry}
use Rattle.inode_tree.specs.ZoneFiles.{is_file_of}
use Rattle.name_core.specs.State.{NameService, settled as settled_names}
use Rattle.name_store.specs.Table.{NameTable}
use Rattle.name_calls.specs.declared.calls.NameReply.TheVariants.{Done}
use Rattle.name_calls.specs.declared.calls.NameRefusal.TheVariants.{StoreFault}
use Rattle.name_calls.specs.declared.calls.Want.{Want}
use Rattle.name_calls.specs.declared.calls.Want.TheVariants.{Generate}
use Rattle.hk_events.specs.declared.event.Event.{Event}
use Rattle.hk_events.specs.declared.event.Event.TheVariants as event
use Rattle.hk_events.specs.declared.event.Line.{Line}
use Rattle.hk_events.specs.declared.event.Line.TheVariants as line
use Rattle.world_run.specs.declared.kept.KeptReply.{KeptReply}
use Rattle.world_run.specs.declared.kept.KeptReply.TheVariants.{ToAsk, ToBatch}
use Rattle.zone_table.specs.declared.statuses.StatusRow.{StatusRow}
use Rattle.world_run.specs.World.{WorldState, numbered}

-- A data encryption key that was drawn: where its words begin in the stream of random words, the birth and the version
-- of the key under which it was drawn, and what its words spell.
pub record Draw : Type 0 where
  pub place : ℕ
  pub birth : ℕ
  pub version : VersionName
  pub iv : Iv
  pub dek : Dek

abbrev pub Ledger : Type 0
Ledger = List (ℕ × Draw)

-- for each id that was entered, the ids of the files that its zone had when its re-encryption was submitted: none for the id of a file
abbrev pub FilesAtSubmission : Type 0
FilesAtSubmission = List (ℕ × List ℕ)

-- the number of words drawn so far; for each birth the draws of the ready keys in its queue, in order; for each kept reply the draw
-- of its key, if it has one; which draw the file or the re-encryption of each id got; and which files each re-encryption began with
pub record Hidden : Type 0 where
  pub place : ℕ
  pub queued : ℕ → List Draw
  pub replied : List (Option Draw)
  pub ledger : Ledger
  pub starts : FilesAtSubmission

-- what is hidden of earlier runs: which draw the file or the re-encryption of each id got, the number of words drawn by then, and which
-- files each re-encryption began with
pub record Past : Type 0 where
  pub ledger : Ledger
  pub place : ℕ
  pub starts : FilesAtSubmission

-- the rest of what is hidden, after the queues and the kept replies are lost
abbrev pub past_of : Hidden → Past
past_of h = record { ledger = h.ledger; place = h.place; starts = h.starts }

-- before the first event
abbrev pub drawn_before : Past → Hidden
drawn_before past = record { place = past.place; queued = λ birth. []; replied = []; ledger = past.ledger; starts = past.starts }

-- the draw of a generate of one key
abbrev pub draw_of : KmsState → (ℕ → ℕ) → ℕ → KeyName → Draw
draw_of s words place name =
    record {
      place = place;
      birth = birth_of (row_of s name);
      version = current_version (row_of s name);
      iv = drawn_iv words 0;
      dek = drawn_dek words 0 (length (current_material s name));
    }

-- the draw of a deposit with this ticket
abbrev pub draw_under : Ticket → (ℕ → ℕ) → ℕ → Draw
draw_under ticket words place =
    record {
      place = place;
      birth = ticket.birth;
      version = ticket.version;
      iv = drawn_iv words 0;
      dek = drawn_dek words 0 (length ticket.material);
    }

-- the first of these draws, or else this one
abbrev pub first_of : List Draw → Draw → Draw
first_of [] draw = draw
first_of (first ∷ more) draw = first

-- The draw of the reply to the call that an ask wanted: that of the first ready key of the queue, or else a new one.
abbrev pub draw_answered : KmsState → (ℕ → ℕ) → Hidden → Want → Option KmsReply → Option Draw
draw_answered s words h (Generate name) (Some (Ready (edek ∷ []))) = Some (first_of (h.queued (birth_of (row_of s name))) (draw_of s words h.place name))
draw_answered s words h _ _ = None

abbrev pub draw_noted : KmsState → (ℕ → ℕ) → Hidden → Option AskNote → Option KmsReply → Option Draw
draw_noted s words h None result = None
draw_noted s words h (Some note) result = draw_answered s words h note.want result

-- The draws that are left in the queues, if these queues become those: as many fall from the front as a queue has ready keys less.
abbrev pub left_in : List Queue → List Queue → (ℕ → List Draw) → ℕ → List Draw
left_in before after queued birth = drop (length (ready_in before birth) - length (ready_in after birth)) (queued birth)

-- the draws in the queues with one more at the end of the queue of its birth
abbrev pub with_queued : Draw → (ℕ → List Draw) → ℕ → List Draw
with_queued draw queued birth = if birth == draw.birth then queued birth ++ draw ∷ [] else queued birth

-- the draws in the queues after a deposit that was kept
abbrev pub deposited_under : Option Ticket → (ℕ → ℕ) → ℕ → (ℕ → List Draw) → ℕ → List Draw
deposited_under None words place queued = queued
deposited_under (Some ticket) words place queued = with_queued (draw_under ticket words place) queued

-- the entry of a draw under the id of its ask, if there is a draw
abbrev pub entry_under : ℕ → Option Draw → Ledger
entry_under id None = []
entry_under id (Some draw) = (id, draw) ∷ []

-- the entry that a finish adds: the draw of the reply, under the id of the ask
abbrev pub entry_of : Option KeptReply → Option (Option Draw) → Ledger
entry_of (Some (ToAsk id answer)) (Some drawn) = entry_under id drawn
entry_of _ _ = []

-- the operation makes the file of this id, or begins the re-encryption of this id
abbrev pub makes_entry : ℕ → Option EditOp → Bool
makes_entry id (Some (File made path edek)) = made == id
makes_entry id (Some (Submit session path noted)) = session == id
makes_entry id _ = false

abbrev pub id_of_reply : Option KeptReply → ℕ
id_of_reply None = 0
id_of_reply (Some (ToAsk id answer)) = id
id_of_reply (Some (ToBatch reply)) = 0

-- A finish enters its draw if it is done, and if the disk failed at its record: the file, or the re-encryption, is pending then.
abbrev pub enters : ℕ → Line → NameService → Bool
enters id (line.Name Done) left = true
enters id (line.Refused StoreFault) left = makes_entry id left.pending
enters id _ left = false

abbrev pub entered : Bool → Ledger → Ledger
entered true entry = entry
entered false entry = []

-- the ids of the files of a zone
abbrev pub files_of_zone : List Entry → ℕ → List ℕ
files_of_zone rows zone = map (λ (e : Entry). e.row.id) (filter (is_file_of rows zone) rows)

abbrev pub is_session : ℕ → StatusRow → Bool
is_session session s = s.session == session

-- the ids of the files of the zone whose last re-encryption has this id: none if no zone has
abbrev pub files_under : NameTable → ℕ → List ℕ
files_under t session = option_map_or (λ (s : StatusRow). files_of_zone t.rows s.zone) (find (is_session session) t.statuses) []

-- for each of these entries, the files that its re-encryption begins with
abbrev pub starts_of : NameTable → Ledger → FilesAtSubmission
starts_of t entries = map (λ (entry : ℕ × Draw). (entry.0, files_under t entry.0)) entries

-- `drawn` more words were drawn
abbrev pub behind_words : ℕ → Hidden → Hidden
behind_words drawn h = record h { place = h.place + drawn }

-- these queues became those, and `drawn` more words were drawn
abbrev pub moved_on : List Queue → List Queue → ℕ → Hidden → Hidden
moved_on before after drawn h = record (behind_words drawn h) { queued = left_in before after h.queued }

-- What is hidden after an event with this answer, and this world after it: a draw keeps what was drawn for its reply, a finish
-- enters the draw of the reply that it used, if it enters one, and the files of the zone if it submits one, and a deposit that is kept
-- queues its draw. The reply to the call for a batch has no draw.
abbrev pub hidden_after : WorldState → (ℕ → ℕ) → Event → Line → ℕ → WorldState → Hidden → Hidden
hidden_after w words (event.Draw number) (line.Replied n result) drawn w' h =
    record (moved_on w.keys.keys.ready.queues w'.keys.keys.ready.queues drawn h) { replied = h.replied ++ draw_noted w.keys.keys words h (numbered w.kept.notes number) result ∷ [] }
hidden_after w words (event.Deposit number) (line.Deposit Kept) drawn w' h =
    record (behind_words drawn h) { queued = deposited_under (numbered w.kept.tickets number) words h.place h.queued }
hidden_after w words (event.Finish number) result drawn w' h =
    let kept = numbered w.kept.replies number in
    let entry = entered (enters (id_of_reply kept) result w'.names) (entry_of kept (numbered h.replied number)) in
    record (moved_on w.keys.keys.ready.queues w'.keys.keys.ready.queues drawn h) { ledger = h.ledger ++ entry; starts = h.starts ++ starts_of (settled_names true w'.names).table entry }
hidden_after w words (event.Serve number) (line.Replied n result) drawn w' h =
    record (moved_on w.keys.keys.ready.queues w'.keys.keys.ready.queues drawn h) { replied = h.replied ++ None ∷ [] }
hidden_after w words _ _ drawn w' h = moved_on w.keys.keys.ready.queues w'.keys.keys.ready.queues drawn h
