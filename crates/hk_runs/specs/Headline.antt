-- What a run keeps of zone files, of completed re-encryptions and of verdicts, after every event and every crash.
use Rattle.std.specs.Prelude.{◌≡◌, ◌⊎◌, ℕ, ⊤, Bool, List, ◌∷◌, ◌++◌, Option, None, Some}
use Rattle.std.specs.Option.{option_map}
use Rattle.hk_base.specs.declared.disk.Disk as disks
use Rattle.hk_base.specs.declared.outside.Source as sources
use Rattle.hk_base.specs.declared.outside.Sink as sinks
use Rattle.hk_base.specs.declared.outside.Words as random
use Rattle.hk_base.specs.Disk.{DiskState, Image, Tells}
use Rattle.hk_base.specs.declared.ended.Ended.{Ended}
use Rattle.hk_events.specs.declared.event.Event.{Event}
use Rattle.hk_events.specs.declared.event.Event.TheVariants as event
use Rattle.hk_events.specs.declared.event.Line.{Line}
use Rattle.hk_events.specs.declared.event.Line.TheVariants as line
use Rattle.kms_calls.specs.declared.calls.KmsCall.{KmsCall}
use Rattle.kms_calls.specs.declared.calls.KmsCall.TheVariants as call
use Rattle.kms_calls.specs.declared.calls.KmsReply.{KmsReply}
use Rattle.kms_core.specs.State.{settled}
use Rattle.name_calls.specs.declared.calls.AskNote.{AskNote}
use Rattle.name_calls.specs.declared.calls.Want.{Want}
use Rattle.name_calls.specs.declared.calls.Want.TheVariants as want
use Rattle.name_core.specs.Calls.{superuser}
use Rattle.name_core.specs.State.{settled as settled_names}
use Rattle.prop_text.specs.declared.lines.PropLine.{PropLine}
use Rattle.prop_text.specs.declared.props.Props.{Props}
use Rattle.world_run.specs.Batches.{batch_call}
use Rattle.world_run.specs.Kept.{FilesKept, ImageKept, IsKnownLater}
use Rattle.world_run.specs.Ledger.{Past, drawn_before, past_of}
use Rattle.world_run.specs.Linked.{AreDrawsApart, StartsSound, WordsApart}
use Rattle.world_run.specs.Verdicts.{IsJudged}
use Rattle.world_run.specs.World.{WorldState, first_world, numbered}
use Rattle.command_io.specs.Environment.{Environment}
use Rattle.command_io.specs.declared.ends.ReplayEnd.{ReplayEnd}
use Rattle.hk_runs.specs.KeyFacts.{FactOfDisk, FactOfWorld, KeyFact, LastsOnDisk}
use Rattle.hk_runs.specs.Pipe.{Converses, connection_status}
use Rattle.hk_runs.specs.PlayedLines.{events_of_lines}
use Rattle.command_io.specs.Properties.{ReadsProperties}
use Rattle.command_io.specs.Ends.{status_of}
use Rattle.hk_runs.specs.Replay.{PlaysOn}
use Rattle.hk_runs.specs.Run.{Happened, History, hidden_in, world_after}

-- the promise in a world: with and without the pending command, and with and without the pending operation
abbrev pub WorldKept : Past → WorldState → Type 0
WorldKept known w = (kept_keys kept_names : Bool) → FilesKept known (settled kept_keys w.keys).table.rows (settled_names kept_names w.names).table

-- what had happened by some moment of a history
abbrev pub IsPartOf : History → History → Type 0
IsPartOf part history = (more : History) × (history ≡ more ++ part)

-- what is known of earlier runs and of this part of the present one: which file got which draw, and which files each re-encryption began with
abbrev pub known_after : Past → WorldState → (ℕ → ℕ) → History → Past
known_after past first words part = past_of (hidden_in (drawn_before past) first words part)

-- the call that a draw makes for a kept note
abbrev pub wanted_call : Want → Option KmsCall
wanted_call want.Nothing = None
wanted_call (want.Generate name) = Some (call.Generate name 1)
wanted_call (want.Metadata name) = Some (call.Metadata name)

abbrev pub noted_call : Option AskNote → Option KmsCall
noted_call None = None
noted_call (Some note) = wanted_call note.want

-- The event made this call as the superuser, if its answer keeps a reply, and the reply is judged so.
abbrev pub IsJudgedFor : List PropLine → Option KmsCall → Line → Type 0
IsJudgedFor lines made outcome = (number : ℕ) (answer : KmsReply) → outcome ≡ line.Replied number (Some answer) → (c : KmsCall) × (made ≡ Some c) × IsJudged lines superuser c answer

-- each call of the key management service that an event makes is judged so: a user's own, the one of a draw, and the one of a batch
abbrev pub HasVerdict : List PropLine → WorldState → Event → Line → Type 0
HasVerdict lines w (event.Kms user c) outcome = (answer : KmsReply) × (outcome ≡ line.Kms answer) × IsJudged lines user c answer
HasVerdict lines w (event.Draw number) outcome = IsJudgedFor lines (noted_call (numbered w.kept.notes number)) outcome
HasVerdict lines w (event.Serve number) outcome = IsJudgedFor lines (option_map batch_call (numbered w.kept.batches number)) outcome
HasVerdict lines w _ outcome = ⊤

-- A fact of a key lasts: it is true in each world on the way, in each key log that a crash leaves since, and in the end.
pub record Lasts (old new : DiskState) (first : WorldState) (history : History) (fact : KeyFact) : Type 0 where
  pub worlds : (part : History) → IsPartOf part history → FactOfWorld (world_after first part) fact
  pub on_disk : LastsOnDisk old new fact

-- What holds of a history of events from the first world on, under the properties of these lines, while the disk went from `old` to
-- `new`: `past` is what is known of earlier runs, and these words were to come.
pub record Headline (past : Past) (lines : List PropLine) (old new : DiskState) (words : ℕ → ℕ) (first : WorldState) (history : History) : Type 0 where
  -- in each world on the way
  pub worlds : (part : History) → IsPartOf part history → WorldKept (known_after past first words part) (world_after first part)
  -- in each pair of files that a crash at any moment since the start may leave, with the draws of some part of the history
  pub images : (c : Image) → new.left_since old.moment c → (part : History) × IsPartOf part history × ImageKept (known_after past first words part) c
  -- each call is denied exactly if the access control lists deny it
  pub verdicts : (h : Happened) (earlier : History) → IsPartOf (h ∷ earlier) history → HasVerdict lines (world_after first earlier) h.event h.reply
  -- the next run may start from the files as they are left in the end
  pub again : StartsSound new (known_after past first words history)
  -- what is known after a part stays known after each later part, and in the end
  pub grows : (part later : History) → IsPartOf part later → IsPartOf later history → IsKnownLater (known_after past first words part) (known_after past first words later)
  -- A key's materials last while the key exists, and what it opened it opens. So an encrypted key that was copied still opens when no file
  -- has it any more.
  pub lasts : (fact : KeyFact) → FactOfDisk old fact → Lasts old new first history fact
  -- and if no two draws of earlier runs have a random word in common, no two draws have one
  pub apart : WordsApart (drawn_before past) → (part : History) → IsPartOf part history → AreDrawsApart (hidden_in (drawn_before past) first words part)

-- if the disk tells its content, and with whatever may be known of earlier runs, for a run may start from its files then
abbrev pub FromSoundFiles : DiskState → (Past → ℕ → Type 0) → ℕ → Type 0
FromSoundFiles old Keeps status = Tells old → (past : Past) → StartsSound old past → Keeps past status

-- No event happened: `same` says that nothing was read of the input, and no word was drawn. The files keep the promise with what was
-- known before.
pub record NothingHappened (same : Type 0) (past : Past) (old new : DiskState) : Type 0 where
  pub untouched : same
  pub images : (c : Image) → new.left_since old.moment c → ImageKept past c
  pub again : StartsSound new past
  pub lasts : (fact : KeyFact) → FactOfDisk old fact → LastsOnDisk old new fact

-- The properties were read, and lines of the input were played under them until one of them ended the run (`PlaysOn`). The history of
-- their events keeps the promise.
pub record RunKept (past : Past) (old new : DiskState) (acls acls' : Option (List ℕ)) (words words' : ℕ → ℕ) (left written now : Option (List ℕ)) (status : ℕ) : Type 0 where
  pub props : Props
  pub read : ReadsProperties acls acls' props
  pub how : ReplayEnd
  pub status_is : status ≡ status_of how
  pub run : PlaysOn props old new words words' left written now how
  pub keeps : Headline past props.lines old new words (first_world props.sizes run.played.table run.played.names) (events_of_lines run.played_lines)

-- what a replay keeps, whatever its status
abbrev pub KeepsFiles : Type 0 → Past → DiskState → DiskState → Option (List ℕ) → Option (List ℕ) → (ℕ → ℕ) → (ℕ → ℕ) → Option (List ℕ) → Option (List ℕ) → Option (List ℕ) → ℕ → Type 0
KeepsFiles same past old new acls acls' words words' left written now status =
    NothingHappened same past old new ⊎ RunKept past old new acls acls' words words' left written now status

-- The properties were read, and a connection was served under them (`Converses`). The history of its events keeps the promise.
pub record ConnectionKept (past : Past) (old new : DiskState) (acls acls' : Option (List ℕ)) (words words' : ℕ → ℕ) (left left' written now : Option (List ℕ)) (status : ℕ) : Type 0 where
  pub props : Props
  pub read : ReadsProperties acls acls' props
  pub how : Ended
  pub status_is : status ≡ connection_status how
  pub connection : Converses props old new words words' left left' written now how
  pub keeps : Headline past props.lines old new words (first_world props.sizes connection.table connection.names) connection.history

-- what a connection keeps, whatever its status
abbrev pub ConnectionKeepsFiles : Type 0 → Past → DiskState → DiskState → Option (List ℕ) → Option (List ℕ) → (ℕ → ℕ) → (ℕ → ℕ) → Option (List ℕ) → Option (List ℕ) → Option (List ℕ) → Option (List ℕ) → ℕ → Type 0
ConnectionKeepsFiles same past old new acls acls' words words' left left' written now status =
    NothingHappened same past old new ⊎ ConnectionKept past old new acls acls' words words' left left' written now status

module _ {D A S K W : Type 0} (of_disk : disks.Ghosts D) (of_acls : sources.Ghosts A) (of_input : sources.Ghosts S) (of_out : sinks.Ghosts K) (of_rand : random.Ghosts W) (old new : Environment D A S K W) where
  -- what a replay keeps, over what it works on
  abbrev pub ReplayKeeps : Past → ℕ → Type 0
  ReplayKeeps past status =
      KeepsFiles ((new.input ≡ old.input) × (new.rand ≡ old.rand)) past (of_disk.state old.disk) (of_disk.state new.disk) (of_acls.left old.acls) (of_acls.left new.acls)
      (of_rand.to_come old.rand) (of_rand.to_come new.rand) (of_input.left old.input) (of_out.written old.out) (of_out.written new.out) status

  -- what a connection keeps, over what it works on; `same_clock` says that the clock is unchanged
  abbrev pub PipeKeeps : Type 0 → Past → ℕ → Type 0
  PipeKeeps same_clock past status =
      ConnectionKeepsFiles ((new.input ≡ old.input) × (new.rand ≡ old.rand) × same_clock) past (of_disk.state old.disk) (of_disk.state new.disk)
      (of_acls.left old.acls) (of_acls.left new.acls) (of_rand.to_come old.rand) (of_rand.to_come new.rand) (of_input.left old.input) (of_input.left new.input)
      (of_out.written old.out) (of_out.written new.out) status
