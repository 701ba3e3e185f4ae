-- What a crash leaves of both logs.
use Rattle.std.proofs.Common.{◌≡◌, ℕ, ◌∙◌, Bool, List, ◌++◌, Option, Some, None, Ok, Err, refl, sym, ap, subst, arith}
use Rattle.std.specs.Prelude.{MatchResult}
use Rattle.std.specs.declared.result.Result.{Result}
use Rattle.hk_base.specs.Disk.{DiskState, Image, IsImage, Tells}
use Rattle.hk_base.specs.Faults.{Rose}
use Rattle.edit_ops.specs.declared.ops.EditOp.{EditOp}
use Rattle.name_calls.specs.Paths.{read_path}
use Rattle.name_calls.specs.ReadPaths.{read_any_path}
use Rattle.key_rows.specs.declared.rows.KeyCommand.{KeyCommand}
use Rattle.prop_text.specs.declared.lines.PropLine.{PropLine}
use Rattle.kms_acls.specs.Agreement.{AreListsOf}
use Rattle.kms_core.specs.State.{settled}
use Rattle.kms_store.specs.Replay.{HasRoomForBirths}
use Rattle.kms_store.specs.Store.{IsSoundLog, NoCommand, settled_commands, settled_table}
use Rattle.kms_store.proofs.Layers.{sound_left}
use Rattle.name_store.specs.Store.{IsSoundLog as IsSoundNames, NothingMore, made_with}
use Rattle.name_store.specs.Table.{after_table, settled_log, settled_ops}
use Rattle.name_calls.specs.declared.calls.NameCall.{NameCall}
use Rattle.name_calls.specs.declared.calls.NameCall.TheVariants as call
use Rattle.name_calls.specs.declared.calls.NameRefusal.{NameRefusal}
use Rattle.name_calls.specs.declared.paths.NPath.{NPath}
use Rattle.name_core.specs.Service.{OwnOfFinish}
use Rattle.name_store.specs.Causes.{first_cause}
use Rattle.name_core.specs.State.{settled as settled_names}
use Rattle.name_core.specs.Walks.{walk_causes, walk_deed}
use Rattle.hk_events.specs.declared.event.Event.{Event}
use Rattle.hk_events.specs.declared.event.Event.TheVariants as event
use Rattle.hk_events.specs.declared.event.Line.{Line}
use Rattle.reenc_walk.specs.declared.sent.BatchNote.{BatchNote}
use Rattle.world_run.specs.declared.fault.WorldFault.{WorldFault}
use Rattle.world_run.specs.declared.kept.KeptReply.{KeptReply}
use Rattle.world_run.specs.declared.kept.KeptReply.TheVariants.{ToAsk, ToBatch}
use Rattle.world_run.specs.Acknowledged.{Acknowledged, HoldsLogs, Survives}
use Rattle.world_run.specs.Does.{Happens}
use Rattle.world_run.specs.Own.{OwnKeysOfEvent, OwnOfDelivery, OwnOfEvent, OwnOfGivingUp, OwnOfPath, OwnOfReply, OwnOfWalkAt}
use Rattle.world_run.specs.Keeps.{FailsToRestart, KnowsWorld, RestsNow, SoundFrom, Steps, SurvivesThrough}
use Rattle.world_run.specs.Ledger.{Hidden, Past, behind_words, hidden_after, past_of}
use Rattle.world_run.specs.Linked.{LinkedWorld, ServicesFit, SoundFiles}
use Rattle.world_run.specs.RenamePaths.{read_rename_paths, rename_along}
use Rattle.world_run.specs.SnapPaths.{read_snap_path, snap_at, unsnap_at}
use Rattle.world_run.specs.Step.{FinishReply, Step, delete_with, finish_line}
use Rattle.world_run.specs.World.{RunningWorld, WorldState, next_batch, numbered, world_of}
use Rattle.world_run.proofs.BothLemmas.{IsLeftOfBoth, LeavesLogs, keys-now, leaves-weaker, names-now, one-holds, one-leaves, one-runs}
use Rattle.world_run.proofs.CoveredCalls.{walk-writes-covers}
use Rattle.world_run.proofs.CoveredDeliveries.{delivered-covers, given-up-covers}
use Rattle.world_run.proofs.CoveredEnds.{covered-forget}
use Rattle.world_run.proofs.CoveredWorld.{keeps-world}
use Rattle.world_run.proofs.KeepLemmas.{draws-stay, linked-promise}
use Rattle.world_run.proofs.Laters.{may-wait, room-found}
use Rattle.world_run.proofs.SoundLemmas.{LinkedFiles, NamesLinked, OwnLinks, event-files, later-owns, own-of-call, own-of-finish, own-of-nothing, own-of-opening, tables-through, world-files}
use Rattle.world_run.proofs.Members.{numbered-in}
use Rattle.world_run.proofs.UpdateKeeps.{deliver-settled, give-up-settled}
use Rattle.world_run.proofs.WalkKeeps.{completion-files}
use Rattle.world_run.proofs.WorldLemmas.{rows-settled}
use Rattle.name_store.proofs.Layers.{sound_left as sound_names_left}

-- the logs that are left

keys-left : (d : DiskState) (r : RunningWorld) (own_keys : Bool → KeyCommand → Type 0) (own : Bool → EditOp → Type 0) (done : Acknowledged) (s : HoldsLogs d r done) → ServicesFit (world_of r) → (c : Image) → (left : IsLeftOfBoth r own_keys own done s.names.used c)
    → IsSoundLog (c 0) (done.keys ++ settled_commands left.keys.kept r.keys.store.pending) left.keys.more (settled left.keys.kept (world_of r).keys).table
keys-left d r own_keys own done s fit c left =
    sound_left r.keys.store.table.keys r.keys.store.pending own_keys done.keys (c 0) s.keys.spelled s.keys.waits s.keys.makes (may-wait r.keys.store.pending (world_of r).keys.keys fit.keys.waits) left.keys

names-left : (d : DiskState) (r : RunningWorld) (own_keys : Bool → KeyCommand → Type 0) (own : Bool → EditOp → Type 0) (done : Acknowledged) (s : HoldsLogs d r done) → (c : Image) → (left : IsLeftOfBoth r own_keys own done s.names.used c)
    → IsSoundNames (c 1) (done.names ++ settled_ops left.names.kept r.names.store.log.pending) left.names.more (settled_log left.names.kept r.names.store.log.pending (made_with r.names.store s.names.used))
names-left d r own_keys own done s c left =
    sound_names_left (made_with r.names.store s.names.used) r.names.store.log.pending own done.names (c 1) s.names.store.log.spelled s.names.store.log.waits s.names.store.makes s.names.store.waits left.names

survives-left : (d : DiskState) (r : RunningWorld) (own_keys : Bool → KeyCommand → Type 0) (own : Bool → EditOp → Type 0) (done : Acknowledged) (s : HoldsLogs d r done) → ServicesFit (world_of r) → (c : Image)
    → IsLeftOfBoth r own_keys own done s.names.used c → Survives (world_of r) done own_keys own c
survives-left d r own_keys own done s fit c left = record {
  keys = record { kept = left.keys.kept; more = left.keys.more; more_is = left.keys.more_is; log = keys-left d r own_keys own done s fit c left };
  names = record { kept = left.names.kept; more = left.names.more; more_is = left.names.more_is; used = _; log = names-left d r own_keys own done s c left };
}

-- what a crash leaves now, while nothing is written
pub left-now : (d : DiskState) (r : RunningWorld) (own_keys : Bool → KeyCommand → Type 0) (own : Bool → EditOp → Type 0) (done : Acknowledged) → r.keys.store.log.file ≡ 0 → r.names.store.log.log.file ≡ 1 → ServicesFit (world_of r) → (s : HoldsLogs d r done) → (c : Image) → IsImage d c
    → IsLeftOfBoth r own_keys own done s.names.used c
left-now d r own_keys own done keys_file names_file fit s c image =
    record { keys = keys-now d r own_keys done keys_file fit s (c 0) (image 0 (omega arith)); names = names-now d r own done names_file s (c 1) (image 1 (omega arith)) }

-- and what is linked there

sound-left : (d : DiskState) (r : RunningWorld) (past : Past) (own_keys : Bool → KeyCommand → Type 0) (own : Bool → EditOp → Type 0) → LinkedFiles (world_of r) past → OwnLinks (world_of r) past own → (done : Acknowledged) (s : HoldsLogs d r done)
    → ServicesFit (world_of r) → (c : Image) → IsLeftOfBoth r own_keys own done s.names.used c → SoundFiles past c
sound-left d r past own_keys own files owns done s fit c left = record {
  commands = done.keys ++ settled_commands left.keys.kept r.keys.store.pending;
  more = left.keys.more;
  table = (settled left.keys.kept (world_of r).keys).table;
  ops = done.names ++ settled_ops left.names.kept r.names.store.log.pending;
  more_ops = left.names.more;
  made = settled_log left.names.kept r.names.store.log.pending (made_with r.names.store s.names.used);
  keys = keys-left d r own_keys own done s fit c left;
  names = names-left d r own_keys own done s c left;
  linked = λ found found_names.
      tables-through (world_of r) past own left.keys.kept found left.keys.more (made_with r.names.store s.names.used) done.names (c 1) fit left.keys.fits (room found) refl files owns left.names found_names;
}
  where
    room : (found : Bool) → HasRoomForBirths (settled_table found left.keys.more (settled left.keys.kept (world_of r).keys).table)
    room found =
        room-found (done.keys ++ settled_commands left.keys.kept r.keys.store.pending) found left.keys.more (settled left.keys.kept (world_of r).keys).table
        (keys-left d r own_keys own done s fit c left).makes left.keys.fits

-- a crash leaves both: logs of the acknowledged records, and files that a run may start from
pub left-sound : (d : DiskState) (r : RunningWorld) (after : Hidden → Hidden) (own_keys : Bool → KeyCommand → Type 0) (own : Bool → EditOp → Type 0) → ServicesFit (world_of r)
    → ((h : Hidden) → LinkedWorld (world_of r) h → LinkedFiles (world_of r) (past_of (after h))) → ((h : Hidden) → LinkedWorld (world_of r) h → OwnLinks (world_of r) (past_of (after h)) own)
    → (done : Acknowledged) (s : HoldsLogs d r done) → (c : Image) → IsLeftOfBoth r own_keys own done s.names.used c → Survives (world_of r) done own_keys own c × SoundFrom (LinkedWorld (world_of r)) after c
left-sound d r after own_keys own fit files owns done s c left =
    (survives-left d r own_keys own done s fit c left, λ h l. sound-left d r (past_of (after h)) own_keys own (files h l) (owns h l) done s fit c left)

pub survives-through : (old new : DiskState) (r : RunningWorld) (after : Hidden → Hidden) (own_keys : Bool → KeyCommand → Type 0) (own : Bool → EditOp → Type 0) → ServicesFit (world_of r)
    → ((h : Hidden) → LinkedWorld (world_of r) h → LinkedFiles (world_of r) (past_of (after h))) → ((h : Hidden) → LinkedWorld (world_of r) h → OwnLinks (world_of r) (past_of (after h)) own)
    → (Tells old → LeavesLogs old new r own_keys own) → SurvivesThrough old new r (λ done c. Survives (world_of r) done own_keys own c × SoundFrom (LinkedWorld (world_of r)) after c)
survives-through old new r after own_keys own fit files owns moments telling done s =
    leaves-weaker old new (IsLeftOfBoth r own_keys own done s.names.used) (λ c. Survives (world_of r) done own_keys own c × SoundFrom (LinkedWorld (world_of r)) after c)
    (λ c left. left-sound old r after own_keys own fit files owns done s c left) (moments telling done s)

pub rests-now : (d : DiskState) (r : RunningWorld) → r.keys.store.log.file ≡ 0 → r.names.store.log.log.file ≡ 1 → ServicesFit (world_of r) → RestsNow d r
rests-now d r keys_file names_file fit done s c image =
    left-sound d r (λ h. h) NoCommand NothingMore fit (world-files (world_of r)) (λ h l. own-of-nothing (world_of r) h) done s c (left-now d r NoCommand NothingMore done keys_file names_file fit s c image)

-- a record that an event may write keeps the files linked, with the ledger after it

finish-owns : (w : WorldState) (h : Hidden) (words : ℕ → ℕ) (drawn number : ℕ) (reply : Option KeptReply) (fault : Type 0) (outcome : Line) (logged : Acknowledged) (w' : WorldState) → numbered w.kept.replies number ≡ reply
    → FinishReply w reply fault outcome drawn logged w' → ServicesFit w → LinkedWorld w h → OwnLinks w (past_of (hidden_after w words (event.Finish number) outcome drawn w' h)) (OwnOfReply w.names reply outcome w'.names)
finish-owns w h words drawn number None fault outcome logged w' at acts fit l = λ kept op own. absurd own
finish-owns w h words drawn number (Some (ToBatch reply)) fault outcome logged w' at acts fit l = λ kept op own. absurd own
finish-owns w h words drawn number (Some (ToAsk ask_id answer)) fault outcome logged w' at acts fit l = λ kept op own may.
    subst (λ (v : WorldState). NamesLinked (past_of (hidden_after w words (event.Finish number) outcome drawn v h)) w.keys.keys.table.rows (after_table (settled_names kept w.names).table op)) (sym acts.left)
    (subst (λ (x : Line). NamesLinked (past_of (hidden_after w words (event.Finish number) x drawn (record w { names = acts.names }) h)) w.keys.keys.table.rows (after_table (settled_names kept w.names).table op)) (sym acts.reply_is)
    (own-of-finish w h words drawn number ask_id answer fault acts.result acts.ops acts.names acts.finishes at fit l kept op (by-result own.result own.reply_is own.own) may))
  where
    one-result : (a b : Result (Unit {0}) NameRefusal) → finish_line a ≡ finish_line b → a ≡ b
    one-result (Ok u) (Ok v) is = refl
    one-result (Err why) (Err other) is = let same : why ≡ other = cc is in ap (λ (r : NameRefusal). Err r) same
    one-result (Ok u) (Err why) is = absurd (cc is)
    one-result (Err why) (Ok u) is = absurd (cc is)

    by-result : (result : Result (Unit {0}) NameRefusal) → outcome ≡ finish_line result → {kept : Bool} {op : EditOp} → OwnOfFinish w.names ask_id answer result w'.names kept op
        → OwnOfFinish w.names ask_id answer acts.result acts.names kept op
    by-result result is {kept} {op} o =
        subst (λ (r : Result (Unit {0}) NameRefusal). OwnOfFinish w.names ask_id answer r acts.names kept op) (one-result result acts.result (sym is ∙ acts.reply_is))
        (subst (λ (v : WorldState). OwnOfFinish w.names ask_id answer result v.names kept op) acts.left o)

event-owns : (lines : List PropLine) (w : WorldState) (words : ℕ → ℕ) (now : ℕ) (e : Event) (fault tells : Type 0) (outcome : Line) (drawn : ℕ) (logged : Acknowledged) (w' : WorldState) (h : Hidden) → ServicesFit w
    → Step lines w words now e fault tells outcome drawn logged w' → LinkedWorld w h → OwnLinks w (past_of (hidden_after w words e outcome drawn w' h)) (OwnOfEvent w e outcome w')
event-owns lines w words now e fault tells outcome drawn logged w' h fit step l = go e step
  where
    by-path : {X : Type 0} (c : X → NameCall) (read : Option X) → OwnLinks w (past_of h) (OwnOfPath w.names c read outcome w'.names)
    by-path c None = λ kept op own. absurd own
    by-path c (Some read) = own-of-call w h (c read) outcome w'.names fit l

    by-completion : (path : NPath) (kept : Bool) (op : EditOp) → first_cause (walk_causes (settled_names kept w.names) path) ≡ None → (walk_deed (settled_names kept w.names) path).logs ≡ Some op
        → NamesLinked (past_of h) w.keys.keys.table.rows (after_table (settled_names kept w.names).table op)
    by-completion path kept op free is = record {
      files = completion-files h.ledger w.keys.keys.table.rows (settled_names kept w.names) path op (rows-settled kept w.names fit.names) is (l.draws.files kept);
      covered = covered-forget (past_of h) w.keys.keys.table.rows (after_table (settled_names kept w.names).table op) (settled_names kept w.names).walks (walk-writes-covers w h path kept op fit.names l free is);
    }

    by-walk : (path : Option NPath) → OwnLinks w (past_of h) (OwnOfWalkAt w.names path (next_batch w) outcome w'.names)
    by-walk None = λ kept op own. absurd own
    by-walk (Some path) = λ kept op own may. by-completion path kept op own.own.free own.own.is

    by-delivery : (number : ℕ) (o : Option KeptReply) → numbered w.kept.replies number ≡ o → OwnLinks w (past_of h) (OwnOfDelivery w.names o outcome w'.names)
    by-delivery number None at = λ kept op own. absurd own
    by-delivery number (Some (ToAsk id answer)) at = λ kept op own. absurd own
    by-delivery number (Some (ToBatch reply)) at = λ kept op own may.
        let member = numbered-in w.kept.replies number (ToBatch reply) at in
        record { files = (deliver-settled w h reply kept fit.names l.draws member).files op own.own.is; covered = (delivered-covers w h reply kept fit.names l member).written op own.own.is }

    by-giving-up : (o : Option BatchNote) → OwnLinks w (past_of h) (OwnOfGivingUp w.names o outcome w'.names)
    by-giving-up None = λ kept op own. absurd own
    by-giving-up (Some batch) = λ kept op own may.
        record { files = (give-up-settled w h batch kept fit.names l.draws).files op own.own.is; covered = (given-up-covers w h batch kept fit.names l).written op own.own.is }

    behind : {own : Bool → EditOp → Type 0} → OwnLinks w (past_of h) own → OwnLinks w (past_of (behind_words drawn h)) own
    behind links = later-owns w (past_of h) drawn links

    go : (x : Event) → Step lines w words now x fault tells outcome drawn logged w' → OwnLinks w (past_of (hidden_after w words x outcome drawn w' h)) (OwnOfEvent w x outcome w')
    go (event.Kms user c) s = behind (own-of-nothing w h)
    go event.Ticket s = behind (own-of-nothing w h)
    go (event.Deposit number) s = λ kept op own. absurd own
    go event.RestartKms s = behind (own-of-nothing w h)
    go event.RestartName s = behind (own-of-opening w h fit l)
    go (event.Mkdir user path) s = behind (by-path call.Mkdir (read_path path))
    go (event.Delete user path recursive) s = behind (by-path (delete_with recursive) (read_path path))
    go (event.Rename user path to) s = behind (by-path rename_along (read_rename_paths path to))
    go (event.Info user path) s = behind (by-path call.Info (read_any_path path))
    go (event.List user path) s = behind (by-path call.List (read_any_path path))
    go (event.Allow user path) s = behind (by-path call.Allow (read_path path))
    go (event.Disallow user path) s = behind (by-path call.Disallow (read_path path))
    go (event.Snap user path name) s = behind (by-path snap_at (read_snap_path path name))
    go (event.Unsnap user path name) s = behind (by-path unsnap_at (read_snap_path path name))
    go (event.Cancel user path) s = behind (by-path call.Cancel (read_path path))
    go (event.Status user path) s = behind (by-path call.Status (read_path path))
    go (event.Zones user) s = behind (own-of-call w h call.Zones outcome w'.names fit l)
    go (event.AskCreate user path) s = behind (own-of-nothing w h)
    go (event.AskZone user path key) s = behind (own-of-nothing w h)
    go (event.AskSubmit user path) s = behind (own-of-nothing w h)
    go (event.Draw number) s = λ kept op own. absurd own
    go (event.Finish number) s = finish-owns w h words drawn number (numbered w.kept.replies number) fault outcome logged w' refl s fit l
    go (event.Walk path) s = behind (by-walk (read_path path))
    go (event.Serve number) s = λ kept op own. absurd own
    go (event.Deliver number) s = behind (by-delivery number (numbered w.kept.replies number) refl)
    go (event.GiveUp number) s = behind (by-giving-up (numbered w.kept.batches number))

-- an event

pub steps : (lines : List PropLine) (old new : DiskState) (r : RunningWorld) (words : ℕ → ℕ) (now : ℕ) (e : Event) (outcome : Line) (r' : RunningWorld) (words' : ℕ → ℕ) → r.keys.store.log.file ≡ 0 → r.names.store.log.log.file ≡ 1
    → ServicesFit (world_of r) → r'.keys.store.log.file ≡ 0 → r'.names.store.log.log.file ≡ 1 → ServicesFit (world_of r') → Happens lines old new r words now e outcome r' words' → Steps lines old new r words now e outcome r' words'
steps lines old new r words now e outcome r' words' keys_file names_file fit keys_file' names_file' fit' does = record {
  drawn = does.drawn;
  logged = does.logged;
  step = record {
    step = does.acts;
    linked = linked;
    files_open = λ knows h l. linked-promise (world_of r') (hidden_after (world_of r) words e outcome does.drawn (world_of r') h) fit'.keys (linked knows h l);
    draws_apart = λ knows h l. draws-stay lines (world_of r) words now e (Rose old.faults new.faults) (Tells old) outcome does.drawn does.logged (world_of r') h knows fit does.acts l.draws;
  };
  rest = does.rest;
  stands = one-holds old new r r' own_keys own does.logged keys_file names_file does.disk;
  survives = survives-through old new r (hidden_after (world_of r) words e outcome does.drawn (world_of r')) own_keys own fit
      (λ h l. event-files lines (world_of r) words now e (Rose old.faults new.faults) (Tells old) outcome does.drawn does.logged (world_of r') h fit does.acts l)
      (λ h l. event-owns lines (world_of r) words now e (Rose old.faults new.faults) (Tells old) outcome does.drawn does.logged (world_of r') h fit does.acts l) moments;
  rests = rests-now new r' keys_file' names_file' fit';
  run = one-runs old new r r' own_keys own does.logged does.disk;
  lists = does.lists;
}
  where
    own_keys : Bool → KeyCommand → Type 0
    own_keys = OwnKeysOfEvent (world_of r) words now e outcome (world_of r')

    own : Bool → EditOp → Type 0
    own = OwnOfEvent (world_of r) e outcome (world_of r')

    moments : Tells old → LeavesLogs old new r own_keys own
    moments = one-leaves old new r r' own_keys own does.logged keys_file names_file fit does.disk

    linked : KnowsWorld e (Tells old) → (h : Hidden) → LinkedWorld (world_of r) h → LinkedWorld (world_of r') (hidden_after (world_of r) words e outcome does.drawn (world_of r') h)
    linked knows h l = keeps-world lines (world_of r) words now e (Rose old.faults new.faults) (Tells old) outcome does.drawn does.logged (world_of r') h knows fit fit'.names.table.rules does.acts l

-- the answer of step, by the event that happened
pub step-result : (old new : DiskState) (r : RunningWorld) (words : ℕ → ℕ) (now : ℕ) (e : Event) (result : Result Line WorldFault) (r' : RunningWorld) (words' : ℕ → ℕ) → r.keys.store.log.file ≡ 0 → r.names.store.log.log.file ≡ 1
    → ServicesFit (world_of r) → r'.keys.store.log.file ≡ 0 → r'.names.store.log.log.file ≡ 1 → ServicesFit (world_of r')
    → MatchResult result (λ outcome. (lines : List PropLine) → AreListsOf r.keys.acls lines → Happens lines old new r words now e outcome r' words') (λ fault. FailsToRestart old new r words e fault.file fault.fault r' words')
    → MatchResult result (λ outcome. (lines : List PropLine) → AreListsOf r.keys.acls lines → Steps lines old new r words now e outcome r' words') (λ fault. FailsToRestart old new r words e fault.file fault.fault r' words')
step-result old new r words now e (Ok outcome) r' words' keys_file names_file fit keys_file' names_file' fit' happens = λ lines lists. steps lines old new r words now e outcome r' words' keys_file names_file fit keys_file' names_file' fit' (happens lines lists)
step-result old new r words now e (Err fault) r' words' keys_file names_file fit keys_file' names_file' fit' fails = fails
