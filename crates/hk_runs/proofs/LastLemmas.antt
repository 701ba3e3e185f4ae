-- The last line, and a replay as a whole.
use Rattle.std.proofs.Common.{◌≡◌, ◌⊎◌, inl, inr, ℕ, zero, suc, Bool, List, [], ◌++◌, length, refl, ap, sym, ◌∙◌, subst, ◌≤◌, IsTrue, Option, Some, append_assoc, arith}
use Rattle.std.specs.Io.KnownBytes.{Appends}
use Rattle.std.proofs.KnownBytes.{Appends-trans, Appends-nil}
use Rattle.hk_base.specs.Disk.{DiskState, Tells}
use Rattle.hk_base.specs.Faults.{Rose}
use Rattle.hk_base.specs.Writing.{WroteFront}
use Rattle.frame_log.specs.declared.fault.StartFault.{StartFault}
use Rattle.frame_log.specs.declared.fault.StartFault.TheVariants as start
use Rattle.kms_core.proofs.ServiceLemmas.{rose_before, rose_since}
use Rattle.prop_text.specs.declared.props.Props.{Props}
use Rattle.prop_text.specs.declared.faults.PropFault.{PropFault}
use Rattle.prop_text.specs.declared.faults.PropFault.TheVariants as prop_fault
use Rattle.hk_events.specs.declared.event.Event.{Event}
use Rattle.world_run.specs.Acknowledged.{Acknowledged, LeavesBoth, RunBoth, also}
use Rattle.world_run.specs.Keeps.{BeginsFirstWorld, LeftByStarts}
use Rattle.world_run.specs.Starts.{FailsAt, OpensBoth}
use Rattle.world_run.specs.World.{RunningWorld, WorldState, first_world}
use Rattle.command_io.specs.declared.ends.ReplayEnd.{ReplayEnd}
use Rattle.command_io.specs.declared.ends.ReplayEnd.TheVariants as ended
use Rattle.command_io.specs.declared.props.PropsFault.{PropsFault}
use Rattle.command_io.specs.declared.props.PropsFault.TheVariants as props_fault
use Rattle.command_io.specs.Properties.{HasPropsFault, ReadsProperties}
use Rattle.hk_runs.specs.Logs.{OnDisk, opened_logs}
use Rattle.hk_runs.specs.PlayedLines.{events_of_lines, lines_in, transcript}
use Rattle.hk_runs.specs.Run.{History, Runs, logged_in, world_after}
use Rattle.command_io.specs.Ends.{Closes, ended_by, ended_by_props, ended_by_text, last_line, status_of}
use Rattle.hk_runs.specs.Replay.{CutAt, IsPrinted, Played, ReadsLogsAt, Replay, ReplayUnder, RestartStops, SaysEnd}
use Rattle.hk_runs.specs.Steps.{Caused, Ran}
use Rattle.hk_runs.proofs.BeganLemmas.{apart_kept, last_kept, promise_kept, survives_kept}
use Rattle.hk_runs.proofs.LivedLemmas.{tells_now}

-- the text written after a body

-- all that is written in a replay
record Wrote (stop how : ReplayEnd) (lines : ℕ) (printed : List ℕ) (written now : Option (List ℕ)) : Type 0 where
  text : List ℕ
  wrote : Appends written now text
  says : SaysEnd stop how lines printed text

closed : (stop how : ReplayEnd) (lines : ℕ) (printed body : List ℕ) (written mid now : Option (List ℕ)) → IsPrinted stop body printed → Appends written mid body → Closes stop lines mid now how → Wrote stop how lines printed written now
closed stop how lines printed body written mid now is wrote c = go c.writes
  where
    go : ((how ≡ c.last) × Appends mid now (last_line c.last lines)) ⊎ ((how ≡ ended.WriteFault) × WroteFront mid now (last_line c.last lines)) → Wrote stop how lines printed written now
    go (inl (end, more)) = record {
      text = body ++ last_line c.last lines;
      wrote = Appends-trans written mid now _ _ wrote more;
      says = record { body = body; is_printed = is; last = c.last; last_is = c.last_is; closes = inl (end, refl) };
    }
    go (inr (end, front)) = record {
      text = body ++ front.front;
      wrote = Appends-trans written mid now _ _ wrote front.wrote;
      says = record {
        body = body;
        is_printed = is;
        last = c.last;
        last_is = c.last_is;
        closes = inr (end, (front.more, append_assoc body front.front front.more ∙ ap (λ (l : List ℕ). body ++ l) front.whole));
      };
    }

-- a replay that ends by another cause than want of memory or a fault of the output was stopped by it
pub stopped_by : (stop : ReplayEnd) (lines : ℕ) (written now : Option (List ℕ)) (how fault : ReplayEnd) → Closes stop lines written now how → (fault ≡ ended.NoMemory → ⊥) → (fault ≡ ended.WriteFault → ⊥) → how ≡ fault → stop ≡ fault
stopped_by stop lines written now how fault c no_memory no_write is = go c.writes
  where
    by_last : how ≡ c.last → (c.last ≡ stop) ⊎ (c.last ≡ ended.NoMemory) → stop ≡ fault
    by_last e (inl m) = sym m ∙ sym e ∙ is
    by_last e (inr m) = absurd (no_memory (sym is ∙ e ∙ m))

    go : ((how ≡ c.last) × Appends written now (last_line c.last lines)) ⊎ ((how ≡ ended.WriteFault) × WroteFront written now (last_line c.last lines)) → stop ≡ fault
    go (inl (e, more)) = by_last e c.last_is
    go (inr (e, front)) = absurd (no_write (sym is ∙ e))

-- a log could not be opened

nothing_printed : (file : ℕ) (f : StartFault) → IsPrinted (ended_by file f) [] []
nothing_printed zero (start.Damaged at) = refl
nothing_printed (suc n) (start.Damaged at) = refl
nothing_printed file start.StoreFault = refl
nothing_printed file start.NoMemory = ([], refl)
nothing_printed file start.Spent = refl

pub unopened : (props : Props) (same : Type 0) (old new : DiskState) (words words' : ℕ → ℕ) (left written now : Option (List ℕ)) (file : ℕ) (fault : StartFault) (how : ReplayEnd) → OpensBoth old new (FailsAt file fault) → same
    → Closes (ended_by file fault) 0 written now how → ReplayUnder props same old new words words' left written now how
unopened props same old new words words' left written now file fault how not untouched c =
    let w = closed (ended_by file fault) how 0 [] [] written written now (nothing_printed file fault) (Appends-nil written) c in
    inl (record { file = file; fault = fault; not_opened = not; untouched = untouched; text = w.text; wrote = w.wrote; says = w.says })

-- the properties could not be read

nothing_printed_of_text : (f : PropFault) → IsPrinted (ended_by_text f) [] []
nothing_printed_of_text (prop_fault.BadLine number) = refl
nothing_printed_of_text (prop_fault.Repeated number) = refl
nothing_printed_of_text (prop_fault.UnknownName number) = refl
nothing_printed_of_text prop_fault.TooLong = refl
nothing_printed_of_text prop_fault.NoMemory = ([], refl)

nothing_printed_of_props : (f : PropsFault) → IsPrinted (ended_by_props f) [] []
nothing_printed_of_props props_fault.ReadFault = refl
nothing_printed_of_props (props_fault.TextFault f) = nothing_printed_of_text f

pub bad_properties : (same_disk same : Type 0) (old new : DiskState) (acls acls' : Option (List ℕ)) (words words' : ℕ → ℕ) (left written now : Option (List ℕ)) (fault : PropsFault) (how : ReplayEnd)
    → HasPropsFault acls fault → same_disk × same → Closes (ended_by_props fault) 0 written now how → Replay same_disk same old new acls acls' words words' left written now how
bad_properties same_disk same old new acls acls' words words' left written now fault how has untouched c =
    let w = closed (ended_by_props fault) how 0 [] [] written written now (nothing_printed_of_props fault) (Appends-nil written) c in
    inl (record { fault = fault; has_fault = has; untouched = untouched; text = w.text; wrote = w.wrote; says = w.says })

pub has_read : (same_disk same : Type 0) (old new : DiskState) (acls acls' : Option (List ℕ)) (words words' : ℕ → ℕ) (left written now : Option (List ℕ)) (how : ReplayEnd) (props : Props)
    → ReadsProperties acls acls' props → ReplayUnder props same old new words words' left written now how → Replay same_disk same old new acls acls' words words' left written now how
has_read same_disk same old new acls acls' words words' left written now how props read replay = inr (record { props = props; read = read; replay = replay })

-- lines were played

pub played : (props : Props) (same : Type 0) (old mid new : DiskState) (r : RunningWorld) (words words' : ℕ → ℕ) (left written between now : Option (List ℕ)) (stop how : ReplayEnd) (count : ℕ) → BeginsFirstWorld props.sizes old mid r
    → (Tells old → LeavesBoth old mid (LeftByStarts old)) → RunBoth old mid
    → Ran props.lines mid new r words words' left written between stop count → Closes stop count between now how → ReplayUnder props same old new words words' left written now how
played props same old mid new r words words' left written between now stop how count b moments run ran c =
    inr (record { played_lines = ran.played; stop = stop; played = whole; rest = ran.rest; text = w.text; wrote = w.wrote; says = w.says })
  where
    h : History
    h = events_of_lines ran.played

    lines_played : List (List ℕ)
    lines_played = lines_in ran.played

    Cut : Event → Type 0
    Cut = CutAt stop left lines_played

    first : WorldState
    first = first_world props.sizes b.table b.names

    w : Wrote stop how (length lines_played) (transcript h) written now
    w = subst (λ (n : ℕ). Wrote stop how n (transcript h) written now) ran.counted (closed stop how count (transcript h) ran.text written between now ran.printed ran.wrote c)

    same_tells : Tells mid ≡ Tells old
    same_tells = ap (λ (t : Bool). IsTrue t) run.tells

    found : Tells old → Acknowledged
    found tells = opened_logs (b.log tells).commands b.table (b.log tells).ops b.names

    disk : Tells old → OnDisk old new words props.sizes b.table b.names h Cut
    disk tells =
        let log = b.log tells in
        let kept = ran.kept (tells_now old mid run tells) b.rests (found tells) log.holds in
        record {
          commands = log.commands;
          ops = log.ops;
          used = log.used;
          keys = log.keys;
          edits = log.edits;
          keys_room = log.keys_room;
          names_room = log.names_room;
          moments = survives_kept props.sizes old mid new r b tells words h Cut (found tells) (moments tells) run kept.moments;
          last = λ image is. last_kept props.sizes old mid new r b tells words h Cut (found tells) image (kept.last image is);
        }

    whole : Played props old new words left stop ran.played
    whole = record {
      table = b.table;
      names = b.names;
      before = mid.faults;
      spelled = ran.spelled;
      runs = subst (λ (T : Type 0). Runs props.lines T first words mid.faults h) same_tells (subst (λ (v : WorldState). Runs props.lines (Tells mid) v words mid.faults h) b.first ran.runs);
      began = run.faults;
      ended = ran.counted_faults;
      on_disk = disk;
      promise = λ tells. promise_kept props.sizes old mid new r b tells words h Cut (found tells) (ran.promise (tells_now old mid run tells));
      apart = λ tells. apart_kept props.sizes old mid new r b tells words h Cut (found tells) (ran.apart (tells_now old mid run tells));
      reads = λ tells. subst (λ (v : WorldState). ReadsLogsAt stop left lines_played new (also (found tells) (logged_in h)) (world_after v h)) b.first (ran.kept (tells_now old mid run tells) b.rests (found tells) (b.log tells).holds).reads;
      restart = λ tells. subst (λ (v : WorldState). RestartStops stop left lines_played (world_after v h)) b.first (ran.restart (tells_now old mid run tells));
      stops = ran.stops;
      has_properties = ran.has_properties;
    }

-- statuses and their causes

pub is_done : (how : ReplayEnd) → status_of how ≡ 0 → how ≡ ended.Done
is_done ended.Done h = refl
is_done (ended.AclRefused number) h = absurd cc
is_done (ended.AclRepeated number) h = absurd cc
is_done (ended.AclUnknown number) h = absurd cc
is_done ended.AclTooLong h = absurd cc
is_done ended.BadLine h = absurd cc
is_done (ended.DamagedKeys at) h = absurd cc
is_done (ended.DamagedNames at) h = absurd cc
is_done ended.StoreFault h = absurd cc
is_done ended.NoMemory h = absurd cc
is_done ended.ReadFault h = absurd cc
is_done ended.WriteFault h = absurd cc
is_done ended.Spent h = absurd cc

pub is_store : (how : ReplayEnd) → status_of how ≡ 5 → how ≡ ended.StoreFault
is_store ended.Done h = absurd cc
is_store (ended.AclRefused number) h = absurd cc
is_store (ended.AclRepeated number) h = absurd cc
is_store (ended.AclUnknown number) h = absurd cc
is_store ended.AclTooLong h = absurd cc
is_store ended.BadLine h = absurd cc
is_store (ended.DamagedKeys at) h = absurd cc
is_store (ended.DamagedNames at) h = absurd cc
is_store ended.StoreFault h = refl
is_store ended.NoMemory h = absurd cc
is_store ended.ReadFault h = absurd cc
is_store ended.WriteFault h = absurd cc
is_store ended.Spent h = absurd cc

pub is_read : (how : ReplayEnd) → status_of how ≡ 7 → how ≡ ended.ReadFault
is_read ended.Done h = absurd cc
is_read (ended.AclRefused number) h = absurd cc
is_read (ended.AclRepeated number) h = absurd cc
is_read (ended.AclUnknown number) h = absurd cc
is_read ended.AclTooLong h = absurd cc
is_read ended.BadLine h = absurd cc
is_read (ended.DamagedKeys at) h = absurd cc
is_read (ended.DamagedNames at) h = absurd cc
is_read ended.StoreFault h = absurd cc
is_read ended.NoMemory h = absurd cc
is_read ended.ReadFault h = refl
is_read ended.WriteFault h = absurd cc
is_read ended.Spent h = absurd cc

pub is_write : (how : ReplayEnd) → status_of how ≡ 8 → how ≡ ended.WriteFault
is_write ended.Done h = absurd cc
is_write (ended.AclRefused number) h = absurd cc
is_write (ended.AclRepeated number) h = absurd cc
is_write (ended.AclUnknown number) h = absurd cc
is_write ended.AclTooLong h = absurd cc
is_write ended.BadLine h = absurd cc
is_write (ended.DamagedKeys at) h = absurd cc
is_write (ended.DamagedNames at) h = absurd cc
is_write ended.StoreFault h = absurd cc
is_write ended.NoMemory h = absurd cc
is_write ended.ReadFault h = absurd cc
is_write ended.WriteFault h = refl
is_write ended.Spent h = absurd cc

-- an end that is neither want of memory nor a fault of the output is the one for which the replay stopped
pub stopped : (stop how : ReplayEnd) (lines : ℕ) (written now : Option (List ℕ)) → Closes stop lines written now how → (how ≡ ended.NoMemory → ⊥) → (how ≡ ended.WriteFault → ⊥) → stop ≡ how
stopped stop how lines written now c no_memory no_write = go c.last_is c.writes
  where
    go : (c.last ≡ stop) ⊎ (c.last ≡ ended.NoMemory) → ((how ≡ c.last) × Appends written now (last_line c.last lines)) ⊎ ((how ≡ ended.WriteFault) × WroteFront written now (last_line c.last lines)) → stop ≡ how
    go o (inr (end, front)) = absurd (no_write end)
    go (inl is) (inl (end, more)) = sym is ∙ sym end
    go (inr is) (inl (end, more)) = absurd (no_memory (end ∙ is))

-- the causes of an end for which a replay stopped are those of the end once its last line was written
pub closed_cause : (input input' out mid out' disk disk' : ℕ) (stop how : ReplayEnd) (lines : ℕ) (written now : Option (List ℕ)) → Closes stop lines written now how → Caused input input' out mid disk disk' (Some stop)
    → mid ≤ out' → (how ≡ ended.WriteFault → (stop ≡ ended.WriteFault) ⊎ Rose mid out') → Caused input input' out out' disk disk' (Some how)
closed_cause input input' out mid out' disk disk' stop how lines written now c caused later write = record {
  read_later = caused.read_later;
  write_later = omega (arith, caused.write_later, later);
  disk_later = caused.disk_later;
  read = λ e. let is : how ≡ ended.ReadFault = cc in caused.read (ap some_end (stopped_by stop lines written now how ended.ReadFault c (λ e. cc e) (λ e. cc e) is));
  write = λ e. let is : how ≡ ended.WriteFault = cc in by_output (write is);
  store = λ e. let is : how ≡ ended.StoreFault = cc in caused.store (ap some_end (stopped_by stop lines written now how ended.StoreFault c (λ e. cc e) (λ e. cc e) is));
}
  where
    some_end : ReplayEnd → Option ReplayEnd
    some_end e = Some e

    by_output : (stop ≡ ended.WriteFault) ⊎ Rose mid out' → Rose out out'
    by_output (inl is) = rose_before out mid out' later (caused.write (ap some_end is))
    by_output (inr rose) = rose_since out mid out' caused.write_later rose
