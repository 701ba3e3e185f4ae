-- What the files read as where a log couldn't be opened.
use Rattle.std.proofs.Common.{◌≡◌, inl, inr, ◌⊎◌, ⊎_elim, ◌<◌, ◌≤◌, ◌-◌, ℕ, zero, suc, Bool, true, false, IsTrue, List, [], ◌∷◌, ◌++◌, Some, None, Option, refl, sym, ap, ◌∙◌, subst, arith}
use Rattle.std.specs.Prelude.{◌&&◌}
use Rattle.hk_base.specs.Disk.{DiskState, Image, IsImage, Only, Tells}
use Rattle.frame_log.specs.Format.{At_rest, Found, Half_open, IsRecovered, LogReading, Log_as_found, NoLog, No_log, log_of}
use Rattle.frame_log.specs.Opens.{OpensLog}
use Rattle.frame_log.specs.declared.fault.StartFault.{StartFault}
use Rattle.frame_log.specs.declared.fault.StartFault.TheVariants as start
use Rattle.key_rows.specs.Table.{after}
use Rattle.key_rows.specs.declared.rows.KeyCommand.{KeyCommand}
use Rattle.kms_store.specs.Store as keys
use Rattle.kms_store.proofs.Layers.{log_of_store}
use Rattle.kms_core.specs.Service.{Starts as KeysStart}
use Rattle.kms_core.specs.State.{Running, ServiceState}
use Rattle.kms_core.specs.Users.{RunningKms, running}
use Rattle.name_store.specs.Store as names
use Rattle.server_parts.specs.Yards.{GivenBack, OnlyFaults, Taken, YardState}
use Rattle.server_run.specs.Opening.{HasNewOpening, HasStartCause, KeysNotOpened, KeysOpened, NamesNotOpened, NoneOpened, NotOpened}

-- the laws of a disk at a moment
pub record Moment (d : DiskState) : Type 0 where
  pub counts : (t : ℕ) (c : Image) → t ≤ d.moment → IsImage d c → d.left_since t c
  pub only : (c : Image) → d.left_since d.moment c → IsImage d c
  pub is_one : (file : ℕ) → Tells d → file < 2 → d.leaves file (d.reads file)

-- a recovery may leave a file as it is
as_it_is : (file : ℕ) (bytes : List ℕ) → IsRecovered file bytes bytes
as_it_is file bytes = by_reading (log_of file bytes) refl
  where
    by_reading : (reading : LogReading) → log_of file bytes ≡ reading → IsRecovered file bytes bytes
    by_reading (NoLog at) is = No_log at is refl
    by_reading (Found payloads zero) is = Log_as_found (At_rest payloads zero is is)
    by_reading (Found payloads (suc gate)) is = Log_as_found (Half_open payloads gate gate is is refl)

keys_as_they_are : (bytes : List ℕ) → keys.IsLeftByStart bytes bytes
keys_as_they_are bytes = keys.Recovered (as_it_is 0 bytes)

names_as_they_are : (bytes : List ℕ) → names.IsLeftByStart bytes bytes
names_as_they_are bytes = names.Recovered (as_it_is 1 bytes)

-- both tell what was told before
pub both_tell : (a b c : Bool) → a ≡ c → b ≡ c → (a && b) ≡ c
both_tell true b c first second = second
both_tell false b c first second = first

module _ (file : ℕ) (Damage : List ℕ → ℕ → Type 0) (Used : List ℕ → Type 0) (Left : List ℕ → List ℕ → Type 0) (same : (bytes : List ℕ) → Left bytes bytes) (file_in : file < 2) where
  -- a file of which a crash leaves what it reads as reads, after a start, as the start leaves it
  left_by : (old new : DiskState) (fails : StartFault → Type 0) → Moment old → Moment new → Only (old.reads file) (old.leaves file) → OpensLog file Damage Used Left old new fails → Tells old
      → Left (old.reads file) (new.reads file)
  left_by old new fails before now only o telling = ⊎_elim (λ failed. unwritten (failed.1.before old.moment new.reads (omega arith) past)) (λ since. since.only new.reads (now.counts since.moment new.reads since.reached here)) (o.since_sync telling)
    where
      here : IsImage new new.reads
      here = λ f lt. now.is_one f (o.run.tells ∙ telling) lt

      past : new.left_since old.moment new.reads
      past = now.counts old.moment new.reads o.run.later here

      as_before : old.leaves file (new.reads file) → Left (old.reads file) (new.reads file)
      as_before left = subst (λ (bytes : List ℕ). Left (old.reads file) bytes) (sym (only (new.reads file) left)) (same (old.reads file))

      unwritten : old.left_since old.moment new.reads ⊎ (old.leaves file (new.reads file) × old.leaves (1 - file) (new.reads (1 - file))) → Left (old.reads file) (new.reads file)
      unwritten (inl left) = as_before (before.only new.reads left file file_in)
      unwritten (inr left) = as_before left.0

  cause_of : (old mid new : YardState) (first last : DiskState) (fails : StartFault → Type 0) (fault : StartFault) → Taken file old mid first → OpensLog file Damage Used Left first last fails → fails fault → GivenBack file mid new last
      → HasStartCause (Damage (old.reads file)) (Used (old.reads file)) old new fault
  cause_of old mid new first last fails (start.Damaged at) taken o is given = λ telling. subst (λ (bytes : List ℕ). Damage bytes at) (taken.own_reads telling) (o.why.damaged at is (taken.own_tells ∙ telling))
  cause_of old mid new first last fails start.Spent taken o is given = λ telling. subst Used (taken.own_reads telling) (o.why.spent is (taken.own_tells ∙ telling))
  cause_of old mid new first last fails start.StoreFault taken o is given =
      let own : 0 < last.faults = omega (arith, o.why.cause is, taken.own_faults) in
      omega (arith, given.rose own, taken.faults)
  cause_of old mid new first last fails start.NoMemory taken o is given = tt

  -- the disk was taken, a start on it failed, and it was given back
  pub start_failed : (old mid new : YardState) (first last : DiskState) (fails : StartFault → Type 0) (fault : StartFault) → Moment first → Moment last → Taken file old mid first → OpensLog file Damage Used Left first last fails → fails fault
      → GivenBack file mid new last → NotOpened file (1 - file) Damage Used Left old new fault
  start_failed old mid new first last fails fault before now taken o is given = record {
    tells = tells_on;
    back = given.back;
    other_lies = given.other_lies ∙ taken.other_lies;
    later = omega (arith, given.later, taken.faults);
    cause = cause_of old mid new first last fails fault taken o is given;
    reads = λ telling.
        subst (λ (bytes : List ℕ). Left (old.reads file) bytes) (sym (given.reads (tells_on ∙ telling)))
        (subst (λ (bytes : List ℕ). Left bytes (last.reads file)) (taken.own_reads telling)
        (left_by first last fails before now (λ c left. taken.own_leaves telling c left ∙ sym (taken.own_reads telling)) o (taken.own_tells ∙ telling)));
    other_reads = λ telling. given.other_reads (tells_on ∙ telling) ∙ taken.other_reads telling;
  }
    where
      tells_on : new.tells ≡ old.tells
      tells_on = given.tells ∙ both_tell mid.tells last.tells old.tells taken.tells (o.run.tells ∙ taken.own_tells)

  -- the disk couldn't be taken
  pub take_failed : (old new : YardState) → IsTrue (old.lies file) → OnlyFaults old new → old.faults ≤ new.faults → HasStartCause (Damage (old.reads file)) (Used (old.reads file)) old new start.StoreFault
      → NotOpened file (1 - file) Damage Used Left old new start.StoreFault
  take_failed old new lies kept later cause = record {
    tells = kept.tells;
    back = kept.lies file ∙ lies;
    other_lies = kept.lies (1 - file);
    later = later;
    cause = cause;
    reads = λ telling. subst (λ (bytes : List ℕ). Left (old.reads file) bytes) (sym (kept.reads telling file file_in)) (same (old.reads file));
    other_reads = λ telling. kept.reads telling (1 - file) (omega arith);
  }

-- both logs, each on its file

pub keys_start_failed : (old mid new : YardState) (first last : DiskState) (fails : StartFault → Type 0) (fault : StartFault) → Moment first → Moment last → Taken 0 old mid first → keys.OpensKeys first last fails → fails fault
    → GivenBack 0 mid new last → KeysNotOpened old new fault
keys_start_failed = start_failed 0 keys.IsDamagedAt keys.SpentKeys keys.IsLeftByStart keys_as_they_are (omega arith)

pub names_start_failed : (old mid new : YardState) (first last : DiskState) (fails : StartFault → Type 0) (fault : StartFault) → Moment first → Moment last → Taken 1 old mid first → names.OpensNames first last fails → fails fault
    → GivenBack 1 mid new last → NamesNotOpened old new fault
names_start_failed = start_failed 1 names.IsDamagedAt names.SpentNames names.IsLeftByStart names_as_they_are (omega arith)

pub keys_take_failed : (old new : YardState) → IsTrue (old.lies 0) → OnlyFaults old new → old.faults ≤ new.faults → HasStartCause (keys.IsDamagedAt (old.reads 0)) (keys.SpentKeys (old.reads 0)) old new start.StoreFault → KeysNotOpened old new start.StoreFault
keys_take_failed = take_failed 0 keys.IsDamagedAt keys.SpentKeys keys.IsLeftByStart keys_as_they_are (omega arith)

pub names_take_failed : (old new : YardState) → IsTrue (old.lies 1) → OnlyFaults old new → old.faults ≤ new.faults → HasStartCause (names.IsDamagedAt (old.reads 1)) (names.SpentNames (old.reads 1)) old new start.StoreFault → NamesNotOpened old new start.StoreFault
names_take_failed = take_failed 1 names.IsDamagedAt names.SpentNames names.IsLeftByStart names_as_they_are (omega arith)

-- the key log failed, and the edit log wasn't touched
pub keys_failed : (old new : YardState) (fault : StartFault) → IsTrue (old.lies 1) → KeysNotOpened old new fault → NoneOpened old new 0 fault
keys_failed old new fault lies failed = record {
  tells = failed.tells;
  keys_back = failed.back;
  names_back = failed.other_lies ∙ lies;
  later = failed.later;
  first = inl (refl, failed);
}

-- a start that was done leaves the log found, with the record of the new opening
new_opening : (old new : DiskState) (r : Running) → r.store.log.file ≡ 0 → KeysStart old new r → Tells old → HasNewOpening (old.reads 0) (new.reads 0)
new_opening old new r of_file s telling =
    let k = s.log telling in
    let commands : List KeyCommand = k.0 ++ keys.next_opening s.table ∷ [] in
    let none : r.store.pending ≡ None = ap (λ (v : ServiceState). v.pending) s.opens in
    let made : r.store.table.keys ≡ after s.table (keys.next_opening s.table) = ap (λ (v : ServiceState). v.keys.table) s.opens in
    record {
      commands = k.0;
      table = s.table;
      log = k.1;
      opened = record {
        spelled = k.2.spelled;
        spelled_more = tt;
        makes = k.2.makes ∙ ap Some made;
        fits = tt;
        log = subst (λ (file : ℕ). keys.IsLogOf commands None (new.reads file)) of_file
            (subst (λ (o : Option KeyCommand). keys.IsLogOf commands o (new.reads r.store.log.file)) none
            (log_of_store new r.store commands of_file k.2 (new.reads r.store.log.file) k.2.log.reads));
      };
    }

-- the key log was opened, the edit log failed, and the disk of the key log was given back
pub names_failed : {D : Type 0} (state : D → DiskState) (old mid then new : YardState) (disk : D) (kms : RunningKms) (fault : StartFault) → KeysOpened state old mid disk kms → NamesNotOpened mid then fault → GivenBack 0 then new (state disk)
    → NoneOpened old new 1 fault
names_failed state old mid then new disk kms fault opened failed given = record {
  tells = tells_on;
  keys_back = given.back;
  names_back = given.other_lies ∙ failed.back;
  later = omega (arith, given.later, failed.later, opened.taken.faults);
  first = inr (refl, record { cause = cause; keys_read = keys_read; names_read = names_read });
}
  where
    then_tells : then.tells ≡ old.tells
    then_tells = failed.tells ∙ opened.taken.tells

    tells_on : new.tells ≡ old.tells
    tells_on = given.tells ∙ both_tell then.tells (state disk).tells old.tells then_tells (opened.tells ∙ opened.taken.own_tells)

    keys_read : IsTrue old.tells → HasNewOpening (old.reads 0) (new.reads 0)
    keys_read telling =
        subst (λ (bytes : List ℕ). HasNewOpening (old.reads 0) bytes) (sym (given.reads (tells_on ∙ telling)))
        (subst (λ (bytes : List ℕ). HasNewOpening bytes ((state disk).reads 0)) (opened.taken.own_reads telling)
        (new_opening (state opened.first) (state disk) (running kms) opened.file opened.starts (opened.taken.own_tells ∙ telling)))

    names_read : IsTrue old.tells → names.IsLeftByStart (old.reads 1) (new.reads 1)
    names_read telling =
        subst (λ (bytes : List ℕ). names.IsLeftByStart (old.reads 1) bytes) (sym (given.other_reads (tells_on ∙ telling)))
        (subst (λ (bytes : List ℕ). names.IsLeftByStart bytes (then.reads 1)) (opened.taken.other_reads telling) (failed.reads (opened.taken.tells ∙ telling)))

    cause : HasStartCause (names.IsDamagedAt (old.reads 1)) (names.SpentNames (old.reads 1)) old new fault
    cause = cause_since fault failed.cause
      where
        cause_since : (fault : StartFault) → HasStartCause (names.IsDamagedAt (mid.reads 1)) (names.SpentNames (mid.reads 1)) mid then fault → HasStartCause (names.IsDamagedAt (old.reads 1)) (names.SpentNames (old.reads 1)) old new fault
        cause_since (start.Damaged at) damaged = λ telling. subst (λ (bytes : List ℕ). names.IsDamagedAt bytes at) (opened.taken.other_reads telling) (damaged (opened.taken.tells ∙ telling))
        cause_since start.Spent spent = λ telling. subst names.SpentNames (opened.taken.other_reads telling) (spent (opened.taken.tells ∙ telling))
        cause_since start.StoreFault rose = omega (arith, rose, opened.taken.faults, given.later)
        cause_since start.NoMemory c = tt
