-- A run of the server, from its parts.
use Rattle.std.proofs.Common.{◌≡◌, ◌⊎◌, ◌+◌, ◌-◌, ◌^◌, ◌<◌, ◌≤◌, inl, inr, ℕ, zero, suc, Bool, true, false, [], Some, refl, ◌∙◌, sym, subst, arith, IsTrue}
use Rattle.std.specs.Prelude.{◌↔◌, ◌||◌, min}
use Rattle.hk_base.specs.Disk.{DiskState}
use Rattle.hk_base.specs.Faults.{Rose}
use Rattle.hist_cell.specs.History.{Closes, Meets}
use Rattle.kms_cell.specs.Entries.{KmsKnown}
use Rattle.kms_cell.specs.Steps.{KmsSteps}
use Rattle.kms_cell.specs.Tickets.{KmsAllows}
use Rattle.kms_cell.specs.Views.{KmsView, RunsOn}
use Rattle.kms_core.specs.State.{IsService, service_of}
use Rattle.kms_core.specs.Users.{RunningKms, running}
use Rattle.name_core.specs.State.{IsNames, RunningNames, service_of as names_service}
use Rattle.name_history.specs.Asked.{NameAllows}
use Rattle.name_history.specs.Entries.{NameKnown}
use Rattle.name_history.specs.Steps.{NameSteps}
use Rattle.name_history.specs.Views.{NameView, NamesRunOn}
use Rattle.prop_text.specs.declared.props.Props.{Props}
use Rattle.server_parts.specs.Doors.{DoorState}
use Rattle.server_parts.specs.Yards.{GivenBack, YardState}
use Rattle.cell_server.specs.Connections.{Serving}
use Rattle.cell_server.specs.Serves.{ServesAll}
use Rattle.cell_server.specs.declared.ends.ServeEnd.{ServeEnd}
use Rattle.cell_server.specs.declared.ends.ServeEnd.TheVariants as serve_end
use Rattle.server_run.specs.Opening.{BothOpened}
use Rattle.server_run.specs.declared.run.RunEnd.{RunEnd}
use Rattle.server_run.specs.declared.run.RunEnd.TheVariants as run_end
use Rattle.server_run.specs.Runs.{BeginsServing, DisksFailed, EndsAs, RanServer, RanTo, end_of}

-- a fault of the door is one of the serving
pub faults_so : (end : ServeEnd) (failed : Bool) (rose : Type 0) → (end ≡ serve_end.DoorFault → rose) → end_of end failed ≡ run_end.DoorFault → rose
faults_so serve_end.Served true rose cause is = absurd cc
faults_so serve_end.Served false rose cause is = absurd cc
faults_so serve_end.Closed true rose cause is = absurd cc
faults_so serve_end.Closed false rose cause is = absurd cc
faults_so serve_end.DoorFault failed rose cause is = cause refl
faults_so serve_end.NoMemory failed rose cause is = absurd cc

none_counted : (n : ℕ) → (0 < n → ⊥) → n ≡ 0
none_counted zero none = refl
none_counted (suc n) none = absurd (none (omega arith))

pub disks_failed : (keys_failed names_failed : Bool) (keys names : ℕ) → (IsTrue keys_failed ↔ (0 < keys)) → (IsTrue names_failed ↔ (0 < names))
    → DisksFailed (keys_failed || names_failed) keys names
disks_failed true names_failed keys names k n = inl (k.0 refl)
disks_failed false true keys names k n = inr (n.0 refl)
disks_failed false false keys names k n = (none_counted keys (λ some. cc (k.1 some)), none_counted names (λ some. cc (n.1 some)))

rose_then : (a b c : ℕ) → Rose a b → b ≤ c → Rose a c
rose_then a b c rose later = let r : min (a + 1) (2 ^ 64 - 1) ≤ b = rose in omega (arith, r, later)

then_rose : (a b c : ℕ) → a ≤ b → Rose b c → Rose a c
then_rose a b c later rose = let r : min (b + 1) (2 ^ 64 - 1) ≤ c = rose in omega (arith, r, later)

module _ {D W I O : Type 0} (state : D → DiskState) (to_come : W → ℕ → ℕ) (serves : Serving I O D W) (first second : ℕ → ℕ) where
  -- the cells were closed after a run in them
  pub ran : (port conns : ℕ) (door door' : DoorState I O) (end : ServeEnd) (k : KmsView D W) (n : NameView D W) (keys : KmsKnown D W) (names : NameKnown D W) (keys' : KmsKnown D W) (names' : NameKnown D W)
      (kms : RunningKms) (keys_disk : D) (service : RunningNames) (names_disk : D)
      → BeginsServing k keys n → (names.start ≡ Some n) × (names.seen ≡ []) × (names.ended ≡ [])
      → ServesAll serves first second state to_come door keys names port conns end door' keys' names'
      → (last_n : NameView D W) × (met : KmsKnown D W) × (last_k : KmsView D W)
      × Closes (NameSteps state to_come) NameAllows names' last_n × Meets keys' last_n.keys met × Closes (KmsSteps state to_come) KmsAllows met last_k
      × (kms ≡ last_k.kms) × (keys_disk ≡ last_k.disk) × (service ≡ last_n.names) × (names_disk ≡ last_n.disk)
      → RunsOn (state keys_disk) kms → NamesRunOn (state names_disk) service → IsService (service_of (running kms)) → IsNames (names_service service) → kms.store.log.file ≡ 0 → service.store.log.log.file ≡ 1
      → RanTo state to_come serves first second port conns door door' end k n keys_disk names_disk
  ran port conns door door' end k n keys names keys' names' kms keys_disk service names_disk begins names_begin served (last_n, met, last_k, closes_n, meets, closes_k, kms_is, disk_is, names_are, names_disk_is) runs names_run rules names_rules keys_file names_file = record {
    last_k = last_k;
    last_n = last_n;
    ran = record {
      keys = keys;
      names = names;
      keys' = keys';
      names' = names';
      begins = begins;
      names_begin = names_begin;
      served = served;
      names_closed = closes_n;
      met = met;
      kept_met = meets;
      keys_closed = closes_k;
      keys_run = subst (λ d. RunsOn (state d) last_k.kms) disk_is (subst (λ s. RunsOn (state keys_disk) s) kms_is runs);
      names_run = subst (λ d. NamesRunOn (state d) last_n.names) names_disk_is (subst (λ s. NamesRunOn (state names_disk) s) names_are names_run);
      keys_rules = subst (λ (s : RunningKms). IsService (service_of (running s))) kms_is rules;
      names_rules = subst (λ (s : RunningNames). IsNames (names_service s)) names_are names_rules;
      keys_file = subst (λ (s : RunningKms). s.store.log.file ≡ 0) kms_is keys_file;
      names_file = subst (λ (s : RunningNames). s.store.log.log.file ≡ 1) names_are names_file;
    };
    keys_disk_is = disk_is;
    names_disk_is = names_disk_is;
  }

  -- both disks were given back
  pub ran_server : (props : Props) (words : W) (port conns : ℕ) (old begun new : YardState) (door door' : DoorState I O) (end : ServeEnd) (failed : Bool) (k : KmsView D W) (service : RunningNames) (disk keys_disk names_disk keys_back names_back : D)
      → BothOpened state props old begun words k service disk
      → (n : NameView D W) × (n.names ≡ service) × (n.disk ≡ disk) × RanTo state to_come serves first second port conns door door' end k n keys_disk names_disk
      → keys_back ≡ keys_disk → names_back ≡ names_disk → (mid : YardState) × GivenBack 0 begun mid (state keys_back) × GivenBack 1 mid new (state names_back)
      → DisksFailed failed (state keys_back).faults (state names_back).faults
      → RanServer state to_come serves first second props words port conns old new door door' end failed
  ran_server props words port conns old begun new door door' end failed k service disk keys_disk names_disk keys_back names_back opened (n, service_is, disk_is, to) keys_same names_same (mid, keys_given, names_given) disks = record {
    begun = begun;
    k = k;
    n = n;
    opened = subst (λ (s : RunningNames). BothOpened state props old begun words k s n.disk) (sym service_is) (subst (λ (d : D). BothOpened state props old begun words k service d) (sym disk_is) opened);
    last_k = to.last_k;
    last_n = to.last_n;
    ran = to.ran;
    mid = mid;
    keys_given = subst (λ d. GivenBack 0 begun mid (state d)) (keys_same ∙ to.keys_disk_is) keys_given;
    names_given = subst (λ d. GivenBack 1 mid new (state d)) (names_same ∙ to.names_disk_is) names_given;
    disks = subst (λ d. DisksFailed failed (state to.last_k.disk).faults (state d).faults) (names_same ∙ to.names_disk_is)
        (subst (λ d. DisksFailed failed (state d).faults (state names_back).faults) (keys_same ∙ to.keys_disk_is) disks);
  }

  -- both services were started, and the second cell could not be made
  pub opened_in_vain : (props : Props) (words : W) (port conns : ℕ) (old new : YardState) (door door' : DoorState I O) (k : KmsView D W) (service : RunningNames) (disk : D) → BothOpened state props old new words k service disk → door' ≡ door
      → EndsAs state to_come serves first second props words port conns old new door door' run_end.NoMemory
  opened_in_vain props words port conns old new door door' k service disk opened unserved =
      inr (inr (record { lists = k.kms.acls; lists_are = opened.lists; keys_disk = k.disk; kms = k.kms; names_disk = disk; running_names = service; logs = opened.logs }), unserved)

  so_ends : (props : Props) (words : W) (port conns : ℕ) (old new : YardState) (door door' : DoorState I O) (end : ServeEnd) (failed : Bool) → RanServer state to_come serves first second props words port conns old new door door' end failed
      → EndsAs state to_come serves first second props words port conns old new door door' (end_of end failed)
  so_ends props words port conns old new door door' serve_end.Served true r = (serve_end.Served, (λ e. cc), r)
  so_ends props words port conns old new door door' serve_end.Served false r = r
  so_ends props words port conns old new door door' serve_end.Closed true r = (serve_end.Closed, (λ e. cc), r)
  so_ends props words port conns old new door door' serve_end.Closed false r = r
  so_ends props words port conns old new door door' serve_end.DoorFault true r = (serve_end.DoorFault, (λ e. cc), r)
  so_ends props words port conns old new door door' serve_end.DoorFault false r = r
  so_ends props words port conns old new door door' serve_end.NoMemory failed r = inl (failed, r)

  -- how the run ended
  pub ends_so : (props : Props) (words : W) (port conns : ℕ) (old new : YardState) (door door' : DoorState I O) (end : ServeEnd) (failed : Bool) (result : RunEnd) → result ≡ end_of end failed
      → RanServer state to_come serves first second props words port conns old new door door' end failed → EndsAs state to_come serves first second props words port conns old new door door' result
  ends_so props words port conns old new door door' end failed result is r =
      subst (λ e. EndsAs state to_come serves first second props words port conns old new door door' e) (sym is) (so_ends props words port conns old new door door' end failed r)

  -- ---- the count of faults of the yard

  -- opening the logs left it as it was
  opened_so : (props : Props) (words : W) (old begun : YardState) (k : KmsView D W) (service : RunningNames) (disk : D) → BothOpened state props old begun words k service disk → begun.faults ≡ old.faults
  opened_so props words old begun k service disk o = o.logs.names_opened.taken.faults ∙ o.logs.keys_opened.taken.faults

  -- it rose if a disk failed
  pub yard_rose : (props : Props) (words : W) (port conns : ℕ) (old new : YardState) (door door' : DoorState I O) (end : ServeEnd) → RanServer state to_come serves first second props words port conns old new door door' end true
      → Rose old.faults new.faults
  yard_rose props words port conns old new door door' end r = subst (λ (f : ℕ). Rose f new.faults) (opened_so props words old r.begun r.k r.n.names r.n.disk r.opened) (by r.disks)
    where
      by : DisksFailed true (state r.last_k.disk).faults (state r.last_n.disk).faults → Rose r.begun.faults new.faults
      by (inl keys) = rose_then r.begun.faults r.mid.faults new.faults (r.keys_given.rose keys) r.names_given.later
      by (inr names) = then_rose r.begun.faults r.mid.faults new.faults r.keys_given.later (r.names_given.rose names)

  -- it stayed as it was if none failed
  yard_stays : (props : Props) (words : W) (port conns : ℕ) (old new : YardState) (door door' : DoorState I O) (end : ServeEnd) → RanServer state to_come serves first second props words port conns old new door door' end false
      → new.faults ≡ old.faults
  yard_stays props words port conns old new door door' end r = r.names_given.same r.disks.1 ∙ (r.keys_given.same r.disks.0 ∙ opened_so props words old r.begun r.k r.n.names r.n.disk r.opened)

  pub store_rose : (props : Props) (words : W) (port conns : ℕ) (old new : YardState) (door door' : DoorState I O) (result : RunEnd) → EndsAs state to_come serves first second props words port conns old new door door' result
      → result ≡ run_end.StoreFault → Rose old.faults new.faults
  store_rose props words port conns old new door door' run_end.StoreFault (end, memory, r) is = yard_rose props words port conns old new door door' end r
  store_rose props words port conns old new door door' run_end.Served r is = absurd cc
  store_rose props words port conns old new door door' run_end.Closed r is = absurd cc
  store_rose props words port conns old new door door' run_end.DoorFault r is = absurd cc
  store_rose props words port conns old new door door' (run_end.NotOpened file fault) r is = absurd cc
  store_rose props words port conns old new door door' run_end.NoMemory r is = absurd cc

  -- it ended so only if the door is closed
  pub closed_so : (props : Props) (words : W) (port conns : ℕ) (old new : YardState) (door door' : DoorState I O) (result : RunEnd) → EndsAs state to_come serves first second props words port conns old new door door' result
      → result ≡ run_end.Closed → IsTrue door'.closed
  closed_so props words port conns old new door door' result ends is = (subst (EndsAs state to_come serves first second props words port conns old new door door') is ends).ran.served.closed refl

  pub none_rose : (props : Props) (words : W) (port conns : ℕ) (old new : YardState) (door door' : DoorState I O) (result : RunEnd) → EndsAs state to_come serves first second props words port conns old new door door' result
      → (result ≡ run_end.Served) ⊎ (result ≡ run_end.Closed) → new.faults ≡ old.faults
  none_rose props words port conns old new door door' result ends (inl is) = yard_stays props words port conns old new door door' serve_end.Served (subst (EndsAs state to_come serves first second props words port conns old new door door') is ends)
  none_rose props words port conns old new door door' result ends (inr is) = yard_stays props words port conns old new door door' serve_end.Closed (subst (EndsAs state to_come serves first second props words port conns old new door door') is ends)
