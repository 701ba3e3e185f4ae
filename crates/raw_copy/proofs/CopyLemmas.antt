-- What a copy did to both clusters.
use Rattle.std.proofs.Common.{◌≡◌, inl, inr, ℕ, ◌+◌, Bool, true, false, cond, List, [], ◌∷◌, ◌++◌, take, drop, Option, Some, None, refl, sym, ap, ◌∙◌, subst, IsTrue, arith}
use Rattle.std.specs.Prelude.{Result, Ok, Err, IfErr, IfOk, OnErr, OnOk, count_by, ⊤}
use Rattle.std.specs.Str.{bytes_eq}
use Rattle.hk_base.specs.Disk.{DiskState, RunOn, Tells}
use Rattle.hk_base.specs.Faults.{Rose}
use Rattle.hk_base.specs.declared.names.KeyName.{KeyName}
use Rattle.kms_calls.specs.declared.calls.KmsReply.{KmsReply}
use Rattle.frame_log.specs.declared.fault.StartFault.{StartFault}
use Rattle.hk_base.specs.declared.texts.Text.{Text}
use Rattle.body_stream.specs.Vaults.{VaultState}
use Rattle.file_orders.specs.Events.{Leading}
use Rattle.file_orders.proofs.FollowLemmas.{Follows}
use Rattle.file_orders.specs.declared.ends.FsEnd.{FsEnd}
use Rattle.inode_tree.specs.declared.rows.Row.{Row}
use Rattle.inode_tree.specs.Rows.{Entry, is_dir_at, is_marked, row_at}
use Rattle.name_calls.specs.Paths.{is_relative}
use Rattle.name_calls.specs.ReadPaths.{read_any_path}
use Rattle.name_calls.specs.declared.paths.NPath.{NPath}
use Rattle.name_calls.specs.declared.read_paths.ReadPath.{ReadPath}
use Rattle.name_core.specs.Calls.{superuser}
use Rattle.name_core.specs.Service.{Starts}
use Rattle.name_core.specs.State.{RunningNames}
use Rattle.name_core.proofs.LoggingLemmas.{rose_since}
use Rattle.name_store.specs.Table.{NameTable, next_opening}
use Rattle.place_texts.specs.Places.{is_whole_snapshot, place_below, raw, read_raw_place, whole_directory}
use Rattle.place_texts.proofs.PlaceLemmas.{raw-ruled}
use Rattle.source_looks.specs.Looks.{Looks}
use Rattle.kms_acls.specs.Agreement.{AreListsOf}
use Rattle.kms_acls.specs.Lists.{Lists}
use Rattle.backup_names.specs.Orders.{OrdersNames}
use Rattle.backup_names.proofs.OrderLemmas.{no_orders, orders_then}
use Rattle.copy_target.specs.Targets.{BothRefuse, DiskFails, NamesRefuse, PartsRefuse, RepliedTo, VaultsFail, WorksOnTarget, state_of}
use Rattle.copy_target.specs.declared.both.BothClusters.{BothClusters}
use Rattle.row_copies.specs.Clusters.{EndsFor}
use Rattle.row_copies.specs.Copies.{CopiesAll, CopyRefused, FailsLast, ChainOf, WholeEnds, StopsEarly, Done, Then, is_file}
use Rattle.row_copies.specs.Walks.{is_directory}
use Rattle.row_copies.specs.declared.walk.Copied.{Copied}
use Rattle.row_copies.proofs.CauseLemmas.{ends-so}
use Rattle.world_desk.specs.Worlds.{IsDeskReady}
use Rattle.world_events.specs.Events.{LeadsAt, standing_of, HoldsSame as HoldsServices}
use Rattle.world_run.specs.Acknowledged.{also}
use Rattle.world_run.specs.Drives.{Standing}
use Rattle.world_events.specs.declared.events.WorldEvents.{WorldEvents}
use Rattle.world_run.specs.World.{WorldState, world_of}
use Rattle.world_rows.specs.Rows.{CanRead, EventRefused, IsPlace, ReadsOn, ReadsOnce, place_rows, table_of}
use Rattle.world_rows.specs.declared.rows.WorldRows.{WorldRows}
use Rattle.world_rows.proofs.FaultLemmas.{look_ends}
use Rattle.world_rows.proofs.ReadLemmas.{look_once, looks_on, once_same, quiet, row_found}
use Rattle.raw_copy.specs.declared.backup.CopyFault.{CopyFault}
use Rattle.raw_copy.specs.declared.backup.CopyFault.TheVariants.{End, Start}
use Rattle.raw_copy.specs.Refusals.{CheckRefused, IntoRefused, RefusedFor}
use Rattle.raw_copy.specs.Copies.{AreTexts, CopiesFrom, CopiesOpened, CopiesPlace, CopiesZone, Copying, EndsByCause, IsCopyEnd, OnlyRead, ReadsOnceIn, StopsPlace, StopsZone, VaultsFailed, copied_or, copying, state_at}

pub steps_join : {X : Type 0} (follows : X → X → Type 0) (a b c : X) → ChainOf follows a b → ChainOf follows b c → ChainOf follows a c
steps_join follows a b c s Done = s
steps_join follows a b c s (Then m n t f) = Then m n (steps_join follows a b m s t) f

module _ {S E V U : Type 0} (follows : S → S → Type 0) (disk : E → DiskState) (vault : V → VaultState) (copies : U → VaultState) where
  two_works : (a b c : BothClusters S E V U) → WorksOnTarget follows disk vault copies a b → WorksOnTarget follows disk vault copies b c → WorksOnTarget follows disk vault copies a c
  two_works a b c x y = record {
    holds = record {
      source = y.holds.source ∙ x.holds.source;
      names = y.holds.names ∙ x.holds.names;
      backup = y.holds.backup ∙ x.holds.backup;
      vault = y.holds.vault ∙ x.holds.vault;
      copies = y.holds.copies ∙ x.holds.copies;
      user = y.holds.user ∙ x.holds.user;
    };
    source = steps_join follows a.source.now b.source.now c.source.now x.source y.source;
    orders = orders_then (disk a.backup.now) (disk b.backup.now) (disk c.backup.now) a.names.now b.names.now c.names.now x.orders y.orders;
    vault_later = omega (arith, x.vault_later, y.vault_later);
    copies_later = omega (arith, x.copies_later, y.copies_later);
  }

  -- steps that work on two clusters work on them
  pub worked : (a b : BothClusters S E V U) → ChainOf (WorksOnTarget follows disk vault copies) a b → WorksOnTarget follows disk vault copies a b
  worked a b Done = record { holds = record { source = refl; names = refl; backup = refl; vault = refl; copies = refl; user = refl }; source = Done; orders = no_orders (disk a.backup.now) a.names.now; vault_later = omega arith; copies_later = omega arith }
  worked a b (Then m n t f) = two_works a m n (worked a m t) f

  -- why they ended

  module _ (rows : S → List Entry) (a b : BothClusters S E V U) where
    disk_cause : FailsLast (state_of rows vault copies) (WorksOnTarget follows disk vault copies) (DiskFails disk) a b → Rose (disk a.backup.now).faults (disk b.backup.now).faults
    disk_cause f =
        let w = worked a f.mid f.before in
        let later = w.orders.run.faults in
        rose_since (disk a.backup.now).faults (disk f.mid.backup.now).faults (disk b.backup.now).faults later f.last

    vault_cause : FailsLast (state_of rows vault copies) (WorksOnTarget follows disk vault copies) (VaultsFail vault copies) a b → VaultsFailed (vault a.vault.now) (vault b.vault.now) (copies a.copies.now) (copies b.copies.now)
    vault_cause f = go f.last
      where
        w : WorksOnTarget follows disk vault copies a f.mid
        w = worked a f.mid f.before

        go : VaultsFail vault copies f.mid b → VaultsFailed (vault a.vault.now) (vault b.vault.now) (copies a.copies.now) (copies b.copies.now)
        go (inl rose) = inl (rose_since (vault a.vault.now).faults (vault f.mid.vault.now).faults (vault b.vault.now).faults w.vault_later rose)
        go (inr (inl rose)) = inr (inl (rose_since (copies a.copies.now).faults (copies f.mid.copies.now).faults (copies b.copies.now).faults w.copies_later rose))
        go (inr (inr had)) =
            let kept = f.kept in
            inr (inr (λ tells tells'.
            let body = had (subst (λ (t : Bool). IsTrue t) (sym kept.source.bodies.tells) tells) (subst (λ (t : Bool). IsTrue t) (sym kept.tells) tells') in
            (body.0, λ none. body.2 (kept.bodies tells' body.0 body.1 ∙ none))))

    -- the steps before the last one are those of the source and of the namesystem
    module _ (refuses : S → S → FsEnd → Type 0) (replies : S → KeyName → KmsReply → S → Type 0) (to : List (List ℕ)) where
      refused_cause : (why : FsEnd) → CopyRefused (state_of rows vault copies) (WorksOnTarget follows disk vault copies) (BothRefuse refuses replies disk) to a b why
          → IntoRefused follows refuses replies disk a.user.now to (state_of rows vault copies a) a.source.now b.source.now a.backup.now b.backup.now a.names.now b.names.now why
      refused_cause why (inr rule) = inl rule
      refused_cause why (inl f) = inr (go f.last)
        where
          w : WorksOnTarget follows disk vault copies a f.mid
          w = worked a f.mid f.before

          go : PartsRefuse refuses replies disk f.mid.user.now f.mid.source.now b.source.now f.mid.backup.now b.backup.now f.mid.names.now b.names.now why
              → (mid : S) × ChainOf follows a.source.now mid × PartsRefuse refuses replies disk a.user.now mid b.source.now a.backup.now b.backup.now a.names.now b.names.now why
          go (inl r) = (f.mid.source.now, w.source, inl r)
          go (inr t) = (
            f.mid.source.now,
            w.source,
            inr (record {
              mid = t.mid;
              names = t.names;
              orders = orders_then (disk a.backup.now) (disk f.mid.backup.now) (disk t.mid) a.names.now f.mid.names.now t.names w.orders t.orders;
              refused = subst (λ (user : Text). NamesRefuse user (RepliedTo replies f.mid.source.now b.source.now) (disk t.mid) (disk b.backup.now) t.names b.names.now why) w.holds.user t.refused;
            }),
          )

      both_end : (why : FsEnd) → WholeEnds (state_of rows vault copies) (WorksOnTarget follows disk vault copies) (DiskFails disk) (VaultsFail vault copies) (BothRefuse refuses replies disk) to a b why
          → EndsFor (Rose (disk a.backup.now).faults (disk b.backup.now).faults) (VaultsFailed (vault a.vault.now) (vault b.vault.now) (copies a.copies.now) (copies b.copies.now))
          (IntoRefused follows refuses replies disk a.user.now to (state_of rows vault copies a) a.source.now b.source.now a.backup.now b.backup.now a.names.now b.names.now) why
      both_end why e =
          ends-so (FailsLast (state_of rows vault copies) (WorksOnTarget follows disk vault copies) (DiskFails disk) a b) (FailsLast (state_of rows vault copies) (WorksOnTarget follows disk vault copies) (VaultsFail vault copies) a b)
          (Rose (disk a.backup.now).faults (disk b.backup.now).faults) (VaultsFailed (vault a.vault.now) (vault b.vault.now) (copies a.copies.now) (copies b.copies.now))
          (CopyRefused (state_of rows vault copies) (WorksOnTarget follows disk vault copies) (BothRefuse refuses replies disk) to a b)
          (IntoRefused follows refuses replies disk a.user.now to (state_of rows vault copies a) a.source.now b.source.now a.backup.now b.backup.now a.names.now b.names.now) why disk_cause vault_cause (refused_cause why) e

      pub both_ends : (result : Result Copied FsEnd) → IfErr result (WholeEnds (state_of rows vault copies) (WorksOnTarget follows disk vault copies) (DiskFails disk) (VaultsFail vault copies) (BothRefuse refuses replies disk) to a b)
          → IfErr result (EndsByCause (disk a.backup.now) (disk b.backup.now) (vault a.vault.now) (vault b.vault.now) (copies a.copies.now) (copies b.copies.now))
      both_ends (Ok counts) e = e
      both_ends (Err why) e = ends-so (Rose (disk a.backup.now).faults (disk b.backup.now).faults) (VaultsFailed (vault a.vault.now) (vault b.vault.now) (copies a.copies.now) (copies b.copies.now)) (Rose (disk a.backup.now).faults (disk b.backup.now).faults) (VaultsFailed (vault a.vault.now) (vault b.vault.now) (copies a.copies.now) (copies b.copies.now)) (IntoRefused follows refuses replies disk a.user.now to (state_of rows vault copies a) a.source.now b.source.now a.backup.now b.backup.now a.names.now b.names.now) (λ (w : FsEnd). ⊤) why (λ h. h) (λ h. h) (λ h. tt) (both_end why e)

      pub both_refused : (result : Result Copied FsEnd) → IfErr result (WholeEnds (state_of rows vault copies) (WorksOnTarget follows disk vault copies) (DiskFails disk) (VaultsFail vault copies) (BothRefuse refuses replies disk) to a b)
          → IfErr result (RefusedFor (IntoRefused follows refuses replies disk a.user.now to (state_of rows vault copies a) a.source.now b.source.now a.backup.now b.backup.now a.names.now b.names.now))
      both_refused (Ok counts) e = e
      both_refused (Err why) e = ends-so (Rose (disk a.backup.now).faults (disk b.backup.now).faults) (VaultsFailed (vault a.vault.now) (vault b.vault.now) (copies a.copies.now) (copies b.copies.now)) ⊤ ⊤ (IntoRefused follows refuses replies disk a.user.now to (state_of rows vault copies a) a.source.now b.source.now a.backup.now b.backup.now a.names.now b.names.now) (IntoRefused follows refuses replies disk a.user.now to (state_of rows vault copies a) a.source.now b.source.now a.backup.now b.backup.now a.names.now b.names.now) why (λ h. tt) (λ h. tt) (λ h. h) (both_end why e)

none_before : (k : ℕ) → 0 + k ≡ k
none_before k = omega arith

module _ {D W : Type 0} (state : D → DiskState) (to_come : W → ℕ → ℕ) (now : ℕ) (a b : Standing D W) (ready : IsDeskReady state a) where
  -- no word was drawn
  once_rest : ReadsOnce state to_come now a b → (k : ℕ) → to_come b.words k ≡ to_come a.words k
  once_rest (inl same) k = ap (λ (v : Standing D W). to_come v.words k) same
  once_rest (inr (e, answer, only, leads)) k =
      let s = leads ready.0 ready.1.lists in
      let q = quiet ready.0 (world_of a.world) (to_come a.words) now e (Rose (state a.disk).faults (state b.disk).faults) (Tells (state a.disk)) answer s.drawn s.logged (world_of b.world) s.step.step only in
      s.rest k ∙ ap (λ (n : ℕ). to_come a.words (n + k)) q.0 ∙ ap (to_come a.words) (none_before k)

  -- and the services are ready for more events
  once_ready : ReadsOnce state to_come now a b → IsDeskReady state b
  once_ready (inl same) = subst (IsDeskReady state) (sym same) ready
  once_ready (inr (e, answer, only, leads)) =
      let s = leads ready.0 ready.1.lists in (
        ready.0,
        record {
          lists = subst (λ (acls : Lists). AreListsOf acls ready.0) (sym s.lists) ready.1.lists;
          stands = λ telling.
              let before : Tells (state a.disk) = subst (λ (t : Bool). IsTrue t) s.run.tells telling in
              let d = ready.1.stands before in
              (also d.0 s.logged, s.stands before d.0 d.1);
        },
      )

-- the rows of a place were read, and nothing else was done
pub record ReadAll {D W : Type 0} (state : D → DiskState) (to_come : W → ℕ → ℕ) (a b : WorldRows D W) : Type 0 where
  pub holds : HoldsServices a.events b.events
  pub place : b.place.now ≡ a.place.now
  pub read : OnlyRead state to_come a.events.now (standing_of a.events) (standing_of b.events)

module _ {D W : Type 0} (state : D → DiskState) (to_come : W → ℕ → ℕ) where
  read_more : (a b c : WorldRows D W) → ReadAll state to_come a b → ReadsOn state to_come b c → ReadAll state to_come a c
  read_more a b c x y =
      let h = x.holds in
      let g = y.holds in
      let once : ReadsOnce state to_come a.events.now (standing_of b.events) (standing_of c.events) = subst (λ (n : ℕ). ReadsOnce state to_come n (standing_of b.events) (standing_of c.events)) h.1.1.1 y.reads in
      record {
        holds = (g.0 ∙ h.0, (g.1.0 ∙ h.1.0, (g.1.1.0 ∙ h.1.1.0, g.1.1.1 ∙ h.1.1.1)));
        place = y.place ∙ x.place;
        read = record {
          events = Then (standing_of b.events) (standing_of c.events) x.read.events once;
          same = once_same state to_come a.events.now (standing_of b.events) (standing_of c.events) x.read.ready once ∙ x.read.same;
          rest = λ k. once_rest state to_come a.events.now (standing_of b.events) (standing_of c.events) x.read.ready once k ∙ x.read.rest k;
          ready = once_ready state to_come a.events.now (standing_of b.events) (standing_of c.events) x.read.ready once;
        };
      }

  pub read_all : (a b : WorldRows D W) → CanRead state a → ChainOf (ReadsOn state to_come) a b → ReadAll state to_come a b
  read_all a b can Done = record { holds = (refl, (refl, (refl, refl))); place = refl; read = record { events = Done; same = refl; rest = λ k. refl; ready = can.events } }
  read_all a b can (Then m n t f) = read_more a m n (read_all a m can t) f

module _ {D W : Type 0} (state : D → DiskState) (to_come : W → ℕ → ℕ) (now : ℕ) where
  pub read_once : (a b : Standing D W) → IsDeskReady state a → ReadsOnce state to_come now a b → OnlyRead state to_come now a b
  read_once a b ready once = record {
    events = Then a b Done once;
    same = once_same state to_come now a b ready once;
    rest = once_rest state to_come now a b ready once;
    ready = once_ready state to_come now a b ready once;
  }

  pub read_nothing : (a : Standing D W) → IsDeskReady state a → OnlyRead state to_come now a a
  read_nothing a ready = record { events = Done; same = refl; rest = λ k. refl; ready = ready }

  pub read_then : (a b c : Standing D W) → OnlyRead state to_come now a b → OnlyRead state to_come now b c → OnlyRead state to_come now a c
  read_then a b c x y = record {
    events = steps_join (ReadsOnce state to_come now) a b c x.events y.events;
    same = y.same ∙ x.same;
    rest = λ k. y.rest k ∙ x.rest k;
    ready = y.ready;
  }

  pub table_kept : (a b : Standing D W) → OnlyRead state to_come now a b → table_of b.world ≡ table_of a.world
  table_kept a b x = ap (λ (w : WorldState). w.names.names.table) x.same

-- ---- a place

pub directory_if : (result : Result (Unit {0}) FsEnd) (found : Option Row) (row : Row) → found ≡ Some row → OnOk result (is_dir_at (Some row) ≡ true) → OnOk result (is_dir_at found ≡ true)
directory_if (Ok done) found row e is = ap is_dir_at e ∙ is
directory_if (Err why) found row e is = tt

module _ {D W : Type 0} (state : D → DiskState) (to_come : W → ℕ → ℕ) (a b : WorldEvents D W) (ready : IsDeskReady state (standing_of a)) (user : Text) (is_user : user ≡ superuser) (place : ReadPath) (root : NPath) (result : Result Row FsEnd)
    (looks : Looks (λ (old : WorldEvents D W) e answer new. HoldsServices old new × LeadsAt state to_come old.now (standing_of old) e answer (standing_of new)) user (place_below place root) a result b) where
  pub look_reads : HoldsServices a b × OnlyRead state to_come a.now (standing_of a) (standing_of b)
  look_reads =
      let w = looks_on state to_come a b user (place_below place root) result looks in
      (w.0, read_once state to_come a.now (standing_of a) (standing_of b) ready (look_once state to_come a.now (standing_of a) (standing_of b) user is_user (place_below place root) result w.1))

  pub looked_ends : (rows : List Entry) → IfErr result (EndsFor ⊥ ⊥ (CheckRefused (LeadsAt state to_come a.now) rows (standing_of a) (standing_of b)))
  looked_ends rows =
      let w = looks_on state to_come a b user (place_below place root) result looks in
      go result (look_ends state to_come a.now (standing_of a) (standing_of b) ready user is_user (place_below place root) result w.1)
    where
      go : (r : Result Row FsEnd) → IfErr r (EndsFor ⊥ ⊥ (EventRefused state to_come a.now (standing_of a) (standing_of b))) → IfErr r (EndsFor ⊥ ⊥ (CheckRefused (LeadsAt state to_come a.now) rows (standing_of a) (standing_of b)))
      go (Ok row) e = tt
      go (Err why) e = ends-so ⊥ ⊥ ⊥ ⊥ (EventRefused state to_come a.now (standing_of a) (standing_of b)) (CheckRefused (LeadsAt state to_come a.now) rows (standing_of a) (standing_of b)) why (λ h. h) (λ h. h) (λ h. inr h) e

  pub root_found : IsPlace place → root ≡ [] → (row : Row) → result ≡ Ok row → row_at (place_rows (table_of a.world.now) place) [] ≡ Some row
  root_found is_place e row is =
      let w = looks_on state to_come a b user (place_below place root) result looks in
      let short : is_relative root ≡ true = ap is_relative e in
      let found = row_found state to_come a.now (standing_of a) (standing_of b) ready user place root is_place short result w.1 in
      ap (row_at (place_rows (table_of a.world.now) place)) (sym e) ∙ subst (λ (r : Result Row FsEnd). IfOk r (λ (row : Row). row_at (place_rows (table_of a.world.now) place) root ≡ Some row)) is found

-- all that a copy of a place ensures, in one
pub place_copied : (result : Result Copied FsEnd) (place : ReadPath) (path : NPath) (old new : Copying) → OnOk result (CopiesAll path (state_at place old) (state_at place new))
    → IfOk result (λ (counts : Copied). counts.files ≡ count_by is_file (place_rows old.table place)) → IfOk result (λ (counts : Copied). counts.directories ≡ count_by is_directory (place_rows old.table place))
    → OnOk result ((row : Row) × (row_at (place_rows old.table place) [] ≡ Some row) × (is_marked row ≡ true)) → IfOk result (λ (counts : Copied). CopiesPlace place path counts old new)
place_copied (Ok counts) place path old new all files directories zone = record { all = all; files = files; directories = directories; zone = zone }
place_copied (Err why) place path old new all files directories zone = tt

-- from the table before the place was looked at
pub from_kept : (result : Result Copied FsEnd) (place : ReadPath) (path : NPath) (t mid : NameTable) (vault : VaultState) (names : RunningNames) (copies : VaultState) (new : Copying) → mid ≡ t
    → IfOk result (λ (counts : Copied). CopiesPlace place path counts (copying mid vault names copies) new) → IfOk result (λ (counts : Copied). CopiesPlace place path counts (copying t vault names copies) new)
from_kept result place path t mid vault names copies new same copied = subst (λ (u : NameTable). IfOk result (λ (counts : Copied). CopiesPlace place path counts (copying u vault names copies) new)) same copied

pub stopped_kept : (result : Result Copied FsEnd) (place : ReadPath) (path : NPath) (t mid : NameTable) (vault : VaultState) (names : RunningNames) (copies : VaultState) (new : Copying) → mid ≡ t
    → OnErr result (StopsEarly path (state_at place (copying mid vault names copies)) (state_at place new)) → OnErr result (StopsPlace place path (copying t vault names copies) new)
stopped_kept (Ok counts) place path t mid vault names copies new same stopped = tt
stopped_kept (Err why) place path t mid vault names copies new same stopped = inl (subst (λ (u : NameTable). StopsEarly path (state_at place (copying u vault names copies)) (state_at place new)) same stopped)

-- ---- the texts

pub is_place : (bytes : List ℕ) (place : ReadPath) → read_raw_place bytes ≡ Some place → IsPlace place
is_place bytes place e = record { ruled = raw-ruled bytes place e; whole = go (bytes_eq (take 14 bytes) raw) e }
  where
    whole : (o : Option ReadPath) → whole_directory o ≡ Some place → is_whole_snapshot place.snapshot ≡ true
    whole None f = absurd cc
    whole (Some it) f = inside (is_whole_snapshot it.snapshot) refl f
      where
        inside : (t : Bool) → is_whole_snapshot it.snapshot ≡ t → cond t (Some it) None ≡ Some place → is_whole_snapshot place.snapshot ≡ true
        inside true g h = let same : it ≡ place = cc in ap (λ (p : ReadPath). is_whole_snapshot p.snapshot) (sym same) ∙ g
        inside false g h = absurd cc

    go : (t : Bool) → cond t (whole_directory (read_any_path (drop 14 bytes))) None ≡ Some place → is_whole_snapshot place.snapshot ≡ true
    go true f = whole (read_any_path (drop 14 bytes)) f
    go false f = absurd cc

module _ (from to : List ℕ) (place : ReadPath) (path : NPath) (texts : AreTexts from to place path) (old new : Copying) where
  pub zone_copied : (result : Result Copied FsEnd) → IfOk result (λ (counts : Copied). CopiesPlace place path counts old new) → IfOk result (λ (counts : Copied). CopiesZone from to counts old new)
  zone_copied (Ok counts) copies = record { place = place; path = path; texts = texts; copies = copies }
  zone_copied (Err why) copies = tt

  pub zone_stopped : (result : Result Copied FsEnd) → OnErr result (StopsPlace place path old new) → OnErr result (StopsZone from to old new)
  zone_stopped (Ok counts) stops = tt
  zone_stopped (Err why) (inl part) = inl (record { place = place; path = path; texts = texts; part = part })
  zone_stopped (Err why) (inr nothing) = inr nothing

-- ---- what follows the events

-- Whatever follows the events of the services follows these, and only events that read happened there too.
pub reads_followed : {D W Y : Type 0} (state : D → DiskState) (to_come : W → ℕ → ℕ) (now : ℕ) (others : Leading Y) (R : Standing D W → Y → Type 0) → Follows (LeadsAt state to_come now) others R
    → (a b : Standing D W) → ChainOf (ReadsOnce state to_come now) a b → (y : Y) → R a y → (z : Y) × ChainOf (ReadsOnceIn others) y z × R b z
reads_followed state to_come now others R follow a b Done y r = (y, Done, r)
reads_followed {D} {W} state to_come now others R follow a b (Then m n t (inl same)) y r =
    let w = reads_followed state to_come now others R follow a m t y r in (w.0, w.1, subst (λ (v : Standing D W). R v w.0) (sym same) w.2)
reads_followed state to_come now others R follow a b (Then m n t (inr (e, answer, only, leads))) y r =
    let w = reads_followed state to_come now others R follow a m t y r in
    let f = follow m n w.0 e answer w.2 leads in
    (f.0, Then w.0 f.0 w.1 (inr (e, answer, only, f.1.0)), f.1.1)

-- ---- over the other disk

copied_over : (from to : List ℕ) (old new : Copying) (result : Result Copied FsEnd) → IfOk result (λ (counts : Copied). CopiesZone from to counts old new) → IfOk (copied_or result) (λ (counts : Copied). CopiesZone from to counts old new)
copied_over from to old new (Ok counts) copies = copies
copied_over from to old new (Err why) copies = tt

stopped_over : (from to : List ℕ) (old new : Copying) (result : Result Copied FsEnd) → OnErr result (StopsZone from to old new) → OnErr (copied_or result) (StopsZone from to old new)
stopped_over from to old new (Ok counts) stops = tt
stopped_over from to old new (Err why) stops = stops

pub from_ended : (from to : List ℕ) (ended : Result Copied FsEnd) (result : Result Copied CopyFault) → result ≡ copied_or ended → (t t' : NameTable) (vault vault' copies copies' : VaultState) (disk disk' : DiskState) (names left : RunningNames)
    → OrdersNames disk disk' names left → IfOk ended (λ (counts : Copied). CopiesZone from to counts (copying t vault names copies) (copying t' vault' left copies')) → OnErr ended (StopsZone from to (copying t vault names copies) (copying t' vault' left copies'))
    → CopiesFrom from to result t t' vault vault' copies copies' disk disk' names
from_ended from to ended result is t t' vault vault' copies copies' disk disk' names left orders all part =
    subst (λ (r : Result Copied CopyFault). CopiesFrom from to r t t' vault vault' copies copies' disk disk' names) (sym is)
    (record {
      left = left;
      orders = orders;
      copied = copied_over from to (copying t vault names copies) (copying t' vault' left copies') ended all;
      stopped = stopped_over from to (copying t vault names copies) (copying t' vault' left copies') ended part;
    })

-- the fault of a copy is its end
pub over_ends : (cause : FsEnd → Type 0) (ended : Result Copied FsEnd) (result : Result Copied CopyFault) (why : FsEnd) → result ≡ copied_or ended → IfErr ended cause → result ≡ Err (End why) → cause why
over_ends cause (Ok counts) result why is e fault = let bad = sym is ∙ fault in absurd cc
over_ends cause (Err own) result why is e fault =
    let both = sym is ∙ fault in
    let same : own ≡ why = cc in
    subst cause same e

pub own_ends : (store vault : Type 0) (refused : FsEnd → Type 0) (why : FsEnd) → EndsFor store vault refused why → IsCopyEnd why
own_ends store vault refused why e = ends-so store vault ⊤ ⊤ refused (λ (w : FsEnd). ⊤) why (λ h. tt) (λ h. tt) (λ h. tt) e

-- a copy that was begun doesn't end as a start that failed
pub never_started : (ended : Result Copied FsEnd) (result : Result Copied CopyFault) (fault : StartFault) → result ≡ copied_or ended → result ≡ Err (Start fault) → ⊥
never_started ended result fault is same = go ended (sym is ∙ same)
  where
    go : (e : Result Copied FsEnd) → copied_or e ≡ Err (Start fault) → ⊥
    go (Ok counts) h = cc
    go (Err why) h = cc

abbrev start_end : StartFault → Result Copied CopyFault
start_end fault = Err (Start fault)

pub same_start : (fault own : StartFault) → start_end fault ≡ start_end own → fault ≡ own
same_start fault own h = cc

pub opened_copies : (batch : ℕ) (from to : List ℕ) (result : Result Copied CopyFault) (t t' : NameTable) (vault vault' copies copies' : VaultState) (disk mid disk' : DiskState) (names : RunningNames)
    → Starts batch disk mid names → RunOn 1 disk mid → CopiesFrom from to result t t' vault vault' copies copies' mid disk' names → ((fault : StartFault) → result ≡ Err (Start fault) → ⊥) → CopiesOpened batch from to result t t' vault vault' copies copies' disk disk'
opened_copies batch from to result t t' vault vault' copies copies' disk mid disk' names s run work begun =
    let o = work.orders in
    let later = o.run in
    record {
      found = s.found;
      names = names;
      left = work.left;
      opens = s.opens;
      logged = o.logged;
      log = λ telling.
          let l = s.log telling in
          (l.0, l.1, l.2, o.stands (subst (λ (b : Bool). IsTrue b) (sym run.tells) telling) (l.0 ++ (next_opening s.found ∷ [])) l.3);
      tells = later.tells ∙ run.tells;
      faults = let more = run.faults in let most = later.faults in omega (arith, more, most);
      copied = work.copied;
      stopped = work.stopped;
      begun = begun;
    }
