-- A copy that is read over two disks is read in a history.
use Rattle.std.proofs.Common.{◌≡◌, ◌⊎◌, inl, inr, ⊎_elim, ℕ, List, [], ◌∷◌, ◌++◌, IsTrue, refl, ap, sym, ◌∙◌, subst, arith}
use Rattle.std.specs.Prelude.{Option, Result, Err, IsErrOf}
use Rattle.hk_base.specs.Disk.{DiskState, RunOn, Tells}
use Rattle.frame_log.specs.declared.fault.StartFault.{StartFault}
use Rattle.frame_log.specs.declared.fault.StartFault.TheVariants as start
use Rattle.inode_tree.specs.Rows.{Entry}
use Rattle.name_store.specs.Store.{OpensNames}
use Rattle.name_store.specs.Table.{next_opening}
use Rattle.name_core.specs.Service.{Starts}
use Rattle.name_core.specs.State.{NameService, RunningNames}
use Rattle.prop_text.specs.declared.props.Props.{Props}
use Rattle.body_stream.specs.Vaults.{VaultState}
use Rattle.world_run.specs.Acknowledged.{LeavesBoth, RunBoth}
use Rattle.world_run.specs.Drives.{Standing}
use Rattle.world_run.specs.Keeps.{BeginsFirstWorld, LeftByStarts}
use Rattle.world_run.specs.Ledger.{Past}
use Rattle.world_run.specs.Linked.{StartsSound}
use Rattle.hk_runs.specs.Headline.{NothingHappened}
use Rattle.hk_runs.specs.Steps.{HasLists}
use Rattle.hk_runs.proofs.HeadlineLemmas.{Ends, Unmoved, unmoved_keeps, unopened_keeps}
use Rattle.file_orders.specs.Events.{Leading}
use Rattle.file_orders.specs.declared.ends.FsEnd.{FsEnd}
use Rattle.backup_names.specs.Orders.{HoldsNamesystem, IsSettled, OrdersNames}
use Rattle.data_stream.specs.Runs.{AddsEvent, LeadsAt, world_before}
use Rattle.data_stream.proofs.CommandLemmas.{IsSeen, Shows, follow}
use Rattle.data_stream.proofs.RunLemmas.{Opened, WorksAs, adds_on, begins_as, worked_keeps, worked_so}
use Rattle.copy_reads.specs.Commands.{CannotOpenCopies, CopyOnDisks, CopyUnder, HoldsCopies, ReadCopyKept, ReadsCopyFile, ReadsOpened, Rest}
use Rattle.copy_reads.specs.Copies.{ReadsCopy}
use Rattle.copy_reads.proofs.FindLemmas.{err, same_err}
use Rattle.copy_reads.proofs.ReadLemmas.{copy_so, copy_written}

-- ---- the view of events

module _ {X Y : Type 0} (view : X → Y) (Holds : X → Type 0) (leads : Leading X) (others : Leading Y) (shows : Shows view Holds leads others) where
  pub copy_seen : (rows : List Entry) (user path : List ℕ) (from count : ℕ) (a b : X) (how : FsEnd) (old new : VaultState) (written now : Option (List ℕ)) → Holds a → ReadsCopy leads rows user path from count a how b old new written now
      → ReadsCopy others rows user path from count (view a) how (view b) old new written now
  copy_seen rows user path from count a b how old new written now holds r =
      let f = copy_so leads others (IsSeen view Holds) (follow view Holds leads others shows) rows user path from count a b (view a) how old new written now (record { is = refl; holds = holds }) r in
      subst (λ (y : Y). ReadsCopy others rows user path from count (view a) how y old new written now) (sym f.follows.is) f.did

-- ---- the second namesystem

-- after a start, the log on the disk is that of the namesystem, and nothing is pending
pub started_holds : (batch : ℕ) (old new : DiskState) (r : RunningNames) → Starts batch old new r → RunOn 1 old new → HoldsNamesystem new r
started_holds batch old new r s run tells = let log = s.log (subst IsTrue run.tells tells) in (log.0 ++ next_opening s.found ∷ [], log.3)

pub started_settled : (batch : ℕ) (old new : DiskState) (r : RunningNames) → Starts batch old new r → IsSettled r
started_settled batch old new r s = ap (λ (x : NameService). x.pending) s.opens

pub copies_held : (batch : ℕ) (old mid new : DiskState) (r after : RunningNames) (s : Starts batch old mid r) → RunOn 1 old mid → OrdersNames mid new r after → Tells old → HoldsCopies old new s.found after
copies_held batch old mid new r after s run orders tells =
    let log = s.log tells in record {
      ops = log.0;
      used = log.1;
      later = orders.logged;
      log = log.2;
      stands = orders.stands (subst IsTrue (sym run.tells) tells) (log.0 ++ next_opening s.found ∷ []) log.3;
    }

-- why a start failed
pub not_started : {T : Type 0} (old new : DiskState) (result : Result T StartFault) (why : StartFault) → IsErrOf result why → OpensNames old new (λ fault. IsErrOf result fault) → OpensNames old new (λ fault. why ≡ fault)
not_started {T} old new result why is o = record {
  why = record {
    damaged = λ at same. o.why.damaged at (so (start.Damaged at) same);
    spent = λ same. o.why.spent (so start.Spent same);
    cause = λ same. o.why.cause (so start.StoreFault same);
  };
  any_moment = o.any_moment;
  since_sync = λ tells. ⊎_elim (λ failed. inl (same_err {T = T} why start.StoreFault (sym is ∙ failed.0), failed.1)) (λ rest. inr rest) (o.since_sync tells);
  run = o.run;
}
  where
    so : (fault : StartFault) → why ≡ fault → result ≡ Err fault
    so fault same = is ∙ ap (λ (w : StartFault). err {T = T} w) same

-- one run of a file after another
pub runs_on : (old mid new : DiskState) → RunOn 1 old mid → RunOn 1 mid new → RunOn 1 old new
runs_on old mid new first second = record {
  tells = second.tells ∙ first.tells;
  faults = let a = first.faults in let b = second.faults in omega (arith, a, b);
  later = let a = first.later in let b = second.later in omega (arith, a, b);
  other_reads = λ tells. second.other_reads (subst IsTrue (sym first.tells) tells) ∙ first.other_reads tells;
  other_leaves = λ c. (λ l. (first.other_leaves c).0 ((second.other_leaves c).0 l), λ l. (second.other_leaves c).1 ((first.other_leaves c).1 l));
}

-- the number of files in a batch is that
pub rest_at : {X : Type 0} (leads : ℕ → Leading X) (same : Type 0) (n m : ℕ) (user path : List ℕ) (from count : ℕ) (backup backup' : DiskState) (a b : X) (copies copies' : VaultState) (written now : Option (List ℕ)) (status : ℕ) → n ≡ m
    → Rest leads same n user path from count backup backup' a b copies copies' written now status → Rest leads same m user path from count backup backup' a b copies copies' written now status
rest_at leads same n m user path from count backup backup' a b copies copies' written now status is rest =
    subst (λ (k : ℕ). Rest leads same k user path from count backup backup' a b copies copies' written now status) is rest

-- ---- once the logs of the first cluster were opened

module _ {D W : Type 0} (state : D → DiskState) (to_come : W → ℕ → ℕ) (props : Props) (old : DiskState) (v v' : Standing D W) (b : BeginsFirstWorld props.sizes old (state v.disk) v.world) (moments : Tells old → LeavesBoth old (state v.disk) (LeftByStarts old))
    (run : RunBoth old (state v.disk)) (has : HasLists v.world props.lines) (same : Type 0) (user path : List ℕ) (from count : ℕ) (backup backup' : DiskState) (copies copies' : VaultState) (written now : Option (List ℕ)) (status : ℕ) where
  abbrev o : Opened
  o = record { disk = state v.disk; services = v.world; words = to_come v.words }

  abbrev Does : Type 0
  Does = CopyOnDisks same props user path from count old (state v'.disk) backup backup' (to_come v.words) (to_come v'.words) copies copies' written now status

  none_ran : CannotOpenCopies same backup backup' v v' written now status → Does
  unfolding worked_so
  none_ran not = record {
    worked = worked_so state to_come props old v v' [] b moments run (subst (λ (x : Standing D W). WorksAs state to_come props.lines o x []) (sym not.nothing) (begins_as state to_come props.lines v));
    rest = inl (record { fault = not.fault; not_opened = not.not_opened; nothing = refl; untouched = not.untouched; reports = not.reports });
  }

  opened_ran : ReadsOpened (LeadsAt state to_come) props.sizes.batch user path from count backup backup' v v' copies copies' written now status → Does
  unfolding worked_so
  opened_ran r =
      let f = copy_so (LeadsAt state to_come r.moment) (AddsEvent r.moment) (WorksAs state to_come props.lines o) (adds_on state to_come props.lines o r.moment has) r.names.store.table.rows user path from count v v' [] r.how copies copies' written r.body
      (begins_as state to_come props.lines v) r.reads in
      let worked = worked_so state to_come props old v v' f.then b moments run f.follows in
      record {
        worked = worked;
        rest = inr (
          record {
            found = r.found;
            names = r.names;
            opens = r.opens;
            after = r.after;
            same = r.same;
            holds = r.holds;
            run = r.run;
            how = r.how;
            cause = r.cause;
            body = r.body;
            moment = r.moment;
            reads = f.did;
            closes = r.closes;
          },
          λ telling.
              copy_written props.lines (Tells old) (world_before worked) (to_come v.words) worked.before r.moment r.names.store.table.rows user path from count f.then worked.runs r.how copies copies' written r.body telling f.did,
        );
      }

  pub rest_ran : Rest (LeadsAt state to_come) same props.sizes.batch user path from count backup backup' v v' copies copies' written now status → Does
  rest_ran (inl not) = none_ran not
  rest_ran (inr r) = opened_ran r

-- ---- what is kept

module _ (past : Past) (old new : DiskState) (tells : Tells old) (sound : StartsSound old past) (ends : Ends old new) where
  pub copy_keeps : (same_disk same_backup same : Type 0) (user path : List ℕ) (from count : ℕ) (backup backup' : DiskState) (acls acls' : Option (List ℕ)) (words words' : ℕ → ℕ) (copies copies' : VaultState) (written now : Option (List ℕ)) (status : ℕ)
      → (same_disk → Unmoved old new) → ReadsCopyFile same_disk same_backup same user path from count old new backup backup' acls acls' words words' copies copies' written now status
      → NothingHappened (same_backup × same) past old new ⊎ ReadCopyKept past same user path from count old new backup backup' acls acls' words words' copies copies' written now status
  copy_keeps same_disk same_backup same user path from count backup backup' acls acls' words words' copies copies' written now status idle (inl bad) = inl (unmoved_keeps past old new tells sound bad.untouched.1 (idle bad.untouched.0))
  copy_keeps same_disk same_backup same user path from count backup backup' acls acls' words words' copies copies' written now status idle (inr with) = under with.range
    where
      under : CopyUnder with.props same_backup same user path from count old new backup backup' words words' copies copies' written now status
          → NothingHappened (same_backup × same) past old new ⊎ ReadCopyKept past same user path from count old new backup backup' acls acls' words words' copies copies' written now status
      under (inl not) = inl (unopened_keeps past old new tells sound not.untouched ends (not.not_opened.any_moment tells) not.not_opened.run.later)
      under (inr range) = inr (record { props = with.props; read = with.read; range = range; keeps = worked_keeps past with.props old new words words' tells sound ends range.worked })
