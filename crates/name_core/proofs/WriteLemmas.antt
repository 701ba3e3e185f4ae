-- The result of writing an operation while nothing is pending.
use Rattle.std.proofs.Common.{◌≡◌, [], Some, None, true, false, ap, sym, ◌∙◌, subst}
use Rattle.hk_base.specs.Disk.{DiskState}
use Rattle.hk_base.specs.Faults.{Rose}
use Rattle.edit_ops.specs.declared.ops.EditOp.{EditOp}
use Rattle.name_store.specs.Store.{CommitsOperation}
use Rattle.name_store.specs.Table.{NameTable, after_table}
use Rattle.name_core.specs.State.{NameService, NameState, RunningNames, names_of, next_id, service_of, walks_after}
use Rattle.name_core.specs.Calls.{done_with}
use Rattle.name_core.specs.Steps.{Growing, IsOperationDone, IsPendingNow, IsWanting, Keeps, Logging, MayWrite}
use Rattle.name_core.proofs.KeepLemmas.{keeps-done, keeps-pending, next-done}
use Rattle.name_core.proofs.LoggingLemmas.{committed, unchanged}

-- An operation that was committed, or was not: its call leaves F of the state, which is the same seen from outside and inside.
pub record Committing (F : RunningNames → NameState) (r s t : RunningNames) (o : EditOp) : Type 0 where
  pub same : r ≡ s
  pub may : MayWrite (names_of s) o (F s)
  pub next : t.next ≡ (F r).next
  pub asks : t.asks ≡ (F r).asks
  pub updating : t.updating ≡ (F r).updating
  pub batch : t.batch ≡ (F r).batch

-- the operation was written
pub write-done : (F : RunningNames → NameState) (old new : DiskState) (r s t : RunningNames) (o : EditOp) → Committing F r s t o
    → t.walks ≡ walks_after (F r).updating o (F r).walks → t.store.table ≡ after_table r.store.table o → t.store.log.pending ≡ None → CommitsOperation old new r.store o true t.store
    → IsOperationDone old new s (F s) o t × Keeps (service_of t)
write-done F old new r s t o c walks table pending k =
    (subst (λ (x : RunningNames). IsOperationDone old new x (F x) o t) c.same done, subst Keeps (sym is) (keeps-done (names_of r) (F r) o may.behind))
  where
    may : MayWrite (names_of r) o (F r)
    may = subst (λ (x : RunningNames). MayWrite (names_of x) o (F x)) (sym c.same) c.may

    table_is : t.store.table ≡ after_table (F r).table o
    table_is = table ∙ ap (λ (x : NameTable). after_table x o) (sym may.behind.same_table)

    is : service_of t ≡ record { names = done_with (Some o) (F r); pending = None }
    is = λ i. record { names = record { table = table_is i; next = c.next i; asks = c.asks i; walks = walks i; updating = c.updating i; batch = c.batch i }; pending = pending i }

    done : IsOperationDone old new r (F r) o t
    done = record { service = is; disk = committed old new r t (F r) o true may (ap (λ (x : NameService). next_id x.names) is ∙ next-done (names_of r) (F r) o may.behind) c.asks k }

-- the disk failed
pub write-failed : (F : RunningNames → NameState) (old new : DiskState) (r s t : RunningNames) (o : EditOp) → Committing F r s t o
    → t.walks ≡ (F r).walks → t.store.table ≡ r.store.table → t.store.log.pending ≡ Some o → Rose old.faults new.faults → CommitsOperation old new r.store o false t.store
    → IsPendingNow old new s (F s) o t × Keeps (service_of t)
write-failed F old new r s t o c walks table pending failed k =
    (subst (λ (x : RunningNames). IsPendingNow old new x (F x) o t) c.same waits, subst Keeps (sym is) (keeps-pending (names_of r) (F r) o may.behind))
  where
    may : MayWrite (names_of r) o (F r)
    may = subst (λ (x : RunningNames). MayWrite (names_of x) o (F x)) (sym c.same) c.may

    table_is : t.store.table ≡ (F r).table
    table_is = table ∙ sym may.behind.same_table

    is : service_of t ≡ record { names = F r; pending = Some o }
    is = λ i. record { names = record { table = table_is i; next = c.next i; asks = c.asks i; walks = walks i; updating = c.updating i; batch = c.batch i }; pending = pending i }

    waits : IsPendingNow old new r (F r) o t
    waits = record { failed = failed; service = is; disk = committed old new r t (F r) o false may (ap (λ (x : NameService). next_id x.names) is) c.asks k }

-- memory ran out
pub write-wanting : (old new : DiskState) (r s t : RunningNames) → r ≡ s → t ≡ r → new ≡ old → s.store.log.pending ≡ None → IsWanting old new s t
write-wanting old new r s t same is disk none =
    let t_is : t ≡ s = is ∙ same in
    record {
      service = ap service_of t_is ∙ (λ i. record { names = names_of s; pending = none i });
      disk =
          subst (λ (x : RunningNames). Logging old new s x (Growing s (λ own. ⊥)) []) (sym t_is)
          (subst (λ (d : DiskState). Logging old d s s (Growing s (λ own. ⊥)) []) (sym disk) (unchanged old s (Growing s (λ own. ⊥))));
    }
