-- The store after a settling.
use Rattle.std.proofs.Common.{◌≡◌, ◌⊎◌, inl, inr, ⊎_elim, ℕ, suc, zero, true, false, List, [], ◌∷◌, ◌++◌, Option, Some, None, refl, sym, ap, ◌∙◌, subst}
use Rattle.std.specs.Prelude.{IfSome, is_some, ◌≢◌, slice_get}
use Rattle.std.proofs.lemmas.List.{append-nil}
use Rattle.hk_base.specs.Disk.{DiskState, LeavesOnly, Tells}
use Rattle.hk_base.specs.Faults.{Rose}
use Rattle.hk_base.proofs.Runs.{weaker}
use Rattle.edit_ops.specs.Records.{HasSpelling}
use Rattle.edit_ops.specs.declared.ops.EditOp.{EditOp}
use Rattle.edit_log.specs.Log.{EditLogState}
use Rattle.edit_log.specs.Log as edits
use Rattle.name_store.specs.Table.{Replayed, after_table, applies, kept_op, settled_ops, settled_table, settled_used}
use Rattle.name_store.specs.Replay.{Applies}
use Rattle.name_store.specs.Store.{IsLeftOf, IsLogOf, NothingMore, SettlesNames, IsNameStoreOf, StoreState, LeavesUnsettled, made_with}
use Rattle.name_store.proofs.Commits.{as_before, one_more}

some_of : {X : Type 0} (o : Option X) → (o ≡ None → ⊥) → is_some o ≡ true
some_of None none = absurd (none refl)
some_of (Some x) none = refl

-- whether the byte at an offset is 1
is_one : (o : Option ℕ) → (o ≡ Some 1) ⊎ (o ≡ Some 1 → ⊥)
is_one None = inr (λ h. cc h)
is_one (Some zero) = inr (λ h. cc h)
is_one (Some (suc zero)) = inl refl
is_one (Some (suc (suc n))) = inr (λ h. cc h)

module _ (old new : DiskState) (store store' : StoreState) where
  -- the clauses of a settling of the log that answers this

  abbrev Nothing : Type 0
  Nothing = store.log.pending ≡ None → (ops : List EditOp) → edits.IsEditLogOf old store.log ops → edits.IsEditLogOf new store'.log ops

  abbrev Kept : Option EditOp → Type 0
  Kept answer =
      Tells old → (ops : List EditOp) (op : EditOp) → edits.IsEditLogOf old store.log ops → store.log.pending ≡ Some op
      → slice_get (old.reads 1) store.log.log.end ≡ Some 1 → (answer ≡ Some op) × edits.IsEditLogOf new store'.log (ops ++ op ∷ [])

  abbrev Dropped : Option EditOp → Type 0
  Dropped answer =
      Tells old → (ops : List EditOp) → edits.IsEditLogOf old store.log ops → slice_get (old.reads 1) store.log.log.end ≢ Some 1 → (answer ≡ None) × edits.IsEditLogOf new store'.log ops

  -- nothing was pending, or it was dropped
  pub settles_none : (answer : Option EditOp) → answer ≡ None → store'.log.pending ≡ None → store'.table ≡ store.table → Nothing → Kept answer → Dropped answer → SettlesNames old new store None store'
  settles_none answer is none same nothing kept dropped = record {
    kept = false;
    answer_is = answer_is store.log.pending;
    none = none;
    table = same ∙ table_is store.log.pending;
    stands = λ tells used ops s.
        let log : edits.IsEditLogOf new store'.log ops = log_is tells ops s.log store.log.pending refl in
        let now : IsNameStoreOf new store' used ops = as_before old new store store' used ops s same (subst (λ (o : Option EditOp). Applies (made_with store used) o) (sym none) tt) log in
        subst (λ (l : List EditOp). IsNameStoreOf new store' (settled_used false store.log.pending used) l) (sym (ops_are ops store.log.pending))
        (subst (λ (u : List ℕ). IsNameStoreOf new store' u ops) (used_is used store.log.pending) now);
  }
    where
      answer_is : (o : Option EditOp) → None ≡ kept_op false o
      answer_is None = refl
      answer_is (Some op) = refl

      table_is : (o : Option EditOp) → store.table ≡ settled_table false o store.table
      table_is None = refl
      table_is (Some op) = refl

      used_is : (used : List ℕ) (o : Option EditOp) → used ≡ settled_used false o used
      used_is used None = refl
      used_is used (Some op) = refl

      ops_are : (ops : List EditOp) (o : Option EditOp) → ops ++ settled_ops false o ≡ ops
      ops_are ops None = append-nil ops
      ops_are ops (Some op) = append-nil ops

      log_is : Tells old → (ops : List EditOp) → edits.IsEditLogOf old store.log ops → (o : Option EditOp) → store.log.pending ≡ o → edits.IsEditLogOf new store'.log ops
      log_is tells ops s None waits = nothing waits ops s
      log_is tells ops s (Some op) waits =
          ⊎_elim
          (λ one. let held = (kept tells ops op s waits one).0 in absurd (cc (is, held)))
          (λ other. (dropped tells ops s other).1)
          (is_one (slice_get (old.reads 1) store.log.log.end))

  -- the pending operation was kept
  pub settles_kept : (answer : Option EditOp) (op : EditOp) → answer ≡ Some op → (answer ≡ None) ⊎ (answer ≡ store.log.pending) → store'.log.pending ≡ None → store'.table ≡ after_table store.table op → Kept answer → Dropped answer → SettlesNames old new store (Some op) store'
  settles_kept answer op is from none then_is kept dropped = record {
    kept = true;
    answer_is = ap (λ (o : Option EditOp). kept_op true o) (sym waits);
    none = none;
    table = then_is ∙ ap (λ (o : Option EditOp). settled_table true o store.table) (sym waits);
    stands = λ tells used ops s.
        let may : applies (made_with store used) op ≡ true = subst (λ (o : Option EditOp). Applies (made_with store used) o) waits s.waits in
        let log : edits.IsEditLogOf new store'.log (ops ++ op ∷ []) =
        ⊎_elim
        (λ one. (kept tells ops op s.log waits one).1)
        (λ other. let lost = (dropped tells ops s.log other).0 in absurd (cc (is, lost)))
        (is_one (slice_get (old.reads 1) store.log.log.end)) in
        subst (λ (o : Option EditOp). IsNameStoreOf new store' (settled_used true o used) (ops ++ settled_ops true o)) (sym waits) (one_more old new store store' used ops op s may none then_is log);
  }
    where
      waits : store.log.pending ≡ Some op
      waits = ⊎_elim (λ lost. absurd (cc (is, lost))) (λ same. sym same ∙ is) from

  -- the disk failed
  pub unsettled : (store.log.pending ≡ None → ⊥) → Rose old.faults new.faults → store'.log ≡ store.log → store'.table ≡ store.table
      → (Tells old → (ops : List EditOp) → edits.IsEditLogOf old store.log ops → edits.IsEditLogOf new store'.log ops) → LeavesUnsettled old new store store'
  unsettled some failed log_is same kept = record {
    waits = some_of store.log.pending some;
    failed = failed;
    same = λ i. record { log = log_is i; table = same i };
    stands = λ tells used ops s.
        as_before old new store store' used ops s same (subst (λ (l : EditLogState). Applies (made_with store used) l.pending) (sym log_is) s.waits) (kept tells ops s.log);
  }

-- a crash leaves the operations, with the pending one or without it
pub settle_moments : (old new : DiskState) (store : StoreState) → (store.log.pending ≡ None → (P : List ℕ → Type 0) → LeavesOnly 1 old new P)
    → (Tells old → (ops : List EditOp) (op : EditOp) → edits.IsEditLogOf old store.log ops → store.log.pending ≡ Some op → LeavesOnly 1 old new (edits.IsWithOrWithout ops op))
    → Tells old → (used : List ℕ) (ops : List EditOp) → IsNameStoreOf old store used ops → LeavesOnly 1 old new (IsLeftOf (made_with store used) store.log.pending NothingMore ops)
settle_moments old new store none any tells used ops s = go store.log.pending refl
  where
    made : Replayed
    made = made_with store used

    go : (o : Option EditOp) → store.log.pending ≡ o → LeavesOnly 1 old new (IsLeftOf made o NothingMore ops)
    go None waits = none waits (IsLeftOf made None NothingMore ops)
    go (Some op) waits =
        weaker
        (λ c with. record {
          kept = false;
          more = Some op;
          more_is = inl (refl, refl);
          fits = subst (λ (o : Option EditOp). Applies made o) waits s.waits;
          spelled = subst (λ (o : Option EditOp). IfSome o HasSpelling) waits s.log.waits;
          log = subst (λ (l : List EditOp). IsLogOf l (Some op) c) (sym (append-nil ops)) with;
        })
        (any tells ops op s.log waits)
