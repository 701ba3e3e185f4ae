-- The store after a commit and after a settling.
use Rattle.std.proofs.Common.{◌≡◌, ℕ, true, false, List, [], ◌∷◌, ◌++◌, Option, Some, None, Result, Ok, Err, refl, sym, ap, ◌∙◌, subst}
use Rattle.std.specs.Prelude.{IfSome, IsErr, MatchResult}
use Rattle.std.specs.List.{AllByRecursion}
use Rattle.std.proofs.lemmas.List.{append-nil}
use Rattle.std.proofs.lemmas.Bool.{and_from}
use Rattle.hk_base.specs.Disk.{DiskState, LeavesOnly, RunOn, Tells}
use Rattle.hk_base.proofs.Runs.{weaker}
use Rattle.frame_log.specs.declared.fault.StoreRefusal.{StoreRefusal}
use Rattle.frame_log.specs.declared.fault.StoreRefusal.TheVariants as refused
use Rattle.edit_ops.specs.Records.{HasSpelling}
use Rattle.edit_ops.specs.declared.ops.EditOp.{EditOp}
use Rattle.edit_log.specs.Log.{EditLogState}
use Rattle.edit_log.specs.Log as edits
use Rattle.name_store.specs.Table.{NameTable, after_table, allows, applies, is_fresh, nothing_logged, settled_ops, settled_used, uses}
use Rattle.name_store.specs.Replay.{Applies}
use Rattle.name_store.specs.Store.{CommitsOperation, IsWritten, IsNameStoreOf, StoreState, made_with}
use Rattle.name_store.proofs.Replays.{replay_more}

pub each_last : {X : Type 0} (P : X → Type 0) (xs : List X) (x : X) → AllByRecursion P (xs ++ x ∷ []) → P x
each_last P [] x each = each.0
each_last P (y ∷ ys) x each = each_last P ys x each.1

module _ (old new : DiskState) (store store' : StoreState) (used : List ℕ) (ops : List EditOp) where
  -- one more operation
  pub one_more : (op : EditOp) → IsNameStoreOf old store used ops → applies (made_with store used) op ≡ true → store'.log.pending ≡ None → store'.table ≡ after_table store.table op
      → edits.IsEditLogOf new store'.log (ops ++ op ∷ []) → IsNameStoreOf new store' (uses op ++ used) (ops ++ op ∷ [])
  one_more op s may none then_is stands = record {
    log = stands;
    makes =
        replay_more nothing_logged (made_with store used) ops op s.makes may
        ∙ ap (λ (t : NameTable). Some (record { table = t; used = uses op ++ used })) (sym then_is);
    waits = subst (λ (o : Option EditOp). Applies (made_with store' (uses op ++ used)) o) (sym none) tt;
  }

  -- no more operation
  pub as_before : IsNameStoreOf old store used ops → store'.table ≡ store.table → Applies (made_with store used) store'.log.pending → edits.IsEditLogOf new store'.log ops → IsNameStoreOf new store' used ops
  as_before s same waits stands = record {
    log = stands;
    makes = s.makes ∙ ap (λ (t : NameTable). Some (record { table = t; used = used })) (sym same);
    waits = subst (λ (t : NameTable). Applies (record { table = t; used = used }) store'.log.pending) (sym same) waits;
  }

module _ (old new : DiskState) (store store' : StoreState) (op : EditOp) (run : RunOn 1 old new) where
  abbrev Moments : Type 0
  Moments = Tells old → (ops : List EditOp) → edits.IsEditLogOf old store.log ops → LeavesOnly 1 old new (edits.IsWithOrWithout ops op)

  abbrev Added : Type 0
  Added = Tells old → (ops : List EditOp) → edits.IsEditLogOf old store.log ops → edits.IsEditLogOf new store'.log (ops ++ op ∷ [])

  abbrev Kept : Type 0
  Kept = Tells old → (ops : List EditOp) → edits.IsEditLogOf old store.log ops → edits.IsEditLogOf new store'.log ops

  unwritten : (used : List ℕ) (ops : List EditOp) → IsNameStoreOf new store' used ops → IsNameStoreOf new store' (settled_used false (Some op) used) (ops ++ settled_ops false (Some op))
  unwritten used ops s = subst (λ (l : List EditOp). IsNameStoreOf new store' used l) (sym (append-nil ops)) s

  pub commits_done : allows store.table op ≡ true → store'.log.pending ≡ None → store'.table ≡ after_table store.table op → Moments → Added → CommitsOperation old new store op true store'
  commits_done may none then_is any added = record {
    stands = λ tells used ops s fresh. one_more old new store store' used ops op s (and_from (allows store.table op) (is_fresh used op) may fresh) none then_is (added tells ops s.log);
    moments = λ tells used ops s. let now = added tells ops s.log in weaker (λ c with. (each_last HasSpelling ops op now.spelled, with)) (any tells ops s.log);
    run = run;
  }

  pub commits_pending : allows store.table op ≡ true → store'.log.pending ≡ Some op → store'.table ≡ store.table → Moments → Kept → CommitsOperation old new store op false store'
  commits_pending may waits same any kept = record {
    stands = λ tells used ops s fresh.
        let now : Applies (made_with store used) store'.log.pending = subst (λ (o : Option EditOp). Applies (made_with store used) o) (sym waits) (and_from (allows store.table op) (is_fresh used op) may fresh) in
        unwritten used ops (as_before old new store store' used ops s same now (kept tells ops s.log));
    moments = λ tells used ops s.
        let now = kept tells ops s.log in
        let spelled : HasSpelling op = subst (λ (o : Option EditOp). IfSome o HasSpelling) waits now.waits in
        weaker (λ c with. (spelled, with)) (any tells ops s.log);
    run = run;
  }

  pub commits_none : store'.log ≡ store.log → store'.table ≡ store.table → ((P : List ℕ → Type 0) → LeavesOnly 1 old new P) → Kept → CommitsOperation old new store op false store'
  commits_none log_is same still kept = record {
    stands = λ tells used ops s fresh.
        let now : Applies (made_with store used) store'.log.pending = subst (λ (l : EditLogState). Applies (made_with store used) l.pending) (sym log_is) s.waits in
        unwritten used ops (as_before old new store store' used ops s same now (kept tells ops s.log));
    moments = λ tells used ops s. still (IsWritten ops op);
    run = run;
  }

  pub commits_refused : (refusal : StoreRefusal) → allows store.table op ≡ true → store'.table ≡ store.table → Moments → Kept → (refusal ≡ refused.StoreFault → store'.log.pending ≡ Some op)
      → (refusal ≡ refused.NoMemory → (store'.log ≡ store.log) × ((P : List ℕ → Type 0) → LeavesOnly 1 old new P)) → CommitsOperation old new store op false store'
  commits_refused refused.StoreFault may same any kept fault memory = commits_pending may (fault refl) same any kept
  commits_refused refused.NoMemory may same any kept fault memory = let m = memory refl in commits_none m.0 same m.1 kept

pub on_err : {E : Type 0} (r : Result (Unit {0}) E) (P Q : Type 0) → IsErr r → Q → MatchResult r (λ x. P) (λ x. Q)
on_err (Ok x) P Q failed held = absurd (cc failed)
on_err (Err e) P Q failed held = held
