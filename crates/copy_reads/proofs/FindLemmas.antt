-- How a file of a copy is found, and what follows if none is.
use Rattle.std.proofs.Common.{◌≡◌, ℕ, true, List, ap, sym, subst, ◌∙◌}
use Rattle.std.specs.Prelude.{None, Some, Result, Ok, Err, IfOk, IfErr, IsErrOf}
use Rattle.inode_tree.specs.Rows.{Entry, is_dir_at, row_at}
use Rattle.name_calls.specs.Paths.{read_path}
use Rattle.file_orders.specs.Ends.{IsFailure}
use Rattle.file_orders.specs.Events.{Leading}
use Rattle.file_orders.specs.Opening.{OpensShown}
use Rattle.file_orders.proofs.EndLemmas.{Fails, never, shown_fail}
use Rattle.file_orders.specs.declared.ends.FsEnd.{FsEnd}
use Rattle.file_orders.specs.declared.ends.FsEnd.TheVariants as end
use Rattle.file_orders.specs.declared.open.OpenFile.{OpenFile}
use Rattle.file_orders.specs.declared.open.ShownFile.{ShownFile}
use Rattle.backup_names.specs.Ends.{row_shown}
use Rattle.copy_reads.specs.Copies.{FindsCopy}
use Rattle.copy_reads.proofs.CauseLemmas.{IsNoKey}

abbrev pub err : {T E : Type 0} → E → Result T E
err why = Err why

pub same_err : {T E : Type 0} (a b : E) → err {T = T} a ≡ err {T = T} b → a ≡ b
same_err a b is = cc

path_is_none : (place : List (List ℕ)) → Some place ≡ None → ⊥
path_is_none place is = cc

pub looked : (rows : List Entry) (path : List ℕ) (place : List (List ℕ)) (result : Result ShownFile FsEnd) → read_path path ≡ Some place → IfOk result (λ shown. row_at rows place ≡ Some (row_shown shown))
    → (IsErrOf result end.Directory → is_dir_at (row_at rows place) ≡ true) → (IsErrOf result end.StoreFault → ⊥) → IfErr result IsFailure → IfErr result IsNoKey
    → FindsCopy rows path result
looked rows path place (Ok file) is at directory fault failure no_key = record { place = place; is_place = is; at = at }
looked rows path place (Err why) is at directory fault failure no_key = record {
  failure = failure;
  no_key = no_key;
  no_fault = λ same. fault (ap (λ (w : FsEnd). err {T = ShownFile} w) same);
  bad = λ none. absurd (path_is_none place (sym is ∙ none));
  directory = λ same. record { place = place; is_place = is; at = directory (ap (λ (w : FsEnd). err {T = ShownFile} w) same) };
}

finds_fail : (rows : List Entry) (path : List ℕ) (found : Result ShownFile FsEnd) → FindsCopy rows path found → Fails found
finds_fail rows path (Ok file) finds = tt
finds_fail rows path (Err why) finds = finds.failure

-- the end of a file that was not opened is none of a transfer
pub not_opened : {X : Type 0} (leads : Leading X) (rows : List Entry) (user path : List ℕ) (found : Result ShownFile FsEnd) (a b : X) (result : Result OpenFile FsEnd) → FindsCopy rows path found → OpensShown leads user found a result b → Fails result
not_opened leads rows user path found a b result finds opens = shown_fail leads user found a b result (finds_fail rows path found finds) opens

failed_is : (T : Type 0) (result : Result T FsEnd) (why : FsEnd) → IsErrOf result why → Fails result → IsFailure why
failed_is T (Ok x) why is fails = absurd cc
failed_is T (Err own) why is fails = subst IsFailure (same_err {T = T} own why is) fails

pub never_so : {X : Type 0} (leads : Leading X) (rows : List Entry) (user path : List ℕ) (found : Result ShownFile FsEnd) (a b : X) (result : Result OpenFile FsEnd) (why own : FsEnd) → FindsCopy rows path found
    → OpensShown leads user found a result b → IsErrOf result why → why ≡ own → (IsFailure own → ⊥) → ⊥
never_so leads rows user path found a b result why own finds opens is same not =
    never why own (failed_is OpenFile result why is (not_opened leads rows user path found a b result finds opens)) same not
