-- Entries one after another: their counts and their lines.
use Rattle.std.proofs.Common.{◌≡◌, ◌∙◌, ℕ, zero, suc, ◌+◌, Bool, true, false, cond, List, [], ◌∷◌, ◌++◌, Some, add-one, length, append-nil, append_assoc, take, refl, sym, ap, arith}
use Rattle.std.proofs.lemmas.List.{take_all}
use Rattle.std.specs.Prelude.{slice_get, not, is_some}
use Rattle.std.specs.List.{count_by, flat_map, sum_by}
use Rattle.std.specs.Option.{option_map, option_map_or}
use Rattle.std.proofs.lemmas.List.Sums.{sum_by-cons}
use Rattle.key_rows.specs.declared.rows.KeyRow.{KeyRow}
use Rattle.inode_tree.specs.declared.rows.Row.{Row}
use Rattle.inode_tree.specs.Rows.{Entry, is_dir, is_marked}
use Rattle.snap_store.specs.Snapshots.{count_of}
use Rattle.zone_table.specs.Statuses.{zone_goes_on}
use Rattle.name_store.specs.Table.{NameTable}
use Rattle.check_run.specs.declared.counts.RowCounts.{RowCounts}
use Rattle.check_run.specs.Rows.{line_at, one_if_true, row_counts, with_row}
use Rattle.check_run.specs.Summary.{line_of_entry, lost_version}

-- a sum with one more entry

sum_more : (f : Row → ℕ) (rows : List Entry) (i : ℕ) (row : Row) → option_map (λ (e : Entry). e.row) (slice_get rows i) ≡ Some row
    → sum_by (λ (e : Entry). f e.row) (take (suc i) rows) ≡ sum_by (λ (e : Entry). f e.row) (take i rows) + f row
sum_more f [] i row is = absurd cc
sum_more f (x ∷ xs) zero row is = let same : x.row ≡ row = cc is in let its : f x.row ≡ f row = ap f same in omega (arith, its)
sum_more f (x ∷ xs) (suc i) row is =
    let g : Entry → ℕ = λ e. f e.row in
    let more : sum_by g (take (suc i) xs) ≡ sum_by g (take i xs) + f row = sum_more f xs i row is in
    let one : sum_by g (x ∷ take (suc i) xs) ≡ f x.row + sum_by g (take (suc i) xs) = sum_by-cons g x (take (suc i) xs) in
    let other : sum_by g (x ∷ take i xs) ≡ f x.row + sum_by g (take i xs) = sum_by-cons g x (take i xs) in
    omega (arith, more, one, other)

as_one : (b : Bool) → cond b 1 0 ≡ one_if_true b
as_one true = refl
as_one false = refl

count_more : (p : Row → Bool) (rows : List Entry) (i : ℕ) (row : Row) → option_map (λ (e : Entry). e.row) (slice_get rows i) ≡ Some row
    → count_by (λ (e : Entry). p e.row) (take (suc i) rows) ≡ count_by (λ (e : Entry). p e.row) (take i rows) + one_if_true (p row)
count_more p rows i row is = sum_more (λ r. cond (p r) 1 0) rows i row is ∙ ap (λ (n : ℕ). count_by (λ (e : Entry). p e.row) (take i rows) + n) (as_one (p row))

pub counts_more : (keys : List KeyRow) (names : NameTable) (rows : List Entry) (i : ℕ) (row : Row) (before after : RowCounts) → option_map (λ (e : Entry). e.row) (slice_get rows i) ≡ Some row
    → before ≡ row_counts keys names (take i rows) → after ≡ with_row keys names row before → after ≡ row_counts keys names (take (i + 1) rows)
counts_more keys names rows i row before after is before_is after_is =
    let directories = count_more (λ r. is_dir r.kind) rows i row is in
    let files = count_more (λ r. not (is_dir r.kind)) rows i row is in
    let zones = count_more (λ r. is_marked r) rows i row is in
    let snapshots = sum_more (λ r. count_of names.snaps.taken r.id) rows i row is in
    let reencryptions = count_more (λ r. zone_goes_on names.statuses r.id) rows i row is in
    let lost = count_more (λ r. is_some (lost_version keys r)) rows i row is in
    let further : with_row keys names row (row_counts keys names (take i rows)) ≡ row_counts keys names (take (suc i) rows) = λ k. record {
      directories = sym directories k;
      files = sym files k;
      zones = sym zones k;
      snapshots = sym snapshots k;
      reencryptions = sym reencryptions k;
      lost = sym lost k;
    } in
    after_is ∙ ap (λ (c : RowCounts). with_row keys names row c) before_is ∙ rw add-one further

pub counts_all : (keys : List KeyRow) (names : NameTable) (rows : List Entry) (n : ℕ) (counts : RowCounts) → counts ≡ row_counts keys names (take n rows) → n ≡ length rows → counts ≡ row_counts keys names rows
counts_all keys names rows n counts is end = is ∙ ap (λ (xs : List Entry). row_counts keys names xs) (take_all n rows (omega (arith, end)))

-- and the lines with that of one more

flat_more : (g : Entry → List ℕ) (rows : List Entry) (i : ℕ) → flat_map g (take (suc i) rows) ≡ flat_map g (take i rows) ++ option_map_or g (slice_get rows i) []
flat_more g [] zero = refl
flat_more g [] (suc i) = refl
flat_more g (x ∷ xs) zero = append-nil (g x)
flat_more g (x ∷ xs) (suc i) = ap (λ (l : List ℕ). g x ++ l) (flat_more g xs i) ∙ sym (append_assoc (g x) (flat_map g (take i xs)) (option_map_or g (slice_get xs i) []))

pub lines_more : (keys : List KeyRow) (rows : List Entry) (i : ℕ) (first before after : List ℕ) → before ≡ first ++ flat_map (line_of_entry keys) (take i rows) → after ≡ before ++ line_at keys rows i
    → after ≡ first ++ flat_map (line_of_entry keys) (take (i + 1) rows)
lines_more keys rows i first before after before_is after_is =
    after_is
    ∙ ap (λ (l : List ℕ). l ++ line_at keys rows i) before_is
    ∙ append_assoc first (flat_map (line_of_entry keys) (take i rows)) (line_at keys rows i)
    ∙ ap (λ (l : List ℕ). first ++ l) (sym (rw add-one (flat_more (line_of_entry keys) rows i)))
