-- The rows of each place of a world are a tree.
use Rattle.std.proofs.Common.{◌≡◌, ℕ, Bool, true, false, cond, List, [], ◌∷◌, Option, Some, None, refl, sym, ap, ◌∙◌, subst}
use Rattle.std.specs.List.{All, find}
use Rattle.std.specs.Option.{option_map, option_map_or}
use Rattle.std.proofs.lemmas.List.{append-nil}
use Rattle.std.proofs.lemmas.List.Elements.{All-head, All-tail}
use Rattle.inode_tree.specs.Below.{rows_below}
use Rattle.inode_tree.specs.Rows.{Entry, IsRows, is_dir_at, row_at}
use Rattle.name_calls.specs.declared.read_paths.SnapPart.{SnapPart}
use Rattle.snap_store.specs.Snapshots.{IsFrozenTree, Snapshot, frozen, is_named, rows_in, snapshot_named}
use Rattle.snap_store.proofs.FrozenTrees.{tree-frozen}
use Rattle.name_store.specs.Causes.{id_at}
use Rattle.name_store.proofs.RowLemmas.{directory-entry}
use Rattle.row_copies.specs.Clusters.{IsTreeOfRows}
use Rattle.world_rows.specs.Rows.{rows_of_place}
use Rattle.world_rows.proofs.SeenLemmas.{row-seen}
use Rattle.world_run.specs.Linked.{ServicesFit}
use Rattle.world_run.specs.World.{WorldState}
use Rattle.raw_copy.specs.Copies.{PlacesAreTrees}

tree_of : (rows : List Entry) → IsFrozenTree rows → IsTreeOfRows rows
tree_of rows t = record { rising = t.rising; ruled = t.ruled; rooted = t.rooted; housed = t.housed }

-- a directory as it is
live_tree : (rows : List Entry) (p : List (List ℕ)) → IsRows rows → is_dir_at (row_at (rows_below rows p) []) ≡ true → IsTreeOfRows (rows_below rows p)
live_tree rows p rules rooted =
    let there : is_dir_at (row_at rows p) ≡ true = ap is_dir_at (sym (row-seen p rows [] ∙ ap (row_at rows) (append-nil p))) ∙ rooted in
    let at = directory-entry rows p rules there in
    let tree = tree-frozen rows (id_at rows p) rules (ap (λ (o : Option Entry). is_dir_at (option_map (λ e. e.row) o)) at.1 ∙ at.3) in
    subst (λ (q : List (List ℕ)). IsTreeOfRows (rows_below rows q)) at.2
    (subst (λ (o : Option Entry). IsTreeOfRows (option_map_or (λ e. rows_below rows e.path) o [])) at.1 (tree_of (frozen rows (id_at rows p)) tree))

-- a snapshot

found : (P : Snapshot → Type 0) (test : Snapshot → Bool) (taken : List Snapshot) (s : Snapshot) → All P taken → find test taken ≡ Some s → P s
found P test [] s all h = absurd cc
found P test (x ∷ taken) s all h = go (test x) (found P test taken s (All-tail P x taken all)) h
  where
    go : (b : Bool) → (find test taken ≡ Some s → P s) → cond b (Some x) (find test taken) ≡ Some s → P s
    go true rest h = let same : x ≡ s = cc in subst P same (All-head P x taken all)
    go false rest h = rest h

kept_tree : (taken : List Snapshot) (dir : ℕ) (name : List ℕ) → All (λ t. IsFrozenTree t.rows) taken → is_dir_at (row_at (rows_in taken dir name) []) ≡ true → IsTreeOfRows (rows_in taken dir name)
kept_tree taken dir name trees rooted = go (snapshot_named taken dir name) refl rooted
  where
    go : (o : Option Snapshot) → snapshot_named taken dir name ≡ o → is_dir_at (row_at (option_map_or (λ s. s.rows) o []) []) ≡ true → IsTreeOfRows (option_map_or (λ s. s.rows) o [])
    go None e r = absurd cc
    go (Some s) e r = tree_of s.rows (found (λ t. IsFrozenTree t.rows) (is_named dir name) taken s trees e)

-- each parent is a directory of the rows, and the snapshots have the rows of trees
pub places_are_trees : (w : WorldState) → ServicesFit w → PlacesAreTrees w.names.names.table
places_are_trees w fit place is rooted = go place.snapshot rooted
  where
    go : (o : Option SnapPart) → is_dir_at (row_at (rows_of_place w.names.names.table place.path o) []) ≡ true → IsTreeOfRows (rows_of_place w.names.names.table place.path o)
    go None r = live_tree w.names.names.table.rows place.path fit.names.table.rules r
    go (Some part) r = kept_tree w.names.names.table.snaps.taken (id_at w.names.names.table.rows place.path) part.name fit.names.table.snaps.trees r
