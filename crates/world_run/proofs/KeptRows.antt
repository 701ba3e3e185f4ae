-- The rows that a table keeps: those of its entries, and those of its snapshots.
use Rattle.std.proofs.Common.{◌≡◌, ◌⊎◌, inl, inr, ℕ, Bool, true, false, cond, List, [], ◌∷◌, ◌++◌, map, Option, Some, None, refl, ap, ◌∙◌}
use Rattle.std.specs.List.{filter}
use Rattle.std.specs.Option.{option_map_or}
use Rattle.std.specs.Ordering.{is_lt}
use Rattle.inode_tree.specs.Below.{rows_below, seen_from}
use Rattle.inode_tree.specs.Moves.{renamed}
use Rattle.inode_tree.specs.Rows.{Entry, entry_of, put}
use Rattle.inode_tree.specs.declared.rows.Row.{Row}
use Rattle.name_calls.specs.Paths.{is_prefix}
use Rattle.name_store.specs.Table.{rows_of_entries, snapped_rows}
use Rattle.snap_store.specs.Ordered.{put_by}
use Rattle.snap_store.specs.Snapshots.{Snapshot, frozen, put_snapshot, snapshot_cmp}
use Rattle.world_run.specs.Promise.{In}
use Rattle.world_run.proofs.Members.{in-append, in-left, in-right}
use Rattle.world_run.proofs.RenameLemmas.{in-renamed}
use Rattle.world_run.proofs.RowLemmas.{in-put}

-- rows of entries

of-entry : (row : Row) (es : List Entry) → In row (rows_of_entries es) → (x : Entry) × In x es × (row ≡ x.row)
of-entry row [] i = absurd i
of-entry row (e ∷ es) (inl is) = (e, inl refl, is)
of-entry row (e ∷ es) (inr i) = let q = of-entry row es i in (q.0, inr q.1, q.2)

in-rows : (row : Row) (x : Entry) (es : List Entry) → In x es → row ≡ x.row → In row (rows_of_entries es)
in-rows row x [] i same = absurd i
in-rows row x (e ∷ es) (inl is) same = inl (same ∙ ap (λ (y : Entry). y.row) is)
in-rows row x (e ∷ es) (inr i) same = inr (in-rows row x es i same)

-- each row is of an entry that was there, or P
pub rows-from : (row : Row) (olds news : List Entry) (P : Type 0) → ((x : Entry) → In x news → row ≡ x.row → P ⊎ In x olds) → In row (rows_of_entries news) → In row (rows_of_entries olds) ⊎ P
rows-from row olds news P was i =
    let x = of-entry row news i in
    elim (was x.0 x.1 x.2) [ inl new ↦ inr new | inr old ↦ inl (in-rows row x.0 olds old x.2) ]

pub rows-put : (row : Row) (e : Entry) (es : List Entry) → In row (rows_of_entries (put e es)) → In row (rows_of_entries es) ⊎ (row ≡ e.row)
rows-put row e es =
    rows-from row es (put e es) (row ≡ e.row) (λ x i is. elim (in-put x e es i) [ inl new ↦ inl (is ∙ ap (λ (y : Entry). y.row) new) | inr old ↦ inr old ])

pub rows-filter : (row : Row) (test : Entry → Bool) (es : List Entry) → In row (rows_of_entries (filter test es)) → In row (rows_of_entries es)
rows-filter row test [] i = absurd i
rows-filter row test (e ∷ es) i = go (test e) i (rows-filter row test es)
  where
    go : (b : Bool) → In row (rows_of_entries (cond b (e ∷ filter test es) (filter test es))) → (In row (rows_of_entries (filter test es)) → In row (rows_of_entries es)) → In row (rows_of_entries (e ∷ es))
    go true (inl is) ih = inl is
    go true (inr i) ih = inr (ih i)
    go false i ih = inr (ih i)

-- the rows after a move
pub rows-moved : (row : Row) (p q : List (List ℕ)) (es : List Entry) → In row (rows_of_entries (renamed p q es)) → In row (rows_of_entries es)
rows-moved row p q es i =
    let x = of-entry row (renamed p q es) i in
    let y = in-renamed x.0 p q es x.1 in
    in-rows row y.0 es y.1 (x.2 ∙ ap (λ (z : Entry). z.row) y.2)

-- rows of snapshots

rows-seen : (row : Row) (n : ℕ) (es : List Entry) → In row (rows_of_entries (map (seen_from n) es)) → In row (rows_of_entries es)
rows-seen row n [] i = absurd i
rows-seen row n (e ∷ es) (inl is) = inl is
rows-seen row n (e ∷ es) (inr i) = inr (rows-seen row n es i)

-- a snapshot has rows that are there
pub rows-frozen : (row : Row) (rows : List Entry) (dir : ℕ) → In row (rows_of_entries (frozen rows dir)) → In row (rows_of_entries rows)
rows-frozen row rows dir = go (entry_of rows dir)
  where
    go : (o : Option Entry) → In row (rows_of_entries (option_map_or (λ e. rows_below rows e.path) o [])) → In row (rows_of_entries rows)
    go None i = absurd i
    go (Some e) i = rows-filter row (λ x. is_prefix e.path x.path) rows (rows-seen row _ (filter (λ x. is_prefix e.path x.path) rows) i)

-- a row after a snapshot was put in is the snapshot's, or was there
pub snapped-put : (row : Row) (s : Snapshot) (taken : List Snapshot) → In row (snapped_rows (put_snapshot s taken)) → In row (rows_of_entries s.rows) ⊎ In row (snapped_rows taken)
snapped-put row s [] i = in-append row (rows_of_entries s.rows) [] i
snapped-put row s (t ∷ taken) i = go (is_lt (snapshot_cmp s t)) i (snapped-put row s taken)
  where
    go : (b : Bool) → In row (snapped_rows (cond b (s ∷ t ∷ taken) (t ∷ put_by snapshot_cmp s taken)))
        → (In row (snapped_rows (put_snapshot s taken)) → In row (rows_of_entries s.rows) ⊎ In row (snapped_rows taken)) → In row (rows_of_entries s.rows) ⊎ In row (snapped_rows (t ∷ taken))
    go true i ih = in-append row (rows_of_entries s.rows) (snapped_rows (t ∷ taken)) i
    go false i ih = elim (in-append row (rows_of_entries t.rows) (snapped_rows (put_snapshot s taken)) i) [
      | inl here ↦ inr (in-left row (rows_of_entries t.rows) (snapped_rows taken) here)
      | inr behind ↦ elim (ih behind) [ inl new ↦ inl new | inr old ↦ inr (in-right row (rows_of_entries t.rows) (snapped_rows taken) old) ]
    ]

pub snapped-filter : (row : Row) (test : Snapshot → Bool) (taken : List Snapshot) → In row (snapped_rows (filter test taken)) → In row (snapped_rows taken)
snapped-filter row test [] i = absurd i
snapped-filter row test (t ∷ taken) i = go (test t) i (snapped-filter row test taken)
  where
    go : (b : Bool) → In row (snapped_rows (cond b (t ∷ filter test taken) (filter test taken))) → (In row (snapped_rows (filter test taken)) → In row (snapped_rows taken)) → In row (snapped_rows (t ∷ taken))
    go false i ih = in-right row (rows_of_entries t.rows) (snapped_rows taken) (ih i)
    go true i ih = elim (in-append row (rows_of_entries t.rows) (snapped_rows (filter test taken)) i) [
      | inl here ↦ in-left row (rows_of_entries t.rows) (snapped_rows taken) here
      | inr behind ↦ in-right row (rows_of_entries t.rows) (snapped_rows taken) (ih behind)
    ]

-- both

abbrev KeptOr : Row → List Entry → List Snapshot → Type 0 → Type 0
KeptOr row rows taken P = In row (rows_of_entries rows ++ snapped_rows taken) ⊎ P

-- the entries changed
pub kept-entries : (row : Row) (olds news : List Entry) (taken : List Snapshot) (P : Type 0) → (In row (rows_of_entries news) → In row (rows_of_entries olds) ⊎ P)
    → In row (rows_of_entries news ++ snapped_rows taken) → KeptOr row olds taken P
kept-entries row olds news taken P was i = elim (in-append row (rows_of_entries news) (snapped_rows taken) i) [
  | inl live ↦ elim (was live) [ inl old ↦ inl (in-left row (rows_of_entries olds) (snapped_rows taken) old) | inr new ↦ inr new ]
  | inr snapped ↦ inl (in-right row (rows_of_entries olds) (snapped_rows taken) snapped)
]

-- the snapshots changed
pub kept-snapped : (row : Row) (rows : List Entry) (olds news : List Snapshot) → (In row (snapped_rows news) → In row (rows_of_entries rows) ⊎ In row (snapped_rows olds))
    → In row (rows_of_entries rows ++ snapped_rows news) → In row (rows_of_entries rows ++ snapped_rows olds)
kept-snapped row rows olds news was i = elim (in-append row (rows_of_entries rows) (snapped_rows news) i) [
  | inl live ↦ in-left row (rows_of_entries rows) (snapped_rows olds) live
  | inr snapped ↦ elim (was snapped) [ inl live ↦ in-left row (rows_of_entries rows) (snapped_rows olds) live | inr old ↦ in-right row (rows_of_entries rows) (snapped_rows olds) old ]
]
