-- The ids of rows were used, so no row has an id that was not.
use Rattle.std.proofs.Common.{◌≡◌, ℕ, ◌*◌, ◌^◌, ◌<◌, ◌≤◌, Bool, true, false, not, ◌&&◌, ◌||◌, ◌==◌, cond, List, [], ◌∷◌, ◌++◌, Option, Some, None, refl, sym, ◌∙◌, ap, subst, arith}
use Rattle.std.specs.Prelude.{is_none}
use Rattle.std.specs.List.{All, AllByRecursion, list_any}
use Rattle.std.proofs.lemmas.Bool.{both_ways, or_left, or_right}
use Rattle.std.proofs.lemmas.Bool.Decides.{Decides-eqb, nat_tests}
use Rattle.std.proofs.lemmas.List.Elements.{All-cons, All-head, All-nil, All-tail, All-weaker}
use Rattle.inode_tree.specs.Rows.{Entry, entry_of}
use Rattle.edit_ops.specs.declared.ops.EditOp.{EditOp}
use Rattle.edit_ops.specs.declared.ops.EditOp.TheVariants as op
use Rattle.name_store.specs.Table.{NameTable, Replayed, after, is_among, is_of_opening, may_use_all, nothing_logged, uses}
use Rattle.name_store.specs.Replay.{Ids, name_replay}
use Rattle.name_store.specs.Used.{HasFreeIds, RowsUsed}
use Rattle.name_store.proofs.IdLemmas.{IdHas, from_first, kept, rows_have}
use Rattle.name_store.proofs.Replays.{ComesTo, among_append}

-- ---- each row has a used id

abbrev AmongUsed : List ℕ → ℕ → Type 0
AmongUsed used id = 0 < id → is_among used id ≡ true

own-among : (ids all : List ℕ) → ((id : ℕ) → is_among ids id ≡ true → is_among all id ≡ true) → AllByRecursion (AmongUsed all) ids
own-among [] all more = tt
own-among (id ∷ ids) all more =
    let here : (id == id) ≡ true = grind (arith, nat_tests) in
    (λ some. more id (or_left (id == id) (is_among ids id) here), own-among ids all (λ i h. more i (or_right (id == i) (is_among ids i) h)))

used-after : (r : Replayed) (o : EditOp) → All (IdHas (AmongUsed r.used)) r.table.rows → All (IdHas (AmongUsed (after r o).used)) (after r o).table.rows
used-after r o h =
    rows_have (AmongUsed (uses o ++ r.used)) r.table o
    (own-among (uses o) (uses o ++ r.used) (λ id own. among_append (uses o) r.used id ∙ or_left (is_among (uses o) id) (is_among r.used id) own))
    (All-weaker (IdHas (AmongUsed r.used)) (IdHas (AmongUsed (uses o ++ r.used)))
    (λ e had some. among_append (uses o) r.used e.row.id ∙ or_right (is_among (uses o) e.row.id) (is_among r.used e.row.id) (had some)) r.table.rows h)

all-used : (r : Replayed) (ops : List EditOp) → name_replay nothing_logged ops ≡ Some r → All (IdHas (AmongUsed r.used)) r.table.rows
all-used r ops is =
    kept (λ q. All (IdHas (AmongUsed q.used)) q.table.rows) (λ q o may h. used-after q o h) nothing_logged r ops
    (All-cons (IdHas (AmongUsed [])) _ [] (λ some. absurd (omega arith)) (All-nil (IdHas (AmongUsed [])))) is

pub rows_used : (ops : List EditOp) (t : NameTable) (has : Ids) → ComesTo ops t has → RowsUsed t has
rows_used ops t has c =
    All-weaker (IdHas (AmongUsed c.used)) (λ (e : Entry). 0 < e.row.id → has e.row.id ≡ true) (λ e had some. sym (c.ids e.row.id) ∙ had some) t.rows
    (all-used (record { table = t; used = c.used }) ops c.makes)

-- ---- no row has an id that was not used

abbrev HasUsed : Ids → Entry → Type 0
HasUsed has e = 0 < e.row.id → has e.row.id ≡ true

free-id : (has : Ids) (id : ℕ) (rows : List Entry) → All (HasUsed has) rows → has id ≡ false → 0 < id → entry_of rows id ≡ None
free-id has id [] h new some = refl
free-id has id (e ∷ es) h new some = go (e.row.id == id) refl (free-id has id es (All-tail (HasUsed has) e es h) new some)
  where
    go : (b : Bool) → (e.row.id == id) ≡ b → entry_of es id ≡ None → cond b (Some e) (entry_of es id) ≡ None
    go true is rest =
        let same : e.row.id ≡ id = (Decides-eqb e.row.id id).0 is in
        absurd (both_ways (has id) new (subst (λ (i : ℕ). has i ≡ true) same (All-head (HasUsed has) e es h (subst (λ (i : ℕ). 0 < i) (sym same) some))))
    go false is rest = rest

not-first : (a : Bool) → not (a || false) ≡ true → a ≡ false
not-first true h = absurd cc
not-first false h = refl

pub free_ids : (t : NameTable) (has : Ids) (o : EditOp) → RowsUsed t has → not (list_any has (uses o)) ≡ true → HasFreeIds t.rows o
free_ids t has (op.Opened opening) h new = tt
free_ids t has (op.Mkdir id p) h new = (free-id has id t.rows h (not-first (has id) new), tt)
free_ids t has (op.File id p edek) h new = (free-id has id t.rows h (not-first (has id) new), tt)
free_ids t has (op.Remove p) h new = tt
free_ids t has (op.Rename p q) h new = tt
free_ids t has (op.Zone p key) h new = tt
free_ids t has (op.Allow p) h new = tt
free_ids t has (op.Disallow p) h new = tt
free_ids t has (op.Snap p name) h new = tt
free_ids t has (op.Unsnap p name) h new = tt
free_ids t has (op.Submit session p noted) h new = (free-id has session t.rows h (not-first (has session) new), tt)
free_ids t has (op.Update session failed mark files) h new = tt
free_ids t has (op.Cancel session) h new = tt
free_ids t has (op.Complete session) h new = tt

-- ---- an operation may use an id of the opening that no row has

pub may_use_free : (t : NameTable) (id : ℕ) → 0 < t.opening → (0 < id → entry_of t.rows id ≡ None) → is_of_opening t.opening id ≡ may_use_all t (id ∷ [])
may_use_free t id opened free = go (is_of_opening t.opening id) refl
  where
    go : (b : Bool) → is_of_opening t.opening id ≡ b → b ≡ ((b && is_none (entry_of t.rows id)) && true)
    go true of =
        let first : t.opening * 2 ^ 32 ≤ id = from_first t.opening id of in
        ap (λ (o : Option Entry). (true && is_none o) && true) (sym (free (omega (arith, first, opened))))
    go false of = refl
