-- The ids that operations use.
use Rattle.std.proofs.Common.{◌≡◌, ℕ, ◌+◌, ◌*◌, ◌^◌, ◌<◌, ◌≤◌, Bool, true, false, not, ◌||◌, ◌==◌, nat_lt, nat_le, cond, List, [], ◌∷◌, Some, None, refl, sym, ◌∙◌, ap, subst, arith}
use Rattle.std.specs.Prelude.{if◌then◌else◌}
use Rattle.std.specs.List.{All, AllByRecursion}
use Rattle.std.proofs.lemmas.Bool.Decides.{Decides-eqb, nat_tests}
use Rattle.std.proofs.lemmas.List.Elements.{All-cons, All-filter, All-head, All-map, All-nil, All-tail, All-weaker}
use Rattle.std.proofs.lemmas.Bool.{and_parts}
use Rattle.inode_tree.specs.declared.rows.Kind.{Kind}
use Rattle.inode_tree.specs.declared.rows.Kind.TheVariants.{Dir, File}
use Rattle.name_calls.specs.Paths.{is_before}
use Rattle.inode_tree.specs.Moves.{moved, renamed}
use Rattle.inode_tree.specs.Rows.{Entry, put, set_kind, with_kind}
use Rattle.edit_ops.specs.declared.files.FileKey.{FileKey}
use Rattle.edit_ops.specs.declared.ops.EditOp.{EditOp}
use Rattle.edit_ops.specs.declared.ops.EditOp.TheVariants as op
use Rattle.name_store.specs.Table.{NameTable, Replayed, after, after_table, allows, applies, is_among, is_fresh, is_of_opening, nothing_logged, uses, with_edeks}
use Rattle.name_store.specs.Causes.{id_at}
use Rattle.name_store.specs.Replay.{AllBelow, IdsOfOpening, name_replay}
use Rattle.name_store.proofs.CauseLemmas.{MayUse, allowed, id-may-be-used}

-- the id of the entry has P
abbrev pub IdHas : (ℕ → Type 0) → Entry → Type 0
IdHas P e = P e.row.id

abbrev IsBefore : ℕ → ℕ → Type 0
IsBefore n id = id < n

abbrev BelowId : ℕ → Entry → Type 0
BelowId n = IdHas (IsBefore n)

all-either : (P : Entry → Type 0) (b : Bool) (xs ys : List Entry) → All P xs → All P ys → All P (cond b xs ys)
all-either P true xs ys h g = h
all-either P false xs ys h g = g

all-put : (P : Entry → Type 0) (e : Entry) (es : List Entry) → P e → All P es → All P (put e es)
all-put P e [] p h = All-cons P e [] p h
all-put P e (x ∷ xs) p h =
    all-either P (is_before e.path x.path) (e ∷ x ∷ xs) (x ∷ put e xs) (All-cons P e (x ∷ xs) p h)
    (All-cons P x (put e xs) (All-head P x xs h) (all-put P e xs p (All-tail P x xs h)))

-- another kind leaves the id
pub kind-id : (n : ℕ) (kind : Kind) (e : Entry) → (with_kind n kind e).row.id ≡ e.row.id
kind-id n kind e = go (e.row.id == n) refl
  where
    go : (b : Bool) → (e.row.id == n) ≡ b → (cond b (record e { row = record { id = n; kind = kind } }) e).row.id ≡ e.row.id
    go true h = sym ((Decides-eqb e.row.id n).0 h)
    go false h = refl

kinds-have : (P : ℕ → Type 0) (n : ℕ) (kind : Kind) (es : List Entry) → All (IdHas P) es → All (IdHas P) (set_kind es n kind)
kinds-have P n kind es h = All-map (IdHas P) (with_kind n kind) es (All-weaker (IdHas P) (λ e. IdHas P (with_kind n kind e)) (λ e has. subst P (sym (kind-id n kind e)) has) es h)

-- other encrypted keys leave the ids
edeks-have : (P : ℕ → Type 0) (files : List FileKey) (es : List Entry) → All (IdHas P) es → All (IdHas P) (with_edeks files es)
edeks-have P [] es h = h
edeks-have P (f ∷ fs) es h = edeks-have P fs (set_kind es f.id (File (Some f.edek))) (kinds-have P f.id (File (Some f.edek)) es h)

-- a move leaves the ids
moved-have : (P : ℕ → Type 0) (p q : List (List ℕ)) (es : List Entry) → All (IdHas P) es → All (IdHas P) (renamed p q es)
moved-have P p q [] h = All-nil (IdHas P)
moved-have P p q (e ∷ es) h = all-put (IdHas P) (moved p q e) (renamed p q es) (All-head (IdHas P) e es h) (moved-have P p q es (All-tail (IdHas P) e es h))

-- the rows after an operation have the ids from before it, and those that it uses
pub rows_have : (P : ℕ → Type 0) (t : NameTable) (o : EditOp) → AllByRecursion P (uses o) → All (IdHas P) t.rows → All (IdHas P) (after_table t o).rows
rows_have P t (op.Opened opening) own h = h
rows_have P t (op.Mkdir id p) own h = all-put (IdHas P) _ t.rows own.0 h
rows_have P t (op.File id p edek) own h = all-put (IdHas P) _ t.rows own.0 h
rows_have P t (op.Remove p) own h = All-filter _ (IdHas P) t.rows h
rows_have P t (op.Rename p q) own h = moved-have P p q t.rows h
rows_have P t (op.Zone p key) own h = kinds-have P (id_at t.rows p) (Dir (Some key)) t.rows h
rows_have P t (op.Allow p) own h = h
rows_have P t (op.Disallow p) own h = h
rows_have P t (op.Snap p name) own h = h
rows_have P t (op.Unsnap p name) own h = h
rows_have P t (op.Submit session p noted) own h = h
rows_have P t (op.Update session failed mark files) own h = edeks-have P files t.rows h
rows_have P t (op.Cancel session) own h = h
rows_have P t (op.Complete session) own h = h

used-weaker : (n m : ℕ) → n ≤ m → (ids : List ℕ) → AllBelow n ids → AllBelow m ids
used-weaker n m le [] h = tt
used-weaker n m le (id ∷ ids) h = (omega (arith, le, h.0), used-weaker n m le ids h.1)

-- the bound of the ids of an opening
abbrev end_of_ids : ℕ → ℕ
end_of_ids opening = (opening + 1) * 2 ^ 32

below-end : (opening id : ℕ) → is_of_opening opening id ≡ true → id < end_of_ids opening
below-end opening id h =
    let parts = and_parts (nat_le (opening * 2 ^ 32) id) (nat_lt id ((opening + 1) * 2 ^ 32)) h in
    let last : nat_lt id ((opening + 1) * 2 ^ 32) ≡ true = parts.1 in
    grind (arith, nat_tests, last)

of-opening : (t : NameTable) (id : ℕ) → MayUse t id → id < end_of_ids t.opening
of-opening t id may = below-end t.opening id may.of_opening

later : (a b : ℕ) → b ≡ a + 1 → end_of_ids a ≤ end_of_ids b
later a b h = omega (arith, h)

-- an operation that the table allows keeps the ids within the openings
ids-after : (r : Replayed) (o : EditOp) → allows r.table o ≡ true → IdsOfOpening r → IdsOfOpening (after r o)
ids-after r (op.Opened opening) may h =
    let next : opening ≡ r.table.opening + 1 = (Decides-eqb opening (r.table.opening + 1)).0 may in
    let more = later r.table.opening opening next in
    record {
      rows = All-weaker (BelowId (end_of_ids r.table.opening)) (BelowId (end_of_ids opening)) (λ e below. omega (arith, more, below)) r.table.rows h.rows;
      used = used-weaker (end_of_ids r.table.opening) (end_of_ids opening) more r.used h.used;
    }
ids-after r (op.Mkdir id p) may h =
    let below = of-opening r.table id (id-may-be-used r.table id (allowed r.table (op.Mkdir id p) refl may).ids) in
    record { rows = rows_have (IsBefore (end_of_ids r.table.opening)) r.table (op.Mkdir id p) (below, tt) h.rows; used = (below, h.used) }
ids-after r (op.File id p edek) may h =
    let below = of-opening r.table id (id-may-be-used r.table id (allowed r.table (op.File id p edek) refl may).ids) in
    record { rows = rows_have (IsBefore (end_of_ids r.table.opening)) r.table (op.File id p edek) (below, tt) h.rows; used = (below, h.used) }
ids-after r (op.Remove p) may h = record { rows = rows_have (IsBefore (end_of_ids r.table.opening)) r.table (op.Remove p) tt h.rows; used = h.used }
ids-after r (op.Rename p q) may h = record { rows = rows_have (IsBefore (end_of_ids r.table.opening)) r.table (op.Rename p q) tt h.rows; used = h.used }
ids-after r (op.Zone p key) may h = record { rows = rows_have (IsBefore (end_of_ids r.table.opening)) r.table (op.Zone p key) tt h.rows; used = h.used }
ids-after r (op.Allow p) may h = record { rows = h.rows; used = h.used }
ids-after r (op.Disallow p) may h = record { rows = h.rows; used = h.used }
ids-after r (op.Snap p name) may h = record { rows = h.rows; used = h.used }
ids-after r (op.Unsnap p name) may h = record { rows = h.rows; used = h.used }
ids-after r (op.Submit session p noted) may h =
    let below = of-opening r.table session (id-may-be-used r.table session (allowed r.table (op.Submit session p noted) refl may).ids) in
    record { rows = h.rows; used = (below, h.used) }
ids-after r (op.Update session failed mark files) may h = record { rows = rows_have (IsBefore (end_of_ids r.table.opening)) r.table (op.Update session failed mark files) tt h.rows; used = h.used }
ids-after r (op.Cancel session) may h = record { rows = h.rows; used = h.used }
ids-after r (op.Complete session) may h = record { rows = h.rows; used = h.used }

-- what the operations that apply keep holds of the result
pub kept : (I : Replayed → Type 0) → ((r : Replayed) (o : EditOp) → applies r o ≡ true → I r → I (after r o)) → (r made : Replayed) (ops : List EditOp) → I r → name_replay r ops ≡ Some made → I made
kept I keeps r made [] h is = let same : r ≡ made = cc is in subst I same h
kept I keeps r made (o ∷ ops) h is = go (kept I keeps (after r o) made ops) (applies r o) refl is
  where
    go : (I (after r o) → name_replay (after r o) ops ≡ Some made → I made) → (b : Bool) → applies r o ≡ b → (if b then name_replay (after r o) ops else None) ≡ Some made → I made
    go rest true may is = rest (keeps r o may h) is
    go rest false may is = absurd cc

-- ids used are of the openings so far
pub used_earlier : (r : Replayed) (ops : List EditOp) → name_replay nothing_logged ops ≡ Some r → IdsOfOpening r
used_earlier r ops is =
    kept IdsOfOpening (λ q o may h. ids-after q o (and_parts (allows q.table o) (is_fresh q.used o) may).0 h) nothing_logged r ops
    (record { rows = All-cons (BelowId (end_of_ids 0)) _ [] (omega arith) (All-nil (BelowId (end_of_ids 0))); used = tt }) is

-- an operation of this opening uses no id of an earlier one

among-below : (n : ℕ) (used : List ℕ) (id : ℕ) → AllBelow n used → n ≤ id → is_among used id ≡ false
among-below n [] id h le = refl
among-below n (i ∷ used) id h le =
    let below : i < n = h.0 in
    let apart : (i == id) ≡ false = grind (arith, nat_tests) in
    ap (λ (b : Bool). b || is_among used id) apart ∙ among-below n used id h.1 le

pub from_first : (opening id : ℕ) → is_of_opening opening id ≡ true → opening * 2 ^ 32 ≤ id
from_first opening id h =
    let first : nat_le (opening * 2 ^ 32) id ≡ true = (and_parts (nat_le (opening * 2 ^ 32) id) (nat_lt id ((opening + 1) * 2 ^ 32)) h).0 in
    grind (arith, nat_tests, first)

of-this : (t : NameTable) (used : List ℕ) (id : ℕ) → MayUse t id → AllBelow (t.opening * 2 ^ 32) used → not (is_among used id || false) ≡ true
of-this t used id may h = ap (λ (b : Bool). not (b || false)) (among-below (t.opening * 2 ^ 32) used id h (from_first t.opening id may.of_opening))

pub fresh_in : (t : NameTable) (used : List ℕ) (o : EditOp) → allows t o ≡ true → AllBelow (t.opening * 2 ^ 32) used → is_fresh used o ≡ true
fresh_in t used (op.Opened opening) may h = refl
fresh_in t used (op.Mkdir id p) may h = of-this t used id (id-may-be-used t id (allowed t (op.Mkdir id p) refl may).ids) h
fresh_in t used (op.File id p edek) may h = of-this t used id (id-may-be-used t id (allowed t (op.File id p edek) refl may).ids) h
fresh_in t used (op.Remove p) may h = refl
fresh_in t used (op.Rename p q) may h = refl
fresh_in t used (op.Zone p key) may h = refl
fresh_in t used (op.Allow p) may h = refl
fresh_in t used (op.Disallow p) may h = refl
fresh_in t used (op.Snap p name) may h = refl
fresh_in t used (op.Unsnap p name) may h = refl
fresh_in t used (op.Submit session p noted) may h = of-this t used session (id-may-be-used t session (allowed t (op.Submit session p noted) refl may).ids) h
fresh_in t used (op.Update session failed mark files) may h = refl
fresh_in t used (op.Cancel session) may h = refl
fresh_in t used (op.Complete session) may h = refl
