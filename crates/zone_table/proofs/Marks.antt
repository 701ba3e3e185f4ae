-- The zones that the marks of a tree's rows make.
use Rattle.std.proofs.Common.{◌≡◌, ℕ, Bool, true, false, cond, ◌&&◌, List, [], ◌∷◌, Option, Some, None, refl, sym, ap, ◌∙◌, subst, arith}
use Rattle.std.specs.Prelude.{◌==◌, is_none, nat_lt, ⊤}
use Rattle.std.specs.List.{All}
use Rattle.std.specs.Option.{option_map_or}
use Rattle.std.proofs.lemmas.Bool.Decides.{nat_tests}
use Rattle.std.proofs.lemmas.List.Elements.{All-head, All-tail}
use Rattle.std.proofs.lemmas.Bool.{eqb-true, and_parts}
use Rattle.hk_base.specs.declared.names.KeyName.{KeyName}
use Rattle.inode_tree.specs.declared.rows.Kind.{Kind}
use Rattle.inode_tree.specs.declared.rows.Kind.TheVariants.{Dir}
use Rattle.name_calls.specs.Paths.{is_before}
use Rattle.inode_tree.specs.Rows.{AllAfter, Entry, IsRising, IsRows, entry_of, is_dir, mark_of, put, set_kind}
use Rattle.inode_tree.proofs.Seeks.{not-before-itself}
use Rattle.zone_table.specs.declared.zones.ZoneRow.{ZoneRow}
use Rattle.zone_table.specs.Laws.{MarkedIsAZone, RootHasNoZones, UnmarkedChangesNothing}
use Rattle.zone_table.specs.Zones.{put_zone, with_mark, zone_row, zones_of}

pub root-has-no-zones : RootHasNoZones
root-has-no-zones = refl

pub unmarked-changes-nothing : UnmarkedChangesNothing
unmarked-changes-nothing e [] h = ap (λ (m : Option KeyName). with_mark m e.row.id []) h
unmarked-changes-nothing e (x ∷ xs) h = go (is_before e.path x.path) (unmarked-changes-nothing e xs h)
  where
    go : (t : Bool) → zones_of (put e xs) ≡ zones_of xs → zones_of (cond t (e ∷ x ∷ xs) (x ∷ put e xs)) ≡ zones_of (x ∷ xs)
    go true ih = ap (λ (m : Option KeyName). with_mark m e.row.id (zones_of (x ∷ xs))) h
    go false ih = ap (with_mark (mark_of x.row.kind) x.row.id) ih

-- the order in which zones of two directories are added makes no difference
lt-not : (a b : ℕ) → nat_lt a b ≡ true → nat_lt b a ≡ false
lt-not a b h = grind (arith, nat_tests)

lt-other : (a b : ℕ) → (a == b) ≡ false → nat_lt a b ≡ false → nat_lt b a ≡ true
lt-other a b d h = grind (arith, nat_tests)

pub lt-trans : (a b c : ℕ) → nat_lt a b ≡ true → nat_lt b c ≡ true → nat_lt a c ≡ true
lt-trans a b c h k = grind (arith, nat_tests)

pub eq-flip : (a b : ℕ) → (a == b) ≡ false → (b == a) ≡ false
eq-flip a b h = grind (arith, nat_tests)

-- a zone is added before one that comes after it
pub put-front : (a x : ZoneRow) (xs : List ZoneRow) → nat_lt a.dir x.dir ≡ true → put_zone a (x ∷ xs) ≡ a ∷ x ∷ xs
put-front a x xs h = ap (λ (t : Bool). cond t (a ∷ x ∷ xs) (x ∷ put_zone a xs)) h

-- a zone is added after one that doesn't come after it
pub put-behind : (a x : ZoneRow) (xs : List ZoneRow) → nat_lt a.dir x.dir ≡ false → put_zone a (x ∷ xs) ≡ x ∷ put_zone a xs
put-behind a x xs h = ap (λ (t : Bool). cond t (a ∷ x ∷ xs) (x ∷ put_zone a xs)) h

-- two zones, the first of which comes first, can be added in either order
put-two : (a b : ZoneRow) (xs : List ZoneRow) → nat_lt a.dir b.dir ≡ true → put_zone a (put_zone b xs) ≡ put_zone b (put_zone a xs)
put-two a b [] h = put-front a b [] h ∙ sym (put-behind b a [] (lt-not _ _ h))
put-two a b (x ∷ xs) h = go (nat_lt a.dir x.dir) refl (nat_lt b.dir x.dir) refl (put-two a b xs h)
  where
    cons : {ys zs : List ZoneRow} → ys ≡ zs → x ∷ ys ≡ x ∷ zs
    cons e = ap (λ (l : List ZoneRow). x ∷ l) e

    go : (t : Bool) → nat_lt a.dir x.dir ≡ t → (u : Bool) → nat_lt b.dir x.dir ≡ u → put_zone a (put_zone b xs) ≡ put_zone b (put_zone a xs) → put_zone a (put_zone b (x ∷ xs)) ≡ put_zone b (put_zone a (x ∷ xs))
    go true e true f ih =
        ap (put_zone a) (put-front b x xs f) ∙ put-front a b (x ∷ xs) h
        ∙ sym (ap (put_zone b) (put-front a x xs e) ∙ put-behind b a (x ∷ xs) (lt-not _ _ h) ∙ ap (λ (l : List ZoneRow). a ∷ l) (put-front b x xs f))
    go true e false f ih =
        ap (put_zone a) (put-behind b x xs f) ∙ put-front a x (put_zone b xs) e
        ∙ sym (ap (put_zone b) (put-front a x xs e) ∙ put-behind b a (x ∷ xs) (lt-not _ _ h) ∙ ap (λ (l : List ZoneRow). a ∷ l) (put-behind b x xs f))
    go false e true f ih = let g = lt-trans a.dir b.dir x.dir h f in cc
    go false e false f ih =
        ap (put_zone a) (put-behind b x xs f) ∙ put-behind a x (put_zone b xs) e ∙ cons ih
        ∙ sym (ap (put_zone b) (put-behind a x xs e) ∙ put-behind b x (put_zone a xs) f)

put-swap : (a b : ZoneRow) (xs : List ZoneRow) → (a.dir == b.dir) ≡ false → put_zone a (put_zone b xs) ≡ put_zone b (put_zone a xs)
put-swap a b xs d = go (nat_lt a.dir b.dir) refl
  where
    go : (t : Bool) → nat_lt a.dir b.dir ≡ t → put_zone a (put_zone b xs) ≡ put_zone b (put_zone a xs)
    go true e = put-two a b xs e
    go false e = sym (put-two b a xs (lt-other _ _ d e))

pub mark-put : (m : Option KeyName) (id : ℕ) (z : ZoneRow) (xs : List ZoneRow) → (id == z.dir) ≡ false → with_mark m id (put_zone z xs) ≡ put_zone z (with_mark m id xs)
mark-put None id z xs d = refl
mark-put (Some key) id z xs d = put-swap (record { dir = id; key = key }) z xs d

-- adding a zone does not change what is found at another directory
row-put : (z : ZoneRow) (xs : List ZoneRow) (dir : ℕ) → (z.dir == dir) ≡ false → zone_row (put_zone z xs) dir ≡ zone_row xs dir
row-put z [] dir d = ap (λ (t : Bool). cond t (Some z) None) d
row-put z (x ∷ xs) dir d = go (nat_lt z.dir x.dir) (row-put z xs dir d)
  where
    go : (t : Bool) → zone_row (put_zone z xs) dir ≡ zone_row xs dir → zone_row (cond t (z ∷ x ∷ xs) (x ∷ put_zone z xs)) dir ≡ zone_row (x ∷ xs) dir
    go true ih = ap (λ (t : Bool). cond t (Some z) (zone_row (x ∷ xs) dir)) d
    go false ih = ap (λ (o : Option ZoneRow). cond (x.dir == dir) (Some x) o) ih

pub row-mark : (m : Option KeyName) (id : ℕ) (xs : List ZoneRow) (dir : ℕ) → (id == dir) ≡ false → zone_row (with_mark m id xs) dir ≡ zone_row xs dir
row-mark None id xs dir d = refl
row-mark (Some key) id xs dir d = row-put (record { dir = id; key = key }) xs dir d

-- the row is found by its id
abbrev pub IsFound : List Entry → Entry → Type 0
IsFound rows e = entry_of rows e.row.id ≡ Some e

-- the row with an id is the one that is found by it
module _ (rows : List Entry) (dir : Entry) (found : IsFound rows dir) where
  is-it : (e : Entry) → IsFound rows e → (e.row.id == dir.row.id) ≡ true → e ≡ dir
  is-it e h t = let i = eqb-true _ _ t in let f : entry_of rows e.row.id ≡ entry_of rows dir.row.id = ap (entry_of rows) i in cc

  -- no zone has the id of an unmarked row
  no-zone : (es : List Entry) → All (IsFound rows) es → mark_of dir.row.kind ≡ None → zone_row (zones_of es) dir.row.id ≡ None
  no-zone [] a u = refl
  no-zone (e ∷ es) a u = go (e.row.id == dir.row.id) refl (no-zone es (All-tail (IsFound rows) e es a) u)
    where
      go : (t : Bool) → (e.row.id == dir.row.id) ≡ t → zone_row (zones_of es) dir.row.id ≡ None → zone_row (zones_of (e ∷ es)) dir.row.id ≡ None
      go true h ih =
          let same : e ≡ dir = is-it e (All-head (IsFound rows) e es a) h in
          ap (λ (m : Option KeyName). zone_row (with_mark m e.row.id (zones_of es)) dir.row.id) (ap (λ (f : Entry). mark_of f.row.kind) same ∙ u) ∙ ih
      go false h ih = row-mark (mark_of e.row.kind) e.row.id (zones_of es) dir.row.id h ∙ ih

  -- rows that come after it have different ids
  unmoved : (es : List Entry) (kind : Kind) → All (IsFound rows) es → AllAfter dir.path es → set_kind es dir.row.id kind ≡ es
  unmoved [] kind a after = refl
  unmoved (e ∷ es) kind a after = go (e.row.id == dir.row.id) refl (unmoved es kind (All-tail (IsFound rows) e es a) after.1)
    where
      go : (t : Bool) → (e.row.id == dir.row.id) ≡ t → set_kind es dir.row.id kind ≡ es → cond t (record e { row = record { id = dir.row.id; kind = kind } }) e ∷ set_kind es dir.row.id kind ≡ e ∷ es
      go true h ih =
          let same : e ≡ dir = is-it e (All-head (IsFound rows) e es a) h in
          let before : is_before dir.path dir.path ≡ true = ap (λ (f : Entry). is_before dir.path f.path) (sym same) ∙ after.0 in
          let not-itself = not-before-itself dir.path in cc
      go false h ih = ap (λ (l : List Entry). e ∷ l) ih

  marked : (es : List Entry) (key : KeyName) → All (IsFound rows) es → IsRising es → entry_of es dir.row.id ≡ Some dir → mark_of dir.row.kind ≡ None
      → zones_of (set_kind es dir.row.id (Dir (Some key))) ≡ put_zone (record { dir = dir.row.id; key = key }) (zones_of es)
  marked [] key a r f u = cc
  marked (e ∷ es) key a r f u = go (e.row.id == dir.row.id) refl f (marked es key (All-tail (IsFound rows) e es a) r.1)
    where
      go : (t : Bool) → (e.row.id == dir.row.id) ≡ t → cond t (Some e) (entry_of es dir.row.id) ≡ Some dir
          → (entry_of es dir.row.id ≡ Some dir → mark_of dir.row.kind ≡ None → zones_of (set_kind es dir.row.id (Dir (Some key))) ≡ put_zone (record { dir = dir.row.id; key = key }) (zones_of es))
          → zones_of (cond t (record e { row = record { id = dir.row.id; kind = Dir (Some key) } }) e ∷ set_kind es dir.row.id (Dir (Some key))) ≡ put_zone (record { dir = dir.row.id; key = key }) (zones_of (e ∷ es))
      go true h g ih =
          let same : e ≡ dir = cc in
          let after : AllAfter dir.path es = subst (λ (d : Entry). AllAfter d.path es) same r.0 in
          ap (λ (l : List Entry). put_zone (record { dir = dir.row.id; key = key }) (zones_of l)) (unmoved es (Dir (Some key)) (All-tail (IsFound rows) e es a) after)
          ∙ ap (λ (m : Option KeyName). put_zone (record { dir = dir.row.id; key = key }) (with_mark m e.row.id (zones_of es))) (sym (ap (λ (d : Entry). mark_of d.row.kind) same ∙ u))
      go false h g ih =
          ap (with_mark (mark_of e.row.kind) e.row.id) (ih g u)
          ∙ mark-put (mark_of e.row.kind) e.row.id (record { dir = dir.row.id; key = key }) (zones_of es) h

pub marked-is-a-zone : MarkedIsAZone
marked-is-a-zone rows dir key r found d u = (marked rows dir found rows key r.once r.rising found u, no-zone rows dir found rows r.once u)

-- a row that is found by an id has the id
pub found-has : (rows : List Entry) (id : ℕ) (e : Entry) → entry_of rows id ≡ Some e → e.row.id ≡ id
found-has [] id e h = cc
found-has (x ∷ xs) id e h = go (x.row.id == id) refl h (found-has xs id e)
  where
    go : (t : Bool) → (x.row.id == id) ≡ t → cond t (Some x) (entry_of xs id) ≡ Some e → (entry_of xs id ≡ Some e → e.row.id ≡ id) → e.row.id ≡ id
    go true f g ih = let same : x ≡ e = cc in subst (λ (d : Entry). d.row.id ≡ id) same (eqb-true _ _ f)
    go false f g ih = ih g

-- the row is a directory without a mark
abbrev pub is_plain : Entry → Bool
is_plain e = is_dir e.row.kind && is_none (mark_of e.row.kind)

none-from : (m : Option KeyName) → is_none m ≡ true → m ≡ None
none-from None h = refl
none-from (Some key) h = cc

-- the same if the directory is named by its id
pub marked-by-id : (rows : List Entry) (id : ℕ) (key : KeyName) → IsRows rows → option_map_or is_plain (entry_of rows id) false ≡ true
    → (zones_of (set_kind rows id (Dir (Some key))) ≡ put_zone (record { dir = id; key = key }) (zones_of rows)) × (zone_row (zones_of rows) id ≡ None) × (option_map_or (λ (e : Entry). is_dir e.row.kind) (entry_of rows id) false ≡ true)
marked-by-id rows id key r h = go (entry_of rows id) refl h
  where
    go : (o : Option Entry) → entry_of rows id ≡ o → option_map_or is_plain o false ≡ true
        → (zones_of (set_kind rows id (Dir (Some key))) ≡ put_zone (record { dir = id; key = key }) (zones_of rows)) × (zone_row (zones_of rows) id ≡ None) × (option_map_or (λ (e : Entry). is_dir e.row.kind) o false ≡ true)
    go None e f = cc
    go (Some dir) e f =
        let same : dir.row.id ≡ id = found-has rows id dir e in
        let parts = and_parts (is_dir dir.row.kind) (is_none (mark_of dir.row.kind)) f in
        let law = marked-is-a-zone rows dir key r (ap (entry_of rows) same ∙ e) parts.0 (none-from _ parts.1) in (
          subst (λ (i : ℕ). zones_of (set_kind rows i (Dir (Some key))) ≡ put_zone (record { dir = i; key = key }) (zones_of rows)) same law.0,
          subst (λ (i : ℕ). zone_row (zones_of rows) i ≡ None) same law.1,
          parts.0,
        )

-- the zones are in order of their directories' ids
abbrev pub AllFrom : ℕ → List ZoneRow → Type 0
AllFrom dir [] = ⊤
AllFrom dir (x ∷ xs) = (nat_lt x.dir dir ≡ false) × AllFrom dir xs

abbrev pub IsOrdered : List ZoneRow → Type 0
IsOrdered [] = ⊤
IsOrdered (x ∷ xs) = AllFrom x.dir xs × IsOrdered xs

pub lt-le-trans : (a b c : ℕ) → nat_lt a b ≡ true → nat_lt c b ≡ false → nat_lt a c ≡ true
lt-le-trans a b c h k = grind (arith, nat_tests)

from-put : (dir : ℕ) (z : ZoneRow) (xs : List ZoneRow) → nat_lt z.dir dir ≡ false → AllFrom dir xs → AllFrom dir (put_zone z xs)
from-put dir z [] h a = (h, tt)
from-put dir z (x ∷ xs) h a = go (nat_lt z.dir x.dir) (from-put dir z xs h a.1)
  where
    go : (t : Bool) → AllFrom dir (put_zone z xs) → AllFrom dir (cond t (z ∷ x ∷ xs) (x ∷ put_zone z xs))
    go true ih = (h, a)
    go false ih = (a.0, ih)

from-lower : (b a : ℕ) (xs : List ZoneRow) → nat_lt b a ≡ true → AllFrom a xs → AllFrom b xs
from-lower b a [] h f = tt
from-lower b a (x ∷ xs) h f = (lt-not b x.dir (lt-le-trans b a x.dir h f.0), from-lower b a xs h f.1)

ordered-put : (z : ZoneRow) (xs : List ZoneRow) → IsOrdered xs → IsOrdered (put_zone z xs)
ordered-put z [] o = (tt, tt)
ordered-put z (x ∷ xs) o = go (nat_lt z.dir x.dir) refl (ordered-put z xs o.1)
  where
    go : (t : Bool) → nat_lt z.dir x.dir ≡ t → IsOrdered (put_zone z xs) → IsOrdered (cond t (z ∷ x ∷ xs) (x ∷ put_zone z xs))
    go true e ih = ((lt-not z.dir x.dir e, from-lower z.dir x.dir xs e o.0), o)
    go false e ih = (from-put x.dir z xs e o.0, ih)

ordered-mark : (m : Option KeyName) (id : ℕ) (xs : List ZoneRow) → IsOrdered xs → IsOrdered (with_mark m id xs)
ordered-mark None id xs o = o
ordered-mark (Some key) id xs o = ordered-put (record { dir = id; key = key }) xs o

pub zones-ordered : (es : List Entry) → IsOrdered (zones_of es)
zones-ordered [] = tt
zones-ordered (e ∷ es) = ordered-mark (mark_of e.row.kind) e.row.id (zones_of es) (zones-ordered es)
