-- The rows of a tree while those at and below a path are removed in path order, up to a place.
use Rattle.std.proofs.Common.{◌≡◌, ℕ, ◌<◌, ◌≤◌, zero, suc, Bool, true, false, not, cond, ◌||◌, List, [], ◌∷◌, length, get_or, Option, Some, None, refl, sym, ap, ◌∙◌, subst, arith}
use Rattle.std.specs.Prelude.{◌==◌, nat_lt, slice_get}
use Rattle.std.specs.List.{All}
use Rattle.std.specs.Option.{option_map}
use Rattle.std.proofs.lemmas.List.Elements.{All-head, All-tail}
use Rattle.std.proofs.lemmas.Bool.{eqb-true}
use Rattle.hk_base.specs.declared.names.KeyName.{KeyName}
use Rattle.inode_tree.specs.declared.rows.Row.{Row}
use Rattle.inode_tree.specs.Arena.{rank, rank_past}
use Rattle.name_calls.specs.Paths.{is_before, is_prefix}
use Rattle.inode_tree.specs.Rows.{AllAfter, Entry, IsRising, IsRows, entry_of, mark_of, removed}
use Rattle.inode_tree.proofs.Blocks.{prefix-not-before}
use Rattle.inode_tree.proofs.Pasts.{removed-none}
use Rattle.inode_tree.proofs.Ranks.{any_entry, rank-above}
use Rattle.inode_tree.proofs.Seeks.{not-before-itself}
use Rattle.zone_table.specs.declared.zones.ZoneRow.{ZoneRow}
use Rattle.zone_table.specs.Zones.{put_zone, with_mark, without_zone, zone_row, zones_of}
use Rattle.zone_table.proofs.Marks.{AllFrom, IsFound, IsOrdered, eq-flip, lt-le-trans, put-behind, put-front, row-mark, zones-ordered}
use Rattle.zone_table.proofs.Tables.{same, without-none}

-- the rows before a place that are neither at the path nor below it, and all rows from the place on
abbrev pub kept_rows : List (List ℕ) → ℕ → List Entry → List Entry
kept_rows p zero es = es
kept_rows p (suc k) [] = []
kept_rows p (suc k) (e ∷ es) = cond (is_prefix p e.path) (kept_rows p k es) (e ∷ kept_rows p k es)

-- the rows before the path are not below it
pub kept-start : (p : List (List ℕ)) (es : List Entry) → kept_rows p (rank es p) es ≡ es
kept-start p [] = refl
kept-start p (e ∷ es) = go (is_before e.path p) refl (is_prefix p e.path) refl (kept-start p es)
  where
    go : (s : Bool) → is_before e.path p ≡ s → (t : Bool) → is_prefix p e.path ≡ t → kept_rows p (rank es p) es ≡ es → kept_rows p (cond s (suc (rank es p)) 0) (e ∷ es) ≡ e ∷ es
    go true f true g ih = let k = prefix-not-before p e.path g in cc
    go true f false g ih = ap (λ (t : Bool). cond t (kept_rows p (rank es p) es) (e ∷ kept_rows p (rank es p) es)) g ∙ ap (λ (l : List Entry). e ∷ l) ih
    go false f t g ih = refl

-- the row comes after the path and after all rows below it
abbrev pub IsPast : List (List ℕ) → Option Entry → Type 0
IsPast p o = (e : Entry) → o ≡ Some e → (is_before e.path p || is_prefix p e.path) ≡ false

-- if the next row comes after all rows below the path, so do all later ones
pub kept-end : (p : List (List ℕ)) (es : List Entry) (at : ℕ) → IsRising es → IsPast p (slice_get es at) → kept_rows p at es ≡ removed p es
kept-end p [] zero r h = refl
kept-end p [] (suc k) r h = refl
kept-end p (e ∷ es) zero r h = sym (removed-none (e ∷ es) p r (none (h e refl)))
  where
    none : (is_before e.path p || is_prefix p e.path) ≡ false → rank_past (e ∷ es) p ≤ rank (e ∷ es) p
    none f = subst (λ (t : Bool). cond t (suc (rank_past es p)) 0 ≤ rank (e ∷ es) p) (sym f) (omega arith)
kept-end p (e ∷ es) (suc k) r h = go (is_prefix p e.path) (kept-end p es k r.1 h)
  where
    go : (t : Bool) → kept_rows p k es ≡ removed p es → cond t (kept_rows p k es) (e ∷ kept_rows p k es) ≡ cond (not t) (e ∷ removed p es) (removed p es)
    go true ih = ih
    go false ih = ap (λ (l : List Entry). e ∷ l) ih

-- a row from the path's place on that is not below the path comes after all that are
pub past-from : (p : List (List ℕ)) (es : List Entry) (at : ℕ) → IsRising es → rank es p ≤ at → ((e : Entry) → slice_get es at ≡ Some e → is_prefix p e.path ≡ false) → IsPast p (slice_get es at)
past-from p es at r b h e g = go (is_before e.path p) refl
  where
    within : (es : List Entry) (k : ℕ) → slice_get es k ≡ Some e → (k < length es) × (get_or es k any_entry ≡ e)
    within [] k g = cc
    within (x ∷ es) zero g = let f : x ≡ e = cc in (omega arith, f)
    within (x ∷ es) (suc k) g = let w = within es k g in (omega (arith, w.0), w.1)

    go : (t : Bool) → is_before e.path p ≡ t → (t || is_prefix p e.path) ≡ false
    go true f =
        let w = within es at g in
        let low = rank-above es p at r w.0 (ap (λ (x : Entry). is_before x.path p) w.1 ∙ f) in absurd (omega arith)
    go false f = h e g

-- removing a zone that was just added gives the earlier zones
without-put : (z : ZoneRow) (xs : List ZoneRow) → zone_row xs z.dir ≡ None → without_zone (put_zone z xs) z.dir ≡ xs
without-put z [] h = ap (λ (t : Bool). cond t [] (z ∷ [])) (same z.dir)
without-put z (x ∷ xs) h = go (nat_lt z.dir x.dir) (x.dir == z.dir) refl h (without-put z xs)
  where
    go : (t u : Bool) → (x.dir == z.dir) ≡ u → cond u (Some x) (zone_row xs z.dir) ≡ None → (zone_row xs z.dir ≡ None → without_zone (put_zone z xs) z.dir ≡ xs) → without_zone (cond t (z ∷ x ∷ xs) (x ∷ put_zone z xs)) z.dir ≡ x ∷ xs
    go true u f n ih = ap (λ (t : Bool). cond t (x ∷ xs) (z ∷ without_zone (x ∷ xs) z.dir)) (same z.dir)
    go false true f n ih = cc
    go false false f n ih = ap (λ (t : Bool). cond t (put_zone z xs) (x ∷ without_zone (put_zone z xs) z.dir)) f ∙ ap (λ (l : List ZoneRow). x ∷ l) (ih n)

-- a zone whose id is lower than all others is added at the front
put-first : (z : ZoneRow) (xs : List ZoneRow) (dir : ℕ) → nat_lt z.dir dir ≡ true → AllFrom dir xs → put_zone z xs ≡ z ∷ xs
put-first z [] dir h a = refl
put-first z (x ∷ xs) dir h a = put-front z x xs (lt-le-trans z.dir dir x.dir h a.0)

without-other : (z : ZoneRow) (xs : List ZoneRow) (dir : ℕ) → (z.dir == dir) ≡ false → IsOrdered xs → without_zone (put_zone z xs) dir ≡ put_zone z (without_zone xs dir)
without-other z [] dir d o = ap (λ (t : Bool). cond t [] (z ∷ [])) d
without-other z (x ∷ xs) dir d o = go (nat_lt z.dir x.dir) refl (x.dir == dir) refl (without-other z xs dir d o.1)
  where
    go : (t : Bool) → nat_lt z.dir x.dir ≡ t → (u : Bool) → (x.dir == dir) ≡ u → without_zone (put_zone z xs) dir ≡ put_zone z (without_zone xs dir)
        → without_zone (cond t (z ∷ x ∷ xs) (x ∷ put_zone z xs)) dir ≡ put_zone z (cond u xs (x ∷ without_zone xs dir))
    go true e u f ih =
        ap (λ (t : Bool). cond t (x ∷ xs) (z ∷ without_zone (x ∷ xs) dir)) d
        ∙ ap (λ (t : Bool). z ∷ cond t xs (x ∷ without_zone xs dir)) f ∙ sym (front u)
      where
        front : (u : Bool) → put_zone z (cond u xs (x ∷ without_zone xs dir)) ≡ z ∷ cond u xs (x ∷ without_zone xs dir)
        front true = put-first z xs x.dir e o.0
        front false = put-front z x (without_zone xs dir) e
    go false e true f ih = ap (λ (t : Bool). cond t (put_zone z xs) (x ∷ without_zone (put_zone z xs) dir)) f
    go false e false f ih =
        ap (λ (t : Bool). cond t (put_zone z xs) (x ∷ without_zone (put_zone z xs) dir)) f ∙ ap (λ (l : List ZoneRow). x ∷ l) ih
        ∙ sym (put-behind z x (without_zone xs dir) e)

mark-here : (m : Option KeyName) (id : ℕ) (zs : List ZoneRow) → zone_row zs id ≡ None → without_zone (with_mark m id zs) id ≡ zs
mark-here None id zs n = without-none zs id n
mark-here (Some key) id zs n = without-put (record { dir = id; key = key }) zs n

mark-other : (m : Option KeyName) (id dir : ℕ) (zs : List ZoneRow) → (id == dir) ≡ false → IsOrdered zs → without_zone (with_mark m id zs) dir ≡ with_mark m id (without_zone zs dir)
mark-other None id dir zs d o = refl
mark-other (Some key) id dir zs d o = without-other (record { dir = id; key = key }) zs dir d o

module _ (rows : List Entry) where
  -- rows that follow another have different ids
  other-id : (x e : Entry) → IsFound rows x → IsFound rows e → is_before x.path e.path ≡ true → (x.row.id == e.row.id) ≡ false
  other-id x e f g b = go (x.row.id == e.row.id) refl
    where
      go : (t : Bool) → (x.row.id == e.row.id) ≡ t → t ≡ false
      go true h =
          let i = eqb-true _ _ h in
          let j : Some x ≡ Some e = sym f ∙ ap (entry_of rows) i ∙ g in
          let same : x ≡ e = cc in
          let k : is_before x.path x.path ≡ true = ap (λ (y : Entry). is_before x.path y.path) same ∙ b in
          let n = not-before-itself x.path in cc
      go false h = refl

  -- the zone of a row is not among those of the later rows
  none-later : (e : Entry) (es : List Entry) → IsFound rows e → All (IsFound rows) es → AllAfter e.path es → zone_row (zones_of es) e.row.id ≡ None
  none-later e [] f a after = refl
  none-later e (x ∷ es) f a after =
      row-mark (mark_of x.row.kind) x.row.id (zones_of es) e.row.id (eq-flip e.row.id x.row.id (other-id e x f (All-head (IsFound rows) x es a) after.0))
      ∙ none-later e es f (All-tail (IsFound rows) x es a) after.1

  after-get : (p : List (List ℕ)) (es : List Entry) (at : ℕ) (e : Entry) → AllAfter p es → slice_get es at ≡ Some e → is_before p e.path ≡ true
  after-get p [] at e a g = cc
  after-get p (x ∷ es) zero e a g = let f : x ≡ e = cc in subst (λ (y : Entry). is_before p y.path ≡ true) f a.0
  after-get p (x ∷ es) (suc k) e a g = after-get p es k e a.1 g

  found-get : (es : List Entry) (at : ℕ) (e : Entry) → All (IsFound rows) es → slice_get es at ≡ Some e → IsFound rows e
  found-get [] at e a g = cc
  found-get (x ∷ es) zero e a g = let f : x ≡ e = cc in subst (IsFound rows) f (All-head (IsFound rows) x es a)
  found-get (x ∷ es) (suc k) e a g = found-get es k e (All-tail (IsFound rows) x es a) g

  -- the row at the place is removed, and its zone with it
  step : (p : List (List ℕ)) (es : List Entry) (at : ℕ) (e : Entry) → All (IsFound rows) es → IsRising es → slice_get es at ≡ Some e → is_prefix p e.path ≡ true → zones_of (kept_rows p (suc at) es) ≡ without_zone (zones_of (kept_rows p at es)) e.row.id
  step p [] at e a r g h = cc
  step p (x ∷ es) zero e a r g h =
      let f : x ≡ e = cc in
      let t : is_prefix p x.path ≡ true = ap (λ (y : Entry). is_prefix p y.path) f ∙ h in
      ap (λ (t : Bool). zones_of (cond t es (x ∷ es))) t
      ∙ sym (mark-here (mark_of x.row.kind) x.row.id (zones_of es) (none-later x es (All-head (IsFound rows) x es a) (All-tail (IsFound rows) x es a) r.0))
      ∙ ap (λ (y : Entry). without_zone (zones_of (x ∷ es)) y.row.id) f
  step p (x ∷ es) (suc k) e a r g h = go (is_prefix p x.path) (step p es k e (All-tail (IsFound rows) x es a) r.1 g h)
    where
      go : (t : Bool) → zones_of (kept_rows p (suc k) es) ≡ without_zone (zones_of (kept_rows p k es)) e.row.id
          → zones_of (cond t (kept_rows p (suc k) es) (x ∷ kept_rows p (suc k) es)) ≡ without_zone (zones_of (cond t (kept_rows p k es) (x ∷ kept_rows p k es))) e.row.id
      go true ih = ih
      go false ih =
          ap (with_mark (mark_of x.row.kind) x.row.id) ih
          ∙ sym (mark-other (mark_of x.row.kind) x.row.id e.row.id (zones_of (kept_rows p k es))
          (other-id x e (All-head (IsFound rows) x es a) (found-get es k e (All-tail (IsFound rows) x es a) g) (after-get x.path es k e r.0 g)) (zones-ordered (kept_rows p k es)))

-- what one iteration removes
pub kept-step : (rows : List Entry) (p : List (List ℕ)) (at : ℕ) (row : Row) → IsRows rows → option_map (λ (e : Entry). e.row) (slice_get rows at) ≡ Some row → option_map (λ (e : Entry). is_prefix p e.path) (slice_get rows at) ≡ Some true
    → without_zone (zones_of (kept_rows p at rows)) row.id ≡ zones_of (kept_rows p (suc at) rows)
kept-step rows p at row r f g = go (slice_get rows at) refl f g
  where
    go : (o : Option Entry) → slice_get rows at ≡ o → option_map (λ (e : Entry). e.row) o ≡ Some row → option_map (λ (e : Entry). is_prefix p e.path) o ≡ Some true → without_zone (zones_of (kept_rows p at rows)) row.id ≡ zones_of (kept_rows p (suc at) rows)
    go None h f g = cc
    go (Some e) h f g =
        let i : e.row ≡ row = cc in
        let t : is_prefix p e.path ≡ true = cc in
        ap (λ (y : Row). without_zone (zones_of (kept_rows p at rows)) y.id) (sym i) ∙ sym (step rows p rows at e r.once r.rising h t)

-- what is left if the next row is not below the path
pub kept-apart : (rows : List Entry) (p : List (List ℕ)) (at : ℕ) (t : Bool) → IsRows rows → rank rows p ≤ at → option_map (λ (e : Entry). is_prefix p e.path) (slice_get rows at) ≡ Some t → t ≡ false → zones_of (kept_rows p at rows) ≡ zones_of (removed p rows)
kept-apart rows p at t r b f g =
    ap zones_of (kept-end p rows at r.rising (past-from p rows at r.rising b
    (λ e h. let i : Some (is_prefix p e.path) ≡ Some t = sym (ap (option_map (λ (e : Entry). is_prefix p e.path)) h) ∙ f in let j : is_prefix p e.path ≡ t = cc in j ∙ g)))

-- what is left if there is no next row
pub kept-none : (rows : List Entry) (p : List (List ℕ)) (at : ℕ) → IsRows rows → length rows ≤ at → zones_of (kept_rows p at rows) ≡ zones_of (removed p rows)
kept-none rows p at r b = ap zones_of (kept-end p rows at r.rising (λ e h. absurd (beyond rows at b e h)))
  where
    beyond : (es : List Entry) (k : ℕ) → length es ≤ k → (e : Entry) → slice_get es k ≡ Some e → ⊥
    beyond [] k b e h = cc
    beyond (x ∷ es) zero b e h = omega arith
    beyond (x ∷ es) (suc k) b e h = beyond es k (omega arith) e h
