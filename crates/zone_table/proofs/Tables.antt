-- A table of zones is determined by what it has at each directory.
use Rattle.std.proofs.Common.{◌≡◌, ℕ, Bool, true, false, cond, List, [], ◌∷◌, Option, None, Some, refl, sym, ap, ◌∙◌, arith}
use Rattle.std.specs.Prelude.{◌==◌, nat_lt, ⊤}
use Rattle.std.specs.Bool.{nat_eq}
use Rattle.std.specs.HashMap.{HashMap, IsUnique, get}
use Rattle.std.specs.List.{AllByRecursion, IsDistinct}
use Rattle.std.specs.Map.{keys_of, lookup}
use Rattle.std.specs.Option.{option_map}
use Rattle.std.proofs.lemmas.Bool.Decides.{nat_tests}
use Rattle.std.proofs.lemmas.Bool.{eqb-true}
use Rattle.hk_base.specs.declared.names.KeyName.{KeyName}
use Rattle.zone_table.specs.declared.zones.ZoneRow.{ZoneRow}
use Rattle.zone_table.specs.Zones.{by_directory, put_zone, without_zone, zone_row}
use Rattle.zone_table.proofs.Marks.{lt-trans}

-- each zone has a higher id
abbrev pub AllOver : ℕ → List ZoneRow → Type 0
AllOver dir [] = ⊤
AllOver dir (x ∷ xs) = (nat_lt dir x.dir ≡ true) × AllOver dir xs

-- the ids increase strictly
abbrev pub IsSteep : List ZoneRow → Type 0
IsSteep [] = ⊤
IsSteep (x ∷ xs) = AllOver x.dir xs × IsSteep xs

pub same : (a : ℕ) → (a == a) ≡ true
same a = grind (arith, nat_tests)

flip : (a b : ℕ) → (a == b) ≡ nat_eq b a
flip a b = grind (arith, nat_tests)

below : (a b : ℕ) → nat_lt a b ≡ true → (b == a) ≡ false
below a b h = grind (arith, nat_tests)

above : (a b : ℕ) → nat_lt a b ≡ false → (b == a) ≡ false → nat_lt b a ≡ true
above a b h k = grind (arith, nat_tests)

tie : (a b : ℕ) → nat_lt a b ≡ false → nat_lt b a ≡ false → a ≡ b
tie a b h k = grind (arith, nat_tests)

-- the zone at a directory, if it has a key
abbrev pub row_of : ℕ → Option KeyName → Option ZoneRow
row_of dir key = option_map (λ k. record { dir = dir; key = k }) key

none-parts : (x : ZoneRow) (xs : List ZoneRow) (dir : ℕ) → zone_row (x ∷ xs) dir ≡ None → ((x.dir == dir) ≡ false) × (zone_row xs dir ≡ None)
none-parts x xs dir h = go (x.dir == dir) h
  where
    go : (t : Bool) → cond t (Some x) (zone_row xs dir) ≡ None → (t ≡ false) × (zone_row xs dir ≡ None)
    go true e = cc
    go false e = (refl, e)

pub without-none : (xs : List ZoneRow) (dir : ℕ) → zone_row xs dir ≡ None → without_zone xs dir ≡ xs
without-none [] dir h = refl
without-none (x ∷ xs) dir h =
    let parts = none-parts x xs dir h in
    ap (λ (t : Bool). cond t xs (x ∷ without_zone xs dir)) parts.0 ∙ ap (λ (ys : List ZoneRow). x ∷ ys) (without-none xs dir parts.1)

over-lower : (a b : ℕ) (xs : List ZoneRow) → nat_lt a b ≡ true → AllOver b xs → AllOver a xs
over-lower a b [] h o = tt
over-lower a b (x ∷ xs) h o = (lt-trans a b x.dir h o.0, over-lower a b xs h o.1)

over-put : (dir : ℕ) (z : ZoneRow) (xs : List ZoneRow) → nat_lt dir z.dir ≡ true → AllOver dir xs → AllOver dir (put_zone z xs)
over-put dir z [] h o = (h, tt)
over-put dir z (x ∷ xs) h o = go (nat_lt z.dir x.dir) (over-put dir z xs h o.1)
  where
    go : (t : Bool) → AllOver dir (put_zone z xs) → AllOver dir (cond t (z ∷ x ∷ xs) (x ∷ put_zone z xs))
    go true ih = (h, o)
    go false ih = (o.0, ih)

over-without : (dir : ℕ) (xs : List ZoneRow) (other : ℕ) → AllOver dir xs → AllOver dir (without_zone xs other)
over-without dir [] other o = tt
over-without dir (x ∷ xs) other o = go (x.dir == other) (over-without dir xs other o.1)
  where
    go : (t : Bool) → AllOver dir (without_zone xs other) → AllOver dir (cond t xs (x ∷ without_zone xs other))
    go true ih = o.1
    go false ih = (o.0, ih)

-- no zone is found below the first
none-over : (dir : ℕ) (xs : List ZoneRow) → AllOver dir xs → zone_row xs dir ≡ None
none-over dir [] o = refl
none-over dir (x ∷ xs) o = ap (λ (t : Bool). cond t (Some x) (zone_row xs dir)) (below dir x.dir o.0) ∙ none-over dir xs o.1

steep-put : (z : ZoneRow) (xs : List ZoneRow) → zone_row xs z.dir ≡ None → IsSteep xs → IsSteep (put_zone z xs)
steep-put z [] h s = (tt, tt)
steep-put z (x ∷ xs) h s = go (nat_lt z.dir x.dir) refl (steep-put z xs (none-parts x xs z.dir h).1 s.1)
  where
    go : (t : Bool) → nat_lt z.dir x.dir ≡ t → IsSteep (put_zone z xs) → IsSteep (cond t (z ∷ x ∷ xs) (x ∷ put_zone z xs))
    go true e ih = ((e, over-lower z.dir x.dir xs e s.0), s)
    go false e ih = (over-put x.dir z xs (above z.dir x.dir e (none-parts x xs z.dir h).0) s.0, ih)

steep-without : (xs : List ZoneRow) (dir : ℕ) → IsSteep xs → IsSteep (without_zone xs dir)
steep-without [] dir s = tt
steep-without (x ∷ xs) dir s = go (x.dir == dir) (steep-without xs dir s.1)
  where
    go : (t : Bool) → IsSteep (without_zone xs dir) → IsSteep (cond t xs (x ∷ without_zone xs dir))
    go true ih = s.1
    go false ih = (over-without x.dir xs dir s.0, ih)

-- what is found after a zone was added
pub row-added : (z : ZoneRow) (xs : List ZoneRow) (dir : ℕ) → zone_row xs z.dir ≡ None → zone_row (put_zone z xs) dir ≡ cond (z.dir == dir) (Some z) (zone_row xs dir)
row-added z [] dir h = refl
row-added z (x ∷ xs) dir h = go (nat_lt z.dir x.dir) (row-added z xs dir (none-parts x xs z.dir h).1)
  where
    swap : (t u : Bool) → (z.dir == dir) ≡ t → (x.dir == dir) ≡ u → cond u (Some x) (cond t (Some z) (zone_row xs dir)) ≡ cond t (Some z) (cond u (Some x) (zone_row xs dir))
    swap true true e f =
        let g : x.dir ≡ z.dir = eqb-true x.dir dir f ∙ sym (eqb-true z.dir dir e) in
        let k = (none-parts x xs z.dir h).0 in
        let m : (x.dir == z.dir) ≡ true = ap (λ (n : ℕ). x.dir == n) (sym g) ∙ same x.dir in cc
    swap true false e f = refl
    swap false u e f = refl

    go : (t : Bool) → zone_row (put_zone z xs) dir ≡ cond (z.dir == dir) (Some z) (zone_row xs dir) → zone_row (cond t (z ∷ x ∷ xs) (x ∷ put_zone z xs)) dir ≡ cond (z.dir == dir) (Some z) (zone_row (x ∷ xs) dir)
    go true ih = refl
    go false ih = ap (λ (o : Option ZoneRow). cond (x.dir == dir) (Some x) o) ih ∙ swap (z.dir == dir) (x.dir == dir) refl refl

-- what is found after a zone was removed
pub row-without : (xs : List ZoneRow) (dir q : ℕ) → IsSteep xs → zone_row (without_zone xs dir) q ≡ cond (dir == q) None (zone_row xs q)
row-without [] dir q s = go (dir == q)
  where
    go : (t : Bool) → zone_row [] q ≡ cond t None (zone_row [] q)
    go true = refl
    go false = refl
row-without (x ∷ xs) dir q s = go (x.dir == dir) refl (dir == q) refl (row-without xs dir q s.1)
  where
    go : (t : Bool) → (x.dir == dir) ≡ t → (u : Bool) → (dir == q) ≡ u → zone_row (without_zone xs dir) q ≡ cond (dir == q) None (zone_row xs q) → zone_row (cond t xs (x ∷ without_zone xs dir)) q ≡ cond u None (zone_row (x ∷ xs) q)
    go true e true f ih = ap (zone_row xs) (sym (eqb-true x.dir dir e ∙ eqb-true dir q f)) ∙ none-over x.dir xs s.0
    go true e false f ih = ap (λ (t : Bool). cond t (Some x) (zone_row xs q)) (sym (ap (λ (n : ℕ). n == q) (eqb-true x.dir dir e) ∙ f))
    go false e true f ih =
        ap (λ (t : Bool). cond t (Some x) (zone_row (without_zone xs dir) q)) (ap (λ (n : ℕ). x.dir == n) (sym (eqb-true dir q f)) ∙ e) ∙ ih ∙ ap (λ (t : Bool). cond t None (zone_row xs q)) f
    go false e false f ih = ap (λ (o : Option ZoneRow). cond (x.dir == q) (Some x) o) (ih ∙ ap (λ (t : Bool). cond t None (zone_row xs q)) f)

-- two tables with the same zone at each directory are equal
pub same-rows : (xs ys : List ZoneRow) → IsSteep xs → IsSteep ys → ((q : ℕ) → zone_row xs q ≡ zone_row ys q) → xs ≡ ys
same-rows [] [] s t h = refl
same-rows [] (y ∷ ys) s t h = let e = h y.dir ∙ ap (λ (u : Bool). cond u (Some y) (zone_row ys y.dir)) (same y.dir) in cc
same-rows (x ∷ xs) [] s t h = let e = sym (h x.dir) ∙ ap (λ (u : Bool). cond u (Some x) (zone_row xs x.dir)) (same x.dir) in cc
same-rows (x ∷ xs) (y ∷ ys) s t h = go (nat_lt x.dir y.dir) refl (nat_lt y.dir x.dir) refl (same-rows xs ys s.1 t.1)
  where
    first : (z : ZoneRow) (zs : List ZoneRow) → zone_row (z ∷ zs) z.dir ≡ Some z
    first z zs = ap (λ (u : Bool). cond u (Some z) (zone_row zs z.dir)) (same z.dir)

    tails : x.dir ≡ y.dir → (q : ℕ) (u : Bool) → (x.dir == q) ≡ u → cond u (Some x) (zone_row xs q) ≡ cond u (Some y) (zone_row ys q) → zone_row xs q ≡ zone_row ys q
    tails e q true f k =
        let g = eqb-true x.dir q f in
        ap (zone_row xs) (sym g) ∙ none-over x.dir xs s.0 ∙ sym (ap (zone_row ys) (sym (sym e ∙ g)) ∙ none-over y.dir ys t.0)
    tails e q false f k = k

    go : (a : Bool) → nat_lt x.dir y.dir ≡ a → (b : Bool) → nat_lt y.dir x.dir ≡ b → (((q : ℕ) → zone_row xs q ≡ zone_row ys q) → xs ≡ ys) → x ∷ xs ≡ y ∷ ys
    go true e b f ih = let k = sym (first x xs) ∙ h x.dir ∙ none-over x.dir (y ∷ ys) (e, over-lower x.dir y.dir ys e t.0) in cc
    go false e true f ih = let k = sym (first y ys) ∙ sym (h y.dir) ∙ none-over y.dir (x ∷ xs) (f, over-lower y.dir x.dir xs f s.0) in cc
    go false e false f ih =
        let d : x.dir ≡ y.dir = tie x.dir y.dir e f in
        let k : Some x ≡ Some y = sym (first x xs) ∙ h x.dir ∙ ap (zone_row (y ∷ ys)) d ∙ first y ys in
        let head : x ≡ y = cc in
        let rest : xs ≡ ys = ih (λ q. tails d q (x.dir == q) refl (h q ∙ ap (λ (n : ℕ). cond (n == q) (Some y) (zone_row ys q)) (sym d))) in cc

-- a key that differs from those of all entries is not found
absent : (k : ℕ) (es : List (ℕ × KeyName)) → AllByRecursion (λ y. nat_eq k y ≡ false) (keys_of es) → lookup (nat_eq k) es ≡ None
absent k [] a = refl
absent k (e ∷ es) a = ap (λ (t : Bool). cond t (Some e.1) (lookup (nat_eq k) es)) a.0 ∙ absent k es a.1

-- the table of some entries has the same at each directory as the entries
pub row-entries : (es : List (ℕ × KeyName)) (dir : ℕ) → IsDistinct nat_eq (keys_of es) → zone_row (by_directory es) dir ≡ row_of dir (lookup (nat_eq dir) es)
unfolding IsDistinct
row-entries [] dir d = refl
row-entries (e ∷ es) dir d =
    row-added (record { dir = e.0; key = e.1 }) (by_directory es) dir (row-entries es e.0 d.1 ∙ ap (row_of e.0) (absent e.0 es d.0))
    ∙ go (e.0 == dir) refl (row-entries es dir d.1)
  where
    go : (t : Bool) → (e.0 == dir) ≡ t → zone_row (by_directory es) dir ≡ row_of dir (lookup (nat_eq dir) es)
        → cond t (Some (record { dir = e.0; key = e.1 })) (zone_row (by_directory es) dir) ≡ row_of dir (cond (nat_eq dir e.0) (Some e.1) (lookup (nat_eq dir) es))
    go true f ih = ap (λ (n : ℕ). Some (record { dir = n; key = e.1 })) (eqb-true e.0 dir f) ∙ ap (λ (t : Bool). row_of dir (cond t (Some e.1) (lookup (nat_eq dir) es))) (sym (sym (flip e.0 dir) ∙ f))
    go false f ih = ih ∙ ap (λ (t : Bool). row_of dir (cond t (Some e.1) (lookup (nat_eq dir) es))) (sym (sym (flip e.0 dir) ∙ f))

pub steep-entries : (es : List (ℕ × KeyName)) → IsDistinct nat_eq (keys_of es) → IsSteep (by_directory es)
unfolding IsDistinct
steep-entries [] d = tt
steep-entries (e ∷ es) d = steep-put (record { dir = e.0; key = e.1 }) (by_directory es) (row-entries es e.0 d.1 ∙ ap (row_of e.0) (absent e.0 es d.0)) (steep-entries es d.1)

-- the tables of two maps, by what a look-up finds
module _ {S : Type 0} (m n : HashMap ℕ KeyName S) (d : IsUnique nat_eq m) (e : IsUnique nat_eq n) where
  pub table-same : ((q : ℕ) → get nat_eq n q ≡ get nat_eq m q) → by_directory n.entries ≡ by_directory m.entries
  table-same h = same-rows _ _ (steep-entries n.entries e) (steep-entries m.entries d) (λ q. row-entries n.entries q e ∙ ap (row_of q) (h q) ∙ sym (row-entries m.entries q d))

  pub table-put : (dir : ℕ) (key : KeyName) → zone_row (by_directory m.entries) dir ≡ None → ((q : ℕ) → get nat_eq n q ≡ cond (nat_eq dir q) (Some key) (get nat_eq m q)) → by_directory n.entries ≡ put_zone (record { dir = dir; key = key }) (by_directory m.entries)
  table-put dir key a h =
      same-rows _ _ (steep-entries n.entries e) (steep-put (record { dir = dir; key = key }) (by_directory m.entries) a (steep-entries m.entries d))
      (λ q. row-entries n.entries q e ∙ ap (row_of q) (h q) ∙ go q (nat_eq dir q) refl ∙ sym (row-added (record { dir = dir; key = key }) (by_directory m.entries) q a))
    where
      go : (q : ℕ) (t : Bool) → nat_eq dir q ≡ t → row_of q (cond t (Some key) (get nat_eq m q)) ≡ cond t (Some (record { dir = dir; key = key })) (zone_row (by_directory m.entries) q)
      go q true f = ap (λ (k : ℕ). Some (record { dir = k; key = key })) (sym (eqb-true dir q f))
      go q false f = sym (row-entries m.entries q d)

  pub table-without : (dir : ℕ) → ((q : ℕ) → get nat_eq n q ≡ cond (nat_eq dir q) None (get nat_eq m q)) → by_directory n.entries ≡ without_zone (by_directory m.entries) dir
  table-without dir h =
      same-rows _ _ (steep-entries n.entries e) (steep-without (by_directory m.entries) dir (steep-entries m.entries d))
      (λ q. row-entries n.entries q e ∙ ap (row_of q) (h q) ∙ go q (nat_eq dir q) ∙ sym (row-without (by_directory m.entries) dir q (steep-entries m.entries d)))
    where
      go : (q : ℕ) (t : Bool) → row_of q (cond t None (get nat_eq m q)) ≡ cond t None (zone_row (by_directory m.entries) q)
      go q true = refl
      go q false = sym (row-entries m.entries q d)
