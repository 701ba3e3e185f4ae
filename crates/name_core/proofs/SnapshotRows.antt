-- The rows at and below a directory, as they are seen from it: the row, the children and the zone at a path.
use Rattle.std.proofs.Common.{◌≡◌, ℕ, ◌+◌, ◌<◌, ◌≤◌, Bool, true, false, cond, ◌&&◌, List, [], ◌∷◌, ◌++◌, length, map, drop, nat_lt, Option, Some, None, refl, sym, ap, ◌∙◌, subst, arith}
use Rattle.std.specs.Prelude.{◌==◌}
use Rattle.std.specs.Bool.{⊤}
use Rattle.std.specs.List.{filter}
use Rattle.std.specs.Option.{option_map}
use Rattle.std.specs.Str.{bytes_eq}
use Rattle.std.proofs.lemmas.Bool.Decides.{nat_tests}
use Rattle.std.proofs.lemmas.List.{length-append}
use Rattle.std.proofs.lemmas.Slice.Eq.{bytes_eq-Decides}
use Rattle.std.proofs.lemmas.Bool.{le-ltb, lt-ltb, and_parts, and_from}
use Rattle.name_calls.specs.Paths.{is_child, is_prefix, last_name, parent, same_path}
use Rattle.inode_tree.specs.declared.rows.Row.{Row}
use Rattle.inode_tree.specs.Below.{rows_below, seen_from}
use Rattle.inode_tree.specs.Listing.{child_of, children}
use Rattle.inode_tree.specs.Rows.{Entry, is_marked, is_zone_over, longer, row_at, zone_of}
use Rattle.inode_tree.proofs.Seeks.{same-is}
use Rattle.inode_tree.proofs.ZoneLemmas.{prefix-itself, prefix-whole}
use Rattle.snap_store.proofs.Zones.{prefix-length}
use Rattle.name_core.specs.Reads.{path_of_zone, zone_in_or_above, zone_over}
use Rattle.name_core.proofs.DeleteLaws.{swap-bytes}
use Rattle.name_core.proofs.LawLemmas.{prefix-parent}
use Rattle.name_core.proofs.SnapshotZones.{over-parent}

-- a path at or below the directory, seen from the directory

pub after-prefix : (p x : List (List ℕ)) → is_prefix p x ≡ true → x ≡ p ++ drop (length p) x
after-prefix [] x h = refl
after-prefix (a ∷ p) [] h = absurd cc
after-prefix (a ∷ p) (c ∷ x) h =
    let parts = and_parts (bytes_eq a c) (is_prefix p x) h in
    let same : a ≡ c = (bytes_eq-Decides a c).0 parts.0 in
    λ i. sym same i ∷ after-prefix p x parts.1 i

-- the path under the directory
abbrev pub under : List (List ℕ) → List (List ℕ) → List (List ℕ)
under p x = drop (length p) x

longer-by : (p x : List (List ℕ)) → is_prefix p x ≡ true → length x ≡ length p + length (under p x)
longer-by p x h = ap length (after-prefix p x h) ∙ length-append p (under p x)

regroup : (b p e : Bool) → (b && (p && e)) ≡ ((b && p) && e)
regroup true p e = refl
regroup false p e = refl

same-under : (p q x : List (List ℕ)) → same_path x (p ++ q) ≡ (is_prefix p x && same_path (under p x) q)
same-under [] q x = refl
same-under (a ∷ p) q [] = refl
same-under (a ∷ p) q (c ∷ x) = (λ i. swap-bytes c a i && same-under p q x i) ∙ regroup (bytes_eq a c) (is_prefix p x) (same_path (under p x) q)

prefix-under : (p q x : List (List ℕ)) → is_prefix (p ++ q) x ≡ (is_prefix p x && is_prefix q (under p x))
prefix-under [] q x = refl
prefix-under (a ∷ p) q [] = refl
prefix-under (a ∷ p) q (c ∷ x) = ap (λ (b : Bool). bytes_eq a c && b) (prefix-under p q x) ∙ regroup (bytes_eq a c) (is_prefix p x) (is_prefix q (under p x))

-- a path at or below the directory is a prefix of another one if it is one seen from the directory
prefix-seen : (p x q : List (List ℕ)) → is_prefix p x ≡ true → is_prefix x (p ++ q) ≡ is_prefix (under p x) q
prefix-seen [] x q h = refl
prefix-seen (a ∷ p) [] q h = absurd cc
prefix-seen (a ∷ p) (c ∷ x) q h =
    let parts = and_parts (bytes_eq a c) (is_prefix p x) h in
    ap (λ (b : Bool). b && is_prefix x (p ++ q)) (sym (swap-bytes a c) ∙ parts.0) ∙ prefix-seen p x q parts.1

-- another path is a prefix of a path below the directory only if it is one of the directory's
prefix-beside : (p x q : List (List ℕ)) → is_prefix p x ≡ false → is_prefix x (p ++ q) ≡ is_prefix x p
prefix-beside [] x q h = absurd cc
prefix-beside (a ∷ p) [] q h = refl
prefix-beside (a ∷ p) (c ∷ x) q h = go (bytes_eq c a) (ap (λ (b : Bool). b && is_prefix p x) (swap-bytes c a) ∙ h) (prefix-beside p x q)
  where
    go : (b : Bool) → (b && is_prefix p x) ≡ false → (is_prefix p x ≡ false → is_prefix x (p ++ q) ≡ is_prefix x p) → (b && is_prefix x (p ++ q)) ≡ (b && is_prefix x p)
    go true h rest = rest h
    go false h rest = refl

prefix-longer : (x p q : List (List ℕ)) → is_prefix x p ≡ true → is_prefix x (p ++ q) ≡ true
prefix-longer [] p q h = refl
prefix-longer (a ∷ x) [] q h = absurd cc
prefix-longer (a ∷ x) (b ∷ p) q h = let parts = and_parts (bytes_eq a b) (is_prefix x p) h in and_from (bytes_eq a b) (is_prefix x (p ++ q)) parts.0 (prefix-longer x p q parts.1)

-- the row at a path

pub row-below : (rows : List Entry) (p q : List (List ℕ)) → row_at (rows_below rows p) q ≡ row_at rows (p ++ q)
row-below [] p q = refl
row-below (e ∷ rows) p q = go (is_prefix p e.path) refl (row-below rows p q)
  where
    go : (t : Bool) → is_prefix p e.path ≡ t → row_at (rows_below rows p) q ≡ row_at rows (p ++ q)
        → row_at (map (seen_from (length p)) (cond t (e ∷ filter (λ f. is_prefix p f.path) rows) (filter (λ f. is_prefix p f.path) rows))) q ≡ row_at (e ∷ rows) (p ++ q)
    go true is rest =
        ap (λ (o : Option Row). cond (same_path (under p e.path) q) (Some e.row) o) rest
        ∙ ap (λ (b : Bool). cond b (Some e.row) (row_at rows (p ++ q))) (sym (same-under p q e.path ∙ ap (λ (b : Bool). b && same_path (under p e.path) q) is))
    go false is rest = rest ∙ ap (λ (b : Bool). cond b (Some e.row) (row_at rows (p ++ q))) (sym (same-under p q e.path ∙ ap (λ (b : Bool). b && same_path (under p e.path) q) is))

-- the children of a directory

last-under : (p : List (List ℕ)) (y : List ℕ) (ys : List (List ℕ)) → last_name (p ++ y ∷ ys) ≡ last_name (y ∷ ys)
last-under [] y ys = refl
last-under (a ∷ []) y ys = refl
last-under (a ∷ b ∷ p) y ys = last-under (b ∷ p) y ys

one-deeper : (a b c : ℕ) → (a + b == a + c + 1) ≡ (b == c + 1)
one-deeper a b c = go (b == c + 1) refl
  where
    yes : (b == c + 1) ≡ true → (a + b == a + c + 1) ≡ true
    yes h = grind (arith, nat_tests, h)

    no : (b == c + 1) ≡ false → (a + b == a + c + 1) ≡ false
    no h = grind (arith, nat_tests, h)

    go : (t : Bool) → (b == c + 1) ≡ t → (a + b == a + c + 1) ≡ t
    go true h = yes h
    go false h = no h

-- a child, seen from the directory
child-under : (p q x : List (List ℕ)) → is_prefix p x ≡ true → is_child (p ++ q) x ≡ is_child q (under p x)
child-under p q x h = λ i. (prefix-under p q x ∙ ap (λ (b : Bool). b && is_prefix q (under p x)) h) i && sizes i
  where
    sizes : (length x == length (p ++ q) + 1) ≡ (length (under p x) == length q + 1)
    sizes = (λ i. longer-by p x h i == length-append p q i + 1) ∙ one-deeper (length p) (length (under p x)) (length q)

child-beside : (p q x : List (List ℕ)) → is_prefix p x ≡ false → is_child (p ++ q) x ≡ false
child-beside p q x h = ap (λ (b : Bool). b && (length x == length (p ++ q) + 1)) (prefix-under p q x ∙ ap (λ (b : Bool). b && is_prefix q (under p x)) h)

never-one : (n : ℕ) → (0 == n + 1) ≡ true → ⊥
never-one n h = absurd (grind (arith, nat_tests, h))

last-seen : (p q x : List (List ℕ)) → is_prefix p x ≡ true → is_child q (under p x) ≡ true → last_name (under p x) ≡ last_name x
last-seen p q x h child = go (under p x) refl child
  where
    go : (u : List (List ℕ)) → under p x ≡ u → is_child q u ≡ true → last_name u ≡ last_name x
    go [] is child = absurd (never-one (length q) (and_parts (is_prefix q []) (0 == length q + 1) child).1)
    go (y ∷ ys) is child = sym (last-under p y ys) ∙ ap last_name (sym (after-prefix p x h ∙ ap (λ (u : List (List ℕ)). p ++ u) is))

pub children-below : (rows : List Entry) (p q : List (List ℕ)) → children (rows_below rows p) q ≡ children rows (p ++ q)
children-below [] p q = refl
children-below (e ∷ rows) p q = go (is_prefix p e.path) refl (children-below rows p q)
  where
    below : List Entry
    below = filter (λ (f : Entry). is_child q f.path) (rows_below rows p)

    others : List Entry
    others = filter (λ (f : Entry). is_child (p ++ q) f.path) rows

    step : is_prefix p e.path ≡ true → (u : Bool) → is_child q (under p e.path) ≡ u → map child_of below ≡ map child_of others
        → map child_of (cond u (seen_from (length p) e ∷ below) below) ≡ map child_of (cond u (e ∷ others) others)
    step is true child rest = λ i. (record { name = last-seen p q e.path is child i; directory = (child_of e).directory }) ∷ rest i
    step is false child rest = rest

    go : (t : Bool) → is_prefix p e.path ≡ t → map child_of below ≡ map child_of others
        → map child_of (filter (λ (f : Entry). is_child q f.path) (map (seen_from (length p)) (cond t (e ∷ filter (λ f. is_prefix p f.path) rows) (filter (λ f. is_prefix p f.path) rows))))
        ≡ map child_of (cond (is_child (p ++ q) e.path) (e ∷ others) others)
    go true is rest =
        step is (is_child q (under p e.path)) refl rest ∙ ap (λ (u : Bool). map child_of (cond u (e ∷ others) others)) (sym (child-under p q e.path is))
    go false is rest = rest ∙ ap (λ (u : Bool). map child_of (cond u (e ∷ others) others)) (sym (child-beside p q e.path is))

-- the zone of a path

-- the path of a zone above the directory has fewer names
abbrev IsAbove : List (List ℕ) → Option Entry → Type 0
IsAbove p None = ⊤
IsAbove p (Some e) = length e.path < length p

-- The zone of a path below the directory, that of the path as it is seen from the directory, and the zone of the directory: if the second
-- is there, it is the first; otherwise the first and the third are the same, and above the directory.
abbrev AreZones : List (List ℕ) → Option Entry → Option Entry → Option Entry → Type 0
AreZones p whole None up = (whole ≡ up) × IsAbove p up
AreZones p whole (Some e) up = (f : Entry) × (whole ≡ Some f) × (f.path ≡ p ++ e.path)

more-lt : (n a b : ℕ) → nat_lt (n + a) (n + b) ≡ nat_lt a b
more-lt n a b = go (nat_lt a b) refl
  where
    yes : nat_lt a b ≡ true → nat_lt (n + a) (n + b) ≡ true
    yes h = grind (arith, nat_tests, h)

    no : nat_lt a b ≡ false → nat_lt (n + a) (n + b) ≡ false
    no h = grind (arith, nat_tests, h)

    go : (t : Bool) → nat_lt a b ≡ t → nat_lt (n + a) (n + b) ≡ t
    go true h = yes h
    go false h = no h

shorter-prefix : (x p : List (List ℕ)) → is_prefix x p ≡ true → is_prefix p x ≡ false → length x < length p
shorter-prefix x p h g = go (nat_lt (length x) (length p)) refl
  where
    under-it : nat_lt (length x) (length p) ≡ true → length x < length p
    under-it e = grind (arith, nat_tests, e)

    at-it : nat_lt (length x) (length p) ≡ false → length p ≤ length x
    at-it e = grind (arith, nat_tests, e)

    go : (t : Bool) → nat_lt (length x) (length p) ≡ t → length x < length p
    go true e = under-it e
    go false e =
        let same : x ≡ p = prefix-whole x p h (at-it e) in
        let f : true ≡ false = sym (ap (is_prefix p) same ∙ prefix-itself p) ∙ g in absurd cc

module _ (p : List (List ℕ)) (x : Entry) where
  -- a zone at or below the directory
  zone-below : is_prefix p x.path ≡ true → (whole seen up up' : Option Entry) → AreZones p whole seen up
      → AreZones p (Some (longer x whole)) (Some (longer (seen_from (length p) x) seen)) up'
  zone-below h whole None up up' zones = first up zones.1 zones.0
    where
      size : length p ≤ length x.path
      size = prefix-length p x.path h

      first : (o : Option Entry) → IsAbove p o → whole ≡ o → (f : Entry) × (Some (longer x whole) ≡ Some f) × (f.path ≡ p ++ under p x.path)
      first None above is = (x, ap (λ (o : Option Entry). Some (longer x o)) is, after-prefix p x.path h)
      first (Some u) above is = (
        x,
        ap (λ (o : Option Entry). Some (longer x o)) is ∙ ap (λ (b : Bool). Some (cond b u x)) (le-ltb (length x.path) (length u.path) (omega (arith, above, size))),
        after-prefix p x.path h,
      )
  zone-below h whole (Some e) up up' zones = (
    longer x (Some zones.0),
    ap (λ (o : Option Entry). Some (longer x o)) zones.1,
    ap (λ (b : Bool). (cond b zones.0 x).path) sizes ∙ deeper (nat_lt (length (under p x.path)) (length e.path)),
  )
    where
      sizes : nat_lt (length x.path) (length zones.0.path) ≡ nat_lt (length (under p x.path)) (length e.path)
      sizes = (λ i. nat_lt (longer-by p x.path h i) ((ap length zones.2 ∙ length-append p e.path) i)) ∙ more-lt (length p) (length (under p x.path)) (length e.path)

      deeper : (b : Bool) → (cond b zones.0 x).path ≡ p ++ (cond b e (seen_from (length p) x)).path
      deeper true = zones.2
      deeper false = after-prefix p x.path h

  above-either : (o : Option Entry) → length x.path < length p → IsAbove p o → IsAbove p (Some (longer x o))
  above-either None h g = h
  above-either (Some u) h g = go (nat_lt (length x.path) (length u.path))
    where
      go : (b : Bool) → length (cond b u x).path < length p
      go true = g
      go false = h

  -- a zone above it
  zone-beside : length x.path < length p → (whole seen up : Option Entry) → AreZones p whole seen up → AreZones p (Some (longer x whole)) seen (Some (longer x up))
  zone-beside h whole None up zones = (ap (λ (o : Option Entry). Some (longer x o)) zones.0, above-either up h zones.1)
  zone-beside h whole (Some e) up zones =
      let size : length zones.0.path ≡ length p + length e.path = ap length zones.2 ∙ length-append p e.path in (
        zones.0,
        ap (λ (o : Option Entry). Some (longer x o)) zones.1 ∙ ap (λ (b : Bool). Some (cond b zones.0 x)) (lt-ltb (length x.path) (length zones.0.path) (omega (arith, h, size))),
        zones.2,
      )

pub zones-below : (rows : List Entry) (p q : List (List ℕ)) → AreZones p (zone_of rows (p ++ q)) (zone_of (rows_below rows p) q) (zone_of rows p)
zones-below [] p q = (refl, tt)
zones-below (x ∷ rows) p q = go (is_prefix p x.path) refl (zones-below rows p q)
  where
    whole : Option Entry
    whole = zone_of rows (p ++ q)

    seen : Option Entry
    seen = zone_of (rows_below rows p) q

    up : Option Entry
    up = zone_of rows p

    -- a row at or below the directory is over the directory only if it is over the path as well
    over-too : is_prefix p x.path ≡ true → is_zone_over p x ≡ true → (is_marked x.row && is_prefix (under p x.path) q) ≡ true
    over-too h over =
        let parts = and_parts (is_marked x.row) (is_prefix x.path p) over in
        and_from (is_marked x.row) (is_prefix (under p x.path) q) parts.0 (sym (prefix-seen p x.path q h) ∙ prefix-longer x.path p q parts.1)

    outside : (u v : Bool) → (v ≡ true → u ≡ true) → u ≡ false → v ≡ false
    outside u true h g = let f : true ≡ false = sym (h refl) ∙ g in absurd cc
    outside u false h g = refl

    here : is_prefix p x.path ≡ true → (u : Bool) → (is_marked x.row && is_prefix (under p x.path) q) ≡ u → (v : Bool) → is_zone_over p x ≡ v → AreZones p whole seen up
        → AreZones p (cond u (Some (longer x whole)) whole) (cond u (Some (longer (seen_from (length p) x) seen)) seen) (cond v (Some (longer x up)) up)
    here h true over v is zones = zone-below p x h whole seen up (cond v (Some (longer x up)) up) zones
    here h false over v is zones =
        subst (λ (b : Bool). AreZones p whole seen (cond b (Some (longer x up)) up)) (sym (outside false v (λ e. sym over ∙ over-too h (is ∙ e)) refl)) zones

    beside : is_prefix p x.path ≡ false → (u : Bool) → is_zone_over p x ≡ u → AreZones p whole seen up → AreZones p (cond u (Some (longer x whole)) whole) seen (cond u (Some (longer x up)) up)
    beside h true over zones = zone-beside p x (shorter-prefix x.path p (and_parts (is_marked x.row) (is_prefix x.path p) over).1 h) whole seen up zones
    beside h false over zones = zones

    go : (t : Bool) → is_prefix p x.path ≡ t → AreZones p whole seen up
        → AreZones p (zone_of (x ∷ rows) (p ++ q)) (zone_of (map (seen_from (length p)) (cond t (x ∷ filter (λ f. is_prefix p f.path) rows) (filter (λ f. is_prefix p f.path) rows))) q) (zone_of (x ∷ rows) p)
    go true h zones =
        subst (λ (b : Bool). AreZones p (cond (is_marked x.row && b) (Some (longer x whole)) whole) (cond (is_marked x.row && is_prefix (under p x.path) q) (Some (longer (seen_from (length p) x) seen)) seen) (zone_of (x ∷ rows) p))
        (sym (prefix-seen p x.path q h)) (here h (is_marked x.row && is_prefix (under p x.path) q) refl (is_zone_over p x) refl zones)
    go false h zones =
        subst (λ (b : Bool). AreZones p (cond (is_marked x.row && b) (Some (longer x whole)) whole) seen (zone_of (x ∷ rows) p)) (sym (prefix-beside p x.path q h)) (beside h (is_zone_over p x) refl zones)

-- if the zone of the directory is above it, it is that of its parent

first-short : (x : Entry) (o : Option Entry) (n : ℕ) → length (longer x o).path < n → length x.path < n
first-short x None n h = h
first-short x (Some f) n h = go (nat_lt (length x.path) (length f.path)) refl h
  where
    less : nat_lt (length x.path) (length f.path) ≡ true → length f.path < n → length x.path < n
    less e g = grind (arith, nat_tests, e, g)

    go : (b : Bool) → nat_lt (length x.path) (length f.path) ≡ b → length (cond b f x).path < n → length x.path < n
    go true e g = less e g
    go false e g = g

rest-short : (x f : Entry) (n : ℕ) → length (longer x (Some f)).path < n → length f.path < n
rest-short x f n h = go (nat_lt (length x.path) (length f.path)) refl h
  where
    more : nat_lt (length x.path) (length f.path) ≡ false → length x.path < n → length f.path < n
    more e g = grind (arith, nat_tests, e, g)

    go : (b : Bool) → nat_lt (length x.path) (length f.path) ≡ b → length (cond b f x).path < n → length f.path < n
    go true e g = g
    go false e g = more e g

-- a row with a shorter path is a zone over the directory if it is one over its parent
over-up : (p : List (List ℕ)) (x : Entry) → (is_zone_over p x ≡ true → length x.path < length p) → is_zone_over p x ≡ is_zone_over (parent p) x
over-up p x short = go (same_path x.path p) refl
  where
    never : same_path x.path p ≡ true → is_marked x.row ≡ true → ⊥
    never here marked =
        let path : x.path ≡ p = same-is x.path p here in
        let size : length x.path ≡ length p = ap length path in
        let less = short (and_from (is_marked x.row) (is_prefix x.path p) marked (ap (λ (q : List (List ℕ)). is_prefix q p) path ∙ prefix-itself p)) in
        absurd (omega (arith, less, size))

    plain : same_path x.path p ≡ true → (m : Bool) → is_marked x.row ≡ m → (m && is_prefix x.path p) ≡ (m && is_prefix x.path (parent p))
    plain here true marked = absurd (never here marked)
    plain here false marked = refl

    go : (b : Bool) → same_path x.path p ≡ b → is_zone_over p x ≡ is_zone_over (parent p) x
    go true here = plain here (is_marked x.row) refl
    go false other = ap (λ (b : Bool). is_marked x.row && b) (prefix-parent x.path p other)

zone-up : (rows : List Entry) (p : List (List ℕ)) → IsAbove p (zone_of rows p) → zone_of rows p ≡ zone_of rows (parent p)
zone-up [] p h = refl
zone-up (x ∷ rows) p h =
    let short = parts (is_zone_over p x) refl (zone_of rows p) h in
    let over = over-up p x short.0 in
    let rest = zone-up rows p short.1 in
    λ i. cond (over i) (Some (longer x (rest i))) (rest i)
  where
    parts : (b : Bool) → is_zone_over p x ≡ b → (o : Option Entry) → IsAbove p (cond b (Some (longer x o)) o) → (is_zone_over p x ≡ true → length x.path < length p) × IsAbove p o
    parts true over None h = ((λ e. h), tt)
    parts true over (Some f) h = ((λ e. first-short x (Some f) (length p) h), rest-short x f (length p) h)
    parts false over o h = ((λ e. absurd (cc (e, over))), h)

over-above : (rows : List Entry) (p : List (List ℕ)) → IsAbove p (zone_of rows p) → zone_over rows p ≡ path_of_zone rows p
over-above rows [] h = none (zone_of rows []) h
  where
    none : (o : Option Entry) → IsAbove [] o → None ≡ option_map (λ (e : Entry). e.path) o
    none None h = refl
    none (Some e) h = absurd (omega (arith, h))
over-above rows (x ∷ p) h = over-parent rows (x ∷ p) (λ e. cc) ∙ ap (option_map (λ (e : Entry). e.path)) (sym (zone-up rows (x ∷ p) h))

-- the path of the zone, seen from the root
pub zone-path-below : (rows : List Entry) (p q : List (List ℕ)) → zone_in_or_above rows p (zone_of (rows_below rows p) q) ≡ path_of_zone rows (p ++ q)
zone-path-below rows p q = go (zone_of (rows_below rows p) q) (zones-below rows p q)
  where
    go : (seen : Option Entry) → AreZones p (zone_of rows (p ++ q)) seen (zone_of rows p) → zone_in_or_above rows p seen ≡ path_of_zone rows (p ++ q)
    go None zones = over-above rows p zones.1 ∙ ap (option_map (λ (e : Entry). e.path)) (sym zones.0)
    go (Some e) zones = ap Some (sym zones.2) ∙ ap (option_map (λ (f : Entry). f.path)) (sym zones.1)
