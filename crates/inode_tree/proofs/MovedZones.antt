-- The zones of paths after a move.
use Rattle.std.proofs.Common.{◌≡◌, ℕ, ◌+◌, ◌-◌, ◌<◌, ◌≤◌, Bool, true, false, cond, ◌&&◌, ◌||◌, List, [], ◌∷◌, ◌++◌, length, length-take, get_or, drop, map, Option, Some, None, refl, sym, ap, ◌∙◌, subst, arith, length-append, length-drop}
use Rattle.std.specs.Prelude.{◌==◌, nat_lt}
use Rattle.std.specs.Option.{option_map}
use Rattle.std.specs.Str.{bytes_eq}
use Rattle.std.specs.List.{AllByRecursion, filter}
use Rattle.std.proofs.lemmas.Bool.Decides.{nat_tests}
use Rattle.std.proofs.lemmas.Slice.Eq.{bytes_eq-Decides}
use Rattle.std.proofs.lemmas.Bool.{ltb-true, ltb-false, lt-ltb, le-ltb, and_parts}
use Rattle.name_calls.specs.Paths.{is_before, is_prefix, parent, same_path}
use Rattle.inode_tree.specs.Rows.{Entry, IsRows, is_marked, longer, move_allowed, put, row_at, same_id, zone_id, zone_of}
use Rattle.inode_tree.specs.Moves.{CanMove, in_order, moved, moved_path, renamed}
use Rattle.inode_tree.proofs.Asked.{parent-take}
use Rattle.inode_tree.proofs.Each.{each-from}
use Rattle.inode_tree.proofs.Lasts.{last-split}
use Rattle.inode_tree.proofs.MovedRows.{IsBelow, IsOff}
use Rattle.inode_tree.proofs.MovedLaws.{Apart, IsPlaced, apart, free, off-parent, placed, row-order, shorter-off, to-deep}
use Rattle.inode_tree.proofs.MovedPaths.{bytes-self, path-moves, path-stays, prefix-append, prefix-split, prefix-trans}
use Rattle.inode_tree.proofs.Puts.{absent-parts}
use Rattle.inode_tree.proofs.Seeks.{same-is, same-itself}
use Rattle.inode_tree.proofs.ZoneLemmas.{prefix-itself, prefix-length, prefix-snoc, zone-short}

-- one row more, if it is marked and the path is at it or below it
abbrev with_zone : List (List ℕ) → Entry → Option Entry → Option Entry
with_zone r e o = cond (is_marked e.row && is_prefix e.path r) (Some (longer e o)) o

-- rows whose paths have different lengths may be taken in either order
longer-swap : (e x : Entry) (o : Option Entry) → (length e.path ≡ length x.path → ⊥) → longer e (Some (longer x o)) ≡ longer x (Some (longer e o))
longer-swap e x None apart = go (nat_lt (length e.path) (length x.path)) refl (nat_lt (length x.path) (length e.path)) refl
  where
    go : (s : Bool) → nat_lt (length e.path) (length x.path) ≡ s → (t : Bool) → nat_lt (length x.path) (length e.path) ≡ t → cond s x e ≡ cond t e x
    go true a true b = let f = ltb-true _ _ a in let g = ltb-true _ _ b in absurd (omega arith)
    go true a false b = refl
    go false a true b = refl
    go false a false b = let f = ltb-false _ _ a in let g = ltb-false _ _ b in absurd (apart (omega arith))
longer-swap e x (Some f) apart = go (nat_lt (length e.path) (length f.path)) refl (nat_lt (length x.path) (length f.path)) refl
  where
    two : nat_lt (length e.path) (length f.path) ≡ false → nat_lt (length x.path) (length f.path) ≡ false → (s : Bool) → nat_lt (length e.path) (length x.path) ≡ s → (t : Bool) → nat_lt (length x.path) (length e.path) ≡ t → cond s x e ≡ cond t e x
    two c d true a true b = let f = ltb-true _ _ a in let g = ltb-true _ _ b in absurd (omega arith)
    two c d true a false b = refl
    two c d false a true b = refl
    two c d false a false b = let f = ltb-false _ _ a in let g = ltb-false _ _ b in absurd (apart (omega arith))

    go : (s : Bool) → nat_lt (length e.path) (length f.path) ≡ s → (t : Bool) → nat_lt (length x.path) (length f.path) ≡ t → longer e (Some (cond t f x)) ≡ longer x (Some (cond s f e))
    go true a true b = ap (λ (u : Bool). cond u f e) a ∙ sym (ap (λ (u : Bool). cond u f x) b)
    go true a false b =
        let low = ltb-true _ _ a in let high = ltb-false _ _ b in
        ap (λ (u : Bool). cond u x e) (lt-ltb (length e.path) (length x.path) (omega arith)) ∙ sym (ap (λ (u : Bool). cond u f x) b)
    go false a true b =
        let high = ltb-false _ _ a in let low = ltb-true _ _ b in
        ap (λ (u : Bool). cond u f e) a ∙ sym (ap (λ (u : Bool). cond u e x) (lt-ltb (length x.path) (length e.path) (omega arith)))
    go false a false b = two a b (nat_lt (length e.path) (length x.path)) refl (nat_lt (length x.path) (length e.path)) refl

-- paths above a path that have the same length are one
above-once : (a b r : List (List ℕ)) → is_prefix a r ≡ true → is_prefix b r ≡ true → length a ≡ length b → a ≡ b
above-once [] [] r h k l = refl
above-once [] (y ∷ b) r h k l = absurd (omega arith)
above-once (x ∷ a) [] r h k l = absurd (omega arith)
above-once (x ∷ a) (y ∷ b) [] h k l = cc
above-once (x ∷ a) (y ∷ b) (z ∷ r) h k l =
    let first = and_parts (bytes_eq x z) (is_prefix a r) h in
    let second = and_parts (bytes_eq y z) (is_prefix b r) k in
    let e : x ≡ z = (bytes_eq-Decides x z).0 first.0 in
    let f : y ≡ z = (bytes_eq-Decides y z).0 second.0 in
    let g : a ≡ b = above-once a b r first.1 second.1 (omega arith) in cc

zone-put : (e : Entry) (es : List Entry) (r : List (List ℕ)) → row_at es e.path ≡ None → zone_of (put e es) r ≡ with_zone r e (zone_of es r)
zone-put e [] r h = refl
zone-put e (x ∷ es) r h = go (is_before e.path x.path) (zone-put e es r (absent-parts x es e.path h).1)
  where
    swap : (s t : Bool) → (is_marked x.row && is_prefix x.path r) ≡ s → (is_marked e.row && is_prefix e.path r) ≡ t
        → cond s (Some (longer x (cond t (Some (longer e (zone_of es r))) (zone_of es r)))) (cond t (Some (longer e (zone_of es r))) (zone_of es r)) ≡ cond t (Some (longer e (cond s (Some (longer x (zone_of es r))) (zone_of es r)))) (cond s (Some (longer x (zone_of es r))) (zone_of es r))
    swap true true a b = ap (λ (f : Entry). Some f) (longer-swap x e (zone_of es r) (λ l.
        let f : x.path ≡ e.path = above-once x.path e.path r (and_parts (is_marked x.row) (is_prefix x.path r) a).1 (and_parts (is_marked e.row) (is_prefix e.path r) b).1 l in
        let g : same_path e.path e.path ≡ false = subst (λ (y : List (List ℕ)). same_path y e.path ≡ false) f (absent-parts x es e.path h).0 in
        let i = same-itself e.path in cc))
    swap true false a b = refl
    swap false true a b = refl
    swap false false a b = refl

    go : (t : Bool) → zone_of (put e es) r ≡ with_zone r e (zone_of es r) → zone_of (cond t (e ∷ x ∷ es) (x ∷ put e es)) r ≡ with_zone r e (with_zone r x (zone_of es r))
    go true ih = refl
    go false ih = ap (with_zone r x) ih ∙ swap (is_marked x.row && is_prefix x.path r) (is_marked e.row && is_prefix e.path r) refl refl

-- the order of rows does not matter
pub zone-order : (es : List Entry) (r : List (List ℕ)) → Apart es → zone_of (in_order es) r ≡ zone_of es r
zone-order [] r a = refl
zone-order (e ∷ es) r a = zone-put e (in_order es) r (row-order es e.path a.1 ∙ a.0) ∙ ap (with_zone r e) (zone-order es r a.1)

-- the first zone, or the second if there is none
abbrev pub or_zone : Option Entry → Option Entry → Option Entry
or_zone None o = o
or_zone (Some e) o = Some e

-- the zone of a path below p among the rows at p and below it
abbrev pub zone_inside : List (List ℕ) → List Entry → List (List ℕ) → Option Entry
zone_inside p rows x = zone_of (filter (λ e. is_prefix p e.path) rows) (p ++ x)

prefix-both : (q y x : List (List ℕ)) → is_prefix (q ++ y) (q ++ x) ≡ is_prefix y x
prefix-both [] y x = refl
prefix-both (a ∷ q) y x = ap (λ (b : Bool). b && is_prefix (q ++ y) (q ++ x)) (bytes-self a) ∙ prefix-both q y x

-- a path that is not below q is above all paths below q, or above none
cut-prefix : (e q x : List (List ℕ)) → is_prefix q e ≡ false → is_prefix e (q ++ x) ≡ is_prefix e q
cut-prefix e [] x h = cc
cut-prefix [] (b ∷ q) x h = refl
cut-prefix (a ∷ e) (b ∷ q) x h = go (bytes_eq a b) refl (cut-prefix e q x)
  where
    off : a ≡ b → is_prefix q e ≡ false
    off g = sym (ap (λ (u : Bool). u && is_prefix q e) ((bytes_eq-Decides b a).1 (sym g))) ∙ h

    go : (t : Bool) → bytes_eq a b ≡ t → (is_prefix q e ≡ false → is_prefix e (q ++ x) ≡ is_prefix e q) → (t && is_prefix e (q ++ x)) ≡ (t && is_prefix e q)
    go true f ih = ih (off ((bytes_eq-Decides a b).0 f))
    go false f ih = refl

shift-lt : (a b c d p q : ℕ) → c + p ≡ a + q → d + p ≡ b + q → nat_lt c d ≡ nat_lt a b
shift-lt a b c d p q e f = go (nat_lt a b) refl
  where
    go : (t : Bool) → nat_lt a b ≡ t → nat_lt c d ≡ t
    go true h = let i = ltb-true a b h in lt-ltb c d (omega arith)
    go false h = let i = ltb-false a b h in le-ltb c d (omega arith)

-- the rows at p and below it, and all other rows
module _ (p q : List (List ℕ)) (some : 0 < length q) (apart : is_prefix p (parent q) ≡ false) (x : List (List ℕ)) where
  -- a path above q is above its parent
  above-parent : (e : List (List ℕ)) → is_prefix q e ≡ false → is_prefix e (q ++ x) ≡ is_prefix e (parent q)
  above-parent e off =
      let split : q ≡ parent q ++ get_or q (length q - 1) [] ∷ [] = last-split q (length q - 1) (omega arith) ∙ ap (λ (r : List (List ℕ)). r ++ get_or q (length q - 1) [] ∷ []) (sym (parent-take q)) in
      cut-prefix e q x off ∙ ap (is_prefix e) split ∙ prefix-snoc e (parent q) (get_or q (length q - 1) [])
      ∙ ap (λ (t : Bool). is_prefix e (parent q) || t) (ap (same_path e) (sym split) ∙ apart-from (same_path e q) refl) ∙ none (is_prefix e (parent q))
    where
      none : (t : Bool) → (t || false) ≡ t
      none true = refl
      none false = refl

      apart-from : (t : Bool) → same_path e q ≡ t → t ≡ false
      apart-from true h = let f : is_prefix q e ≡ true = ap (is_prefix q) (same-is e q h) ∙ prefix-itself q in cc
      apart-from false h = refl

  parent-shorter : length (parent q) < length q
  parent-shorter = let e = ap length (parent-take q) in omega (arith, length-take (length q - 1) q)

  -- a moved path is longer than those above q
  moved-length : (r : List (List ℕ)) → is_prefix p r ≡ true → length (moved_path p q r) + length p ≡ length r + length q
  moved-length r h = let e = ap length (path-moves p q r h) in let l = prefix-length p r h in omega (arith, length-append q (drop (length p) r), length-drop (length p) r)

  longer-moved : (e i : Entry) → is_prefix p e.path ≡ true → is_prefix p i.path ≡ true → longer (moved p q e) (Some (moved p q i)) ≡ moved p q (longer e (Some i))
  longer-moved e i h k =
      ap (λ (t : Bool). cond t (moved p q i) (moved p q e)) (shift-lt (length e.path) (length i.path) (length (moved_path p q e.path)) (length (moved_path p q i.path)) (length p) (length q) (moved-length e.path h) (moved-length i.path k))
      ∙ go (nat_lt (length e.path) (length i.path))
    where
      go : (t : Bool) → cond t (moved p q i) (moved p q e) ≡ moved p q (cond t i e)
      go true = refl
      go false = refl

  prefix-moved : (r : List (List ℕ)) → is_prefix p r ≡ true → is_prefix (moved_path p q r) (q ++ x) ≡ is_prefix r (p ++ x)
  prefix-moved r h =
      ap (λ (s : List (List ℕ)). is_prefix s (q ++ x)) (path-moves p q r h) ∙ prefix-both q (drop (length p) r) x
      ∙ sym (ap (λ (s : List (List ℕ)). is_prefix s (p ++ x)) (prefix-split p r h) ∙ prefix-both p (drop (length p) r) x)

  inside-below : (es : List Entry) (i : Entry) → zone_inside p es x ≡ Some i → is_prefix p i.path ≡ true
  inside-below es i h = zone-of-all (filter (λ e. is_prefix p e.path) es) (each es) h
    where
      each : (es : List Entry) → AllByRecursion (IsBelow p) (filter (λ e. is_prefix p e.path) es)
      each [] = tt
      each (e ∷ es) = go (is_prefix p e.path) refl (each es)
        where
          go : (t : Bool) → is_prefix p e.path ≡ t → AllByRecursion (IsBelow p) (filter (λ e. is_prefix p e.path) es) → AllByRecursion (IsBelow p) (cond t (e ∷ filter (λ e. is_prefix p e.path) es) (filter (λ e. is_prefix p e.path) es))
          go true f ih = (f, ih)
          go false f ih = ih

      zone-of-all : (fs : List Entry) → AllByRecursion (IsBelow p) fs → zone_of fs (p ++ x) ≡ Some i → is_prefix p i.path ≡ true
      zone-of-all [] a h = cc
      zone-of-all (f ∷ fs) a h = go (is_marked f.row && is_prefix f.path (p ++ x)) (zone_of fs (p ++ x)) h (zone-of-all fs a.1)
        where
          two : (t : Bool) (g : Entry) → Some (cond t g f) ≡ Some i → (Some g ≡ Some i → is_prefix p i.path ≡ true) → is_prefix p i.path ≡ true
          two true g k ih = ih k
          two false g k ih = let e : f ≡ i = cc in subst (λ (y : Entry). is_prefix p y.path ≡ true) e a.0

          go : (t : Bool) (o : Option Entry) → cond t (Some (longer f o)) o ≡ Some i → (o ≡ Some i → is_prefix p i.path ≡ true) → is_prefix p i.path ≡ true
          go true None k ih = let e : f ≡ i = cc in subst (λ (y : Entry). is_prefix p y.path ≡ true) e a.0
          go true (Some g) k ih = two (nat_lt (length f.path) (length g.path)) g k ih
          go false o k ih = ih k

  abbrev both : Option Entry → Option Entry → Option Entry
  both i o = or_zone (option_map (moved p q) i) o

  -- one more row at p or below it
  step-in : (e : Entry) (m : Bool) (i o : Option Entry) → is_prefix p e.path ≡ true → ((f : Entry) → i ≡ Some f → is_prefix p f.path ≡ true) → ((f : Entry) → o ≡ Some f → length f.path ≤ length (parent q))
      → cond m (Some (longer (moved p q e) (both i o))) (both i o) ≡ both (cond m (Some (longer e i)) i) o
  step-in e false i o h a b = refl
  step-in e true None None h a b = refl
  step-in e true None (Some f) h a b =
      let l = moved-length e.path h in
      let k = b f refl in
      let s = parent-shorter in
      let r = prefix-length p e.path h in
      ap (λ (t : Bool). Some (cond t f (moved p q e))) (le-ltb (length (moved_path p q e.path)) (length f.path) (omega arith))
  step-in e true (Some i) o h a b = ap (λ (f : Entry). Some f) (longer-moved e i h (a i refl))

  -- one more row elsewhere
  step-out : (e : Entry) (m : Bool) (i o : Option Entry) → (m ≡ true → length e.path ≤ length (parent q)) → moved_path p q e.path ≡ e.path → ((f : Entry) → i ≡ Some f → is_prefix p f.path ≡ true)
      → cond m (Some (longer (moved p q e) (both i o))) (both i o) ≡ both i (cond m (Some (longer e o)) o)
  step-out e false i o s same a = refl
  step-out e true None o s same a = λ j. Some (longer (record e { path = same j }) o)
  step-out e true (Some i) o s same a =
      let l = moved-length i.path (a i refl) in
      let r = prefix-length p i.path (a i refl) in
      let k = s refl in
      let n = parent-shorter in
      let f = ap length same in
      ap (λ (t : Bool). Some (cond t (moved p q i) (moved p q e))) (lt-ltb (length (moved_path p q e.path)) (length (moved_path p q i.path)) (omega arith))

  -- the zone of a path at q or below it: that among the rows that moved, or else that of the parent of q
  pub zone-split : (es : List Entry) → AllByRecursion (λ e. is_prefix p e.path ≡ false → is_prefix q e.path ≡ false) es → zone_of (map (moved p q) es) (q ++ x) ≡ or_zone (option_map (moved p q) (zone_inside p es x)) (zone_of es (parent q))
  zone-split [] a = refl
  zone-split (e ∷ es) a = go (is_prefix p e.path) refl (zone-split es a.1)
    where
      go : (t : Bool) → is_prefix p e.path ≡ t → zone_of (map (moved p q) es) (q ++ x) ≡ both (zone_inside p es x) (zone_of es (parent q))
          → with_zone (q ++ x) (moved p q e) (zone_of (map (moved p q) es) (q ++ x)) ≡ both (zone_of (cond t (e ∷ filter (λ f. is_prefix p f.path) es) (filter (λ f. is_prefix p f.path) es)) (p ++ x)) (with_zone (parent q) e (zone_of es (parent q)))
      go true h ih =
          ap (with_zone (q ++ x) (moved p q e)) ih
          ∙ ap (λ (t : Bool). cond (is_marked e.row && t) (Some (longer (moved p q e) (both (zone_inside p es x) (zone_of es (parent q))))) (both (zone_inside p es x) (zone_of es (parent q)))) (prefix-moved e.path h)
          ∙ step-in e (is_marked e.row && is_prefix e.path (p ++ x)) (zone_inside p es x) (zone_of es (parent q)) h (inside-below es) (zone-short es (parent q))
          ∙ ap (both (with_zone (p ++ x) e (zone_inside p es x))) (sym (ap (λ (t : Bool). cond (is_marked e.row && t) (Some (longer e (zone_of es (parent q)))) (zone_of es (parent q))) (not-above (is_prefix e.path (parent q)) refl) ∙ never (is_marked e.row)))
        where
          not-above : (t : Bool) → is_prefix e.path (parent q) ≡ t → t ≡ false
          not-above true k = let f = prefix-trans p e.path (parent q) h k in cc
          not-above false k = refl

          never : (t : Bool) → cond (t && false) (Some (longer e (zone_of es (parent q)))) (zone_of es (parent q)) ≡ zone_of es (parent q)
          never true = refl
          never false = refl
      go false h ih =
          ap (with_zone (q ++ x) (moved p q e)) ih
          ∙ ap (λ (t : Bool). cond (is_marked e.row && t) (Some (longer (moved p q e) (both (zone_inside p es x) (zone_of es (parent q))))) (both (zone_inside p es x) (zone_of es (parent q)))) (ap (λ (s : List (List ℕ)). is_prefix s (q ++ x)) (path-stays p q e.path h) ∙ above-parent e.path (a.0 h))
          ∙ step-out e (is_marked e.row && is_prefix e.path (parent q)) (zone_inside p es x) (zone_of es (parent q)) (λ m. prefix-length e.path (parent q) (and_parts (is_marked e.row) (is_prefix e.path (parent q)) m).1) (path-stays p q e.path h) (inside-below es)

-- a path that is not above any moved row keeps its zone
zone-other : (p q r : List (List ℕ)) (es : List Entry) → is_prefix p r ≡ false → is_prefix q r ≡ false → zone_of (map (moved p q) es) r ≡ zone_of es r
zone-other p q r [] h k = refl
zone-other p q r (e ∷ es) h k =
    ap (with_zone r (moved p q e)) (zone-other p q r es h k) ∙ go (is_prefix p e.path) refl
  where
    off : (s a : List (List ℕ)) → is_prefix s a ≡ true → is_prefix s r ≡ false → (t : Bool) → is_prefix a r ≡ t → t ≡ false
    off s a u v true w = let f = prefix-trans s a r u w in cc
    off s a u v false w = refl

    never : (t : Bool) (f : Entry) → cond (t && false) (Some (longer f (zone_of es r))) (zone_of es r) ≡ zone_of es r
    never true f = refl
    never false f = refl

    skip : (f : Entry) → is_prefix f.path r ≡ false → with_zone r f (zone_of es r) ≡ zone_of es r
    skip f u = ap (λ (t : Bool). cond (is_marked f.row && t) (Some (longer f (zone_of es r))) (zone_of es r)) u ∙ never (is_marked f.row) f

    go : (t : Bool) → is_prefix p e.path ≡ t → with_zone r (moved p q e) (zone_of es r) ≡ with_zone r e (zone_of es r)
    go true u =
        let below : is_prefix q (moved_path p q e.path) ≡ true = ap (is_prefix q) (path-moves p q e.path u) ∙ prefix-append q (drop (length p) e.path) in
        skip (moved p q e) (off q (moved_path p q e.path) below k (is_prefix (moved_path p q e.path) r) refl)
        ∙ sym (skip e (off p e.path u h (is_prefix e.path r) refl))
    go false u = let f = path-stays p q e.path u in λ i. with_zone r (record e { path = f i }) (zone_of es r)

pub same-id-yes : (a b : Option ℕ) → same_id a b ≡ true → a ≡ b
same-id-yes None None h = refl
same-id-yes None (Some j) h = cc
same-id-yes (Some i) None h = cc
same-id-yes (Some i) (Some j) h = ap (λ (n : ℕ). Some n) (eq-yes i j h)
  where
    eq-yes : (a b : ℕ) → (a == b) ≡ true → a ≡ b
    eq-yes a b h = grind (arith, nat_tests)

stays-put : (p r : List (List ℕ)) → moved_path p p r ≡ r
stays-put p r = go (is_prefix p r) refl
  where
    go : (t : Bool) → is_prefix p r ≡ t → cond t (p ++ drop (length p) r) r ≡ r
    go true h = sym (prefix-split p r h)
    go false h = refl

moved-itself : (p : List (List ℕ)) (e : Entry) → moved p p e ≡ e
moved-itself p e = let f = stays-put p e.path in λ i. record e { path = f i }

map-itself : (p : List (List ℕ)) (es : List Entry) → map (moved p p) es ≡ es
map-itself p [] = refl
map-itself p (e ∷ es) = let f = moved-itself p e in let g = map-itself p es in λ i. f i ∷ g i

option-itself : (p : List (List ℕ)) (o : Option Entry) → option_map (moved p p) o ≡ o
option-itself p None = refl
option-itself p (Some e) = ap (λ (f : Entry). Some f) (moved-itself p e)

module _ (rows : List Entry) (p q : List (List ℕ)) (is : IsPlaced rows) (can : CanMove rows p q) where
  -- the zone of a path at q or below it: that among the moved rows, or else that of the parent of q
  pub zone-placed : (x : List (List ℕ)) → zone_of (renamed p q rows) (q ++ x) ≡ or_zone (option_map (moved p q) (zone_inside p rows x)) (zone_of rows (parent q))
  zone-placed x =
      zone-order (map (moved p q) rows) (q ++ x) (apart rows p q is can)
      ∙ zone-split p q (to-deep rows p q is can) (off-parent p q can.apart) x rows (each-from (IsOff q) (λ (e : Entry). is_prefix p e.path ≡ false → is_prefix q e.path ≡ false) (λ e h k. h) rows (free rows p q is can))

  -- and what it was before the move
  pub zone-placed-before : (x : List (List ℕ)) → zone_of rows (p ++ x) ≡ or_zone (zone_inside p rows x) (zone_of rows (parent p))
  zone-placed-before x =
      ap (λ (es : List Entry). zone_of es (p ++ x)) (sym (map-itself p rows))
      ∙ zone-split p p deep (shorter-off p (parent p) shorter) x rows (trivial rows)
      ∙ ap (λ (o : Option Entry). or_zone o (zone_of rows (parent p))) (option-itself p (zone_inside p rows x))
    where
      deep : 0 < length p
      deep = go p can.apart
        where
          go : (r : List (List ℕ)) → is_prefix r q ≡ false → 0 < length r
          go [] h = cc
          go (a ∷ r) h = omega arith

      shorter : length (parent p) < length p
      shorter = let d = deep in let e = ap length (parent-take p) in omega (arith, length-take (length p - 1) p)

      trivial : (es : List Entry) → AllByRecursion (λ e. is_prefix p e.path ≡ false → is_prefix p e.path ≡ false) es
      trivial [] = tt
      trivial (e ∷ es) = (λ h. h, trivial es)

  -- a path elsewhere stays in its zone
  pub zone-placed-elsewhere : (r : List (List ℕ)) → is_prefix p r ≡ false → is_prefix q r ≡ false → zone_of (renamed p q rows) r ≡ zone_of rows r
  zone-placed-elsewhere r h k = zone-order (map (moved p q) rows) r (apart rows p q is can) ∙ zone-other p q r rows h k

module _ (rows : List Entry) (p q : List (List ℕ)) (is : IsRows rows) (can : CanMove rows p q) where
  pub zone-renamed : (x : List (List ℕ)) → zone_of (renamed p q rows) (q ++ x) ≡ or_zone (option_map (moved p q) (zone_inside p rows x)) (zone_of rows (parent q))
  zone-renamed = zone-placed rows p q (placed rows is) can

  pub zone-before : (x : List (List ℕ)) → zone_of rows (p ++ x) ≡ or_zone (zone_inside p rows x) (zone_of rows (parent p))
  zone-before = zone-placed-before rows p q (placed rows is) can

  pub zone-elsewhere : (r : List (List ℕ)) → is_prefix p r ≡ false → is_prefix q r ≡ false → zone_of (renamed p q rows) r ≡ zone_of rows r
  zone-elsewhere = zone-placed-elsewhere rows p q (placed rows is) can

  -- if both parents lie in one zone, or both in none, each moved path stays in its zone
  pub zone-kept : move_allowed rows p q ≡ true → (x : List (List ℕ)) → zone_id (renamed p q rows) (q ++ x) ≡ zone_id rows (p ++ x)
  zone-kept allowed x = ap id-of (zone-renamed x) ∙ go (zone_inside p rows x) ∙ sym (ap id-of (zone-before x))
    where
      id-of : Option Entry → Option ℕ
      id-of o = option_map (λ (e : Entry). e.row.id) o

      go : (i : Option Entry) → id-of (or_zone (option_map (moved p q) i) (zone_of rows (parent q))) ≡ id-of (or_zone i (zone_of rows (parent p)))
      go None = sym (same-id-yes (zone_id rows (parent p)) (zone_id rows (parent q)) allowed)
      go (Some e) = refl
