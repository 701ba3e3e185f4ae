-- Texts of paths are read back.
use Rattle.std.proofs.Common.{◌≡◌, ℕ, ◌+◌, ◌<◌, ◌≤◌, zero, suc, Bool, true, false, cond, not, ◌&&◌, List, [], ◌∷◌, ◌++◌, length, get_or, take, drop, Option, Some, None, option_map, refl, sym, ap, ◌∙◌, subst, arith, append_assoc, codes, length-append, take-append-drop}
use Rattle.std.proofs.lemmas.List.{append-nil}
use Rattle.std.proofs.Math.Seq.{take-append_seam, drop-append_seam}
use Rattle.std.proofs.lemmas.Slice.Eq.{bytes_eq-Decides}
use Rattle.hk_base.specs.declared.texts.NoMemory.{NoMemory}
use Rattle.std.specs.Prelude.{◌==◌, Result, Ok, Err, IfOk}
use Rattle.std.specs.Str.{bytes_eq}
use Rattle.std.specs.List.{list_all, slice_split, before_first, onto_first, position_or_len}
use Rattle.std.proofs.lemmas.Bool.{leb-true, not-true, and_parts}
use Rattle.name_calls.specs.declared.read_paths.ReadPath.{ReadPath}
use Rattle.name_calls.specs.declared.read_paths.SnapPart.{SnapPart}
use Rattle.name_calls.specs.Paths.{absolute, is_absolute, is_component, is_plain_byte, is_relative, names_text, path_text, read_path, relative}
use Rattle.name_calls.specs.ReadPaths.{as_it_is, as_it_was, mark, mark_at, read_any_path, read_around, read_below, read_directory, read_in_snapshot, read_parts, snapshot_name, starts_mark}
use Rattle.name_calls.proofs.PathLemmas.{is_slash, parts_of, read-more}
use Rattle.place_texts.specs.Places.{IsRuled, IsSnapshotPart, below_part, is_whole_snapshot, part_text, place_below, raw, read_path_text, read_raw_place, whole_directory}

-- ---- a name has no slash, is not empty and is not `.snapshot`

abbrev slashless : List ℕ → Bool
slashless = list_all (λ b. not (is_slash b))

plain-slashless : (b : ℕ) → is_plain_byte b ≡ true → not (is_slash b) ≡ true
plain-slashless b h = let a = (and_parts _ _ h).0 in (and_parts _ _ a).0

each-slashless : (c : List ℕ) → list_all is_plain_byte c ≡ true → slashless c ≡ true
each-slashless [] h = refl
each-slashless (b ∷ c) h =
    let w = and_parts (is_plain_byte b) (list_all is_plain_byte c) h in
    let e : not (is_slash b) ≡ true = plain-slashless b w.0 in
    let f : slashless c ≡ true = each-slashless c w.1 in
    ap (λ (t : Bool). t && slashless c) e ∙ f

record IsName (c : List ℕ) : Type 0 where
  slashless : slashless c ≡ true
  some : 1 ≤ length c
  apart : bytes_eq c (codes ".snapshot") ≡ false

is-name : (c : List ℕ) → is_component c ≡ true → IsName c
is-name c h =
    let a = and_parts _ _ h in
    let b = and_parts _ _ a.0 in
    let d = and_parts _ _ b.0 in
    let e = and_parts _ _ d.0 in
    let f = and_parts _ _ e.0 in
    let g = and_parts _ _ f.0 in
    record {
      slashless = each-slashless c e.1;
      some = leb-true 1 (length c) g.0;
      apart = not-true (bytes_eq c (codes ".snapshot")) a.1;
    }

-- ---- bytes up to a slash

-- nothing, or bytes that begin with a slash
abbrev Ends : List ℕ → Type 0
Ends [] = Unit {0}
Ends (b ∷ t) = b ≡ 47

one-more : (n : ℕ) → 1 + n ≡ suc n
one-more n = omega arith

split-end : (c : List ℕ) → slashless c ≡ true → parts_of c ≡ c ∷ []
split-end [] h = refl
split-end (b ∷ c) h =
    let w = and_parts (not (is_slash b)) (slashless c) h in
    ap (λ (t : Bool). cond t ([] ∷ parts_of c) (onto_first b (parts_of c))) (not-true (is_slash b) w.0) ∙ ap (onto_first b) (split-end c w.1)

split-at : (c t : List ℕ) → slashless c ≡ true → parts_of (c ++ 47 ∷ t) ≡ c ∷ parts_of t
split-at [] t h = refl
split-at (b ∷ c) t h =
    let w = and_parts (not (is_slash b)) (slashless c) h in
    ap (λ (u : Bool). cond u ([] ∷ parts_of (c ++ 47 ∷ t)) (onto_first b (parts_of (c ++ 47 ∷ t)))) (not-true (is_slash b) w.0) ∙ ap (onto_first b) (split-at c t w.1)

names-split : (c : List ℕ) (cs : List (List ℕ)) → list_all is_component (c ∷ cs) ≡ true → parts_of (c ++ names_text cs) ≡ c ∷ cs
names-split c [] h = let w = and_parts (is_component c) (list_all is_component []) h in let n = is-name c w.0 in ap parts_of (append-nil c) ∙ split-end c n.slashless
names-split c (d ∷ cs) h =
    let w = and_parts (is_component c) (list_all is_component (d ∷ cs)) h in
    let n = is-name c w.0 in
    split-at c (d ++ names_text cs) n.slashless ∙ ap (λ (xs : List (List ℕ)). c ∷ xs) (names-split d cs w.1)

is-slash : (b : ℕ) → b ≡ 47 → is_slash b ≡ true
is-slash b e = ap is_slash e

before-end : (c t : List ℕ) → slashless c ≡ true → Ends t → before_first is_slash (c ++ t) ≡ c
before-end [] [] h e = refl
before-end [] (b ∷ t) h e = ap (λ (u : Bool). take (cond (not u) (1 + position_or_len is_slash t) 0) (b ∷ t)) (is-slash b e)
before-end (b ∷ c) t h e =
    let w = and_parts (not (is_slash b)) (slashless c) h in
    let at = position_or_len is_slash (c ++ t) in
    ap (λ (u : Bool). take (cond (not u) (1 + at) 0) (b ∷ c ++ t)) (not-true (is_slash b) w.0) ∙ ap (λ (n : ℕ). take n (b ∷ c ++ t)) (one-more at)
    ∙ ap (λ (xs : List ℕ). b ∷ xs) (before-end c t w.1 e)

-- ---- the mark

snap-start : (bs : List ℕ) → starts_mark (47 ∷ bs) ≡ true → before_first is_slash bs ≡ codes ".snapshot"
snap-start bs h =
    let e : take 11 (47 ∷ bs) ≡ mark = (bytes_eq-Decides (take 11 (47 ∷ bs)) mark).0 h in
    let f : take 10 bs ≡ codes ".snapshot" ++ 47 ∷ [] = ap (drop 1) e in
    let g : bs ≡ codes ".snapshot" ++ 47 ∷ drop 10 bs = sym (take-append-drop 10 bs) ∙ ap (λ (xs : List ℕ). xs ++ drop 10 bs) f in
    ap (before_first is_slash) g ∙ before-end (codes ".snapshot") (47 ∷ drop 10 bs) refl refl

not-snap : (c t : List ℕ) → IsName c → Ends t → starts_mark (47 ∷ c ++ t) ≡ false
not-snap c t n e = go (starts_mark (47 ∷ c ++ t)) refl
  where
    go : (u : Bool) → starts_mark (47 ∷ c ++ t) ≡ u → u ≡ false
    go true h =
        let same : c ≡ codes ".snapshot" = sym (before-end c t n.slashless e) ∙ snap-start (c ++ t) h in
        let yes : bytes_eq c (codes ".snapshot") ≡ true = (bytes_eq-Decides c (codes ".snapshot")).1 same in
        let no : true ≡ false = sym yes ∙ n.apart in
        absurd cc
    go false h = refl

no-start : (b : ℕ) (bs : List ℕ) → is_slash b ≡ false → starts_mark (b ∷ bs) ≡ false
no-start b bs h = go (starts_mark (b ∷ bs)) refl
  where
    go : (u : Bool) → starts_mark (b ∷ bs) ≡ u → u ≡ false
    go true s =
        let e : b ≡ 47 = ap (λ (xs : List ℕ). get_or xs 0 0) ((bytes_eq-Decides (take 11 (b ∷ bs)) mark).0 s) in
        let no : true ≡ false = sym (is-slash b e) ∙ h in
        absurd cc
    go false s = refl

shifted : (o : Option ℕ) (k : ℕ) → option_map (λ n. n + 1) (option_map (λ n. n + k) o) ≡ option_map (λ n. n + suc k) o
shifted None k = refl
shifted (Some n) k = ap (λ (m : ℕ). Some m) (omega arith)

nothing : (o : Option ℕ) → o ≡ option_map (λ n. n + 0) o
nothing None = refl
nothing (Some n) = ap (λ (m : ℕ). Some m) (omega arith)

mark-past : (c t : List ℕ) → slashless c ≡ true → mark_at (c ++ t) ≡ option_map (λ n. n + length c) (mark_at t)
mark-past [] t h = nothing (mark_at t)
mark-past (b ∷ c) t h =
    let w = and_parts (not (is_slash b)) (slashless c) h in
    ap (λ (u : Bool). cond u (Some 0) (option_map (λ n. n + 1) (mark_at (c ++ t)))) (no-start b (c ++ t) (not-true (is_slash b) w.0))
    ∙ ap (option_map (λ n. n + 1)) (mark-past c t w.1) ∙ shifted (mark_at t) (length c)

names-end : (p : List (List ℕ)) (t : List ℕ) → Ends t → Ends (names_text p ++ t)
names-end [] t e = e
names-end (c ∷ p) t e = refl

twice : (o : Option ℕ) (k j m : ℕ) → m ≡ suc (k + j) → option_map (λ n. n + suc k) (option_map (λ n. n + j) o) ≡ option_map (λ n. n + m) o
twice None k j m e = refl
twice (Some n) k j m e = ap (λ (x : ℕ). Some x) (omega arith)

names-past : (p : List (List ℕ)) (t : List ℕ) → list_all is_component p ≡ true → Ends t → mark_at (names_text p ++ t) ≡ option_map (λ n. n + length (names_text p)) (mark_at t)
names-past [] t h e = nothing (mark_at t)
names-past (c ∷ p) t h e =
    let w = and_parts (is_component c) (list_all is_component p) h in
    let n = is-name c w.0 in
    let u : List ℕ = names_text p ++ t in
    let apart : (c ++ names_text p) ++ t ≡ c ++ u = append_assoc c (names_text p) t in
    ap (λ (xs : List ℕ). mark_at (47 ∷ xs)) apart
    ∙ ap (λ (v : Bool). cond v (Some 0) (option_map (λ n. n + 1) (mark_at (c ++ u)))) (not-snap c u n (names-end p t e))
    ∙ ap (option_map (λ n. n + 1)) (mark-past c u n.slashless) ∙ shifted (mark_at u) (length c)
    ∙ ap (option_map (λ n. n + suc (length c))) (names-past p t w.1 e)
    ∙ twice (mark_at t) (length c) (length (names_text p)) (length (names_text (c ∷ p))) (omega (arith, length-append c (names_text p)))

-- ---- the parts of a text are read

record IsAbsolute (p : List (List ℕ)) : Type 0 where
  relative : is_relative p ≡ true
  names : list_all is_component p ≡ true

absolute-parts : (p : List (List ℕ)) → is_absolute p ≡ true → IsAbsolute p
absolute-parts p h = let a = and_parts _ _ h in let b = and_parts _ _ a.0 in record { relative = a.0; names = b.0 }

relative-names : (p : List (List ℕ)) → is_relative p ≡ true → list_all is_component p ≡ true
relative-names p h = (and_parts _ _ h).0

read-names : (c : List ℕ) (cs : List (List ℕ)) → is_absolute (c ∷ cs) ≡ true → read_path (names_text (c ∷ cs)) ≡ Some (c ∷ cs)
read-names c cs h =
    let a = absolute-parts (c ∷ cs) h in
    let w = and_parts (is_component c) (list_all is_component cs) a.names in
    let n = is-name c w.0 in
    let some = n.some in
    read-more (names_text (c ∷ cs)) (omega (arith, length-append c (names_text cs))) refl ∙ ap absolute (names-split c cs a.names)
    ∙ ap (λ (t : Bool). cond t (Some (c ∷ cs)) None) h

read-directory : (p : List (List ℕ)) → is_absolute p ≡ true → read_directory (names_text p) ≡ Some p
read-directory [] h = refl
read-directory (c ∷ cs) h = read-names c cs h

read-below : (p : List (List ℕ)) → is_relative p ≡ true → read_below (names_text p) ≡ Some p
read-below [] h = refl
read-below ([] ∷ cs) h = let n = is-name [] (and_parts (is_component []) (list_all is_component cs) (relative-names ([] ∷ cs) h)).0 in let some = n.some in absurd (omega arith)
read-below ((b ∷ c) ∷ cs) h = ap relative (names-split (b ∷ c) cs (relative-names ((b ∷ c) ∷ cs) h)) ∙ ap (λ (t : Bool). cond t (Some ((b ∷ c) ∷ cs)) None) h

names-only-end : (p : List (List ℕ)) → Ends (names_text p)
names-only-end [] = tt
names-only-end (c ∷ p) = refl

some-is : {X : Type 0} (x y : X) → Some x ≡ Some y → x ≡ y
some-is x y e = cc

-- ---- the texts are read back

live-back : (p : List (List ℕ)) → is_absolute p ≡ true → read_any_path (path_text p) ≡ Some (as_it_is p)
live-back [] h = refl
live-back (c ∷ cs) h =
    let bytes = names_text (c ∷ cs) in
    let a = absolute-parts (c ∷ cs) h in
    let none : mark_at bytes ≡ None = ap mark_at (sym (append-nil bytes)) ∙ names-past (c ∷ cs) [] a.names tt in
    ap (read_around bytes) none ∙ ap (option_map as_it_is) (read-names c cs h)

-- the parts of a text of a place in a snapshot
reads-parts : (p : List (List ℕ)) (name : List ℕ) (b : List (List ℕ)) → is_absolute p ≡ true → is_component name ≡ true
    → read_any_path (names_text p ++ mark ++ name ++ names_text b) ≡ read_parts (Some p) name (read_below (names_text b))
reads-parts p name b h e =
    ap read_any_path (append_assoc (np ++ mark) name (names_text b) ∙ append_assoc np mark rest) ∙ ap (read_around text) at ∙ ap (λ (xs : List ℕ). read_in_snapshot xs (drop (0 + length np + 11) text)) front ∙ ap (read_in_snapshot np) after
    ∙ ap (λ (o : Option (List (List ℕ))). read_parts o (snapshot_name rest) (read_below (drop (length (snapshot_name rest)) rest))) (read-directory p h)
    ∙ ap (λ (c : List ℕ). read_parts (Some p) c (read_below (drop (length c) rest))) named
    ∙ ap (λ (xs : List ℕ). read_parts (Some p) name (read_below xs)) (drop-append_seam name (names_text b))
  where
    np : List ℕ
    np = names_text p

    rest : List ℕ
    rest = name ++ names_text b

    text : List ℕ
    text = np ++ (mark ++ rest)

    at : mark_at text ≡ Some (0 + length np)
    at = let a = absolute-parts p h in names-past p (mark ++ rest) a.names refl

    front : take (0 + length np) text ≡ np
    front = let n : 0 + length np ≡ length np = omega arith in ap (λ (k : ℕ). take k text) n ∙ take-append_seam np (mark ++ rest)

    after : drop (0 + length np + 11) text ≡ rest
    after =
        let n : 0 + length np + 11 ≡ length (np ++ mark) = omega (arith, length-append np mark) in
        ap (λ (k : ℕ). drop k text) n ∙ ap (drop (length (np ++ mark))) (sym (append_assoc np mark rest)) ∙ drop-append_seam (np ++ mark) rest

    named : snapshot_name rest ≡ name
    named = let n = is-name name e in before-end name (names_text b) n.slashless (names-only-end b)

snapshot-back : (p : List (List ℕ)) (name : List ℕ) (b : List (List ℕ)) → is_absolute p ≡ true → is_component name ≡ true → is_relative b ≡ true
    → read_any_path (names_text p ++ mark ++ name ++ names_text b) ≡ Some (as_it_was p name b)
snapshot-back p name b h e f = reads-parts p name b h e ∙ ap (read_parts (Some p) name) (read-below b f) ∙ ap (λ (t : Bool). cond t (Some (as_it_was p name b)) None) e

part-back : (p : List (List ℕ)) (o : Option SnapPart) → is_absolute p ≡ true → IsSnapshotPart o → read_any_path (part_text p o) ≡ Some (record { path = p; snapshot = o })
part-back p None h part = live-back p h
part-back p (Some part) h (e, f) = snapshot-back p part.name part.below h e f

pub read-back : (place : ReadPath) → IsRuled place → read_any_path (read_path_text place) ≡ Some place
read-back place ruled = part-back place.path place.snapshot ruled.directory ruled.part

-- ---- the texts are read as nothing else

only-absolute : (p q : List (List ℕ)) → absolute p ≡ Some q → q ≡ p
only-absolute p q e = go (is_absolute p) e
  where
    go : (t : Bool) → cond t (Some p) None ≡ Some q → q ≡ p
    go true f = sym (some-is p q f)
    go false f = absurd cc

only-relative : (p q : List (List ℕ)) → relative p ≡ Some q → q ≡ p
only-relative p q e = go (is_relative p) e
  where
    go : (t : Bool) → cond t (Some p) None ≡ Some q → q ≡ p
    go true f = sym (some-is p q f)
    go false f = absurd cc

names-read-as : (c : List ℕ) (cs : List (List ℕ)) → list_all is_component (c ∷ cs) ≡ true → read_path (names_text (c ∷ cs)) ≡ absolute (c ∷ cs)
names-read-as c cs h =
    let w = and_parts (is_component c) (list_all is_component cs) h in
    let n = is-name c w.0 in
    let some = n.some in
    read-more (names_text (c ∷ cs)) (omega (arith, length-append c (names_text cs))) refl ∙ ap absolute (names-split c cs h)

only-below : (p q : List (List ℕ)) → list_all is_component p ≡ true → read_below (names_text p) ≡ Some q → q ≡ p
only-below [] q h e = sym (some-is [] q e)
only-below ([] ∷ cs) q h e = let n = is-name [] (and_parts (is_component []) (list_all is_component cs) h).0 in let some = n.some in absurd (omega arith)
only-below ((b ∷ c) ∷ cs) q h e = only-relative ((b ∷ c) ∷ cs) q (sym (ap relative (names-split (b ∷ c) cs h)) ∙ e)

live-only : (p : List (List ℕ)) (r : ReadPath) → list_all is_component p ≡ true → read_any_path (path_text p) ≡ Some r → r ≡ as_it_is p
live-only [] r h e = sym (some-is (as_it_is []) r e)
live-only (c ∷ cs) r h e =
    let bytes = names_text (c ∷ cs) in
    let none : mark_at bytes ≡ None = ap mark_at (sym (append-nil bytes)) ∙ names-past (c ∷ cs) [] h tt in
    go (absolute (c ∷ cs)) refl (sym (ap (read_around bytes) none ∙ ap (option_map as_it_is) (names-read-as c cs h)) ∙ e)
  where
    go : (o : Option (List (List ℕ))) → absolute (c ∷ cs) ≡ o → option_map as_it_is o ≡ Some r → r ≡ as_it_is (c ∷ cs)
    go None h f = absurd cc
    go (Some q) h f = sym (some-is (as_it_is q) r f) ∙ ap as_it_is (only-absolute (c ∷ cs) q h)

snapshot-only : (p : List (List ℕ)) (name : List ℕ) (b : List (List ℕ)) (r : ReadPath) → is_absolute p ≡ true → is_component name ≡ true → list_all is_component b ≡ true
    → read_any_path (names_text p ++ mark ++ name ++ names_text b) ≡ Some r → r ≡ as_it_was p name b
snapshot-only p name b r h e f is = go (read_below (names_text b)) refl (sym (reads-parts p name b h e) ∙ is)
  where
    go : (o : Option (List (List ℕ))) → read_below (names_text b) ≡ o → read_parts (Some p) name o ≡ Some r → r ≡ as_it_was p name b
    go None g i = absurd cc
    go (Some q) g i =
        let it : Some (as_it_was p name q) ≡ Some r = sym (ap (λ (t : Bool). cond t (Some (as_it_was p name q)) None) e) ∙ i in
        sym (some-is (as_it_was p name q) r it) ∙ ap (as_it_was p name) (only-below b q f g)

all-more : (p q : List (List ℕ)) → list_all is_component p ≡ true → list_all is_component q ≡ true → list_all is_component (p ++ q) ≡ true
all-more [] q h e = e
all-more (c ∷ p) q h e = let w = and_parts (is_component c) (list_all is_component p) h in let rest : list_all is_component (p ++ q) ≡ true = all-more p q w.1 e in ap (λ (t : Bool). t && list_all is_component (p ++ q)) w.0 ∙ rest

part-only : (p below : List (List ℕ)) (o : Option SnapPart) (r : ReadPath) → is_absolute p ≡ true → IsSnapshotPart o → is_relative below ≡ true
    → read_any_path (read_path_text (below_part p o below)) ≡ Some r → r ≡ below_part p o below
part-only p below None r h part few e = let a = absolute-parts p h in live-only (p ++ below) r (all-more p below a.names (relative-names below few)) e
part-only p below (Some part) r h (n, b) few e = snapshot-only p part.name (part.below ++ below) r h n (all-more part.below below (relative-names part.below b) (relative-names below few)) e

pub only-back : (place : ReadPath) (below : List (List ℕ)) (r : ReadPath) → IsRuled place → is_relative below ≡ true → read_any_path (read_path_text (place_below place below)) ≡ Some r → r ≡ place_below place below
only-back place below r ruled few e = part-only place.path below place.snapshot r ruled.directory ruled.part few e

-- ---- what is read is ruled

absolute-is : (p q : List (List ℕ)) → absolute p ≡ Some q → is_absolute q ≡ true
absolute-is p q e = go (is_absolute p) refl e
  where
    go : (t : Bool) → is_absolute p ≡ t → cond t (Some p) None ≡ Some q → is_absolute q ≡ true
    go true h f = let same : p ≡ q = some-is p q f in ap is_absolute (sym same) ∙ h
    go false h f = absurd cc

relative-is : (p q : List (List ℕ)) → relative p ≡ Some q → is_relative q ≡ true
relative-is p q e = go (is_relative p) refl e
  where
    go : (t : Bool) → is_relative p ≡ t → cond t (Some p) None ≡ Some q → is_relative q ≡ true
    go true h f = let same : p ≡ q = some-is p q f in ap is_relative (sym same) ∙ h
    go false h f = absurd cc

read-absolute : (bs : List ℕ) (q : List (List ℕ)) → read_path bs ≡ Some q → is_absolute q ≡ true
read-absolute [] q e = absurd cc
read-absolute (b ∷ []) q e = go (b == 47) e
  where
    go : (t : Bool) → cond t (Some []) None ≡ Some q → is_absolute q ≡ true
    go true f = let same : [] ≡ q = some-is [] q f in ap is_absolute (sym same)
    go false f = absurd cc
read-absolute (b ∷ c ∷ bs) q e = go (b == 47) e
  where
    go : (t : Bool) → cond t (absolute (parts_of (c ∷ bs))) None ≡ Some q → is_absolute q ≡ true
    go true f = absolute-is (parts_of (c ∷ bs)) q f
    go false f = absurd cc

directory-absolute : (bs : List ℕ) (q : List (List ℕ)) → read_directory bs ≡ Some q → is_absolute q ≡ true
directory-absolute [] q e = let same : [] ≡ q = some-is [] q e in ap is_absolute (sym same)
directory-absolute (b ∷ bs) q e = read-absolute (b ∷ bs) q e

below-relative : (bs : List ℕ) (q : List (List ℕ)) → read_below bs ≡ Some q → is_relative q ≡ true
below-relative [] q e = let same : [] ≡ q = some-is [] q e in ap is_relative (sym same)
below-relative (b ∷ []) q e = absurd cc
below-relative (b ∷ c ∷ bs) q e = relative-is (parts_of (c ∷ bs)) q e

parts-ruled : (o : Option (List (List ℕ))) (name : List ℕ) (b : Option (List (List ℕ))) (place : ReadPath) → ((q : List (List ℕ)) → o ≡ Some q → is_absolute q ≡ true) → ((q : List (List ℕ)) → b ≡ Some q → is_relative q ≡ true)
    → read_parts o name b ≡ Some place → IsRuled place
parts-ruled None name b place h f e = absurd cc
parts-ruled (Some p) name None place h f e = absurd cc
parts-ruled (Some p) name (Some b) place h f e = go (is_component name) refl e
  where
    go : (t : Bool) → is_component name ≡ t → cond t (Some (as_it_was p name b)) None ≡ Some place → IsRuled place
    go true n g = subst IsRuled (some-is (as_it_was p name b) place g) (record { directory = h p refl; part = (n, f b refl) })
    go false n g = absurd cc

around-ruled : (bs : List ℕ) (o : Option ℕ) (place : ReadPath) → read_around bs o ≡ Some place → IsRuled place
around-ruled bs None place e = go (read_path bs) refl e
  where
    go : (o : Option (List (List ℕ))) → read_path bs ≡ o → option_map as_it_is o ≡ Some place → IsRuled place
    go None h f = absurd cc
    go (Some q) h f = subst IsRuled (some-is (as_it_is q) place f) (record { directory = read-absolute bs q h; part = tt })
around-ruled bs (Some at) place e =
    let rest = drop (at + 11) bs in
    parts-ruled (read_directory (take at bs)) (snapshot_name rest) (read_below (drop (length (snapshot_name rest)) rest)) place
    (λ q is. directory-absolute (take at bs) q is) (λ q is. below-relative (drop (length (snapshot_name rest)) rest) q is) e

pub read-ruled : (bs : List ℕ) (place : ReadPath) → read_any_path bs ≡ Some place → IsRuled place
read-ruled bs place e = around-ruled bs (mark_at bs) place e

-- the text of names, and more of them
pub names-more : (p q : List (List ℕ)) → names_text (p ++ q) ≡ names_text p ++ names_text q
names-more [] q = refl
names-more (c ∷ p) q = ap (λ (xs : List ℕ). 47 ∷ c ++ xs) (names-more p q) ∙ ap (λ (xs : List ℕ). 47 ∷ xs) (sym (append_assoc c (names_text p) (names_text q)))

-- ---- the functions

pub no-names : (p : List (List ℕ)) → names_text p ≡ [] → p ≡ []
no-names [] e = refl
no-names (c ∷ p) e = absurd cc

some-names : (p : List (List ℕ)) → (names_text p ≡ [] → ⊥) → path_text p ≡ names_text p
some-names [] h = absurd (h refl)
some-names (c ∷ p) h = refl

-- nothing was written, and then a slash
pub root-text : (p q : List (List ℕ)) → names_text p ++ names_text q ≡ [] → path_text (p ++ q) ≡ 47 ∷ []
root-text p q e = ap path_text (no-names (p ++ q) (names-more p q ∙ e))

pub more-text : (p q : List (List ℕ)) → (names_text p ++ names_text q ≡ [] → ⊥) → path_text (p ++ q) ≡ names_text p ++ names_text q
more-text p q h = some-names (p ++ q) (λ e. h (sym (names-more p q) ∙ e)) ∙ names-more p q

pub snapshot-text : (front : List ℕ) (p q : List (List ℕ)) → (front ++ names_text p) ++ names_text q ≡ front ++ names_text (p ++ q)
snapshot-text front p q = append_assoc front (names_text p) (names_text q) ∙ ap (λ (xs : List ℕ). front ++ xs) (sym (names-more p q))

pub live-root : (p q : List (List ℕ)) (t t' t'' more : List ℕ) → t ≡ [] → t' ≡ t ++ names_text p → t'' ≡ t' ++ names_text q → t'' ≡ [] → more ≡ t'' ++ 47 ∷ [] → more ≡ path_text (p ++ q)
live-root p q t t' t'' more e f g h i =
    let all : t'' ≡ names_text p ++ names_text q = g ∙ ap (λ (xs : List ℕ). xs ++ names_text q) (f ∙ ap (λ (xs : List ℕ). xs ++ names_text p) e) in
    i ∙ ap (λ (xs : List ℕ). xs ++ 47 ∷ []) h ∙ sym (root-text p q (sym all ∙ h))

pub live-more : (p q : List (List ℕ)) (t t' t'' : List ℕ) → t ≡ [] → t' ≡ t ++ names_text p → t'' ≡ t' ++ names_text q → (t'' ≡ [] → ⊥) → t'' ≡ path_text (p ++ q)
live-more p q t t' t'' e f g h =
    let all : t'' ≡ names_text p ++ names_text q = g ∙ ap (λ (xs : List ℕ). xs ++ names_text q) (f ∙ ap (λ (xs : List ℕ). xs ++ names_text p) e) in
    all ∙ sym (more-text p q (λ none. h (all ∙ none)))

pub in-snapshot : (p b q : List (List ℕ)) (name bytes t t' t'' t3 t4 t5 : List ℕ) → t ≡ [] → t' ≡ t ++ names_text p → t'' ≡ t' ++ mark → t3 ≡ t'' ++ bytes → bytes ≡ name → t4 ≡ t3 ++ names_text b → t5 ≡ t4 ++ names_text q
    → t5 ≡ names_text p ++ mark ++ name ++ names_text (b ++ q)
in-snapshot p b q name bytes t t' t'' t3 t4 t5 e0 e1 e2 e3 same e4 e5 =
    let f : t3 ≡ names_text p ++ mark ++ name = e3 ∙ ap (λ (xs : List ℕ). t'' ++ xs) same ∙ ap (λ (xs : List ℕ). xs ++ name) (e2 ∙ ap (λ (xs : List ℕ). xs ++ mark) (e1 ∙ ap (λ (xs : List ℕ). xs ++ names_text p) e0)) in
    e5 ∙ ap (λ (xs : List ℕ). xs ++ names_text q) (e4 ∙ ap (λ (xs : List ℕ). xs ++ names_text b) f) ∙ snapshot-text (names_text p ++ mark ++ name) b q

pub back-if-made : (place : ReadPath) (result : Result (List ℕ) NoMemory) → IfOk result (λ (text : List ℕ). text ≡ read_path_text place) → IfOk result (λ (text : List ℕ). IsRuled place → read_any_path text ≡ Some place)
back-if-made place (Ok text) e = λ ruled. ap read_any_path e ∙ read-back place ruled
back-if-made place (Err why) e = tt

pub back-below : (place : ReadPath) (below : List (List ℕ)) (o : Option SnapPart) → place.snapshot ≡ o → (result : Result (List ℕ) NoMemory)
    → IfOk result (λ (text : List ℕ). text ≡ read_path_text (below_part place.path o below)) → IfOk result (λ (text : List ℕ). IsRuled (place_below place below) → read_any_path text ≡ Some (place_below place below))
back-below place below o is result =
    subst (λ (o : Option SnapPart). IfOk result (λ (text : List ℕ). text ≡ read_path_text (below_part place.path o below)) → IfOk result (λ (text : List ℕ). IsRuled (place_below place below) → read_any_path text ≡ Some (place_below place below)))
    is (back-if-made (place_below place below) result)

only-if-made : (place : ReadPath) (below : List (List ℕ)) (result : Result (List ℕ) NoMemory) → is_relative below ≡ true → IfOk result (λ (text : List ℕ). text ≡ read_path_text (place_below place below)) → IsRuled place
    → IfOk result (λ (text : List ℕ). (r : ReadPath) → read_any_path text ≡ Some r → r ≡ place_below place below)
only-if-made place below (Ok text) few e ruled = λ r is. only-back place below r ruled few (sym (ap read_any_path e) ∙ is)
only-if-made place below (Err why) few e ruled = tt

pub only-below-part : (place : ReadPath) (below : List (List ℕ)) (o : Option SnapPart) → place.snapshot ≡ o → (result : Result (List ℕ) NoMemory) → is_relative below ≡ true
    → IfOk result (λ (text : List ℕ). text ≡ read_path_text (below_part place.path o below)) → IsRuled place → IfOk result (λ (text : List ℕ). (r : ReadPath) → read_any_path text ≡ Some r → r ≡ place_below place below)
only-below-part place below o is result few =
    subst (λ (o : Option SnapPart). IfOk result (λ (text : List ℕ). text ≡ read_path_text (below_part place.path o below)) → IsRuled place → IfOk result (λ (text : List ℕ). (r : ReadPath) → read_any_path text ≡ Some r → r ≡ place_below place below))
    is (only-if-made place below result few)

-- a place that is copied follows the rule of paths that are read
pub raw-ruled : (bytes : List ℕ) (place : ReadPath) → read_raw_place bytes ≡ Some place → IsRuled place
raw-ruled bytes place e = go (bytes_eq (take 14 bytes) raw) e
  where
    whole : (o : Option ReadPath) → read_any_path (drop 14 bytes) ≡ o → whole_directory o ≡ Some place → IsRuled place
    whole None h f = absurd cc
    whole (Some it) h f = inside (is_whole_snapshot it.snapshot) f
      where
        inside : (t : Bool) → cond t (Some it) None ≡ Some place → IsRuled place
        inside true g = subst IsRuled (some-is it place g) (read-ruled (drop 14 bytes) it h)
        inside false g = absurd cc

    go : (t : Bool) → cond t (whole_directory (read_any_path (drop 14 bytes))) None ≡ Some place → IsRuled place
    go true f = whole (read_any_path (drop 14 bytes)) refl f
    go false f = absurd cc
