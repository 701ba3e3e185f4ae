-- The lengths of the paths below a path.
use Rattle.std.proofs.Common.{◌≡◌, ℕ, ◌+◌, ◌-◌, ◌<◌, ◌≤◌, zero, suc, Bool, true, cond, List, [], ◌∷◌, ◌++◌, length, drop, get_or, map, take, refl, sym, ap, ◌∙◌, arith, length-append, length-drop}
use Rattle.std.specs.Prelude.{max}
use Rattle.std.specs.List.{AllByRecursion, between, filter}
use Rattle.std.proofs.lemmas.List.{append-nil, drop_more}
use Rattle.std.proofs.lemmas.Bool.{leb-true, and_parts}
use Rattle.name_calls.specs.Paths.{is_prefix, is_relative, is_short, names_text, path_text}
use Rattle.name_calls.proofs.PathLemmas.{names-text-snoc}
use Rattle.inode_tree.specs.declared.rows.Node.{Node}
use Rattle.inode_tree.specs.Rows.{Entry, IsRising}
use Rattle.inode_tree.specs.Arena.{entry_at, path_of, rank, rank_past, rows_of}
use Rattle.inode_tree.specs.Below.{seen_from}
use Rattle.inode_tree.specs.Moves.{greatest, most_bytes, most_names}
use Rattle.inode_tree.proofs.MovedPlaces.{below-between, front-off, off-drop, rank-upto}
use Rattle.inode_tree.proofs.MovedRows.{IsBelow, IsOff}
use Rattle.inode_tree.proofs.Places.{last-names, no-names}
use Rattle.inode_tree.proofs.Ranks.{any_entry, length-rows, rows-at}
use Rattle.inode_tree.proofs.Runs.{in-three}
use Rattle.inode_tree.proofs.ZoneLemmas.{prefix-length}

abbrev pub size_below : List (List ℕ) → Entry → ℕ
size_below p e = length (names_text (drop (length p) e.path))

abbrev pub names_below : List (List ℕ) → Entry → ℕ
names_below p e = length (drop (length p) e.path)

-- the rows below p are a run
filter-off : (p : List (List ℕ)) (es : List Entry) → AllByRecursion (IsOff p) es → filter (λ e. is_prefix p e.path) es ≡ []
filter-off p [] a = refl
filter-off p (e ∷ es) a = ap (λ (t : Bool). cond t (e ∷ filter (λ f. is_prefix p f.path) es) (filter (λ f. is_prefix p f.path) es)) a.0 ∙ filter-off p es a.1

filter-all : (p : List (List ℕ)) (es fs : List Entry) → AllByRecursion (IsBelow p) es → filter (λ e. is_prefix p e.path) (es ++ fs) ≡ es ++ filter (λ e. is_prefix p e.path) fs
filter-all p [] fs a = refl
filter-all p (e ∷ es) fs a = ap (λ (t : Bool). cond t (e ∷ filter (λ f. is_prefix p f.path) (es ++ fs)) (filter (λ f. is_prefix p f.path) (es ++ fs))) a.0 ∙ ap (λ (xs : List Entry). e ∷ xs) (filter-all p es fs a.1)

filter-past : (p : List (List ℕ)) (es fs : List Entry) → AllByRecursion (IsOff p) es → filter (λ e. is_prefix p e.path) (es ++ fs) ≡ filter (λ e. is_prefix p e.path) fs
filter-past p [] fs a = refl
filter-past p (e ∷ es) fs a = ap (λ (t : Bool). cond t (e ∷ filter (λ f. is_prefix p f.path) (es ++ fs)) (filter (λ f. is_prefix p f.path) (es ++ fs))) a.0 ∙ filter-past p es fs a.1

pub run-below : (p : List (List ℕ)) (es : List Entry) → IsRising es → filter (λ e. is_prefix p e.path) es ≡ between (rank es p) (rank_past es p) es
run-below p es r =
    ap (filter (λ e. is_prefix p e.path)) (sym (in-three es (rank es p) (rank_past es p) (rank-upto es p)))
    ∙ filter-past p (take (rank es p) es) (between (rank es p) (rank_past es p) es ++ drop (rank_past es p) es) (front-off es p)
    ∙ filter-all p (between (rank es p) (rank_past es p) es) (drop (rank_past es p) es) (below-between es p r)
    ∙ ap (λ (xs : List Entry). between (rank es p) (rank_past es p) es ++ xs) (filter-off p (drop (rank_past es p) es) (off-drop es p r))
    ∙ append-nil (between (rank es p) (rank_past es p) es)

fused : (f g : Entry → ℕ) (h : Entry → Entry) → ((e : Entry) → f (h e) ≡ g e) → (es : List Entry) → map f (map h es) ≡ map g es
fused f g h e [] = refl
fused f g h e (x ∷ es) = λ i. e x i ∷ fused f g h e es i

pub bytes-run : (p : List (List ℕ)) (es : List Entry) → IsRising es → greatest (map (size_below p) (between (rank es p) (rank_past es p) es)) ≡ most_bytes es p
bytes-run p es r =
    ap (λ (xs : List Entry). greatest (map (size_below p) xs)) (sym (run-below p es r))
    ∙ ap greatest (sym (fused (λ (e : Entry). length (names_text e.path)) (size_below p) (seen_from (length p)) (λ e. refl) (filter (λ e. is_prefix p e.path) es)))

pub names-run : (p : List (List ℕ)) (es : List Entry) → IsRising es → greatest (map (names_below p) (between (rank es p) (rank_past es p) es)) ≡ most_names es p
names-run p es r =
    ap (λ (xs : List Entry). greatest (map (names_below p) xs)) (sym (run-below p es r))
    ∙ ap greatest (sym (fused (λ (e : Entry). length e.path) (names_below p) (seen_from (length p)) (λ e. refl) (filter (λ e. is_prefix p e.path) es)))

-- one row more from the end
pub one-more : (f : Entry → ℕ) (ns : List Node) (order : List ℕ) (at end n : ℕ) → 0 < at → at ≤ end → at ≤ length order → n ≡ get_or order (at - 1) 0 → greatest (map f (between (at - 1) end (rows_of ns order))) ≡ max (f (entry_at ns n)) (greatest (map f (between at end (rows_of ns order))))
one-more f ns order at end n some le inside e =
    let before : at - 1 + 1 ≡ at = omega arith in
    let more : end - (at - 1) ≡ suc (end - at) = omega arith in
    let first : get_or (rows_of ns order) (at - 1) any_entry ≡ entry_at ns n = rows-at ns order (at - 1) (omega arith) ∙ ap (entry_at ns) (sym e) in
    let rest : drop (at - 1) (rows_of ns order) ≡ entry_at ns n ∷ drop at (rows_of ns order) =
    drop_more (rows_of ns order) (at - 1) any_entry (omega (arith, length-rows ns order)) ∙ ap (λ (x : Entry). x ∷ drop (at - 1 + 1) (rows_of ns order)) first ∙ ap (λ (k : ℕ). entry_at ns n ∷ drop k (rows_of ns order)) before in
    ap (λ (k : ℕ). greatest (map f (take k (drop (at - 1) (rows_of ns order))))) more ∙ ap (λ (xs : List Entry). greatest (map f (take (suc (end - at)) xs))) rest

-- the names in a path from p down to a row
pub names-number : (ns : List Node) (p : List (List ℕ)) (n : ℕ) → names_below p (entry_at ns n) ≡ length (path_of ns n) - length p
names-number ns p n = length-drop (length p) (path_of ns n)

-- the bytes of such a path are those of the last names of the row's path
pub size-last : (ns : List Node) (p : List (List ℕ)) (n count : ℕ) → is_prefix p (path_of ns n) ≡ true → count ≡ length (path_of ns n) - length p → length (names_text (drop (length (path_of ns n) - count) (path_of ns n))) ≡ size_below p (entry_at ns n)
size-last ns p n count h e =
    let l = prefix-length p (path_of ns n) h in
    let k : length (path_of ns n) - count ≡ length p = omega arith in
    ap (λ (i : ℕ). length (names_text (drop i (path_of ns n)))) k

-- a path within the rule has no more than 8,000 bytes, whatever names are left out at its front
names-text-drop : (k : ℕ) (p : List (List ℕ)) → length (names_text (drop k p)) ≤ length (names_text p)
names-text-drop zero p = omega arith
names-text-drop (suc k) [] = omega arith
names-text-drop (suc k) (x ∷ p) = let i = names-text-drop k p in omega (arith, length-append x (names_text p))

pub short-text : (p : List (List ℕ)) (k : ℕ) → is_relative p ≡ true → length (names_text (drop k p)) ≤ 8000
short-text [] k h = let i = names-text-drop k [] in omega arith
short-text (x ∷ p) k h =
    let i = names-text-drop k (x ∷ p) in
    let s = (and_parts _ (is_short (x ∷ p)) h).1 in
    let b = leb-true (length (path_text (x ∷ p))) 8000 (and_parts _ _ s).0 in omega arith

-- one name more from the end
pub size-more : (p q : List (List ℕ)) (x : List ℕ) (count : ℕ) → p ≡ q ++ x ∷ [] → 0 < count → count ≤ length p → length (names_text (drop (length p - count) p)) ≡ length (names_text (drop (length q - (count - 1)) q)) + length x + 1
size-more p q x count e some most =
    let f = ap (λ (r : List (List ℕ)). length (names_text r)) (last-names p q x count e some most) in
    let g = ap length (names-text-snoc (drop (length q - (count - 1)) q) x) in
    omega (arith, length-append (names_text (drop (length q - (count - 1)) q)) (47 ∷ x))

pub size-none : (p : List (List ℕ)) → length (names_text (drop (length p - 0) p)) ≡ 0
size-none p = ap (λ (r : List (List ℕ)). length (names_text r)) (sym (no-names p))

pub none-from-end : (es : List Entry) (f : Entry → ℕ) (end : ℕ) → greatest (map f (between end end es)) ≡ 0
none-from-end es f end = let z : end - end ≡ 0 = omega arith in ap (λ (k : ℕ). greatest (map f (take k (drop end es)))) z

-- the names at the front of a path within the rule have no more than 8,000 bytes
names-text-take : (k : ℕ) (p : List (List ℕ)) → length (names_text (take k p)) ≤ length (names_text p)
names-text-take zero p = omega arith
names-text-take (suc k) [] = omega arith
names-text-take (suc k) (x ∷ p) = let i = names-text-take k p in omega (arith, length-append x (names_text (take k p)), length-append x (names_text p))

pub front-short : (p : List (List ℕ)) (k : ℕ) → is_relative p ≡ true → length (names_text (take k p)) ≤ 8000
front-short p k h = let i = names-text-take k p in let s = short-text p 0 h in omega arith
