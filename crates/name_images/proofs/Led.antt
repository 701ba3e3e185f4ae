-- The rows at and below a node: its own, and those of its kids.
use Rattle.std.proofs.Common.{◌≡◌, ℕ, ◌+◌, ◌<◌, ◌≤◌, zero, suc, true, List, [], ◌∷◌, ◌++◌, length, map, get_or, take, take_all, set, refl, sym, ◌∙◌, ap, subst, arith, append_assoc, length-append}
use Rattle.std.specs.List.{All, AllByRecursion}
use Rattle.std.proofs.lemmas.List.{append-nil, length-map, length-take-le, map-append, map_push, take_more, take_more_set}
use Rattle.std.proofs.lemmas.List.Elements.{recursion_from_All}
use Rattle.name_calls.specs.Paths.{is_relative}
use Rattle.name_calls.proofs.PathLemmas.{relative-short}
use Rattle.inode_tree.specs.Rows.{Entry}
use Rattle.edit_ops.specs.Records.{list_field}
use Rattle.frozen_nodes.specs.Forest.{AreBelow, FrozenNode, IsForest, Subtree, kid_rows, node_at, rows_from, subtree_at, subtrees, under}
use Rattle.frozen_nodes.proofs.Subtrees.{name-is, rows-are}
use Rattle.frozen_nodes.proofs.Walks.{below-at}
use Rattle.name_images.specs.Fields.{row_field}
use Rattle.name_images.specs.Walks.{led, names_in, rows_led}
use Rattle.name_images.proofs.Lists.{list-field-append}

-- the row of a node and the rows of its first kids, as they are seen from the node at which the names of the path begin
abbrev pub first_rows : List FrozenNode → List (List ℕ) → ℕ → List ℕ → List Entry
first_rows ns p n ks = record { path = p; row = (node_at ns n).row } ∷ map (led p) (kid_rows (subtree_at (subtrees ns)) ks)

-- a directory deeper
led-under : (p : List (List ℕ)) (x : List ℕ) (es : List Entry) → map (led p) (map (under x) es) ≡ map (led (p ++ x ∷ [])) es
led-under p x [] = refl
led-under p x (e ∷ es) = λ i. record { path = sym (append_assoc p (x ∷ []) e.path) i; row = e.row } ∷ led-under p x es i

kid-rows-append : (at : ℕ → Subtree) (ks js : List ℕ) → kid_rows at (ks ++ js) ≡ kid_rows at ks ++ kid_rows at js
kid-rows-append at [] js = refl
kid-rows-append at (k ∷ ks) js = ap (λ (es : List Entry). map (under (at k).name) (at k).rows ++ es) (kid-rows-append at ks js) ∙ sym (append_assoc (map (under (at k).name) (at k).rows) (kid_rows at ks) (kid_rows at js))

-- the rows of one kid
one-kid : (ns : List FrozenNode) (p : List (List ℕ)) (k : ℕ) → map (led p) (kid_rows (subtree_at (subtrees ns)) (k ∷ [])) ≡ rows_led ns (p ++ (node_at ns k).name ∷ []) k
unfolding rows_from
one-kid ns p k =
    let s = subtree_at (subtrees ns) k in
    ap (map (led p)) (append-nil (map (under s.name) s.rows)) ∙ led-under p s.name s.rows ∙ ap (λ (x : List ℕ). map (led (p ++ x ∷ [])) s.rows) (name-is ns k)

pub rows-more : (ns : List FrozenNode) (p : List (List ℕ)) (n : ℕ) (ks : List ℕ) (i : ℕ) → i < length ks
    → first_rows ns p n (take (i + 1) ks) ≡ first_rows ns p n (take i ks) ++ rows_led ns (p ++ (node_at ns (get_or ks i 0)).name ∷ []) (get_or ks i 0)
rows-more ns p n ks i within =
    let at = subtree_at (subtrees ns) in
    let k = get_or ks i 0 in
    ap (λ (es : List Entry). record { path = p; row = (node_at ns n).row } ∷ es)
    (ap (λ (js : List ℕ). map (led p) (kid_rows at js)) (take_more ks i 0 within) ∙ ap (map (led p)) (kid-rows-append at (take i ks) (k ∷ [])) ∙ map-append (led p) (kid_rows at (take i ks)) (kid_rows at (k ∷ []))
    ∙ ap (λ (es : List Entry). map (led p) (kid_rows at (take i ks)) ++ es) (one-kid ns p k))

pub rows-whole : (ns : List FrozenNode) (p : List (List ℕ)) (n : ℕ) → IsForest ns → n < length ns → rows_led ns p n ≡ first_rows ns p n (node_at ns n).kids
rows-whole ns p n forest lt =
    ap (map (led p)) (rows-are ns forest n lt)
    ∙ ap (λ (q : List (List ℕ)). record { path = q; row = (node_at ns n).row } ∷ map (led p) (kid_rows (subtree_at (subtrees ns)) (node_at ns n).kids)) (append-nil p)

-- as bytes

pub bytes-own : (ns : List FrozenNode) (p : List (List ℕ)) (n : ℕ) (all : List ℕ) → all ++ row_field (record { path = p; row = (node_at ns n).row }) ≡ all ++ list_field row_field (first_rows ns p n [])
bytes-own ns p n all = ap (λ (l : List ℕ). all ++ l) (sym (append-nil (row_field (record { path = p; row = (node_at ns n).row }))))

pub bytes-more : (ns : List FrozenNode) (p : List (List ℕ)) (n : ℕ) (ks : List ℕ) (i k : ℕ) (q all : List ℕ) → i < length ks → k ≡ get_or ks i 0 → q ≡ (node_at ns k).name
    → (all ++ list_field row_field (first_rows ns p n (take i ks))) ++ list_field row_field (rows_led ns (p ++ q ∷ []) k) ≡ all ++ list_field row_field (first_rows ns p n (take (i + 1) ks))
bytes-more ns p n ks i k q all within is named =
    append_assoc all (list_field row_field (first_rows ns p n (take i ks))) (list_field row_field (rows_led ns (p ++ q ∷ []) k))
    ∙ ap (λ (l : List ℕ). all ++ l)
    (sym (list-field-append row_field (first_rows ns p n (take i ks)) (rows_led ns (p ++ q ∷ []) k))
    ∙ ap (λ (x : List ℕ). list_field row_field (first_rows ns p n (take i ks) ++ rows_led ns (p ++ x ∷ []) k)) named
    ∙ ap (λ (j : ℕ). list_field row_field (first_rows ns p n (take i ks) ++ rows_led ns (p ++ (node_at ns j).name ∷ []) j)) is
    ∙ ap (list_field row_field) (sym (rows-more ns p n ks i within)))

-- which paths keep the rule

abbrev pub AreRuled : List Entry → Type 0
AreRuled es = AllByRecursion (λ e. is_relative e.path ≡ true) es

ruled-right : (es fs : List Entry) → AreRuled (es ++ fs) → AreRuled fs
ruled-right [] fs a = a
ruled-right (e ∷ es) fs a = ruled-right es fs a.1

ruled-left : (es fs : List Entry) → AreRuled (es ++ fs) → AreRuled es
ruled-left [] fs a = tt
ruled-left (e ∷ es) fs a = (a.0, ruled-left es fs a.1)

pub ruled-own : (ns : List FrozenNode) (p : List (List ℕ)) (n : ℕ) → IsForest ns → n < length ns → AreRuled (rows_led ns p n) → is_relative p ≡ true
ruled-own ns p n forest lt a = (subst AreRuled (rows-whole ns p n forest lt) a).0

ruled-first : (ns : List FrozenNode) (p : List (List ℕ)) (n : ℕ) (ks : List ℕ) (m j : ℕ) → m + j ≡ length ks → AreRuled (first_rows ns p n ks) → AreRuled (first_rows ns p n (take j ks))
ruled-first ns p n ks zero j e a = subst (λ (js : List ℕ). AreRuled (first_rows ns p n js)) (sym (take_all j ks (omega (arith, e)))) a
ruled-first ns p n ks (suc m) j e a =
    ruled-left (first_rows ns p n (take j ks)) _ (subst AreRuled (rows-more ns p n ks j (omega (arith, e))) (ruled-first ns p n ks m (j + 1) (omega (arith, e)) a))

pub ruled-kid : (ns : List FrozenNode) (p : List (List ℕ)) (n i k : ℕ) → IsForest ns → n < length ns → i < length (node_at ns n).kids → k ≡ get_or (node_at ns n).kids i 0 → AreRuled (rows_led ns p n)
    → AreRuled (rows_led ns (p ++ (node_at ns k).name ∷ []) k)
ruled-kid ns p n i k forest lt within is a =
    let ks = (node_at ns n).kids in
    subst (λ (j : ℕ). AreRuled (rows_led ns (p ++ (node_at ns j).name ∷ []) j)) (sym is)
    (ruled-right (first_rows ns p n (take i ks)) _
    (subst AreRuled (rows-more ns p n ks i within)
    (ruled-first ns p n ks (rest i (length ks) within).0 (i + 1) (rest i (length ks) within).1 (subst AreRuled (rows-whole ns p n forest lt) a))))
  where
    rest : (i c : ℕ) → i < c → (m : ℕ) × (m + (i + 1) ≡ c)
    rest zero zero lt = absurd (omega arith)
    rest zero (suc c) lt = (c, omega arith)
    rest (suc i) zero lt = absurd (omega arith)
    rest (suc i) (suc c) lt = let r = rest i c (omega arith) in (r.0, let e = r.1 in omega (arith, e))

-- the path of a kid

pub names-more : (ns : List FrozenNode) (path : List ℕ) (depth k : ℕ) → depth < length path → names_in ns (take (depth + 1) (set path depth k)) ≡ names_in ns (take depth path) ++ (node_at ns k).name ∷ []
names-more ns path depth k lt = ap (names_in ns) (take_more_set path depth k lt) ∙ map_push (λ (j : ℕ). (node_at ns j).name) (take depth path) k

pub has-room : (ns : List FrozenNode) (path : List ℕ) (depth : ℕ) (x : List ℕ) → length path ≡ 100 → depth ≤ 100 → is_relative (names_in ns (take depth path) ++ x ∷ []) ≡ true → depth < 100
has-room ns path depth x room most rule = omega (arith, relative-short (names_in ns (take depth path) ++ x ∷ []) rule, length-append (names_in ns (take depth path)) (x ∷ []), length-map (take depth path) (λ (j : ℕ). (node_at ns j).name), length-take-le depth path (omega (arith, room, most)))

-- rows seen from their own directory
pub led-root : (es : List Entry) → map (led []) es ≡ es
led-root [] = refl
led-root (e ∷ es) = λ i. e ∷ led-root es i

pub ruled-root : (ns : List FrozenNode) (root : ℕ) → All (λ e. is_relative e.path ≡ true) (rows_from ns root) → AreRuled (rows_led ns [] root)
ruled-root ns root a = subst AreRuled (sym (led-root (rows_from ns root))) (recursion_from_All (λ (e : Entry). is_relative e.path ≡ true) (rows_from ns root) a)

-- what is true of a kid of the node to which the first nodes of a path lead
pub record IsKid (ns : List FrozenNode) (path : List ℕ) (depth n i k : ℕ) : Type 0 where
  pub within : i < length (node_at ns n).kids
  pub is : k ≡ get_or (node_at ns n).kids i 0
  pub below : k < n
  pub room : depth < 100
  pub ruled : AreRuled (rows_led ns (names_in ns (take depth path) ++ (node_at ns k).name ∷ []) k)

pub kid-of : (ns : List FrozenNode) (path : List ℕ) (depth n : ℕ) (ks : List ℕ) (i : ℕ) → IsForest ns → n < length ns → length path ≡ 100 → depth ≤ 100 → AreRuled (rows_led ns (names_in ns (take depth path)) n)
    → ks ≡ (node_at ns n).kids → i < length ks → IsKid ns path depth n i (get_or ks i 0)
kid-of ns path depth n ks i forest lt room most ruled same within =
    let p = names_in ns (take depth path) in
    let k = get_or ks i 0 in
    let inside : i < length (node_at ns n).kids = subst (λ (js : List ℕ). i < length js) same within in
    let is : k ≡ get_or (node_at ns n).kids i 0 = ap (λ (js : List ℕ). get_or js i 0) same in
    let below : k < n = below-at n ks i 0 (subst (λ (js : List ℕ). AreBelow n js) (sym same) (forest n).below) within in
    let kept = ruled-kid ns p n i k forest lt inside is ruled in
    record {
      within = inside;
      is = is;
      below = below;
      room = has-room ns path depth (node_at ns k).name room most (ruled-own ns (p ++ (node_at ns k).name ∷ []) k forest (omega (arith, below, lt)) kept);
      ruled = kept;
    }
