-- Names in order, and their births.
use Rattle.std.proofs.Common.{◌≡◌, ◌≢◌, ℕ, zero, suc, ◌+◌, ◌<◌, ◌≤◌, List, [], ◌∷◌, ◌++◌, length, map, filter, get_or, Bool, true, false, not, cond, ◌==◌, ◌||◌, All, Option, None, Some, is_some, is_none, option_map, refl, ap, sym, ◌∙◌, subst, arith, Result, Ok, Err, inl, inr}
use Rattle.std.specs.Prelude.{MatchResult, IfOk, IfSome}
use Rattle.std.specs.List.{AllByRecursion, insert, HoldsAt}
use Rattle.std.specs.List.Sorted.{IsSortedBy, IsPartitionPoint, IsBinarySearchResult}
use Rattle.std.specs.Ordering.{nat_cmp, is_lt, ordering_reverse}
use Rattle.std.specs.declared.cmp.Ordering.TheVariants.{Less, Greater}
use Rattle.std.specs.Str.{bytes_eq}
use Rattle.std.proofs.lemmas.Bool.{cases_lt}
use Rattle.std.proofs.lemmas.Bool.Decides.{Decides-eqb, nat_tests}
use Rattle.std.proofs.lemmas.Slice.Eq.{bytes_eq-Decides}
use Rattle.std.proofs.lemmas.Cmp.{nat_list_cmp_total, nat_cmp_total, ranked}
use Rattle.std.proofs.lemmas.Map.Lookups.{exact_bytes}
use Rattle.std.proofs.lemmas.List.Sorted.{searchable_from_sorted}
use Rattle.std.proofs.lemmas.List.Elements.{recursion_from_All}
use Rattle.std.proofs.lemmas.Option.{same_Some}
use Rattle.hk_base.specs.declared.texts.NoMemory.{NoMemory}
use Rattle.key_rows.specs.declared.rows.KeyRow.{KeyRow}
use Rattle.key_rows.specs.declared.by_name.NamedBirth.{NamedBirth}
use Rattle.key_rows.specs.Table.{find_name, find_birth, is_born, is_named, rolled}
use Rattle.key_rows.specs.Sound.{AreRowsRising, NamesOnce}
use Rattle.key_rows.specs.Names.{name_cmp, AreInNameOrder, names_of, birth_in, is_among, AreNames, IsIndex}
use Rattle.key_rows.proofs.Births.{by_birth, find_at, other_number, other_names}
use Rattle.key_rows.proofs.Rolls.{name-rolled, birth-rolled}

-- the order of names

turned : (a b : List ℕ) → name_cmp a b ≡ Less → name_cmp b a ≡ Greater
turned a b less = nat_list_cmp_total.antisymm b a ∙ ap ordering_reverse less

back : (a b : List ℕ) → name_cmp a b ≡ Greater → name_cmp b a ≡ Less
back a b more = nat_list_cmp_total.antisymm b a ∙ ap ordering_reverse more

same_cmp : (a : List ℕ) → name_cmp a a ≢ Less
same_cmp a less = let no : Less ≡ Greater = sym less ∙ turned a a less in absurd cc

-- a name that comes before another differs from it
before_other : (a b : List ℕ) → name_cmp a b ≡ Less → a ≢ b
before_other a b less same = same_cmp b (subst (λ (x : List ℕ). name_cmp x b ≡ Less) same less)

not_same : (a b : List ℕ) → a ≢ b → bytes_eq a b ≡ false
not_same a b other =
    let P : Bool → Type 0 = λ t. bytes_eq a b ≡ t → bytes_eq a b ≡ false in
    let cases : P (bytes_eq a b) = elim (bytes_eq a b) as P [ true ↦ λ e. absurd (other ((bytes_eq-Decides a b).0 e)) | false ↦ λ e. e ] in
    cases refl

-- searching

sorted_from_order : (entries : List NamedBirth) → AreInNameOrder (names_of entries) → (k : ℕ) (d : NamedBirth) → suc k < length entries
    → is_lt (name_cmp (get_or entries (suc k) d).name (get_or entries k d).name) ≡ false
sorted_from_order [] order k d within = absurd (omega arith)
sorted_from_order (entry ∷ []) order k d within = absurd (omega arith)
sorted_from_order (entry ∷ next ∷ entries) order zero d within = ap is_lt (turned entry.name next.name order.0.0)
sorted_from_order (entry ∷ next ∷ entries) order (suc k) d within = sorted_from_order (next ∷ entries) order.1 k d (omega arith)

sorted_next : (entries : List NamedBirth) → AreInNameOrder (names_of entries) → (k : ℕ) (d : NamedBirth) → k + 1 < length entries
    → is_lt (name_cmp (get_or entries (k + 1) d).name (get_or entries k d).name) ≡ false
sorted_next entries order k d within =
    let next : suc k ≡ k + 1 = omega arith in
    subst (λ (n : ℕ). is_lt (name_cmp (get_or entries n d).name (get_or entries k d).name) ≡ false) next (sorted_from_order entries order k d (omega arith))

pub searched : (entries : List NamedBirth) (name : List ℕ) (r : Result ℕ ℕ) → AreInNameOrder (names_of entries) → IsBinarySearchResult (λ (entry : NamedBirth). name_cmp entry.name name) entries r
    → MatchResult r (HoldsAt (λ entry. entry.name ≡ name) entries) (IsPartitionPoint (λ entry. name_cmp entry.name name ≡ Less) (λ entry. name_cmp entry.name name ≡ Greater) entries)
searched entries name (Ok place) order equal = λ d. exact_bytes (get_or entries place d).name name (equal d)
searched entries name (Err place) order parted =
    parted (searchable_from_sorted nat_list_cmp_total (λ (entry : NamedBirth). entry.name) entries name (λ k d low within. sorted_next entries order k d within))

-- a name at a place is found there

pub found_in : (entries : List NamedBirth) (name : List ℕ) (i : ℕ) (d : NamedBirth) → AreInNameOrder (names_of entries) → i < length entries → (get_or entries i d).name ≡ name → birth_in entries name ≡ Some (get_or entries i d).birth
found_in [] name i d order within here = absurd (omega arith)
found_in (entry ∷ entries) name zero d order within here = ap (λ b. cond b (Some entry.birth) (birth_in entries name)) ((bytes_eq-Decides entry.name name).1 here)
found_in (entry ∷ entries) name (suc i) d order within here =
    let less : name_cmp entry.name (get_or entries i d).name ≡ Less = each_at (λ (other : List ℕ). name_cmp entry.name other ≡ Less) entries i d order.0 (omega arith) in
    let other : bytes_eq entry.name name ≡ false = not_same entry.name name (before_other entry.name name (subst (λ (n : List ℕ). name_cmp entry.name n ≡ Less) here less)) in
    ap (λ b. cond b (Some entry.birth) (birth_in entries name)) other ∙ found_in entries name i d order.1 (omega arith) here
  where
    each_at : (P : List ℕ → Type 0) (es : List NamedBirth) (i : ℕ) (d : NamedBirth) → AllByRecursion P (names_of es) → i < length es → P (get_or es i d).name
    each_at P [] i d each within = absurd (omega arith)
    each_at P (e ∷ es) zero d each within = each.0
    each_at P (e ∷ es) (suc i) d each within = each_at P es i d each.1 (omega arith)

none_in : (entries : List NamedBirth) (name : List ℕ) → AllByRecursion (λ (entry : NamedBirth). entry.name ≢ name) entries → birth_in entries name ≡ None
none_in [] name others = refl
none_in (entry ∷ entries) name others = ap (λ b. cond b (Some entry.birth) (birth_in entries name)) (not_same entry.name name others.0) ∙ none_in entries name others.1

-- the place of a name that is absent

others_at : (entries : List NamedBirth) (name : List ℕ) (i : ℕ) → IsPartitionPoint (λ (entry : NamedBirth). name_cmp entry.name name ≡ Less) (λ entry. name_cmp entry.name name ≡ Greater) entries i
    → AllByRecursion (λ (entry : NamedBirth). entry.name ≢ name) entries
others_at entries name i parted = recursion_from_All (λ (entry : NamedBirth). entry.name ≢ name) entries (λ k d within. elim (cases_lt k i) [
  | inl low ↦ before_other (get_or entries k d).name name (parted.0 k d (omega arith) low)
  | inr high ↦ λ same. before_other name (get_or entries k d).name (back (get_or entries k d).name name (parted.1 k d high within)) (sym same)
])

pub missing_in : (entries : List NamedBirth) (name : List ℕ) (i : ℕ) → IsPartitionPoint (λ (entry : NamedBirth). name_cmp entry.name name ≡ Less) (λ entry. name_cmp entry.name name ≡ Greater) entries i
    → birth_in entries name ≡ None
missing_in entries name i parted = none_in entries name (others_at entries name i parted)

each_put : (P : List ℕ → Type 0) (entries : List NamedBirth) (i : ℕ) (new : NamedBirth) → AllByRecursion P (names_of entries) → P new.name → AllByRecursion P (names_of (insert entries i new))
each_put P entries zero new each here = (here, each)
each_put P [] (suc i) new each here = (here, tt)
each_put P (entry ∷ entries) (suc i) new each here = (each.0, each_put P entries i new each.1 here)

all_behind : (entries : List NamedBirth) (name : List ℕ) → ((k : ℕ) (d : NamedBirth) → k < length entries → name_cmp (get_or entries k d).name name ≡ Greater)
    → AllByRecursion (λ (other : List ℕ). name_cmp name other ≡ Less) (names_of entries)
all_behind [] name high = tt
all_behind (entry ∷ entries) name high = (back entry.name name (high 0 entry (omega arith)), all_behind entries name (λ k d within. high (suc k) d (omega arith)))

order_at : (entries : List NamedBirth) (i : ℕ) (new : NamedBirth) → i ≤ length entries → AreInNameOrder (names_of entries)
    → ((k : ℕ) (d : NamedBirth) → k < i → name_cmp (get_or entries k d).name new.name ≡ Less)
    → ((k : ℕ) (d : NamedBirth) → i ≤ k → k < length entries → name_cmp (get_or entries k d).name new.name ≡ Greater)
    → AreInNameOrder (names_of (insert entries i new))
order_at entries zero new within order low high = (all_behind entries new.name (λ k d below. high k d (omega arith) below), order)
order_at [] (suc i) new within order low high = absurd (omega arith)
order_at (entry ∷ entries) (suc i) new within order low high = (
  each_put (λ (other : List ℕ). name_cmp entry.name other ≡ Less) entries i new order.0 (low 0 entry (omega arith)),
  order_at entries i new (omega arith) order.1 (λ k d below. low (suc k) d (omega arith)) (λ k d above below. high (suc k) d (omega arith) (omega arith)),
)

pub order_put : (entries : List NamedBirth) (i : ℕ) (new : NamedBirth) → i ≤ length entries → AreInNameOrder (names_of entries)
    → IsPartitionPoint (λ (entry : NamedBirth). name_cmp entry.name new.name ≡ Less) (λ entry. name_cmp entry.name new.name ≡ Greater) entries i → AreInNameOrder (names_of (insert entries i new))
order_put entries i new within order parted = order_at entries i new within order (λ k d below. parted.0 k d (omega arith) below) parted.1

swap_tests : {A : Type 0} (a b : Bool) (x y z : A) → (a ≡ true → b ≡ true → ⊥) → cond a x (cond b y z) ≡ cond b y (cond a x z)
swap_tests true true x y z apart = absurd (apart refl refl)
swap_tests true false x y z apart = refl
swap_tests false true x y z apart = refl
swap_tests false false x y z apart = refl

birth_at : (entries : List NamedBirth) (i : ℕ) (new : NamedBirth) (name : List ℕ) → AllByRecursion (λ (entry : NamedBirth). entry.name ≢ new.name) entries
    → birth_in (insert entries i new) name ≡ cond (bytes_eq new.name name) (Some new.birth) (birth_in entries name)
birth_at entries zero new name others = refl
birth_at [] (suc i) new name others = refl
birth_at (entry ∷ entries) (suc i) new name others =
    ap (λ o. cond (bytes_eq entry.name name) (Some entry.birth) o) (birth_at entries i new name others.1)
    ∙ swap_tests (bytes_eq entry.name name) (bytes_eq new.name name) (Some entry.birth) (Some new.birth) (birth_in entries name)
    (λ a b. others.0 ((bytes_eq-Decides entry.name name).0 a ∙ sym ((bytes_eq-Decides new.name name).0 b)))

pub birth_put : (entries : List NamedBirth) (i : ℕ) (new : NamedBirth) (name : List ℕ)
    → IsPartitionPoint (λ (entry : NamedBirth). name_cmp entry.name new.name ≡ Less) (λ entry. name_cmp entry.name new.name ≡ Greater) entries i
    → birth_in (insert entries i new) name ≡ cond (bytes_eq new.name name) (Some new.birth) (birth_in entries name)
birth_put entries i new name parted = birth_at entries i new name (others_at entries new.name i parted)

-- rows in order of birth

above_at : (low : ℕ) (rows : List KeyRow) (top i : ℕ) (d : KeyRow) → AreRowsRising low rows top → i < length rows → low < (get_or rows i d).birth
above_at low [] top i d rising within = absurd (omega arith)
above_at low (row ∷ rows) top zero d rising within = rising.0
above_at low (row ∷ rows) top (suc i) d rising within = omega (arith, rising.0, above_at row.birth rows top i d rising.1 (omega arith))

rising_at : (low : ℕ) (rows : List KeyRow) (top k i : ℕ) (d : KeyRow) → AreRowsRising low rows top → k < i → i < length rows → (get_or rows k d).birth < (get_or rows i d).birth
rising_at low [] top k i d rising below within = absurd (omega arith)
rising_at low (row ∷ rows) top k zero d rising below within = absurd (omega arith)
rising_at low (row ∷ rows) top zero (suc i) d rising below within = above_at row.birth rows top i d rising.1 (omega arith)
rising_at low (row ∷ rows) top (suc k) (suc i) d rising below within = rising_at row.birth rows top k i d rising.1 (omega arith) (omega arith)

not_below : (a b : ℕ) → a < b → is_lt (nat_cmp b a) ≡ false
not_below a b less = grind (arith, nat_tests, less)

births_sorted : (low : ℕ) (rows : List KeyRow) (top : ℕ) → AreRowsRising low rows top → IsSortedBy (λ (a b : KeyRow). is_lt (nat_cmp a.birth b.birth)) rows
births_sorted low rows top rising k d above within = not_below _ _ (rising_at low rows top k (k + 1) d rising (omega arith) within)

pub birth_searched : (low : ℕ) (rows : List KeyRow) (top birth : ℕ) (r : Result ℕ ℕ) → AreRowsRising low rows top → IsBinarySearchResult (λ (row : KeyRow). nat_cmp row.birth birth) rows r
    → MatchResult r (HoldsAt (λ row. row.birth ≡ birth) rows) (λ _. All (λ row. is_born birth row ≡ false) rows)
birth_searched low rows top birth (Ok place) rising equal = λ d. ranked _ birth _ (sym (equal d))
birth_searched low rows top birth (Err place) rising parted =
    let halves = parted (searchable_from_sorted nat_cmp_total (λ (row : KeyRow). row.birth) rows birth (births_sorted low rows top rising)) in
    λ k d within. elim (cases_lt k place) [
      | inl less ↦ other_number (get_or rows k d).birth birth (λ same. let lower = ranked _ birth _ (sym (halves.0 k d (omega arith) less)) in absurd (omega arith))
      | inr more ↦ other_number (get_or rows k d).birth birth (λ same. let higher = ranked _ birth _ (sym (halves.1 k d more within)) in absurd (omega arith))
    ]

-- the row at the place of a birth is the first with it
pub first_at : (low : ℕ) (rows : List KeyRow) (top birth i : ℕ) (d : KeyRow) → AreRowsRising low rows top → i < length rows → (get_or rows i d).birth ≡ birth → (k : ℕ) → k < i → is_born birth (get_or rows k d) ≡ false
first_at low rows top birth i d rising within here k below = other_number (get_or rows k d).birth birth (λ same. absurd (omega (arith, rising_at low rows top k i d rising below within, here, same)))

pub is_born_at : (birth : ℕ) (row : KeyRow) → row.birth ≡ birth → is_born birth row ≡ true
is_born_at birth row here = (Decides-eqb row.birth birth).1 here

pub row_found : (low : ℕ) (rows : List KeyRow) (top birth i : ℕ) (d : KeyRow) → AreRowsRising low rows top → i < length rows → (get_or rows i d).birth ≡ birth → find_birth rows birth ≡ Some (get_or rows i d)
row_found low rows top birth i d rising within here = find_at (is_born birth) rows i d within (is_born_at birth (get_or rows i d) here) (first_at low rows top birth i d rising within here)

pub row_missing : (birth : ℕ) (rows : List KeyRow) → AllByRecursion (λ (row : KeyRow). is_born birth row ≡ false) rows → find_birth rows birth ≡ None
row_missing birth [] none = refl
row_missing birth (row ∷ rows) none = ap (λ b. cond b (Some row) (find_birth rows birth)) none.0 ∙ row_missing birth rows none.1

-- the birth of a name is that of its key

abbrev birth_named : List KeyRow → List ℕ → Option ℕ
birth_named rows name = option_map (λ row. row.birth) (find_name rows name)

pub named_nowhere : (rows : List KeyRow) (entries : List NamedBirth) (name : List ℕ) → IsIndex rows entries → birth_in entries name ≡ None → find_name rows name ≡ None
named_nowhere rows entries name index none = nowhere (find_name rows name) (sym (index.births name) ∙ none)
  where
    nowhere : (o : Option KeyRow) → option_map (λ (row : KeyRow). row.birth) o ≡ None → o ≡ None
    nowhere None e = refl
    nowhere (Some row) e = absurd cc

pub named_there : (rows : List KeyRow) (entries : List NamedBirth) (name : List ℕ) (birth top : ℕ) → AreRowsRising 0 rows top → IsIndex rows entries → birth_in entries name ≡ Some birth → find_birth rows birth ≡ find_name rows name
named_there rows entries name birth top rising index some = there (find_name rows name) (sym (index.births name) ∙ some) (by_birth 0 (is_named name) rows top rising)
  where
    there : (o : Option KeyRow) → option_map (λ (row : KeyRow). row.birth) o ≡ Some birth → IfSome o (λ row. find_birth rows row.birth ≡ Some row) → find_birth rows birth ≡ o
    there None e found = absurd cc
    there (Some row) e found = ap (λ (b : ℕ). find_birth rows b) (sym (same_Some row.birth birth e)) ∙ found

pub absent_there : (rows : List KeyRow) (entries : List NamedBirth) (name : List ℕ) → IsIndex rows entries → is_none (find_name rows name) ≡ true → birth_in entries name ≡ None
absent_there rows entries name index none = index.births name ∙ mapped (find_name rows name) none
  where
    mapped : (o : Option KeyRow) → is_none o ≡ true → option_map (λ (row : KeyRow). row.birth) o ≡ None
    mapped None e = refl
    mapped (Some row) e = absurd cc

-- one more key

map_cond : (b : Bool) (row : KeyRow) (o : Option KeyRow) → option_map (λ (r : KeyRow). r.birth) (cond b (Some row) o) ≡ cond b (Some row.birth) (option_map (λ (r : KeyRow). r.birth) o)
map_cond true row o = refl
map_cond false row o = refl

births_more : (rows : List KeyRow) (row : KeyRow) (name : List ℕ) → AllByRecursion (λ (other : KeyRow). other.name ≢ row.name) rows
    → birth_named (rows ++ row ∷ []) name ≡ cond (bytes_eq row.name name) (Some row.birth) (birth_named rows name)
births_more [] row name others = map_cond (bytes_eq row.name name) row None
births_more (r ∷ rows) row name others =
    map_cond (bytes_eq r.name name) r (find_name (rows ++ row ∷ []) name)
    ∙ ap (λ o. cond (bytes_eq r.name name) (Some r.birth) o) (births_more rows row name others.1)
    ∙ swap_tests (bytes_eq r.name name) (bytes_eq row.name name) (Some r.birth) (Some row.birth) (birth_named rows name)
    (λ a b. others.0 ((bytes_eq-Decides r.name name).0 a ∙ sym ((bytes_eq-Decides row.name name).0 b)))
    ∙ ap (λ o. cond (bytes_eq row.name name) (Some row.birth) o) (sym (map_cond (bytes_eq r.name name) r (find_name rows name)))

pub index_more : (rows : List KeyRow) (row : KeyRow) (before after : List NamedBirth) → IsIndex rows before → is_none (find_name rows row.name) ≡ true → AreInNameOrder (names_of after)
    → ((name : List ℕ) → birth_in after name ≡ cond (bytes_eq row.name name) (Some row.birth) (birth_in before name)) → IsIndex (rows ++ row ∷ []) after
index_more rows row before after index none order put = record {
  order = order;
  births = λ name. put name ∙ ap (λ o. cond (bytes_eq row.name name) (Some row.birth) o) (index.births name) ∙ sym (births_more rows row name (other_names row.name rows none));
}

-- a key with one more material

births_rolled : (birth : ℕ) (material : List ℕ) (rows : List KeyRow) (name : List ℕ) → birth_named (map (rolled birth material) rows) name ≡ birth_named rows name
births_rolled birth material [] name = refl
births_rolled birth material (row ∷ rows) name =
    map_cond (bytes_eq (rolled birth material row).name name) (rolled birth material row) (find_name (map (rolled birth material) rows) name)
    ∙ ap (λ (n : List ℕ). cond (bytes_eq n name) (Some (rolled birth material row).birth) (birth_named (map (rolled birth material) rows) name)) (name-rolled birth material row)
    ∙ ap (λ (b : ℕ). cond (bytes_eq row.name name) (Some b) (birth_named (map (rolled birth material) rows) name)) (birth-rolled birth material row)
    ∙ ap (λ o. cond (bytes_eq row.name name) (Some row.birth) o) (births_rolled birth material rows name)
    ∙ sym (map_cond (bytes_eq row.name name) row (find_name rows name))

pub index_rolled : (birth : ℕ) (material : List ℕ) (rows : List KeyRow) (entries : List NamedBirth) → IsIndex rows entries → IsIndex (map (rolled birth material) rows) entries
index_rolled birth material rows entries index = record { order = index.order; births = λ name. index.births name ∙ sym (births_rolled birth material rows name) }

-- one key less

abbrev unless : ℕ → Option ℕ → Option ℕ
unless b None = None
unless b (Some x) = cond (x == b) None (Some x)

kept : {L : Type 0} (D N : Bool) (x b : ℕ) (more fewer : L) (g : L → Option ℕ) (rest : Option ℕ) → (x == b) ≡ D → g more ≡ cond N (Some x) (g fewer) → g fewer ≡ unless b rest → (N ≡ true → rest ≡ None)
    → g (cond (not D) more fewer) ≡ unless b (cond N (Some x) rest)
kept true true x b more fewer g rest same step before none = before ∙ ap (unless b) (none refl) ∙ sym (ap (λ t. cond t None (Some x)) same)
kept true false x b more fewer g rest same step before none = before
kept false true x b more fewer g rest same step before none = step ∙ sym (ap (λ t. cond t None (Some x)) same)
kept false false x b more fewer g rest same step before none = step ∙ before

others_behind : (name : List ℕ) (entries : List NamedBirth) → AllByRecursion (λ (other : List ℕ). name_cmp name other ≡ Less) (names_of entries) → AllByRecursion (λ (entry : NamedBirth). entry.name ≢ name) entries
others_behind name [] each = tt
others_behind name (entry ∷ entries) each = (λ same. before_other name entry.name each.0 (sym same), others_behind name entries each.1)

births_left : (b : ℕ) (entries : List NamedBirth) (name : List ℕ) → AreInNameOrder (names_of entries) → birth_in (filter (λ entry. not (entry.birth == b)) entries) name ≡ unless b (birth_in entries name)
births_left b [] name order = refl
births_left b (entry ∷ entries) name order =
    kept (entry.birth == b) (bytes_eq entry.name name) entry.birth b (entry ∷ filter (λ e. not (e.birth == b)) entries) (filter (λ e. not (e.birth == b)) entries) (λ l. birth_in l name) (birth_in entries name)
    refl refl (births_left b entries name order.1)
    (λ here. subst (λ (n : List ℕ). birth_in entries n ≡ None) ((bytes_eq-Decides entry.name name).0 here) (none_in entries entry.name (others_behind entry.name entries order.0)))

none_named : (rows : List KeyRow) (name : List ℕ) → AllByRecursion (λ (row : KeyRow). row.name ≢ name) rows → birth_named rows name ≡ None
none_named [] name others = refl
none_named (row ∷ rows) name others = map_cond (bytes_eq row.name name) row (find_name rows name) ∙ ap (λ b. cond b (Some row.birth) (birth_named rows name)) (not_same row.name name others.0) ∙ none_named rows name others.1

rows_left : (b : ℕ) (rows : List KeyRow) (name : List ℕ) → NamesOnce rows → birth_named (filter (λ row. not (is_born b row)) rows) name ≡ unless b (birth_named rows name)
rows_left b [] name once = refl
rows_left b (row ∷ rows) name once =
    kept (is_born b row) (bytes_eq row.name name) row.birth b (row ∷ filter (λ r. not (is_born b r)) rows) (filter (λ r. not (is_born b r)) rows) (λ l. birth_named l name) (birth_named rows name)
    refl (map_cond (bytes_eq row.name name) row (find_name (filter (λ r. not (is_born b r)) rows) name)) (rows_left b rows name once.1)
    (λ here. subst (λ (n : List ℕ). birth_named rows n ≡ None) ((bytes_eq-Decides row.name name).0 here) (none_named rows row.name once.0))
    ∙ ap (unless b) (sym (map_cond (bytes_eq row.name name) row (find_name rows name)))

each_left : (P : List ℕ → Type 0) (p : NamedBirth → Bool) (entries : List NamedBirth) → AllByRecursion P (names_of entries) → AllByRecursion P (names_of (filter p entries))
each_left P p [] each = tt
each_left P p (entry ∷ entries) each =
    let rest = each_left P p entries each.1 in
    let Q : Bool → Type 0 = λ b. AllByRecursion P (names_of (cond b (entry ∷ filter p entries) (filter p entries))) in
    elim (p entry) as Q [ true ↦ (each.0, rest) | false ↦ rest ]

order_left : (p : NamedBirth → Bool) (entries : List NamedBirth) → AreInNameOrder (names_of entries) → AreInNameOrder (names_of (filter p entries))
order_left p [] order = tt
order_left p (entry ∷ entries) order =
    let rest = order_left p entries order.1 in
    let Q : Bool → Type 0 = λ b. AreInNameOrder (names_of (cond b (entry ∷ filter p entries) (filter p entries))) in
    elim (p entry) as Q [ true ↦ (each_left (λ (other : List ℕ). name_cmp entry.name other ≡ Less) p entries order.0, rest) | false ↦ rest ]

pub index_left : (b : ℕ) (rows : List KeyRow) (entries : List NamedBirth) → NamesOnce rows → IsIndex rows entries
    → IsIndex (filter (λ row. not (is_born b row)) rows) (filter (λ entry. not (entry.birth == b)) entries)
index_left b rows entries once index = record {
  order = order_left (λ entry. not (entry.birth == b)) entries index.order;
  births = λ name. births_left b entries name index.order ∙ ap (unless b) (index.births name) ∙ sym (rows_left b rows name once);
}

-- the names in order are the names of the keys

among_entries : (entries : List NamedBirth) (name : List ℕ) → is_among name (names_of entries) ≡ is_some (birth_in entries name)
among_entries [] name = refl
among_entries (entry ∷ entries) name =
    let Q : Bool → Type 0 = λ b. (b || is_among name (names_of entries)) ≡ is_some (cond b (Some entry.birth) (birth_in entries name)) in
    elim (bytes_eq entry.name name) as Q [ true ↦ refl | false ↦ among_entries entries name ]

pub are_names : (rows : List KeyRow) (entries : List NamedBirth) → IsIndex rows entries → AreNames rows (names_of entries)
are_names rows entries index = record { order = index.order; among = λ name. among_entries entries name ∙ ap is_some (index.births name) ∙ mapped (find_name rows name) }
  where
    mapped : (o : Option KeyRow) → is_some (option_map (λ (row : KeyRow). row.birth) o) ≡ is_some o
    mapped None = refl
    mapped (Some row) = refl

pub names_answered : (rows : List KeyRow) (entries : List NamedBirth) (r : Result (List (List ℕ)) NoMemory) → IsIndex rows entries → IfOk r (λ names. names ≡ names_of entries) → IfOk r (AreNames rows)
names_answered rows entries (Ok names) index is = subst (AreNames rows) (sym is) (are_names rows entries index)
names_answered rows entries (Err wanting) index is = tt
