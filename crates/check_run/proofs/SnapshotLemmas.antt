-- All snapshots, counted by their directories.
use Rattle.std.proofs.Common.{◌≡◌, ◌∙◌, ℕ, ◌+◌, Bool, true, false, cond, List, [], ◌∷◌, Option, Some, None, length, refl, sym, ap, subst, arith, option_map}
use Rattle.std.specs.Prelude.{◌==◌, ◌||◌}
use Rattle.std.specs.List.{AllByRecursion, filter, list_all, sum_by}
use Rattle.std.proofs.lemmas.Bool.{and_parts}
use Rattle.std.proofs.lemmas.Bool.Decides.{Decides-eqb}
use Rattle.std.proofs.lemmas.List.Elements.{recursion_from_All}
use Rattle.std.proofs.lemmas.List.Sums.{sum_by-cons}
use Rattle.inode_tree.specs.Rows.{AllAfter, Entry, IsRising, entry_of, is_dir_at}
use Rattle.inode_tree.proofs.Seeks.{not-before-itself}
use Rattle.name_calls.specs.Paths.{is_before}
use Rattle.name_store.specs.Table.{IsNameTable, NameTable, row_of}
use Rattle.snap_store.specs.Snapshots.{Snapshot, count_of, is_among, is_of}

-- 1 for the row that has the id, and otherwise 0
abbrev has_id : ℕ → Entry → ℕ
has_id id e = cond (e.row.id == id) 1 0

abbrev Found : List Entry → Entry → Type 0
Found rows e = entry_of rows e.row.id ≡ Some e

-- a test has the same answer from both sides
same_test : (a b : ℕ) → (a == b) ≡ (b == a)
same_test a b =
    let Q : Bool → Type 0 = λ t. (a == b) ≡ t → t ≡ (b == a) in
    let cases : Q (a == b) = elim (a == b) as Q [
      | true ↦ λ e. sym ((Decides-eqb b a).1 (sym ((Decides-eqb a b).0 e)))
      | false ↦ λ e. sym (differ b a e)
    ] in
    cases refl
  where
    differ : (b a : ℕ) → (a == b) ≡ false → (b == a) ≡ false
    differ b a other =
        let R : Bool → Type 0 = λ t. (b == a) ≡ t → t ≡ false in
        let cases : R (b == a) = elim (b == a) as R [
          | true ↦ λ e. let same : (a == b) ≡ true = (Decides-eqb a b).1 (sym ((Decides-eqb b a).0 e)) in cc (sym same ∙ other)
          | false ↦ λ e. refl
        ] in
        cases refl

-- each later row has another id than the first one

tail_found : (e : Entry) (es rows : List Entry) → AllAfter e.path rows → AllByRecursion (Found (e ∷ es)) rows → AllByRecursion (λ (o : Entry). (o.row.id == e.row.id) ≡ false) rows × AllByRecursion (Found es) rows
tail_found e es [] after found = (tt, tt)
tail_found e es (o ∷ os) after found =
    let rest = tail_found e es os after.1 found.1 in
    let P : Bool → Type 0 = λ b. (e.row.id == o.row.id) ≡ b → cond b (Some e) (entry_of es o.row.id) ≡ Some o → ((o.row.id == e.row.id) ≡ false) × Found es o in
    let cases : P (e.row.id == o.row.id) = elim (e.row.id == o.row.id) as P [
      | true ↦ λ same is.
          let it : e ≡ o = cc is in
          let no : true ≡ false = sym (subst (λ (x : Entry). is_before e.path x.path ≡ true) (sym it) after.0) ∙ not-before-itself e.path in
          absurd cc
      | false ↦ λ other is. (same_test o.row.id e.row.id ∙ other, is)
    ] in
    let this = cases refl found.0 in
    ((this.0, rest.0), (this.1, rest.1))

none_has : (id : ℕ) (rows : List Entry) → AllByRecursion (λ (o : Entry). (o.row.id == id) ≡ false) rows → sum_by (has_id id) rows ≡ 0
none_has id [] none = refl
none_has id (e ∷ es) none =
    let this : has_id id e ≡ 0 = ap (λ (b : Bool). cond b 1 0) none.0 in
    let rest : sum_by (has_id id) es ≡ 0 = none_has id es none.1 in
    let first : sum_by (has_id id) (e ∷ es) ≡ has_id id e + sum_by (has_id id) es = sum_by-cons (has_id id) e es in
    omega (arith, this, rest, first)

one_has : (id : ℕ) (rows : List Entry) (e : Entry) → IsRising rows → AllByRecursion (Found rows) rows → entry_of rows id ≡ Some e → sum_by (has_id id) rows ≡ 1
one_has id [] e rising found is = absurd cc
one_has id (x ∷ xs) e rising found is =
    let apart = tail_found x xs xs rising.0 found.1 in
    let first : sum_by (has_id id) (x ∷ xs) ≡ has_id id x + sum_by (has_id id) xs = sum_by-cons (has_id id) x xs in
    let P : Bool → Type 0 = λ b. (x.row.id == id) ≡ b → cond b (Some x) (entry_of xs id) ≡ Some e → cond b 1 0 + sum_by (has_id id) xs ≡ 1 in
    let cases : P (x.row.id == id) = elim (x.row.id == id) as P [
      | true ↦ λ same here.
          let its : x.row.id ≡ id = (Decides-eqb x.row.id id).0 same in
          let rest : sum_by (has_id id) xs ≡ 0 = none_has id xs (subst (λ (n : ℕ). AllByRecursion (λ (o : Entry). (o.row.id == n) ≡ false) xs) its apart.0) in
          omega (arith, rest)
      | false ↦ λ other further. omega (arith, one_has id xs e rising.1 apart.1 further)
    ] in
    first ∙ cases refl is

-- sums of two numbers for each row

sum_both : (f g : Entry → ℕ) (rows : List Entry) → sum_by (λ (e : Entry). f e + g e) rows ≡ sum_by f rows + sum_by g rows
sum_both f g [] = refl
sum_both f g (e ∷ es) =
    let rest : sum_by (λ (x : Entry). f x + g x) es ≡ sum_by f es + sum_by g es = sum_both f g es in
    let all : sum_by (λ (x : Entry). f x + g x) (e ∷ es) ≡ (f e + g e) + sum_by (λ (x : Entry). f x + g x) es = sum_by-cons (λ (x : Entry). f x + g x) e es in
    let first : sum_by f (e ∷ es) ≡ f e + sum_by f es = sum_by-cons f e es in
    let second : sum_by g (e ∷ es) ≡ g e + sum_by g es = sum_by-cons g e es in
    omega (arith, rest, all, first, second)

sum_same : (f g : Entry → ℕ) (rows : List Entry) → ((e : Entry) → f e ≡ g e) → sum_by f rows ≡ sum_by g rows
sum_same f g [] same = refl
sum_same f g (e ∷ es) same =
    let rest : sum_by f es ≡ sum_by g es = sum_same f g es same in
    let this : f e ≡ g e = same e in
    let first : sum_by f (e ∷ es) ≡ f e + sum_by f es = sum_by-cons f e es in
    let second : sum_by g (e ∷ es) ≡ g e + sum_by g es = sum_by-cons g e es in
    omega (arith, rest, this, first, second)

-- the directory of each snapshot has a row

dir_found : (P : ℕ → Type 0) (ids : List ℕ) (id : ℕ) → AllByRecursion P ids → is_among ids id ≡ true → P id
dir_found P [] id all among = absurd cc
dir_found P (i ∷ is) id all among =
    let Q : Bool → Type 0 = λ b. (i == id) ≡ b → (b || is_among is id) ≡ true → P id in
    let cases : Q (i == id) = elim (i == id) as Q [
      | true ↦ λ same any. subst P ((Decides-eqb i id).0 same) all.0
      | false ↦ λ other further. dir_found P is id all.1 further
    ] in
    cases refl among

row_found : (rows : List Entry) (id : ℕ) → is_dir_at (row_of rows id) ≡ true → (e : Entry) × (entry_of rows id ≡ Some e)
row_found rows id is = go (entry_of rows id) refl is
  where
    go : (o : Option Entry) → entry_of rows id ≡ o → is_dir_at (option_map (λ (e : Entry). e.row) o) ≡ true → (e : Entry) × (entry_of rows id ≡ Some e)
    go None e is = absurd cc
    go (Some x) e is = (x, e)

-- one more snapshot

count_cons : (s : Snapshot) (taken : List Snapshot) (e : Entry) → count_of (s ∷ taken) e.row.id ≡ has_id s.dir e + count_of taken e.row.id
count_cons s taken e = go (s.dir == e.row.id) ∙ ap (λ (b : Bool). cond b 1 0 + count_of taken e.row.id) (same_test s.dir e.row.id)
  where
    go : (b : Bool) → length (cond b (s ∷ filter (is_of e.row.id) taken) (filter (is_of e.row.id) taken)) ≡ cond b 1 0 + count_of taken e.row.id
    go true = omega arith
    go false = omega arith

count_each : (rows : List Entry) (allowed : List ℕ) (taken : List Snapshot) → IsRising rows → AllByRecursion (Found rows) rows → AllByRecursion (λ (id : ℕ). is_dir_at (row_of rows id) ≡ true) allowed
    → list_all (λ (s : Snapshot). is_among allowed s.dir) taken ≡ true → sum_by (λ (e : Entry). count_of taken e.row.id) rows ≡ length taken
count_each rows allowed [] rising found stand housed = sum_none rows
  where
    sum_none : (es : List Entry) → sum_by (λ (e : Entry). 0) es ≡ 0
    sum_none [] = refl
    sum_none (e ∷ es) = let rest : sum_by (λ (x : Entry). 0) es ≡ 0 = sum_none es in let first : sum_by (λ (x : Entry). 0) (e ∷ es) ≡ 0 + sum_by (λ (x : Entry). 0) es = sum_by-cons (λ (x : Entry). 0) e es in omega (arith, rest, first)
count_each rows allowed (s ∷ taken) rising found stand housed =
    let parts = and_parts (is_among allowed s.dir) (list_all (λ (t : Snapshot). is_among allowed t.dir) taken) housed in
    let its = row_found rows s.dir (dir_found (λ (id : ℕ). is_dir_at (row_of rows id) ≡ true) allowed s.dir stand parts.0) in
    let one : sum_by (has_id s.dir) rows ≡ 1 = one_has s.dir rows its.0 rising found its.1 in
    let rest : sum_by (λ (e : Entry). count_of taken e.row.id) rows ≡ length taken = count_each rows allowed taken rising found stand parts.1 in
    let same : sum_by (λ (e : Entry). count_of (s ∷ taken) e.row.id) rows ≡ sum_by (λ (e : Entry). has_id s.dir e + count_of taken e.row.id) rows =
    sum_same (λ e. count_of (s ∷ taken) e.row.id) (λ e. has_id s.dir e + count_of taken e.row.id) rows (λ e. count_cons s taken e) in
    let both : sum_by (λ (e : Entry). has_id s.dir e + count_of taken e.row.id) rows ≡ sum_by (has_id s.dir) rows + sum_by (λ (e : Entry). count_of taken e.row.id) rows =
    sum_both (has_id s.dir) (λ e. count_of taken e.row.id) rows in
    omega (arith, one, rest, same, both)

pub all_snapshots : (t : NameTable) → IsNameTable t → sum_by (λ (e : Entry). count_of t.snaps.taken e.row.id) t.rows ≡ length t.snaps.taken
all_snapshots t is =
    count_each t.rows t.snaps.allowed t.snaps.taken is.rules.rising (recursion_from_All (Found t.rows) t.rows is.rules.once)
    (recursion_from_All (λ (id : ℕ). is_dir_at (row_of t.rows id) ≡ true) t.snaps.allowed is.fits.stand) is.snaps.housed
