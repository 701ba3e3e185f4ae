-- The names of the keys in the order of their bytes.
use Rattle.std.proofs.Common.{◌≡◌, ◌≢◌, ℕ, List, [], ◌∷◌, map, Bool, true, false, ◌||◌, cond, Some, is_some, refl, ap, sym, ◌∙◌, subst}
use Rattle.std.specs.List.{AllByRecursion}
use Rattle.std.specs.Ordering.{ordering_reverse}
use Rattle.std.specs.declared.cmp.Ordering.{Ordering}
use Rattle.std.specs.declared.cmp.Ordering.TheVariants.{Less, Equal, Greater}
use Rattle.std.specs.Str.{bytes_eq}
use Rattle.std.proofs.lemmas.Cmp.{nat_list_cmp_total}
use Rattle.std.proofs.lemmas.Map.Lookups.{exact_bytes}
use Rattle.std.proofs.lemmas.Slice.Eq.{bytes_eq-Decides}
use Rattle.key_rows.specs.declared.rows.KeyRow.{KeyRow}
use Rattle.key_rows.specs.Table.{find_name}
use Rattle.key_rows.specs.Names.{AreInNameOrder, AreNames, is_among, name_cmp}
use Rattle.kms_calls.specs.declared.calls.KmsCall.TheVariants as call
use Rattle.kms_calls.specs.declared.calls.KmsReply.TheVariants as reply
use Rattle.kms_core.specs.State.{KmsState}
use Rattle.kms_core.specs.Order.{in_order, names_in_order, put_by, put_name}
use Rattle.kms_core.specs.Steps.{Answers}
use Rattle.kms_core.proofs.AnswerLemmas.{answered}

-- the name comes before each of the others
abbrev Before : List ℕ → List (List ℕ) → Type 0
Before name names = AllByRecursion (λ (other : List ℕ). name_cmp name other ≡ Less) names

after_is : (a b : List ℕ) → name_cmp a b ≡ Greater → name_cmp b a ≡ Less
after_is a b greater = nat_list_cmp_total.antisymm b a ∙ ap ordering_reverse greater

not_before_itself : (a : List ℕ) → name_cmp a a ≢ Less
not_before_itself a less = let no : Less ≡ Greater = sym less ∙ nat_list_cmp_total.antisymm a a ∙ ap ordering_reverse less in absurd cc

itself : (a : List ℕ) → bytes_eq a a ≡ true
itself a = (bytes_eq-Decides a a).1 refl

-- a name that comes before others is not among them
not_among : (name : List ℕ) (names : List (List ℕ)) → Before name names → is_among name names ≡ false
not_among name [] before = refl
not_among name (other ∷ others) before =
    let P : Bool → Type 0 = λ b. bytes_eq other name ≡ b → (b || is_among name others) ≡ false in
    let cases : P (bytes_eq other name) = elim (bytes_eq other name) as P [
      | true ↦ λ e. absurd (not_before_itself name (subst (λ (o : List ℕ). name_cmp name o ≡ Less) ((bytes_eq-Decides other name).0 e) before.0))
      | false ↦ λ e. not_among name others before.1
    ] in
    cases refl

further : (name other : List ℕ) (names : List (List ℕ)) → name_cmp name other ≡ Less → Before other names → Before name names
further name other [] less before = tt
further name other (n ∷ ns) less before = (nat_list_cmp_total.trans name other n less before.0, further name other ns less before.1)

-- the names with one more

each_put : (P : List ℕ → Type 0) (name : List ℕ) (names : List (List ℕ)) → P name → AllByRecursion P names → AllByRecursion P (put_name name names)
each_put P name [] here each = (here, tt)
each_put P name (other ∷ others) here each =
    let Q : Ordering → Type 0 = λ o. AllByRecursion P (put_by o name other others (put_name name others)) in
    elim (name_cmp name other) as Q [
      | Less ↦ (here, each)
      | Equal ↦ each
      | Greater ↦ (each.0, each_put P name others here each.1)
    ]

order_put : (name : List ℕ) (names : List (List ℕ)) → AreInNameOrder names → AreInNameOrder (put_name name names)
order_put name [] order = (tt, tt)
order_put name (other ∷ others) order =
    let Q : Ordering → Type 0 = λ o. name_cmp name other ≡ o → AreInNameOrder (put_by o name other others (put_name name others)) in
    let cases : Q (name_cmp name other) = elim (name_cmp name other) as Q [
      | Less ↦ λ e. ((e, further name other others e order.0), order)
      | Equal ↦ λ e. order
      | Greater ↦ λ e. (each_put (λ (n : List ℕ). name_cmp other n ≡ Less) name others (after_is name other e) order.0, order_put name others order.1)
    ] in
    cases refl

twice : (a b : Bool) → (a || b) ≡ (a || (a || b))
twice true b = refl
twice false b = refl

across : (a b c : Bool) → (a || (b || c)) ≡ (b || (a || c))
across true true c = refl
across true false c = refl
across false b c = refl

among_put : (n name : List ℕ) (names : List (List ℕ)) → is_among n (put_name name names) ≡ (bytes_eq name n || is_among n names)
among_put n name [] = refl
among_put n name (other ∷ others) =
    let Q : Ordering → Type 0 = λ o. name_cmp name other ≡ o → is_among n (put_by o name other others (put_name name others)) ≡ (bytes_eq name n || (bytes_eq other n || is_among n others)) in
    let cases : Q (name_cmp name other) = elim (name_cmp name other) as Q [
      | Less ↦ λ e. refl
      | Equal ↦ λ e. twice (bytes_eq other n) (is_among n others) ∙ ap (λ o. bytes_eq o n || (bytes_eq other n || is_among n others)) (sym (exact_bytes name other e))
      | Greater ↦ λ e. ap (λ b. bytes_eq other n || b) (among_put n name others) ∙ across (bytes_eq other n) (bytes_eq name n) (is_among n others)
    ] in
    cases refl

order_of : (names : List (List ℕ)) → AreInNameOrder (in_order names)
order_of [] = tt
order_of (name ∷ names) = order_put name (in_order names) (order_of names)

among_rows : (n : List ℕ) (rows : List KeyRow) → is_among n (names_in_order rows) ≡ is_some (find_name rows n)
among_rows n [] = refl
among_rows n (row ∷ rows) =
    among_put n row.name (names_in_order rows) ∙ ap (λ b. bytes_eq row.name n || b) (among_rows n rows) ∙ found (bytes_eq row.name n)
  where
    found : (b : Bool) → (b || is_some (find_name rows n)) ≡ is_some (cond b (Some row) (find_name rows n))
    found true = refl
    found false = refl

-- names in order are determined by their elements

behind : (n x y : List ℕ) (xs ys : List (List ℕ)) → x ≡ y → Before x xs → Before y ys → (bytes_eq x n || is_among n xs) ≡ (bytes_eq y n || is_among n ys) → is_among n xs ≡ is_among n ys
behind n x y xs ys same first second is =
    let P : Bool → Type 0 = λ b. bytes_eq x n ≡ b → (b || is_among n xs) ≡ (b || is_among n ys) → is_among n xs ≡ is_among n ys in
    let cases : P (bytes_eq x n) = elim (bytes_eq x n) as P [
      | true ↦ λ e h.
          let its : x ≡ n = (bytes_eq-Decides x n).0 e in
          not_among n xs (subst (λ (m : List ℕ). Before m xs) its first) ∙ sym (not_among n ys (subst (λ (m : List ℕ). Before m ys) (sym same ∙ its) second))
      | false ↦ λ e h. h
    ] in
    cases refl (is ∙ ap (λ o. bytes_eq o n || is_among n ys) (sym same))

missing : (x : List ℕ) (xs ys : List (List ℕ)) → Before x ys → is_among x (x ∷ xs) ≡ is_among x ys → ⊥
missing x xs ys before same =
    let no : true ≡ false = sym (ap (λ b. b || is_among x xs) (itself x)) ∙ same ∙ not_among x ys before in
    absurd cc

one_order : (xs ys : List (List ℕ)) → AreInNameOrder xs → AreInNameOrder ys → ((n : List ℕ) → is_among n xs ≡ is_among n ys) → xs ≡ ys
one_order [] [] first second same = refl
one_order [] (y ∷ ys) first second same = absurd (missing y ys [] tt (sym (same y)))
one_order (x ∷ xs) [] first second same = absurd (missing x xs [] tt (same x))
one_order (x ∷ xs) (y ∷ ys) first second same =
    let Q : Ordering → Type 0 = λ o. name_cmp x y ≡ o → (x ∷ xs) ≡ (y ∷ ys) in
    let cases : Q (name_cmp x y) = elim (name_cmp x y) as Q [
      | Less ↦ λ e. absurd (missing x xs (y ∷ ys) (e, further x y ys e second.0) (same x))
      | Equal ↦ λ e.
          let head : x ≡ y = exact_bytes x y e in
          let tail : xs ≡ ys = one_order xs ys first.1 second.1 (λ n. behind n x y xs ys head first.0 second.0 (same n)) in
          λ i. head i ∷ tail i
      | Greater ↦ λ e. absurd (missing y ys (x ∷ xs) (after_is x y e, further y x xs (after_is x y e) first.0) (sym (same y)))
    ] in
    cases refl

pub names_are : (rows : List KeyRow) (names : List (List ℕ)) → AreNames rows names → names ≡ names_in_order rows
names_are rows names are =
    one_order names (names_in_order rows) are.order (order_of (map (λ row. row.name) rows)) (λ n. are.among n ∙ sym (among_rows n rows))

pub tells_names : (s : KmsState) (names : List (List ℕ)) → AreNames s.table.rows names
    → Answers s call.Names (reply.Names (names_in_order s.table.rows)) (reply.Names names)
tells_names s names are = answered s call.Names _ _ refl (ap reply.Names (names_are s.table.rows names are))
