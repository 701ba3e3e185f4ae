-- Rows of a table: births increase, names are unique, and each row is a key.
use Rattle.std.proofs.Common.{◌≡◌, ◌≢◌, ℕ, zero, suc, get_or, ◌<◌, ◌≤◌, List, [], ◌∷◌, ◌++◌, length, find, filter, Bool, true, false, cond, ◌==◌, Option, None, Some, is_none, IfSome, refl, ap, sym, ◌∙◌, arith}
use Rattle.std.specs.List.{AllByRecursion}
use Rattle.std.specs.Str.{bytes_eq}
use Rattle.std.proofs.lemmas.Bool.Decides.{Decides-eqb}
use Rattle.std.proofs.lemmas.Slice.Eq.{bytes_eq-Decides}
use Rattle.key_rows.specs.declared.rows.KeyRow.{KeyRow}
use Rattle.key_rows.specs.Table.{is_born, find_name, find_birth}
use Rattle.key_rows.specs.Sound.{AreRowsRising, NamesOnce}

-- a property of each element

pub each_more : {X : Type 0} (P : X → Type 0) (xs : List X) (x : X) → AllByRecursion P xs → P x → AllByRecursion P (xs ++ x ∷ [])
each_more P [] x each here = (here, tt)
each_more P (y ∷ ys) x each here = (each.0, each_more P ys x each.1 here)

pub each_filter : {X : Type 0} (P : X → Type 0) (p : X → Bool) (xs : List X) → AllByRecursion P xs → AllByRecursion P (filter p xs)
each_filter P p [] each = tt
each_filter P p (x ∷ xs) each =
    let rest = each_filter P p xs each.1 in
    let Q : Bool → Type 0 = λ b. AllByRecursion P (cond b (x ∷ filter p xs) (filter p xs)) in
    elim (p x) as Q [ true ↦ (each.0, rest) | false ↦ rest ]

pub length-filter_le : {X : Type 0} (p : X → Bool) (xs : List X) → length (filter p xs) ≤ length xs
length-filter_le p [] = omega arith
length-filter_le p (x ∷ xs) =
    let rest = length-filter_le p xs in
    let Q : Bool → Type 0 = λ b. length (cond b (x ∷ filter p xs) (filter p xs)) ≤ length (x ∷ xs) in
    elim (p x) as Q [ true ↦ omega arith | false ↦ omega arith ]

-- an element that is found has the property of all rows, and passes the test
pub found_has : {X : Type 0} (P : X → Type 0) (p : X → Bool) (xs : List X) → AllByRecursion P xs → IfSome (find p xs) P
found_has P p [] each = tt
found_has P p (x ∷ xs) each =
    let Q : Bool → Type 0 = λ b. IfSome (cond b (Some x) (find p xs)) P in
    elim (p x) as Q [ true ↦ each.0 | false ↦ found_has P p xs each.1 ]

-- the first row that passes a test is found
pub find_at : (p : KeyRow → Bool) (rows : List KeyRow) (i : ℕ) (d : KeyRow) → i < length rows → p (get_or rows i d) ≡ true → ((k : ℕ) → k < i → p (get_or rows k d) ≡ false) → find p rows ≡ Some (get_or rows i d)
find_at p [] i d within here before = absurd (omega arith)
find_at p (row ∷ rows) zero d within here before = ap (λ b. cond b (Some row) (find p rows)) here
find_at p (row ∷ rows) (suc i) d within here before =
    ap (λ b. cond b (Some row) (find p rows)) (before 0 (omega arith)) ∙ find_at p rows i d (omega arith) here (λ k below. before (suc k) (omega arith))

-- births

pub rising_more : (low : ℕ) (rows : List KeyRow) (top : ℕ) (row : KeyRow) → AreRowsRising low rows top → top < row.birth → AreRowsRising low (rows ++ row ∷ []) row.birth
rising_more low [] top row rising above = (omega arith, omega arith)
rising_more low (r ∷ rows) top row rising above = (rising.0, rising_more r.birth rows top row rising.1 above)

pub rising_lower : (low lower : ℕ) (rows : List KeyRow) (top : ℕ) → lower ≤ low → AreRowsRising low rows top → AreRowsRising lower rows top
rising_lower low lower [] top below rising = omega arith
rising_lower low lower (r ∷ rows) top below rising = (omega (arith, rising.0), rising.1)

pub rising_filter : (low : ℕ) (p : KeyRow → Bool) (rows : List KeyRow) (top : ℕ) → AreRowsRising low rows top → AreRowsRising low (filter p rows) top
rising_filter low p [] top rising = rising
rising_filter low p (r ∷ rows) top rising =
    let rest = rising_filter r.birth p rows top rising.1 in
    let Q : Bool → Type 0 = λ b. AreRowsRising low (cond b (r ∷ filter p rows) (filter p rows)) top in
    elim (p r) as Q [ true ↦ (rising.0, rest) | false ↦ rising_lower r.birth low (filter p rows) top (omega (arith, rising.0)) rest ]

pub other_number : (a b : ℕ) → a ≢ b → (a == b) ≡ false
other_number a b other =
    let P : Bool → Type 0 = λ t. (a == b) ≡ t → (a == b) ≡ false in
    let cases : P (a == b) = elim (a == b) as P [ true ↦ λ e. absurd (other ((Decides-eqb a b).0 e)) | false ↦ λ e. e ] in
    cases refl

-- the rows after a row do not have its birth
pub none_born : (low birth : ℕ) (rows : List KeyRow) (top : ℕ) → birth ≤ low → AreRowsRising low rows top → AllByRecursion (λ (row : KeyRow). is_born birth row ≡ false) rows
none_born low birth [] top below rising = tt
none_born low birth (r ∷ rows) top below rising =
    (other_number r.birth birth (λ e. absurd (omega (arith, rising.0))), none_born r.birth birth rows top (omega (arith, rising.0)) rising.1)

-- the birth of a row that is found is above `low`
above_low : (low : ℕ) (p : KeyRow → Bool) (rows : List KeyRow) (top : ℕ) → AreRowsRising low rows top → IfSome (find p rows) (λ row. low < row.birth)
above_low low p [] top rising = tt
above_low low p (r ∷ rows) top rising =
    let Q : Bool → Type 0 = λ b. IfSome (cond b (Some r) (find p rows)) (λ row. low < row.birth) in
    let R : Option KeyRow → Type 0 = λ o. IfSome o (λ row. r.birth < row.birth) → IfSome o (λ row. low < row.birth) in
    let later : R (find p rows) = elim (find p rows) as R [ None ↦ λ h. tt | Some row ↦ λ h. omega (arith, h, rising.0) ] in
    elim (p r) as Q [ true ↦ rising.0 | false ↦ later (above_low r.birth p rows top rising.1) ]

-- a row that is found is also found by its birth
pub by_birth : (low : ℕ) (p : KeyRow → Bool) (rows : List KeyRow) (top : ℕ) → AreRowsRising low rows top → IfSome (find p rows) (λ row. find_birth rows row.birth ≡ Some row)
by_birth low p [] top rising = tt
by_birth low p (r ∷ rows) top rising =
    let Q : Bool → Type 0 = λ b. IfSome (cond b (Some r) (find p rows)) (λ row. find_birth (r ∷ rows) row.birth ≡ Some row) in
    let R : Option KeyRow → Type 0 = λ o. IfSome o (λ row. r.birth < row.birth) → IfSome o (λ row. find_birth rows row.birth ≡ Some row) → IfSome o (λ row. find_birth (r ∷ rows) row.birth ≡ Some row) in
    let later : R (find p rows) = elim (find p rows) as R [
      | None ↦ λ h is. tt
      | Some row ↦ λ h is. ap (λ b. cond b (Some r) (find_birth rows row.birth)) (other_number r.birth row.birth (λ same. absurd (omega arith))) ∙ is
    ] in
    elim (p r) as Q [
      | true ↦ ap (λ b. cond b (Some r) (find_birth rows r.birth)) ((Decides-eqb r.birth r.birth).1 refl)
      | false ↦ later (above_low r.birth p rows top rising.1) (by_birth r.birth p rows top rising.1)
    ]

-- names

pub other_names : (name : List ℕ) (rows : List KeyRow) → is_none (find_name rows name) ≡ true → AllByRecursion (λ (row : KeyRow). row.name ≢ name) rows
other_names name [] none = tt
other_names name (r ∷ rows) none =
    let P : Bool → Type 0 = λ b. bytes_eq r.name name ≡ b → is_none (cond b (Some r) (find_name rows name)) ≡ true → AllByRecursion (λ (row : KeyRow). row.name ≢ name) (r ∷ rows) in
    let cases : P (bytes_eq r.name name) = elim (bytes_eq r.name name) as P [
      | true ↦ λ e h. absurd cc
      | false ↦ λ e h. (λ same. let yes : bytes_eq r.name name ≡ true = (bytes_eq-Decides r.name name).1 same in cc, other_names name rows h)
    ] in
    cases refl none

pub names_more : (rows : List KeyRow) (row : KeyRow) → NamesOnce rows → AllByRecursion (λ (other : KeyRow). other.name ≢ row.name) rows → NamesOnce (rows ++ row ∷ [])
names_more [] row once others = (tt, tt)
names_more (r ∷ rows) row once others =
    (each_more (λ (other : KeyRow). other.name ≢ r.name) rows row once.0 (λ same. others.0 (sym same)), names_more rows row once.1 others.1)

pub names_filter : (p : KeyRow → Bool) (rows : List KeyRow) → NamesOnce rows → NamesOnce (filter p rows)
names_filter p [] once = tt
names_filter p (r ∷ rows) once =
    let rest = names_filter p rows once.1 in
    let Q : Bool → Type 0 = λ b. NamesOnce (cond b (r ∷ filter p rows) (filter p rows)) in
    elim (p r) as Q [ true ↦ (each_filter (λ (other : KeyRow). other.name ≢ r.name) p rows once.0, rest) | false ↦ rest ]
