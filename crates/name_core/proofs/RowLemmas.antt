-- Rows with ids below a bound, and the row of the zone that a path lies in.
use Rattle.std.proofs.Common.{◌≡◌, ℕ, ◌<◌, Bool, true, false, cond, ◌||◌, nat_lt, nat_le, ◌==◌, ◌^◌, List, [], ◌∷◌, length, Option, Some, None, IsSome, refl, sym, ap, ◌∙◌, subst, arith}
use Rattle.std.specs.Bool.{⊤}
use Rattle.std.specs.Option.{option_map}
use Rattle.std.specs.List.{All}
use Rattle.std.proofs.lemmas.Bool.Decides.{nat_tests}
use Rattle.std.proofs.lemmas.List.Elements.{All-head, All-tail, All-cons}
use Rattle.name_calls.specs.Paths.{is_before}
use Rattle.inode_tree.specs.Rows.{Entry, IsRows, entry_of, is_zone_over, longer, put, zone_id, zone_of}
use Rattle.name_calls.specs.declared.calls.NameRefusal.TheVariants.{TooManyInodes}
use Rattle.name_store.specs.Causes.{first_cause, has_most_rows, make_causes}
use Rattle.name_store.proofs.CauseLemmas.{clear, none-of-both}
use Rattle.name_core.specs.State.{NameState, is_full}
use Rattle.name_core.specs.Calls.{mkdir_causes}

abbrev pub BelowId : ℕ → Entry → Type 0
BelowId n e = e.row.id < n

differ : (a b : ℕ) → a < b → (a == b) ≡ false
differ a b h = grind arith

-- an id above all that are used is free
pub id-free : (es : List Entry) (n : ℕ) → All (BelowId n) es → entry_of es n ≡ None
id-free [] n h = refl
id-free (e ∷ es) n h =
    ap (λ b. cond b (Some e) (entry_of es n)) (differ e.row.id n (All-head (BelowId n) e es h)) ∙ id-free es n (All-tail (BelowId n) e es h)

all-either : (P : Entry → Type 0) (b : Bool) (xs ys : List Entry) → All P xs → All P ys → All P (cond b xs ys)
all-either P true xs ys h g = h
all-either P false xs ys h g = g

pub all-put : (P : Entry → Type 0) (e : Entry) (es : List Entry) → P e → All P es → All P (put e es)
all-put P e [] p h = All-cons P e [] p h
all-put P e (x ∷ xs) p h =
    all-either P (is_before e.path x.path) (e ∷ x ∷ xs) (x ∷ put e xs) (All-cons P e (x ∷ xs) p h)
    (All-cons P x (put e xs) (All-head P x xs h) (all-put P e xs p (All-tail P x xs h)))

-- with one more row of id n, all ids are below a higher one
pub below-put : (e : Entry) (es : List Entry) (n m : ℕ) → e.row.id ≡ n → n < m → All (BelowId n) es → All (BelowId m) (put e es)
below-put e es n m is more h = all-put (BelowId m) e es (omega (arith, is, more)) (λ k d b. omega (arith, more, h k d b))

abbrev pub HoldsOf : (Entry → Type 0) → Option Entry → Type 0
HoldsOf P None = ⊤
HoldsOf P (Some e) = P e

holds-either : (P : Entry → Type 0) (b : Bool) (o q : Option Entry) → HoldsOf P o → HoldsOf P q → HoldsOf P (cond b o q)
holds-either P true o q h g = h
holds-either P false o q h g = g

either-holds : (P : Entry → Type 0) (b : Bool) (e f : Entry) → P e → P f → P (cond b e f)
either-holds P true e f h g = h
either-holds P false e f h g = g

longer-holds : (P : Entry → Type 0) (e : Entry) (o : Option Entry) → P e → HoldsOf P o → P (longer e o)
longer-holds P e None h g = h
longer-holds P e (Some f) h g = either-holds P (nat_lt (length e.path) (length f.path)) f e g h

-- a property of all rows is true of the row of a zone
pub zone-holds : (P : Entry → Type 0) (p : List (List ℕ)) (es : List Entry) → All P es → HoldsOf P (zone_of es p)
zone-holds P p [] h = tt
zone-holds P p (e ∷ es) h =
    let rest = zone-holds P p es (All-tail P e es h) in
    holds-either P (is_zone_over p e) (Some (longer e (zone_of es p))) (zone_of es p) (longer-holds P e (zone_of es p) (All-head P e es h) rest) rest

-- the row that has the id of a path's zone is that zone's row
pub zone-row : (rows : List Entry) (p : List (List ℕ)) (id : ℕ) → IsRows rows → zone_id rows p ≡ Some id → entry_of rows id ≡ zone_of rows p
zone-row rows p id good h = go (zone_of rows p) (zone-holds (λ e. entry_of rows e.row.id ≡ Some e) p rows good.once) h
  where
    go : (o : Option Entry) → HoldsOf (λ e. entry_of rows e.row.id ≡ Some e) o → option_map (λ e. e.row.id) o ≡ Some id → entry_of rows id ≡ o
    go None once is = absurd cc
    go (Some z) once is = let same : id ≡ z.row.id = cc in ap (entry_of rows) same ∙ once

pub zone-stands : (rows : List Entry) (p : List (List ℕ)) (id : ℕ) → IsRows rows → zone_id rows p ≡ Some id → IsSome (entry_of rows id)
zone-stands rows p id good h = subst (λ (o : Option Entry). IsSome o) (sym (zone-row rows p id good h)) (go (zone_of rows p) h)
  where
    go : (o : Option Entry) → option_map (λ e. e.row.id) o ≡ Some id → IsSome o
    go None is = absurd cc
    go (Some z) is = refl

pub zone-path : (rows : List Entry) (p : List (List ℕ)) (id : ℕ) → IsRows rows → zone_id rows p ≡ Some id
    → option_map (λ e. e.path) (entry_of rows id) ≡ option_map (λ e. e.path) (zone_of rows p)
zone-path rows p id good h = ap (option_map (λ e. e.path)) (zone-row rows p id good h)

not-all : (n : ℕ) (b : Bool) → (b || nat_le (2 ^ 32) n) ≡ false → n < 2 ^ 32
not-all n true h = absurd cc
not-all n false h = grind (arith, nat_tests, h)

-- there is an id for a path that may be made
pub room-left : (s : NameState) (p : List (List ℕ)) → first_cause (mkdir_causes s p) ≡ None → s.next < 2 ^ 32
room-left s p h =
    let m = none-of-both (make_causes s.table.rows p) ((is_full s, TooManyInodes) ∷ []) h in
    not-all s.next (has_most_rows s.table.rows) (clear (is_full s) TooManyInodes None m.1).0
