-- The numbers and names in a query.
use Rattle.std.proofs.Common.{◌≡◌, ◌<◌, ◌≤◌, ◌+◌, ◌^◌, ℕ, zero, suc, List, [], ◌∷◌, ◌++◌, length, take, get_or, codes, Bool, true, false, cond, MatchOption, Result, Ok, Err, refl, sym, ap, ◌∙◌, subst, arith, rules, nat_lt}
use Rattle.std.proofs.lemmas.Bool.Decides.{nat_tests}
use Rattle.std.proofs.lemmas.Fmt.{IsAscii-from_digits}
use Rattle.std.proofs.lemmas.Str.{IsUtf8-from_ascii}
use Rattle.std.proofs.lemmas.Str.Parse.{IsDigitsTest, IsNumeralModel, numerals_by_value, parse_digits}
use Rattle.std.proofs.lemmas.List.{take_all}
use Rattle.std.proofs.lemmas.List.Elements.{All-append, All-cons, All-head, All-nil, All-tail}
use Rattle.std.specs.Char.{is_ascii_digit}
use Rattle.std.specs.List.{All, list_all}
use Rattle.std.specs.Result.{result_ok}
use Rattle.std.specs.Str.{IsUtf8, bytes_eq}
use Rattle.std.specs.Str.Parse.{ParsesUnsigned, digits_value}
use Rattle.hk_base.specs.Names.{IsKeyName}
use Rattle.path_routes.specs.declared.query.Parameter.{Parameter}
use Rattle.path_routes.proofs.QueryLemmas.{taken, values-more, values-other}
use Rattle.kms_rest.specs.Calls.{IsCount, key_values}

tells : IsDigitsTest (λ ds. list_all is_ascii_digit ds ≡ true)
tells = search rules

own : IsNumeralModel (λ ds. list_all is_ascii_digit ds ≡ true) (digits_value 10)
own = numerals_by_value _ tells

pub digits_utf8 : (ds : List ℕ) → list_all is_ascii_digit ds ≡ true → IsUtf8 ds
digits_utf8 ds h = IsUtf8-from_ascii ds (IsAscii-from_digits ds (own.to ds h))

some_lt : (ds : List ℕ) → 0 < length ds → nat_lt 0 (length ds) ≡ true
some_lt ds l = grind (arith, nat_tests)

pub count_parsed : (E : Type 0) (text : List ℕ) (r : Result ℕ E) → ParsesUnsigned 32 10 text r → list_all is_ascii_digit text ≡ true → 0 < length text
    → MatchOption (result_ok r) ((n : ℕ) → ¬ IsCount text n) (IsCount text)
count_parsed E text (Ok x) h d l =
    let p = parse_digits own {E = E} 32 text (Ok x) h d in
    let small : x < 2 ^ 32 = subst (λ (n : ℕ). n < 2 ^ 32) (sym p.1) p.0.1 in
    (rw (some_lt text l, d) refl, (sym p.1, small))
count_parsed E text (Err e) h d l =
    let p = parse_digits own {E = E} 32 text (Err e) h d in
    λ n is. p (l, subst (λ (m : ℕ). m < 2 ^ 32) (sym is.1.0) is.1.1)

-- ---- names

-- the names in a prefix of a query
pub record NamesSoFar (ps : List Parameter) (i : ℕ) (names : List (List ℕ)) : Type 0 where
  pub are : key_values (take i ps) ≡ names
  pub good : All IsKeyName names

pub names_begin : (ps : List Parameter) → NamesSoFar ps 0 []
names_begin ps = record { are = refl; good = All-nil IsKeyName }

pub names_end : (ps : List Parameter) (i : ℕ) (names : List (List ℕ)) → NamesSoFar ps i names → length ps ≤ i → (key_values ps ≡ names) × All IsKeyName names
names_end ps i names so l = (ap key_values (sym (take_all i ps l)) ∙ so.are, so.good)

pub names_skip : (ps : List Parameter) (i : ℕ) (p : Parameter) (names : List (List ℕ)) → i < length ps → p ≡ get_or ps i p → bytes_eq p.name (codes "key") ≡ false
    → NamesSoFar ps i names → NamesSoFar ps (i + 1) names
names_skip ps i p names l q e so = record {
  are = ap key_values (sym (taken ps ps i p refl l q)) ∙ values-other (codes "key") (take i ps) p e ∙ so.are;
  good = so.good;
}

pub names_more : (ps : List Parameter) (i : ℕ) (p : Parameter) (names : List (List ℕ)) → i < length ps → p ≡ get_or ps i p → bytes_eq p.name (codes "key") ≡ true → IsKeyName p.value
    → NamesSoFar ps i names → NamesSoFar ps (i + 1) (names ++ p.value ∷ [])
names_more ps i p names l q e good so = record {
  are = ap key_values (sym (taken ps ps i p refl l q)) ∙ values-more (codes "key") (take i ps) p e ∙ ap (λ ns. ns ++ p.value ∷ []) so.are;
  good = All-append IsKeyName names (p.value ∷ []) so.good (All-cons IsKeyName p.value [] good (All-nil IsKeyName));
}

value_at : (ps : List Parameter) (i : ℕ) (d : Parameter) → i < length ps → bytes_eq (get_or ps i d).name (codes "key") ≡ true → All IsKeyName (key_values ps) → IsKeyName (get_or ps i d).value
value_at [] i d l e all = absurd (omega (arith, l))
value_at (q ∷ ps) zero d l e all = All-head IsKeyName q.value (key_values ps) (rw e at all)
value_at (q ∷ ps) (suc i) d l e all = value_at ps i d (omega (arith, l)) e (by (bytes_eq q.name (codes "key")) all)
  where
    by : (v : Bool) → All IsKeyName (cond v (q.value ∷ key_values ps) (key_values ps)) → All IsKeyName (key_values ps)
    by true all = All-tail IsKeyName q.value (key_values ps) all
    by false all = all

pub names_bad : (ps : List Parameter) (i : ℕ) (p : Parameter) → i < length ps → p ≡ get_or ps i p → bytes_eq p.name (codes "key") ≡ true → ¬ IsKeyName p.value → ¬ All IsKeyName (key_values ps)
names_bad ps i p l q e bad all =
    let here : bytes_eq (get_or ps i p).name (codes "key") ≡ true = subst (λ (x : Parameter). bytes_eq x.name (codes "key") ≡ true) q e in
    bad (subst (λ (x : Parameter). IsKeyName x.value) (sym q) (value_at ps i p l here all))

pub names_pushed : (ps : List Parameter) (i : ℕ) (p : Parameter) (names new : List (List ℕ)) (name v : List ℕ) → i < length ps → p ≡ get_or ps i p → bytes_eq p.name (codes "key") ≡ true
    → v ≡ p.value → IsKeyName v → name ≡ v → new ≡ names ++ name ∷ [] → NamesSoFar ps i names → NamesSoFar ps (i + 1) new
names_pushed ps i p names new name v l q e w good is grown so =
    let more = names_more ps i p names l q e (subst (λ (x : List ℕ). IsKeyName x) w good) so in
    subst (λ (ns : List (List ℕ)). NamesSoFar ps (i + 1) ns) (sym (grown ∙ ap (λ x. names ++ x ∷ []) (is ∙ w))) more

pub names_refused : (ps : List Parameter) (i : ℕ) (p : Parameter) (v : List ℕ) → i < length ps → p ≡ get_or ps i p → bytes_eq p.name (codes "key") ≡ true → v ≡ p.value → ¬ IsKeyName v → ¬ All IsKeyName (key_values ps)
names_refused ps i p v l q e w bad = names_bad ps i p l q e (λ is. bad (subst (λ (x : List ℕ). IsKeyName x) (sym w) is))
