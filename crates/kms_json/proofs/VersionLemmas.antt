-- The text of a version names that version, and no other text does.
use Rattle.std.proofs.Common.{◌≡◌, ℕ, ◌+◌, ◌^◌, ◌<◌, ◌≤◌, ap₂, List, ◌∷◌, ◌++◌, length, take, drop, get_or, Bool, true, false, ◌&&◌, Option, Some, None, refl, ap, sym, subst, ◌∙◌, arith, append_assoc, length-append, length-drop, codes, nat_lt}
use Rattle.std.specs.List.{list_all, position_or_len, before_first, after_first}
use Rattle.std.specs.Fmt.{decimal}
use Rattle.std.specs.Option.{option_map}
use Rattle.std.specs.Str.{bytes_eq}
use Rattle.std.specs.Str.Parse.{digits_value}
use Rattle.std.proofs.lemmas.Fmt.{decimal_is_IsNumeral, decimal_nonempty}
use Rattle.std.proofs.lemmas.Bool.{and_parts, lt-ltb, ltb-true}
use Rattle.std.proofs.lemmas.Bool.Decides.{Decides-eqb}
use Rattle.std.proofs.lemmas.Slice.Eq.{bytes_eq-Decides}
use Rattle.std.proofs.lemmas.List.{get_or_append_left}
use Rattle.std.proofs.lemmas.List.Folds.{list_all_at}
use Rattle.std.proofs.lemmas.List.Sums.{passes_at_first, position_or_len_is, split_at_first}
use Rattle.std.proofs.Math.Seq.{get_or-append_seam}
use Rattle.hk_base.specs.Names.{IsKeyName, Version, is_at_sign, is_key_name, is_name_byte, version_text}
use Rattle.hk_base.proofs.Versions.{drop_key, take_key}
use Rattle.kms_json.specs.Versions.{number_named, version_named, version_of}

-- numbers

unsome : {m n : ℕ} → Some m ≡ Some n → m ≡ n
unsome same = cc

number_of_decimal : (n : ℕ) → n < 2 ^ 16 → number_named (decimal n) ≡ Some n
number_of_decimal n small =
    let value : digits_value 10 (decimal n) ≡ n = (decimal_is_IsNumeral n (omega arith)).1 in
    let same : bytes_eq (decimal n) (decimal n) ≡ true = (bytes_eq-Decides (decimal n) (decimal n)).1 refl in
    let fits : nat_lt n (2 ^ 16) ≡ true = lt-ltb n (2 ^ 16) small in
    rw (value, fits, same)

decimal_of_number : (digits : List ℕ) (n : ℕ) → number_named digits ≡ Some n → (n < 2 ^ 16) × (digits ≡ decimal n)
decimal_of_number digits n is =
    let P : Bool → Type 0 = λ t. (nat_lt (digits_value 10 digits) (2 ^ 16) && bytes_eq (decimal (digits_value 10 digits)) digits) ≡ t → (n < 2 ^ 16) × (digits ≡ decimal n) in
    let cases : P (nat_lt (digits_value 10 digits) (2 ^ 16) && bytes_eq (decimal (digits_value 10 digits)) digits) = elim (nat_lt (digits_value 10 digits) (2 ^ 16) && bytes_eq (decimal (digits_value 10 digits)) digits) as P [
      | true ↦ λ e.
          let parts = and_parts _ _ e in
          let found : Some (digits_value 10 digits) ≡ Some n = rw e at is in
          let value : digits_value 10 digits ≡ n = unsome found in
          let below = ltb-true (digits_value 10 digits) (2 ^ 16) parts.0 in
          let same : decimal (digits_value 10 digits) ≡ digits = (bytes_eq-Decides (decimal (digits_value 10 digits)) digits).0 parts.1 in
          (omega arith, sym same ∙ ap decimal value)
      | false ↦ λ e. let none : None ≡ Some n = rw e at is in absurd cc
    ] in
    cases refl

-- the place of the sign

bytes_may_stand : (key : List ℕ) → IsKeyName key → list_all is_name_byte key ≡ true
bytes_may_stand key name = (and_parts _ _ name).1

not_at_sign : (b : ℕ) → is_name_byte b ≡ true → is_at_sign b ≡ true → ⊥
not_at_sign b may at = grind arith

no_at_sign : (key : List ℕ) (k : ℕ) → IsKeyName key → k < length key → is_at_sign (get_or key k 0) ≡ false
no_at_sign key k name below =
    let P : Bool → Type 0 = λ t. is_name_byte (get_or key k 0) ≡ t → is_at_sign (get_or key k 0) ≡ false in
    let cases : P (is_name_byte (get_or key k 0)) = elim (is_name_byte (get_or key k 0)) as P [
      | true ↦ λ e.
          let Q : Bool → Type 0 = λ t. is_at_sign (get_or key k 0) ≡ t → is_at_sign (get_or key k 0) ≡ false in
          let inner : Q (is_at_sign (get_or key k 0)) = elim (is_at_sign (get_or key k 0)) as Q [
            | true ↦ λ at. absurd (not_at_sign (get_or key k 0) e at)
            | false ↦ λ not. not
          ] in inner refl
      | false ↦ λ e. let all : list_all is_name_byte key ≡ false = list_all_at is_name_byte key k 0 below e in let none = bytes_may_stand key name in absurd cc
    ] in
    cases refl

sign_behind : (key : List ℕ) (number : ℕ) → get_or (version_text key number) (length key) 0 ≡ 64
sign_behind key number = ap (λ l. get_or l (length key) 0) (append_assoc key (codes "@") (decimal number)) ∙ get_or-append_seam key 64 (decimal number) 0

key_before : (key : List ℕ) (number k : ℕ) → k < length key → get_or (version_text key number) k 0 ≡ get_or key k 0
key_before key number k below =
    ap (λ l. get_or l k 0) (append_assoc key (codes "@") (decimal number)) ∙ get_or_append_left key (codes "@" ++ decimal number) 0 k below

place_is : (key : List ℕ) (number : ℕ) → IsKeyName key → position_or_len is_at_sign (version_text key number) ≡ length key
place_is key number name =
    let within : length key ≤ length (version_text key number) = omega (arith, length-append (key ++ codes "@") (decimal number), length-append key (codes "@")) in
    position_or_len_is is_at_sign (version_text key number) (length key) 0 within
    (λ k below. ap is_at_sign (key_before key number k below) ∙ no_at_sign key k name below)
    (λ _. ap is_at_sign (sign_behind key number))

key_is : (key : List ℕ) (number : ℕ) → IsKeyName key → before_first is_at_sign (version_text key number) ≡ key
key_is key number name = ap (λ n. take n (version_text key number)) (place_is key number name) ∙ take_key key number

digits_are : (key : List ℕ) (number : ℕ) → IsKeyName key → after_first is_at_sign (version_text key number) ≡ decimal number
digits_are key number name = ap (λ n. drop (n + 1) (version_text key number)) (place_is key number name) ∙ drop_key key number

pub named_by_text : (key : List ℕ) (number : ℕ) → IsKeyName key → number < 2 ^ 16 → version_named (version_text key number) ≡ Some (version_of key number)
named_by_text key number name small = rw (key_is key number name, digits_are key number name, name, number_of_decimal number small)

-- a text that names a version is the version's text

record Parts (text : List ℕ) (v : Version) : Type 0 where
  pub key_named : is_key_name (before_first is_at_sign text) ≡ true
  pub key_same : before_first is_at_sign text ≡ v.key
  pub number_same : number_named (after_first is_at_sign text) ≡ Some v.number

number_part : (key digits : List ℕ) (v : Version) → option_map (version_of key) (number_named digits) ≡ Some v → (key ≡ v.key) × (number_named digits ≡ Some v.number)
number_part key digits v is =
    let P : Option ℕ → Type 0 = λ n. number_named digits ≡ n → (key ≡ v.key) × (number_named digits ≡ Some v.number) in
    let cases : P (number_named digits) = elim (number_named digits) as P [
      | None ↦ λ e. let none : None ≡ Some v = rw e at is in absurd cc
      | Some n ↦ λ e. let some : Some (version_of key n) ≡ Some v = rw e at is in
          let whole : version_of key n ≡ v = cc in
          (ap (λ (w : Version). w.key) whole, e ∙ ap (λ (w : Version). Some w.number) whole)
    ] in
    cases refl

parts_of : (text : List ℕ) (v : Version) → version_named text ≡ Some v → Parts text v
parts_of text v is =
    let P : Bool → Type 0 = λ t. is_key_name (before_first is_at_sign text) ≡ t → Parts text v in
    let cases : P (is_key_name (before_first is_at_sign text)) = elim (is_key_name (before_first is_at_sign text)) as P [
      | true ↦ λ e.
          let found : option_map (version_of (before_first is_at_sign text)) (number_named (after_first is_at_sign text)) ≡ Some v = rw e at is in
          let both = number_part (before_first is_at_sign text) (after_first is_at_sign text) v found in
          record { key_named = e; key_same = both.0; number_same = both.1 }
      | false ↦ λ e. let none : None ≡ Some v = rw e at is in absurd cc
    ] in
    cases refl

pub text_of_named : (text : List ℕ) (v : Version) → version_named text ≡ Some v → IsKeyName v.key × (v.number < 2 ^ 16) × (text ≡ version_text v.key v.number)
text_of_named text v is =
    let parts = parts_of text v is in
    let number = decimal_of_number (after_first is_at_sign text) v.number parts.number_same in
    let some : 0 < length (decimal v.number) = decimal_nonempty v.number (omega arith) in
    let within : position_or_len is_at_sign text < length text = omega (arith, length-drop (position_or_len is_at_sign text + 1) text, ap length number.1) in
    let sign : get_or text (position_or_len is_at_sign text) 0 ≡ 64 = (Decides-eqb (get_or text (position_or_len is_at_sign text) 0) 64).0 (passes_at_first is_at_sign text 0 within) in (
      subst IsKeyName parts.key_same parts.key_named,
      number.0,
      split_at_first is_at_sign text 0 within
          ∙ ap₂ (λ xs ys. xs ++ ys) parts.key_same (ap₂ (λ x xs. x ∷ xs) sign number.1)
          ∙ sym (append_assoc v.key (codes "@") (decimal v.number)),
    )

-- the result of reading a version

pub found_named : (text : List ℕ) (v : Version) → v.number < 2 ^ 16 → IsKeyName v.key → text ≡ version_text v.key v.number → Some v ≡ version_named text
found_named text v small name is = sym (ap version_named is ∙ named_by_text v.key v.number name small)

pub none_named : (text : List ℕ) → ((key : List ℕ) (number : ℕ) → IsKeyName key → number < 2 ^ 16 → text ≡ version_text key number → ⊥) → None ≡ version_named text
none_named text none =
    let P : Option Version → Type 0 = λ o. version_named text ≡ o → None ≡ version_named text in
    let cases : P (version_named text) = elim (version_named text) as P [
      | None ↦ λ e. sym e
      | Some v ↦ λ e. let is = text_of_named text v e in absurd (none v.key v.number is.0 is.1 is.2)
    ] in
    cases refl
