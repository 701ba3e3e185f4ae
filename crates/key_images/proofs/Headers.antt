-- An image is a header and keys.
use Rattle.std.proofs.Common.{◌≡◌, ◌⊎◌, ℕ, ◌+◌, ◌-◌, ◌^◌, ◌<◌, ◌≤◌, Bool, true, false, ◌&&◌, ◌||◌, ◌==◌, List, ◌++◌, length, Option, Some, None, refl, sym, ap, subst, ◌∙◌, arith, inl, inr}
use Rattle.std.specs.Prelude.{nat_le, IsErrOf, Err}
use Rattle.std.specs.Int.{w32, w64, to_be_bytes}
use Rattle.std.proofs.lemmas.Bool.Decides.{Decides-eqb, nat_tests}
use Rattle.std.proofs.lemmas.Bool.{and_parts}
use Rattle.std.proofs.lemmas.Option.{same_Some}
use Rattle.hk_base.specs.declared.records.RecordFault.{RecordFault}
use Rattle.hk_base.specs.declared.records.RecordFault.TheVariants.{NoRecord, NoMemory}
use Rattle.key_rows.specs.Image.{IsBirthUpTo, IsKeyImage, key_rows_image}
use Rattle.key_rows.specs.Reading.{◌>>=◌, FailsToRead, number_at}
use Rattle.key_rows.specs.Table.{Table, opening_of}
use Rattle.key_rows.proofs.FieldLemmas.{IsBytes, bind_some, bind_is, wide32, wide64, number_takes, number_again}
use Rattle.key_rows.proofs.ImageLemmas.{greatest_fits}
use Rattle.key_index.specs.Adding.{index_since}
use Rattle.key_index.specs.Index.{Index}
use Rattle.key_images.specs.Adding.{AddsKeys, AddsNoKeys, AreImageRows}
use Rattle.key_images.specs.Images.{IsIndexOfImage, IsNoImage, header_at, may_be_greatest}
use Rattle.key_images.specs.Places.{placed_keys}

abbrev pub Header : Type 0
Header = ℕ × ℕ × ℕ × List ℕ

abbrev on_count : ℕ → ℕ → ℕ × List ℕ → Option Header
on_count opening greatest count = Some (opening, greatest, count.0, count.1)

abbrev on_greatest : ℕ → ℕ × List ℕ → Option Header
on_greatest opening greatest = number_at w32 greatest.1 >>= on_count opening greatest.0

abbrev on_opening : ℕ × List ℕ → Option Header
on_opening opening = number_at w64 opening.1 >>= on_greatest opening.0

pub record HeaderTaken (bytes : List ℕ) (h : Header) : Type 0 where
  pub parts : bytes ≡ to_be_bytes w32 h.0 ++ (to_be_bytes w64 h.1 ++ (to_be_bytes w32 h.2 ++ h.3))
  pub opening : h.0 < 2 ^ 32

pub header_takes : (bytes : List ℕ) (h : Header) → IsBytes bytes → header_at bytes ≡ Some h → HeaderTaken bytes h
unfolding header_at
header_takes bytes h fits e =
    let a0 = bind_some (number_at w32 bytes) on_opening h e in
    let t0 = number_takes w32 (2 ^ 32) wide32 bytes a0.0 fits a0.1 in
    let a1 = bind_some (number_at w64 a0.0.1) (on_greatest a0.0.0) h a0.2 in
    let t1 = number_takes w64 (2 ^ 64) wide64 a0.0.1 a1.0 t0.0.rest_fits a1.1 in
    let a2 = bind_some (number_at w32 a1.0.1) (on_count a0.0.0 a1.0.0) h a1.2 in
    let t2 = number_takes w32 (2 ^ 32) wide32 a1.0.1 a2.0 t1.0.rest_fits a2.1 in
    let parts : bytes ≡ to_be_bytes w32 a0.0.0 ++ (to_be_bytes w64 a1.0.0 ++ (to_be_bytes w32 a2.0.0 ++ a2.0.1)) =
    t0.0.parts ∙ ap (λ (w : List ℕ). to_be_bytes w32 a0.0.0 ++ w) (t1.0.parts ∙ ap (λ (w : List ℕ). to_be_bytes w64 a1.0.0 ++ w) t2.0.parts) in
    subst (HeaderTaken bytes) (same_Some (a0.0.0, a1.0.0, a2.0.0, a2.0.1) h a2.2) (record { parts = parts; opening = t0.1 })

pub header_again : (opening greatest count : ℕ) (rest : List ℕ) → opening < 2 ^ 32 → greatest < 2 ^ 64 → count < 2 ^ 32
    → header_at (to_be_bytes w32 opening ++ (to_be_bytes w64 greatest ++ (to_be_bytes w32 count ++ rest))) ≡ Some (opening, greatest, count, rest)
unfolding header_at
header_again opening greatest count rest a b c =
    let made : Option Header = Some (opening, greatest, count, rest) in
    let r2 = to_be_bytes w32 count ++ rest in
    let r1 = to_be_bytes w64 greatest ++ r2 in
    bind_is (number_at w32 (to_be_bytes w32 opening ++ r1)) on_opening (opening, r1) made (number_again w32 (2 ^ 32) wide32 opening r1 a)
    (bind_is (number_at w64 r1) (on_greatest opening) (greatest, r2) made (number_again w64 (2 ^ 64) wide64 greatest r2 b)
    (bind_is (number_at w32 r2) (on_count opening greatest) (count, rest) made (number_again w32 (2 ^ 32) wide32 count rest c) refl))

-- the header of an image
image_header : (bytes : List ℕ) (t : Table) → IsKeyImage bytes t → header_at bytes ≡ Some (t.opening, t.greatest, length t.rows, key_rows_image t.rows)
image_header bytes t is =
    ap header_at is.bytes_are ∙ header_again t.opening t.greatest (length t.rows) (key_rows_image t.rows) is.has.table.opening (greatest_fits t is.has) (omega (arith, is.has.table.few))

none_some : {A : Type 0} (o : Option A) (x : A) → o ≡ None → o ≡ Some x → ⊥
none_some None x none some = absurd cc
none_some (Some y) x none some = absurd cc

pub failed : {T : Type 0} (bytes : List ℕ) (f : RecordFault) → FailsToRead f (header_at bytes) → IsErrOf {T = T} (Err f) NoRecord → IsNoImage bytes
failed bytes NoRecord none e t is = none_some (header_at bytes) (t.opening, t.greatest, length t.rows, key_rows_image t.rows) none (image_header bytes t is)
failed bytes NoMemory none e t is = absurd cc

greatest_may : (opening greatest : ℕ) → (greatest ≡ 0) ⊎ IsBirthUpTo opening greatest → may_be_greatest opening greatest ≡ true
greatest_may opening greatest has = elim has [
  | inl none ↦ ap (λ n. may_be_greatest opening n) none
  | inr of ↦ grind (arith, nat_tests, of.first, of.last)
]

may_greatest : (opening greatest : ℕ) → may_be_greatest opening greatest ≡ true → (greatest ≡ 0) ⊎ IsBirthUpTo opening greatest
may_greatest opening greatest may =
    let P : Bool → Type 0 = λ b. (greatest == 0) ≡ b → (b || (nat_le 1 (opening_of greatest) && nat_le (opening_of greatest) opening)) ≡ true → (greatest ≡ 0) ⊎ IsBirthUpTo opening greatest in
    (elim (greatest == 0) as P [
      | true ↦ λ e h. inl ((Decides-eqb greatest 0).0 e)
      | false ↦ λ e h. let b = and_parts (nat_le 1 (opening_of greatest)) (nat_le (opening_of greatest) opening) h in inr (record { first = grind (arith, nat_tests, b.0); last = grind (arith, nat_tests, b.1) })
    ]) refl may

module _ (bytes : List ℕ) (h : Header) (read : header_at bytes ≡ Some h) where
  same_header : (t : Table) → IsKeyImage bytes t → h ≡ (t.opening, t.greatest, length t.rows, key_rows_image t.rows)
  same_header t is = same_Some h (t.opening, t.greatest, length t.rows, key_rows_image t.rows) (sym read ∙ image_header bytes t is)

  pub too_many_keys : 10000 < h.2 → IsNoImage bytes
  too_many_keys many t is = absurd (omega (arith, many, ap (λ (x : Header). x.2) (same_header t is), is.has.table.few))

  pub bad_greatest : may_be_greatest h.0 h.1 ≡ false → IsNoImage bytes
  bad_greatest bad t is =
      let good : may_be_greatest h.0 h.1 ≡ true = ap (λ (x : Header). may_be_greatest x.0 x.1) (same_header t is) ∙ greatest_may t.opening t.greatest is.has.greatest in
      let no : false ≡ true = sym bad ∙ good in
      absurd cc

  pub no_keys_there : AddsNoKeys h.3 h.2 (index_since h.0 h.1) → IsNoImage bytes
  no_keys_there none t is =
      let same = same_header t is in
      let greatest : t.greatest ≡ h.1 = sym (ap (λ (x : Header). x.1) same) in
      none t.rows (sym (ap (λ (x : Header). x.2) same))
      (subst (λ n. AreImageRows n t.rows) greatest (record { births = is.has.table.births; names = is.has.table.names; rules = is.has.table.rows; spelled = is.has.spelled }))
      (ap (λ (x : Header). x.3) same)

  module _ (taken : HeaderTaken bytes h) where
    pub header_within : (end : ℕ) → length bytes ≤ end → length h.3 ≤ end
    header_within end within = omega (arith, whole, within)
      where
        whole : length bytes ≡ 16 + length h.3
        whole = omega (arith, ap length taken.parts)

    pub read_all : (end : ℕ) (index : Index) → length bytes ≤ end → h.2 ≤ 10000 → may_be_greatest h.0 h.1 ≡ true → AddsKeys h.3 end h.2 (index_since h.0 h.1) index → IsIndexOfImage bytes (end - length bytes) index
    read_all end index within few may adds =
        let t : Table = record { opening = h.0; greatest = h.1; rows = adds.rows } in
        let whole : length bytes ≡ 16 + length h.3 = omega (arith, ap length taken.parts) in
        let place : end - length h.3 ≡ end - length bytes + 16 = omega (arith, whole, within) in
        record {
          table = t;
          image = record {
            has = record {
              table = record { opening = taken.opening; few = omega (arith, few, adds.counted); births = adds.are.births; names = adds.are.names; rows = adds.are.rules };
              greatest = may_greatest h.0 h.1 may;
              spelled = adds.are.spelled;
            };
            bytes_are = taken.parts
                ∙ ap (λ n. to_be_bytes w32 h.0 ++ (to_be_bytes w64 h.1 ++ (to_be_bytes w32 n ++ h.3))) (sym adds.counted)
                ∙ ap (λ (w : List ℕ). to_be_bytes w32 h.0 ++ (to_be_bytes w64 h.1 ++ (to_be_bytes w32 (length adds.rows) ++ w))) adds.bytes_are;
          };
          index_is = adds.added ∙ ap (λ n. record { opening = h.0; greatest = h.1; rows = placed_keys n adds.rows }) place;
        }
