-- The image of a table: it is of one table only, and each table that commands make has one.
use Rattle.std.proofs.Common.{◌≡◌, ◌⊎◌, ℕ, ◌+◌, ◌/◌, ◌^◌, ◌<◌, ◌≤◌, Bool, true, false, cond, ◌==◌, ◌&&◌, not, nat_lt, is_none, List, [], ◌∷◌, ◌++◌, length, take, drop, map, Option, Some, refl, sym, ap, subst, ◌∙◌, append_assoc, arith, inl, inr}
use Rattle.std.specs.Int.{w16, w32, w64, to_be_bytes}
use Rattle.std.specs.List.{AllByRecursion, concat}
use Rattle.std.proofs.Math.Seq.{take-append_seam, drop-append_seam}
use Rattle.std.proofs.lemmas.Bool.{and_parts}
use Rattle.std.proofs.lemmas.Bool.Decides.{Decides-eqb}
use Rattle.std.proofs.lemmas.Option.{same_Some}
use Rattle.key_rows.specs.declared.rows.KeyRow.{KeyRow}
use Rattle.key_rows.specs.declared.rows.KeyCommand.{KeyCommand}
use Rattle.key_rows.specs.declared.rows.KeyCommand.TheVariants.{Opened, Create, Roll, Delete}
use Rattle.key_rows.specs.Image.{key_head, key_row_image, key_rows_image, IsBirthUpTo, IsSpelledKey, HasKeyImage, IsKeyImage}
use Rattle.key_rows.specs.Reading.{◌>>=◌, number_at, short_at, long_at}
use Rattle.key_rows.specs.Records.{name_field, text_field, HasSpelling}
use Rattle.key_rows.specs.Sound.{AreRowsRising, IsRow}
use Rattle.key_rows.specs.Table.{Table, after, applies, find_name, is_born, is_length, no_keys, opening_of, rolled, with_material}
use Rattle.key_rows.proofs.Births.{each_more, each_filter}
use Rattle.key_rows.proofs.TableLemmas.{sound_create, sound_roll, sound_delete}
use Rattle.key_rows.proofs.FieldLemmas.{bind_is, wide16, wide32, wide64, number_again, short_again, long_again}

-- the fields of a key before its materials
pub record Head : Type 0 where
  pub birth : ℕ
  pub name : List ℕ
  pub bits : ℕ
  pub description : List ℕ
  pub created : ℕ

pub record HeadFits (h : Head) : Type 0 where
  pub birth : h.birth < 2 ^ 64
  pub bits : h.bits < 2 ^ 16
  pub description : length h.description < 2 ^ 16
  pub created : h.created < 2 ^ 64

abbrev pub head_bytes : Head → List ℕ
head_bytes h = key_head h.birth h.name h.bits h.description h.created

-- what is read of a head, after each of its fields

abbrev on_created : ℕ → List ℕ → ℕ → List ℕ → ℕ × List ℕ → Option (Head × List ℕ)
on_created birth name bits description created = Some (record { birth = birth; name = name; bits = bits; description = description; created = created.0 }, created.1)

abbrev on_described : ℕ → List ℕ → ℕ → List ℕ × List ℕ → Option (Head × List ℕ)
on_described birth name bits described = number_at w64 described.1 >>= on_created birth name bits described.0

abbrev on_bits : ℕ → List ℕ → ℕ × List ℕ → Option (Head × List ℕ)
on_bits birth name bits = long_at bits.1 >>= on_described birth name bits.0

abbrev on_named : ℕ → List ℕ × List ℕ → Option (Head × List ℕ)
on_named birth named = number_at w16 named.1 >>= on_bits birth named.0

abbrev on_birth : ℕ × List ℕ → Option (Head × List ℕ)
on_birth birth = short_at birth.1 >>= on_named birth.0

abbrev head_at : List ℕ → Option (Head × List ℕ)
head_at bytes = number_at w64 bytes >>= on_birth

-- the fields one after the other
pub head_parts : (h : Head) (rest : List ℕ) → head_bytes h ++ rest
    ≡ to_be_bytes w64 h.birth ++ (name_field h.name ++ (to_be_bytes w16 h.bits ++ (text_field h.description ++ (to_be_bytes w64 h.created ++ rest))))
head_parts h rest =
    let e = to_be_bytes w64 h.created in
    let d = text_field h.description in
    let b = to_be_bytes w16 h.bits in
    let n = name_field h.name in
    let a = to_be_bytes w64 h.birth in
    append_assoc a (n ++ (b ++ (d ++ e))) rest
    ∙ ap (λ (w : List ℕ). a ++ w) (append_assoc n (b ++ (d ++ e)) rest
    ∙ ap (λ (w : List ℕ). n ++ w) (append_assoc b (d ++ e) rest
    ∙ ap (λ (w : List ℕ). b ++ w) (append_assoc d e rest)))

head_again : (h : Head) (rest : List ℕ) → HeadFits h → head_at (head_bytes h ++ rest) ≡ Some (h, rest)
head_again h rest fits =
    let r4 = to_be_bytes w64 h.created ++ rest in
    let r3 = text_field h.description ++ r4 in
    let r2 = to_be_bytes w16 h.bits ++ r3 in
    let r1 = name_field h.name ++ r2 in
    let made : Option (Head × List ℕ) = Some (h, rest) in
    ap head_at (head_parts h rest)
    ∙ bind_is (number_at w64 (to_be_bytes w64 h.birth ++ r1)) on_birth (h.birth, r1) made (number_again w64 (2 ^ 64) wide64 h.birth r1 fits.birth)
    (bind_is (short_at r1) (on_named h.birth) (h.name, r2) made (short_again h.name r2)
    (bind_is (number_at w16 r2) (on_bits h.birth h.name) (h.bits, r3) made (number_again w16 (2 ^ 16) wide16 h.bits r3 fits.bits)
    (bind_is (long_at r3) (on_described h.birth h.name h.bits) (h.description, r4) made (long_again h.description r4 fits.description)
    (bind_is (number_at w64 r4) (on_created h.birth h.name h.bits h.description) (h.created, rest) made (number_again w64 (2 ^ 64) wide64 h.created rest fits.created) refl))))

-- bytes begin with one head
pub one_head : (g h : Head) (x y : List ℕ) → HeadFits g → HeadFits h → head_bytes g ++ x ≡ head_bytes h ++ y → (g ≡ h) × (x ≡ y)
one_head g h x y fits_g fits_h same =
    let both : (g, x) ≡ (h, y) = same_Some (g, x) (h, y) (sym (head_again g x fits_g) ∙ ap head_at same ∙ head_again h y fits_h) in
    (ap (λ (p : Head × List ℕ). p.0) both, ap (λ (p : Head × List ℕ). p.1) both)

-- bytes begin with one list of this length
pub one_front : {A : Type 0} (a b x y : List A) → length a ≡ length b → a ++ x ≡ b ++ y → (a ≡ b) × (x ≡ y)
one_front a b x y long same =
    let front : a ≡ b = sym (take-append_seam a x) ∙ ap (λ n. take n (a ++ x)) long ∙ ap (take (length b)) same ∙ take-append_seam b y in
    let rest : x ≡ y = sym (drop-append_seam a x) ∙ ap (λ n. drop n (a ++ x)) long ∙ ap (drop (length b)) same ∙ drop-append_seam b y in
    (front, rest)

-- materials of one length are told apart
pub one_concat : (n : ℕ) (es fs : List (List ℕ)) (x y : List ℕ) → AllByRecursion (λ (m : List ℕ). length m ≡ n) es → AllByRecursion (λ (m : List ℕ). length m ≡ n) fs → length es ≡ length fs
    → concat es ++ x ≡ concat fs ++ y → (es ≡ fs) × (x ≡ y)
one_concat n [] [] x y of_es of_fs long same = (refl, same)
one_concat n [] (b ∷ fs) x y of_es of_fs long same = absurd cc
one_concat n (a ∷ es) [] x y of_es of_fs long same = absurd cc
one_concat n (a ∷ es) (b ∷ fs) x y of_es of_fs long same =
    let first = one_front a b (concat es ++ x) (concat fs ++ y) (of_es.0 ∙ sym of_fs.0) (sym (append_assoc a (concat es) x) ∙ same ∙ append_assoc b (concat fs) y) in
    let rest = one_concat n es fs x y of_es.1 of_fs.1 (omega (arith, long)) first.1 in
    (ap (λ (w : List ℕ). w ∷ es) first.0 ∙ ap (λ (ws : List (List ℕ)). b ∷ ws) rest.0, rest.1)

-- a key as its head and its materials

abbrev pub head_of : KeyRow → Head
head_of row = record { birth = row.birth; name = row.name; bits = row.bits; description = row.description; created = row.created }

abbrev pub with_materials : Head → List (List ℕ) → KeyRow
with_materials h materials = record { name = h.name; birth = h.birth; bits = h.bits; materials = materials; description = h.description; created = h.created }

-- the rules of a key that an image has
pub record IsImagedKey (row : KeyRow) : Type 0 where
  pub birth_fits : row.birth < 2 ^ 64
  pub rules : IsRow row
  pub spelled : IsSpelledKey row

pub length_small : (bits : ℕ) → is_length bits ≡ true → bits < 2 ^ 16
length_small bits long = grind (arith, long)

pub head_fits : (row : KeyRow) → IsImagedKey row → HeadFits (head_of row)
head_fits row is = record {
  birth = is.birth_fits;
  bits = length_small row.bits is.rules.bits;
  description = omega (arith, is.spelled.short);
  created = is.spelled.created_fits;
}

one_count : (m n : ℕ) (x y : List ℕ) → m < 2 ^ 32 → n < 2 ^ 32 → to_be_bytes w32 m ++ x ≡ to_be_bytes w32 n ++ y → (m ≡ n) × (x ≡ y)
one_count m n x y small_m small_n same =
    let both : (m, x) ≡ (n, y) = same_Some (m, x) (n, y) (sym (number_again w32 (2 ^ 32) wide32 m x small_m) ∙ ap (number_at w32) same ∙ number_again w32 (2 ^ 32) wide32 n y small_n) in
    (ap (λ (p : ℕ × List ℕ). p.0) both, ap (λ (p : ℕ × List ℕ). p.1) both)

one_birth : (m n : ℕ) (x y : List ℕ) → m < 2 ^ 64 → n < 2 ^ 64 → to_be_bytes w64 m ++ x ≡ to_be_bytes w64 n ++ y → (m ≡ n) × (x ≡ y)
one_birth m n x y small_m small_n same =
    let both : (m, x) ≡ (n, y) = same_Some (m, x) (n, y) (sym (number_again w64 (2 ^ 64) wide64 m x small_m) ∙ ap (number_at w64) same ∙ number_again w64 (2 ^ 64) wide64 n y small_n) in
    (ap (λ (p : ℕ × List ℕ). p.0) both, ap (λ (p : ℕ × List ℕ). p.1) both)

row_parts : (row : KeyRow) (rest : List ℕ) → key_row_image row ++ rest ≡ head_bytes (head_of row) ++ (to_be_bytes w32 (length row.materials) ++ (concat row.materials ++ rest))
row_parts row rest =
    let h = head_bytes (head_of row) in
    let c = to_be_bytes w32 (length row.materials) in
    append_assoc h (c ++ concat row.materials) rest ∙ ap (λ (w : List ℕ). h ++ w) (append_assoc c (concat row.materials) rest)

-- bytes begin with one key
pub one_row : (a b : KeyRow) (x y : List ℕ) → IsImagedKey a → IsImagedKey b → key_row_image a ++ x ≡ key_row_image b ++ y → (a ≡ b) × (x ≡ y)
one_row a b x y is_a is_b same =
    let heads = one_head (head_of a) (head_of b) _ _ (head_fits a is_a) (head_fits b is_b) (sym (row_parts a x) ∙ same ∙ row_parts b y) in
    let counts = one_count (length a.materials) (length b.materials) _ _ (omega (arith, is_a.rules.few)) (omega (arith, is_b.rules.few)) heads.1 in
    let bits_are : a.bits ≡ b.bits = ap (λ (h : Head). h.bits) heads.0 in
    let of_a : AllByRecursion (λ (m : List ℕ). length m ≡ b.bits / 8) a.materials = subst (λ (n : ℕ). AllByRecursion (λ (m : List ℕ). length m ≡ n / 8) a.materials) bits_are is_a.rules.materials in
    let rest = one_concat (b.bits / 8) a.materials b.materials x y of_a is_b.rules.materials counts.0 counts.1 in
    (ap (λ (h : Head). with_materials h a.materials) heads.0 ∙ ap (λ (ms : List (List ℕ)). with_materials (head_of b) ms) rest.0, rest.1)

pub one_rows : (es fs : List KeyRow) (x y : List ℕ) → AllByRecursion IsImagedKey es → AllByRecursion IsImagedKey fs → length es ≡ length fs → key_rows_image es ++ x ≡ key_rows_image fs ++ y → (es ≡ fs) × (x ≡ y)
one_rows [] [] x y is_es is_fs long same = (refl, same)
one_rows [] (b ∷ fs) x y is_es is_fs long same = absurd cc
one_rows (a ∷ es) [] x y is_es is_fs long same = absurd cc
one_rows (a ∷ es) (b ∷ fs) x y is_es is_fs long same =
    let first = one_row a b (key_rows_image es ++ x) (key_rows_image fs ++ y) is_es.0 is_fs.0 (sym (append_assoc (key_row_image a) (key_rows_image es) x) ∙ same ∙ append_assoc (key_row_image b) (key_rows_image fs) y) in
    let rest = one_rows es fs x y is_es.1 is_fs.1 (omega (arith, long)) first.1 in
    (ap (λ (w : KeyRow). w ∷ es) first.0 ∙ ap (λ (ws : List KeyRow). b ∷ ws) rest.0, rest.1)

-- the keys of a table that has an image

pub greatest_fits : (t : Table) → HasKeyImage t → t.greatest < 2 ^ 64
greatest_fits t has = elim has.greatest [
  | inl none ↦ omega (arith, none)
  | inr of ↦ omega (arith, of.last, has.table.opening)
]

pub imaged_rows : (low top : ℕ) (rows : List KeyRow) → top < 2 ^ 64 → AreRowsRising low rows top → AllByRecursion IsRow rows → AllByRecursion IsSpelledKey rows → (low ≤ top) × AllByRecursion IsImagedKey rows
imaged_rows low top [] small rising rules spelled = (rising, tt)
imaged_rows low top (row ∷ rows) small rising rules spelled =
    let rest = imaged_rows row.birth top rows small rising.1 rules.1 spelled.1 in
    (omega (arith, rising.0, rest.0), (record { birth_fits = omega (arith, rest.0, small); rules = rules.0; spelled = spelled.0 }, rest.1))

pub imaged_table : (t : Table) → HasKeyImage t → AllByRecursion IsImagedKey t.rows
imaged_table t has = (imaged_rows 0 t.greatest t.rows (greatest_fits t has) has.table.births has.table.rows has.spelled).1

abbrev table_of_parts : ℕ → ℕ → List KeyRow → Table
table_of_parts opening greatest rows = record { opening = opening; greatest = greatest; rows = rows }

pub one_table : (bytes : List ℕ) (t u : Table) → IsKeyImage bytes t → IsKeyImage bytes u → t ≡ u
one_table bytes t u is_t is_u =
    let openings = one_count t.opening u.opening _ _ (omega (arith, is_t.has.table.opening)) (omega (arith, is_u.has.table.opening)) (sym is_t.bytes_are ∙ is_u.bytes_are) in
    let births = one_birth t.greatest u.greatest _ _ (greatest_fits t is_t.has) (greatest_fits u is_u.has) openings.1 in
    let counts = one_count (length t.rows) (length u.rows) _ _ (omega (arith, is_t.has.table.few)) (omega (arith, is_u.has.table.few)) births.1 in
    let rows = one_rows t.rows u.rows [] [] (imaged_table t is_t.has) (imaged_table u is_u.has) counts.0 (ap (λ (w : List ℕ). w ++ []) counts.1) in
    ap (λ n. table_of_parts n t.greatest t.rows) openings.0
    ∙ ap (λ n. table_of_parts u.opening n t.rows) births.0
    ∙ ap (λ (rs : List KeyRow). table_of_parts u.opening u.greatest rs) rows.0

-- tables that commands make

pub empty_has_image : HasKeyImage no_keys
empty_has_image = record {
  table = record { opening = omega arith; few = omega arith; births = omega arith; names = tt; rows = tt };
  greatest = inl refl;
  spelled = tt;
}

later : (opening birth : ℕ) → IsBirthUpTo opening birth → IsBirthUpTo (opening + 1) birth
later opening birth of = record { first = of.first; last = omega (arith, of.last) }

spelled_rolled : (birth : ℕ) (material : List ℕ) (row : KeyRow) → IsSpelledKey row → IsSpelledKey (rolled birth material row)
spelled_rolled birth material row is =
    let P : Bool → Type 0 = λ b. IsSpelledKey (cond b (with_material material row) row) in
    elim (is_born birth row) as P [ true ↦ record { is_name = is.is_name; short = is.short; is_text = is.is_text; created_fits = is.created_fits } | false ↦ is ]

all_rolled : (birth : ℕ) (material : List ℕ) (rows : List KeyRow) → AllByRecursion IsSpelledKey rows → AllByRecursion IsSpelledKey (map (rolled birth material) rows)
all_rolled birth material [] each = tt
all_rolled birth material (row ∷ rows) each = (spelled_rolled birth material row each.0, all_rolled birth material rows each.1)

create_of_now : (t : Table) (birth : ℕ) (name : List ℕ) (bits : ℕ) (description : List ℕ) (created : ℕ) (material : List ℕ) → applies t (Create birth name bits description created material) ≡ true → IsBirthUpTo t.opening birth
create_of_now t birth name bits description created material may =
    let g = and_parts (nat_lt 0 t.opening && is_none (find_name t.rows name) && opening_of birth == t.opening && nat_lt t.greatest birth && nat_lt (length t.rows) 10000 && is_length bits) (length material == bits / 8) may in
    let f = and_parts (nat_lt 0 t.opening && is_none (find_name t.rows name) && opening_of birth == t.opening && nat_lt t.greatest birth && nat_lt (length t.rows) 10000) (is_length bits) g.0 in
    let e = and_parts (nat_lt 0 t.opening && is_none (find_name t.rows name) && opening_of birth == t.opening && nat_lt t.greatest birth) (nat_lt (length t.rows) 10000) f.0 in
    let d = and_parts (nat_lt 0 t.opening && is_none (find_name t.rows name) && opening_of birth == t.opening) (nat_lt t.greatest birth) e.0 in
    let c = and_parts (nat_lt 0 t.opening && is_none (find_name t.rows name)) (opening_of birth == t.opening) d.0 in
    let b = and_parts (nat_lt 0 t.opening) (is_none (find_name t.rows name)) c.0 in
    let here : opening_of birth ≡ t.opening = (Decides-eqb (opening_of birth) t.opening).0 c.1 in
    let opened : 0 < t.opening = grind (arith, b.0) in
    record { first = omega (arith, here, opened); last = omega (arith, here) }

pub image_stays : (t : Table) (command : KeyCommand) → HasKeyImage t → HasSpelling command → applies t command ≡ true → HasKeyImage (after t command)
image_stays t (Opened opening) has spelled may =
    let next : opening ≡ t.opening + 1 = (Decides-eqb opening (t.opening + 1)).0 may in
    let greatest : (t.greatest ≡ 0) ⊎ IsBirthUpTo (t.opening + 1) t.greatest = elim has.greatest [ inl none ↦ inl none | inr of ↦ inr (later t.opening t.greatest of) ] in
    record {
      table = record { opening = spelled; few = has.table.few; births = has.table.births; names = has.table.names; rows = has.table.rows };
      greatest = subst (λ (n : ℕ). (t.greatest ≡ 0) ⊎ IsBirthUpTo n t.greatest) (sym next) greatest;
      spelled = has.spelled;
    }
image_stays t (Create birth name bits description created material) has spelled may =
    let row : KeyRow = record { name = name; birth = birth; bits = bits; materials = material ∷ []; description = description; created = created } in
    record {
      table = sound_create t birth name bits description created material has.table may;
      greatest = inr (create_of_now t birth name bits description created material may);
      spelled = each_more IsSpelledKey t.rows row has.spelled (record { is_name = spelled.is_name; short = spelled.short; is_text = spelled.is_text; created_fits = spelled.created_fits });
    }
image_stays t (Roll birth number material) has spelled may = record {
  table = sound_roll t birth number material has.table may;
  greatest = has.greatest;
  spelled = all_rolled birth material t.rows has.spelled;
}
image_stays t (Delete birth) has spelled may = record {
  table = sound_delete t birth has.table;
  greatest = has.greatest;
  spelled = each_filter IsSpelledKey (λ row. not (is_born birth row)) t.rows has.spelled;
}
