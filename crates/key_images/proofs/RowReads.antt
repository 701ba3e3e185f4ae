-- A key that is read is the one that is spelled there, and each key that is spelled is read.
use Rattle.std.proofs.Common.{◌≡◌, ℕ, ◌-◌, ◌*◌, ◌/◌, ◌^◌, ◌<◌, ◌≤◌, Bool, true, cond, ◌&&◌, nat_lt, List, ◌++◌, length, drop, Option, Some, None, refl, sym, ap, subst, ◌∙◌, append_assoc, arith}
use Rattle.std.specs.Int.{w16, w32, w64, to_be_bytes}
use Rattle.std.specs.List.{concat}
use Rattle.std.specs.Str.{is_utf8}
use Rattle.std.proofs.lemmas.Bool.{and_parts}
use Rattle.std.proofs.lemmas.Option.{cond_some, same_Some}
use Rattle.std.proofs.lemmas.Str.{is_utf8-from_IsUtf8, IsUtf8-from_is_utf8}
use Rattle.hk_base.specs.Names.{is_key_name}
use Rattle.key_rows.specs.declared.rows.KeyRow.{KeyRow}
use Rattle.key_rows.specs.Image.{key_head, key_row_image, IsSpelledKey}
use Rattle.key_rows.specs.Reading.{◌>>=◌, bytes_at, long_at, name_of, number_at, short_at, text_of}
use Rattle.key_rows.specs.Records.{name_field, text_field}
use Rattle.key_rows.specs.Table.{is_length}
use Rattle.key_rows.proofs.FieldLemmas.{IsBytes, bind_some, bind_is, wide16, wide32, wide64, number_takes, number_again, short_takes, short_again, long_takes, long_again, bytes_take, bytes_again}
use Rattle.key_rows.proofs.ImageLemmas.{IsImagedKey, Head, head_bytes, head_parts, length_small}
use Rattle.key_index.specs.declared.rows.IndexRow.{IndexRow}
use Rattle.key_images.specs.declared.rows.KeyHead.{KeyHead}
use Rattle.key_images.specs.Chunks.{chunks}
use Rattle.key_images.specs.Rows.{current_in, head_at, row_at}
use Rattle.key_images.proofs.ChunkLemmas.{chunks_join, chunks_of, length_chunks, length_concat}

abbrev plain : KeyHead → Head
plain h = record { birth = h.birth; name = h.name; bits = h.bits; description = h.description; created = h.created }

-- what is read of a head, after each of its fields

abbrev on_created : ℕ → List ℕ → ℕ → List ℕ → ℕ × List ℕ → Option (KeyHead × List ℕ)
on_created birth name bits description created = Some (record { birth = birth; name = name; bits = bits; description = description; created = created.0 }, created.1)

abbrev on_text : ℕ → List ℕ → ℕ → List ℕ × List ℕ → List ℕ → Option (KeyHead × List ℕ)
on_text birth name bits described description = number_at w64 described.1 >>= on_created birth name bits description

abbrev on_described : ℕ → List ℕ → ℕ → List ℕ × List ℕ → Option (KeyHead × List ℕ)
on_described birth name bits described = text_of described.0 >>= on_text birth name bits described

abbrev on_bits : ℕ → List ℕ → ℕ × List ℕ → Option (KeyHead × List ℕ)
on_bits birth name bits = long_at bits.1 >>= on_described birth name bits.0

abbrev on_name : ℕ → List ℕ × List ℕ → List ℕ → Option (KeyHead × List ℕ)
on_name birth named name = number_at w16 named.1 >>= on_bits birth name

abbrev on_named : ℕ → List ℕ × List ℕ → Option (KeyHead × List ℕ)
on_named birth named = name_of named.0 >>= on_name birth named

abbrev on_birth : ℕ × List ℕ → Option (KeyHead × List ℕ)
on_birth birth = short_at birth.1 >>= on_named birth.0

-- what is known of a head that was read
pub record HeadTaken (bytes : List ℕ) (h : KeyHead) (rest : List ℕ) : Type 0 where
  pub parts : bytes ≡ head_bytes (plain h) ++ rest
  pub birth : h.birth < 2 ^ 64
  pub is_name : is_key_name h.name ≡ true
  pub short : length h.description ≤ 65535
  pub is_text : is_utf8 h.description ≡ true
  pub created : h.created < 2 ^ 64
  pub rest_fits : IsBytes rest

joined : (bytes : List ℕ) (h : Head) (r0 r1 r2 r3 rest : List ℕ) → bytes ≡ to_be_bytes w64 h.birth ++ r0 → r0 ≡ name_field h.name ++ r1 → r1 ≡ to_be_bytes w16 h.bits ++ r2 → r2 ≡ text_field h.description ++ r3 → r3 ≡ to_be_bytes w64 h.created ++ rest
    → bytes ≡ head_bytes h ++ rest
joined bytes h r0 r1 r2 r3 rest e0 e1 e2 e3 e4 =
    e0
    ∙ ap (λ (w : List ℕ). to_be_bytes w64 h.birth ++ w) (e1
    ∙ ap (λ (w : List ℕ). name_field h.name ++ w) (e2
    ∙ ap (λ (w : List ℕ). to_be_bytes w16 h.bits ++ w) (e3
    ∙ ap (λ (w : List ℕ). text_field h.description ++ w) e4)))
    ∙ sym (head_parts h rest)

pub head_takes : (bytes : List ℕ) (x : KeyHead × List ℕ) → IsBytes bytes → head_at bytes ≡ Some x → HeadTaken bytes x.0 x.1
unfolding head_at
head_takes bytes x fits e =
    let a0 = bind_some (number_at w64 bytes) on_birth x e in
    let birth = a0.0.0 in
    let t0 = number_takes w64 (2 ^ 64) wide64 bytes a0.0 fits a0.1 in
    let a1 = bind_some (short_at a0.0.1) (on_named birth) x a0.2 in
    let named = a1.0 in
    let t1 = short_takes a0.0.1 named t0.0.rest_fits a1.1 in
    let a2 = bind_some (name_of named.0) (on_name birth named) x a1.2 in
    let name = a2.0 in
    let g2 = cond_some (is_key_name named.0) named.0 name a2.1 in
    let a3 = bind_some (number_at w16 named.1) (on_bits birth name) x a2.2 in
    let bits = a3.0 in
    let t3 = number_takes w16 (2 ^ 16) wide16 named.1 bits t1.rest_fits a3.1 in
    let a4 = bind_some (long_at bits.1) (on_described birth name bits.0) x a3.2 in
    let described = a4.0 in
    let t4 = long_takes bits.1 described t3.0.rest_fits a4.1 in
    let a5 = bind_some (text_of described.0) (on_text birth name bits.0 described) x a4.2 in
    let description = a5.0 in
    let g5 = cond_some (is_utf8 described.0) described.0 description a5.1 in
    let a6 = bind_some (number_at w64 described.1) (on_created birth name bits.0 description) x a5.2 in
    let created = a6.0 in
    let t6 = number_takes w64 (2 ^ 64) wide64 described.1 created t4.0.rest_fits a6.1 in
    let h : KeyHead = record { birth = birth; name = name; bits = bits.0; description = description; created = created.0 } in
    let parts = joined bytes (plain h) a0.0.1 named.1 bits.1 described.1 created.1
    t0.0.parts
    (t1.parts ∙ ap (λ (n : List ℕ). name_field n ++ named.1) g2.1)
    t3.0.parts
    (t4.0.parts ∙ ap (λ (n : List ℕ). text_field n ++ described.1) g5.1)
    t6.0.parts in
    let taken : HeadTaken bytes h created.1 = record {
      parts = parts;
      birth = t0.1;
      is_name = subst (λ (n : List ℕ). is_key_name n ≡ true) g2.1 g2.0;
      short = subst (λ (d : List ℕ). length d ≤ 65535) g5.1 (omega (arith, t4.1));
      is_text = subst (λ (d : List ℕ). is_utf8 d ≡ true) g5.1 g5.0;
      created = t6.1;
      rest_fits = t6.0.rest_fits;
    } in
    subst (λ (y : KeyHead × List ℕ). HeadTaken bytes y.0 y.1) (same_Some (h, created.1) x a6.2) taken

if_true : {A : Type 0} (b : Bool) (x y : A) → b ≡ true → cond b x y ≡ x
if_true b x y e = ap (λ t. cond t x y) e

abbrev head_in : KeyRow → KeyHead
head_in row = record { birth = row.birth; name = row.name; bits = row.bits; description = row.description; created = row.created }

head_again : (row : KeyRow) (rest : List ℕ) → IsImagedKey row → head_at (key_head row.birth row.name row.bits row.description row.created ++ rest) ≡ Some (head_in row, rest)
unfolding head_at
head_again row rest is =
    let h = plain (head_in row) in
    let r4 = to_be_bytes w64 row.created ++ rest in
    let r3 = text_field row.description ++ r4 in
    let r2 = to_be_bytes w16 row.bits ++ r3 in
    let r1 = name_field row.name ++ r2 in
    let made : Option (KeyHead × List ℕ) = Some (head_in row, rest) in
    ap (λ (w : List ℕ). number_at w64 w >>= on_birth) (head_parts h rest)
    ∙ bind_is (number_at w64 (to_be_bytes w64 row.birth ++ r1)) on_birth (row.birth, r1) made (number_again w64 (2 ^ 64) wide64 row.birth r1 is.birth_fits)
    (bind_is (short_at r1) (on_named row.birth) (row.name, r2) made (short_again row.name r2)
    (bind_is (name_of row.name) (on_name row.birth (row.name, r2)) row.name made (if_true (is_key_name row.name) (Some row.name) None is.spelled.is_name)
    (bind_is (number_at w16 r2) (on_bits row.birth row.name) (row.bits, r3) made (number_again w16 (2 ^ 16) wide16 row.bits r3 (length_small row.bits is.rules.bits))
    (bind_is (long_at r3) (on_described row.birth row.name row.bits) (row.description, r4) made (long_again row.description r4 (omega (arith, is.spelled.short)))
    (bind_is (text_of row.description) (on_text row.birth row.name row.bits (row.description, r4)) row.description made (if_true (is_utf8 row.description) (Some row.description) None (is_utf8-from_IsUtf8 row.description is.spelled.is_text))
    (bind_is (number_at w64 r4) (on_created row.birth row.name row.bits row.description) (row.created, rest) made (number_again w64 (2 ^ 64) wide64 row.created rest is.spelled.created_fits) refl))))))

-- the key of a row and the bytes of its materials
abbrev pub full : IndexRow → List ℕ → KeyRow
full row bytes = record { name = row.name; birth = row.birth; bits = row.bits; materials = chunks (row.bits / 8) row.versions bytes; description = row.description; created = row.created }

abbrev RowRead : Type 0
RowRead = IndexRow × List ℕ × List ℕ

abbrev row_with : KeyHead → ℕ → List ℕ → IndexRow
row_with h versions current = record { name = h.name; birth = h.birth; bits = h.bits; current = current; versions = versions; description = h.description; created = h.created }

abbrev on_current : KeyHead → ℕ → List ℕ × List ℕ → List ℕ → Option RowRead
on_current h versions materials current = Some (row_with h versions current, materials.0, materials.1)

abbrev on_materials : KeyHead → ℕ → List ℕ × List ℕ → Option RowRead
on_materials h versions materials = current_in h.bits versions materials.0 >>= on_current h versions materials

abbrev on_count : KeyHead → ℕ × List ℕ → Option RowRead
on_count h count = bytes_at (count.0 * (h.bits / 8)) count.1 >>= on_materials h count.0

abbrev on_head : KeyHead × List ℕ → Option RowRead
on_head head = number_at w32 head.1 >>= on_count head.0

-- what is known of a key that was read: all but that its birth is of an opening
pub record RowTaken (bytes : List ℕ) (row : IndexRow) (materials rest : List ℕ) : Type 0 where
  pub parts : bytes ≡ key_row_image (full row materials) ++ rest
  pub birth : row.birth < 2 ^ 64
  pub spelled : IsSpelledKey (full row materials)
  pub bits : is_length row.bits ≡ true
  pub some : 0 < row.versions
  pub few : row.versions ≤ 65535
  pub long : length materials ≡ row.versions * (row.bits / 8)
  pub current : row.current ≡ drop ((row.versions - 1) * (row.bits / 8)) materials
  pub rest_fits : IsBytes rest

pub row_takes : (bytes : List ℕ) (x : RowRead) → IsBytes bytes → row_at bytes ≡ Some x → RowTaken bytes x.0 x.1 x.2
unfolding row_at
row_takes bytes x fits e =
    let a0 = bind_some (head_at bytes) on_head x e in
    let h = a0.0.0 in
    let t0 = head_takes bytes a0.0 fits a0.1 in
    let a1 = bind_some (number_at w32 a0.0.1) (on_count h) x a0.2 in
    let count = a1.0.0 in
    let t1 = number_takes w32 (2 ^ 32) wide32 a0.0.1 a1.0 t0.rest_fits a1.1 in
    let a2 = bind_some (bytes_at (count * (h.bits / 8)) a1.0.1) (on_materials h count) x a1.2 in
    let materials = a2.0.0 in
    let rest = a2.0.1 in
    let t2 = bytes_take (count * (h.bits / 8)) a1.0.1 a2.0 t1.0.rest_fits a2.1 in
    let a3 = bind_some (current_in h.bits count materials) (on_current h count a2.0) x a2.2 in
    let current = a3.0 in
    let g3 = cond_some (is_length h.bits && nat_lt 0 count && nat_lt count 65536) (drop ((count - 1) * (h.bits / 8)) materials) current a3.1 in
    let b = and_parts (is_length h.bits && nat_lt 0 count) (nat_lt count 65536) g3.0 in
    let c = and_parts (is_length h.bits) (nat_lt 0 count) b.0 in
    let row = row_with h count current in
    let key = full row materials in
    let numbers : to_be_bytes w32 count ++ (materials ++ rest) ≡ to_be_bytes w32 (length key.materials) ++ (concat key.materials ++ rest) =
    ap (λ n. to_be_bytes w32 n ++ (materials ++ rest)) (sym (length_chunks (h.bits / 8) count materials))
    ∙ ap (λ (w : List ℕ). to_be_bytes w32 (length key.materials) ++ (w ++ rest)) (sym (chunks_join (h.bits / 8) count materials t2.1)) in
    let head = head_bytes (plain h) in
    let parts : bytes ≡ key_row_image key ++ rest =
    t0.parts
    ∙ ap (λ (w : List ℕ). head ++ w) (t1.0.parts ∙ ap (λ (w : List ℕ). to_be_bytes w32 count ++ w) t2.0.parts ∙ numbers ∙ sym (append_assoc (to_be_bytes w32 (length key.materials)) (concat key.materials) rest))
    ∙ sym (append_assoc head (to_be_bytes w32 (length key.materials) ++ concat key.materials) rest) in
    let taken : RowTaken bytes row materials rest = record {
      parts = parts;
      birth = t0.birth;
      spelled = record { is_name = t0.is_name; short = t0.short; is_text = IsUtf8-from_is_utf8 h.description t0.is_text; created_fits = t0.created };
      bits = c.0;
      some = grind (arith, c.1);
      few = grind (arith, b.1);
      long = t2.1;
      current = sym g3.1;
      rest_fits = t2.0.rest_fits;
    } in
    subst (λ (y : RowRead). RowTaken bytes y.0 y.1 y.2) (same_Some (row, materials, rest) x a3.2) taken

-- a key without its older materials
abbrev pub read_row : KeyRow → IndexRow
read_row row = record {
  name = row.name;
  birth = row.birth;
  bits = row.bits;
  current = drop ((length row.materials - 1) * (row.bits / 8)) (concat row.materials);
  versions = length row.materials;
  description = row.description;
  created = row.created;
}

may_be_counted : (bits versions : ℕ) → is_length bits ≡ true → 0 < versions → versions ≤ 65535 → (is_length bits && nat_lt 0 versions && nat_lt versions 65536) ≡ true
may_be_counted bits versions long some few = grind (arith, long, some, few)

pub row_again : (row : KeyRow) (rest : List ℕ) → IsImagedKey row → row_at (key_row_image row ++ rest) ≡ Some (read_row row, concat row.materials, rest)
unfolding row_at
row_again row rest is =
    let h = head_in row in
    let count = length row.materials in
    let materials = concat row.materials in
    let r2 = materials ++ rest in
    let r1 = to_be_bytes w32 count ++ r2 in
    let head = key_head row.birth row.name row.bits row.description row.created in
    let made : Option RowRead = Some (read_row row, materials, rest) in
    let sized : length materials ≡ count * (row.bits / 8) = length_concat (row.bits / 8) row.materials is.rules.materials in
    let there : bytes_at (count * (row.bits / 8)) r2 ≡ Some (materials, rest) = ap (λ n. bytes_at n r2) (sym sized) ∙ bytes_again materials rest in
    ap (λ (w : List ℕ). head_at w >>= on_head) (append_assoc head (to_be_bytes w32 count ++ materials) rest ∙ ap (λ (w : List ℕ). head ++ w) (append_assoc (to_be_bytes w32 count) materials rest))
    ∙ bind_is (head_at (head ++ r1)) on_head (h, r1) made (head_again row r1 is)
    (bind_is (number_at w32 r1) (on_count h) (count, r2) made (number_again w32 (2 ^ 32) wide32 count r2 (omega (arith, is.rules.few)))
    (bind_is (bytes_at (count * (row.bits / 8)) r2) (on_materials h count) (materials, rest) made there
    (bind_is (current_in row.bits count materials) (on_current h count (materials, rest)) (read_row row).current made
    (if_true (is_length row.bits && nat_lt 0 count && nat_lt count 65536) (Some (read_row row).current) None (may_be_counted row.bits count is.rules.bits is.rules.some is.rules.few)) refl)))

-- the key that was read, and its read_row row
pub full_brief : (row : KeyRow) → IsImagedKey row → full (read_row row) (concat row.materials) ≡ row
full_brief row is = ap (λ (ms : List (List ℕ)). record row { materials = ms }) (chunks_of (row.bits / 8) row.materials is.rules.materials)
