-- Records and_parts ways: what is read has the encoding that was read, and each encoding is read back.
use Rattle.std.proofs.Common.{◌≡◌, ℕ, ◌^◌, ◌<◌, ◌≤◌, ◌/◌, Bool, true, false, cond, eqb, ◌&&◌, ◌==◌, List, [], ◌∷◌, ◌++◌, length, Option, Some, None, Result, Ok, Err, refl, sym, ap, subst, ◌∙◌, arith, nat_lt, is_none}
use Rattle.std.specs.Prelude.{IfOk}
use Rattle.std.specs.Str.{is_utf8}
use Rattle.std.specs.Int.{w16, w32, w64, to_be_bytes}
use Rattle.std.proofs.lemmas.Bool.{eqb-true, and_parts}
use Rattle.std.proofs.lemmas.List.{append-nil, nil_from_length}
use Rattle.std.proofs.lemmas.Option.{cond_some, same_Some}
use Rattle.std.proofs.lemmas.Str.{is_utf8-from_IsUtf8, IsUtf8-from_is_utf8}
use Rattle.hk_base.specs.Names.{is_key_name, is_key_length}
use Rattle.hk_base.specs.declared.records.RecordFault.{RecordFault}
use Rattle.hk_base.specs.declared.records.RecordFault.TheVariants.{NoRecord, NoMemory}
use Rattle.key_rows.specs.declared.rows.KeyCommand.{KeyCommand}
use Rattle.key_rows.specs.declared.rows.KeyCommand.TheVariants.{Opened, Create, Roll, Delete}
use Rattle.key_rows.specs.Records.{name_field, text_field, spelling, fits, fits_bits, HasSpelling, CreateHasSpelling}
use Rattle.key_rows.specs.Table.{Table, applies, find_name, opening_of, is_length}
use Rattle.key_rows.specs.Reading.{◌>>=◌, GivesRecord, number_at, short_at, long_at, name_of, text_of, material_of, material_of_bits, last_number, opened_at, create_at, roll_at, delete_at, command_at}
use Rattle.key_rows.proofs.FieldLemmas.{IsBytes, IsBytes-rest, bind_some, bind_is, wide16, wide32, wide64, number_takes, number_again, short_takes, short_again, long_takes, long_again}
use Rattle.std.specs.Int.{Width}
use Rattle.key_rows.proofs.FieldLemmas.{IsWide}

-- a number that ends the record
last_takes : (w : Width) (limit : ℕ) (wide : IsWide w limit) (bytes : List ℕ) (n : ℕ) → IsBytes bytes → last_number w bytes ≡ Some n → (bytes ≡ to_be_bytes w n) × (n < limit)
last_takes w limit wide bytes n fits e =
    let b = bind_some (number_at w bytes) (λ x. cond (eqb (length x.1) 0) (Some x.0) None) n e in
    let g = cond_some (eqb (length b.0.1) 0) b.0.0 n b.2 in
    let t = number_takes w limit wide bytes b.0 fits b.1 in
    let nothing : b.0.1 ≡ [] = nil_from_length b.0.1 (eqb-true _ _ g.0) in
    let whole : bytes ≡ to_be_bytes w b.0.0 = t.0.parts ∙ ap (λ (r : List ℕ). to_be_bytes w b.0.0 ++ r) nothing ∙ append-nil (to_be_bytes w b.0.0) in
    subst (λ (k : ℕ). (bytes ≡ to_be_bytes w k) × (k < limit)) g.1 (whole, t.1)

last_again : (w : Width) (limit : ℕ) (wide : IsWide w limit) (n : ℕ) → n < limit → last_number w (to_be_bytes w n) ≡ Some n
last_again w limit wide n lt =
    ap (last_number w) (sym (append-nil (to_be_bytes w n)))
    ∙ bind_is (number_at w (to_be_bytes w n ++ [])) (λ x. cond (eqb (length x.1) 0) (Some x.0) None) (n, []) _ (number_again w limit wide n [] lt) refl

opened_takes : (bytes : List ℕ) (command : KeyCommand) → IsBytes bytes → opened_at bytes ≡ Some command → HasSpelling command × (1 ∷ bytes ≡ spelling command)
unfolding opened_at
opened_takes bytes command fits e =
    let b = bind_some (last_number w32 bytes) (λ n. Some (Opened n)) command e in
    let t = last_takes w32 (2 ^ 32) wide32 bytes b.0 fits b.1 in
    subst (λ (c : KeyCommand). HasSpelling c × (1 ∷ bytes ≡ spelling c)) (same_Some (Opened b.0) command b.2) (t.1, ap (λ (w : List ℕ). 1 ∷ w) t.0)

delete_takes : (bytes : List ℕ) (command : KeyCommand) → IsBytes bytes → delete_at bytes ≡ Some command → HasSpelling command × (4 ∷ bytes ≡ spelling command)
unfolding delete_at
delete_takes bytes command fits e =
    let b = bind_some (last_number w64 bytes) (λ n. Some (Delete n)) command e in
    let t = last_takes w64 (2 ^ 64) wide64 bytes b.0 fits b.1 in
    subst (λ (c : KeyCommand). HasSpelling c × (4 ∷ bytes ≡ spelling c)) (same_Some (Delete b.0) command b.2) (t.1, ap (λ (w : List ℕ). 4 ∷ w) t.0)

roll_takes : (bytes : List ℕ) (command : KeyCommand) → IsBytes bytes → roll_at bytes ≡ Some command → HasSpelling command × (3 ∷ bytes ≡ spelling command)
unfolding roll_at
roll_takes bytes command fits e =
    let a = bind_some (number_at w64 bytes) (λ birth. number_at w16 birth.1 >>= λ number. material_of number.1 >>= λ material. Some (Roll birth.0 number.0 material)) command e in
    let b = bind_some (number_at w16 a.0.1) (λ number. material_of number.1 >>= λ material. Some (Roll a.0.0 number.0 material)) command a.2 in
    let d = bind_some (material_of b.0.1) (λ material. Some (Roll a.0.0 b.0.0 material)) command b.2 in
    let g = cond_some (is_key_length (length b.0.1)) b.0.1 d.0 d.1 in
    let t0 = number_takes w64 (2 ^ 64) wide64 bytes a.0 fits a.1 in
    let t1 = number_takes w16 (2 ^ 16) wide16 a.0.1 b.0 t0.0.rest_fits b.1 in
    let whole : bytes ≡ to_be_bytes w64 a.0.0 ++ (to_be_bytes w16 b.0.0 ++ d.0) =
    t0.0.parts ∙ ap (λ (w : List ℕ). to_be_bytes w64 a.0.0 ++ w) (t1.0.parts ∙ ap (λ (w : List ℕ). to_be_bytes w16 b.0.0 ++ w) g.1) in
    let long : is_key_length (length d.0) ≡ true = subst (λ (m : List ℕ). is_key_length (length m) ≡ true) g.1 g.0 in
    subst (λ (c : KeyCommand). HasSpelling c × (3 ∷ bytes ≡ spelling c)) (same_Some (Roll a.0.0 b.0.0 d.0) command d.2) ((t0.1, t1.1, long), ap (λ (w : List ℕ). 3 ∷ w) whole)

-- what is read of a create, after each of its fields
abbrev behind_created : ℕ → List ℕ → ℕ → List ℕ → ℕ × List ℕ → Option KeyCommand
behind_created birth name bits description created = material_of_bits bits created.1 >>= λ material. Some (Create birth name bits description created.0 material)

abbrev behind_text : ℕ → List ℕ → ℕ → List ℕ × List ℕ → List ℕ → Option KeyCommand
behind_text birth name bits described description = number_at w64 described.1 >>= λ created. behind_created birth name bits description created

abbrev behind_described : ℕ → List ℕ → ℕ → List ℕ × List ℕ → Option KeyCommand
behind_described birth name bits described = text_of described.0 >>= λ description. behind_text birth name bits described description

abbrev behind_bits : ℕ → List ℕ → ℕ × List ℕ → Option KeyCommand
behind_bits birth name bits = long_at bits.1 >>= λ described. behind_described birth name bits.0 described

abbrev behind_name : ℕ → List ℕ × List ℕ → List ℕ → Option KeyCommand
behind_name birth named name = number_at w16 named.1 >>= λ bits. behind_bits birth name bits

abbrev behind_named : ℕ → List ℕ × List ℕ → Option KeyCommand
behind_named birth named = name_of named.0 >>= λ name. behind_name birth named name

abbrev behind_birth : ℕ × List ℕ → Option KeyCommand
behind_birth birth = short_at birth.1 >>= λ named. behind_named birth.0 named

joined : (bytes : List ℕ) (birth : ℕ) (r0 name r1 : List ℕ) (bits : ℕ) (r2 description r3 : List ℕ) (created : ℕ) (material : List ℕ)
    → bytes ≡ to_be_bytes w64 birth ++ r0 → r0 ≡ name_field name ++ r1 → r1 ≡ to_be_bytes w16 bits ++ r2 → r2 ≡ text_field description ++ r3 → r3 ≡ to_be_bytes w64 created ++ material
    → 2 ∷ bytes ≡ spelling (Create birth name bits description created material)
joined bytes birth r0 name r1 bits r2 description r3 created material e0 e1 e2 e3 e4 =
    let f4 : r2 ≡ text_field description ++ (to_be_bytes w64 created ++ material) = e3 ∙ ap (λ (w : List ℕ). text_field description ++ w) e4 in
    let f3 : r1 ≡ to_be_bytes w16 bits ++ (text_field description ++ (to_be_bytes w64 created ++ material)) = e2 ∙ ap (λ (w : List ℕ). to_be_bytes w16 bits ++ w) f4 in
    let f2 : r0 ≡ name_field name ++ (to_be_bytes w16 bits ++ (text_field description ++ (to_be_bytes w64 created ++ material))) = e1 ∙ ap (λ (w : List ℕ). name_field name ++ w) f3 in
    ap (λ (w : List ℕ). 2 ∷ w) (e0 ∙ ap (λ (w : List ℕ). to_be_bytes w64 birth ++ w) f2)

create_takes : (bytes : List ℕ) (command : KeyCommand) → IsBytes bytes → create_at bytes ≡ Some command → HasSpelling command × (2 ∷ bytes ≡ spelling command)
unfolding create_at
create_takes bytes command fits e =
    let a0 = bind_some (number_at w64 bytes) behind_birth command e in
    let birth = a0.0.0 in
    let t0 = number_takes w64 (2 ^ 64) wide64 bytes a0.0 fits a0.1 in
    let a1 = bind_some (short_at a0.0.1) (behind_named birth) command a0.2 in
    let named = a1.0 in
    let t1 = short_takes a0.0.1 named t0.0.rest_fits a1.1 in
    let a2 = bind_some (name_of named.0) (behind_name birth named) command a1.2 in
    let name = a2.0 in
    let g2 = cond_some (is_key_name named.0) named.0 name a2.1 in
    let a3 = bind_some (number_at w16 named.1) (behind_bits birth name) command a2.2 in
    let bits = a3.0 in
    let t3 = number_takes w16 (2 ^ 16) wide16 named.1 bits t1.rest_fits a3.1 in
    let a4 = bind_some (long_at bits.1) (behind_described birth name bits.0) command a3.2 in
    let described = a4.0 in
    let t4 = long_takes bits.1 described t3.0.rest_fits a4.1 in
    let a5 = bind_some (text_of described.0) (behind_text birth name bits.0 described) command a4.2 in
    let description = a5.0 in
    let g5 = cond_some (is_utf8 described.0) described.0 description a5.1 in
    let a6 = bind_some (number_at w64 described.1) (behind_created birth name bits.0 description) command a5.2 in
    let created = a6.0 in
    let t6 = number_takes w64 (2 ^ 64) wide64 described.1 created t4.0.rest_fits a6.1 in
    let a7 = bind_some (material_of_bits bits.0 created.1) (λ material. Some (Create birth name bits.0 description created.0 material)) command a6.2 in
    let material = a7.0 in
    let g7 = cond_some (fits_bits bits.0 created.1) created.1 material a7.1 in
    let spelled = joined bytes birth a0.0.1 name named.1 bits.0 bits.1 description described.1 created.0 material
    t0.0.parts
    (t1.parts ∙ ap (λ (n : List ℕ). name_field n ++ named.1) g2.1)
    t3.0.parts
    (t4.0.parts ∙ ap (λ (n : List ℕ). text_field n ++ described.1) g5.1)
    (t6.0.parts ∙ ap (λ (m : List ℕ). to_be_bytes w64 created.0 ++ m) g7.1) in
    let has : CreateHasSpelling birth name bits.0 description created.0 material = record {
      birth_fits = t0.1;
      is_name = subst (λ (n : List ℕ). is_key_name n ≡ true) g2.1 g2.0;
      short = subst (λ (d : List ℕ). length d ≤ 65535) g5.1 (omega (arith, t4.1));
      is_text = IsUtf8-from_is_utf8 description (subst (λ (d : List ℕ). is_utf8 d ≡ true) g5.1 g5.0);
      created_fits = t6.1;
      lengths = subst (λ (m : List ℕ). fits_bits bits.0 m ≡ true) g7.1 g7.0;
    } in
    subst (λ (c : KeyCommand). HasSpelling c × (2 ∷ bytes ≡ spelling c)) (same_Some (Create birth name bits.0 description created.0 material) command a7.2) (has, spelled)

-- the encoding of the command that is read is the record's bytes
pub command_takes : (bytes : List ℕ) (command : KeyCommand) → IsBytes bytes → command_at bytes ≡ Some command → HasSpelling command × (bytes ≡ spelling command)
unfolding command_at
command_takes [] command fits e = absurd cc
command_takes (tag ∷ bytes) command fits e =
    let P : KeyCommand → ℕ → Type 0 = λ c t. HasSpelling c × (t ∷ bytes ≡ spelling c) in
    let rest = IsBytes-rest tag bytes fits in
    by_tag tag (eqb tag 1) (eqb tag 2) (eqb tag 3) (eqb tag 4) (eqb-true tag 1) (eqb-true tag 2) (eqb-true tag 3) (eqb-true tag 4) rest e
  where
    by_tag : (t : ℕ) (a b c d : Bool) → (a ≡ true → t ≡ 1) → (b ≡ true → t ≡ 2) → (c ≡ true → t ≡ 3) → (d ≡ true → t ≡ 4) → IsBytes bytes
        → cond a (opened_at bytes) (cond b (create_at bytes) (cond c (roll_at bytes) (cond d (delete_at bytes) None))) ≡ Some command → HasSpelling command × (t ∷ bytes ≡ spelling command)
    by_tag t true b c d one two three four rest e = subst (λ (n : ℕ). HasSpelling command × (n ∷ bytes ≡ spelling command)) (sym (one refl)) (opened_takes bytes command rest e)
    by_tag t false true c d one two three four rest e = subst (λ (n : ℕ). HasSpelling command × (n ∷ bytes ≡ spelling command)) (sym (two refl)) (create_takes bytes command rest e)
    by_tag t false false true d one two three four rest e = subst (λ (n : ℕ). HasSpelling command × (n ∷ bytes ≡ spelling command)) (sym (three refl)) (roll_takes bytes command rest e)
    by_tag t false false false true one two three four rest e = subst (λ (n : ℕ). HasSpelling command × (n ∷ bytes ≡ spelling command)) (sym (four refl)) (delete_takes bytes command rest e)
    by_tag t false false false false one two three four rest e = absurd cc

-- a test that is true
if_true : {A : Type 0} (b : Bool) (x y : A) → b ≡ true → cond b x y ≡ x
if_true b x y e = ap (λ t. cond t x y) e

create_again : (birth : ℕ) (name : List ℕ) (bits : ℕ) (description : List ℕ) (created : ℕ) (material : List ℕ) → CreateHasSpelling birth name bits description created material
    → bits < 2 ^ 16 → create_at (to_be_bytes w64 birth ++ (name_field name ++ (to_be_bytes w16 bits ++ (text_field description ++ (to_be_bytes w64 created ++ material))))) ≡ Some (Create birth name bits description created material)
unfolding create_at
create_again birth name bits description created material has bits_fit =
    let r4 = to_be_bytes w64 created ++ material in
    let r3 = text_field description ++ r4 in
    let r2 = to_be_bytes w16 bits ++ r3 in
    let r1 = name_field name ++ r2 in
    let made : Option KeyCommand = Some (Create birth name bits description created material) in
    bind_is (number_at w64 (to_be_bytes w64 birth ++ r1)) behind_birth (birth, r1) made (number_again w64 (2 ^ 64) wide64 birth r1 has.birth_fits)
    (bind_is (short_at r1) (behind_named birth) (name, r2) made (short_again name r2)
    (bind_is (name_of name) (behind_name birth (name, r2)) name made (if_true (is_key_name name) (Some name) None has.is_name)
    (bind_is (number_at w16 r2) (behind_bits birth name) (bits, r3) made (number_again w16 (2 ^ 16) wide16 bits r3 bits_fit)
    (bind_is (long_at r3) (behind_described birth name bits) (description, r4) made (long_again description r4 (omega (arith, has.short)))
    (bind_is (text_of description) (behind_text birth name bits (description, r4)) description made (if_true (is_utf8 description) (Some description) None (is_utf8-from_IsUtf8 description has.is_text))
    (bind_is (number_at w64 r4) (behind_created birth name bits description) (created, material) made (number_again w64 (2 ^ 64) wide64 created material has.created_fits)
    (bind_is (material_of_bits bits material) (λ m. Some (Create birth name bits description created m)) material made (if_true (fits_bits bits material) (Some material) None has.lengths) refl)))))))

roll_again : (birth number : ℕ) (material : List ℕ) → birth < 2 ^ 64 → number < 2 ^ 16 → is_key_length (length material) ≡ true
    → roll_at (to_be_bytes w64 birth ++ (to_be_bytes w16 number ++ material)) ≡ Some (Roll birth number material)
unfolding roll_at
roll_again birth number material small few long =
    let r1 = to_be_bytes w16 number ++ material in
    let made : Option KeyCommand = Some (Roll birth number material) in
    bind_is (number_at w64 (to_be_bytes w64 birth ++ r1)) (λ birth. number_at w16 birth.1 >>= λ number. material_of number.1 >>= λ material. Some (Roll birth.0 number.0 material)) (birth, r1) made
    (number_again w64 (2 ^ 64) wide64 birth r1 small)
    (bind_is (number_at w16 r1) (λ number. material_of number.1 >>= λ material. Some (Roll birth number.0 material)) (number, material) made
    (number_again w16 (2 ^ 16) wide16 number material few)
    (bind_is (material_of material) (λ m. Some (Roll birth number m)) material made (if_true (is_key_length (length material)) (Some material) None long) refl))

bits_small : (bits : ℕ) (material : List ℕ) → fits_bits bits material ≡ true → bits < 2 ^ 16
bits_small bits material fit = grind (arith, fit)

-- each encoding is read back
pub command_again : (command : KeyCommand) → HasSpelling command → command_at (spelling command) ≡ Some command
unfolding command_at opened_at delete_at
command_again (Opened opening) has = bind_is (last_number w32 (to_be_bytes w32 opening)) (λ n. Some (Opened n)) opening _ (last_again w32 (2 ^ 32) wide32 opening has) refl
command_again (Create birth name bits description created material) has = create_again birth name bits description created material has (bits_small bits material has.lengths)
command_again (Roll birth number material) has = roll_again birth number material has.0 has.1 has.2
command_again (Delete birth) has = bind_is (last_number w64 (to_be_bytes w64 birth)) (λ n. Some (Delete n)) birth _ (last_again w64 (2 ^ 64) wide64 birth has) refl

-- two commands with the same encoding are equal
pub one_spelling : (a b : KeyCommand) → HasSpelling a → HasSpelling b → spelling a ≡ spelling b → a ≡ b
one_spelling a b of_a of_b same = same_Some a b (sym (command_again a of_a) ∙ ap command_at same ∙ command_again b of_b)

pub was_read : (bytes : List ℕ) (r : Result KeyCommand RecordFault) → IsBytes bytes → GivesRecord (λ x. x) r (command_at bytes) → IfOk r (λ command. HasSpelling command × (bytes ≡ spelling command))
was_read bytes (Ok command) fits given = command_takes bytes command fits given
was_read bytes (Err fault) fits given = tt

pub was_none : (bytes : List ℕ) (r : Result KeyCommand RecordFault) → GivesRecord (λ x. x) r (command_at bytes) → r ≡ Err NoRecord → (command : KeyCommand) → HasSpelling command → ¬ (bytes ≡ spelling command)
was_none bytes (Ok command) given e other has same = absurd cc
was_none bytes (Err NoRecord) given e other has same =
    let no : None ≡ Some other = sym given ∙ ap command_at same ∙ command_again other has in
    absurd cc
was_none bytes (Err NoMemory) given e other has same = absurd cc

-- a command that applies fits
pub applying_fits : (t : Table) (command : KeyCommand) → applies t command ≡ true → fits command ≡ true
applying_fits t (Opened opening) may = refl
applying_fits t (Create birth name bits description created material) may =
    let g = and_parts (nat_lt 0 t.opening && is_none (find_name t.rows name) && opening_of birth == t.opening && nat_lt t.greatest birth && nat_lt (length t.rows) 10000 && is_length bits) (length material == bits / 8) may in
    let f = and_parts (nat_lt 0 t.opening && is_none (find_name t.rows name) && opening_of birth == t.opening && nat_lt t.greatest birth && nat_lt (length t.rows) 10000) (is_length bits) g.0 in
    ap (λ a. a && length material == bits / 8) f.1 ∙ g.1
applying_fits t (Roll birth number material) may = refl
applying_fits t (Delete birth) may = refl

-- a command that has an encoding fits
pub spelled_fits : (command : KeyCommand) → HasSpelling command → fits command ≡ true
spelled_fits (Opened opening) has = refl
spelled_fits (Create birth name bits description created material) has = has.lengths
spelled_fits (Roll birth number material) has = refl
spelled_fits (Delete birth) has = refl
