-- Records both ways: the bytes of an operation are its spelling, and each spelling is read back as its operation.
use Rattle.std.proofs.Common.{◌≡◌, ℕ, ◌^◌, ◌<◌, ◌≤◌, Bool, true, false, cond, not, eqb, ◌==◌, ◌*◌, ◌&&◌, List, [], ◌∷◌, ◌++◌, length, Option, Some, None, Result, Ok, Err, refl, sym, ap, subst, ◌∙◌, arith, length-append}
use Rattle.std.specs.Prelude.{IfOk, nat_lt, nat_le}
use Rattle.std.specs.List.{AllByRecursion, list_all}
use Rattle.std.specs.Int.{w16, w32, w64, to_be_bytes}
use Rattle.std.proofs.lemmas.Bool.{eqb-true, eq-eqb, and_from, and_parts}
use Rattle.std.proofs.lemmas.Bool.Decides.{nat_tests}
use Rattle.std.proofs.lemmas.Option.{cond_some, same_Some}
use Rattle.hk_base.specs.Names.{Encrypted, Version, IsKeyName, is_key_name, is_name_byte, is_key_length}
use Rattle.hk_base.specs.declared.records.RecordFault.{RecordFault}
use Rattle.hk_base.specs.declared.records.RecordFault.TheVariants.{NoRecord, NoMemory}
use Rattle.name_calls.specs.Paths.{is_absolute, is_component, is_relative, path_text, read_path, read_relative, starts_reserved}
use Rattle.key_rows.specs.Records.{name_field, text_field}
use Rattle.key_rows.specs.Reading.{◌>>=◌, GivesRecord, number_at}
use Rattle.key_rows.proofs.FieldLemmas.{IsBytes, IsBytes-rest, bind_some, bind_is, number_again, number_takes, wide16, wide32, wide64}
use Rattle.edit_ops.specs.declared.files.FileKey.{FileKey}
use Rattle.edit_ops.specs.declared.ops.EditOp.{EditOp}
use Rattle.edit_ops.specs.declared.ops.EditOp.TheVariants.{Opened, Mkdir, File, Remove, Rename, Zone, Allow, Disallow, Snap, Unsnap, Submit, Update, Cancel, Complete}
use Rattle.edit_ops.specs.Laws.{longest_record}
use Rattle.edit_ops.specs.Records.{path_field, version_field, edek_field, opt_field, file_field, files_field, counted_field, spelling, fits, IsKeyVersion, IsEdek, IsFileKey, IsOpt, HasSpelling}
use Rattle.edit_ops.specs.Reading.{Whole, last, then_of, as_of, name_at, path_at, component_at, iv_at, sealed_at, path_and_name_of, as_version, version_of, encrypted, edek_at, edek_of, opt_edek_of, mark_at, opt_mark_at, file_key_at, files_of, counted_of, update_parts, update_of, checked, opened_of, mkdir_of, file_of, remove_of, rename_of, zone_of, allow_of, disallow_of, snap_of, unsnap_of, submit_of, cancel_of, complete_of, op_of}
use Rattle.edit_ops.proofs.PathText.{path_takes, path_again, relative_takes, relative_again, relative_length, absolute_length, component_length}
use Rattle.edit_ops.proofs.Parts.{IsFront, IsWhole, IsText, number_front, bytes_front, short_front, long_front, tested, front_whole, last_whole, then_whole, as_whole, opt_whole, pair_front, as_front, times_front, opt_front, checked_whole, AreAll}

abbrev IsAbsolute : List (List ℕ) → Type 0
IsAbsolute path = is_absolute path ≡ true

name_front : IsFront name_at name_field IsKeyName
name_front = front_whole short_front (tested is_key_name) (λ name is. tt)

path_front : IsFront path_at path_field IsAbsolute
unfolding path_at
path_front =
    let read : IsText read_path path_text IsAbsolute = record { takes = path_takes; again = path_again } in
    front_whole long_front read (λ path is. let short = absolute_length path is in omega arith)

component_front : IsFront component_at text_field (λ name. is_component name ≡ true)
component_front = front_whole long_front (tested is_component) (λ name is. let short = component_length name is in omega arith)

abbrev is_iv : List ℕ → Bool
is_iv iv = length iv == 16

iv_front : IsFront iv_at (λ iv. iv) (λ iv. is_iv iv ≡ true)
iv_front = front_whole (bytes_front 16) (tested is_iv) (λ iv is. eqb-true (length iv) 16 is)

abbrev is_sealed : List ℕ → Bool
is_sealed sealed = is_key_length (length sealed)

sealed_front : IsFront sealed_at name_field (λ sealed. is_sealed sealed ≡ true)
sealed_front = front_whole short_front (tested is_sealed) (λ sealed is. tt)

version_whole : IsWhole version_of version_field IsKeyVersion
unfolding version_of
version_whole =
    as_whole as_version (λ v. (v.key, v.number)) version_field IsKeyVersion
    (then_whole name_front (last_whole (number_front w16 (2 ^ 16) wide16)))
    (λ v. refl)
    (λ v is. (is.key, is.number))
    (λ v. refl)
    (λ x is. record { key = is.0; number = is.1 })
    (λ x. refl)

edek_front : IsFront edek_at edek_field IsEdek
unfolding edek_at
edek_front =
    as_front encrypted (λ e. (e.version.key, (e.version.number, (e.iv, e.sealed)))) edek_field IsEdek
    (pair_front name_front (pair_front (number_front w16 (2 ^ 16) wide16) (pair_front iv_front sealed_front)))
    (λ e. refl)
    (λ e is. (is.key, (is.number, (eq-eqb (length e.iv) 16 is.iv, is.sealed))))
    (λ e. refl)
    (λ x is. record { key = is.0; number = is.1.0; iv = eqb-true (length x.1.1.0) 16 is.1.1.0; sealed = is.1.1.1 })
    (λ x. refl)

edek_whole : IsWhole edek_of edek_field IsEdek
unfolding edek_of
edek_whole = last_whole edek_front

opt_edek_whole : IsWhole opt_edek_of (opt_field edek_field) (IsOpt IsEdek)
unfolding opt_edek_of
opt_edek_whole = opt_whole edek_whole

-- an operation, by the bytes after its first byte
record IsOp {X : Type 0} (whole : Whole X) (text : X → List ℕ) (Fits : X → Type 0) (tag : ℕ) (see : X → EditOp) : Type 0 where
  parts : IsWhole whole text Fits
  has : (x : X) → Fits x → HasSpelling (see x)
  spells : (x : X) → tag ∷ text x ≡ spelling (see x)

op_takes : {X : Type 0} {whole : Whole X} {text : X → List ℕ} {Fits : X → Type 0} {tag : ℕ} {see : X → EditOp} → IsOp whole text Fits tag see
    → (bytes : List ℕ) (op : EditOp) → IsBytes bytes → as_of see whole bytes ≡ Some op → HasSpelling op × (tag ∷ bytes ≡ spelling op)
op_takes {X} {whole} {text} {Fits} {tag} {see} is bytes op fits e =
    let b = bind_some (whole bytes) (λ x. Some (see x)) op e in
    let t = is.parts.takes bytes b.0 fits b.1 in
    subst (λ (o : EditOp). HasSpelling o × (tag ∷ bytes ≡ spelling o)) (same_Some (see b.0) op b.2)
    (is.has b.0 t.1, ap (λ (w : List ℕ). tag ∷ w) t.0 ∙ is.spells b.0)

op_again : {X : Type 0} {whole : Whole X} {text : X → List ℕ} {Fits : X → Type 0} {tag : ℕ} {see : X → EditOp} → IsOp whole text Fits tag see
    → (x : X) → Fits x → as_of see whole (text x) ≡ Some (see x)
op_again {X} {whole} {text} {Fits} {tag} {see} is x fits = bind_is (whole (text x)) (λ z. Some (see z)) x (Some (see x)) (is.parts.again x fits) refl

opened_is : IsOp (last (number_at w32)) (to_be_bytes w32) (λ n. n < 2 ^ 32) 1 Opened
opened_is = record { parts = last_whole (number_front w32 (2 ^ 32) wide32); has = λ n is. is; spells = λ n. refl }

mkdir_is : IsOp (then_of (number_at w64) (last path_at)) (λ x. to_be_bytes w64 x.0 ++ path_field x.1) (λ x. (x.0 < 2 ^ 64) × IsAbsolute x.1) 2 (λ x. Mkdir x.0 x.1)
mkdir_is = record { parts = then_whole (number_front w64 (2 ^ 64) wide64) (last_whole path_front); has = λ x is. is; spells = λ x. refl }

file_is : IsOp (then_of (number_at w64) (then_of path_at opt_edek_of)) (λ x. to_be_bytes w64 x.0 ++ (path_field x.1.0 ++ opt_field edek_field x.1.1)) (λ x. (x.0 < 2 ^ 64) × (IsAbsolute x.1.0 × IsOpt IsEdek x.1.1)) 3 (λ x. File x.0 x.1.0 x.1.1)
file_is = record {
  parts = then_whole (number_front w64 (2 ^ 64) wide64) (then_whole path_front opt_edek_whole);
  has = λ x is. (is.0, is.1.0, is.1.1);
  spells = λ x. refl;
}

remove_is : IsOp (last path_at) path_field IsAbsolute 4 Remove
remove_is = record { parts = last_whole path_front; has = λ path is. is; spells = λ path. refl }

abbrev move_text : List (List ℕ) × List (List ℕ) → List ℕ
move_text x = path_field x.0 ++ path_field x.1

abbrev IsMove : List (List ℕ) × List (List ℕ) → Type 0
IsMove x = IsAbsolute x.0 × IsAbsolute x.1

rename_is : IsOp (then_of path_at (last path_at)) move_text IsMove 5 (λ x. Rename x.0 x.1)
rename_is = record { parts = then_whole path_front (last_whole path_front); has = λ x is. is; spells = λ x. refl }

zone_is : IsOp (then_of path_at (last name_at)) (λ x. path_field x.0 ++ name_field x.1) (λ x. IsAbsolute x.0 × IsKeyName x.1) 6 (λ x. Zone x.0 x.1)
zone_is = record { parts = then_whole path_front (last_whole name_front); has = λ x is. is; spells = λ x. refl }

allow_is : IsOp (last path_at) path_field IsAbsolute 7 Allow
allow_is = record { parts = last_whole path_front; has = λ path is. is; spells = λ path. refl }

disallow_is : IsOp (last path_at) path_field IsAbsolute 8 Disallow
disallow_is = record { parts = last_whole path_front; has = λ path is. is; spells = λ path. refl }

abbrev snapshot_text : List (List ℕ) × List ℕ → List ℕ
snapshot_text x = path_field x.0 ++ text_field x.1

abbrev IsSnapshot : List (List ℕ) × List ℕ → Type 0
IsSnapshot x = IsAbsolute x.0 × (is_component x.1 ≡ true)

path_and_name_whole : IsWhole path_and_name_of snapshot_text IsSnapshot
unfolding path_and_name_of
path_and_name_whole = then_whole path_front (last_whole component_front)

snap_is : IsOp path_and_name_of snapshot_text IsSnapshot 9 (λ x. Snap x.0 x.1)
snap_is = record { parts = path_and_name_whole; has = λ x is. is; spells = λ x. refl }

unsnap_is : IsOp path_and_name_of snapshot_text IsSnapshot 10 (λ x. Unsnap x.0 x.1)
unsnap_is = record { parts = path_and_name_whole; has = λ x is. is; spells = λ x. refl }

submit_is : IsOp (then_of (number_at w64) (then_of path_at version_of)) (λ x. to_be_bytes w64 x.0 ++ (path_field x.1.0 ++ version_field x.1.1)) (λ x. (x.0 < 2 ^ 64) × (IsAbsolute x.1.0 × IsKeyVersion x.1.1)) 11 (λ x. Submit x.0 x.1.0 x.1.1)
submit_is = record {
  parts = then_whole (number_front w64 (2 ^ 64) wide64) (then_whole path_front version_whole);
  has = λ x is. (is.0, is.1.0, is.1.1);
  spells = λ x. refl;
}

abbrev IsRelative : List (List ℕ) → Type 0
IsRelative path = is_relative path ≡ true

mark_front : IsFront mark_at path_field IsRelative
unfolding mark_at
mark_front =
    let read : IsText read_relative path_text IsRelative = record { takes = relative_takes; again = relative_again } in
    front_whole long_front read (λ path is. let short = relative_length path is in omega arith)

opt_mark_front : IsFront opt_mark_at (opt_field path_field) (IsOpt IsRelative)
unfolding opt_mark_at
opt_mark_front = opt_front mark_front

file_key_front : IsFront file_key_at file_field IsFileKey
unfolding file_key_at
file_key_front =
    as_front (λ x. record { id = x.0; edek = x.1 }) (λ file. (file.id, file.edek)) file_field IsFileKey
    (pair_front (number_front w64 (2 ^ 64) wide64) edek_front)
    (λ file. refl)
    (λ file is. (is.id, is.edek))
    (λ file. refl)
    (λ x is. record { id = is.0; edek = is.1 })
    (λ x. refl)

files_whole : (count : ℕ) → IsWhole (files_of count) files_field (AreAll IsFileKey count)
files_whole count = last_whole (times_front file_key_front count)

abbrev AreFiles : List FileKey → Type 0
AreFiles files = (length files ≤ 1000) × AllByRecursion IsFileKey files

le_1000 : (n : ℕ) → nat_le n 1000 ≡ true → n ≤ 1000
le_1000 n h = grind (arith, nat_tests)

yes_1000 : (n : ℕ) → n ≤ 1000 → nat_le n 1000 ≡ true
yes_1000 n h = grind (arith, nat_tests)

counted_takes : (bytes : List ℕ) (files : List FileKey) → IsBytes bytes → counted_of bytes ≡ Some files → (bytes ≡ counted_field files) × AreFiles files
unfolding counted_of
counted_takes bytes files fits e =
    let a = bind_some (number_at w32 bytes) (λ count. files_of count.0 count.1 >>= λ fs. cond (nat_le (length fs) 1000) (Some fs) None) files e in
    let b = bind_some (files_of a.0.0 a.0.1) (λ fs. cond (nat_le (length fs) 1000) (Some fs) None) files a.2 in
    let g = cond_some (nat_le (length b.0) 1000) b.0 files b.2 in
    let t = number_takes w32 (2 ^ 32) wide32 bytes a.0 fits a.1 in
    let u = (files_whole a.0.0).takes a.0.1 b.0 t.0.rest_fits b.1 in
    let all : bytes ≡ counted_field b.0 =
    t.0.parts ∙ ap (λ (r : List ℕ). to_be_bytes w32 a.0.0 ++ r) u.0 ∙ ap (λ (n : ℕ). to_be_bytes w32 n ++ files_field b.0) (sym u.1.0) in
    subst (λ (fs : List FileKey). (bytes ≡ counted_field fs) × AreFiles fs) g.1 (all, (le_1000 (length b.0) g.0, u.1.1))

counted_again : (files : List FileKey) → AreFiles files → counted_of (counted_field files) ≡ Some files
unfolding counted_of
counted_again files is =
    bind_is (number_at w32 (counted_field files)) (λ count. files_of count.0 count.1 >>= λ fs. cond (nat_le (length fs) 1000) (Some fs) None) (length files, files_field files) (Some files)
    (number_again w32 (2 ^ 32) wide32 (length files) (files_field files) (let few = is.0 in omega arith))
    (bind_is (files_of (length files) (files_field files)) (λ fs. cond (nat_le (length fs) 1000) (Some fs) None) files (Some files) ((files_whole (length files)).again files (refl, is.1))
    (ap (λ (b : Bool). cond b (Some files) None) (yes_1000 (length files) is.0)))

counted_whole : IsWhole counted_of counted_field AreFiles
counted_whole = record { takes = counted_takes; again = counted_again }

-- the session, how many files were changed and failed, the mark, and the files
abbrev UpdateParts : Type 0
UpdateParts = ℕ × (ℕ × (ℕ × (Option (List (List ℕ)) × List FileKey)))

abbrev update_text : ℕ → UpdateParts → List ℕ
update_text changed x = to_be_bytes w64 x.0 ++ (to_be_bytes w32 changed ++ (to_be_bytes w32 x.1.1.0 ++ (opt_field path_field x.1.1.1.0 ++ counted_field x.1.1.1.1)))

abbrev AreParts : UpdateParts → Type 0
AreParts x = (x.0 < 2 ^ 64) × ((x.1.0 < 2 ^ 32) × ((x.1.1.0 < 2 ^ 32) × (IsOpt IsRelative x.1.1.1.0 × AreFiles x.1.1.1.1)))

abbrev has_count : UpdateParts → Bool
has_count x = x.1.0 == length x.1.1.1.1

update_whole : IsWhole (checked has_count update_parts) (λ x. update_text (length x.1.1.1.1) x) (λ x. AreParts x × (has_count x ≡ true))
update_whole =
    checked_whole {text = λ x. update_text x.1.0 x} {F = AreParts} has_count (λ x. update_text (length x.1.1.1.1) x)
    (then_whole (number_front w64 (2 ^ 64) wide64) (then_whole (number_front w32 (2 ^ 32) wide32) (then_whole (number_front w32 (2 ^ 32) wide32) (then_whole opt_mark_front counted_whole))))
    (λ x is. ap (λ (n : ℕ). update_text n x) (eqb-true x.1.0 (length x.1.1.1.1) is))

update_is : IsOp (checked has_count update_parts) (λ x. update_text (length x.1.1.1.1) x) (λ x. AreParts x × (has_count x ≡ true)) 12 (λ x. Update x.0 x.1.1.0 x.1.1.1.0 x.1.1.1.1)
update_is = record {
  parts = update_whole;
  has = λ x is. (is.0.0, is.0.1.1.0, is.0.1.1.1.0, is.0.1.1.1.1.0, is.0.1.1.1.1.1);
  spells = λ x. refl;
}

cancel_is : IsOp (last (number_at w64)) (to_be_bytes w64) (λ n. n < 2 ^ 64) 13 Cancel
cancel_is = record { parts = last_whole (number_front w64 (2 ^ 64) wide64); has = λ n is. is; spells = λ n. refl }

complete_is : IsOp (last (number_at w64)) (to_be_bytes w64) (λ n. n < 2 ^ 64) 14 Complete
complete_is = record { parts = last_whole (number_front w64 (2 ^ 64) wide64); has = λ n is. is; spells = λ n. refl }

-- a first byte that was compared with one more record's
by_tag : {op : EditOp} {bytes : List ℕ} (tag n : ℕ) (this others : Option EditOp) → (this ≡ Some op → HasSpelling op × (n ∷ bytes ≡ spelling op))
    → (others ≡ Some op → HasSpelling op × (tag ∷ bytes ≡ spelling op)) → cond (eqb tag n) this others ≡ Some op → HasSpelling op × (tag ∷ bytes ≡ spelling op)
by_tag {op} {bytes} tag n this others held other e = go (eqb tag n) (eqb-true tag n) e
  where
    go : (b : Bool) → (b ≡ true → tag ≡ n) → cond b this others ≡ Some op → HasSpelling op × (tag ∷ bytes ≡ spelling op)
    go true is e = subst (λ (k : ℕ). HasSpelling op × (k ∷ bytes ≡ spelling op)) (sym (is refl)) (held e)
    go false is e = other e

-- an operation read from bytes has a spelling, which is these bytes
op_read : (bytes : List ℕ) (op : EditOp) → IsBytes bytes → op_of bytes ≡ Some op → HasSpelling op × (bytes ≡ spelling op)
unfolding op_of opened_of mkdir_of file_of remove_of rename_of zone_of allow_of disallow_of snap_of unsnap_of submit_of update_of cancel_of complete_of
op_read [] op fits e = absurd cc
op_read (tag ∷ bytes) op fits e =
    let rest = IsBytes-rest tag bytes fits in
    by_tag tag 1 _ _ (op_takes opened_is bytes op rest)
    (by_tag tag 2 _ _ (op_takes mkdir_is bytes op rest)
    (by_tag tag 3 _ _ (op_takes file_is bytes op rest)
    (by_tag tag 4 _ _ (op_takes remove_is bytes op rest)
    (by_tag tag 5 _ _ (op_takes rename_is bytes op rest)
    (by_tag tag 6 _ _ (op_takes zone_is bytes op rest)
    (by_tag tag 7 _ _ (op_takes allow_is bytes op rest)
    (by_tag tag 8 _ _ (op_takes disallow_is bytes op rest)
    (by_tag tag 9 _ _ (op_takes snap_is bytes op rest)
    (by_tag tag 10 _ _ (op_takes unsnap_is bytes op rest)
    (by_tag tag 11 _ _ (op_takes submit_is bytes op rest)
    (by_tag tag 12 _ _ (op_takes update_is bytes op rest)
    (by_tag tag 13 _ _ (op_takes cancel_is bytes op rest)
    (by_tag tag 14 _ None (op_takes complete_is bytes op rest) (λ none. absurd cc)))))))))))))) e

-- each spelling is read back as its operation
spelling_read : (op : EditOp) → HasSpelling op → op_of (spelling op) ≡ Some op
unfolding op_of opened_of mkdir_of file_of remove_of rename_of zone_of allow_of disallow_of snap_of unsnap_of submit_of update_of cancel_of complete_of
spelling_read (Opened opening) has = op_again opened_is opening has
spelling_read (Mkdir id path) has = op_again mkdir_is (id, path) has
spelling_read (File id path edek) has = op_again file_is (id, (path, edek)) (has.0, (has.1, has.2))
spelling_read (Remove path) has = op_again remove_is path has
spelling_read (Rename path to) has = op_again rename_is (path, to) has
spelling_read (Zone path key) has = op_again zone_is (path, key) has
spelling_read (Allow path) has = op_again allow_is path has
spelling_read (Disallow path) has = op_again disallow_is path has
spelling_read (Snap path name) has = op_again snap_is (path, name) has
spelling_read (Unsnap path name) has = op_again unsnap_is (path, name) has
spelling_read (Submit session path noted) has = op_again submit_is (session, (path, noted)) (has.0, (has.1, has.2))
spelling_read (Update session failed mark files) has =
    let short : length files < 2 ^ 32 = omega (arith, has.3) in
    op_again update_is (session, (length files, (failed, (mark, files)))) ((has.0, (short, (has.1, (has.2, (has.3, has.4))))), eq-eqb (length files) (length files) refl)
spelling_read (Cancel session) has = op_again cancel_is session has
spelling_read (Complete session) has = op_again complete_is session has

-- two operations with the same spelling are the same
pub one_spelling : (a b : EditOp) → HasSpelling a → HasSpelling b → spelling a ≡ spelling b → a ≡ b
one_spelling a b of_a of_b same = same_Some a b (sym (spelling_read a of_a) ∙ ap op_of same ∙ spelling_read b of_b)

pub was_read : (bytes : List ℕ) (r : Result EditOp RecordFault) → IsBytes bytes → GivesRecord (λ x. x) r (op_of bytes) → IfOk r (λ op. HasSpelling op × (bytes ≡ spelling op))
was_read bytes (Ok op) fits given = op_read bytes op fits given
was_read bytes (Err fault) fits given = tt

pub was_none : (bytes : List ℕ) (r : Result EditOp RecordFault) → GivesRecord (λ x. x) r (op_of bytes) → r ≡ Err NoRecord → (op : EditOp) → HasSpelling op → ¬ (bytes ≡ spelling op)
was_none bytes (Ok op) given e other has same = absurd cc
was_none bytes (Err NoRecord) given e other has same =
    let no : None ≡ Some other = sym given ∙ ap op_of same ∙ spelling_read other has in
    absurd cc
was_none bytes (Err NoMemory) given e other has same = absurd cc

not_reserved : (path : List (List ℕ)) → is_absolute path ≡ true → not (starts_reserved path) ≡ true
not_reserved path is = (and_parts (is_relative path) (not (starts_reserved path)) is).1

-- an operation that has a spelling fits
pub spelled_fits : (op : EditOp) → HasSpelling op → fits op ≡ true
spelled_fits (Opened opening) has = refl
spelled_fits (Mkdir id path) has = not_reserved path has.1
spelled_fits (File id path edek) has = not_reserved path has.1
spelled_fits (Remove path) has = not_reserved path has
spelled_fits (Rename path to) has = and_from (not (starts_reserved path)) (not (starts_reserved to)) (not_reserved path has.0) (not_reserved to has.1)
spelled_fits (Zone path key) has = not_reserved path has.0
spelled_fits (Allow path) has = not_reserved path has
spelled_fits (Disallow path) has = not_reserved path has
spelled_fits (Snap path name) has = and_from (not (starts_reserved path)) (is_component name) (not_reserved path has.0) has.1
spelled_fits (Unsnap path name) has = and_from (not (starts_reserved path)) (is_component name) (not_reserved path has.0) has.1
spelled_fits (Submit session path noted) has = not_reserved path has.1
spelled_fits (Update session failed mark files) has = refl
spelled_fits (Cancel session) has = refl
spelled_fits (Complete session) has = refl

-- the length of records

name_length : (name : List ℕ) → IsKeyName name → length name ≤ 64
name_length name is =
    let g = and_parts (nat_lt 0 (length name) && nat_le (length name) 64) (list_all is_name_byte name) is in
    let h = (and_parts (nat_lt 0 (length name)) (nat_le (length name) 64) g.0).1 in
    grind (arith, nat_tests)

key_length : (n : ℕ) → is_key_length n ≡ true → n ≤ 32
key_length n is = grind (arith, nat_tests)

path_length : (path : List (List ℕ)) → is_absolute path ≡ true → length (path_field path) ≤ 8002
path_length path is = omega (arith, length-append (to_be_bytes w16 (length (path_text path))) (path_text path), absolute_length path is)

version_length : (version : Version) → IsKeyVersion version → length (version_field version) ≤ 67
version_length version is = omega (arith, name_length version.key is.key, length-append (name_field version.key) (to_be_bytes w16 version.number))

edek_length : (edek : Encrypted) → IsEdek edek → length (edek_field edek) ≤ 116
edek_length edek is =
    let key = name_field edek.version.key in
    let number = to_be_bytes w16 edek.version.number in
    let sealed = name_field edek.sealed in
    omega (arith, name_length edek.version.key is.key, key_length (length edek.sealed) is.sealed, is.iv, length-append key (number ++ (edek.iv ++ sealed)), length-append number (edek.iv ++ sealed), length-append edek.iv sealed)

opt_length : (edek : Option Encrypted) → IsOpt IsEdek edek → length (opt_field edek_field edek) ≤ 117
opt_length None is = omega arith
opt_length (Some edek) is = let l = edek_length edek is in omega arith

mark_length : (mark : Option (List (List ℕ))) → IsOpt IsRelative mark → length (opt_field path_field mark) ≤ 8003
mark_length None is = omega arith
mark_length (Some path) is = omega (arith, length-append (to_be_bytes w16 (length (path_text path))) (path_text path), relative_length path is)

file_length : (file : FileKey) → IsFileKey file → length (file_field file) ≤ 124
file_length file is = omega (arith, length-append (to_be_bytes w64 file.id) (edek_field file.edek), edek_length file.edek is.edek)

files_length : (files : List FileKey) → AllByRecursion IsFileKey files → length (files_field files) ≤ 124 * length files
files_length [] all = omega arith
files_length (file ∷ files) all = omega (arith, length-append (file_field file) (files_field files), file_length file all.0, files_length files all.1)

counted_length : (files : List FileKey) → AreFiles files → length (counted_field files) ≤ 124004
counted_length files is = omega (arith, length-append (to_be_bytes w32 (length files)) (files_field files), files_length files is.1, is.0)

snapshot_length : (path : List (List ℕ)) (name : List ℕ) → is_absolute path ≡ true → is_component name ≡ true → length (path_field path ++ text_field name) ≤ 8259
snapshot_length path name is may =
    omega (arith, path_length path is, component_length name may, length-append (path_field path) (text_field name), length-append (to_be_bytes w16 (length name)) name)

pub records_are_short : (op : EditOp) → HasSpelling op → (1 ≤ length (spelling op)) × (length (spelling op) ≤ longest_record)
records_are_short (Opened opening) has = (omega arith, omega arith)
records_are_short (Mkdir id path) has =
    let l = path_length path has.1 in
    let e = length-append (to_be_bytes w64 id) (path_field path) in (omega arith, omega arith)
records_are_short (File id path edek) has =
    let l = path_length path has.1 in
    let m = opt_length edek has.2 in
    let e = length-append (to_be_bytes w64 id) (path_field path ++ opt_field edek_field edek) in
    let f = length-append (path_field path) (opt_field edek_field edek) in (omega arith, omega arith)
records_are_short (Remove path) has = let l = path_length path has in (omega arith, omega arith)
records_are_short (Rename path to) has =
    let l = path_length path has.0 in
    let m = path_length to has.1 in
    let e = length-append (path_field path) (path_field to) in (omega arith, omega arith)
records_are_short (Zone path key) has =
    let l = path_length path has.0 in
    let m = name_length key has.1 in
    let e = length-append (path_field path) (name_field key) in (omega arith, omega arith)
records_are_short (Allow path) has = let l = path_length path has in (omega arith, omega arith)
records_are_short (Disallow path) has = let l = path_length path has in (omega arith, omega arith)
records_are_short (Snap path name) has = let l = snapshot_length path name has.0 has.1 in (omega arith, omega arith)
records_are_short (Unsnap path name) has = let l = snapshot_length path name has.0 has.1 in (omega arith, omega arith)
records_are_short (Submit session path noted) has =
    let l = path_length path has.1 in
    let m = version_length noted has.2 in
    let e = length-append (to_be_bytes w64 session) (path_field path ++ version_field noted) in
    let f = length-append (path_field path) (version_field noted) in (omega arith, omega arith)
records_are_short (Update session failed mark files) has =
    let changed = to_be_bytes w32 (length files) in
    let marked = opt_field path_field mark in
    let counted = counted_field files in
    let l = mark_length mark has.2 in
    let m = counted_length files (has.3, has.4) in
    let e = length-append (to_be_bytes w64 session) (changed ++ (to_be_bytes w32 failed ++ (marked ++ counted))) in
    let f = length-append changed (to_be_bytes w32 failed ++ (marked ++ counted)) in
    let g = length-append (to_be_bytes w32 failed) (marked ++ counted) in
    let h = length-append marked counted in (omega arith, omega arith)
records_are_short (Cancel session) has = (omega arith, omega arith)
records_are_short (Complete session) has = (omega arith, omega arith)
