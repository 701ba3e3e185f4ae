-- Bytes that begin with a value begin with just that one.
use Rattle.std.proofs.Common.{◌≡◌, ℕ, ◌^◌, ◌<◌, Bool, true, false, List, [], ◌∷◌, ◌++◌, length, Option, Some, None, refl, sym, ap, subst, ◌∙◌, arith, append_assoc, drop, get_or}
use Rattle.std.specs.Int.{Width, w16, w32, w64, to_be_bytes}
use Rattle.std.specs.List.{AllByRecursion}
use Rattle.std.proofs.lemmas.Option.{same_Some}
use Rattle.hk_base.specs.Names.{IsKeyName, Version}
use Rattle.name_calls.specs.Paths.{is_relative, path_text, read_relative}
use Rattle.key_rows.specs.Records.{name_field, text_field}
use Rattle.key_rows.specs.Reading.{bytes_at, long_at, number_at, short_at}
use Rattle.key_rows.proofs.FieldLemmas.{IsWide, bytes_again, long_again, number_again, short_again, wide16, wide32, wide64}
use Rattle.inode_tree.specs.declared.rows.Kind.{Kind}
use Rattle.inode_tree.specs.declared.rows.Kind.TheVariants.{Dir, File}
use Rattle.inode_tree.specs.Rows.{Entry}
use Rattle.snap_store.specs.Snapshots.{Snapshot}
use Rattle.zone_table.specs.declared.statuses.StatusRow.{StatusRow}
use Rattle.edit_ops.specs.Records.{IsEdek, IsKeyVersion, IsOpt, edek_field, list_field, opt_field, path_field, version_field}
use Rattle.edit_ops.proofs.PathText.{component_length, relative_again, relative_length}
use Rattle.name_images.specs.Fields.{ids_field, kind_field, many_field, row_field, rows_field, snapshot_field, status_field, truth_field}
use Rattle.name_images.specs.Images.{IsCounted, IsEntry, IsKind, IsSpelledSnapshot, IsSpelledStatus}

head-eq : {a b : ℕ} {r s : List ℕ} → a ∷ r ≡ b ∷ s → a ≡ b
head-eq e = ap (λ (l : List ℕ). get_or l 0 0) e

tail-eq : {a b : ℕ} {r s : List ℕ} → a ∷ r ≡ b ∷ s → r ≡ s
tail-eq e = ap (λ (l : List ℕ). drop 1 l) e

-- Equal bytes that begin with values of a kind begin with equal ones, and go on equally.
pub record IsSole {X : Type 0} (field : X → List ℕ) (Is : X → Type 0) : Type 0 where
  pub same : (x y : X) (r s : List ℕ) → Is x → Is y → field x ++ r ≡ field y ++ s → (x ≡ y) × (r ≡ s)

-- what is read back
read-sole : {X : Type 0} {field : X → List ℕ} {Is : X → Type 0} (read : List ℕ → Option (X × List ℕ)) → ((x : X) (rest : List ℕ) → Is x → read (field x ++ rest) ≡ Some (x, rest)) → IsSole field Is
read-sole {X} read again = record { same = λ x y r s a b e. let h = same_Some (x, r) (y, s) (sym (again x r a) ∙ ap read e ∙ again y s b) in (ap (λ (z : X × List ℕ). z.0) h, ap (λ (z : X × List ℕ). z.1) h) }

number-sole : (w : Width) (limit : ℕ) → IsWide w limit → IsSole (to_be_bytes w) (λ n. n < limit)
number-sole w limit wide = read-sole (number_at w) (λ n rest lt. number_again w limit wide n rest lt)

short-sole : IsSole name_field (λ text. Unit {0})
short-sole = read-sole short_at (λ text rest any. short_again text rest)

long-sole : IsSole text_field (λ text. length text < 2 ^ 16)
long-sole = read-sole long_at (λ text rest lt. long_again text rest lt)

iv-sole : IsSole (λ iv. iv) (λ iv. length iv ≡ 16)
iv-sole = read-sole (bytes_at 16) (λ text rest is. subst (λ (k : ℕ). bytes_at k (text ++ rest) ≡ Some (text, rest)) is (bytes_again text rest))

-- a value that is seen in another way
seen-sole : {X Y : Type 0} {field : X → List ℕ} {Is : X → Type 0} (shown : Y → List ℕ) (See : Y → Type 0) (see : X → Y) (back : Y → X)
    → IsSole field Is → ((y : Y) → see (back y) ≡ y) → ((y : Y) → See y → Is (back y)) → ((y : Y) → field (back y) ≡ shown y) → IsSole shown See
seen-sole {X} {Y} {field} {Is} shown See see back sole there fits shows = record {
  same = λ x y r s a b e.
      let h = sole.same (back x) (back y) r s (fits x a) (fits y b) ((λ i. shows x i ++ r) ∙ e ∙ sym (λ i. shows y i ++ s)) in
      (sym (there x) ∙ ap see h.0 ∙ there y, h.1);
}

pair-sole : {X Y : Type 0} {field : X → List ℕ} {next : Y → List ℕ} {Is : X → Type 0} {Next : Y → Type 0} → IsSole field Is → IsSole next Next
    → IsSole (λ (z : X × Y). field z.0 ++ next z.1) (λ z. Is z.0 × Next z.1)
pair-sole {X} {Y} {field} {next} first second = record {
  same = λ x y r s a b e.
      let h = first.same x.0 y.0 (next x.1 ++ r) (next y.1 ++ s) a.0 b.0 (sym (append_assoc (field x.0) (next x.1) r) ∙ e ∙ append_assoc (field y.0) (next y.1) s) in
      let k = second.same x.1 y.1 r s a.1 b.1 h.1 in
      ((λ i. (h.0 i, k.0 i)), k.1);
}

opt-sole : {X : Type 0} {field : X → List ℕ} {Is : X → Type 0} → IsSole field Is → IsSole (opt_field field) (IsOpt Is)
opt-sole {X} {field} {Is} sole = record { same = go }
  where
    go : (x y : Option X) (r s : List ℕ) → IsOpt Is x → IsOpt Is y → opt_field field x ++ r ≡ opt_field field y ++ s → (x ≡ y) × (r ≡ s)
    go None None r s a b e = (refl, tail-eq e)
    go None (Some y) r s a b e = absurd (omega (arith, head-eq e))
    go (Some x) None r s a b e = absurd (omega (arith, head-eq e))
    go (Some x) (Some y) r s a b e = let h = sole.same x y r s a b (tail-eq e) in (ap (λ (z : X). Some z) h.0, h.1)

-- as many values as the other
list-sole : {X : Type 0} {field : X → List ℕ} {Is : X → Type 0} → IsSole field Is → (xs ys : List X) (r s : List ℕ) → AllByRecursion Is xs → AllByRecursion Is ys → length xs ≡ length ys
    → list_field field xs ++ r ≡ list_field field ys ++ s → (xs ≡ ys) × (r ≡ s)
list-sole sole [] [] r s a b n e = (refl, e)
list-sole sole [] (y ∷ ys) r s a b n e = absurd (omega (arith, n))
list-sole sole (x ∷ xs) [] r s a b n e = absurd (omega (arith, n))
list-sole {X} {field} {Is} sole (x ∷ xs) (y ∷ ys) r s a b n e =
    let h = sole.same x y (list_field field xs ++ r) (list_field field ys ++ s) a.0 b.0 (sym (append_assoc (field x) (list_field field xs) r) ∙ e ∙ append_assoc (field y) (list_field field ys) s) in
    let k = list-sole sole xs ys r s a.1 b.1 (omega (arith, n)) h.1 in
    ((λ i. h.0 i ∷ k.0 i), k.1)

pub many-sole : {X : Type 0} {field : X → List ℕ} {Is : X → Type 0} → IsSole field Is → IsSole (many_field field) (IsCounted Is)
many-sole {X} {field} {Is} sole = record {
  same = λ xs ys r s a b e.
      let h = (number-sole w32 (2 ^ 32) wide32).same (length xs) (length ys) (list_field field xs ++ r) (list_field field ys ++ s) a.count b.count (sym (append_assoc (to_be_bytes w32 (length xs)) (list_field field xs) r) ∙ e ∙ append_assoc (to_be_bytes w32 (length ys)) (list_field field ys) s) in
      list-sole sole xs ys r s a.each b.each h.0 h.1;
}

key-sole : IsSole name_field IsKeyName
key-sole = record { same = λ x y r s a b e. short-sole.same x y r s tt tt e }

path-sole : IsSole path_field (λ p. is_relative p ≡ true)
path-sole = record {
  same = λ x y r s a b e.
      let h = long-sole.same (path_text x) (path_text y) r s (let l = relative_length x a in omega (arith, l)) (let l = relative_length y b in omega (arith, l)) e in
      (same_Some x y (sym (relative_again x a) ∙ ap read h.0 ∙ relative_again y b), h.1);
}
  where
    read : List ℕ → Option (List (List ℕ))
    read = read_relative

version-sole : IsSole version_field IsKeyVersion
version-sole =
    seen-sole version_field IsKeyVersion (λ (x : List ℕ × ℕ). record { key = x.0; number = x.1 }) (λ v. (v.key, v.number))
    (pair-sole key-sole (number-sole w16 (2 ^ 16) wide16)) (λ v. refl) (λ v is. (is.key, is.number)) (λ v. refl)

edek-sole : IsSole edek_field IsEdek
edek-sole =
    seen-sole edek_field IsEdek (λ (x : List ℕ × (ℕ × (List ℕ × List ℕ))). record { version = record { key = x.0; number = x.1.0 }; iv = x.1.1.0; sealed = x.1.1.1 })
    (λ e. (e.version.key, (e.version.number, (e.iv, e.sealed))))
    (pair-sole key-sole (pair-sole (number-sole w16 (2 ^ 16) wide16) (pair-sole iv-sole short-sole)))
    (λ e. refl) (λ e is. (is.key, (is.number, (is.iv, tt)))) (λ e. refl)

kind-sole : IsSole kind_field IsKind
kind-sole = record { same = go }
  where
    go : (x y : Kind) (r s : List ℕ) → IsKind x → IsKind y → kind_field x ++ r ≡ kind_field y ++ s → (x ≡ y) × (r ≡ s)
    go (Dir x) (Dir y) r s a b e = let h = (opt-sole key-sole).same x y r s a b (tail-eq e) in ((λ i. Dir (h.0 i)), h.1)
    go (Dir x) (File y) r s a b e = absurd (omega (arith, head-eq e))
    go (File x) (Dir y) r s a b e = absurd (omega (arith, head-eq e))
    go (File x) (File y) r s a b e = let h = (opt-sole edek-sole).same x y r s a b (tail-eq e) in ((λ i. File (h.0 i)), h.1)

row-sole : IsSole row_field IsEntry
row-sole =
    seen-sole row_field IsEntry (λ (x : List (List ℕ) × (ℕ × Kind)). record { path = x.0; row = record { id = x.1.0; kind = x.1.1 } }) (λ e. (e.path, (e.row.id, e.row.kind)))
    (pair-sole path-sole (pair-sole (number-sole w64 (2 ^ 64) wide64) kind-sole)) (λ e. refl) (λ e is. (is.path, (is.id, is.kind))) (λ e. refl)

truth-sole : IsSole truth_field (λ b. Unit {0})
truth-sole = record { same = go }
  where
    go : (x y : Bool) (r s : List ℕ) → Unit {0} → Unit {0} → truth_field x ++ r ≡ truth_field y ++ s → (x ≡ y) × (r ≡ s)
    go true true r s a b e = (refl, tail-eq e)
    go true false r s a b e = absurd (omega (arith, head-eq e))
    go false true r s a b e = absurd (omega (arith, head-eq e))
    go false false r s a b e = (refl, tail-eq e)

snapshot-sole : IsSole snapshot_field IsSpelledSnapshot
snapshot-sole =
    seen-sole snapshot_field IsSpelledSnapshot (λ (x : ℕ × (List ℕ × List Entry)). record { dir = x.0; name = x.1.0; rows = x.1.1 }) (λ s. (s.dir, (s.name, s.rows)))
    (pair-sole (number-sole w64 (2 ^ 64) wide64) (pair-sole long-sole (many-sole row-sole)))
    (λ s. refl) (λ s is. (is.dir, (let l = component_length s.name is.name in omega (arith, l), is.rows))) (λ s. refl)

abbrev StatusParts : Type 0
StatusParts = ℕ × (ℕ × (Version × (Bool × (Bool × (Option (List (List ℕ)) × (ℕ × ℕ))))))

status-sole : IsSole status_field IsSpelledStatus
status-sole =
    seen-sole status_field IsSpelledStatus
    (λ (x : StatusParts). record { zone = x.0; session = x.1.0; noted = x.1.1.0; completed = x.1.1.1.0; cancelled = x.1.1.1.1.0; reencrypted = x.1.1.1.1.1.1.0; failed = x.1.1.1.1.1.1.1; mark = x.1.1.1.1.1.0 })
    (λ s. (s.zone, (s.session, (s.noted, (s.completed, (s.cancelled, (s.mark, (s.reencrypted, s.failed))))))))
    (pair-sole id (pair-sole id (pair-sole version-sole (pair-sole truth-sole (pair-sole truth-sole (pair-sole (opt-sole path-sole) (pair-sole id id)))))))
    (λ s. refl) (λ s is. (is.zone, (is.session, (is.noted, (tt, (tt, (is.mark, (is.reencrypted, is.failed)))))))) (λ s. refl)
  where
    id : IsSole (to_be_bytes w64) (λ n. n < 2 ^ 64)
    id = number-sole w64 (2 ^ 64) wide64

-- the parts of an image, one after the other
abbrev pub ImageParts : Type 0
ImageParts = ℕ × (List Entry × (List ℕ × (List Snapshot × List StatusRow)))

abbrev pub parts_field : ImageParts → List ℕ
parts_field x = to_be_bytes w32 x.0 ++ (rows_field x.1.0 ++ (ids_field x.1.1.0 ++ (many_field snapshot_field x.1.1.1.0 ++ many_field status_field x.1.1.1.1)))

abbrev pub AreSpelled : ImageParts → Type 0
AreSpelled x = (x.0 < 2 ^ 32) × (IsCounted IsEntry x.1.0 × (IsCounted (λ id. id < 2 ^ 64) x.1.1.0 × (IsCounted IsSpelledSnapshot x.1.1.1.0 × IsCounted IsSpelledStatus x.1.1.1.1)))

pub parts-sole : IsSole parts_field AreSpelled
parts-sole =
    pair-sole (number-sole w32 (2 ^ 32) wide32) (pair-sole (many-sole row-sole) (pair-sole (many-sole (number-sole w64 (2 ^ 64) wide64)) (pair-sole (many-sole snapshot-sole) (many-sole status-sole))))
