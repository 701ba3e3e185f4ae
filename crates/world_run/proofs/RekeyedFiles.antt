-- What the rows were before files got other encrypted keys, and which files are re-encrypted then.
use Rattle.std.proofs.Common.{◌≡◌, ◌⊎◌, inl, inr, ◌≤◌, ℕ, Bool, true, false, cond, ◌&&◌, List, [], ◌∷◌, length, drop, Option, Some, None, is_some, refl, sym, ap, ◌∙◌, subst, arith}
use Rattle.std.specs.Prelude.{◌==◌}
use Rattle.std.specs.Option.{option_map, option_map_or}
use Rattle.std.proofs.lemmas.Bool.Decides.{nat_tests}
use Rattle.std.proofs.lemmas.Bool.{eqb-true}
use Rattle.hk_base.specs.declared.names.Edek.{Edek}
use Rattle.edit_ops.specs.declared.files.FileKey.{FileKey}
use Rattle.inode_tree.specs.declared.rows.Kind.{Kind}
use Rattle.inode_tree.specs.declared.rows.Kind.TheVariants.{Dir, File}
use Rattle.inode_tree.specs.Rows.{Entry, entry_of, is_dir, same_id, set_kind, with_kind, zone_of}
use Rattle.inode_tree.specs.ZoneFiles.{edek_of, is_file_of, path_in, zone_path}
use Rattle.zone_table.specs.declared.statuses.StatusRow.{StatusRow}
use Rattle.name_store.specs.Table.{with_edeks}
use Rattle.name_core.proofs.EdekRows.{AllFiles, AreFiles, IsFileAt, zone-edeks}
use Rattle.world_run.specs.Promise.{In, IsReencrypted}
use Rattle.world_run.proofs.EdekRows.{dir-rekeyed, entry-rekeyed, file_row, id-rekeyed, path-rekeyed, rekeyed-in-place, which-file}
use Rattle.world_run.proofs.Members.{in-each, in-map}
use Rattle.world_run.proofs.RowLemmas.{InPlace}

-- a row after these files got their keys
abbrev pub rekeyed : List FileKey → Entry → Entry
rekeyed [] x = x
rekeyed (f ∷ fs) x = rekeyed fs (with_kind f.id (File (Some f.edek)) x)

-- each row afterwards is one of them
pub in-edeks : (fs : List FileKey) (rows : List Entry) (x : Entry) → In x (with_edeks fs rows) → (y : Entry) × In y rows × (x ≡ rekeyed fs y)
in-edeks [] rows x i = (x, i, refl)
in-edeks (f ∷ fs) rows x i =
    let y = in-edeks fs (set_kind rows f.id (File (Some f.edek))) x i in
    let z = in-map (with_kind f.id (File (Some f.edek))) y.0 rows y.1 in (z.0, z.1, y.2 ∙ ap (rekeyed fs) z.2)

path-stays : (fs : List FileKey) (x : Entry) → (rekeyed fs x).path ≡ x.path
path-stays [] x = refl
path-stays (f ∷ fs) x = path-stays fs (with_kind f.id (File (Some f.edek)) x) ∙ path-rekeyed f.id f.edek x

pub id-stays : (fs : List FileKey) (x : Entry) → (rekeyed fs x).row.id ≡ x.row.id
id-stays [] x = refl
id-stays (f ∷ fs) x = id-stays fs (with_kind f.id (File (Some f.edek)) x) ∙ id-rekeyed f.id f.edek x

-- a row with the id gets the key
at-file : (f : FileKey) (x : Entry) → x.row.id ≡ f.id → with_kind f.id (File (Some f.edek)) x ≡ record x { row = file_row f.id f.edek }
at-file f x same = ap (λ (b : Bool). cond b (record x { row = file_row f.id f.edek }) x) (equal x.row.id f.id same)
  where
    equal : (a b : ℕ) → a ≡ b → (a == b) ≡ true
    equal a b h = grind (arith, nat_tests, h)

-- a row that is none of the files stays
pub untouched : (fs : List FileKey) (x : Entry) → ((f : FileKey) → In f fs → x.row.id ≡ f.id → ⊥) → rekeyed fs x ≡ x
untouched [] x none = refl
untouched (f ∷ fs) x none = elim (which-file f.id f.edek x) [
  | inl w ↦ absurd (none f (inl refl) w.0)
  | inr same ↦ ap (rekeyed fs) same ∙ untouched fs x (λ g i. none g (inr i))
]

not-dir : (k : Kind) → is_some (edek_of k) ≡ true → is_dir k ≡ false
not-dir (Dir key) h = absurd cc
not-dir (File edek) h = refl

-- a file stays a file, and a directory stays a directory
dirs-stay : (fs : List FileKey) (x : Entry) → ((f : FileKey) → In f fs → x.row.id ≡ f.id → is_dir x.row.kind ≡ false) → is_dir (rekeyed fs x).row.kind ≡ is_dir x.row.kind
dirs-stay [] x file = refl
dirs-stay (f ∷ fs) x file =
    let same = dir-rekeyed f.id f.edek x (file f (inl refl)) in
    dirs-stay fs (with_kind f.id (File (Some f.edek)) x) (λ g i at. same ∙ file g (inr i) (sym (id-rekeyed f.id f.edek x) ∙ at)) ∙ same

-- a file with an encrypted key has one afterwards, and no other row does
keyed-stays : (fs : List FileKey) (x : Entry) → ((f : FileKey) → In f fs → x.row.id ≡ f.id → is_some (edek_of x.row.kind) ≡ true) → is_some (edek_of (rekeyed fs x).row.kind) ≡ is_some (edek_of x.row.kind)
keyed-stays [] x file = refl
keyed-stays (f ∷ fs) x file = elim (which-file f.id f.edek x) [
  | inl w ↦
      (let now : is_some (edek_of (with_kind f.id (File (Some f.edek)) x).row.kind) ≡ true = ap (λ (y : Entry). is_some (edek_of y.row.kind)) w.1 in
      keyed-stays fs (with_kind f.id (File (Some f.edek)) x) (λ g i same. now) ∙ now ∙ sym (file f (inl refl) w.0))
  | inr same ↦ ap (λ (y : Entry). is_some (edek_of (rekeyed fs y).row.kind)) same ∙ keyed-stays fs x (λ g i. file g (inr i))
]

-- rows

place-stays : (fs : List FileKey) (rows : List Entry) (zone : ℕ) → zone_path (with_edeks fs rows) zone ≡ zone_path rows zone
place-stays [] rows zone = refl
place-stays (f ∷ fs) rows zone =
    place-stays fs (set_kind rows f.id (File (Some f.edek))) zone
    ∙ ap (λ (o : Option Entry). option_map_or (λ (e : Entry). e.path) o []) (entry-rekeyed f.id f.edek rows zone) ∙ go (entry_of rows zone)
  where
    go : (o : Option Entry) → option_map_or (λ (e : Entry). e.path) (option_map (with_kind f.id (File (Some f.edek))) o) [] ≡ option_map_or (λ (e : Entry). e.path) o []
    go None = refl
    go (Some e) = path-rekeyed f.id f.edek e

-- each row with the id of one of these has an encrypted key
abbrev pub AreKeyed : List Entry → List FileKey → Type 0
AreKeyed rows files = (f : FileKey) (x : Entry) → In f files → In x rows → x.row.id ≡ f.id → is_some (edek_of x.row.kind) ≡ true

pub all-files : (rows : List Entry) (files : List FileKey) → AreKeyed rows files → AllFiles files rows
all-files rows files keyed =
    in-each (λ (f : FileKey). AreFiles f.id rows) files (λ f i. in-each (IsFileAt f.id) rows (λ x j same. not-dir x.row.kind (keyed f x i j (eqb-true x.row.id f.id same))))

still-keyed : (rows : List Entry) (f : FileKey) (fs : List FileKey) → AreKeyed rows (f ∷ fs) → AreKeyed (set_kind rows f.id (File (Some f.edek))) fs
still-keyed rows f fs keyed g x i j same =
    let y = in-map (with_kind f.id (File (Some f.edek))) x rows j in
    elim (which-file f.id f.edek y.0) [
      | inl w ↦ ap (λ (z : Entry). is_some (edek_of z.row.kind)) (y.2 ∙ w.1)
      | inr stays ↦
          (let is : x ≡ y.0 = y.2 ∙ stays in
          ap (λ (z : Entry). is_some (edek_of z.row.kind)) is ∙ keyed g y.0 (inr i) y.1 (ap (λ (z : Entry). z.row.id) (sym is) ∙ same))
    ]

-- rows stay in order and in their directories
pub keyed-in-place : (files : List FileKey) (rows : List Entry) → AreKeyed rows files → InPlace rows → InPlace (with_edeks files rows)
keyed-in-place [] rows keyed good = good
keyed-in-place (f ∷ fs) rows keyed good =
    keyed-in-place fs (set_kind rows f.id (File (Some f.edek))) (still-keyed rows f fs keyed)
    (rekeyed-in-place f.id f.edek rows (λ x i same. not-dir x.row.kind (keyed f x (inl refl) i same)) good)

-- what a row was before: it has the same id, is a file of the same zones, and is at the same place in each
pub record WasRow (rows : List Entry) (files : List FileKey) (x : Entry) : Type 0 where
  pub old : Entry
  pub member : In old rows
  pub is : x ≡ rekeyed files old
  pub id : x.row.id ≡ old.row.id
  pub dir : is_dir x.row.kind ≡ is_dir old.row.kind
  pub zone : zone_of (with_edeks files rows) x.path ≡ zone_of rows old.path
  pub file : (zone : ℕ) → is_file_of (with_edeks files rows) zone x ≡ is_file_of rows zone old
  pub place : (zone : ℕ) → path_in (with_edeks files rows) zone x.path ≡ path_in rows zone old.path

pub was-row : (rows : List Entry) (files : List FileKey) → AreKeyed rows files → (x : Entry) → In x (with_edeks files rows) → WasRow rows files x
was-row rows files keyed x i =
    let y = in-edeks files rows x i in
    let path : x.path ≡ y.0.path = ap (λ (z : Entry). z.path) y.2 ∙ path-stays files y.0 in
    let has : is_some (edek_of x.row.kind) ≡ is_some (edek_of y.0.row.kind) = ap (λ (z : Entry). is_some (edek_of z.row.kind)) y.2 ∙ keyed-stays files y.0 (λ f j same. keyed f y.0 j y.1 same) in
    let zone : zone_of (with_edeks files rows) x.path ≡ zone_of rows y.0.path = zone-edeks files rows x.path (all-files rows files keyed) ∙ ap (zone_of rows) path in
    record {
      old = y.0;
      member = y.1;
      is = y.2;
      id = ap (λ (z : Entry). z.row.id) y.2 ∙ id-stays files y.0;
      dir = ap (λ (z : Entry). is_dir z.row.kind) y.2 ∙ dirs-stay files y.0 (λ f j same. not-dir y.0.row.kind (keyed f y.0 j y.1 same));
      zone = zone;
      file = λ n. (λ k. has k && same_id (option_map (λ (e : Entry). e.row.id) (zone k)) (Some n));
      place = λ n. (λ k. drop (length (place-stays files rows n k)) (path k));
    }

-- a re-encryption

-- the encrypted key is of the noted key, and on a version not below the noted one
abbrev pub IsNoted : StatusRow → Edek → Type 0
IsNoted s e = (e.version.key ≡ s.noted.key) × (s.noted.number ≤ e.version.number)

abbrev pub AllNoted : StatusRow → List FileKey → Type 0
AllNoted s files = (f : FileKey) → In f files → IsNoted s f.edek

done-by : (s : StatusRow) (f : FileKey) (x : Entry) → IsNoted s f.edek → IsReencrypted s (record x { row = file_row f.id f.edek })
done-by s f x noted = (f.edek, refl, noted.0, noted.1)

pub still-done : (s : StatusRow) (fs : List FileKey) (x : Entry) → AllNoted s fs → IsReencrypted s x → IsReencrypted s (rekeyed fs x)
still-done s [] x noted done = done
still-done s (f ∷ fs) x noted done = still-done s fs (with_kind f.id (File (Some f.edek)) x) (λ g i. noted g (inr i)) (elim (which-file f.id f.edek x) [
  | inl w ↦ subst (IsReencrypted s) (sym w.1) (done-by s f x (noted f (inl refl)))
  | inr same ↦ subst (IsReencrypted s) (sym same) done
])

-- each of these files is re-encrypted
pub done-now : (s : StatusRow) (fs : List FileKey) (x : Entry) (f : FileKey) → AllNoted s fs → In f fs → x.row.id ≡ f.id → IsReencrypted s (rekeyed fs x)
done-now s [] x f noted i same = absurd i
done-now s (g ∷ fs) x f noted (inl is) same =
    still-done s fs (with_kind g.id (File (Some g.edek)) x) (λ h j. noted h (inr j))
    (subst (IsReencrypted s) (sym (at-file g x (same ∙ ap (λ (h : FileKey). h.id) is))) (done-by s g x (noted g (inl refl))))
done-now s (g ∷ fs) x f noted (inr i) same = done-now s fs (with_kind g.id (File (Some g.edek)) x) f (λ h j. noted h (inr j)) i (id-rekeyed g.id g.edek x ∙ same)

-- a row stays, or is re-encrypted
pub same-or-done : (s : StatusRow) (fs : List FileKey) (x : Entry) → AllNoted s fs → (rekeyed fs x ≡ x) ⊎ IsReencrypted s (rekeyed fs x)
same-or-done s [] x noted = inl refl
same-or-done s (f ∷ fs) x noted = elim (which-file f.id f.edek x) [
  | inl w ↦ inr (still-done s fs (with_kind f.id (File (Some f.edek)) x) (λ g i. noted g (inr i)) (subst (IsReencrypted s) (sym w.1) (done-by s f x (noted f (inl refl)))))
  | inr same ↦ elim (same-or-done s fs x (λ g i. noted g (inr i))) [
    | inl stays ↦ inl (ap (rekeyed fs) same ∙ stays)
    | inr done ↦ inr (subst (λ (y : Entry). IsReencrypted s (rekeyed fs y)) (sym same) done)
  ]
]
