-- After an operation of the edit log each file lies in the zone that it lay in before, or the operation used its id.
use Rattle.std.proofs.Common.{◌≡◌, ◌⊎◌, inl, inr, ℕ, true, false, List, [], ◌∷◌, Option, Some, is_some, refl, sym, ap, subst, ◌∙◌}
use Rattle.std.specs.Option.{option_map}
use Rattle.hk_base.specs.declared.names.KeyName.{KeyName}
use Rattle.inode_tree.specs.declared.rows.Kind.{Kind}
use Rattle.inode_tree.specs.declared.rows.Kind.TheVariants.{Dir}
use Rattle.inode_tree.specs.Rows.{Entry, is_dir, is_marked, put, removed, set_kind, zone_id}
use Rattle.inode_tree.specs.ZoneFiles.{edek_of}
use Rattle.inode_tree.specs.Moves.{renamed}
use Rattle.edit_ops.specs.declared.files.FileKey.{FileKey}
use Rattle.edit_ops.specs.declared.ops.EditOp.{EditOp}
use Rattle.edit_ops.specs.declared.ops.EditOp.TheVariants.{Opened, Mkdir, File, Remove, Rename, Zone, Allow, Disallow, Snap, Unsnap, Submit, Update, Cancel, Complete}
use Rattle.name_store.specs.Causes.{id_at}
use Rattle.name_store.specs.Table.{NameTable, after_table, allows, new_directory, new_file, uses, with_edeks}
use Rattle.name_store.proofs.CauseLemmas.{allowed, renamable}
use Rattle.world_run.specs.Promise.{In}
use Rattle.world_run.proofs.CoveredRows.{zone-moved}
use Rattle.world_run.proofs.EdekRows.{AllReplace, all-replace, are-files}
use Rattle.world_run.proofs.RekeyedFiles.{AreKeyed, was-row}
use Rattle.world_run.proofs.RenameLemmas.{in-renamed}
use Rattle.world_run.proofs.RowLemmas.{InPlace, Markable, beside, dir-row, in-mark, in-put, in-removed, zone-beside, zone-put, zone-removed}
use Rattle.world_run.proofs.RowsAfter.{to-be-marked}

-- it was there, as a file in the same zone or in none
pub record KeptZone (olds news : List Entry) (x : Entry) : Type 0 where
  pub old : Entry
  pub member : In old olds
  pub id : x.row.id ≡ old.row.id
  pub file : is_dir old.row.kind ≡ false
  pub zone : zone_id news x.path ≡ zone_id olds old.path

abbrev id-of : Option Entry → Option ℕ
id-of o = option_map (λ (e : Entry). e.row.id) o

stays : (rows : List Entry) (x : Entry) → In x rows → is_dir x.row.kind ≡ false → KeptZone rows rows x
stays rows x i file = record { old = x; member = i; id = refl; file = file; zone = refl }

put-zone : (rows : List Entry) (e : Entry) (id : ℕ) → is_marked e.row ≡ false → e.row.id ≡ id → (x : Entry) → In x (put e rows) → is_dir x.row.kind ≡ false → In x.row.id (id ∷ []) ⊎ KeptZone rows (put e rows) x
put-zone rows e id plain its x i file = elim (in-put x e rows i) [
  | inl new ↦ inl (inl (ap (λ (y : Entry). y.row.id) new ∙ its))
  | inr old ↦ inr (record { old = x; member = old; id = refl; file = file; zone = ap id-of (zone-put e rows x.path plain) })
]

removed-zone : (rows : List Entry) (p : List (List ℕ)) (x : Entry) → In x (removed p rows) → is_dir x.row.kind ≡ false → KeptZone rows (removed p rows) x
removed-zone rows p x i file =
    let was = in-removed p x rows i in
    record { old = x; member = was.0; id = refl; file = file; zone = ap id-of (zone-removed p x.path rows was.1) }

-- no file lies in a directory that becomes a zone
marked-zone : (rows : List Entry) (p : List (List ℕ)) (key : KeyName) (dir : ℕ) → InPlace rows → Markable rows p dir → (x : Entry) → In x (set_kind rows dir (Dir (Some key))) → is_dir x.row.kind ≡ false
    → KeptZone rows (set_kind rows dir (Dir (Some key))) x
marked-zone rows p key dir good m x i file = elim (in-mark dir key rows x i) [
  | inl marked ↦ let no : true ≡ false = ap is_dir (sym marked) ∙ file in absurd cc
  | inr old ↦ record { old = x; member = old; id = refl; file = file; zone = ap id-of (zone-beside dir key rows p x.path (beside rows p dir good m x old file) (dir-row rows p dir good m)) }
]

keyed : (rows : List Entry) (files : List FileKey) → InPlace rows → AllReplace rows files → AreKeyed rows files
keyed rows files good all f x i j same = let was = are-files rows f good (all f i) x j same in ap (λ (k : Kind). is_some (edek_of k)) was.1

pub rekeyed-zone : (rows : List Entry) (files : List FileKey) → AreKeyed rows files → (x : Entry) → In x (with_edeks files rows) → is_dir x.row.kind ≡ false → KeptZone rows (with_edeks files rows) x
rekeyed-zone rows files are x i file =
    let was = was-row rows files are x i in
    record { old = was.old; member = was.member; id = was.id; file = sym was.dir ∙ file; zone = ap id-of was.zone }

pub zone-after : (t : NameTable) (op : EditOp) → InPlace t.rows → allows t op ≡ true → (x : Entry) → In x (after_table t op).rows → is_dir x.row.kind ≡ false
    → In x.row.id (uses op) ⊎ KeptZone t.rows (after_table t op).rows x
zone-after t (Opened opening) good may x i file = inr (stays t.rows x i file)
zone-after t (Mkdir id p) good may x i file = put-zone t.rows (new_directory id p) id refl refl x i file
zone-after t (File id p edek) good may x i file = put-zone t.rows (new_file id p edek) id refl refl x i file
zone-after t (Remove p) good may x i file = inr (removed-zone t.rows p x i file)
zone-after t (Rename p q) good may x i file =
    let r = renamable t.rows t.snaps t.statuses p q (allowed t (Rename p q) refl may).free in
    let y = in-renamed x p q t.rows i in
    inr (subst (KeptZone t.rows (renamed p q t.rows)) (sym y.2)
    (record { old = y.0; member = y.1; id = refl; file = ap (λ (e : Entry). is_dir e.row.kind) (sym y.2) ∙ file; zone = zone-moved t.rows p q good r.can r.zone y.0 y.1 }))
zone-after t (Zone p key) good may x i file = inr (marked-zone t.rows p key (id_at t.rows p) good (to-be-marked t.rows p (allowed t (Zone p key) refl may).free) x i file)
zone-after t (Allow p) good may x i file = inr (stays t.rows x i file)
zone-after t (Disallow p) good may x i file = inr (stays t.rows x i file)
zone-after t (Snap p name) good may x i file = inr (stays t.rows x i file)
zone-after t (Unsnap p name) good may x i file = inr (stays t.rows x i file)
zone-after t (Submit session p noted) good may x i file = inr (stays t.rows x i file)
zone-after t (Update session failed mark files) good may x i file =
    inr (rekeyed-zone t.rows files (keyed t.rows files good (all-replace t session files (allowed t (Update session failed mark files) refl may).fits)) x i file)
zone-after t (Cancel session) good may x i file = inr (stays t.rows x i file)
zone-after t (Complete session) good may x i file = inr (stays t.rows x i file)
