-- A file lies in the same zone whether the pending operation of the namesystem was kept or dropped.
use Rattle.std.proofs.Common.{◌≡◌, inl, inr, ℕ, Bool, true, false, ◌&&◌, List, [], ◌∷◌, Option, Some, None, is_some, refl, sym, ap, ◌∙◌}
use Rattle.std.specs.Prelude.{IfSome}
use Rattle.std.specs.Option.{option_map}
use Rattle.inode_tree.specs.Rows.{Entry, entry_of, is_marked, put, removed, same_id, zone_of}
use Rattle.inode_tree.specs.ZoneFiles.{edek_of, is_file_of}
use Rattle.edit_ops.specs.declared.files.FileKey.{FileKey}
use Rattle.edit_ops.specs.declared.ops.EditOp.{EditOp}
use Rattle.edit_ops.specs.declared.ops.EditOp.TheVariants.{Opened, Mkdir, File, Remove, Rename, Zone, Allow, Disallow, Snap, Unsnap, Submit, Update, Cancel, Complete}
use Rattle.zone_table.specs.declared.statuses.StatusRow.{StatusRow}
use Rattle.name_store.specs.Causes.{id_at}
use Rattle.name_store.specs.Store.{is_opening}
use Rattle.name_store.specs.Table.{NameTable, after_table, allows, new_directory, new_file, settled_table, with_edeks}
use Rattle.name_store.proofs.CauseLemmas.{allowed, id-may-be-used, renamable}
use Rattle.name_core.specs.State.{IsNames, IsWaiting, NameService, settled}
use Rattle.inode_tree.specs.Moves.{renamed}
use Rattle.world_run.specs.Ledger.{Draw}
use Rattle.world_run.specs.Promise.{In}
use Rattle.world_run.proofs.CoveredRows.{KeepsFiles, marked-keeps, zone-moved}
use Rattle.world_run.proofs.EdekRows.{all-replace, are-files}
use Rattle.world_run.proofs.RekeyedFiles.{AreKeyed, was-row}
use Rattle.world_run.proofs.RenameLemmas.{in-renamed}
use Rattle.world_run.proofs.RowLemmas.{InPlace, in-place, in-put, in-removed, one-of-id, zone-put, zone-removed}
use Rattle.world_run.proofs.RowsAfter.{not-both, rows-after, to-be-marked}

-- a status of the zone that has ended
abbrev ended_of : ℕ → StatusRow
ended_of zone = record { zone = zone; session = 0; noted = record { key = []; number = 0 }; completed = true; cancelled = false; reencrypted = 0; failed = 0; mark = None }

-- the same file before an operation and after it
abbrev pub SameZones : List Entry → List Entry → Type 0
SameZones olds news = (zone : ℕ) (x y : Entry) → In x olds → In y news → x.row.id ≡ y.row.id → is_file_of news zone y ≡ is_file_of olds zone x

module _ (rows : List Entry) (good : InPlace rows) where
  -- the rows are the same
  unchanged : SameZones rows rows
  unchanged zone x y i j same = ap (is_file_of rows zone) (one-of-id rows good y x j i (sym same))

  -- the zones of all paths are the same
  zones-same : (news : List Entry) (x : Entry) (zone : ℕ) → zone_of news x.path ≡ zone_of rows x.path → is_file_of news zone x ≡ is_file_of rows zone x
  zones-same news x zone is = ap (λ (o : Option Entry). is_some (edek_of x.row.kind) && same_id (option_map (λ (e : Entry). e.row.id) o) (Some zone)) is

  put-same : (e : Entry) → is_marked e.row ≡ false → entry_of rows e.row.id ≡ None → SameZones rows (put e rows)
  put-same e plain fresh zone x y i j same = elim (in-put y e rows j) [
    | inl new ↦ absurd (not-both (entry_of rows e.row.id) x fresh (ap (entry_of rows) (sym (same ∙ ap (λ (z : Entry). z.row.id) new)) ∙ good.once x i))
    | inr old ↦ zones-same (put e rows) y zone (zone-put e rows y.path plain) ∙ unchanged zone x y i old same
  ]

  removed-same : (p : List (List ℕ)) → SameZones rows (removed p rows)
  removed-same p zone x y i j same =
      let was = in-removed p y rows j in
      zones-same (removed p rows) y zone (zone-removed p y.path rows was.1) ∙ unchanged zone x y i was.0 same

  keyed-same : (files : List FileKey) → AreKeyed rows files → SameZones rows (with_edeks files rows)
  keyed-same files keyed zone x y i j same = let was = was-row rows files keyed y j in was.file zone ∙ unchanged zone x was.old i was.member (same ∙ was.id)

  -- by what is true of the files that have draws
  kept-same : (d : Draw) (news : List Entry) → ((y : Entry) (zone : ℕ) → KeepsFiles ((y.row.id, d) ∷ []) rows news (ended_of zone ∷ [])) → SameZones rows news
  kept-same d news keeps zone x y i j same = let was = keeps y zone y d j (inl refl) in was.file (ended_of zone) (inl refl) ∙ unchanged zone x was.old i was.member (same ∙ was.id)

-- an operation that the table allows
module _ (t : NameTable) (good : InPlace t.rows) (d : Draw) where
  after-same : (q : EditOp) → is_opening q ≡ false → allows t q ≡ true → SameZones t.rows (after_table t q).rows
  after-same (Opened opening) safe may = absurd cc
  after-same (Mkdir id p) safe may = put-same t.rows good (new_directory id p) refl (id-may-be-used t id (allowed t (Mkdir id p) refl may).ids).free
  after-same (File id p edek) safe may = put-same t.rows good (new_file id p edek) refl (id-may-be-used t id (allowed t (File id p edek) refl may).ids).free
  after-same (Remove p) safe may = removed-same t.rows good p
  after-same (Rename p q) safe may = λ zone x y i j same.
      let r = renamable t.rows t.snaps t.statuses p q (allowed t (Rename p q) refl may).free in
      let was = in-renamed y p q t.rows j in
      ap (is_file_of (renamed p q t.rows) zone) was.2
      ∙ ap (λ (o : Option ℕ). is_some (edek_of was.0.row.kind) && same_id o (Some zone)) (zone-moved t.rows p q good r.can r.zone was.0 was.1)
      ∙ unchanged t.rows good zone x was.0 i was.1 (same ∙ ap (λ (z : Entry). z.row.id) was.2)
  after-same (Zone p key) safe may =
      kept-same t.rows good d (after_table t (Zone p key)).rows
      (λ y zone. marked-keeps t.rows p (id_at t.rows p) key good (to-be-marked t.rows p (allowed t (Zone p key) refl may).free) ((y.row.id, d) ∷ []) (ended_of zone ∷ []))
  after-same (Allow p) safe may = unchanged t.rows good
  after-same (Disallow p) safe may = unchanged t.rows good
  after-same (Snap p name) safe may = unchanged t.rows good
  after-same (Unsnap p name) safe may = unchanged t.rows good
  after-same (Submit session p noted) safe may = unchanged t.rows good
  after-same (Update session failed mark files) safe may =
      keyed-same t.rows good files (λ f x i j same.
      let all = all-replace t session files (allowed t (Update session failed mark files) refl may).fits in
      ap (λ k. is_some (edek_of k)) (are-files t.rows f good (all f i) x j same).1)
  after-same (Cancel session) safe may = unchanged t.rows good
  after-same (Complete session) safe may = unchanged t.rows good

turned : (olds news : List Entry) → SameZones olds news → SameZones news olds
turned olds news alike zone x y i j same = sym (alike zone y x j i (sym same))

-- the tables with the pending operation and without it
pub settled-same : (s : NameService) (d : Draw) (k j : Bool) → IsNames s → SameZones (settled k s).table.rows (settled j s).table.rows
settled-same s d k j fit = go s.pending fit.waits k j
  where
    good : InPlace s.names.table.rows
    good = in-place s.names.table.rows fit.table.rules

    go : (o : Option EditOp) → IfSome o (IsWaiting s.names) → (a b : Bool) → SameZones (settled_table a o s.names.table).rows (settled_table b o s.names.table).rows
    go None waits a b = unchanged s.names.table.rows good
    go (Some q) waits false false = unchanged s.names.table.rows good
    go (Some q) waits false true = after-same s.names.table good d q waits.pending.no_opening waits.pending.allowed
    go (Some q) waits true false = turned s.names.table.rows (after_table s.names.table q).rows (after-same s.names.table good d q waits.pending.no_opening waits.pending.allowed)
    go (Some q) waits true true = unchanged (after_table s.names.table q).rows (rows-after s.names.table q good waits.pending.allowed)
