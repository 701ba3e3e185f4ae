-- The laws of renames: what has moved is whole, lies in its zone, and has its snapshots.
use Rattle.std.proofs.Common.{◌≡◌, ℕ, List, ◌++◌, Option, refl, ap, ◌∙◌}
use Rattle.std.specs.Option.{option_map}
use Rattle.inode_tree.specs.Moves.{renamed}
use Rattle.inode_tree.specs.Rows.{Entry, entry_of, row_at, zone_id}
use Rattle.inode_tree.proofs.MovedLaws.{entry-renamed, row-renamed}
use Rattle.inode_tree.proofs.MovedZones.{zone-elsewhere, zone-kept}
use Rattle.edit_ops.specs.declared.ops.EditOp.TheVariants as op
use Rattle.name_calls.specs.declared.calls.NameCall.TheVariants as call
use Rattle.name_calls.specs.declared.calls.NameReply.TheVariants as reply
use Rattle.name_store.proofs.CauseLemmas.{IsRenamable, renamable}
use Rattle.name_core.specs.State.{NameState}
use Rattle.name_core.specs.Calls.{NameActs}
use Rattle.name_core.specs.Laws.{OthersKeepZone, RenamedHasMoved, RenamedKeepsRows, RenamedKeepsSnapshots, RenamedKeepsZone}
use Rattle.name_core.proofs.SnapshotLaws.{DoneBy, done-by}

module _ (s : NameState) (p q : List (List ℕ)) (s' : NameState) (did : NameActs s (call.Rename p q) reply.Done s') where
  done : DoneBy s (call.Rename p q) (op.Rename p q) s'
  done = done-by s (call.Rename p q) (op.Rename p q) s' refl did

  may : IsRenamable s.table.rows s.table.snaps p q
  may = renamable s.table.rows s.table.snaps s.table.statuses p q done.free

  rows : s'.table.rows ≡ renamed p q s.table.rows
  rows = ap (λ (x : NameState). x.table.rows) done.left

pub renamed_has_moved : RenamedHasMoved
renamed_has_moved s p q s' r good did = ap (λ (es : List Entry). row_at es r) (rows s p q s' did) ∙ row-renamed s.table.rows p q good (may s p q s' did).can r

pub renamed_keeps_rows : RenamedKeepsRows
renamed_keeps_rows s p q s' id good did = ap (λ (es : List Entry). entry_of es id) (rows s p q s' did) ∙ entry-renamed s.table.rows p q good (may s p q s' did).can id

pub renamed_keeps_zone : RenamedKeepsZone
renamed_keeps_zone s p q s' below good did =
    ap (λ (es : List Entry). zone_id es (q ++ below)) (rows s p q s' did) ∙ zone-kept s.table.rows p q good (may s p q s' did).can (may s p q s' did).zone below

pub others_keep_zone : OthersKeepZone
others_keep_zone s p q s' r good did out off =
    ap (λ (es : List Entry). zone_id es r) (rows s p q s' did)
    ∙ ap (λ (o : Option Entry). option_map (λ (e : Entry). e.row.id) o) (zone-elsewhere s.table.rows p q good (may s p q s' did).can r out off)

pub renamed_keeps_snapshots : RenamedKeepsSnapshots
renamed_keeps_snapshots s p q s' did = ap (λ (x : NameState). x.table.snaps) (done s p q s' did).left
