-- The zones are the same after rows have moved.
use Rattle.std.proofs.Common.{◌≡◌, ℕ, Bool, true, false, cond, List, [], ◌∷◌, map, Option, Some, None, refl, ap, ◌∙◌}
use Rattle.std.specs.Prelude.{◌==◌}
use Rattle.std.proofs.lemmas.List.Elements.{recursion_from_All}
use Rattle.hk_base.specs.declared.names.KeyName.{KeyName}
use Rattle.name_calls.specs.Paths.{is_before}
use Rattle.inode_tree.specs.Moves.{in_order, moved}
use Rattle.inode_tree.specs.Rows.{Entry, entry_of, mark_of, put}
use Rattle.inode_tree.proofs.MovedLaws.{HasIds, entry-order, has-ids, ids-moved, none-parts}
use Rattle.zone_table.specs.declared.zones.ZoneRow.{ZoneRow}
use Rattle.zone_table.specs.Laws.{MovingChangesNothing}
use Rattle.zone_table.specs.Zones.{with_mark, zones_of}
use Rattle.zone_table.proofs.Marks.{mark-put}

-- the zones of two rows can be added in either order
mark-swap : (m n : Option KeyName) (a b : ℕ) (zs : List ZoneRow) → (a == b) ≡ false → with_mark m a (with_mark n b zs) ≡ with_mark n b (with_mark m a zs)
mark-swap m None a b zs d = refl
mark-swap m (Some key) a b zs d = mark-put m a (record { dir = b; key = key }) zs d

zones-put : (e : Entry) (es : List Entry) → entry_of es e.row.id ≡ None → zones_of (put e es) ≡ zones_of (e ∷ es)
zones-put e [] h = refl
zones-put e (x ∷ es) h = go (is_before e.path x.path) (zones-put e es (none-parts x es e.row.id h).1)
  where
    go : (t : Bool) → zones_of (put e es) ≡ zones_of (e ∷ es) → zones_of (cond t (e ∷ x ∷ es) (x ∷ put e es)) ≡ zones_of (e ∷ x ∷ es)
    go true ih = refl
    go false ih = ap (with_mark (mark_of x.row.kind) x.row.id) ih ∙ mark-swap (mark_of x.row.kind) (mark_of e.row.kind) x.row.id e.row.id (zones_of es) (none-parts x es e.row.id h).0

zones-order : (es : List Entry) → HasIds es → zones_of (in_order es) ≡ zones_of es
zones-order [] a = refl
zones-order (e ∷ es) a = zones-put e (in_order es) (entry-order es e.row.id a.1 ∙ a.0) ∙ ap (with_mark (mark_of e.row.kind) e.row.id) (zones-order es a.1)

zones-moved : (p q : List (List ℕ)) (es : List Entry) → zones_of (map (moved p q) es) ≡ zones_of es
zones-moved p q [] = refl
zones-moved p q (e ∷ es) = ap (with_mark (mark_of e.row.kind) e.row.id) (zones-moved p q es)

pub moving-changes-nothing : MovingChangesNothing
moving-changes-nothing rows p q is =
    zones-order (map (moved p q) rows) (ids-moved p q rows (has-ids rows is.rising (recursion_from_All (λ (e : Entry). entry_of rows e.row.id ≡ Some e) rows is.once)))
    ∙ zones-moved p q rows
