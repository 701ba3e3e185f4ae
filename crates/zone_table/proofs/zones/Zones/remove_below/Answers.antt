use Rattle.std.proofs.Common.{arith, ◌≡◌, ◌+◌, ◌∙◌, ℕ, Bool, suc, List, Some, ap, sym}
use Rattle.zone_table.specs.declared.zones.ZoneRow.{ZoneRow}
use Rattle.zone_table.specs.Zones.{without_zone, zones_of}
use Rattle.zone_table.proofs.Kept.{kept-apart, kept-none, kept-start, kept-step, kept_rows}
use Rattle.zone_table.proofs.zones.Zones.remove_below.Goals as goal

next : (a : ℕ) → suc a ≡ a + 1
next a = omega arith

pub loop-at-init : goal.loop-at-init
loop-at-init c =
    let e = c.place-at.ensures in (
      c.requires ∙ ap zones_of (sym (kept-start c.args.path.now c.args.tree.now.rows) ∙ ap (λ (k : ℕ). kept_rows c.args.path.now k c.args.tree.now.rows) (sym c.place-at.ensures)),
      omega arith,
    )

pub loop-at-preserved : goal.loop-at-preserved
loop-at-preserved c =
    let b = c.loop-at.invariant.1 in (
      c.remove.ensures ∙ ap (λ (zones : List ZoneRow). without_zone zones c.row_at_place.result.id) c.loop-at.invariant.0
          ∙ kept-step c.args.tree.now.rows c.args.path.now c.loop-at.at c.row_at_place.result c.rows-rows.ensures.rules c.row_at_place.ensures (c.place_is_below.ensures ∙ ap (λ (t : Bool). Some t) c.if-place_is_below.true)
          ∙ ap (λ (k : ℕ). zones_of (kept_rows c.args.path.now k c.args.tree.now.rows)) (next c.loop-at.at),
      omega arith,
    )

pub returns-else-place_is_below : goal.returns-else-place_is_below
returns-else-place_is_below c =
    c.loop-at.invariant.0
    ∙ kept-apart c.args.tree.now.rows c.args.path.now c.loop-at.at c.place_is_below.result c.rows-rows.ensures.rules c.loop-at.invariant.1 c.place_is_below.ensures c.if-place_is_below.false

pub returns-after-loop-at : goal.returns-after-loop-at
returns-after-loop-at c =
    let e = c.rows-rows.ensures.count in
    let b = c.loop-at-test.false in
    c.loop-at.invariant.0 ∙ kept-none c.args.tree.now.rows c.args.path.now c.loop-at.at c.rows-rows.ensures.rules (omega arith)
