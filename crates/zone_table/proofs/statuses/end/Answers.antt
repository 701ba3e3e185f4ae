use Rattle.std.proofs.Common.{◌≡◌, ◌<◌, ◌+◌, ◌∙◌, ℕ, suc, List, length, set, get_or, ap, subst, arith}
use Rattle.std.proofs.lemmas.List.{take_at}
use Rattle.zone_table.specs.declared.statuses.StatusRow.{StatusRow}
use Rattle.zone_table.specs.Statuses.{with_end}
use Rattle.zone_table.proofs.StatusLists.{changed-all, changed-step, changed_until}
use Rattle.zone_table.proofs.statuses.end.Goals as goal

next : (n : ℕ) → suc n ≡ n + 1
next n = omega arith

pub loop-row-preserved : goal.loop-row-preserved
loop-row-preserved c =
    ap (set c.loop-row.row-items c.loop-row.row-index) c.end_one.ensures
    ∙ ap (λ (xs : List StatusRow). set xs c.loop-row.row-index (with_end c.args.session c.args.cancelled (get_or xs c.loop-row.row-index c.row-item.result))) c.loop-row.invariant
    ∙ changed-step (with_end c.args.session c.args.cancelled) c.loop-row.row-index c.args.rows.now.items c.row-item.result (subst (λ (xs : List StatusRow). c.loop-row.row-index < length xs) c.deref_mut-row-items.ensures.value c.loop-row-test.true)
    ∙ ap (λ (k : ℕ). changed_until (with_end c.args.session c.args.cancelled) k c.args.rows.now.items) (next c.loop-row.row-index)

pub returns : goal.returns
returns c =
    let same = ap length c.deref_mut-row-items.ensures.value in
    let kept = c.loop-row.auto.row-items in
    let past = c.loop-row-test.false in
    take_at c.loop-row.row-items _ c.args.rows.now.len (omega arith)
    ∙ c.loop-row.invariant
    ∙ changed-all (with_end c.args.session c.args.cancelled) c.loop-row.row-index c.args.rows.now.items (omega arith)
