use Rattle.std.proofs.Common.{◌∙◌, sym, ap}
use Rattle.std.specs.List.{list_all}
use Rattle.std.proofs.lemmas.List.{drop_all}
use Rattle.name_store.specs.Table.{NameTable, may_update}
use Rattle.name_store.proofs.UpdateLemmas.{each-more}
use Rattle.name_store.proofs.updates.may_update_each.Goals as goal

pub loop-file-preserved : goal.loop-file-preserved
loop-file-preserved c opening snaps =
    let t : NameTable = record { opening = opening; rows = c.args.tree.now.rows; snaps = snaps; statuses = c.args.statuses.now.rows } in
    c.loop-file.invariant opening snaps
    ∙ each-more (may_update t c.args.session) c.args.files.now c.loop-file.file-index c.file-item.result c.loop-file-test.true c.file-item.is (sym (c.in_ok-may.ensures opening snaps) ∙ c.if-not-may.false)

pub returns : goal.returns
returns c opening snaps =
    let t : NameTable = record { opening = opening; rows = c.args.tree.now.rows; snaps = snaps; statuses = c.args.statuses.now.rows } in
    sym (c.loop-file.invariant opening snaps ∙ ap (list_all (may_update t c.args.session)) (drop_all c.loop-file.file-index c.args.files.now c.loop-file-test.false))
