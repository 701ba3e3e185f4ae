use Rattle.std.proofs.Common.{List, ◌∷◌, ◌++◌, [], ap, sym, ◌∙◌}
use Rattle.edit_ops.specs.declared.files.FileKey.{FileKey}
use Rattle.reenc_update.specs.Changes.{changed}
use Rattle.reenc_update.proofs.ChangeLemmas.{changed-more}
use Rattle.reenc_update.proofs.changes.changed.Goals as goal

pub loop-k-preserved : goal.loop-k-preserved
loop-k-preserved c =
    let rows = c.args.tree.now.rows in
    let x = c.index-sent-k.result in
    let e = c.index-edeks-k.result in
    c.in_ok-add_changed.ensures
    ∙ ap (λ (fs : List FileKey). fs ++ changed rows c.args.zone (x ∷ []) (e ∷ [])) c.loop-k.invariant
    ∙ sym (changed-more rows c.args.zone c.args.sent.now c.args.edeks.now c.loop-k.k x e c.requires c.loop-k-test.true c.index-sent-k.is c.index-edeks-k.is)
