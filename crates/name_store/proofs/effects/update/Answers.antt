use Rattle.std.proofs.Common.{◌∙◌, List, sym, ap}
use Rattle.std.proofs.lemmas.List.{drop_all}
use Rattle.edit_ops.specs.declared.files.FileKey.{FileKey}
use Rattle.zone_table.specs.Zones.{zones_of}
use Rattle.name_store.specs.Table.{with_edeks}
use Rattle.name_store.proofs.UpdateLemmas.{one-more, zones-edeks}
use Rattle.name_store.proofs.effects.update.Goals as goal

pub loop-file-preserved : goal.loop-file-preserved
loop-file-preserved c =
    let left = c.loop-file.invariant in
    let next =
    one-more c.args.files.now c.loop-file.file-index c.file-item.result c.loop-file.tree.rows c.set_edek.new.self.rows (with_edeks c.args.files.now c.args.tree.now.rows) c.loop-file-test.true
    c.file-item.is c.set_edek.ensures left.files left.rows in
    record { files = next.0; rows = next.1 }

pub returns-clause-zones : goal.returns-clause-zones
returns-clause-zones c =
    let none = drop_all c.loop-file.file-index c.args.files.now c.loop-file-test.false in
    ap zones_of (ap (λ (fs : List FileKey). with_edeks fs c.loop-file.tree.rows) (sym none) ∙ c.loop-file.invariant.rows)
    ∙ zones-edeks c.args.files.now c.args.tree.now.rows c.rows.ensures.rules.once c.requires.files
