use Rattle.std.proofs.Common.{rules, subst, sym}
use Rattle.key_rows.specs.Names.{AreNames}
use Rattle.check_run.proofs.VersionLemmas.{all_versions}
use Rattle.check_run.proofs.versions.count_versions.Goals as goal

pub returns : goal.returns
returns c =
    all_versions c.args.keys.now.table.keys.rows c.as_slice-name-items.result.now c.loop-name.name-index c.loop-name.count c.count.ensures.table.names
    (subst (AreNames c.args.keys.now.table.keys.rows) (sym c.as_slice-name-items.ensures) c.in_ok-names.ensures) c.loop-name.invariant (search rules)
