use Rattle.raw_copy.proofs.CopyLemmas.{both_ends, both_refused, worked}
use Rattle.raw_copy.proofs.into.copy_both.Goals as goal

pub returns-clause-works : goal.returns-clause-works
returns-clause-works g c = worked g.S.SourceRows.follows g.E.Disk.state g.V.Vault.state g.U.Vault.state c.args.both.now c.copy_rows.new.clusters c.copy_rows.ensures.steps

pub returns-clause-source : goal.returns-clause-source
returns-clause-source g c = let w = worked g.S.SourceRows.follows g.E.Disk.state g.V.Vault.state g.U.Vault.state c.args.both.now c.copy_rows.new.clusters c.copy_rows.ensures.steps in w.holds.source

pub returns-clause-names : goal.returns-clause-names
returns-clause-names g c = let w = worked g.S.SourceRows.follows g.E.Disk.state g.V.Vault.state g.U.Vault.state c.args.both.now c.copy_rows.new.clusters c.copy_rows.ensures.steps in w.holds.names

pub returns-clause-backup : goal.returns-clause-backup
returns-clause-backup g c = let w = worked g.S.SourceRows.follows g.E.Disk.state g.V.Vault.state g.U.Vault.state c.args.both.now c.copy_rows.new.clusters c.copy_rows.ensures.steps in w.holds.backup

pub returns-clause-vault : goal.returns-clause-vault
returns-clause-vault g c = let w = worked g.S.SourceRows.follows g.E.Disk.state g.V.Vault.state g.U.Vault.state c.args.both.now c.copy_rows.new.clusters c.copy_rows.ensures.steps in w.holds.vault

pub returns-clause-copies : goal.returns-clause-copies
returns-clause-copies g c = let w = worked g.S.SourceRows.follows g.E.Disk.state g.V.Vault.state g.U.Vault.state c.args.both.now c.copy_rows.new.clusters c.copy_rows.ensures.steps in w.holds.copies

pub returns-clause-ends : goal.returns-clause-ends
returns-clause-ends g c = both_ends g.S.SourceRows.follows g.E.Disk.state g.V.Vault.state g.U.Vault.state g.S.SourceRows.rows c.args.both.now c.copy_rows.new.clusters g.S.SourceRows.refuses g.S.SourceRows.replies c.args.to.now c.copy_rows.result c.copy_rows.ensures.ends

pub returns-clause-refused : goal.returns-clause-refused
returns-clause-refused g c = both_refused g.S.SourceRows.follows g.E.Disk.state g.V.Vault.state g.U.Vault.state g.S.SourceRows.rows c.args.both.now c.copy_rows.new.clusters g.S.SourceRows.refuses g.S.SourceRows.replies c.args.to.now c.copy_rows.result c.copy_rows.ensures.ends
