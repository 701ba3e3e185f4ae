use Rattle.std.proofs.Common.{inl, inr, ap, ◌∙◌}
use Rattle.std.specs.Prelude.{Ok}
use Rattle.copy_runs.specs.Runs.{clusters}
use Rattle.copy_command.specs.Reasons.{around}
use Rattle.copy_command.proofs.ReasonLemmas.{copies_end, copy_is, read_is, reads_end}
use Rattle.copy_command.proofs.StatusLemmas.{copy_is_no_usage, read_is_no_usage}
use Rattle.copy_command.proofs.command.obey.Goals as goal

pub returns-in-Ok-Copy-clause-own : goal.returns-in-Ok-Copy-clause-own
returns-in-Ok-Copy-clause-own g c is = absurd (copy_is_no_usage g.E.Disk.state _ _ _ _ _ _ _ _ _ _ _ _ _ _ _ _ c.run_copy.result _ _ c.run_copy.ensures.copy is)

pub returns-in-Ok-Read-clause-own : goal.returns-in-Ok-Read-clause-own
returns-in-Ok-Read-clause-own g c is = absurd (read_is_no_usage _ _ _ _ _ _ _ _ _ _ _ _ _ _ c.run_read_copy.result _ _ _ _ _ c.run_read_copy.ensures.read is)

pub returns-in-Ok-Read-clause-vault_fault : goal.returns-in-Ok-Read-clause-vault_fault
returns-in-Ok-Read-clause-vault_fault g c is = inr (inl (c.run_read_copy.ensures.vault_fault is))

pub returns-in-Ok-Copy-clause-reason : goal.returns-in-Ok-Copy-clause-reason
returns-in-Ok-Copy-clause-reason g c =
    let r = c.run_copy.ensures in
    copy_is _ c.args.order _ _ (c.in-Ok-Copy.is ∙ ap Ok c.in-Ok-Copy.field-0-is)
    (copies_end _ _ _ _ _ c.run_copy.result r.store_fault r.read_fault r.write_fault r.vault_fault r.long _ _ r.copy)

pub returns-in-Ok-Read-clause-read_reason : goal.returns-in-Ok-Read-clause-read_reason
returns-in-Ok-Read-clause-read_reason g c =
    let r = c.run_read_copy.ensures in
    let new = c.run_read_copy.new in
    let s =
    around g.D.Disk g.V.Vault g.E.Disk g.U.Vault g.K.Sink g.W.Words g.A.Source (clusters c.args.disk.now c.args.vault.now c.args.backup.now c.args.copies.now c.args.out.now c.args.rand.now c.args.clock.now)
    (clusters new.disk c.args.vault.now new.backup new.copies new.out new.rand new.clock) c.args.acls.now new.acls in
    read_is _ c.args.order _ _ _ _ (c.in-Ok-Read.is ∙ ap Ok c.in-Ok-Read.field-0-is)
    (reads_end s _ _ _ _ _ _ c.run_read_copy.result r.store_fault r.read_fault r.write_fault (λ is. inr (inl (r.vault_fault is))) r.long _ _ _ r.read)
