use Rattle.std.proofs.Common.{◌≡◌, ◌∙◌, ⊎_elim, ap, inl, inr, refl, sym}
use Rattle.std.specs.Prelude.{Err}
use Rattle.hk_runs.proofs.HeadlineLemmas.{unmoved, unmoved_keeps}
use Rattle.data_stream.proofs.CauseLemmas.{props_read, props_write, reported_long, reported_read, reported_vault}
use Rattle.data_stream.proofs.CommandLemmas.{reported}
use Rattle.copy_reads.proofs.StoreLemmas.{props_store, reported_store}
use Rattle.copy_runs.proofs.RunLemmas.{zone_keeps}
use Rattle.copy_runs.proofs.command.run_copy.Goals as goal

pub returns-in-Err-clause-kept : goal.returns-in-Err-clause-kept
returns-in-Err-clause-kept g c tells past sound =
    inl (unmoved_keeps past (g.D.Disk.state c.args.disk.now) (g.D.Disk.state c.args.disk.now) tells sound (refl, refl, refl, refl, refl)
    (unmoved g.D.Disk.state c.args.disk.now c.args.disk.now (g.met.D.Disk.only_now c.args.disk.now) refl))

pub returns-clause-kept : goal.returns-clause-kept
returns-clause-kept g c tells past sound =
    zone_keeps g.E.Disk.state past (g.D.Disk.state c.args.disk.now) (g.D.Disk.state c.copy_under-status.new.disk) tells sound
    (record { reads = λ tells file lt. g.met.D.Disk.is_one c.args.disk.now file tells lt; only = g.met.D.Disk.only_now c.args.disk.now; counts = g.met.D.Disk.counts_now c.copy_under-status.new.disk })
    (c.copy_under-status.new.disk ≡ c.args.disk.now) _ c.args.from.now c.args.to.now _ _ _ _ _ _ _ _ _ _ _ _ _
    (unmoved g.D.Disk.state c.args.disk.now c.copy_under-status.new.disk (g.met.D.Disk.only_now c.args.disk.now)) (inr (record { props = c.in-Ok.props; read = c.in-Ok.ensures.read; copy = c.copy_under-status.ensures.copy }))

pub returns-in-Err-clause-store_fault : goal.returns-in-Err-clause-store_fault
returns-in-Err-clause-store_fault g c is = absurd (props_store c.in-Err.fault (reported_store _ _ _ _ (reported _ _ _ _ _ c.ended_by_props.ensures c.report.ensures.reports) is))

pub returns-in-Err-clause-read_fault : goal.returns-in-Err-clause-read_fault
returns-in-Err-clause-read_fault g c is = c.read_properties.ensures.cause (c.in-Err.is ∙ ap Err (props_read c.in-Err.fault (reported_read _ _ _ _ (reported _ _ _ _ _ c.ended_by_props.ensures c.report.ensures.reports) is)))

pub returns-in-Err-clause-write_fault : goal.returns-in-Err-clause-write_fault
returns-in-Err-clause-write_fault g c is = ⊎_elim (λ same. absurd (props_write c.in-Err.fault (sym c.ended_by_props.ensures ∙ same))) (λ rose. rose) (c.report.ensures.write is)

pub returns-in-Err-clause-vault_fault : goal.returns-in-Err-clause-vault_fault
returns-in-Err-clause-vault_fault g c is = absurd (reported_vault _ _ _ _ (reported _ _ _ _ _ c.ended_by_props.ensures c.report.ensures.reports) is)

pub returns-in-Err-clause-long : goal.returns-in-Err-clause-long
returns-in-Err-clause-long g c is = absurd (reported_long _ _ _ _ (reported _ _ _ _ _ c.ended_by_props.ensures c.report.ensures.reports) is)
