use Rattle.std.proofs.Common.{◌∙◌, ⊎_elim, inl, inr, refl, sym}
use Rattle.file_orders.specs.declared.ends.FsEnd.TheVariants as end
use Rattle.hk_runs.proofs.BeganLemmas.{not_opened, start_cause, store_ended}
use Rattle.data_stream.proofs.CauseLemmas.{opening_read, opening_write, reported_long, reported_read, reported_vault}
use Rattle.data_stream.proofs.CommandLemmas.{reported}
use Rattle.copy_reads.proofs.StoreLemmas.{reported_store}
use Rattle.copy_runs.proofs.EndLemmas.{ended_long, ended_read, ended_store, ended_vault}
use Rattle.copy_runs.proofs.RunLemmas.{zone_ran}
use Rattle.copy_runs.proofs.command.copy_under.Goals as goal

pub returns-in-Err-clause-copy : goal.returns-in-Err-clause-copy
returns-in-Err-clause-copy g c = inl (record {
  file = c.in-Err.why.file;
  fault = c.in-Err.why.fault;
  not_opened = not_opened _ _ c.start.result c.in-Err.why c.in-Err.is c.start.ensures.opens;
  untouched = (refl, refl, refl, refl, refl);
  reports = reported _ _ _ _ _ c.ended_by.ensures c.report.ensures.reports;
})

pub returns-in-Ok-clause-copy : goal.returns-in-Ok-clause-copy
returns-in-Ok-clause-copy g c =
    let did = c.copy_in-ended.ensures.copies in
    inr (zone_ran g.D.Disk.state g.W.Words.to_come c.args.props.now (g.D.Disk.state c.args.disk.now) (record { disk = c.start.new.disk; world = c.in-Ok.world; words = c.args.rand.now })
    (record { disk = c.copy_in-ended.new.disk; world = did.0; words = c.copy_in-ended.new.rand }) c.in-Ok.ensures.began c.start.ensures.opens.any_moment c.start.ensures.opens.run c.in-Ok.ensures.lists
    g.E.Disk.state c.batch_size-batch.result c.batch_size-batch.ensures.size c.args.from.now c.args.to.now _ _ _ _ _ _ c.copy_in-ended.result _ _ _ did.1 c.close_copy.ensures.closes c.copy_in-ended.ensures.own)

pub returns-in-Err-clause-store_fault : goal.returns-in-Err-clause-store_fault
returns-in-Err-clause-store_fault g c is =
    inl (start_cause _ _ c.in-Err.why.file c.in-Err.why.fault (not_opened _ _ c.start.result c.in-Err.why c.in-Err.is c.start.ensures.opens)
    (store_ended c.in-Err.why.file c.in-Err.why.fault (reported_store _ _ _ _ (reported _ _ _ _ _ c.ended_by.ensures c.report.ensures.reports) is)))

pub returns-in-Ok-clause-store_fault : goal.returns-in-Ok-clause-store_fault
returns-in-Ok-clause-store_fault g c is = inr (⊎_elim c.copy_in-ended.ensures.start c.copy_in-ended.ensures.store (ended_store _ _ _ c.copy_in-ended.result c.close_copy.ensures.closes is))

pub returns-in-Err-clause-read_fault : goal.returns-in-Err-clause-read_fault
returns-in-Err-clause-read_fault g c is = absurd (opening_read c.in-Err.why.file c.in-Err.why.fault (reported_read _ _ _ _ (reported _ _ _ _ _ c.ended_by.ensures c.report.ensures.reports) is))

pub returns-in-Ok-clause-read_fault : goal.returns-in-Ok-clause-read_fault
returns-in-Ok-clause-read_fault g c is = let never = c.copy_in-ended.ensures.own end.ReadFault (ended_read _ _ _ c.copy_in-ended.result c.close_copy.ensures.closes is) in never.0

pub returns-in-Err-clause-write_fault : goal.returns-in-Err-clause-write_fault
returns-in-Err-clause-write_fault g c is = ⊎_elim (λ same. absurd (opening_write c.in-Err.why.file c.in-Err.why.fault (sym c.ended_by.ensures ∙ same))) (λ rose. rose) (c.report.ensures.write is)

pub returns-in-Ok-clause-write_fault : goal.returns-in-Ok-clause-write_fault
returns-in-Ok-clause-write_fault g c is = ⊎_elim (λ same. let never = c.copy_in-ended.ensures.own end.WriteFault same in absurd never.0) (λ rose. rose) (c.close_copy.ensures.write is)

pub returns-in-Err-clause-vault_fault : goal.returns-in-Err-clause-vault_fault
returns-in-Err-clause-vault_fault g c is = absurd (reported_vault _ _ _ _ (reported _ _ _ _ _ c.ended_by.ensures c.report.ensures.reports) is)

pub returns-in-Ok-clause-vault_fault : goal.returns-in-Ok-clause-vault_fault
returns-in-Ok-clause-vault_fault g c is = c.copy_in-ended.ensures.vault (ended_vault _ _ _ c.copy_in-ended.result c.close_copy.ensures.closes is)

pub returns-in-Err-clause-long : goal.returns-in-Err-clause-long
returns-in-Err-clause-long g c is = absurd (reported_long _ _ _ _ (reported _ _ _ _ _ c.ended_by.ensures c.report.ensures.reports) is)

pub returns-in-Ok-clause-long : goal.returns-in-Ok-clause-long
returns-in-Ok-clause-long g c is = let never = c.copy_in-ended.ensures.own end.TooLong (ended_long _ _ _ c.copy_in-ended.result c.close_copy.ensures.closes is) in never.0
