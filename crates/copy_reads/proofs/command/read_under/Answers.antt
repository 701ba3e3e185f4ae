use Rattle.std.proofs.Common.{◌∙◌, ⊎_elim, inl, inr, refl, sym}
use Rattle.hk_runs.proofs.BeganLemmas.{not_opened}
use Rattle.data_stream.proofs.CauseLemmas.{opening_read, opening_write, reported_long, reported_read, reported_vault}
use Rattle.data_stream.proofs.CommandLemmas.{reported}
use Rattle.copy_reads.proofs.RunLemmas.{rest_at, rest_ran}
use Rattle.copy_reads.proofs.command.read_under.Goals as goal

pub returns-in-Err-clause-read : goal.returns-in-Err-clause-read
returns-in-Err-clause-read g c = inl (record {
  file = c.in-Err.why.file;
  fault = c.in-Err.why.fault;
  not_opened = not_opened _ _ c.start.result c.in-Err.why c.in-Err.is c.start.ensures.opens;
  untouched = (refl, (refl, refl, refl));
  reports = reported _ _ _ _ _ c.ended_by.ensures c.report.ensures.reports;
})

pub returns-in-Ok-clause-read : goal.returns-in-Ok-clause-read
returns-in-Ok-clause-read g c =
    let did = c.read_opened.ensures.read in
    inr (rest_ran g.D.Disk.state g.W.Words.to_come c.args.props.now (g.D.Disk.state c.args.disk.now) (record { disk = c.start.new.disk; world = c.in-Ok.world; words = c.args.rand.now })
    (record { disk = c.read_opened.new.disk; world = did.0; words = c.read_opened.new.rand }) c.in-Ok.ensures.began c.start.ensures.opens.any_moment c.start.ensures.opens.run c.in-Ok.ensures.lists _ c.args.user.now c.args.path.now c.args.from c.args.count
    _ _ _ _ _ _ _ (rest_at _ _ _ _ _ _ _ _ _ _ _ _ _ _ _ _ _ c.batch_size-batch.ensures.size did.1))

pub returns-in-Err-clause-read_fault : goal.returns-in-Err-clause-read_fault
returns-in-Err-clause-read_fault g c is = absurd (opening_read c.in-Err.why.file c.in-Err.why.fault (reported_read _ _ _ _ (reported _ _ _ _ _ c.ended_by.ensures c.report.ensures.reports) is))

pub returns-in-Err-clause-write_fault : goal.returns-in-Err-clause-write_fault
returns-in-Err-clause-write_fault g c is = ⊎_elim (λ same. absurd (opening_write c.in-Err.why.file c.in-Err.why.fault (sym c.ended_by.ensures ∙ same))) (λ rose. rose) (c.report.ensures.write is)

pub returns-in-Err-clause-vault_fault : goal.returns-in-Err-clause-vault_fault
returns-in-Err-clause-vault_fault g c is = absurd (reported_vault _ _ _ _ (reported _ _ _ _ _ c.ended_by.ensures c.report.ensures.reports) is)

pub returns-in-Err-clause-long : goal.returns-in-Err-clause-long
returns-in-Err-clause-long g c is = absurd (reported_long _ _ _ _ (reported _ _ _ _ _ c.ended_by.ensures c.report.ensures.reports) is)
