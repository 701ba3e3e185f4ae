use Rattle.std.proofs.Common.{◌∙◌, ⊎_elim, inl, inr, refl, sym}
use Rattle.hk_runs.proofs.BeganLemmas.{not_opened}
use Rattle.data_stream.proofs.CauseLemmas.{closed_long, closed_read, closed_vault, opening_read, opening_write, reported_long, reported_read, reported_vault}
use Rattle.data_stream.proofs.CommandLemmas.{put_ran, reported}
use Rattle.data_stream.proofs.put.put_under.Goals as goal

pub returns-in-Err-clause-put : goal.returns-in-Err-clause-put
returns-in-Err-clause-put g c = inl (record {
  file = c.in-Err.why.file;
  fault = c.in-Err.why.fault;
  not_opened = not_opened _ _ c.start.result c.in-Err.why c.in-Err.is c.start.ensures.opens;
  untouched = (refl, refl, refl, refl);
  reports = reported _ _ _ _ _ c.ended_by.ensures c.report.ensures.reports;
})

pub returns-in-Ok-clause-put : goal.returns-in-Ok-clause-put
returns-in-Ok-clause-put g c =
    let did = c.put_in-how.ensures.puts in
    let ran = put_ran g.D.Disk.state g.W.Words.to_come c.args.props.now (g.D.Disk.state c.args.disk.now) (record { disk = c.start.new.disk; world = c.in-Ok.world; words = c.args.rand.now })
    (record { disk = c.put_in-how.new.disk; world = did.1; words = c.put_in-how.new.rand }) c.in-Ok.ensures.began c.start.ensures.opens.any_moment c.start.ensures.opens.run c.in-Ok.ensures.lists c.args.user.now c.args.path.now did.0 c.put_in-how.result _ _ _ _ did.2 in
    inr (record { how = c.put_in-how.result; worked = ran.0; moment = did.0; puts = ran.1; closes = c.close.ensures.closes })

pub returns-in-Err-clause-read_fault : goal.returns-in-Err-clause-read_fault
returns-in-Err-clause-read_fault g c is = absurd (opening_read c.in-Err.why.file c.in-Err.why.fault (reported_read _ _ _ _ (reported _ _ _ _ _ c.ended_by.ensures c.report.ensures.reports) is))

pub returns-in-Err-clause-write_fault : goal.returns-in-Err-clause-write_fault
returns-in-Err-clause-write_fault g c is = ⊎_elim (λ same. absurd (opening_write c.in-Err.why.file c.in-Err.why.fault (sym c.ended_by.ensures ∙ same))) (λ rose. rose) (c.report.ensures.write is)

pub returns-in-Err-clause-vault_fault : goal.returns-in-Err-clause-vault_fault
returns-in-Err-clause-vault_fault g c is = absurd (reported_vault _ _ _ _ (reported _ _ _ _ _ c.ended_by.ensures c.report.ensures.reports) is)

pub returns-in-Err-clause-long : goal.returns-in-Err-clause-long
returns-in-Err-clause-long g c is = absurd (reported_long _ _ _ _ (reported _ _ _ _ _ c.ended_by.ensures c.report.ensures.reports) is)

pub returns-in-Ok-clause-read_fault : goal.returns-in-Ok-clause-read_fault
returns-in-Ok-clause-read_fault g c is = c.put_in-how.ensures.read (closed_read c.put_in-how.result _ _ _ c.close.ensures.closes is)

pub returns-in-Ok-clause-write_fault : goal.returns-in-Ok-clause-write_fault
returns-in-Ok-clause-write_fault g c is = ⊎_elim (λ same. absurd (c.put_in-how.ensures.own same)) (λ rose. rose) (c.close.ensures.write is)

pub returns-in-Ok-clause-vault_fault : goal.returns-in-Ok-clause-vault_fault
returns-in-Ok-clause-vault_fault g c is = c.put_in-how.ensures.vault (closed_vault c.put_in-how.result _ _ _ c.close.ensures.closes is)

pub returns-in-Ok-clause-long : goal.returns-in-Ok-clause-long
returns-in-Ok-clause-long g c is = c.put_in-how.ensures.long (closed_long c.put_in-how.result _ _ _ c.close.ensures.closes is)
