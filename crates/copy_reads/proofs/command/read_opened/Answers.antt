use Rattle.std.proofs.Common.{⊎_elim, ap, inl, inr, refl}
use Rattle.data_stream.proofs.CauseLemmas.{closed_long, closed_read, closed_vault, counted}
use Rattle.copy_reads.proofs.FaultLemmas.{copies_long, copies_read, copies_vault}
use Rattle.copy_reads.proofs.RunLemmas.{copies_held, not_started, runs_on, started_holds}
use Rattle.copy_reads.proofs.command.read_opened.Goals as goal

pub returns-in-Err-clause-read : goal.returns-in-Err-clause-read
returns-in-Err-clause-read g c = (
  c.args.world,
  inl (record {
    fault = c.in-Err.fault;
    not_opened = not_started _ _ c.start.result c.in-Err.fault c.in-Err.is c.start.ensures.opens;
    nothing = refl;
    untouched = (refl, refl, refl);
    reports = c.report_copies.ensures.reports;
  }),
)

pub returns-in-Err-clause-read_fault : goal.returns-in-Err-clause-read_fault
returns-in-Err-clause-read_fault g c is = copies_read c.in-Err.fault _ _ _ c.report_copies.ensures.reports is

pub returns-in-Err-clause-vault_fault : goal.returns-in-Err-clause-vault_fault
returns-in-Err-clause-vault_fault g c is = absurd (copies_vault c.in-Err.fault _ _ _ c.report_copies.ensures.reports is)

pub returns-in-Err-clause-long : goal.returns-in-Err-clause-long
returns-in-Err-clause-long g c is = copies_long c.in-Err.fault _ _ _ c.report_copies.ensures.reports is

pub read_in-how-requires-clause-holds : goal.read_in-how-requires-clause-holds
read_in-how-requires-clause-holds g c = started_holds _ _ _ _ c.in-Ok.ensures.started c.start.ensures.opens.run

pub returns-in-Ok-clause-read : goal.returns-in-Ok-clause-read
returns-in-Ok-clause-read g c =
    let did = c.read_in-how.ensures.reads in
    let names = c.read_in-how.ensures.names in
    let started = c.in-Ok.ensures.started in (
      did.1,
      inr (record {
        found = started.found;
        names = c.in-Ok.name;
        opens = started.opens;
        after = names.0;
        same = names.1;
        holds = copies_held _ _ _ _ _ names.0 started c.start.ensures.opens.run names.2;
        run = runs_on _ _ _ c.start.ensures.opens.run names.2.run;
        how = c.read_in-how.result;
        cause = c.read_in-how.ensures.cause;
        body = _;
        moment = did.0;
        reads = did.2;
        closes = c.close-in-Ok.ensures.closes;
      }),
    )

pub returns-in-Ok-clause-read_fault : goal.returns-in-Ok-clause-read_fault
returns-in-Ok-clause-read_fault g c is = c.read_in-how.ensures.own.0 (closed_read c.read_in-how.result _ _ _ c.close-in-Ok.ensures.closes is)

pub returns-in-Ok-clause-write_fault : goal.returns-in-Ok-clause-write_fault
returns-in-Ok-clause-write_fault g c is =
    counted _ _ _ c.read_in-how.ensures.out_later
    (⊎_elim (λ same. inl (c.read_in-how.ensures.write same, ap g.K.Sink.faults (c.close-in-Ok.ensures.quiet same))) (λ rose. inr rose) (c.close-in-Ok.ensures.write is))

pub returns-in-Ok-clause-vault_fault : goal.returns-in-Ok-clause-vault_fault
returns-in-Ok-clause-vault_fault g c is = c.read_in-how.ensures.vault (closed_vault c.read_in-how.result _ _ _ c.close-in-Ok.ensures.closes is)

pub returns-in-Ok-clause-long : goal.returns-in-Ok-clause-long
returns-in-Ok-clause-long g c is = c.read_in-how.ensures.own.1 (closed_long c.read_in-how.result _ _ _ c.close-in-Ok.ensures.closes is)
