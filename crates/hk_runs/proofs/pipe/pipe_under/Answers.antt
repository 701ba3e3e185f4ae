use Rattle.std.proofs.Common.{inl, inr, refl, sym, ap, ◌∙◌}
use Rattle.command_io.specs.Ends.{ended_by, status_of}
use Rattle.hk_runs.proofs.BeganLemmas.{not_opened, start_cause, store_ended}
use Rattle.hk_runs.proofs.LastLemmas.{is_store}
use Rattle.hk_runs.proofs.PipeLemmas.{converses}
use Rattle.hk_runs.proofs.pipe.pipe_under.Goals as goal

pub returns-in-Err-clause-pipe : goal.returns-in-Err-clause-pipe
returns-in-Err-clause-pipe g c = inl (record {
  file = c.in-Err.why.file;
  fault = c.in-Err.why.fault;
  not_opened = not_opened _ _ c.start.result c.in-Err.why c.in-Err.is c.start.ensures.opens;
  untouched = (refl, refl, refl, refl);
  status_is = c.status_of.ensures ∙ ap status_of c.ended_by.ensures;
})

pub returns-in-Err-clause-store : goal.returns-in-Err-clause-store
returns-in-Err-clause-store g c is =
    let why = c.in-Err.why in
    start_cause _ _ why.file why.fault (not_opened _ _ c.start.result why c.in-Err.is c.start.ensures.opens)
    (store_ended why.file why.fault (is_store (ended_by why.file why.fault) (sym (c.status_of.ensures ∙ ap status_of c.ended_by.ensures) ∙ is)))

pub returns-in-Ok-clause-pipe : goal.returns-in-Ok-clause-pipe
returns-in-Ok-clause-pipe g c =
    let served = c.serve_in.ensures.served in
    inr (record {
      how = c.serve_in.result;
      converses = converses g.D.Disk.state g.W.Words.to_come c.args.props.now (g.D.Disk.state c.args.disk.now) _ _ _ _ _ _ served.0 c.serve_in.result
          c.in-Ok.ensures.began c.start.ensures.opens.any_moment c.start.ensures.opens.run c.in-Ok.ensures.lists served.2;
      status_is = c.connection_status.ensures;
    })
