use Rattle.std.proofs.Common.{⊎_elim, ap, inl, inr, ◌∙◌}
use Rattle.std.specs.Prelude.{Ok}
use Rattle.copy_runs.proofs.EndLemmas.{closes_so, failed}
use Rattle.copy_runs.proofs.ends.close_copy.Goals as goal

pub returns-in-Ok-clause-closes : goal.returns-in-Ok-clause-closes
returns-in-Ok-clause-closes g c = closes_so c.args.ended (Ok c.in-Ok.counts) c.in-Ok.is _ _ _ c.close_counts.ensures.closes

pub returns-in-Err-clause-closes : goal.returns-in-Err-clause-closes
returns-in-Err-clause-closes g c = closes_so c.args.ended (failed c.in-Err.fault) c.in-Err.is _ _ _ c.close_fault.ensures.closes

pub returns-in-Err-clause-write : goal.returns-in-Err-clause-write
returns-in-Err-clause-write g c is = ⊎_elim (λ same. inl (c.in-Err.is ∙ ap failed same)) (λ rose. inr rose) (c.close_fault.ensures.write is)
