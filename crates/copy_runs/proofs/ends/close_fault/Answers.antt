use Rattle.std.proofs.Common.{⊎_elim, ap, inl, inr, ◌∙◌}
use Rattle.raw_copy.specs.declared.backup.CopyFault.TheVariants.{End, Start}
use Rattle.copy_runs.proofs.EndLemmas.{closes_so, failed}
use Rattle.copy_runs.proofs.ends.close_fault.Goals as goal

pub returns-in-Start-clause-closes : goal.returns-in-Start-clause-closes
returns-in-Start-clause-closes g c = closes_so (failed c.args.fault) (failed (Start c.in-Start.why)) (ap failed c.in-Start.is) _ _ _ c.close_start.ensures.closes

pub returns-in-End-clause-closes : goal.returns-in-End-clause-closes
returns-in-End-clause-closes g c = closes_so (failed c.args.fault) (failed (End c.in-End.how)) (ap failed c.in-End.is) _ _ _ c.close.ensures.closes

pub returns-in-End-clause-write : goal.returns-in-End-clause-write
returns-in-End-clause-write g c is = ⊎_elim (λ same. inl (c.in-End.is ∙ ap End same)) (λ rose. inr rose) (c.close.ensures.write is)
