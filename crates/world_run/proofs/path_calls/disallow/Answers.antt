use Rattle.std.proofs.Common.{◌∙◌, Err, ap, sym}
use Rattle.name_calls.specs.Paths.{read_path}
use Rattle.name_calls.specs.declared.calls.NameCall.TheVariants as call
use Rattle.world_run.proofs.PathCallLemmas.{is-read, not-read}
use Rattle.world_run.proofs.path_calls.disallow.Goals as goal

pub returns-in-Err : goal.returns-in-Err
returns-in-Err c =
    not-read call.Disallow (read_path c.args.path) c.in-Err.fault (λ is. ap read_path (sym c.as_slice.ensures) ∙ c.in-Err.ensures.bad.0 (ap Err is)) (λ none. cc (c.in-Err.ensures.bad.1 (ap read_path c.as_slice.ensures ∙ none)))

pub returns : goal.returns
returns c = is-read call.Disallow (read_path c.args.path) c.in-Ok.path (ap read_path (sym c.as_slice.ensures) ∙ c.in-Ok.ensures.ok)
