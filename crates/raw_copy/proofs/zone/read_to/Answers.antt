use Rattle.std.proofs.Common.{◌≡◌, ◌∙◌, ℕ, List, Err, None, ap, subst}
use Rattle.name_calls.specs.Paths.{read_path}
use Rattle.raw_copy.proofs.RefusalLemmas.{path_ends}
use Rattle.raw_copy.proofs.zone.read_to.Goals as goal

pub returns-in-Err-clause-ends : goal.returns-in-Err-clause-ends
returns-in-Err-clause-ends c = path_ends (read_path c.args.to.now ≡ None) c.in-Err.fault c.end_of_path.result c.end_of_path.ensures (λ is. subst (λ (bytes : List ℕ). read_path bytes ≡ None) (c.as_bytes.ensures.value ∙ c.as_str.ensures) (c.read.ensures.bad.0 (c.in-Err.is ∙ ap Err is)))
