use Rattle.std.proofs.Common.{◌≡◌, ◌∙◌, ℕ, List, Err, None, ap, subst}
use Rattle.place_texts.specs.Places.{read_raw_place}
use Rattle.raw_copy.proofs.RefusalLemmas.{path_ends}
use Rattle.raw_copy.proofs.zone.read_from.Goals as goal

pub returns-in-Err-clause-ends : goal.returns-in-Err-clause-ends
returns-in-Err-clause-ends c = path_ends (read_raw_place c.args.from.now ≡ None) c.in-Err.fault c.end_of_path.result c.end_of_path.ensures (λ is. subst (λ (bytes : List ℕ). read_raw_place bytes ≡ None) (c.as_bytes.ensures.value ∙ c.as_str.ensures) (c.read_raw_place.ensures.bad (c.in-Err.is ∙ ap Err is)))
