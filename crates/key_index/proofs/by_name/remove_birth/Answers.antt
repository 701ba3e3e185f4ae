use Rattle.std.proofs.Common.{not, rules, ◌==◌}
use Rattle.std.proofs.lemmas.Fn.{filter_same}
use Rattle.key_index.proofs.by_name.remove_birth.Goals as goal

pub returns : goal.returns
returns c = filter_same _ (λ entry. not (entry.birth == c.args.birth)) _ (λ x b g says. search rules) _ _ c.retain.ensures.filtered
