use Rattle.std.proofs.Common.{not, rules}
use Rattle.std.proofs.lemmas.Fn.{filter_same}
use Rattle.key_index.specs.Index.{is_born}
use Rattle.key_index.proofs.finding.remove.Goals as goal

pub returns : goal.returns
returns c = filter_same _ (λ row. not (is_born c.args.birth row)) _ (λ x b g says. search rules) _ _ c.retain.ensures.filtered
