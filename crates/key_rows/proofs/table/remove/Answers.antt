use Rattle.std.proofs.Common.{not, rules}
use Rattle.std.proofs.lemmas.Fn.{filter_same}
use Rattle.key_rows.specs.Table.{is_born}
use Rattle.key_rows.proofs.table.remove.Goals as goal

pub returns : goal.returns
returns c = filter_same _ (λ row. not (is_born c.args.birth row)) _ (λ x b g says. search rules) _ _ c.retain.ensures.filtered
