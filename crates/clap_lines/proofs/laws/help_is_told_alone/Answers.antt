use Rattle.clap_lines.proofs.KindLemmas.{fault-single}
use Rattle.clap_lines.proofs.laws.help_is_told_alone.Goals as goal

pub returns : goal.returns
returns c = fault-single
