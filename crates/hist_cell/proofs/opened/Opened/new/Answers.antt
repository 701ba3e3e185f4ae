use Rattle.hist_cell.proofs.Opening.{opens}
use Rattle.hist_cell.proofs.opened.Opened.new.Goals as goal

pub of_words-requires : goal.of_words-requires
of_words-requires g c = opens g.C.Core.step g.C.Core.allows c.of-start.result.value
