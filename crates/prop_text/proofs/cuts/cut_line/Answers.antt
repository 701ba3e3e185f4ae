use Rattle.std.proofs.Common.{◌∷◌, ◌-◌, ◌+◌, length, take, drop, sym, ◌∙◌, ap}
use Rattle.prop_text.specs.Properties.{lines_of}
use Rattle.prop_text.proofs.CutLemmas.{first_line, last_line}
use Rattle.prop_text.proofs.cuts.cut_line.Goals as goal

pub returns-in-None-clause-cut : goal.returns-in-None-clause-cut
returns-in-None-clause-cut c = last_line c.args.text.now c.in-None.ensures.none

pub returns-in-Some-clause-cut : goal.returns-in-Some-clause-cut
returns-in-Some-clause-cut c =
    let rest = take (length c.args.text.now - (c.in-Some.place + 1)) (drop (c.in-Some.place + 1) c.args.text.now) in
    first_line c.args.text.now c.in-Some.place (sym c.line_feed_in.ensures.first ∙ c.in-Some.is)
    ∙ ap (λ line. line ∷ lines_of rest) (sym c.without_cr.ensures)
