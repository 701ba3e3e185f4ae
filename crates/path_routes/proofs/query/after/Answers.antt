use Rattle.std.proofs.Common.{sym, ◌∙◌}
use Rattle.path_routes.proofs.QueryLemmas.{given-more, given-other}
use Rattle.path_routes.proofs.query.after.Goals as goal

pub returns-then-named : goal.returns-then-named
returns-then-named c = λ ps is.
    given-more c.args.name.now ps c.args.parameter.now c.as_slice.result.now c.as_slice-then-named.result.now c.args.found c.with.result
    c.as_slice.ensures (sym c.eq-named.ensures ∙ c.if-named.true) c.as_slice-then-named.ensures c.with.ensures is

pub returns : goal.returns
returns c = λ ps is.
    given-other c.args.name.now ps c.args.parameter.now c.as_slice.result.now c.args.found c.as_slice.ensures (sym c.eq-named.ensures ∙ c.if-named.false) is
