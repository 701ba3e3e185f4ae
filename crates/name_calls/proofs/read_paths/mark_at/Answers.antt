use Rattle.std.proofs.Common.{ap, ◌∙◌, sym, arith}
use Rattle.name_calls.specs.ReadPaths.{starts_mark}
use Rattle.name_calls.proofs.ReadPathLemmas.{mark-first, mark-here, mark-later, mark-none}
use Rattle.name_calls.proofs.read_paths.mark_at.Goals as goal

pub loop-at-init : goal.loop-at-init
loop-at-init c = sym (mark-first c.args.bytes.now)

pub loop-at-preserved : goal.loop-at-preserved
loop-at-preserved c = c.loop-at.invariant ∙ mark-later c.args.bytes.now c.loop-at.at c.loop-at-test.true (sym (ap starts_mark c.from.ensures) ∙ sym c.starts_mark.ensures ∙ c.if-starts_mark.false)

pub returns-then-starts_mark-clause-at : goal.returns-then-starts_mark-clause-at
returns-then-starts_mark-clause-at c = sym (c.loop-at.invariant ∙ mark-here c.args.bytes.now c.loop-at.at c.loop-at-test.true (sym (ap starts_mark c.from.ensures) ∙ sym c.starts_mark.ensures ∙ c.if-starts_mark.true))

pub returns-clause-at : goal.returns-clause-at
returns-clause-at c = sym (c.loop-at.invariant ∙ mark-none c.args.bytes.now c.loop-at.at (omega (arith, c.loop-at-test.false)))
