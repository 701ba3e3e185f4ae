use Rattle.std.proofs.Common.{rules, ◌≡◌, false, sym, ap, ◌∙◌}
use Rattle.edit_ops.proofs.RecordLemmas.{one_spelling}
use Rattle.edit_log.specs.Replay.{in_turn}
use Rattle.edit_log.proofs.replay.next_op.Goals as goal

pub returns-then-not-is_in_turn : goal.returns-then-not-is_in_turn
returns-then-not-is_in_turn c op has spells =
    let same = one_spelling c.in-Ok.op op c.in-Ok.ensures.read.0 has (sym c.in-Ok.ensures.read.1 ∙ spells) in
    let out : in_turn c.args.last c.in-Ok.op ≡ false = search rules in
    ap (in_turn c.args.last) (sym same) ∙ out
