use Rattle.std.proofs.Common.{◌≡◌, [], get_or, arith, ◌∙◌}
use Rattle.edit_ops.proofs.PathText.{one_name_more}
use Rattle.name_images.proofs.fields.text_len.Goals as goal

pub overflow_add-len-in-loop-k : goal.overflow_add-len-in-loop-k
overflow_add-len-in-loop-k c =
    let same : c.as_str.result.now ≡ get_or c.args.path.now c.loop-k.k [] = c.as_str.ensures ∙ c.name.ensures in
    let more = one_name_more c.args.path.now c.loop-k.k c.as_str.result.now c.len-names.ensures.rule (omega arith) same in
    omega (arith, c.loop-k.invariant, more.0, more.1)

pub loop-k-preserved : goal.loop-k-preserved
loop-k-preserved c =
    let same : c.as_str.result.now ≡ get_or c.args.path.now c.loop-k.k [] = c.as_str.ensures ∙ c.name.ensures in
    let more = one_name_more c.args.path.now c.loop-k.k c.as_str.result.now c.len-names.ensures.rule (omega arith) same in
    omega (arith, c.loop-k.invariant, more.0)
