use Rattle.std.proofs.Common.{◌∙◌, []}
use Rattle.std.proofs.lemmas.List.{get_or_default}
use Rattle.name_calls.proofs.PathLemmas.{text-more}
use Rattle.name_calls.proofs.paths.NPath.append_to.Goals as goal

pub loop-name-preserved : goal.loop-name-preserved
loop-name-preserved c = text-more c.args.out.now c.loop-name.out _ _ c.deref-name-items.result.now c.loop-name.name-index c.as_bytes.result.now c.loop-name-test.true c.loop-name.invariant c.in_ok-push.ensures.ok c.in_ok-append.ensures.ok
    (c.as_bytes.ensures.value ∙ c.as_str.ensures ∙ c.name-item.is ∙ get_or_default c.deref-name-items.result.now c.loop-name.name-index c.name-item.result [] c.loop-name-test.true)
