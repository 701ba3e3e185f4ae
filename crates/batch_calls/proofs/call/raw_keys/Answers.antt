use Rattle.std.proofs.Common.{◌∙◌, ap, sym}
use Rattle.std.proofs.lemmas.List.{take_all}
use Rattle.batch_calls.specs.Batches.{raw_keys}
use Rattle.batch_calls.proofs.FitLemmas.{one-more-raw}
use Rattle.batch_calls.proofs.call.raw_keys.Goals as goal

pub loop-file-preserved : goal.loop-file-preserved
loop-file-preserved c =
    one-more-raw c.args.sent.now c.loop-file.file-index c.file-item.result c.loop-file.raw _ c.in_ok-key.key c.loop-file-test.true (sym c.file-item.is) c.loop-file.invariant c.in_ok-key.ensures c.in_ok-push.ensures.ok

pub returns : goal.returns
returns c = c.loop-file.invariant ∙ ap raw_keys (take_all c.loop-file.file-index c.args.sent.now c.loop-file-test.false)
