use Rattle.std.proofs.Common.{◌∙◌}
use Rattle.place_texts.proofs.PlaceLemmas.{live-more, live-root}
use Rattle.place_texts.proofs.places.live_text.Goals as goal
use Rattle.place_texts.proofs.places.live_text.Goals.{then-is_empty+in_ok-push, else-is_empty}

pub returns : goal.returns
returns c = elim c.if-is_empty.branch [
  | then-is_empty+in_ok-push w ↦ live-root c.args.path.now c.args.below.now _ _ _ _ c.new-text.ensures c.in_ok-append_names.ensures c.in_ok-append_names-2.ensures (c.is_empty.ensures.0 w.if-is_empty.true) (w.text-is ∙ w.in_ok-push.ensures.ok)
  | else-is_empty w ↦ w.text-is ∙ live-more c.args.path.now c.args.below.now _ _ _ c.new-text.ensures c.in_ok-append_names.ensures c.in_ok-append_names-2.ensures (λ none. let yes = c.is_empty.ensures.1 none in let no = w.if-is_empty.false in absurd cc)
]
