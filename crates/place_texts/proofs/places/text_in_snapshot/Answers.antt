use Rattle.std.proofs.Common.{◌∙◌}
use Rattle.place_texts.proofs.PlaceLemmas.{in-snapshot}
use Rattle.place_texts.proofs.places.text_in_snapshot.Goals as goal

pub returns : goal.returns
returns c = in-snapshot c.args.path.now c.args.part.now.below c.args.below.now c.args.part.now.name _ _ _ _ _ _ _ c.new-text.ensures c.in_ok-append_names.ensures c.in_ok-append.ensures.ok c.in_ok-append-2.ensures.ok (c.as_bytes.ensures.value ∙ c.as_str.ensures) c.in_ok-append_names-2.ensures c.in_ok-append_names-3.ensures
