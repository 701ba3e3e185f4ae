use Rattle.std.specs.Prelude.{None, Some}
use Rattle.place_texts.proofs.PlaceLemmas.{back-below, only-below-part}
use Rattle.place_texts.proofs.places.place_text.Goals as goal

pub returns-in-None-clause-reads : goal.returns-in-None-clause-reads
returns-in-None-clause-reads c = back-below c.args.place.now c.args.below.now None c.in-None.is c.live_text.result c.live_text.ensures

pub returns-in-Some-clause-reads : goal.returns-in-Some-clause-reads
returns-in-Some-clause-reads c = back-below c.args.place.now c.args.below.now (Some c.in-Some.part) c.in-Some.is c.text_in_snapshot.result c.text_in_snapshot.ensures

pub returns-in-None-clause-only : goal.returns-in-None-clause-only
returns-in-None-clause-only c = only-below-part c.args.place.now c.args.below.now None c.in-None.is c.live_text.result c.len.ensures.rule c.live_text.ensures

pub returns-in-Some-clause-only : goal.returns-in-Some-clause-only
returns-in-Some-clause-only c = only-below-part c.args.place.now c.args.below.now (Some c.in-Some.part) c.in-Some.is c.text_in_snapshot.result c.len.ensures.rule c.text_in_snapshot.ensures
