use Rattle.std.proofs.Common.{◌≡◌, None, inl, inr}
use Rattle.name_calls.specs.Paths.{read_path}
use Rattle.place_texts.specs.Places.{read_raw_place}
use Rattle.raw_copy.specs.Refusals.{AreNoTexts}
use Rattle.raw_copy.proofs.RefusalLemmas.{not_read}
use Rattle.raw_copy.proofs.zone.read_texts.Goals as goal

pub returns-in-Err-clause-ends : goal.returns-in-Err-clause-ends
returns-in-Err-clause-ends c = not_read (read_raw_place c.args.from.now ≡ None) (AreNoTexts c.args.from.now c.args.to.now) c.in-Err.end (λ h. inl h) c.in-Err.ensures.ends

pub returns-in-Err-read_to-clause-ends : goal.returns-in-Err-read_to-clause-ends
returns-in-Err-read_to-clause-ends c = not_read (read_path c.args.to.now ≡ None) (AreNoTexts c.args.from.now c.args.to.now) c.in-Err-read_to.end (λ h. inr h) c.in-Err-read_to.ensures.ends
