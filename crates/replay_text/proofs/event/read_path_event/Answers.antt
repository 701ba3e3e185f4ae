use Rattle.replay_text.proofs.NameLemmas.{path_answered, two_fields_answered}
use Rattle.replay_text.proofs.event.read_path_event.Goals as goal

pub returns-in-None : goal.returns-in-None
returns-in-None c = path_answered _ _ _ _ c.read_path_call.result (rw c.in-None.is at c.cut.ensures) c.read_path_call.ensures

pub returns-in-Some : goal.returns-in-Some
returns-in-Some c = two_fields_answered _ _ _ _ c.in-Some.rest.now c.read_two_field_call.result (rw c.in-Some.is at c.cut.ensures) c.read_two_field_call.ensures
