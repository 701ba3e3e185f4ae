use Rattle.replay_text.proofs.NameLemmas.{event_answered, zones_answered}
use Rattle.replay_text.proofs.event.read_name_event.Goals as goal

pub returns-in-None : goal.returns-in-None
returns-in-None c = zones_answered _ _ _ _ c.read_zones.result (rw c.in-Some.is at c.cut.ensures) (rw c.in-None.is at c.cut-2.ensures) c.read_zones.ensures

pub returns-in-Some-rest : goal.returns-in-Some-rest
returns-in-Some-rest c = event_answered _ _ _ _ _ c.read_path_event.result (rw c.in-Some.is at c.cut.ensures) (rw c.in-Some-rest.is at c.cut-2.ensures) c.read_path_event.ensures
