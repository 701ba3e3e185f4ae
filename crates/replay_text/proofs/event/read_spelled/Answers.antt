use Rattle.replay_text.proofs.CallLemmas.{is_other}
use Rattle.replay_text.proofs.WordLemmas.{number_answered}
use Rattle.replay_text.proofs.event.read_spelled.Goals as goal

pub returns : goal.returns
returns c = number_answered _ _ c.in-Some.rest.now _ (rw c.in-Some.is at c.cut.ensures) (record {
  no_kms = is_other _ _ _ c.as_slice.ensures c.if-eq.ensures;
  no_restart = is_other _ _ _ c.as_slice-2.ensures c.if-eq-2.ensures;
  no_nn = is_other _ _ _ c.as_slice-3.ensures c.if-eq-3.ensures;
  no_ask = is_other _ _ _ c.as_slice-4.ensures c.if-eq-4.ensures;
  no_walk = is_other _ _ _ c.as_slice-5.ensures c.if-eq-5.ensures;
}) c.read_number_event.ensures
