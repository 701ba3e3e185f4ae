use Rattle.std.proofs.Common.{arith, inl, inr}
use Rattle.key_index.proofs.NextPlaces.{next_of_last}
use Rattle.key_index.proofs.RunLemmas.{last_run_pushed}
use Rattle.key_index.proofs.runs.try_push_to_last.Goals as goal

pub returns-clause-pushed : goal.returns-clause-pushed
returns-clause-pushed c = last_run_pushed c.try_push.result c.args.runs.now.items _ c.index_mut-last.result.now c.try_push.new.self c.args.place (omega arith) c.index_mut-last.ensures.value c.try_push.ensures.pushed

pub returns-clause-next : goal.returns-clause-next
returns-clause-next c g = elim (next_of_last c.args.runs.now.items _ c.index_mut-last.result.now c.args.place (omega arith) c.index_mut-last.ensures.value c.requires g) [
  | inl on ↦ c.try_push.ensures.next on
  | inr second ↦ c.try_push.ensures.second second
]
