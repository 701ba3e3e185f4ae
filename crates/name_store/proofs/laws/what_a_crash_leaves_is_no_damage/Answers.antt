use Rattle.name_store.proofs.Layers.{not_damaged}
use Rattle.name_store.proofs.laws.what_a_crash_leaves_is_no_damage.Goals as goal

pub returns : goal.returns
returns c = not_damaged
