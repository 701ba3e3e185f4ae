use Rattle.std.proofs.Common.{refl}
use Rattle.zone_table.proofs.StatusLists.{found-none}
use Rattle.name_core.specs.State.{is_walk_of}
use Rattle.name_core.proofs.UpdateLemmas.{retired-none, retired-placed}
use Rattle.name_core.proofs.updates.retire.Goals as goal

pub returns-in-None : goal.returns-in-None
returns-in-None c = retired-none c.args.session c.args.sent.now c.args.walks.now.items (found-none (is_walk_of c.args.session) c.args.walks.now.items c.in-None.ensures)

pub returns-in-Some : goal.returns-in-Some
returns-in-Some c =
    retired-placed c.args.session c.args.sent.now c.args.walks.now.items c.in-Some.at c.index_mut.result.now c.retire.new.self _ c.in-Some.ensures c.index_mut.ensures.value c.retire.ensures refl
