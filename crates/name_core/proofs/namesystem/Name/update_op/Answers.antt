use Rattle.std.proofs.Common.{false, sym, subst}
use Rattle.std.specs.Prelude.{IsTrue}
use Rattle.std.specs.Option.{option_map_or}
use Rattle.reenc_walk.specs.Walks.{has_batch}
use Rattle.name_core.specs.State.{RunningNames, names_of, walk_under}
use Rattle.name_core.proofs.UpdateLemmas.{has-batch}
use Rattle.name_core.proofs.namesystem.Name.update_op.Goals as goal

pub mark_by-requires : goal.mark_by-requires
mark_by-requires c =
    subst (λ (x : RunningNames). IsTrue (option_map_or (λ w. has_batch w.batches c.args.note.now.sent) (walk_under x.walks c.args.note.now.session) false)) (sym c.self.view_is)
    (has-batch (names_of c.args.self.now) c.args.note.now c.requires)
