use Rattle.std.proofs.Common.{subst, sym}
use Rattle.name_store.specs.Names.{NamesState}
use Rattle.name_store.specs.Used.{HasFreeIds, is_used}
use Rattle.name_store.proofs.UsedLemmas.{free_ids}
use Rattle.name_store.proofs.replay.take.Goals as goal

pub allows-requires : goal.allows-requires
allows-requires c =
    subst (λ (names : NamesState). HasFreeIds names.table.rows c.args.op.now) (sym c.focus.ensures)
    (free_ids c.args.names.now.table (is_used c.args.used.now) c.args.op.now c.requires (sym c.if-not-fresh.ensures))
