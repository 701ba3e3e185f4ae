use Rattle.std.specs.Prelude.{Some}
use Rattle.hist_cell.specs.History.{entry_by}
use Rattle.hist_cell.proofs.seats.add_entry.Given as goal

-- the entry that the commit adds
abbrev pub ghosts-commit : goal.ghosts-commit
ghosts-commit g a = record { entry = Some (entry_by a.seat.now.me.0 a._call.now.value a._reply.now a._core.now) }
