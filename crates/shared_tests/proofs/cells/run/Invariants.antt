use Rattle.shared_tests.proofs.cells.run.Given as goal

-- the name is that of the cell that was just made
abbrev pub ghosts-run_opened : goal.ghosts-run_opened
ghosts-run_opened g a = record { table = a.opening.keys.table }
