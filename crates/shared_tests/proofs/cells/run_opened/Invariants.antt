use Rattle.shared_tests.proofs.cells.run_opened.Given as goal

-- the name is that of the cell that was just made
abbrev pub ghosts-run_named : goal.ghosts-run_named
ghosts-run_named g a = record { table = a.cells.names.table }
