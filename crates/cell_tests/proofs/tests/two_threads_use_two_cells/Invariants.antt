use Rattle.cell_tests.proofs.tests.two_threads_use_two_cells.Given as goal

-- each name is that of one of the cells that were just made

abbrev pub ghosts-run_workers-N-Naming : goal.ghosts-run_workers-N-Naming
ghosts-run_workers-N-Naming g a = record { table = a.issuer.table }

abbrev pub ghosts-run_workers-M-Naming : goal.ghosts-run_workers-M-Naming
ghosts-run_workers-M-Naming g a = record { table = a.counter.table }
