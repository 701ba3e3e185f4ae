use Rattle.cell_tests.proofs.tests.ten_thousand_calls.Given as goal

-- the cell that was just made
abbrev pub ghosts-count_in_threads : goal.ghosts-count_in_threads
ghosts-count_in_threads g a = record { table = a.opened.table }
