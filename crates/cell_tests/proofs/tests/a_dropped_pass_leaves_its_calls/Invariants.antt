use Rattle.cell_tests.proofs.tests.a_dropped_pass_leaves_its_calls.Given as goal

-- the cell that was just made
abbrev pub ghosts-count_and_drop : goal.ghosts-count_and_drop
ghosts-count_and_drop g a = record { table = a.opened.table }
