use Rattle.cell_tests.proofs.registering.run_registry.Given as goal

-- the cell that was just made
abbrev pub ghosts-register_in_two : goal.ghosts-register_in_two
ghosts-register_in_two g a = record { table = a.registry.table }
