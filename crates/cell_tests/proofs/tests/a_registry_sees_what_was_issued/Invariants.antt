use Rattle.cell_tests.proofs.tests.a_registry_sees_what_was_issued.Given as goal

-- the cell that was just made
abbrev pub ghosts-run_registry : goal.ghosts-run_registry
ghosts-run_registry g a = record { table = a.issuer.table }
