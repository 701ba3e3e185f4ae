use Rattle.server_tests.proofs.services.serve.Given as goal

-- the name is that of the cell that was just made
abbrev pub ghosts-serve_opened : goal.ghosts-serve_opened
ghosts-serve_opened g a = record { table = a.opening.keys.table }
