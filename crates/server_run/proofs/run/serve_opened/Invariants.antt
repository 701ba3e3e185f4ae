use Rattle.server_run.proofs.run.serve_opened.Given as goal

-- the name is that of the cell that was just made
abbrev pub ghosts-serve_named : goal.ghosts-serve_named
ghosts-serve_named g a = record { table = a.cells.names.table }
