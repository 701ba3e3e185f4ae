use Rattle.server_run.proofs.run.serve_opened.Goals as goal

pub returns-in-Ok-clause-ran : goal.returns-in-Ok-clause-ran
returns-in-Ok-clause-ran g c = (
  c.in-Ok.cells.names.core,
  c.in-Ok.ensures.names.0,
  c.in-Ok.ensures.names.1,
  c.serve_named.ensures.ran c.args.opening.keys.core (record { keys_begin = c.in-Ok.ensures.keys; kept_begins = c.in-Ok.ensures.kept; no_fronts = c.in-Ok.ensures.names.2 }),
)
