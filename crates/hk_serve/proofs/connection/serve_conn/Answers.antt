use Rattle.hk_serve.proofs.ConnectionLemmas.{from_start}
use Rattle.hk_serve.proofs.connection.serve_conn.Goals as goal

pub returns-clause-served : goal.returns-clause-served
returns-clause-served g c = (
  c.run.new.self.buffer,
  from_start g.E.Desk.answers c.new-connection.result.buffer (g.S.Source.left c.args.source.now) (g.K.Sink.written c.args.sink.now) c.args.desk.now _ c.run.result c.new-connection.ensures.buffer c.run.ensures.served,
)
