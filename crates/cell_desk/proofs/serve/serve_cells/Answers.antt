use Rattle.cell_desk.specs.Connections.{BothKnown}
use Rattle.cell_desk.proofs.ServeLemmas.{served_by_entries, served_over}
use Rattle.cell_desk.proofs.serve.serve_cells.Goals as goal

pub returns-clause-served : goal.returns-clause-served
returns-clause-served g c =
    let before : BothKnown _ _ = record { keys = g.S.Turns.keys_seen c.args.keys; names = g.S.Turns.names_seen c.args.names } in
    served_over g.S.Turns.state g.S.Turns.to_come before c.new-desk.result c.serve_conn-ended.new.desk (g.S.Turns.keys_seen c.into_passes-keys.result.0) (g.S.Turns.names_seen c.into_passes-keys.result.1) (g.I.Source.left c.args.source.now) (g.O.Sink.written c.args.sink.now) (g.I.Source.left c.serve_conn-ended.new.source) (g.O.Sink.written c.serve_conn-ended.new.sink) c.serve_conn-ended.result
    c.new-desk.ensures c.into_passes-keys.ensures.keys c.into_passes-keys.ensures.names c.serve_conn-ended.ensures.served

pub returns-clause-entries : goal.returns-clause-entries
returns-clause-entries g c =
    let before : BothKnown _ _ = record { keys = g.S.Turns.keys_seen c.args.keys; names = g.S.Turns.names_seen c.args.names } in
    let after : BothKnown _ _ = record { keys = g.S.Turns.keys_seen c.into_passes-keys.result.0; names = g.S.Turns.names_seen c.into_passes-keys.result.1 } in
    let served = served_over g.S.Turns.state g.S.Turns.to_come before c.new-desk.result c.serve_conn-ended.new.desk (g.S.Turns.keys_seen c.into_passes-keys.result.0) (g.S.Turns.names_seen c.into_passes-keys.result.1) (g.I.Source.left c.args.source.now) (g.O.Sink.written c.args.sink.now) (g.I.Source.left c.serve_conn-ended.new.source) (g.O.Sink.written c.serve_conn-ended.new.sink) c.serve_conn-ended.result
    c.new-desk.ensures c.into_passes-keys.ensures.keys c.into_passes-keys.ensures.names c.serve_conn-ended.ensures.served in
    served_by_entries g.S.Turns.state g.S.Turns.to_come before after (g.I.Source.left c.args.source.now) (g.O.Sink.written c.args.sink.now) (g.I.Source.left c.serve_conn-ended.new.source) (g.O.Sink.written c.serve_conn-ended.new.sink) served.0 c.serve_conn-ended.result c.count_keys.ensures.legal c.count_names.ensures.legal served.1
