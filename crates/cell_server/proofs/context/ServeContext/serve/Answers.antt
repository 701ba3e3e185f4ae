use Rattle.std.proofs.Common.{List, subst, sym}
use Rattle.hist_cell.specs.History.{own}
use Rattle.kms_cell.specs.Entries.{KmsEntry}
use Rattle.kms_cell.specs.Steps.{KmsSteps}
use Rattle.kms_cell.specs.Tickets.{KmsAllows}
use Rattle.name_history.specs.Asked.{NameAllows}
use Rattle.name_history.specs.Entries.{NameEntry}
use Rattle.name_history.specs.Steps.{NameSteps}
use Rattle.cell_desk.specs.Connections.{ServedByCells}
use Rattle.turns.proofs.EntryLemmas.{made_own}
use Rattle.cell_server.proofs.CloseLemmas.{serves_closed}
use Rattle.cell_server.proofs.context.ServeContext.serve.Goals as goal

pub returns : goal.returns
returns g c =
    let s = c.serve_cells-ended in
    let e = s.ensures.entries in
    let all_keys = made_own (KmsSteps g.S.Turns.state g.S.Turns.to_come) KmsAllows (g.S.Turns.keys_seen c.args.keys) (g.S.Turns.keys_seen s.result.1) e.0 c.requires.keys e.2 in
    let all_names = made_own (NameSteps g.S.Turns.state g.S.Turns.to_come) NameAllows (g.S.Turns.names_seen c.args.names) (g.S.Turns.names_seen s.result.2) e.1 c.requires.names e.3 in
    record {
      served =
          serves_closed g.I.Source.left g.I.Source.faults g.O.Sink.written g.O.Sink.faults
          c.args.input c.args.out (own (g.S.Turns.keys_seen c.args.keys).number (g.S.Turns.keys_seen s.result.1).seen) (own (g.S.Turns.names_seen c.args.names).number (g.S.Turns.names_seen s.result.2).seen)
          s.new.source s.new.sink s.result.0 c.close_input.new.self c.close_output.new.self
          c.close_input.ensures.left c.close_input.ensures.faults c.close_output.ensures.written c.close_output.ensures.faults
          (record {
            served =
                subst (λ (ks : List (KmsEntry _ _)). ServedByCells (g.I.Source.left c.args.input) (g.O.Sink.written c.args.out) ks (own (g.S.Turns.names_seen c.args.names).number (g.S.Turns.names_seen s.result.2).seen) (g.I.Source.left s.new.source) (g.O.Sink.written s.new.sink) s.result.0)
                (sym all_keys)
                (subst (λ (ns : List (NameEntry _ _)). ServedByCells (g.I.Source.left c.args.input) (g.O.Sink.written c.args.out) e.0 ns (g.I.Source.left s.new.source) (g.O.Sink.written s.new.sink) s.result.0)
                (sym all_names) e.4);
            read_later = s.ensures.read_later;
            read_fault = s.ensures.read_fault;
            write_later = s.ensures.write_later;
            write_fault = s.ensures.write_fault;
          });
      keys_number = e.2.same.0;
      keys_ended = e.2.same.1;
      names_number = e.3.same.0;
      names_ended = e.3.same.1;
    }
