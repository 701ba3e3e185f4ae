use Rattle.cell_desk.proofs.AskLemmas.{ask_finished, has_noted, not_asked}
use Rattle.cell_desk.proofs.asks.carry_out.Goals as goal

pub finish_asked-requires-clause-new : goal.finish_asked-requires-clause-new
finish_asked-requires-clause-new g c = (g.S.Turns.keys_seen c.args.keys.now, c.split_keys-split.ensures.new)

pub finish_asked-requires-clause-noted : goal.finish_asked-requires-clause-noted
finish_asked-requires-clause-noted g c =
    has_noted g.S.Turns.state g.S.Turns.to_come (g.S.Turns.names_seen c.args.names.now) (g.S.Turns.names_seen c.ask_names.new.pass) c.args.user c.args.ask c.ask_names.result c.in-Ok.note c.ask_names.ensures c.in-Ok.is

pub returns-in-Ok : goal.returns-in-Ok
returns-in-Ok g c =
    ask_finished g.S.Turns.state g.S.Turns.to_come (g.S.Turns.keys_seen c.args.keys.now) (g.S.Turns.keys_seen c.split_keys-split.new.pass) (g.S.Turns.names_seen c.args.names.now) (g.S.Turns.names_seen c.ask_names.new.pass) (g.S.Turns.names_seen c.finish_asked.new.names) c.args.user c.args.ask c.ask_names.result
    c.in-Ok.note c.finish_asked.result c.finish_reply.result c.count_keys.ensures.legal c.split_keys-split.ensures.same c.ask_names.ensures c.in-Ok.is c.finish_asked.ensures c.finish_reply.ensures

pub returns-in-Err : goal.returns-in-Err
returns-in-Err g c =
    not_asked g.S.Turns.state g.S.Turns.to_come (g.S.Turns.keys_seen c.args.keys.now) (g.S.Turns.keys_seen c.split_keys-split.new.pass) (g.S.Turns.names_seen c.args.names.now) (g.S.Turns.names_seen c.ask_names.new.pass) c.args.user c.args.ask c.ask_names.result c.in-Err.why c.count_keys.ensures.legal
    c.split_keys-split.ensures.same c.ask_names.ensures c.in-Err.is
