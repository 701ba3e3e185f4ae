use Rattle.std.proofs.Common.{◌∙◌, sym}
use Rattle.cell_workers.proofs.RoundLemmas.{got_after_walk, lent_by_walk, walk_lacked, walked_once, walks_ended, walks_on}
use Rattle.cell_workers.proofs.walks.walk_once.Goals as goal

pub returns-in_err-lent : goal.returns-in_err-lent
returns-in_err-lent g c =
    walk_lacked g.S.Turns.state g.S.Turns.to_come (g.S.Turns.names_seen c.args.names.now) (g.S.Turns.names_seen c.walk_turn.new.pass) c.args.zone c.from_residual.result c.count_names.ensures.legal c.in_err-lent.ensures.none c.from_residual.ensures.0

pub returns-in_default : goal.returns-in_default
returns-in_default g c =
    walked_once g.S.Turns.state g.S.Turns.to_come (g.S.Turns.names_seen c.args.names.now) (g.S.Turns.names_seen c.walk_turn.new.pass) (g.S.Turns.keys_seen c.in_ok-lent.lent.keys) c.args.zone c.in_ok-lent.lent.walked c.in_ok-lent.lent.front c.in_ok-lent.ensures.lent
    (sym c.batch_of.ensures ∙ c.in_default.is)

pub update_turn-requires : goal.update_turn-requires
update_turn-requires g c =
    let is_lent = lent_by_walk g.S.Turns.state g.S.Turns.to_come (g.S.Turns.names_seen c.args.names.now) (g.S.Turns.names_seen c.walk_turn.new.pass) (g.S.Turns.keys_seen c.in_ok-lent.lent.keys) c.args.zone c.in_ok-lent.lent.walked c.in_ok-lent.lent.front c.in_ok-lent.ensures.lent in
    record {
      got = got_after_walk g.S.Turns.state g.S.Turns.to_come c.in_ok-lent.lent.front (g.S.Turns.keys_seen c.in_ok-lent.lent.keys) (g.S.Turns.keys_seen c.serve_turn-reply.new.pass) c.in-Some.batch c.serve_turn-reply.result is_lent c.serve_turn-reply.ensures;
    }

pub returns-in-Ok : goal.returns-in-Ok
returns-in-Ok g c =
    walks_on g.S.Turns.state g.S.Turns.to_come (g.S.Turns.names_seen c.args.names.now) (g.S.Turns.names_seen c.walk_turn.new.pass) (g.S.Turns.names_seen c.update_turn.new.names) (g.S.Turns.keys_seen c.in_ok-lent.lent.keys) (g.S.Turns.keys_seen c.serve_turn-reply.new.pass) c.args.zone c.in_ok-lent.lent.walked
    c.in_ok-lent.lent.front c.in-Some.batch c.serve_turn-reply.result c.update_turn.result c.in-Ok.field-0
    c.in_ok-lent.ensures.lent (sym c.batch_of.ensures ∙ c.in-Some.is) c.serve_turn-reply.ensures c.update_turn.ensures c.in-Ok.is

pub returns-in-Err : goal.returns-in-Err
returns-in-Err g c =
    walks_ended g.S.Turns.state g.S.Turns.to_come (g.S.Turns.names_seen c.args.names.now) (g.S.Turns.names_seen c.walk_turn.new.pass) (g.S.Turns.names_seen c.update_turn.new.names) (g.S.Turns.keys_seen c.in_ok-lent.lent.keys) (g.S.Turns.keys_seen c.serve_turn-reply.new.pass) c.args.zone c.in_ok-lent.lent.walked
    c.in_ok-lent.lent.front c.in-Some.batch c.serve_turn-reply.result c.update_turn.result c.in-Err.field-0
    c.in_ok-lent.ensures.lent (sym c.batch_of.ensures ∙ c.in-Some.is) c.serve_turn-reply.ensures c.update_turn.ensures c.in-Err.is
