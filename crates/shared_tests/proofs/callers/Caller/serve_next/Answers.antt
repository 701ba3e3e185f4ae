use Rattle.shared_tests.proofs.BatchLemmas.{got_after_walk}
use Rattle.shared_tests.proofs.callers.Caller.serve_next.Goals as goal

pub invariant_of-result : goal.invariant_of-result
invariant_of-result g c =
    got_after_walk g.S.Turns.state g.S.Turns.to_come c.walk-walked.result.front (g.S.Turns.keys_seen c.walk-walked.result.keys) (g.S.Turns.keys_seen c.serve_turn-reply.new.pass) c.note_in-note.result c.serve_turn-reply.result c.walk-walked.ensures
    c.serve_turn-reply.ensures
