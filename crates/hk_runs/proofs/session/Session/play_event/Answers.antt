use Rattle.hk_runs.proofs.SessionLemmas.{event_plays}
use Rattle.hk_runs.proofs.session.Session.play_event.Goals as goal

pub returns-in-Ok-clause-plays : goal.returns-in-Ok-clause-plays
returns-in-Ok-clause-plays g c = λ lines has.
    event_plays lines (g.D.Disk.state c.args.disk.now) (g.D.Disk.state c.step.new.disk) c.args.self.now.world c.step.new.self c.tell_line.new.self.world (g.W.Words.to_come c.args.words.now) (g.W.Words.to_come c.step.new.words)
    c.args.self.now.events c.tell_line.new.self.events (g.K.Sink.written c.args.out.now) (g.K.Sink.written c.tell_line.new.out) c.args.event c.in-Ok.reply c.tell_line.result
    (c.in-Ok.ensures lines has) c.tell_line.ensures.tells c.tell_line.ensures.world c.tell_line.ensures.counted
