use Rattle.std.proofs.Common.{◌≡◌, ◌∙◌, sym, subst}
use Rattle.hk_base.specs.Disk.{Tells}
use Rattle.world_run.specs.Acknowledged.{Acknowledged, HoldsLogs}
use Rattle.world_run.specs.World.{RunningWorld}
use Rattle.command_io.specs.declared.ends.ReplayEnd.TheVariants as ended
use Rattle.hk_runs.specs.Steps.{HasLists, Ran}
use Rattle.hk_runs.proofs.LastLemmas.{closed_cause, stopped}
use Rattle.hk_runs.proofs.replay.replay_in.Goals as goal

pub run-stop-requires-clause-stands : goal.run-stop-requires-clause-stands
run-stop-requires-clause-stands g c =
    subst (λ (r : RunningWorld). Tells (g.D.Disk.state c.args.disk.now) → (done : Acknowledged) × HoldsLogs (g.D.Disk.state c.args.disk.now) r done)
    (sym c.new-replaying.ensures.world) c.requires.stands

pub returns-clause-ran : goal.returns-clause-ran
returns-clause-ran g c = λ lines has.
    let world_is = c.new-replaying.ensures.world in
    record {
      body = g.K.Sink.written c.run-stop.new.out;
      stop = c.run-stop.result;
      count = c.run-stop.new.self.count;
      ran = subst (λ (r : RunningWorld). Ran lines (g.D.Disk.state c.args.disk.now) (g.D.Disk.state c.run-stop.new.disk) r (g.W.Words.to_come c.args.rand.now) (g.W.Words.to_come c.run-stop.new.words) (g.S.Source.left c.args.input.now) (g.K.Sink.written c.args.out.now) (g.K.Sink.written c.run-stop.new.out) c.run-stop.result c.run-stop.new.self.count) world_is
          (c.run-stop.ensures.ran lines (subst (λ (r : RunningWorld). HasLists r lines) (sym world_is) has));
      closes = c.finish.ensures.closes;
    }

pub returns-clause-caused : goal.returns-clause-caused
returns-clause-caused g c = closed_cause _ _ _ _ _ _ _ c.run-stop.result _ _ _ _ c.finish.ensures.closes c.run-stop.ensures.caused c.finish.ensures.later c.finish.ensures.write

pub returns-clause-end : goal.returns-clause-end
returns-clause-end g c = λ done.
    let none : (c.finish.result ≡ ended.NoMemory) → ⊥ = λ e. let no : ended.Done ≡ ended.NoMemory = sym done ∙ e in cc in
    let written : (c.finish.result ≡ ended.WriteFault) → ⊥ = λ e. let no : ended.Done ≡ ended.WriteFault = sym done ∙ e in cc in
    c.run-stop.ensures.end (stopped _ _ _ _ _ c.finish.ensures.closes none written ∙ done)
