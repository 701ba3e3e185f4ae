use Rattle.std.proofs.Common.{◌≡◌, Option, Some, ap, refl, subst}
use Rattle.kms_core.proofs.ServiceLemmas.{rose_since}
use Rattle.command_io.specs.declared.ends.ReplayEnd.{ReplayEnd}
use Rattle.command_io.specs.declared.ends.ReplayEnd.TheVariants as ended
use Rattle.command_io.specs.Ends.{Closes, ended_by}
use Rattle.hk_runs.proofs.BeganLemmas.{not_opened, start_cause, store_ended}
use Rattle.hk_runs.proofs.LastLemmas.{played, stopped_by, unopened}
use Rattle.hk_runs.proofs.replay.replay_under.Goals as goal

pub returns-in-Err-clause-replay : goal.returns-in-Err-clause-replay
returns-in-Err-clause-replay g c =
    unopened c.args.props.now _ (g.D.Disk.state c.args.disk.now) (g.D.Disk.state c.start.new.disk) _ _ _ _ _ c.in-Err.why.file c.in-Err.why.fault c.finish.result (not_opened _ _ c.start.result c.in-Err.why c.in-Err.is c.start.ensures.opens) (refl, refl)
    (subst (λ (e : ReplayEnd). Closes e 0 (g.K.Sink.written c.args.out.now) (g.K.Sink.written c.finish.new.out) c.finish.result) c.ended_by.ensures c.finish.ensures.closes)

pub returns-in-Err-clause-store : goal.returns-in-Err-clause-store
returns-in-Err-clause-store g c is =
    let why = c.in-Err.why in
    let closes : Closes (ended_by why.file why.fault) 0 (g.K.Sink.written c.args.out.now) (g.K.Sink.written c.finish.new.out) c.finish.result =
    subst (λ (e : ReplayEnd). Closes e 0 (g.K.Sink.written c.args.out.now) (g.K.Sink.written c.finish.new.out) c.finish.result) c.ended_by.ensures c.finish.ensures.closes in
    start_cause _ _ why.file why.fault (not_opened _ _ c.start.result why c.in-Err.is c.start.ensures.opens)
    (store_ended why.file why.fault (stopped_by (ended_by why.file why.fault) 0 _ _ c.finish.result ended.StoreFault closes (λ e. cc e) (λ e. cc e) is))

pub returns-in-Ok-clause-replay : goal.returns-in-Ok-clause-replay
returns-in-Ok-clause-replay g c =
    let end = c.replay_in.ensures.ran c.args.props.now.lines c.in-Ok.ensures.lists in
    played c.args.props.now ((c.replay_in.new.input ≡ c.args.input.now) × (c.replay_in.new.rand ≡ c.args.rand.now)) (g.D.Disk.state c.args.disk.now) (g.D.Disk.state c.start.new.disk) (g.D.Disk.state c.replay_in.new.disk) c.in-Ok.world _ _ _ _ _ _ end.stop c.replay_in.result _
    c.in-Ok.ensures.began c.start.ensures.opens.any_moment c.start.ensures.opens.run end.ran end.closes

abbrev some_end : ReplayEnd → Option ReplayEnd
some_end how = Some how

pub returns-in-Ok-clause-read : goal.returns-in-Ok-clause-read
returns-in-Ok-clause-read g c is = c.replay_in.ensures.caused.read (ap some_end is)

pub returns-in-Ok-clause-write : goal.returns-in-Ok-clause-write
returns-in-Ok-clause-write g c is = c.replay_in.ensures.caused.write (ap some_end is)

pub returns-in-Ok-clause-store : goal.returns-in-Ok-clause-store
returns-in-Ok-clause-store g c is =
    rose_since (g.D.Disk.state c.args.disk.now).faults (g.D.Disk.state c.start.new.disk).faults (g.D.Disk.state c.replay_in.new.disk).faults c.start.ensures.opens.run.faults (c.replay_in.ensures.caused.store (ap some_end is))
