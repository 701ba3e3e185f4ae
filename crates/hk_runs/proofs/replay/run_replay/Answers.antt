use Rattle.std.proofs.Common.{◌≡◌, refl, subst}
use Rattle.command_io.specs.declared.ends.ReplayEnd.{ReplayEnd}
use Rattle.command_io.specs.Ends.{Closes}
use Rattle.hk_runs.proofs.HeadlineLemmas.{replay_keeps, unmoved}
use Rattle.hk_runs.proofs.LastLemmas.{bad_properties, has_read}
use Rattle.hk_runs.proofs.replay.run_replay.Goals as goal

pub returns-in-Err-clause-replay : goal.returns-in-Err-clause-replay
returns-in-Err-clause-replay g c = (
  c.finish.result,
  c.status_of.ensures,
  bad_properties _ _ _ _ _ _ _ _ _ _ _ c.in-Err.fault c.finish.result (c.read_properties.ensures.fault c.in-Err.fault c.in-Err.is) (refl, (refl, refl))
      (subst (λ (e : ReplayEnd). Closes e 0 (g.K.Sink.written c.args.out.now) (g.K.Sink.written c.finish.new.out) c.finish.result) c.ended_by_props.ensures c.finish.ensures.closes),
)

pub returns-clause-replay : goal.returns-clause-replay
returns-clause-replay g c = (c.replay_under-end.result, c.status_of-2.ensures, has_read _ _ _ _ _ _ _ _ _ _ _ _ _ c.in-Ok.ensures.read c.replay_under-end.ensures.replay)

pub returns-in-Err-clause-headline : goal.returns-in-Err-clause-headline
returns-in-Err-clause-headline g c tells past sound =
    let r = returns-in-Err-clause-replay g c in
    replay_keeps past (g.D.Disk.state c.args.disk.now) (g.D.Disk.state c.args.disk.now) tells sound (c.args.disk.now ≡ c.args.disk.now) ((c.args.input.now ≡ c.args.input.now) × (c.args.rand.now ≡ c.args.rand.now)) _ _ _ _ _ _ _ r.0 _
    (record { reads = λ tells file lt. g.met.D.Disk.is_one c.args.disk.now file tells lt; only = g.met.D.Disk.only_now c.args.disk.now; counts = g.met.D.Disk.counts_now c.args.disk.now }) r.1 (unmoved g.D.Disk.state c.args.disk.now c.args.disk.now (g.met.D.Disk.only_now c.args.disk.now)) r.2

pub returns-clause-headline : goal.returns-clause-headline
returns-clause-headline g c tells past sound =
    let r = returns-clause-replay g c in
    replay_keeps past (g.D.Disk.state c.args.disk.now) (g.D.Disk.state c.replay_under-end.new.disk) tells sound (c.replay_under-end.new.disk ≡ c.args.disk.now)
    ((c.replay_under-end.new.input ≡ c.args.input.now) × (c.replay_under-end.new.rand ≡ c.args.rand.now)) _ _ _ _ _ _ _ r.0 _
    (record { reads = λ tells file lt. g.met.D.Disk.is_one c.args.disk.now file tells lt; only = g.met.D.Disk.only_now c.args.disk.now; counts = g.met.D.Disk.counts_now c.replay_under-end.new.disk }) r.1
    (unmoved g.D.Disk.state c.args.disk.now c.replay_under-end.new.disk (g.met.D.Disk.only_now c.args.disk.now)) r.2
