use Rattle.std.proofs.Common.{◌≡◌, inl, inr, refl, ap, ◌∙◌}
use Rattle.command_io.specs.Ends.{status_of}
use Rattle.hk_runs.proofs.HeadlineLemmas.{connection_keeps, unmoved}
use Rattle.hk_runs.proofs.pipe.run_pipe.Goals as goal

pub returns-in-Err-clause-pipe : goal.returns-in-Err-clause-pipe
returns-in-Err-clause-pipe g c = inl (record {
  fault = c.in-Err.fault;
  has_fault = c.read_properties.ensures.fault c.in-Err.fault c.in-Err.is;
  untouched = (refl, (refl, refl, refl, refl));
  status_is = c.status_of.ensures ∙ ap status_of c.ended_by_props.ensures;
})

pub returns-clause-pipe : goal.returns-clause-pipe
returns-clause-pipe g c = inr (record { props = c.in-Ok.props; read = c.in-Ok.ensures.read; pipe = c.pipe_under-status.ensures.pipe })

pub returns-in-Err-clause-headline : goal.returns-in-Err-clause-headline
returns-in-Err-clause-headline g c tells past sound =
    connection_keeps past (g.D.Disk.state c.args.disk.now) (g.D.Disk.state c.args.disk.now) tells sound (c.args.disk.now ≡ c.args.disk.now)
    ((c.args.input.now ≡ c.args.input.now) × (c.args.out.now ≡ c.args.out.now) × (c.args.rand.now ≡ c.args.rand.now) × (c.args.clock.now ≡ c.args.clock.now))
    ((c.args.input.now ≡ c.args.input.now) × (c.args.rand.now ≡ c.args.rand.now) × (c.args.clock.now ≡ c.args.clock.now)) _ _ _ _ _ _ _ _ _
    (record { reads = λ tells file lt. g.met.D.Disk.is_one c.args.disk.now file tells lt; only = g.met.D.Disk.only_now c.args.disk.now; counts = g.met.D.Disk.counts_now c.args.disk.now }) (unmoved g.D.Disk.state c.args.disk.now c.args.disk.now (g.met.D.Disk.only_now c.args.disk.now))
    (λ same. (same.0, same.2, same.3)) (returns-in-Err-clause-pipe g c)

pub returns-clause-headline : goal.returns-clause-headline
returns-clause-headline g c tells past sound =
    connection_keeps past (g.D.Disk.state c.args.disk.now) (g.D.Disk.state c.pipe_under-status.new.disk) tells sound (c.pipe_under-status.new.disk ≡ c.args.disk.now)
    ((c.pipe_under-status.new.input ≡ c.args.input.now) × (c.pipe_under-status.new.out ≡ c.args.out.now) × (c.pipe_under-status.new.rand ≡ c.args.rand.now) × (c.pipe_under-status.new.clock ≡ c.args.clock.now))
    ((c.pipe_under-status.new.input ≡ c.args.input.now) × (c.pipe_under-status.new.rand ≡ c.args.rand.now) × (c.pipe_under-status.new.clock ≡ c.args.clock.now)) _ _ _ _ _ _ _ _ _
    (record { reads = λ tells file lt. g.met.D.Disk.is_one c.args.disk.now file tells lt; only = g.met.D.Disk.only_now c.args.disk.now; counts = g.met.D.Disk.counts_now c.pipe_under-status.new.disk }) (unmoved g.D.Disk.state c.args.disk.now c.pipe_under-status.new.disk (g.met.D.Disk.only_now c.args.disk.now))
    (λ same. (same.0, same.2, same.3)) (returns-clause-pipe g c)
