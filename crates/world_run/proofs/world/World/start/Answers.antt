use Rattle.std.proofs.Common.{ℕ, subst}
use Rattle.kms_core.specs.Users.{running}
use Rattle.name_core.specs.Service.{Starts as NamesStart}
use Rattle.frame_log.specs.declared.fault.StartFault.TheVariants as start
use Rattle.world_run.proofs.StartLemmas.{begins, both-started, done, failed, failed-at, keys-are-opened, keys-not-started, names-not-started, no-start}
use Rattle.world_run.proofs.StepLemmas.{parts}
use Rattle.world_run.proofs.world.World.start.Goals as goal

pub returns-in-Err-clause-opens : goal.returns-in-Err-clause-opens
returns-in-Err-clause-opens g c = failed-at 0 start.NoMemory (no-start (g.D.Disk.state c.args.disk.now))

pub returns-in-Err-start-clause-opens : goal.returns-in-Err-start-clause-opens
returns-in-Err-start-clause-opens g c =
    let fault = c.in-Err-start.fault in
    failed-at 0 fault
    (keys-not-started (g.D.Disk.state c.args.disk.now) (g.D.Disk.state c.start.new.disk) fault
    (record { counts = g.met.D.Disk.counts_now c.args.disk.now; only = g.met.D.Disk.only_now c.args.disk.now; is_one = λ tells file lt. g.met.D.Disk.is_one c.args.disk.now file tells lt })
    (failed fault c.in-Err-start.ensures.opens))

pub returns-in-Err-start-2-clause-opens : goal.returns-in-Err-start-2-clause-opens
returns-in-Err-start-2-clause-opens g c =
    let D0 = g.D.Disk.state c.args.disk.now in
    let D1 = g.D.Disk.state c.start.new.disk in
    let fault = c.in-Err-start-2.fault in
    failed-at 1 fault
    (names-not-started D0 D1 (g.D.Disk.state c.start-2.new.disk)
    (record { counts = g.met.D.Disk.counts_now c.args.disk.now; only = g.met.D.Disk.only_now c.args.disk.now; is_one = λ tells file lt. g.met.D.Disk.is_one c.args.disk.now file tells lt })
    (record { counts = g.met.D.Disk.counts_now c.start.new.disk; only = g.met.D.Disk.only_now c.start.new.disk; is_one = λ tells file lt. g.met.D.Disk.is_one c.start.new.disk file tells lt })
    (keys-are-opened D0 D1 (running c.in-Ok-start.keys) c.count.ensures.file c.in-Ok-start.ensures.started) (done c.in-Ok-start.keys c.in-Ok-start.ensures.opens)
    fault (failed fault c.in-Err-start-2.ensures.opens))

pub returns-clause-opens : goal.returns-clause-opens
returns-clause-opens g c =
    let D0 = g.D.Disk.state c.args.disk.now in
    let D1 = g.D.Disk.state c.start.new.disk in
    both-started D0 D1 (g.D.Disk.state c.start-2.new.disk)
    (record { counts = g.met.D.Disk.counts_now c.args.disk.now; only = g.met.D.Disk.only_now c.args.disk.now; is_one = λ tells file lt. g.met.D.Disk.is_one c.args.disk.now file tells lt })
    (record { counts = g.met.D.Disk.counts_now c.start.new.disk; only = g.met.D.Disk.only_now c.start.new.disk; is_one = λ tells file lt. g.met.D.Disk.is_one c.start.new.disk file tells lt })
    (keys-are-opened D0 D1 (running c.in-Ok-start.keys) c.count.ensures.file c.in-Ok-start.ensures.started) (done c.in-Ok-start.keys c.in-Ok-start.ensures.opens)
    (λ file fault is. absurd (cc is)) (done c.in-Ok-start-2.names c.in-Ok-start-2.ensures.opens)

pub returns-clause-began : goal.returns-clause-began
returns-clause-began g c =
    begins c.args.props.now.sizes (g.D.Disk.state c.args.disk.now) (g.D.Disk.state c.start.new.disk) (g.D.Disk.state c.start-2.new.disk)
    (parts c.in-Ok-start.keys c.in-Ok-start-2.names c.new.result.items c.new-2.result.items c.new-3.result.items c.new-4.result.items) c.in-Ok-start.ensures.queues
    (record { counts = g.met.D.Disk.counts_now c.args.disk.now; only = g.met.D.Disk.only_now c.args.disk.now; is_one = λ tells file lt. g.met.D.Disk.is_one c.args.disk.now file tells lt })
    c.count.ensures.file c.invariants.ensures.file (record { keys = c.count.ensures.rules; names = c.invariants.ensures.names }) (λ i. record { tickets = c.new.ensures.items i; notes = c.new-2.ensures.items i; batches = c.new-3.ensures.items i; replies = c.new-4.ensures.items i })
    c.in-Ok-start.ensures.opens.run c.start-2.ensures.opens.run c.in-Ok-start.ensures.started
    (subst (λ (n : ℕ). NamesStart n (g.D.Disk.state c.start.new.disk) (g.D.Disk.state c.start-2.new.disk) c.in-Ok-start-2.names) c.batch_size.ensures.size c.in-Ok-start-2.ensures.started)
