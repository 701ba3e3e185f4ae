use Rattle.std.proofs.Common.{◌≡◌, ap, ⊎_elim}
use Rattle.command_io.proofs.UsageLemmas.{status_is_no_usage}
use Rattle.command_line.specs.declared.order.Order.TheVariants.{Check, Load, Pipe, Replay, Serve}
use Rattle.hk_runs.proofs.HeadlineLemmas.{unmoved}
use Rattle.hkms_commands.proofs.CheckLemmas.{check_is_no_usage}
use Rattle.hkms_commands.proofs.LoadLemmas.{load_is_no_usage}
use Rattle.hkms_commands.proofs.OrderLemmas.{by_logs, carried_out, helps_so, in_yard_alone, named_so, obeyed, order_keeps, over_disk, pipe_order_keeps, serving_named, unless_checked, usage_only, versions_so}
use Rattle.hk_runs.proofs.PipeLemmas.{pipe_is_no_usage}
use Rattle.hkms_commands.proofs.ServerHeadlineLemmas.{serve_keeps, unread_keeps, unread_wants}
use Rattle.server_command.proofs.ServeLemmas.{server_is_no_usage}
use Rattle.hkms_commands.proofs.command.hkms.Goals as goal

pub returns-clause-usage_only : goal.returns-clause-usage_only
returns-clause-usage_only g c = usage_only c.read_order-order.result c.args.words.now _ _ _ _ _ _ _ _ c.obey.result c.read_order-order.ensures.usage c.obey.ensures.obeys (λ replays. status_is_no_usage _ replays.0 replays.1)
    (λ pipes. pipe_is_no_usage _ _ _ _ _ _ _ _ _ _ _ _ _ pipes) (λ port conns serves. server_is_no_usage _ _ _ _ _ _ _ _ _ _ _ _ _ _ _ _ _ serves.0)
    (λ count loads. load_is_no_usage _ count _ _ _ _ _ loads.0) (λ checks. check_is_no_usage (g.D.Disk.state c.args.disk.now) (g.D.Disk.state c.obey.new.disk) _ _ _ checks.0)

pub returns-clause-help : goal.returns-clause-help
returns-clause-help g c =
    ⊎_elim (λ help. helps_so c.read_order-order.result _ _ _ _ _ _ _ _ c.obey.result (c.read_order-order.ensures.help help) c.obey.ensures.obeys)
    (λ version. versions_so c.read_order-order.result _ _ _ _ _ _ _ _ c.obey.result (c.read_order-order.ensures.version version) c.obey.ensures.obeys)

pub returns-clause-headline : goal.returns-clause-headline
returns-clause-headline g c names tells past sound =
    order_keeps past (g.D.Disk.state c.args.disk.now) (g.D.Disk.state c.obey.new.disk) tells sound (c.obey.new.disk ≡ c.args.disk.now) (c.obey.new.acls ≡ c.args.acls.now) (c.obey.new.input ≡ c.args.input.now)
    (c.obey.new.rand ≡ c.args.rand.now) (c.obey.new.clock ≡ c.args.clock.now) _ _ _ _ _ _ _ _ _ _ _ _ c.obey.result c.read_order-order.result
    (record { reads = λ tells file lt. g.met.D.Disk.is_one c.args.disk.now file tells lt; only = g.met.D.Disk.only_now c.args.disk.now; counts = g.met.D.Disk.counts_now c.obey.new.disk }) (unmoved g.D.Disk.state c.args.disk.now c.obey.new.disk (g.met.D.Disk.only_now c.args.disk.now))
    (named_so c.read_order-order.result c.args.words.now c.read_order-order.ensures.ok c.read_order-order.ensures.usage Replay names) c.obey.ensures.obeys

pub returns-clause-headline_pipe : goal.returns-clause-headline_pipe
returns-clause-headline_pipe g c names tells past sound =
    pipe_order_keeps past (g.D.Disk.state c.args.disk.now) (g.D.Disk.state c.obey.new.disk) tells sound (c.obey.new.disk ≡ c.args.disk.now) (c.obey.new.acls ≡ c.args.acls.now) (c.obey.new.input ≡ c.args.input.now)
    (c.obey.new.out ≡ c.args.out.now) (c.obey.new.rand ≡ c.args.rand.now) (c.obey.new.clock ≡ c.args.clock.now) _ _ _ _ _ _ _ _ _ _ _ _ c.obey.result c.read_order-order.result
    (record { reads = λ tells file lt. g.met.D.Disk.is_one c.args.disk.now file tells lt; only = g.met.D.Disk.only_now c.args.disk.now; counts = g.met.D.Disk.counts_now c.obey.new.disk }) (unmoved g.D.Disk.state c.args.disk.now c.obey.new.disk (g.met.D.Disk.only_now c.args.disk.now))
    (named_so c.read_order-order.result c.args.words.now c.read_order-order.ensures.ok c.read_order-order.ensures.usage Pipe names) c.obey.ensures.obeys

pub returns-clause-idle : goal.returns-clause-idle
returns-clause-idle g c = serving_named c.read_order-order.result c.args.words.now _ c.read_order-order.ensures.ok c.obey.ensures.idle

pub returns-clause-replay : goal.returns-clause-replay
returns-clause-replay g c names =
    obeyed c.read_order-order.result Replay _ _ _ _ _ _ _ _ c.obey.result (named_so c.read_order-order.result c.args.words.now c.read_order-order.ensures.ok c.read_order-order.ensures.usage Replay names) c.obey.ensures.obeys

pub returns-clause-pipe : goal.returns-clause-pipe
returns-clause-pipe g c names =
    obeyed c.read_order-order.result Pipe _ _ _ _ _ _ _ _ c.obey.result (named_so c.read_order-order.result c.args.words.now c.read_order-order.ensures.ok c.read_order-order.ensures.usage Pipe names) c.obey.ensures.obeys

pub returns-clause-serve : goal.returns-clause-serve
returns-clause-serve g c port conns places names =
    obeyed c.read_order-order.result (Serve port conns places) _ _ _ _ _ _ _ _ c.obey.result (named_so c.read_order-order.result c.args.words.now c.read_order-order.ensures.ok c.read_order-order.ensures.usage (Serve port conns places) names) c.obey.ensures.obeys

pub returns-clause-load : goal.returns-clause-load
returns-clause-load g c count names =
    obeyed c.read_order-order.result (Load count) _ _ _ _ _ _ _ _ c.obey.result (named_so c.read_order-order.result c.args.words.now c.read_order-order.ensures.ok c.read_order-order.ensures.usage (Load count) names) c.obey.ensures.obeys

pub returns-clause-check : goal.returns-clause-check
returns-clause-check g c names =
    obeyed c.read_order-order.result Check _ _ _ _ _ _ _ _ c.obey.result (named_so c.read_order-order.result c.args.words.now c.read_order-order.ensures.ok c.read_order-order.ensures.usage Check names) c.obey.ensures.obeys

pub returns-clause-headline_serve : goal.returns-clause-headline_serve
returns-clause-headline_serve g c port conns places names tells past sound =
    ⊎_elim
    (λ is. serve_keeps _ _ _ _ ((c.obey.new.yard ≡ c.args.yard.now) × (c.obey.new.door ≡ c.args.door.now) × (c.obey.new.rand ≡ c.args.rand.now)) past port conns _ _ _ _
    (g.Y.Yard.state c.args.yard.now) (g.Y.Yard.state c.obey.new.yard) _ _ _ _ c.obey.result tells sound (λ same. ap g.Y.Yard.state same.0)
    (carried_out c.read_order-order.result (Serve port conns places) _ _ _ _ _ _ _ _ c.obey.result is c.obey.ensures.obeys).0)
    (λ is. unread_keeps _ _ _
    (((c.obey.new.disk ≡ c.args.disk.now) × (c.obey.new.acls ≡ c.args.acls.now) × (c.obey.new.input ≡ c.args.input.now) × (c.obey.new.rand ≡ c.args.rand.now) × (c.obey.new.clock ≡ c.args.clock.now))
    × ((c.obey.new.yard ≡ c.args.yard.now) × (c.obey.new.door ≡ c.args.door.now)))
    _ past port conns _ _ _ (g.W.Words.to_come c.obey.new.rand)
    (g.Y.Yard.state c.args.yard.now) (g.Y.Yard.state c.obey.new.yard) _ _ _ _ c.obey.result tells sound (λ same. ap g.Y.Yard.state same.1.0)
    (unread_wants c.read_order-order.result _ _ _ _ _ _ _ _ _ c.obey.result is c.obey.ensures.obeys c.obey.ensures.idle))
    (named_so c.read_order-order.result c.args.words.now c.read_order-order.ensures.ok c.read_order-order.ensures.usage (Serve port conns places) names)

pub returns-clause-read : goal.returns-clause-read
returns-clause-read g c seven = unless_checked (by_logs c.read_order-order.result c.args.words.now _ _ _ c.read_order-order.ensures.ok (c.obey.ensures.read seven))

pub returns-clause-store : goal.returns-clause-store
returns-clause-store g c five = over_disk (by_logs c.read_order-order.result c.args.words.now _ _ _ c.read_order-order.ensures.ok (c.obey.ensures.store five))

pub returns-clause-door : goal.returns-clause-door
returns-clause-door g c nine = in_yard_alone (unless_checked (by_logs c.read_order-order.result c.args.words.now _ _ _ c.read_order-order.ensures.ok (c.obey.ensures.door nine)))
