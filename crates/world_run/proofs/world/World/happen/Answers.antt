use Rattle.hk_events.specs.declared.event.Event.TheVariants as event
use Rattle.world_run.proofs.StepLemmas.{ask-happens, deposit-happens, restart-happens, so-happens, submit-happens, ticket-happens, zone-happens}
use Rattle.world_run.proofs.world.World.happen.Goals as goal

pub returns-in-Kms : goal.returns-in-Kms
returns-in-Kms g c lines lists =
    so-happens lines (g.D.Disk.state c.args.disk.now) (g.D.Disk.state c.call_keys.new.disk) c.args.self.now c.call_keys.new.self (g.W.Words.to_come c.args.words.now) (g.W.Words.to_come c.call_keys.new.words) c.args.now c.args.event (event.Kms c.in-Kms.user c.in-Kms.call) c.call_keys.result c.in-Kms.is
    (c.call_keys.ensures lines lists)

pub returns-in-Ticket : goal.returns-in-Ticket
returns-in-Ticket g c lines lists =
    ticket-happens lines (g.D.Disk.state c.args.disk.now) c.args.self.now c.ticket.new.self (g.W.Words.to_come c.args.words.now) c.args.now c.args.event c.ticket.result c.in-Ticket.is
    c.ticket.ensures.keys c.ticket.ensures.names c.ticket.ensures.acts

pub returns-in-Deposit : goal.returns-in-Deposit
returns-in-Deposit g c lines lists =
    deposit-happens lines (g.D.Disk.state c.args.disk.now) c.args.self.now c.deposit.new.self (g.W.Words.to_come c.args.words.now) (g.W.Words.to_come c.deposit.new.words) c.args.now c.args.event c.in-Deposit.ticket c.deposit.result c.in-Deposit.is
    c.deposit.ensures

pub returns-in-RestartKms : goal.returns-in-RestartKms
returns-in-RestartKms g c =
    restart-happens (g.D.Disk.state c.args.disk.now) (g.D.Disk.state c.restart_keys.new.disk) c.args.self.now c.restart_keys.new.self (g.W.Words.to_come c.args.words.now) c.args.now c.args.event event.RestartKms
    c.restart_keys.result c.in-RestartKms.is c.restart_keys.ensures

pub returns-in-RestartName : goal.returns-in-RestartName
returns-in-RestartName g c =
    restart-happens (g.D.Disk.state c.args.disk.now) (g.D.Disk.state c.restart_names.new.disk) c.args.self.now c.restart_names.new.self (g.W.Words.to_come c.args.words.now) c.args.now c.args.event event.RestartName
    c.restart_names.result c.in-RestartName.is c.restart_names.ensures

pub returns-in-Zones : goal.returns-in-Zones
returns-in-Zones g c lines lists =
    so-happens lines (g.D.Disk.state c.args.disk.now) (g.D.Disk.state c.zones.new.disk) c.args.self.now c.zones.new.self (g.W.Words.to_come c.args.words.now) (g.W.Words.to_come c.args.words.now) c.args.now c.args.event (event.Zones c.in-Zones.user) c.zones.result c.in-Zones.is
    (c.zones.ensures (g.W.Words.to_come c.args.words.now))

pub returns-in-AskCreate : goal.returns-in-AskCreate
returns-in-AskCreate g c lines lists =
    ask-happens lines (g.D.Disk.state c.args.disk.now) c.args.self.now c.ask_create.new.self (g.W.Words.to_come c.args.words.now) c.args.now c.args.event c.in-AskCreate.user c.in-AskCreate.path c.ask_create.result c.in-AskCreate.is
    c.ask_create.ensures.keys c.ask_create.ensures.store c.ask_create.ensures.acts

pub returns-in-AskZone : goal.returns-in-AskZone
returns-in-AskZone g c lines lists =
    zone-happens lines (g.D.Disk.state c.args.disk.now) c.args.self.now c.ask_zone.new.self (g.W.Words.to_come c.args.words.now) c.args.now c.args.event c.in-AskZone.user c.in-AskZone.path c.in-AskZone.key c.ask_zone.result c.in-AskZone.is
    c.ask_zone.ensures.keys c.ask_zone.ensures.store c.ask_zone.ensures.acts

pub returns-in-AskSubmit : goal.returns-in-AskSubmit
returns-in-AskSubmit g c lines lists =
    submit-happens lines (g.D.Disk.state c.args.disk.now) c.args.self.now c.ask_submit.new.self (g.W.Words.to_come c.args.words.now) c.args.now c.args.event c.in-AskSubmit.user c.in-AskSubmit.path c.ask_submit.result c.in-AskSubmit.is
    c.ask_submit.ensures.keys c.ask_submit.ensures.store c.ask_submit.ensures.acts

pub returns-in-Draw : goal.returns-in-Draw
returns-in-Draw g c lines lists =
    so-happens lines (g.D.Disk.state c.args.disk.now) (g.D.Disk.state c.draw.new.disk) c.args.self.now c.draw.new.self (g.W.Words.to_come c.args.words.now) (g.W.Words.to_come c.draw.new.words) c.args.now c.args.event (event.Draw c.in-Draw.ask) c.draw.result c.in-Draw.is
    (c.draw.ensures lines lists)

pub returns-in-Finish : goal.returns-in-Finish
returns-in-Finish g c lines lists =
    so-happens lines (g.D.Disk.state c.args.disk.now) (g.D.Disk.state c.finish.new.disk) c.args.self.now c.finish.new.self (g.W.Words.to_come c.args.words.now) (g.W.Words.to_come c.args.words.now) c.args.now c.args.event (event.Finish c.in-Finish.reply) c.finish.result c.in-Finish.is
    (c.finish.ensures (g.W.Words.to_come c.args.words.now))

pub returns-in-Walk : goal.returns-in-Walk
returns-in-Walk g c lines lists =
    so-happens lines (g.D.Disk.state c.args.disk.now) (g.D.Disk.state c.walk.new.disk) c.args.self.now c.walk.new.self (g.W.Words.to_come c.args.words.now) (g.W.Words.to_come c.args.words.now) c.args.now c.args.event (event.Walk c.in-Walk.path) c.walk.result c.in-Walk.is
    (c.walk.ensures (g.W.Words.to_come c.args.words.now))

pub returns-in-Serve : goal.returns-in-Serve
returns-in-Serve g c lines lists =
    so-happens lines (g.D.Disk.state c.args.disk.now) (g.D.Disk.state c.serve.new.disk) c.args.self.now c.serve.new.self (g.W.Words.to_come c.args.words.now) (g.W.Words.to_come c.serve.new.words) c.args.now c.args.event (event.Serve c.in-Serve.batch) c.serve.result c.in-Serve.is
    (c.serve.ensures lines lists)

pub returns-in-Deliver : goal.returns-in-Deliver
returns-in-Deliver g c lines lists =
    so-happens lines (g.D.Disk.state c.args.disk.now) (g.D.Disk.state c.deliver.new.disk) c.args.self.now c.deliver.new.self (g.W.Words.to_come c.args.words.now) (g.W.Words.to_come c.args.words.now) c.args.now c.args.event (event.Deliver c.in-Deliver.reply) c.deliver.result c.in-Deliver.is
    (c.deliver.ensures (g.W.Words.to_come c.args.words.now))

pub returns-in-GiveUp : goal.returns-in-GiveUp
returns-in-GiveUp g c lines lists =
    so-happens lines (g.D.Disk.state c.args.disk.now) (g.D.Disk.state c.give_up.new.disk) c.args.self.now c.give_up.new.self (g.W.Words.to_come c.args.words.now) (g.W.Words.to_come c.args.words.now) c.args.now c.args.event (event.GiveUp c.in-GiveUp.batch) c.give_up.result c.in-GiveUp.is
    (c.give_up.ensures (g.W.Words.to_come c.args.words.now))

pub returns-in_default : goal.returns-in_default
returns-in_default g c lines lists = c.call_at_paths.ensures lines (g.W.Words.to_come c.args.words.now) c.args.now
