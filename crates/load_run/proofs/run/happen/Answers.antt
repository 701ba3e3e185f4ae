use Rattle.hk_events.specs.declared.event.Line.{Line}
use Rattle.world_run.specs.Drives.{Leads}
use Rattle.world_run.specs.Ready.{IsReady}
use Rattle.load_run.specs.Props.{open_lines}
use Rattle.load_run.proofs.OkLemmas.{ok_any, ok_same}
use Rattle.load_run.proofs.ReadyLemmas.{ready_after}
use Rattle.load_run.proofs.run.happen.Goals as goal

pub returns-in-Ok-clause-leads : goal.returns-in-Ok-clause-leads
returns-in-Ok-clause-leads g c =
    ok_same (λ (answer : Line). Leads g.D.Disk.state g.W.Words.to_come open_lines 0 (record { disk = c.args.disk.now; world = c.args.world.now; words = c.args.words.now }) c.args.event answer (record { disk = c.step.new.disk; world = c.step.new.self; words = c.step.new.words }))
    c.unless_lacking.result c.in-Ok.answer c.unless_lacking.ensures.same (c.in-Ok.ensures open_lines c.requires.ready.lists)

pub returns-in-Ok-clause-ready : goal.returns-in-Ok-clause-ready
returns-in-Ok-clause-ready g c =
    ok_any (IsReady open_lines (g.D.Disk.state c.step.new.disk) c.step.new.self) c.unless_lacking.result
    (ready_after open_lines (g.D.Disk.state c.args.disk.now) (g.D.Disk.state c.step.new.disk) c.args.world.now (g.W.Words.to_come c.args.words.now) 0 c.args.event c.in-Ok.answer c.step.new.self (g.W.Words.to_come c.step.new.words)
    c.requires.ready (c.in-Ok.ensures open_lines c.requires.ready.lists))
