use Rattle.std.proofs.Common.{refl}
use Rattle.hk_events.specs.declared.event.Event.TheVariants as event
use Rattle.name_calls.specs.Paths.{path_text}
use Rattle.world_run.proofs.DriveRuns.{drive-begins, drive-ends, drive-follows, drive-gives-up, drive-happens}
use Rattle.world_run.proofs.world.World.drive.Goals as goal

pub returns-in_default : goal.returns-in_default
returns-in_default g c =
    drive-gives-up g.D.Disk.state g.W.Words.to_come c.args.now c.args.zone.now (record { disk = c.args.disk.now; world = c.args.self.now; words = c.args.words.now }) (event.Walk (path_text c.args.zone.now)) (record { disk = c.args.disk.now; world = c.args.self.now; words = c.args.words.now })
    c.fits.ensures.fits
    (drive-begins g.D.Disk.state g.W.Words.to_come c.args.now c.args.zone.now (record { disk = c.args.disk.now; world = c.args.self.now; words = c.args.words.now }) (event.Walk (path_text c.args.zone.now)) refl c.requires.stands)

pub events-init : goal.events-init
events-init g c =
    drive-begins g.D.Disk.state g.W.Words.to_come c.args.now c.args.zone.now (record { disk = c.args.disk.now; world = c.args.self.now; words = c.args.words.now }) c.in-Some.event c.in-Some.ensures.event c.requires.stands

pub returns-in-None : goal.returns-in-None
returns-in-None g c =
    drive-ends g.D.Disk.state g.W.Words.to_come c.args.now c.args.zone.now (record { disk = c.args.disk.now; world = c.args.self.now; words = c.args.words.now }) c.answer-answer.result
    (record { disk = c.answer-answer.new.disk; world = c.answer-answer.new.self; words = c.answer-answer.new.words }) c.result_of-walked.result c.result_of-walked.ensures
    (drive-happens g.D.Disk.state g.W.Words.to_come c.args.now c.args.zone.now (record { disk = c.args.disk.now; world = c.args.self.now; words = c.args.words.now }) c.events.event
    (record { disk = c.events.disk; world = c.events.self; words = c.events.words }) c.answer-answer.result (record { disk = c.answer-answer.new.disk; world = c.answer-answer.new.self; words = c.answer-answer.new.words })
    c.walk_event.ensures.rule c.fits.ensures.fits c.answer-answer.ensures.fits c.requires.lists c.events.invariant c.answer-answer.ensures.steps)

pub events-preserved : goal.events-preserved
events-preserved g c =
    drive-follows g.D.Disk.state g.W.Words.to_come c.args.now c.args.zone.now (record { disk = c.args.disk.now; world = c.args.self.now; words = c.args.words.now }) c.answer-answer.result c.in-Some-next_event.next
    (record { disk = c.answer-answer.new.disk; world = c.answer-answer.new.self; words = c.answer-answer.new.words })
    (drive-happens g.D.Disk.state g.W.Words.to_come c.args.now c.args.zone.now (record { disk = c.args.disk.now; world = c.args.self.now; words = c.args.words.now }) c.events.event
    (record { disk = c.events.disk; world = c.events.self; words = c.events.words }) c.answer-answer.result (record { disk = c.answer-answer.new.disk; world = c.answer-answer.new.self; words = c.answer-answer.new.words })
    c.walk_event.ensures.rule c.fits.ensures.fits c.answer-answer.ensures.fits c.requires.lists c.events.invariant c.answer-answer.ensures.steps)
    c.in-Some-next_event.ensures

pub returns : goal.returns
returns g c =
    drive-gives-up g.D.Disk.state g.W.Words.to_come c.args.now c.args.zone.now (record { disk = c.args.disk.now; world = c.args.self.now; words = c.args.words.now }) c.events.event
    (record { disk = c.events.disk; world = c.events.self; words = c.events.words }) c.fits.ensures.fits c.events.invariant
