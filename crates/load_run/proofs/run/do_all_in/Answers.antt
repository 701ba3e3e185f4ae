use Rattle.std.proofs.Common.{refl}
use Rattle.world_run.specs.Drives.{Leads}
use Rattle.load_run.specs.declared.counts.Counts.{Counts}
use Rattle.load_run.specs.History.{DoesAll, DoesInto}
use Rattle.load_run.specs.Props.{open_lines}
use Rattle.load_run.proofs.OkLemmas.{ok_then}
use Rattle.load_run.proofs.run.do_all_in.Goals as goal

pub returns : goal.returns
returns g c = record {
  does =
      ok_then
      (λ (counts : Counts). DoesAll (Leads g.D.Disk.state g.W.Words.to_come open_lines 0) c.args.tasks.now.items (record { disk = c.args.disk.now; world = c.args.world; words = c.args.words.now }) counts (record { disk = c.do_all-counts.new.disk; world = c.do_all-counts.new.world; words = c.do_all-counts.new.words }))
      (λ (counts : Counts). DoesInto (Leads g.D.Disk.state g.W.Words.to_come open_lines 0) c.args.tasks.now.items (record { disk = c.args.disk.now; world = c.args.world; words = c.args.words.now }) counts c.do_all-counts.new.words)
      c.do_all-counts.result (λ counts does. record { last = record { disk = c.do_all-counts.new.disk; world = c.do_all-counts.new.world; words = c.do_all-counts.new.words }; does = does; words_left = refl }) c.do_all-counts.ensures.does;
}
