use Rattle.std.proofs.Common.{inr}
use Rattle.load_run.specs.Counts.{load_line}
use Rattle.load_run.proofs.EndLemmas.{lacking_status, load_done, load_status}
use Rattle.load_run.proofs.run.run_load.Goals as goal

pub returns-in-Err-clause-load : goal.returns-in-Err-clause-load
returns-in-Err-clause-load g c = inr c.show.ensures.shows

pub returns-in-Err-clause-statuses : goal.returns-in-Err-clause-statuses
returns-in-Err-clause-statuses g c = lacking_status (g.K.Sink.written c.args.out.now) (g.K.Sink.written c.show.new.out) c.show.result c.show.ensures.shows

pub returns-in-Ok-clause-load : goal.returns-in-Ok-clause-load
returns-in-Ok-clause-load g c =
    load_done g.W.Words.to_come c.args.count c.args.rand.now c.load.new.rand (g.K.Sink.written c.args.out.now) (g.K.Sink.written c.show_counts.new.out) c.show_counts.result c.in-Ok.counts
    c.in-Ok.ensures.loads c.show_counts.ensures.shows

pub returns-in-Ok-clause-statuses : goal.returns-in-Ok-clause-statuses
returns-in-Ok-clause-statuses g c =
    load_status (load_line c.args.count c.in-Ok.counts) (g.K.Sink.written c.args.out.now) (g.K.Sink.written c.show_counts.new.out) c.show_counts.result c.show_counts.ensures.shows
