use Rattle.std.proofs.Common.{inl}
use Rattle.disk_kinds.specs.Plain.{contents}
use Rattle.check_run.proofs.FoundLemmas.{reports_found}
use Rattle.check_run.proofs.run.run_check.Goals as goal

pub returns-in-Ok-clause-checks : goal.returns-in-Ok-clause-checks
returns-in-Ok-clause-checks g c =
    inl (
      contents c.in-Ok.copy,
      c.in-Ok.ensures.copied,
      reports_found (contents c.in-Ok.copy) c.text_of-text.result (g.K.Sink.written c.args.out.now) (g.K.Sink.written c.show_text.new.out) c.show_text.result c.text_of-text.ensures.sums c.text_of-text.ensures.ends c.show_text.ensures.shows,
    )
