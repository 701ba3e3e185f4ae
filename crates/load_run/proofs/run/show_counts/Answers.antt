use Rattle.std.proofs.Common.{◌∙◌, ℕ, List, inl, subst}
use Rattle.command_io.specs.Ends.{ShowsWith}
use Rattle.load_run.proofs.run.show_counts.Goals as goal

pub returns-in-Ok-clause-shows : goal.returns-in-Ok-clause-shows
returns-in-Ok-clause-shows g c =
    inl (subst (λ (text : List ℕ). ShowsWith text 0 (g.K.Sink.written c.args.out.now) (g.K.Sink.written c.show-status.new.out) c.show-status.result) (c.as_slice.ensures ∙ c.in-Ok.ensures) c.show-status.ensures.shows)
