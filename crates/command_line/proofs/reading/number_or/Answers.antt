use Rattle.std.proofs.Common.{ap, sym, ◌≡◌, ◌∙◌}
use Rattle.std.specs.Prelude.{None, Some, option_map}
use Rattle.clap.proofs.WalkLemmas.{first_value-rows}
use Rattle.clap.specs.Words.{first_of, found_of, rows_of}
use Rattle.command_line.specs.Orders.{number_or}
use Rattle.command_line.proofs.reading.number_or.Goals as goal

pub returns-in-Some-clause-value : goal.returns-in-Some-clause-value
returns-in-Some-clause-value c =
    let given : first_of c.args.name.now (rows_of (found_of c.args.options.now)) ≡ Some c.in-Some.text.now =
    sym (first_value-rows (found_of c.args.options.now) c.args.name.now) ∙ sym c.get_str.ensures ∙ ap (option_map (λ s. s.now)) c.in-Some.is in
    c.number_at.ensures.value ∙ ap (number_or c.args.absent c.args.most) (sym given)

pub returns-in-None-clause-value : goal.returns-in-None-clause-value
returns-in-None-clause-value c =
    let absent : first_of c.args.name.now (rows_of (found_of c.args.options.now)) ≡ None =
    sym (first_value-rows (found_of c.args.options.now) c.args.name.now) ∙ sym c.get_str.ensures ∙ ap (option_map (λ s. s.now)) c.in-None.is in
    ap (number_or c.args.absent c.args.most) (sym absent)
