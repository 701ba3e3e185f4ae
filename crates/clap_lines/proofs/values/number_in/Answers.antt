use Rattle.std.proofs.Common.{ap, sym, ◌≡◌, ◌∙◌}
use Rattle.std.specs.Prelude.{None, Some, option_and_then, option_map}
use Rattle.clap.proofs.WalkLemmas.{first_value-rows}
use Rattle.clap.specs.Words.{first_of, found_of, rows_of}
use Rattle.clap_lines.specs.Orders.{number_at}
use Rattle.clap_lines.proofs.values.number_in.Goals as goal

pub returns-in-Some : goal.returns-in-Some
returns-in-Some c =
    let given : first_of c.args.name.now (rows_of (found_of c.args.values.now)) ≡ Some c.in-Some.text.now =
    sym (first_value-rows (found_of c.args.values.now) c.args.name.now) ∙ sym c.get_str.ensures ∙ ap (option_map (λ s. s.now)) c.in-Some.is in
    c.number_at.ensures ∙ ap (option_and_then number_at) (sym given)

pub returns-in-None : goal.returns-in-None
returns-in-None c =
    let absent : first_of c.args.name.now (rows_of (found_of c.args.values.now)) ≡ None =
    sym (first_value-rows (found_of c.args.values.now) c.args.name.now) ∙ sym c.get_str.ensures ∙ ap (option_map (λ s. s.now)) c.in-None.is in
    ap (option_and_then number_at) (sym absent)
