use Rattle.std.proofs.Common.{◌≡◌, ◌∙◌, ◌++◌, ◌==◌, true, false, ℕ, List, ap, length, subst, sym}
use Rattle.std.proofs.lemmas.List.{length-map}
use Rattle.frozen_nodes.specs.Forest.{node_at}
use Rattle.image_parts.specs.Parts.{KeepsPart}
use Rattle.name_images.specs.Walks.{names_in}
use Rattle.name_images.proofs.Texts.{some-text}
use Rattle.name_images.proofs.nodes.put_text.Goals as goal

pub returns-else-is_empty-clause-told : goal.returns-else-is_empty-clause-told
returns-else-is_empty-clause-told c = λ all t.
    let ns = c.args.forest.now.nodes in
    let some : length (names_in ns c.args.path.now) ≡ 0 → ⊥ = (λ e.
    let none : length c.args.path.now ≡ 0 = sym (length-map c.args.path.now (λ (k : ℕ). (node_at ns k).name)) ∙ e in
    let no : false ≡ true = c.if-is_empty.ensures ∙ ap (λ (n : ℕ). n == 0) none in
    absurd cc) in
    subst (λ (l : List ℕ). KeepsPart c.args.at c.put_names.result (all ++ l) c.put_names.new.buf) (some-text (names_in ns c.args.path.now) some) (c.put_names.ensures.told all t)
