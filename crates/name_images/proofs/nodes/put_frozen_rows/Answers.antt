use Rattle.std.proofs.Common.{◌≡◌, ◌∙◌, ◌++◌, [], ℕ, List, ap, append_assoc, length, subst}
use Rattle.std.specs.Int.{w32, to_be_bytes}
use Rattle.edit_ops.specs.Records.{list_field}
use Rattle.frozen_nodes.specs.Forest.{rows_from}
use Rattle.image_parts.specs.Parts.{KeepsPart}
use Rattle.name_images.specs.Fields.{row_field}
use Rattle.name_images.specs.Walks.{rows_led}
use Rattle.name_images.proofs.Counts.{four-of}
use Rattle.name_images.proofs.Led.{led-root, ruled-root}
use Rattle.name_images.proofs.nodes.put_frozen_rows.Goals as goal

pub put_below-requires-clause-ruled : goal.put_below-requires-clause-ruled
put_below-requires-clause-ruled c = ruled-root c.args.forest.now.nodes c.args.root c.requires.ruled

pub returns-clause-told : goal.returns-clause-told
returns-clause-told c = λ all t.
    let rows = rows_from c.args.forest.now.nodes c.args.root in
    let count : c.to_be_bytes.result ≡ to_be_bytes w32 (length rows) = c.to_be_bytes.ensures ∙ ap (to_be_bytes w32) c.count_rows-count.ensures ∙ four-of (length rows) in
    subst (λ (l : List ℕ). KeepsPart c.args.at c.put_below.result l c.put_below.new.buf)
    (append_assoc all c.to_be_bytes.result (list_field row_field (rows_led c.args.forest.now.nodes [] c.args.root)) ∙ (λ i. all ++ (count i ++ list_field row_field (led-root rows i))))
    (c.put_below.ensures.told _ (c.put-counted.ensures.told _ t))
