use Rattle.std.proofs.Common.{◌≡◌, ◌∙◌, ◌++◌, ◌<◌, ℕ, List, ap, append_assoc, arith, get_or, length, subst, sym, take, take_all}
use Rattle.std.proofs.lemmas.List.{get_or_default}
use Rattle.inode_tree.specs.Below.{RowView}
use Rattle.inode_tree.specs.Rows.{Entry}
use Rattle.edit_ops.specs.Records.{list_field}
use Rattle.frozen_nodes.specs.Copies.{no_entry}
use Rattle.frozen_nodes.proofs.Copying.{view-is}
use Rattle.image_parts.specs.Parts.{KeepsPart}
use Rattle.name_images.specs.Fields.{row_field}
use Rattle.name_images.proofs.Lists.{fields-more}
use Rattle.name_images.proofs.rows.put_first_rows.Goals as goal

pub placed_row-row-requires : goal.placed_row-row-requires
placed_row-row-requires c = let lt = c.loop-place-test.true in let n = c.requires in omega (arith, lt, n)

pub put_row-next-requires-clause-place : goal.put_row-next-requires-clause-place
put_row-next-requires-clause-place c = let lt = c.loop-place-test.true in let n = c.requires in omega (arith, lt, n)

pub put_row-next-requires-clause-depth : goal.put_row-next-requires-clause-depth
put_row-next-requires-clause-depth c = ap (λ (v : RowView). v.depth) (view-is c.args.tree.now.rows c.loop-place.place _ c.placed_row-row.ensures)

pub put_row-next-requires-clause-row : goal.put_row-next-requires-clause-row
put_row-next-requires-clause-row c = ap (λ (v : RowView). v.row) (view-is c.args.tree.now.rows c.loop-place.place _ c.placed_row-row.ensures)

pub loop-place-preserved : goal.loop-place-preserved
loop-place-preserved c =
    let rows = c.args.tree.now.rows in
    let k = c.loop-place.place in
    let within : k < length rows = (let lt = c.loop-place-test.true in let n = c.requires in omega (arith, lt, n)) in
    record {
      long = c.put_row-next.ensures.length ∙ c.loop-place.invariant.long;
      held = λ all t.
          subst (λ (l : List ℕ). KeepsPart c.args.at c.put_row-next.result l c.put_row-next.new.buf)
          (append_assoc all (list_field row_field (take k rows)) (row_field (get_or rows k no_entry))
          ∙ ap (λ (l : List ℕ). all ++ l) (sym (fields-more row_field rows k (get_or rows k no_entry) within (same rows k within))))
          (c.put_row-next.ensures.told _ (c.loop-place.invariant.held all t));
    }
  where
    same : (rows : List Entry) (k : ℕ) → k < length rows → get_or rows k no_entry ≡ get_or rows k (get_or rows k no_entry)
    same rows k lt = get_or_default rows k no_entry (get_or rows k no_entry) lt

pub returns-clause-told : goal.returns-clause-told
returns-clause-told c = λ all t.
    subst (λ (es : List Entry). KeepsPart c.args.at c.loop-place.told (all ++ list_field row_field es) c.loop-place.buf)
    (take_all c.loop-place.place c.args.tree.now.rows (let h = c.loop-place-test.false in let n = c.requires in omega (arith, h, n)))
    (c.loop-place.invariant.held all t)
