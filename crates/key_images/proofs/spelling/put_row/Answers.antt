use Rattle.std.proofs.Common.{◌∙◌, ◌++◌, ap, sym, subst, get_or, List, ℕ}
use Rattle.std.specs.List.{concat}
use Rattle.image_parts.specs.Parts.{KeepsPart}
use Rattle.key_rows.specs.Image.{key_row_image}
use Rattle.key_index.specs.declared.rows.IndexRow.{IndexRow}
use Rattle.key_index.specs.Sound.{IsPlacedRow}
use Rattle.key_images.specs.Sources.{bytes_of, row_by}
use Rattle.key_images.specs.Sizes.{row_len}
use Rattle.key_images.proofs.Lengths.{row_length}
use Rattle.key_images.proofs.Spelled.{each_get, head_of, key_told, olders}
use Rattle.key_images.proofs.spelling.put_row.Goals as goal

pub returns-in-Some-clause-told : goal.returns-in-Some-clause-told
returns-in-Some-clause-told g c telling d all kept =
    let old = g.D.Disk.state c.args.disk.now in
    let rows = c.args.index.now.index.rows in
    let p = get_or rows c.args.number d in
    let is = each_get IsPlacedRow rows c.args.number d c.opening.ensures.sound.rows c.requires.number in
    c.in-Some.ensures.told all (key_row_image (row_by (bytes_of (old.reads 0)) p)) kept
    (row_length (old.reads 0) p is (c.requires.within telling d) ∙ ap row_len (sym (c.row-row.ensures.row d)) ∙ sym c.row_size.ensures.size)

pub returns-in-Ok-clause-told : goal.returns-in-Ok-clause-told
returns-in-Ok-clause-told g c telling d all kept =
    let old = g.D.Disk.state c.args.disk.now in
    let rows = c.args.index.now.index.rows in
    let p = get_or rows c.args.number d in
    let is = each_get IsPlacedRow rows c.args.number d c.opening.ensures.sound.rows c.requires.number in
    let row = c.row-row.ensures.row d in
    let head : KeepsPart c.args.at c.put_head-head.result (all ++ head_of p) c.put_head-head.new.buf =
    subst (λ (r : IndexRow). KeepsPart c.args.at c.put_head-head.result (all ++ head_of (record { row = r; places = p.places })) c.put_head-head.new.buf) row (c.put_head-head.ensures.told all kept) in
    let older = c.in-Ok.ensures.told telling d (all ++ head_of p) head in
    subst (λ (l : List ℕ). KeepsPart c.args.at c.put.result l c.put.new.buf)
    (ap (λ (w : List ℕ). ((all ++ head_of p) ++ concat (olders (old.reads 0) p)) ++ w) (c.as_bytes.ensures.bytes ∙ ap (λ (r : IndexRow). r.current) row) ∙ key_told (old.reads 0) p all is)
    (c.put.ensures.told _ older)
