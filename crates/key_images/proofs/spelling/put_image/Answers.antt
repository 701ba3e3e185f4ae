use Rattle.std.proofs.Common.{◌∙◌, ◌++◌, ◌<◌, ap, sym, subst, append_assoc, arith, get_or, length, map, take, List, ℕ}
use Rattle.std.proofs.lemmas.List.{append-nil, length-map, take_all}
use Rattle.std.specs.Int.{w32, w64, to_be_bytes}
use Rattle.image_parts.specs.Parts.{KeepsPart}
use Rattle.key_rows.specs.Image.{key_row_image, key_rows_image}
use Rattle.key_index.specs.declared.rows.PlacedRow.{PlacedRow}
use Rattle.key_images.specs.Sources.{LiesIn, bytes_of, row_by}
use Rattle.key_images.proofs.ReadOnly.{reads-none, reads-then, rose_before, still_tells, told_before}
use Rattle.key_images.proofs.Spelled.{counted, each_get, image_told, keys_more, no_row}
use Rattle.key_images.proofs.spelling.put_image.Goals as goal

pub loop-number-init : goal.loop-number-init
loop-number-init g c = record {
  long = c.put_top-told.ensures.length;
  only = reads-none (g.D.Disk.state c.args.disk.now);
  held = λ telling. subst (λ (l : List ℕ). KeepsPart c.args.at c.put_top-told.result l c.put_top-told.new.buf) (sym (append-nil _)) c.put_top-told.ensures.told;
}

pub put_row-requires-clause-number : goal.put_row-requires-clause-number
put_row-requires-clause-number g c = omega (arith, counted c.args.index.now.index c.count-number-end.result c.count-number-end.ensures, c.loop-number-test.true, c.loop-number.auto.number-end)

pub put_row-requires-clause-within : goal.put_row-requires-clause-within
put_row-requires-clause-within g c telling d =
    let old = g.D.Disk.state c.args.disk.now in
    let inv = c.loop-number.invariant in
    let before = told_before inv.only telling in
    let rows = c.args.index.now.index.rows in
    let within : c.loop-number.number < length c.args.index.now.index.rows = omega (arith, counted c.args.index.now.index c.count-number-end.result c.count-number-end.ensures, c.loop-number-test.true, c.loop-number.auto.number-end) in
    subst (λ (file : List ℕ). LiesIn 0 (length file) (get_or rows c.loop-number.number d)) (sym (inv.only.same.reads before)) (each_get (LiesIn 0 (length (old.reads 0))) rows c.loop-number.number d (c.requires.within before) within)

pub loop-number-preserved : goal.loop-number-preserved
loop-number-preserved g c =
    let inv = c.loop-number.invariant in
    let old = g.D.Disk.state c.args.disk.now in
    let x = c.args.index.now.index in
    let within : c.loop-number.number < length c.args.index.now.index.rows = omega (arith, counted x c.count-number-end.result c.count-number-end.ensures, c.loop-number-test.true, c.loop-number.auto.number-end) in
    record {
      long = c.put_row.ensures.length ∙ inv.long;
      only = reads-then inv.only c.put_row.ensures.same c.put_row.ensures.run c.put_row.ensures.moments;
      held = λ telling.
          let top = to_be_bytes w32 x.opening ++ (to_be_bytes w64 x.greatest ++ to_be_bytes w32 (length x.rows)) in
          let f = row_by (bytes_of (old.reads 0)) in
          let keys = key_rows_image (map f (take c.loop-number.number x.rows)) in
          let p = get_or x.rows c.loop-number.number no_row in
          let same = inv.only.same.reads telling in
          subst (λ (l : List ℕ). KeepsPart c.args.at c.in-Ok.next l c.put_row.new.buf)
          (append_assoc top keys (key_row_image (row_by (bytes_of ((g.D.Disk.state c.loop-number.disk).reads 0)) p))
          ∙ ap (λ (l : List ℕ). top ++ l) ((λ i. keys ++ key_row_image (row_by (bytes_of (same i)) p)) ∙ sym (keys_more f x.rows c.loop-number.number no_row within)))
          (c.in-Ok.ensures.told (still_tells inv.only telling) no_row (top ++ keys) (inv.held telling));
    }

pub returns-clause-told : goal.returns-clause-told
returns-clause-told g c telling =
    let old = g.D.Disk.state c.args.disk.now in
    let x = c.args.index.now.index in
    let f = row_by (bytes_of (old.reads 0)) in
    let all = take_all c.loop-number.number x.rows (omega (arith, counted x c.count-number-end.result c.count-number-end.ensures, c.loop-number-test.false, c.loop-number.auto.number-end)) in
    let top = to_be_bytes w32 x.opening ++ (to_be_bytes w64 x.greatest ++ to_be_bytes w32 (length x.rows)) in
    subst (λ (l : List ℕ). KeepsPart c.args.at c.loop-number.told l c.loop-number.buf)
    (ap (λ (l : List PlacedRow). top ++ key_rows_image (map f l)) all ∙ image_told x (map f x.rows) (length-map x.rows f))
    (c.loop-number.invariant.held telling)

pub returns-in-Err-clause-length : goal.returns-in-Err-clause-length
returns-in-Err-clause-length g c = c.put_row.ensures.length ∙ c.loop-number.invariant.long

pub returns-in-Err-clause-cause : goal.returns-in-Err-clause-cause
returns-in-Err-clause-cause g c = rose_before _ c.loop-number.invariant.only c.in-Err.ensures.cause

pub returns-in-Err-clause-same : goal.returns-in-Err-clause-same
returns-in-Err-clause-same g c = (reads-then c.loop-number.invariant.only c.put_row.ensures.same c.put_row.ensures.run c.put_row.ensures.moments).same

pub returns-in-Err-clause-run : goal.returns-in-Err-clause-run
returns-in-Err-clause-run g c = (reads-then c.loop-number.invariant.only c.put_row.ensures.same c.put_row.ensures.run c.put_row.ensures.moments).going.run

pub returns-in-Err-clause-moments : goal.returns-in-Err-clause-moments
returns-in-Err-clause-moments g c = (reads-then c.loop-number.invariant.only c.put_row.ensures.same c.put_row.ensures.run c.put_row.ensures.moments).going.moments

pub returns-clause-same : goal.returns-clause-same
returns-clause-same g c = c.loop-number.invariant.only.same

pub returns-clause-run : goal.returns-clause-run
returns-clause-run g c = c.loop-number.invariant.only.going.run

pub returns-clause-moments : goal.returns-clause-moments
returns-clause-moments g c = c.loop-number.invariant.only.going.moments
