use Rattle.std.proofs.Common.{◌≡◌, ◌∙◌, ◌++◌, ◌+◌, ◌-◌, ◌/◌, ◌≤◌, ap, sym, subst, append_assoc, arith, get_or, length, map, refl, take, List, ℕ}
use Rattle.std.specs.List.{concat}
use Rattle.std.proofs.lemmas.List.{append-nil}
use Rattle.hk_base.specs.Disk.{piece}
use Rattle.image_parts.specs.Parts.{KeepsPart}
use Rattle.key_index.specs.declared.rows.IndexRow.{IndexRow}
use Rattle.key_images.specs.Sources.{bytes_of}
use Rattle.key_images.proofs.ReadOnly.{reads-none, reads-then, rose_before, still_tells, told_before}
use Rattle.key_images.proofs.Spelled.{each_at, key_length_of, materials_more, no_row}
use Rattle.key_images.proofs.spelling.put_olders.Goals as goal

pub loop-version-init : goal.loop-version-init
loop-version-init g c = record {
  long = refl;
  only = reads-none (g.D.Disk.state c.args.disk.now);
  held = λ telling d all kept. subst (λ (l : List ℕ). KeepsPart c.args.at c.args.seen l c.args.buf.now) (sym (append-nil all)) kept;
}

pub place_in-place-requires-clause-version : goal.place_in-place-requires-clause-version
place_in-place-requires-clause-version g c d = omega (arith, ap (λ (r : IndexRow). r.versions) (c.row-row.ensures.row d), c.loop-version-test.true, c.loop-version.auto.version-end)

pub put_older-requires-clause-size : goal.put_older-requires-clause-size
put_older-requires-clause-size g c = key_length_of c.row-row.result.now.bits c.row-row.ensures.rules.bits

pub put_older-requires-clause-within : goal.put_older-requires-clause-within
put_older-requires-clause-within g c telling =
    let inv = c.loop-version.invariant in
    let old = g.D.Disk.state c.args.disk.now in
    let before = told_before inv.only telling in
    let p = get_or c.args.index.now.index.rows c.args.number no_row in
    let both = each_at (λ (place : ℕ). (0 ≤ place) × (place + p.row.bits / 8 ≤ 0 + length (old.reads 0))) p.places c.loop-version.version c.place_in-place.result (c.requires.within before no_row) (c.place_in-place.ensures no_row) in
    omega (arith, both.1, ap (λ (r : IndexRow). r.bits / 8) (c.row-row.ensures.row no_row), ap (λ (l : List ℕ). length l) (inv.only.same.reads before))

pub loop-version-preserved : goal.loop-version-preserved
loop-version-preserved g c =
    let inv = c.loop-version.invariant in
    let old = g.D.Disk.state c.args.disk.now in
    record {
      long = c.put_older.ensures.length ∙ inv.long;
      only = reads-then inv.only c.put_older.ensures.same c.put_older.ensures.run c.put_older.ensures.moments;
      held = λ telling d all kept.
          let p = get_or c.args.index.now.index.rows c.args.number d in
          let f : ℕ → List ℕ = bytes_of (old.reads 0) (p.row.bits / 8) in
          let front = concat (map f (take c.loop-version.version p.places)) in
          let bits = ap (λ (r : IndexRow). r.bits / 8) (c.row-row.ensures.row d) in
          let same = inv.only.same.reads telling in
          subst (λ (l : List ℕ). KeepsPart c.args.at c.in-Ok.next l c.put_older.new.buf)
          (append_assoc all front (piece c.place_in-place.result (c.row-row.result.now.bits / 8) ((g.D.Disk.state c.loop-version.disk).reads 0))
          ∙ ap (λ (l : List ℕ). all ++ l) ((λ i. front ++ piece c.place_in-place.result (bits i) (same i)) ∙ sym (materials_more f p.places c.loop-version.version c.place_in-place.result (c.place_in-place.ensures d))))
          (c.in-Ok.ensures.told (still_tells inv.only telling) (all ++ front) (inv.held telling d all kept));
    }

pub returns-clause-told : goal.returns-clause-told
returns-clause-told g c telling d all kept =
    let old = g.D.Disk.state c.args.disk.now in
    let p = get_or c.args.index.now.index.rows c.args.number d in
    let last : c.loop-version.version ≡ p.row.versions - 1 = omega (arith, ap (λ (r : IndexRow). r.versions) (c.row-row.ensures.row d), c.loop-version-test.false, c.loop-version.auto.version-end) in
    subst (λ n. KeepsPart c.args.at c.loop-version.told (all ++ concat (map (bytes_of (old.reads 0) (p.row.bits / 8)) (take n p.places))) c.loop-version.buf) last (c.loop-version.invariant.held telling d all kept)

pub returns-in-Err-clause-length : goal.returns-in-Err-clause-length
returns-in-Err-clause-length g c = c.put_older.ensures.length ∙ c.loop-version.invariant.long

pub returns-in-Err-clause-cause : goal.returns-in-Err-clause-cause
returns-in-Err-clause-cause g c = rose_before _ c.loop-version.invariant.only c.in-Err.ensures.cause

pub returns-in-Err-clause-same : goal.returns-in-Err-clause-same
returns-in-Err-clause-same g c = (reads-then c.loop-version.invariant.only c.put_older.ensures.same c.put_older.ensures.run c.put_older.ensures.moments).same

pub returns-in-Err-clause-run : goal.returns-in-Err-clause-run
returns-in-Err-clause-run g c = (reads-then c.loop-version.invariant.only c.put_older.ensures.same c.put_older.ensures.run c.put_older.ensures.moments).going.run

pub returns-in-Err-clause-moments : goal.returns-in-Err-clause-moments
returns-in-Err-clause-moments g c = (reads-then c.loop-version.invariant.only c.put_older.ensures.same c.put_older.ensures.run c.put_older.ensures.moments).going.moments

pub returns-clause-same : goal.returns-clause-same
returns-clause-same g c = c.loop-version.invariant.only.same

pub returns-clause-run : goal.returns-clause-run
returns-clause-run g c = c.loop-version.invariant.only.going.run

pub returns-clause-moments : goal.returns-clause-moments
returns-clause-moments g c = c.loop-version.invariant.only.going.moments
