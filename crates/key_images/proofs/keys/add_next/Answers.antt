use Rattle.std.proofs.Common.{◌≡◌, ◌∙◌, ap, sym, arith, find, is_some, false, true, refl, length, ◌+◌, ◌-◌}
use Rattle.key_index.specs.Index.{is_named}
use Rattle.key_images.proofs.KeyLemmas.{failed, fresh_name, is_next, long_enough, may_add, not_next}
use Rattle.key_images.proofs.RowReads.{row_takes}
use Rattle.key_images.proofs.keys.add_next.Goals as goal

pub returns-in-Err-clause-none : goal.returns-in-Err-clause-none
returns-in-Err-clause-none c = failed c.args.bytes.now c.args.low c.args.index.now.index c.in-Err.fault (omega (arith, c.requires.greatest, c.ranges.greatest.fits)) c.in-Err.ensures

pub returns-then-row-low-clause-none : goal.returns-then-row-low-clause-none
returns-then-row-low-clause-none c e =
    not_next c.args.bytes.now c.args.low c.args.index.now.index c.in-Ok.read.0 c.in-Ok.read.1.now c.in-Ok.read.2.now (omega (arith, c.requires.greatest, c.ranges.greatest.fits)) c.in-Ok.ensures
    (λ above used fresh. absurd (omega (arith, above, c.if-row-low.true)))

pub returns-then-row-greatest-clause-none : goal.returns-then-row-greatest-clause-none
returns-then-row-greatest-clause-none c e =
    not_next c.args.bytes.now c.args.low c.args.index.now.index c.in-Ok.read.0 c.in-Ok.read.1.now c.in-Ok.read.2.now (omega (arith, c.requires.greatest, c.ranges.greatest.fits)) c.in-Ok.ensures
    (λ above used fresh. absurd (omega (arith, used, c.requires.greatest, c.if-row-greatest.true)))

pub returns-then-has_name-clause-none : goal.returns-then-has_name-clause-none
returns-then-has_name-clause-none c e =
    not_next c.args.bytes.now c.args.low c.args.index.now.index c.in-Ok.read.0 c.in-Ok.read.1.now c.in-Ok.read.2.now (omega (arith, c.requires.greatest, c.ranges.greatest.fits)) c.in-Ok.ensures
    (λ above used fresh.
    let there : is_some (find (is_named c.in-Ok.read.0.name) c.args.index.now.index.rows) ≡ true = sym c.has_name.ensures ∙ c.if-has_name.true in
    let no : false ≡ true = sym (ap is_some fresh) ∙ there in
    absurd cc)

pub overflow_sub-first : goal.overflow_sub-first
overflow_sub-first c =
    let taken = row_takes c.args.bytes.now (c.in-Ok.read.0, c.in-Ok.read.1.now, c.in-Ok.read.2.now) (λ i. omega (arith, c.type_inv.bytes i)) c.in-Ok.ensures in
    long_enough c.args.bytes.now c.in-Ok.read.0 c.in-Ok.read.1.now c.in-Ok.read.2.now c.args.end taken c.requires.place

pub add_row-requires : goal.add_row-requires
add_row-requires c =
    let taken = row_takes c.args.bytes.now (c.in-Ok.read.0, c.in-Ok.read.1.now, c.in-Ok.read.2.now) (λ i. omega (arith, c.type_inv.bytes i)) c.in-Ok.ensures in
    may_add c.args.bytes.now c.in-Ok.read.0 c.in-Ok.read.1.now c.in-Ok.read.2.now taken c.args.low c.args.end c.args.index.now.index
    (omega (arith, c.if-row-low.false)) (omega (arith, c.if-row-greatest.false, c.requires.greatest))
    (fresh_name (find (is_named c.in-Ok.read.0.name) c.args.index.now.index.rows) (sym c.has_name.ensures ∙ c.if-has_name.false)) c.requires.low
    c.as_slice.result.now (c.args.end - (length c.in-Ok.read.1.now + length c.in-Ok.read.2.now)) c.requires.births c.requires.few (c.as_slice.ensures.value ∙ c.in_ok-places.ensures)

pub returns-clause-next : goal.returns-clause-next
returns-clause-next c =
    let taken = row_takes c.args.bytes.now (c.in-Ok.read.0, c.in-Ok.read.1.now, c.in-Ok.read.2.now) (λ i. omega (arith, c.type_inv.bytes i)) c.in-Ok.ensures in
    is_next c.args.bytes.now c.in-Ok.read.0 c.in-Ok.read.1.now c.in-Ok.read.2.now taken c.args.low c.args.end c.args.index.now.index
    (omega (arith, c.if-row-low.false)) (omega (arith, c.if-row-greatest.false, c.requires.greatest))
    (fresh_name (find (is_named c.in-Ok.read.0.name) c.args.index.now.index.rows) (sym c.has_name.ensures ∙ c.if-has_name.false)) c.requires.low
    c.add_row.new.self.index (c.args.end - (length c.in-Ok.read.1.now + length c.in-Ok.read.2.now)) c.as_slice.result.now c.requires.births c.requires.place refl (c.as_slice.ensures.value ∙ c.in_ok-places.ensures)
    c.in_ok-add_row.ensures.ok
