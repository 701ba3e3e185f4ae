use Rattle.std.proofs.Common.{◌≡◌, ◌∙◌, ap, arith, length, false, true, ◌==◌, List, ℕ}
use Rattle.key_images.proofs.KeyLemmas.{err_again}
use Rattle.key_images.proofs.Passing.{low_enough, passed_more, rows_below, rows_counted, stopped, too_many}
use Rattle.key_images.proofs.keys.add_keys.Goals as goal

pub add_next-requires-clause-low : goal.add_next-requires-clause-low
add_next-requires-clause-low c = low_enough _ _ _ _ _ _ _ c.loop.invariant c.requires.place

pub add_next-requires-clause-births : goal.add_next-requires-clause-births
add_next-requires-clause-births c = rows_below _ _ _ _ _ _ _ c.loop.invariant c.requires.place

pub add_next-requires-clause-few : goal.add_next-requires-clause-few
add_next-requires-clause-few c = omega (arith, rows_counted _ _ _ _ _ _ _ c.loop.invariant c.requires.place, c.loop-test.true, c.requires.few)

pub returns-in-Err-clause-none : goal.returns-in-Err-clause-none
returns-in-Err-clause-none c e =
    stopped _ _ _ _ _ _ _ c.loop.invariant c.requires.place (omega (arith, c.requires.greatest, c.ranges.greatest.fits)) c.args.count c.loop-test.true (c.in-Err.ensures.none (err_again c.in-Err.fault e))

pub loop-preserved : goal.loop-preserved
loop-preserved c = passed_more _ _ _ _ _ _ _ c.loop.invariant c.requires.place c.add_next.new.index.index c.in-Ok.next.0 c.in-Ok.next.1.now c.in-Ok.ensures.next

pub returns-clause-none : goal.returns-clause-none
returns-clause-none c e rows counted =
    too_many _ _ _ _ _ _ _ c.loop.invariant c.requires.place (omega (arith, c.requires.greatest, c.ranges.greatest.fits)) (λ empty. let no : false ≡ true = c.if-is_empty.ensures ∙ ap (λ (w : List ℕ). length w == 0) empty in absurd cc) rows (omega (arith, counted, c.loop-test.false, c.loop.auto.counter-end))
