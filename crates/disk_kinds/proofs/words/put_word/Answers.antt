use Rattle.std.proofs.Common.{arith}
use Rattle.disk_kinds.proofs.Seeds.{word_before, word_put}
use Rattle.disk_kinds.proofs.words.put_word.Goals as goal

pub returns-clause-word : goal.returns-clause-word
returns-clause-word c =
    rw (c.split_at_mut-rest.ensures.front, c.copy_from_slice.ensures.after, c.to_le_bytes.ensures)
    (word_put c.args.seed.now c.split_at_mut-place.result.1.now c.args.i c.args.word (omega arith) c.ranges.word.fits)

pub returns-clause-before : goal.returns-clause-before
returns-clause-before c =
    rw c.split_at_mut-rest.ensures.front (λ j below. word_before c.args.seed.now _ c.args.i j below (omega arith))
