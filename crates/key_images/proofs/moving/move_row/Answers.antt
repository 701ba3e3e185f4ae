use Rattle.std.proofs.Common.{ap, arith}
use Rattle.key_images.specs.Sizes.{row_len}
use Rattle.key_images.proofs.Spelled.{no_row}
use Rattle.key_images.proofs.moving.move_row.Goals as goal

pub overflow_add-end : goal.overflow_add-end
overflow_add-end c = omega (arith, ap row_len (c.row-row.ensures.row no_row), c.row_size.ensures.size, c.requires.end no_row)

pub place_row-requires-clause-first : goal.place_row-requires-clause-first
place_row-requires-clause-first c = omega (arith, ap row_len (c.row-row.ensures.row no_row), c.row_size.ensures.size, c.requires.end no_row)
