use Rattle.std.proofs.Common.{◌≡◌, ◌+◌, ◌*◌, ◌^◌, ◌≤◌, take}
use Rattle.key_images.specs.Sizes.{rows_len}
use Rattle.key_images.proofs.sizes.image_size.Given as goal

abbrev pub invariant-loop-number : goal.invariant-loop-number
invariant-loop-number l = record {
  sum : l.size ≡ 16 + rows_len (take l.number l.index.index.rows);
  small : l.size ≤ 16 + l.number * 2 ^ 30;
}
