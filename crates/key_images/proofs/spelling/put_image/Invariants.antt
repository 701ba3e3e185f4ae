use Rattle.std.proofs.Common.{◌≡◌, ◌++◌, length, map, take}
use Rattle.hk_base.specs.Disk.{Tells}
use Rattle.image_parts.specs.Parts.{KeepsPart}
use Rattle.std.specs.Int.{w32, w64, to_be_bytes}
use Rattle.key_rows.specs.Image.{key_rows_image}
use Rattle.key_images.specs.Sources.{bytes_of, row_by}
use Rattle.key_images.proofs.ReadOnly.{OnlyReads}
use Rattle.key_images.proofs.spelling.put_image.Given as goal

abbrev pub invariant-loop-number : goal.invariant-loop-number
invariant-loop-number g l =
    let old = g.D.Disk.state l.fn.disk in
    let now = g.D.Disk.state l.disk in
    record {
      long : length l.buf ≡ length l.fn.buf;
      only : OnlyReads old now;
      held : Tells old → KeepsPart l.at l.told ((to_be_bytes w32 l.index.index.opening ++ (to_be_bytes w64 l.index.index.greatest ++ to_be_bytes w32 (length l.index.index.rows))) ++ key_rows_image (map (row_by (bytes_of (old.reads 0))) (take l.number l.index.index.rows))) l.buf;
    }
