use Rattle.std.proofs.Common.{◌≡◌, ◌++◌, ◌/◌, List, ℕ, length, map, take}
use Rattle.std.specs.List.{HoldsAt, concat}
use Rattle.hk_base.specs.Disk.{Tells}
use Rattle.image_parts.specs.Parts.{KeepsPart}
use Rattle.key_images.specs.Sources.{bytes_of}
use Rattle.key_images.proofs.ReadOnly.{OnlyReads}
use Rattle.key_images.proofs.spelling.put_olders.Given as goal

abbrev pub invariant-loop-version : goal.invariant-loop-version
invariant-loop-version g l =
    let old = g.D.Disk.state l.fn.disk in
    let now = g.D.Disk.state l.disk in
    record {
      long : length l.buf ≡ length l.fn.buf;
      only : OnlyReads old now;
      held : Tells old → HoldsAt (λ placed. (all : List ℕ) → KeepsPart l.at l.seen all l.fn.buf → KeepsPart l.at l.told (all ++ concat (map (bytes_of (old.reads 0) (placed.row.bits / 8)) (take l.version placed.places))) l.buf) l.index.index.rows l.number;
    }
