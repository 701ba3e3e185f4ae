use Rattle.std.proofs.Common.{◌≡◌, ◌-◌, ◌≤◌, length, take}
use Rattle.hk_base.specs.Disk.{RunOn, Tells, piece, written}
use Rattle.frame_log.specs.Writes.{WritesOn}
use Rattle.frame_log.proofs.compact.write_image.Given as goal

abbrev pub invariant-parts : goal.invariant-parts
invariant-parts g l =
    let old = g.D.Disk.state l.fn.disk in
    let now = g.D.Disk.state l.disk in
    let held = piece (g.I.Image.from l.image) (g.I.Image.count l.image) (old.reads l.file) in
    record {
      room : length l.buf ≡ length l.fn.buf;
      run : RunOn l.file old now;
      writes : Tells old → WritesOn l.file l.at l.size old now;
      done : Tells old → l.done ≤ l.size;
      reads : Tells old → now.reads l.file ≡ written l.at (take l.done (g.I.Image.image l.image held)) (old.reads l.file);
    }

abbrev pub decreases-parts : goal.decreases-parts
decreases-parts g l = l.size - l.done
