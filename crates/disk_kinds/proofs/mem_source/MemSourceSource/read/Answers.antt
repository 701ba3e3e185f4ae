use Rattle.std.proofs.Common.{◌≡◌, ◌+◌, ◌-◌, ◌≤◌, min, length, drop, ap, arith, length-take}
use Rattle.disk_kinds.proofs.Supplies.{front_and_rest, none_left}
use Rattle.disk_kinds.proofs.mem_source.MemSourceSource.read.Goals as goal

pub returns-clause-bytes : goal.returns-clause-bytes
returns-clause-bytes c =
    let front = rw c.deref.ensures.value at c.copy_front-count.ensures.front in
    let count = rw c.deref.ensures.value at c.copy_front-count.ensures.count in
    let s = c.self.inside in
    let n = s.at + c.min.result - s.at in
    let within : c.copy_front-count.result ≤ n = omega (arith, count, length-take n (drop s.at s.bytes.items)) in
    let is_n : n ≡ min (length s.bytes.items - s.at) s.most = omega arith in (
      front_and_rest s.bytes.items _ _ s.at n c.copy_front-count.result (ap (λ v. v.left) c.self.view_is) front within,
      λ none room. none_left s.bytes.items s.at n s.most c.copy_front-count.result (length c.copy_front-count.new.buf) is_n c.self.invariant.1 count none room,
    )
