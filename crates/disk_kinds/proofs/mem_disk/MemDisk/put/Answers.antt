use Rattle.std.proofs.Common.{◌≡◌, ℕ, refl, sym, subst, arith}
use Rattle.disk_kinds.specs.Past.{now_of, file_at, replaced, MomentAt}
use Rattle.disk_kinds.proofs.mem_disk.MemDisk.put.Goals as goal

pub returns-then-file-eq0-clause-ok : goal.returns-then-file-eq0-clause-ok
returns-then-file-eq0-clause-ok c =
    let m = now_of c.args.self.now in
    let now : MomentAt = record { first = file_at c.args.next; second = m.second } in
    record {
      kept = c.in_ok-copy.field-0;
      same = c.in_ok-copy.ensures;
      past = c.in_ok-push.ensures.items;
      now = subst (λ (k : ℕ). now ≡ replaced k (file_at c.args.next) m) (sym c.if-file-eq0.true) refl;
    }

pub returns-else-file-eq0-clause-ok : goal.returns-else-file-eq0-clause-ok
returns-else-file-eq0-clause-ok c =
    let m = now_of c.args.self.now in
    let now : MomentAt = record { first = m.first; second = file_at c.args.next } in
    let one : 1 ≡ c.args.file = omega (arith, c.if-file-eq0.false, c.requires) in
    record {
      kept = c.in_ok-copy.field-0;
      same = c.in_ok-copy.ensures;
      past = c.in_ok-push.ensures.items;
      now = subst (λ (k : ℕ). now ≡ replaced k (file_at c.args.next) m) one refl;
    }
