use Rattle.std.proofs.Common.{rules, Option, IsTrue, refl, sym, subst}
use Rattle.hk_base.proofs.Runs.{begin, both_read, compose}
use Rattle.edit_log.specs.declared.replay.PlacedOp.{PlacedOp}
use Rattle.edit_log.specs.Reader.{IsNextOp}
use Rattle.name_store.specs.Used.{is_used}
use Rattle.name_store.proofs.ReaderLemmas.{made_here, no_operation, none_so_far, not_applied, one_more}
use Rattle.name_store.proofs.UsedLemmas.{rows_used}
use Rattle.name_store.proofs.replay.take_all.Goals as goal

pub each-init : goal.each-init
each-init g c =
    let D0 = g.D.Disk.state c.args.disk.now in
    record {
      going = begin 1 D0 (D0.leaves 1);
      same = record { reads = λ tells. refl; leaves = λ b h. h };
      read = none_so_far D0 c.args.reader.now c.args.names.now.table (is_used c.args.used.now) c.requires.empty c.requires.unused;
    }

pub next-requires : goal.next-requires
next-requires g c = record {
  ahead = λ tells.
      let read = c.each.invariant.read in
      let tells0 = subst (λ b. IsTrue b) c.each.invariant.going.run.tells tells in
      let first = c.requires.ahead tells0 in
      let partly = read.tells tells0 first.0 first.1 in
      (read.ops, partly.0, partly.2);
}

pub take_placed-requires : goal.take_placed-requires
take_placed-requires g c =
    let read = c.each.invariant.read in
    rows_used read.ops c.each.names.table (is_used c.each.used) read.comes

pub returns-in_err-next-clause-damaged : goal.returns-in_err-next-clause-damaged
returns-in_err-next-clause-damaged g c at is tells todo a =
    let read = c.each.invariant.read in
    let tells1 = subst (λ b. IsTrue b) (sym c.each.invariant.going.run.tells) tells in
    no_operation (g.D.Disk.state c.args.disk.now) (g.D.Disk.state c.each.disk) c.args.reader.now c.each.reader c.each.names.table (is_used c.each.used) read at tells (λ rest ahead. c.in_err-next.ensures.damaged at (search rules) tells1 read.ops rest ahead) todo a

pub returns-in-None-clause-made : goal.returns-in-None-clause-made
returns-in-None-clause-made g c =
    let read = c.each.invariant.read in
    made_here (g.D.Disk.state c.args.disk.now) (g.D.Disk.state c.each.disk) c.args.reader.now c.each.reader c.each.names.table (is_used c.each.used) read
    (λ tells rest ahead.
    let tells1 = subst (λ b. IsTrue b) (sym c.each.invariant.going.run.tells) tells in
    (subst (λ (o : Option PlacedOp). IsNextOp (g.D.Disk.state c.next.new.disk) c.next.new.self read.ops rest o) c.in-None.is (c.in_ok-next.ensures.next tells1 read.ops rest ahead)).0)

pub returns-in_err-take_placed-in-Some-clause-damaged : goal.returns-in_err-take_placed-in-Some-clause-damaged
returns-in_err-take_placed-in-Some-clause-damaged g c at is tells todo a =
    let read = c.each.invariant.read in
    let none = c.in_err-take_placed-in-Some.ensures.damaged at (search rules) in
    not_applied (g.D.Disk.state c.args.disk.now) (g.D.Disk.state c.each.disk) c.args.reader.now c.each.reader c.each.names.table (is_used c.each.used) read (g.D.Disk.state c.next.new.disk) c.next.new.self c.in-Some.placed
    (λ tells rest ahead.
    let tells1 = subst (λ b. IsTrue b) (sym c.each.invariant.going.run.tells) tells in
    subst (λ (o : Option PlacedOp). IsNextOp (g.D.Disk.state c.next.new.disk) c.next.new.self read.ops rest o) c.in-Some.is (c.in_ok-next.ensures.next tells1 read.ops rest ahead))
    at none.0 none.1 tells todo a

pub returns-in_err-next-clause-moments : goal.returns-in_err-next-clause-moments
returns-in_err-next-clause-moments g c =
    (compose c.each.invariant.going (record { run = c.next.ensures.run; moments = c.next.ensures.moments }) c.each.invariant.same.leaves).moments

pub each-preserved : goal.each-preserved
each-preserved g c =
    let inv = c.each.invariant in
    let read = inv.read in
    let new = g.D.Disk.state c.next.new.disk in
    record {
      going = compose inv.going (record { run = c.next.ensures.run; moments = c.next.ensures.moments }) inv.same.leaves;
      same = both_read inv.going inv.same c.next.ensures.same;
      read = one_more (g.D.Disk.state c.args.disk.now) (g.D.Disk.state c.each.disk) c.args.reader.now c.each.reader c.each.names.table (is_used c.each.used) read new c.next.new.self c.in-Some.placed
          (λ tells rest ahead.
          let tells1 = subst (λ b. IsTrue b) (sym inv.going.run.tells) tells in
          subst (λ (o : Option PlacedOp). IsNextOp new c.next.new.self read.ops rest o) c.in-Some.is (c.in_ok-next.ensures.next tells1 read.ops rest ahead))
          c.take_placed.new.names.table (is_used c.take_placed.new.used) c.in_ok-take_placed-in-Some.ensures.taken;
    }

pub returns-in_err-take_placed-in-Some-clause-moments : goal.returns-in_err-take_placed-in-Some-clause-moments
returns-in_err-take_placed-in-Some-clause-moments g c =
    (compose c.each.invariant.going (record { run = c.next.ensures.run; moments = c.next.ensures.moments }) c.each.invariant.same.leaves).moments

pub returns-in_err-next-clause-run : goal.returns-in_err-next-clause-run
returns-in_err-next-clause-run g c =
    (compose c.each.invariant.going (record { run = c.next.ensures.run; moments = c.next.ensures.moments }) c.each.invariant.same.leaves).run

pub returns-in_err-next-clause-same : goal.returns-in_err-next-clause-same
returns-in_err-next-clause-same g c =
    both_read c.each.invariant.going c.each.invariant.same c.next.ensures.same

pub returns-in-None-clause-run : goal.returns-in-None-clause-run
returns-in-None-clause-run g c =
    (compose c.each.invariant.going (record { run = c.next.ensures.run; moments = c.next.ensures.moments }) c.each.invariant.same.leaves).run

pub returns-in-None-clause-same : goal.returns-in-None-clause-same
returns-in-None-clause-same g c =
    both_read c.each.invariant.going c.each.invariant.same c.next.ensures.same

pub returns-in-None-clause-moments : goal.returns-in-None-clause-moments
returns-in-None-clause-moments g c =
    (compose c.each.invariant.going (record { run = c.next.ensures.run; moments = c.next.ensures.moments }) c.each.invariant.same.leaves).moments

pub returns-in_err-take_placed-in-Some-clause-run : goal.returns-in_err-take_placed-in-Some-clause-run
returns-in_err-take_placed-in-Some-clause-run g c =
    (compose c.each.invariant.going (record { run = c.next.ensures.run; moments = c.next.ensures.moments }) c.each.invariant.same.leaves).run

pub returns-in_err-take_placed-in-Some-clause-same : goal.returns-in_err-take_placed-in-Some-clause-same
returns-in_err-take_placed-in-Some-clause-same g c =
    both_read c.each.invariant.going c.each.invariant.same c.next.ensures.same
