use Rattle.std.proofs.Common.{rules, ◌≡◌, Bool, Err, IsTrue, IsErrOf, sym, ◌∙◌, ap, subst}
use Rattle.hk_base.specs.Disk.{Tells}
use Rattle.hk_base.proofs.Runs.{Going}
use Rattle.frame_log.proofs.Openings.{opens_err, rose_since, why_for}
use Rattle.name_store.specs.Store.{StoreState}
use Rattle.name_store.proofs.Starts.{damaged_at, log_stands, name_log, opens_log, opens_next, opens_read, started}
use Rattle.name_store.proofs.store.NameStore.start.Goals as goal

pub returns-in_err-log-clause-opens : goal.returns-in_err-log-clause-opens
returns-in_err-log-clause-opens g c =
    let now : IsErrOf c.from_residual.result c.in_err-log.field-0.0 = search rules in
    opens_log _ _ (opens_err c.in_err-log.field-0.0 c.recover_records.result c.from_residual.result c.in_err-log.was now c.recover_records.ensures.opens)

pub replay-replayed-requires : goal.replay-replayed-requires
replay-replayed-requires g c = record {
  ahead = λ tells1.
      let tells = subst (λ (b : Bool). IsTrue b) c.recover_records.ensures.opens.run.tells tells1 in
      let opened = c.in_ok-log.ensures.opened tells in
      (opened.payloads, opened.ahead);
}

pub open-requires-clause-stands : goal.open-requires-clause-stands
open-requires-clause-stands g c tells2 =
    let D0 = g.D.Disk.state c.args.disk.now in
    let D1 = g.D.Disk.state c.recover_records.new.disk in
    let D2 = g.D.Disk.state c.replay-replayed.new.disk in
    let tells1 = subst (λ (b : Bool). IsTrue b) c.replay-replayed.ensures.run.tells tells2 in
    let tells = subst (λ (b : Bool). IsTrue b) c.recover_records.ensures.opens.run.tells tells1 in
    let opened = c.in_ok-log.ensures.opened tells in
    let m = c.in-Ok.ensures.made in
    let table = c.in-Ok.names.table in
    (m.ops, log_stands (D0.reads 1) D1 c.in_ok-log.log c.in_ok-log.reader table m opened tells1 D2 c.replay-replayed.ensures.same c.in_ok-log.ensures.settled.1)

pub returns-in-Ok-open-clause-started : goal.returns-in-Ok-open-clause-started
returns-in-Ok-open-clause-started g c =
    let D0 = g.D.Disk.state c.args.disk.now in
    let D1 = g.D.Disk.state c.recover_records.new.disk in
    let D2 = g.D.Disk.state c.replay-replayed.new.disk in
    let D3 = g.D.Disk.state c.open.new.disk in
    let m = c.in-Ok.ensures.made in
    let table = c.in-Ok.names.table in
    let is : StoreState = record { log = c.open.new.log; table = c.open.new.names.table } in
    started D0 D1 D3 is c.in_ok-log.reader table m c.in-Ok-open.ensures.opened.0 c.in-Ok-open.ensures.opened.1
    (λ tells.
    let opened = c.in_ok-log.ensures.opened tells in
    let tells1 = subst (λ (b : Bool). IsTrue b) (sym c.recover_records.ensures.opens.run.tells) tells in
    name_log (D0.reads 1) D1 c.in_ok-log.log c.in_ok-log.reader table m opened tells1)
    (λ tells.
    let opened = c.in_ok-log.ensures.opened tells in
    let tells1 = subst (λ (b : Bool). IsTrue b) (sym c.recover_records.ensures.opens.run.tells) tells in
    let tells2 = subst (λ (b : Bool). IsTrue b) (sym c.replay-replayed.ensures.run.tells) tells1 in
    let stands = log_stands (D0.reads 1) D1 c.in_ok-log.log c.in_ok-log.reader table m opened tells1 D2 c.replay-replayed.ensures.same c.in_ok-log.ensures.settled.1 in
    c.in-Ok-open.ensures.log tells2 m.ops stands)

pub returns-in-Err-clause-opens : goal.returns-in-Err-clause-opens
returns-in-Err-clause-opens g c =
    let D0 = g.D.Disk.state c.args.disk.now in
    let D1 = g.D.Disk.state c.recover_records.new.disk in
    let D2 = g.D.Disk.state c.replay-replayed.new.disk in
    let o = c.recover_records.ensures.opens in
    let reading : Going 1 D1 D2 (D1.leaves 1) = record { run = c.replay-replayed.ensures.run; moments = c.replay-replayed.ensures.moments } in
    opens_read D0 D1 D2 (λ is. absurd (cc (c.in_ok-log.was, is))) o (λ tells. (c.in_ok-log.ensures.opened tells).leaves) reading
    (why_for (λ fault is. let why : c.in-Err.fault ≡ fault = search rules in c.in-Err.is ∙ ap Err why)
    (record {
      damaged = λ at is tells.
          let opened = c.in_ok-log.ensures.opened tells in
          let tells1 = subst (λ (b : Bool). IsTrue b) (sym o.run.tells) tells in
          damaged_at (D0.reads 1) opened.payloads opened.gate at opened.found (c.replay-replayed.ensures.damaged at is tells1 opened.payloads opened.ahead);
      spent = λ is. absurd (c.replay-replayed.ensures.spent is);
      cause = λ is. rose_since o.run.faults (c.replay-replayed.ensures.cause is);
    }))

pub returns-in-Err-open-clause-opens : goal.returns-in-Err-open-clause-opens
returns-in-Err-open-clause-opens g c =
    let D0 = g.D.Disk.state c.args.disk.now in
    let D1 = g.D.Disk.state c.recover_records.new.disk in
    let D2 = g.D.Disk.state c.replay-replayed.new.disk in
    let D3 = g.D.Disk.state c.open.new.disk in
    let o = c.recover_records.ensures.opens in
    let reading : Going 1 D1 D2 (D1.leaves 1) = record { run = c.replay-replayed.ensures.run; moments = c.replay-replayed.ensures.moments } in
    let m = c.in-Ok.ensures.made in
    let table = c.in-Ok.names.table in
    let on : Tells D0 → Tells D1 = λ tells. subst (λ (b : Bool). IsTrue b) (sym o.run.tells) tells in
    opens_next D0 D1 D2 (λ is. absurd (cc (c.in_ok-log.was, is))) o (λ tells. (c.in_ok-log.ensures.opened tells).leaves) reading D3 m.ops (record { table = table; used = m.used })
    (λ tells. name_log (D0.reads 1) D1 c.in_ok-log.log c.in_ok-log.reader table m (c.in_ok-log.ensures.opened tells) (on tells)) c.open.ensures.run
    (λ tells. c.open.ensures.moments (subst (λ (b : Bool). IsTrue b) (sym c.replay-replayed.ensures.run.tells) (on tells)) m.ops
    (log_stands (D0.reads 1) D1 c.in_ok-log.log c.in_ok-log.reader table m (c.in_ok-log.ensures.opened tells) (on tells) D2 c.replay-replayed.ensures.same c.in_ok-log.ensures.settled.1))
    (why_for (λ fault is. let why : c.in-Err-open.fault ≡ fault = search rules in c.in-Err-open.is ∙ ap Err why)
    (record {
      damaged = λ at is. absurd (c.open.ensures.damaged at is);
      spent = λ is tells. record {
        ops = m.ops;
        made = record { table = table; used = m.used };
        log = name_log (D0.reads 1) D1 c.in_ok-log.log c.in_ok-log.reader table m (c.in_ok-log.ensures.opened tells) (on tells);
        last = c.open.ensures.spent is;
      };
      cause = λ is. rose_since o.run.faults (rose_since c.replay-replayed.ensures.run.faults (c.open.ensures.cause is));
    }))

pub returns-in-Ok-open-clause-opens : goal.returns-in-Ok-open-clause-opens
returns-in-Ok-open-clause-opens g c =
    let D0 = g.D.Disk.state c.args.disk.now in
    let D1 = g.D.Disk.state c.recover_records.new.disk in
    let D2 = g.D.Disk.state c.replay-replayed.new.disk in
    let D3 = g.D.Disk.state c.open.new.disk in
    let o = c.recover_records.ensures.opens in
    let reading : Going 1 D1 D2 (D1.leaves 1) = record { run = c.replay-replayed.ensures.run; moments = c.replay-replayed.ensures.moments } in
    let m = c.in-Ok.ensures.made in
    let table = c.in-Ok.names.table in
    let on : Tells D0 → Tells D1 = λ tells. subst (λ (b : Bool). IsTrue b) (sym o.run.tells) tells in
    opens_next D0 D1 D2 (λ is. absurd (cc (c.in_ok-log.was, is))) o (λ tells. (c.in_ok-log.ensures.opened tells).leaves) reading D3 m.ops (record { table = table; used = m.used })
    (λ tells. name_log (D0.reads 1) D1 c.in_ok-log.log c.in_ok-log.reader table m (c.in_ok-log.ensures.opened tells) (on tells)) c.open.ensures.run
    (λ tells. c.open.ensures.moments (subst (λ (b : Bool). IsTrue b) (sym c.replay-replayed.ensures.run.tells) (on tells)) m.ops
    (log_stands (D0.reads 1) D1 c.in_ok-log.log c.in_ok-log.reader table m (c.in_ok-log.ensures.opened tells) (on tells) D2 c.replay-replayed.ensures.same c.in_ok-log.ensures.settled.1))
    (record { damaged = λ at is. absurd (cc is); spent = λ is. absurd (cc is); cause = λ is. absurd (cc is) })
