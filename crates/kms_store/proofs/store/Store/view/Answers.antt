use Rattle.std.proofs.Common.{rules, sym, subst}
use Rattle.kms_store.specs.Store.{IsDamagedAt, IsKeyLog}
use Rattle.kms_store.proofs.Currents.{never_damaged, shows_all}
use Rattle.kms_store.proofs.Starts.{if_ok}
use Rattle.kms_store.proofs.Views.{over_holds}
use Rattle.kms_store.proofs.store.Store.view.Goals as goal

pub returns-clause-held : goal.returns-clause-held
returns-clause-held g c =
    let old = g.D.Disk.state c.args.disk.now in
    let new = g.D.Disk.state c.view_keys.new.disk in
    if_ok c.over.result (λ store over tells. over_holds new (old.reads 0) c.in-Ok.keys store over (c.in-Ok.ensures.viewed tells) (c.view_keys.ensures.same.reads tells)) c.over.ensures.store

pub returns-clause-current : goal.returns-clause-current
returns-clause-current g c =
    let old = g.D.Disk.state c.args.disk.now in
    if_ok c.over.result
    (λ store over tells lead commands l.
    let v = c.in-Ok.ensures.viewed tells in
    shows_all old lead commands v.commands store.table.keys l (subst (IsKeyLog (old.reads 0) v.commands) (sym over.table) v.log))
    c.over.ensures.store

pub returns-in-Err-Damaged-clause-undamaged : goal.returns-in-Err-Damaged-clause-undamaged
returns-in-Err-Damaged-clause-undamaged g c at is tells lead commands l =
    let old = g.D.Disk.state c.args.disk.now in
    let damaged : IsDamagedAt (old.reads 0) at = search rules in
    never_damaged old lead commands at l damaged
