use Rattle.std.proofs.Common.{◌≡◌, [], Option, Bool, IsTrue, sym, subst}
use Rattle.std.specs.Prelude.{MatchOption}
use Rattle.frame_log.specs.Ahead.{Ahead}
use Rattle.frame_log.specs.declared.records.Records.{Records}
use Rattle.kms_store.specs.Store.{Not_of_its_kind}
use Rattle.kms_store.proofs.Starts.{if_ok}
use Rattle.kms_store.proofs.Views.{at_first, stuck_view, viewed, viewed_none}
use Rattle.kms_store.proofs.viewing.view_keys.Goals as goal

pub returns-in-None-clause-viewed : goal.returns-in-None-clause-viewed
returns-in-None-clause-viewed g c tells =
    let old = g.D.Disk.state c.args.disk.now in
    let mid = g.D.Disk.state c.view_records.new.disk in
    let found = c.in_ok-view_records.ensures.log tells in
    let none = subst (λ (o : Option Records). MatchOption o (found.0 ≡ []) (λ (x : Records). Ahead mid x found.0)) c.in-None.is found.3 in
    viewed_none (old.reads 0) found.0 found.1 c.new.result found.2 none c.new.ensures.table c.new.ensures.index

pub returns-in-Some-clause-viewed : goal.returns-in-Some-clause-viewed
returns-in-Some-clause-viewed g c =
    let old = g.D.Disk.state c.args.disk.now in
    let mid = g.D.Disk.state c.view_records.new.disk in
    if_ok c.replay.result
    (λ keys read tells.
    let first = at_first (old.reads 0) mid c.in_ok-view_records.field-0 c.in-Some.records c.in-Some.is (c.in_ok-view_records.ensures.log tells) c.in_ok-view_records.ensures.reader (c.view_records.ensures.same.reads tells) in
    viewed (old.reads 0) mid c.in-Some.records first keys read (subst (λ (b : Bool). IsTrue b) (sym c.view_records.ensures.run.tells) tells))
    c.replay.ensures.read

pub returns-in-Some-clause-damaged : goal.returns-in-Some-clause-damaged
returns-in-Some-clause-damaged g c at is tells =
    let old = g.D.Disk.state c.args.disk.now in
    let mid = g.D.Disk.state c.view_records.new.disk in
    let first = at_first (old.reads 0) mid c.in_ok-view_records.field-0 c.in-Some.records c.in-Some.is (c.in_ok-view_records.ensures.log tells) c.in_ok-view_records.ensures.reader (c.view_records.ensures.same.reads tells) in
    Not_of_its_kind (stuck_view (old.reads 0) mid c.in-Some.records first at (c.replay.ensures.damaged at is (subst (λ (b : Bool). IsTrue b) (sym c.view_records.ensures.run.tells) tells) first.payloads first.ahead))
