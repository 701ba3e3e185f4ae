use Rattle.std.proofs.Common.{rules, ◌≡◌, ◌∙◌, None, Some, sym, ap, subst}
use Rattle.std.specs.Prelude.{map}
use Rattle.frame_log.specs.Stands.{Stands}
use Rattle.edit_ops.specs.Records.{spelling}
use Rattle.edit_log.specs.Log.{EditLogState, IsEditLogOf}
use Rattle.edit_log.proofs.Commits.{committed, is_payload, moments, now_waits, stands_alone}
use Rattle.edit_log.proofs.log.EditLog.commit.Goals as goal

pub returns-in-Ok-clause-any_moment : goal.returns-in-Ok-clause-any_moment
returns-in-Ok-clause-any_moment g c tells ops s =
    let inside = c.self.inside in
    let now = c.args.self.now in
    let log_is : inside.log ≡ now.log = ap (λ (x : EditLogState). x.log) c.self.view_is in
    let spells : c.as_slice-2.result.now ≡ spelling c.args.op.now = search rules in
    let stands = subst (λ l. Stands (g.D.Disk.state c.args.disk.now) l (map spelling ops) None) (sym log_is) (stands_alone (g.D.Disk.state c.args.disk.now) (g.D.Disk.state c.append.new.disk) now ops c.args.op.now s c.requires.settled) in
    moments (g.D.Disk.state c.args.disk.now) (g.D.Disk.state c.append.new.disk) now ops c.args.op.now inside.log.file c.as_slice-2.result.now c.self.invariant.0 c.in_ok-write.ensures.spelled spells stands.sized (c.append.ensures.any_moment tells None (map spelling ops) stands)

pub append-requires-clause-payload : goal.append-requires-clause-payload
append-requires-clause-payload g c =
    let spells : c.as_slice-2.result.now ≡ spelling c.args.op.now = search rules in
    is_payload c.args.op.now c.as_slice-2.result.now c.in_ok-write.ensures.spelled spells

pub returns-in-Err-clause-any_moment : goal.returns-in-Err-clause-any_moment
returns-in-Err-clause-any_moment g c tells ops s =
    let inside = c.self.inside in
    let now = c.args.self.now in
    let log_is : inside.log ≡ now.log = ap (λ (x : EditLogState). x.log) c.self.view_is in
    let spells : c.as_slice-2.result.now ≡ spelling c.args.op.now = search rules in
    let stands = subst (λ l. Stands (g.D.Disk.state c.args.disk.now) l (map spelling ops) None) (sym log_is) (stands_alone (g.D.Disk.state c.args.disk.now) (g.D.Disk.state c.append.new.disk) now ops c.args.op.now s c.requires.settled) in
    moments (g.D.Disk.state c.args.disk.now) (g.D.Disk.state c.append.new.disk) now ops c.args.op.now inside.log.file c.as_slice-2.result.now c.self.invariant.0 c.in_ok-write.ensures.spelled spells stands.sized (c.append.ensures.any_moment tells None (map spelling ops) stands)

pub returns-in-Ok-clause-committed : goal.returns-in-Ok-clause-committed
returns-in-Ok-clause-committed g c tells ops s =
    let D0 = g.D.Disk.state c.args.disk.now in
    let D1 = g.D.Disk.state c.append.new.disk in
    let inside = c.self.inside in
    let before : EditLogState = record { log = inside.log; pending = inside.pending } in
    let s0 : IsEditLogOf D0 before ops = subst (λ (x : EditLogState). IsEditLogOf D0 x ops) (sym c.self.view_is) s in
    let none : inside.pending ≡ None = ap (λ (x : EditLogState). x.pending) c.self.view_is ∙ c.requires.settled in
    let spells : c.as_slice-2.result.now ≡ spelling c.args.op.now = search rules in
    committed D0 D1 before ops c.args.op.now c.append.new.self inside.pending c.as_slice-2.result.now s0 none none c.in_ok-write.ensures.spelled spells (λ payloads stands. c.in-Ok.ensures.added tells None payloads stands)

pub returns-in-Err-StoreFault-clause-refused : goal.returns-in-Err-StoreFault-clause-refused
returns-in-Err-StoreFault-clause-refused g c tells ops s =
    let D0 = g.D.Disk.state c.args.disk.now in
    let D1 = g.D.Disk.state c.append.new.disk in
    let inside = c.self.inside in
    let before : EditLogState = record { log = inside.log; pending = inside.pending } in
    let s0 : IsEditLogOf D0 before ops = subst (λ (x : EditLogState). IsEditLogOf D0 x ops) (sym c.self.view_is) s in
    let none : inside.pending ≡ None = ap (λ (x : EditLogState). x.pending) c.self.view_is ∙ c.requires.settled in
    let spells : c.as_slice-2.result.now ≡ spelling c.args.op.now = search rules in
    let waits : c.put.new.place ≡ Some c.args.op.now = search rules in
    now_waits D0 D1 before ops c.args.op.now c.append.new.self c.put.new.place c.as_slice-2.result.now s0 none waits c.in_ok-write.ensures.spelled spells (λ payloads stands. c.in-Err-StoreFault.ensures.unsettled (search rules) tells None payloads stands)

pub returns-in-Err-StoreFault-clause-any_moment : goal.returns-in-Err-StoreFault-clause-any_moment
returns-in-Err-StoreFault-clause-any_moment g c tells ops s =
    let D0 = g.D.Disk.state c.args.disk.now in
    let D1 = g.D.Disk.state c.append.new.disk in
    let inside = c.self.inside in
    let before : EditLogState = record { log = inside.log; pending = inside.pending } in
    let s0 : IsEditLogOf D0 before ops = subst (λ (x : EditLogState). IsEditLogOf D0 x ops) (sym c.self.view_is) s in
    let none : inside.pending ≡ None = ap (λ (x : EditLogState). x.pending) c.self.view_is ∙ c.requires.settled in
    let spells : c.as_slice-2.result.now ≡ spelling c.args.op.now = search rules in
    let stands = stands_alone D0 D1 before ops c.args.op.now s0 none in
    moments D0 D1 before ops c.args.op.now inside.log.file c.as_slice-2.result.now c.self.invariant.0 c.in_ok-write.ensures.spelled spells stands.sized (c.append.ensures.any_moment tells None (map spelling ops) stands)
