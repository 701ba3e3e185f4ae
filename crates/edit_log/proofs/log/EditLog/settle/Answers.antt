use Rattle.std.proofs.Common.{rules, ◌≡◌, None, Some, refl, sym, ◌∙◌, ap, subst}
use Rattle.frame_log.specs.Stands.{Stands}
use Rattle.edit_log.specs.Log.{EditLogState, IsEditLogOf}
use Rattle.edit_log.proofs.Commits.{dropped, kept, settle_moments, still_waits}
use Rattle.edit_log.proofs.log.EditLog.settle.Goals as goal

pub returns-clause-dropped : goal.returns-clause-dropped
returns-clause-dropped g c tells ops s gate =
    let inside = c.self.inside in
    let now = c.args.self.now in
    let log_is : inside.log ≡ now.log = ap (λ (x : EditLogState). x.log) c.self.view_is in
    let pending_is : inside.pending ≡ now.pending = ap (λ (x : EditLogState). x.pending) c.self.view_is in
    let some : ¬ (inside.pending ≡ None) = search rules in (
      refl,
      dropped (g.D.Disk.state c.args.disk.now) (g.D.Disk.state c.settle.new.disk) now ops c.settle.new.self c.take-pending.new.self c.in-Ok.kept s (λ none. some (pending_is ∙ none)) c.take-pending.ensures.after c.if-kept.false
          (λ payloads payload stands. c.in-Ok.ensures.settled tells None payloads payload (subst (λ l. Stands (g.D.Disk.state c.args.disk.now) l payloads (Some payload)) (sym log_is) stands)),
    )

pub returns-in-Err-clause-any_moment : goal.returns-in-Err-clause-any_moment
returns-in-Err-clause-any_moment g c tells ops op s waits =
    let D0 = g.D.Disk.state c.args.disk.now in
    let D1 = g.D.Disk.state c.settle.new.disk in
    let inside = c.self.inside in
    let before : EditLogState = record { log = inside.log; pending = inside.pending } in
    let s0 : IsEditLogOf D0 before ops = subst (λ (x : EditLogState). IsEditLogOf D0 x ops) (sym c.self.view_is) s in
    let waits_inside : inside.pending ≡ Some op = ap (λ (x : EditLogState). x.pending) c.self.view_is ∙ waits in
    settle_moments D0 D1 before ops op s0 waits_inside c.self.invariant.0 (λ payloads payload stands. c.settle.ensures.any_moment tells None payloads payload stands)

pub returns-then-kept-clause-any_moment : goal.returns-then-kept-clause-any_moment
returns-then-kept-clause-any_moment g c tells ops op s waits =
    let D0 = g.D.Disk.state c.args.disk.now in
    let D1 = g.D.Disk.state c.settle.new.disk in
    let inside = c.self.inside in
    let before : EditLogState = record { log = inside.log; pending = inside.pending } in
    let s0 : IsEditLogOf D0 before ops = subst (λ (x : EditLogState). IsEditLogOf D0 x ops) (sym c.self.view_is) s in
    let waits_inside : inside.pending ≡ Some op = ap (λ (x : EditLogState). x.pending) c.self.view_is ∙ waits in
    settle_moments D0 D1 before ops op s0 waits_inside c.self.invariant.0 (λ payloads payload stands. c.settle.ensures.any_moment tells None payloads payload stands)

pub returns-clause-any_moment : goal.returns-clause-any_moment
returns-clause-any_moment g c tells ops op s waits =
    let D0 = g.D.Disk.state c.args.disk.now in
    let D1 = g.D.Disk.state c.settle.new.disk in
    let inside = c.self.inside in
    let before : EditLogState = record { log = inside.log; pending = inside.pending } in
    let s0 : IsEditLogOf D0 before ops = subst (λ (x : EditLogState). IsEditLogOf D0 x ops) (sym c.self.view_is) s in
    let waits_inside : inside.pending ≡ Some op = ap (λ (x : EditLogState). x.pending) c.self.view_is ∙ waits in
    settle_moments D0 D1 before ops op s0 waits_inside c.self.invariant.0 (λ payloads payload stands. c.settle.ensures.any_moment tells None payloads payload stands)

pub returns-in-Err-clause-refused : goal.returns-in-Err-clause-refused
returns-in-Err-clause-refused g c tells ops s =
    let D0 = g.D.Disk.state c.args.disk.now in
    let D1 = g.D.Disk.state c.settle.new.disk in
    let inside = c.self.inside in
    let before : EditLogState = record { log = inside.log; pending = inside.pending } in
    let s0 : IsEditLogOf D0 before ops = subst (λ (x : EditLogState). IsEditLogOf D0 x ops) (sym c.self.view_is) s in
    let some : ¬ (inside.pending ≡ None) = search rules in
    still_waits D0 D1 before ops c.settle.new.self s0 some (λ payloads payload stands. c.in-Err.ensures.unsettled refl tells None payloads payload stands)

pub returns-then-kept-clause-kept : goal.returns-then-kept-clause-kept
returns-then-kept-clause-kept g c tells ops op s waits gate =
    let D0 = g.D.Disk.state c.args.disk.now in
    let D1 = g.D.Disk.state c.settle.new.disk in
    let inside = c.self.inside in
    let before : EditLogState = record { log = inside.log; pending = inside.pending } in
    let s0 : IsEditLogOf D0 before ops = subst (λ (x : EditLogState). IsEditLogOf D0 x ops) (sym c.self.view_is) s in
    let waits_inside : inside.pending ≡ Some op = ap (λ (x : EditLogState). x.pending) c.self.view_is ∙ waits in (
      c.take-pending.ensures.value ∙ waits_inside,
      kept D0 D1 before ops op c.settle.new.self c.take-pending.new.self c.in-Ok.kept s0 waits_inside c.take-pending.ensures.after c.if-kept.true (λ payloads payload stands. c.in-Ok.ensures.settled tells None payloads payload stands),
    )
