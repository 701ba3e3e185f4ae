use Rattle.std.proofs.Common.{ap, sym, ◌∙◌, subst}
use Rattle.kms_acls.specs.Agreement.{AreListsOf}
use Rattle.kms_core.specs.Service.{KmsActsOnDisk}
use Rattle.kms_core.specs.Users.{RunningKms, running}
use Rattle.kms_core.proofs.UserLemmas.{is_denied, is_permitted, answers_hidden, answers_shown}
use Rattle.kms_core.proofs.kms.Kms.act.Goals.{then-hides, else-hides}
use Rattle.kms_core.proofs.kms.Kms.act.Goals as goal

pub returns-in-Err : goal.returns-in-Err
returns-in-Err g c = λ lines stands.
    is_denied (g.D.Disk.state c.args.disk.now) c.args.self.now lines c.args.user.now (g.W.Words.to_come c.args.words.now) c.args.now c.args.call c.in-Err.denied c.refused.result
    (sym (c.verdict.ensures lines (subst (λ (k : RunningKms). AreListsOf k.acls lines) (sym c.self.view_is) stands)) ∙ c.in-Err.is) c.refused.ensures

pub returns : goal.returns
returns g c = λ lines stands.
    let D0 = g.D.Disk.state c.args.disk.now in
    let D1 = g.D.Disk.state c.act-reply.new.disk in
    let words = g.W.Words.to_come c.args.words.now in
    let words' = g.W.Words.to_come c.act-reply.new.words in
    is_permitted D0 D1 c.args.self.now (record { acls = c.self.inside.acls; store = c.act-reply.new.self.store; next = c.act-reply.new.self.next; ready = c.act-reply.new.self.ready }) lines c.args.user.now words c.args.now c.args.call c.in-Ok.shown
    c.act-reply.result c.if-hides.result words'
    (sym (c.verdict.ensures lines (subst (λ (k : RunningKms). AreListsOf k.acls lines) (sym c.self.view_is) stands)) ∙ c.in-Ok.is)
    (elim c.if-hides.branch [
      | then-hides w ↦ w.result-is ∙ w.without_material.ensures ∙ answers_hidden c.in-Ok.shown c.args.call c.act-reply.result (sym c.hides-hides.ensures ∙ w.if-hides.true)
      | else-hides w ↦ w.result-is ∙ answers_shown c.in-Ok.shown c.args.call c.act-reply.result (sym c.hides-hides.ensures ∙ w.if-hides.false)
    ])
    (ap (λ (k : RunningKms). k.acls) c.self.view_is)
    (subst (λ (k : RunningKms). KmsActsOnDisk D0 D1 (running k) words c.args.now c.args.call c.act-reply.result c.act-reply.new.self words') c.self.view_is c.act-reply.ensures)
