use Rattle.std.proofs.Common.{◌∙◌, ap, sym}
use Rattle.name_store.specs.Causes.{first_cause, submit_causes}
use Rattle.name_core.specs.State.{RunningNames, names_of}
use Rattle.name_core.proofs.AskLemmas.{submission-refused}
use Rattle.name_core.proofs.namesystem.Name.submission_refusal.Goals as goal

pub returns-in-Some-submit_refusal : goal.returns-in-Some-submit_refusal
returns-in-Some-submit_refusal c =
    let rows = c.tree.ensures.rows ∙ ap (λ (x : RunningNames). x.store.table.rows) c.self.view_is in
    let statuses = c.statuses.ensures ∙ ap (λ (x : RunningNames). x.store.table.statuses) c.self.view_is in
    sym
    (submission-refused (names_of c.args.self.now) c.args.user.now c.args.path.now c.in-Some-submit_refusal.why (sym c.path_refusal.ensures ∙ c.in_default.is) (sym c.is_superuser.ensures ∙ c.if-not-is_superuser.false)
    ((λ i. first_cause (submit_causes (sym rows i) (sym statuses i) c.args.path.now)) ∙ sym c.submit_refusal.ensures ∙ c.in-Some-submit_refusal.is))
