use Rattle.std.proofs.Common.{ap, ◌∙◌}
use Rattle.kms_acls.specs.Lists.{users_of}
use Rattle.kms_acls.specs.Verdict.{names_user}
use Rattle.kms_acls.proofs.NameLemmas.{look}
use Rattle.kms_acls.proofs.groups.Groups.has.Goals as goal

pub returns-in-None : goal.returns-in-None
returns-in-None c =
    ap (names_user c.args.user.now) (c.in-None.ensures.value ∙ look (λ k. k.items) c.args.group.now c.self.inside.users.entries ∙ ap (users_of c.args.group.now) c.self.view_is)

pub returns-in-Some : goal.returns-in-Some
returns-in-Some c =
    c.has.ensures
    ∙ ap (names_user c.args.user.now) (c.in-Some.ensures.value ∙ look (λ k. k.items) c.args.group.now c.self.inside.users.entries ∙ ap (users_of c.args.group.now) c.self.view_is)
