use Rattle.std.proofs.Common.{ap, ◌∙◌}
use Rattle.kms_acls.specs.Lists.{lists_of_key}
use Rattle.kms_acls.proofs.NameLemmas.{look}
use Rattle.kms_acls.proofs.keys.Keys.get.Goals as goal

pub returns : goal.returns
returns c = c.get.ensures.value ∙ look (λ k. k.items) c.args.key.now c.self.inside.lists.entries ∙ ap (lists_of_key c.args.key.now) c.self.view_is
