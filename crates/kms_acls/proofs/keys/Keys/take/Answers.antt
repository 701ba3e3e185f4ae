use Rattle.std.proofs.Common.{None, ap, ◌∙◌}
use Rattle.std.specs.Option.{unwrap_or}
use Rattle.kms_acls.specs.Lists.{lists_of_key}
use Rattle.kms_acls.proofs.NameLemmas.{by_name, look, removed}
use Rattle.kms_acls.proofs.keys.Keys.take.Goals as goal

pub returns-clause-taken : goal.returns-clause-taken
returns-clause-taken c =
    c.unwrap_or.ensures
    ∙ (λ i. unwrap_or ((c.remove.ensures.value ∙ look (λ k. k.items) c.args.key.now c.self.inside.lists.entries ∙ ap (lists_of_key c.args.key.now) c.self.view_is) i) (record { by_op = c.new.ensures i; all = None }))

pub returns-clause-others : goal.returns-clause-others
returns-clause-others c = λ other apart.
    ap (λ es. lists_of_key other (by_name (λ k. k.items) es)) c.remove.ensures.entries
    ∙ removed (λ k. k.items) c.args.key.now other c.self.inside.lists.entries apart
    ∙ ap (lists_of_key other) c.self.view_is
