use Rattle.std.proofs.Common.{subst, sym, ◌∙◌}
use Rattle.kms_acls.specs.Agreement.{AreListsOf}
use Rattle.kms_acls.proofs.AddLemmas.{group_added}
use Rattle.kms_acls.proofs.FirstLemmas.{on_ok}
use Rattle.kms_acls.proofs.acls.Acls.add_group.Goals as goal

pub returns : goal.returns
returns c = on_ok c.add.result c.add.ensures (λ is lines s.
    group_added _ c.add.new.self lines c.args.group.now c.as_bytes.result.now c.args.users.now c.in_ok-users.users (c.as_bytes.ensures.value ∙ c.as_str.ensures) is c.in_ok-users.ensures (subst (λ lists. AreListsOf lists lines) (sym c.self.view_is) s))
