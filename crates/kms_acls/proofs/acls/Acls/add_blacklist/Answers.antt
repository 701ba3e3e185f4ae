use Rattle.std.proofs.Common.{subst, sym}
use Rattle.kms_acls.specs.Agreement.{AreListsOf}
use Rattle.kms_acls.proofs.AddLemmas.{blacklist_added}
use Rattle.kms_acls.proofs.FirstLemmas.{on_ok}
use Rattle.kms_acls.proofs.acls.Acls.add_blacklist.Goals as goal

pub returns : goal.returns
returns c = on_ok c.add.result c.add.ensures (λ is lines s.
    blacklist_added _ c.add.new.self lines c.args.op _ c.in_ok-members.members is c.in_ok-members.ensures (subst (λ lists. AreListsOf lists lines) (sym c.self.view_is) s))
