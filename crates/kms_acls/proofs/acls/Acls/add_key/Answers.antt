use Rattle.std.proofs.Common.{subst, sym}
use Rattle.kms_acls.specs.Agreement.{AreListsOf}
use Rattle.kms_acls.proofs.AddLemmas.{key_added}
use Rattle.kms_acls.proofs.FirstLemmas.{on_ok_all}
use Rattle.kms_acls.proofs.acls.Acls.add_key.Goals as goal

pub returns : goal.returns
returns c = on_ok_all c.add.result c.add.ensures.added c.add.ensures.all c.add.ensures.has_lines (λ added all has_lines lines s.
    key_added _ c.add.new.self lines c.args.key.now c.as_bytes.result.now c.args.op _ c.in_ok-members.members c.as_bytes.ensures.bytes added all has_lines c.in_ok-members.ensures (subst (λ lists. AreListsOf lists lines) (sym c.self.view_is) s))
