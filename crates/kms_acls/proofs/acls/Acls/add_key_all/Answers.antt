use Rattle.std.proofs.Common.{subst, sym}
use Rattle.kms_acls.specs.Agreement.{AreListsOf}
use Rattle.kms_acls.proofs.AddLemmas.{key_all_added}
use Rattle.kms_acls.proofs.FirstLemmas.{on_ok_all}
use Rattle.kms_acls.proofs.acls.Acls.add_key_all.Goals as goal

pub returns : goal.returns
returns c = on_ok_all c.add_all.result c.add_all.ensures.added c.add_all.ensures.by_op c.add_all.ensures.has_lines (λ added by_op has_lines lines s.
    key_all_added _ c.add_all.new.self lines c.args.key.now c.as_bytes.result.now _ c.in_ok-members.members c.as_bytes.ensures.bytes added by_op has_lines c.in_ok-members.ensures (subst (λ lists. AreListsOf lists lines) (sym c.self.view_is) s))
