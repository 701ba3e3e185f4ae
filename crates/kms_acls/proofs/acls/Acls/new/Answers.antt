use Rattle.kms_acls.proofs.AddLemmas.{nothing}
use Rattle.kms_acls.proofs.acls.Acls.new.Goals as goal

pub returns : goal.returns
returns c = nothing _ c.new.ensures c.new-2.ensures c.new-3.ensures c.new-4.ensures c.new-5.ensures c.new-6.ensures
