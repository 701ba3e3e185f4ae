use Rattle.kms_core.proofs.BirthLemmas.{gone_stays_at_start, used_up_at_start}
use Rattle.kms_core.proofs.UserLemmas.{deleted_for_user, gone_for_user, lost_for_user, used_up_for_user}
use Rattle.kms_core.proofs.laws.births_never_come_again.Goals as goal

pub returns-clause-stays : goal.returns-clause-stays
returns-clause-stays c = gone_for_user

pub returns-clause-at_start : goal.returns-clause-at_start
returns-clause-at_start c = gone_stays_at_start

pub returns-clause-deleted : goal.returns-clause-deleted
returns-clause-deleted c = deleted_for_user

pub returns-clause-below_next : goal.returns-clause-below_next
returns-clause-below_next c = used_up_for_user

pub returns-clause-lost : goal.returns-clause-lost
returns-clause-lost c = lost_for_user

pub returns-clause-lost_at_start : goal.returns-clause-lost_at_start
returns-clause-lost_at_start c = used_up_at_start
