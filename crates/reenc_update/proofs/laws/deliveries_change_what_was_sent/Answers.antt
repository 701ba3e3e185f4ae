use Rattle.reenc_update.proofs.ChangeLemmas.{changed-delivered, delivered-changed, each-counted, ids-stay-once, keys-stay}
use Rattle.reenc_update.proofs.laws.deliveries_change_what_was_sent.Goals as goal

pub returns-clause-exactly : goal.returns-clause-exactly
returns-clause-exactly c = λ rows zone sent edeks f. (changed-delivered rows zone sent edeks f, delivered-changed rows zone sent edeks f)

pub returns-clause-counted : goal.returns-clause-counted
returns-clause-counted c = each-counted

pub returns-clause-once : goal.returns-clause-once
returns-clause-once c = ids-stay-once

pub returns-clause-keys : goal.returns-clause-keys
returns-clause-keys c = keys-stay
