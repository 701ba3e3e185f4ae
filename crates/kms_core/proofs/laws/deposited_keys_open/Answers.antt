use Rattle.kms_core.proofs.ReadyLaws.{deposit_opens, ticket_opens}
use Rattle.kms_core.proofs.laws.deposited_keys_open.Goals as goal

pub returns-clause-ticket : goal.returns-clause-ticket
returns-clause-ticket c = ticket_opens

pub returns-clause-deposit : goal.returns-clause-deposit
returns-clause-deposit c = deposit_opens
