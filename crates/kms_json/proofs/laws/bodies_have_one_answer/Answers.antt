use Rattle.kms_json.proofs.Answered.{one_answer}
use Rattle.kms_json.proofs.laws.bodies_have_one_answer.Goals as goal

pub returns-clause-call : goal.returns-clause-call
returns-clause-call c = one_answer

pub returns-clause-eek : goal.returns-clause-eek
returns-clause-eek c = one_answer
