use Rattle.name_rest.proofs.AnswerLemmas.{one_answer}
use Rattle.name_rest.proofs.laws.one_answer.Goals as goal

pub returns : goal.returns
returns c = one_answer c.args.request.now
