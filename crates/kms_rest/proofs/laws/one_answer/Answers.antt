use Rattle.std.proofs.Common.{arith, subst}
use Rattle.kms_rest.proofs.RouteLemmas.{AreBytes}
use Rattle.kms_rest.proofs.AnswerLemmas.{one_answer}
use Rattle.kms_rest.proofs.laws.one_answer.Goals as goal

pub returns : goal.returns
returns c =
    one_answer record { body = c.bodies_have_one_answer.ensures.call; eek = c.bodies_have_one_answer.ensures.eek; named = c.versions_are_named_by_their_texts.ensures.text }
    c.args.request.now
    (subst AreBytes c.requires (λ i. let fits = c.type_inv._path i in omega arith))
