use Rattle.prop_text.proofs.PartLemmas.{two_spaces}
use Rattle.prop_text.proofs.values.read_users_and_groups.Goals as goal

pub returns-in_default-without_space : goal.returns-in_default-without_space
returns-in_default-without_space c = λ users groups.
    let cut = rw c.in-Some.is at c.cut_at_space.ensures in
    two_spaces c.args.bytes.now c.cut_at_space.result.0.now c.in-Some.second.now users groups cut c.in_default-without_space.ensures
