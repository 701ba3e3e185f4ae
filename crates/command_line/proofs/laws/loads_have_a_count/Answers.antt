use Rattle.std.proofs.Common.{refl}
use Rattle.command_line.specs.declared.order.Order.TheVariants.{Load}
use Rattle.command_line.proofs.LoadLemmas.{named_count, no_number_is_refused, no_word_is_refused, one_more_is_refused, wrong_count_is_refused}
use Rattle.command_line.proofs.OrderLemmas.{load_is_named, spelling_is_named}
use Rattle.command_line.proofs.laws.loads_have_a_count.Goals as goal

pub returns-clause-one : goal.returns-clause-one
returns-clause-one c = load_is_named

pub returns-clause-named : goal.returns-clause-named
returns-clause-named c count right = spelling_is_named (Load count) _ (right, refl)

pub returns-clause-right : goal.returns-clause-right
returns-clause-right c count words names = named_count count words names

pub returns-clause-wrong : goal.returns-clause-wrong
returns-clause-wrong c number small wrong = wrong_count_is_refused number small wrong

pub returns-clause-no_number : goal.returns-clause-no_number
returns-clause-no_number c = no_number_is_refused

pub returns-clause-no_word : goal.returns-clause-no_word
returns-clause-no_word c = no_word_is_refused

pub returns-clause-one_more : goal.returns-clause-one_more
returns-clause-one_more c = one_more_is_refused
