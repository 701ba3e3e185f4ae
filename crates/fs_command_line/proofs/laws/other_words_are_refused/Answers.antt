use Rattle.read_words.proofs.ReadLemmas.{large_count_is_refused, signs_are_refused, zeros_are_refused}
use Rattle.fs_command_line.specs.Line as line
use Rattle.fs_command_line.specs.Orders.{order_named, read_order}
use Rattle.fs_command_line.proofs.SpellingLemmas.{one_less_is_refused, one_more_is_refused, reads, wrong_user_is_refused}
use Rattle.fs_command_line.proofs.laws.other_words_are_refused.Goals as goal

pub returns-clause-user : goal.returns-clause-user
returns-clause-user c user path u p wrong = wrong_user_is_refused user path u p wrong

pub returns-clause-number : goal.returns-clause-number
returns-clause-number c number small large = large_count_is_refused line.hkfs order_named read_order reads number small large

pub returns-clause-zeros : goal.returns-clause-zeros
returns-clause-zeros c = zeros_are_refused line.hkfs order_named read_order reads

pub returns-clause-sign : goal.returns-clause-sign
returns-clause-sign c = signs_are_refused line.hkfs order_named read_order reads

pub returns-clause-one_less : goal.returns-clause-one_less
returns-clause-one_less c = one_less_is_refused

pub returns-clause-one_more : goal.returns-clause-one_more
returns-clause-one_more c = one_more_is_refused
