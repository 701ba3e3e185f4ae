-- The values of an order that was read.
use Rattle.std.proofs.Common.{refl, List, inl, inr}
use Rattle.std.specs.Prelude.{Result, Ok, Err, IfOk}
use Rattle.clap.specs.Words.{Text, subcommand_of}
use Rattle.clap.proofs.OnLiterals.{clap_on_literals}
use Rattle.clap_lines.proofs.OrderLemmas.{IsPlainApp}
use Rattle.clap_lines.proofs.ParseLemmas.{IsKnownApp}
use Rattle.clap_lines.specs.declared.told.OrderFault.{OrderFault}
use Rattle.copy_command_line.specs.Line as line
use Rattle.copy_command_line.specs.Orders.{HasRightValues, IsOrderOf}
use Rattle.copy_command_line.specs.declared.order.CopyOrder.{CopyOrder}
use Rattle.copy_command_line.specs.declared.order.CopyOrder.TheVariants.{Copy, Read, Help, Version}
use Rattle.copy_command_line.proofs.ValueLemmas.{right_values}

answered_values : (o : CopyOrder) (words : List Text) → IsOrderOf o words → HasRightValues o
answered_values o words (inl read) = right_values (subcommand_of line.hkcopy words) o read.1
answered_values (Copy source target) words (inr (inl help)) = tt
answered_values (Read user path from count) words (inr (inl help)) = absurd help.0
answered_values (Help text) words (inr other) = tt
answered_values (Version text) words (inr other) = tt
answered_values (Copy source target) words (inr (inr version)) = tt
answered_values (Read user path from count) words (inr (inr version)) = absurd version.0

pub valued_from : (r : Result CopyOrder OrderFault) (words : List Text) → IfOk r (λ o. IsOrderOf o words) → IfOk r HasRightValues
valued_from (Ok o) words answers = answered_values o words answers
valued_from (Err f) words answers = tt

-- the program has no command `help`, and wants a command
pub plain : IsPlainApp line.hkcopy
plain = record { quiet = refl; required = refl }

pub known : IsKnownApp line.hkcopy
unfolding clap_on_literals
known = record { simple = refl; free = refl; plain = plain }
