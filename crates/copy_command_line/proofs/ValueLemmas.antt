-- The bounds of the values of an order.
use Rattle.std.proofs.Common.{codes, List, ◌≡◌, Some, None, Bool, true, false}
use Rattle.std.specs.Prelude.{Option, if◌then◌else◌}
use Rattle.std.specs.Str.{bytes_eq}
use Rattle.clap.specs.Words.{Row, Text}
use Rattle.clap_lines.specs.Orders.{order_at}
use Rattle.read_words.proofs.ReadLemmas.{right_order}
use Rattle.copy_command_line.specs.Orders.{HasRightValues, copy_order, order_named, read_order, read_order_in, source_in, target_in}
use Rattle.copy_command_line.specs.declared.order.CopyOrder.{CopyOrder}
use Rattle.copy_command_line.specs.declared.order.CopyOrder.TheVariants.{Copy}

copy_values : (source target : Option Text) (o : CopyOrder) → copy_order source target ≡ Some o → HasRightValues o
copy_values (Some source) (Some target) o e = let is : Copy source target ≡ o = cc e in rw (← is) tt
copy_values (Some source) None o e = cc
copy_values None target o e = cc

pub right_values : (entered : Option (Text × List Row)) (o : CopyOrder) → order_at order_named entered ≡ Some o → HasRightValues o
right_values None o e = cc
right_values (Some command) o e = by (bytes_eq command.0 (codes "copy")) (bytes_eq command.0 (codes "read")) e
  where
    rows : List Row
    rows = command.1

    by : (copies reads : Bool)
        → (if copies then copy_order (source_in rows) (target_in rows) else (if reads then read_order_in rows else None)) ≡ Some o
        → HasRightValues o
    by true reads e = copy_values (source_in rows) (target_in rows) o e
    by false true e = right_order read_order HasRightValues (λ v right. right) rows o e
    by false false e = cc
