-- The bounds of the values of an order.
use Rattle.std.proofs.Common.{refl, codes, List, ◌≡◌, Some, None, Bool, true, false}
use Rattle.std.specs.Prelude.{Option, if◌then◌else◌}
use Rattle.std.specs.Str.{bytes_eq}
use Rattle.clap.specs.Words.{Row, Text, first_of}
use Rattle.clap_lines.specs.Orders.{IsRightUser, order_at, user_in}
use Rattle.clap_lines.proofs.ValueLemmas.{user_given}
use Rattle.read_words.specs.Values.{path_in}
use Rattle.read_words.proofs.ReadLemmas.{right_order}
use Rattle.fs_command_line.specs.Orders.{HasRightValues, order_named, put_order, read_order, read_order_in}
use Rattle.fs_command_line.specs.declared.order.FsOrder.{FsOrder}
use Rattle.fs_command_line.specs.declared.order.FsOrder.TheVariants.{Put}

put_values : (user path : Option Text) (o : FsOrder) → ((u : Text) → user ≡ Some u → IsRightUser u) → put_order user path ≡ Some o → HasRightValues o
put_values (Some user) (Some path) o right e = let is : Put user path ≡ o = cc e in rw (← is) (right user refl)
put_values (Some user) None o right e = cc
put_values None path o right e = cc

pub right_values : (entered : Option (Text × List Row)) (o : FsOrder) → order_at order_named entered ≡ Some o → HasRightValues o
right_values None o e = cc
right_values (Some command) o e = by (bytes_eq command.0 (codes "put")) (bytes_eq command.0 (codes "read")) e
  where
    rows : List Row
    rows = command.1

    by : (puts reads : Bool)
        → (if puts then put_order (user_in rows) (path_in rows) else (if reads then read_order_in rows else None)) ≡ Some o
        → HasRightValues o
    by true reads e = put_values (user_in rows) (path_in rows) o (user_given (first_of (codes "user") rows)) e
    by false true e = right_order read_order HasRightValues (λ v right. right) rows o e
    by false false e = cc
