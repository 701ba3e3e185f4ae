-- What comes after an event of an order.
use Rattle.std.specs.Prelude.{◌≡◌, None, Some}
use Rattle.hk_events.specs.declared.event.Line.{Line}
use Rattle.world_desk.specs.declared.orders.Advance.{Advance}
use Rattle.world_desk.specs.declared.orders.Advance.TheVariants as advance
use Rattle.world_desk.specs.Orders.{next_in_order, reply_of}

-- the event that follows, or the reply if none does
abbrev pub IsAfter : Line → Advance → Type 0
IsAfter answer (advance.Event next) = next_in_order answer ≡ Some next
IsAfter answer (advance.Reply given) = (next_in_order answer ≡ None) × (given ≡ reply_of answer)
