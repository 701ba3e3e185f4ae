-- What is tried again: what was refused for the disk or for memory.
use Rattle.std.specs.Prelude.{Bool, true, false, cond, Result, Ok, Err}
use Rattle.name_calls.specs.declared.calls.NameRefusal.{NameRefusal}
use Rattle.name_calls.specs.declared.calls.NameRefusal.TheVariants as refusal
use Rattle.name_calls.specs.declared.status.Delivered.{Delivered}
use Rattle.name_core.specs.declared.walks.Walked.{Walked}
use Rattle.name_core.specs.declared.walks.Walked.TheVariants as walk
use Rattle.cell_workers.specs.declared.retries.AfterDelivery.{AfterDelivery}
use Rattle.cell_workers.specs.declared.retries.AfterDelivery.TheVariants as after_delivery_is
use Rattle.cell_workers.specs.declared.retries.AfterWalk.{AfterWalk}
use Rattle.cell_workers.specs.declared.retries.AfterWalk.TheVariants as after_walk_is

-- the refusal is for the disk or for memory, so the same may be accepted later
abbrev pub is_temporary : NameRefusal → Bool
is_temporary refusal.NoMemory = true
is_temporary refusal.StoreFault = true
is_temporary _ = false

-- A batch is served. A walk that was refused for the disk or for memory is made again, and no other.
abbrev pub after_walk : Result Walked NameRefusal → AfterWalk
after_walk (Ok (walk.Batch note)) = after_walk_is.Serve note
after_walk (Ok (walk.NoneLeft outstanding)) = after_walk_is.Nothing
after_walk (Ok walk.Completed) = after_walk_is.Nothing
after_walk (Err why) = cond (is_temporary why) after_walk_is.Again after_walk_is.Nothing

-- After a delivery the zone is walked through. A batch whose delivery was refused for the disk or for memory is served again, and no other.
abbrev pub after_delivery : Result Delivered NameRefusal → AfterDelivery
after_delivery (Ok delivered) = after_delivery_is.Walk
after_delivery (Err why) = cond (is_temporary why) after_delivery_is.Again after_delivery_is.Nothing
