-- What comes after an event of a task.
use Rattle.std.specs.Prelude.{◌≡◌, ⊤, Option, None, Some}
use Rattle.hk_events.specs.declared.event.Event.{Event}
use Rattle.load_run.specs.declared.events.Advance.{Advance}
use Rattle.load_run.specs.declared.events.Advance.TheVariants as advance

-- the event that follows, if one does; nothing is said if there was no memory for it
abbrev pub IsAdvance : Option Event → Advance → Type 0
IsAdvance next (advance.Event e) = next ≡ Some e
IsAdvance next advance.End = next ≡ None
IsAdvance next advance.NoMemory = ⊤
