-- Events of both services.
use Rattle.std.specs.Prelude.{⊤}
use Rattle.hk_events.specs.declared.event.Event.{Event}
use Rattle.hk_events.specs.declared.event.Event.TheVariants.{RestartKms, RestartName}
use Rattle.hk_events.specs.declared.event.Line.{Line}

-- the event is no restart
abbrev pub IsNoRestart : Event → Type 0
IsNoRestart RestartKms = ⊥
IsNoRestart RestartName = ⊥
IsNoRestart _ = ⊤

-- the events that may happen somewhere, their answers, and where they lead
abbrev pub Leading : Type 0 → Type 1
Leading X = X → Event → Line → X → Type 0
