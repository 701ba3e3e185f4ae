-- Counts of the calls that connections were answered.
use Rattle.std.specs.Prelude.{ℕ, ◌+◌, ◌%◌, ◌^◌, Bool, true, false, ◌||◌, max, nat_le, if◌then◌else◌}
use Rattle.service_health.specs.declared.counts.CallEnd.{CallEnd}
use Rattle.service_health.specs.declared.counts.CallEnd.TheVariants as end
use Rattle.service_health.specs.declared.counts.CallNote.{CallNote}
use Rattle.service_health.specs.declared.counts.CallTotals.{CallTotals}
use Rattle.service_health.specs.declared.counts.Service.{Service}
use Rattle.service_health.specs.declared.counts.Service.TheVariants as service
use Rattle.service_health.specs.declared.counts.ServiceCounts.{ServiceCounts}
use Rattle.service_health.specs.declared.counts.CallCounts.{CallCounts}

-- one more, after 2^64 - 1 from zero on
abbrev pub next : ℕ → ℕ
next n = (n + 1) % 2 ^ 64

-- the totals with one more call that ended so
abbrev pub with_end : CallEnd → CallTotals → CallTotals
with_end end.Done t = record t { done = next t.done }
with_end end.Refused t = record t { refused = next t.refused }
with_end end.Failed t = record t { failed = next t.failed }

-- whether the log fails after a change that ended so: a refusal that is no fault of the log says nothing of it
abbrev pub fails_after : CallEnd → Bool → Bool
fails_after end.Done failing = false
fails_after end.Refused failing = failing
fails_after end.Failed failing = true

-- The counts after a call that reads.
abbrev pub after_read : CallEnd → ℕ → ServiceCounts → ServiceCounts
after_read how at s = record s { reads = with_end how s.reads; entries = max s.entries at }

-- The counts after a change. The log is as the latest change in the history left it.
abbrev pub after_change : CallEnd → ℕ → ServiceCounts → ServiceCounts
after_change how at s =
    record s {
      changes = with_end how s.changes;
      entries = max s.entries at;
      latest = max s.latest at;
      failing = if nat_le s.latest at then fails_after how s.failing else s.failing;
    }

-- the same of either kind
abbrev pub after_kind : Bool → CallEnd → ℕ → ServiceCounts → ServiceCounts
after_kind true how at s = after_change how at s
after_kind false how at s = after_read how at s

-- the counts of both services after a call of one
abbrev pub after_service : Service → CallNote → CallCounts → CallCounts
after_service service.Keys note c = record c { keys = after_kind note.change note.end note.at c.keys }
after_service service.Names note c = record c { names = after_kind note.change note.end note.at c.names }

abbrev pub after_call : CallNote → CallCounts → CallCounts
after_call note c = after_service note.service note c

-- the counts of no calls
abbrev pub no_calls : ServiceCounts
no_calls = record { reads = record { done = 0; refused = 0; failed = 0 }; changes = record { done = 0; refused = 0; failed = 0 }; entries = 0; latest = 0; failing = false }

abbrev pub no_counts : CallCounts
no_counts = record { keys = no_calls; names = no_calls }

-- the log of either service fails
abbrev pub is_failing : CallCounts → Bool
is_failing c = c.keys.failing || c.names.failing
