-- How a task is counted.
use Rattle.std.specs.Prelude.{ℕ, ◌+◌, Bool, true, false, ◌&&◌}
use Rattle.hk_events.specs.declared.event.Line.{Line}
use Rattle.load_run.specs.declared.counts.Counts.{Counts}
use Rattle.load_run.specs.declared.task.Task.{Task}
use Rattle.load_run.specs.declared.task.Task.TheVariants as task
use Rattle.load_run.specs.Answers.{done_in, is_completed, keys_in, none_failed, reencrypted_by, status_in, versions_in}

-- the counts after a task with this last answer
abbrev pub with_answer : Task → Line → Counts → Counts
with_answer (task.MakeFile zone file) answer c = record c { created = c.created + done_in answer }
with_answer (task.Delete zone file) answer c = record c { deleted = c.deleted + done_in answer }
with_answer (task.Roll zone) answer c = record c { rolled = c.rolled + versions_in answer }
with_answer (task.Generate zone count) answer c = record c { ready = c.ready + keys_in answer }
with_answer (task.Snap zone snapshot) answer c = record c { snapshots = c.snapshots + done_in answer }
with_answer (task.Status zone) answer c = record c { reencrypted = c.reencrypted + reencrypted_by (status_in answer) }
with_answer _ answer c = c

-- whether the task is that of a step
abbrev pub is_step : Task → Bool
is_step (task.MakeFile zone file) = true
is_step (task.Delete zone file) = true
is_step (task.Roll zone) = true
is_step (task.Generate zone count) = true
is_step (task.Snap zone snapshot) = true
is_step _ = false

abbrev pub one_if : Bool → ℕ
one_if true = 1
one_if false = 0

-- the counts after a task of which an event was refused or none
abbrev pub with_refused : Task → Bool → Counts → Counts
with_refused t refused c = record c { refused = c.refused + one_if (is_step t && refused) }

-- A re-encryption that is driven is completed, and no file has failed in it.
abbrev pub is_good : Task → Line → Bool
is_good (task.Drive zone) answer = is_completed answer
is_good (task.Status zone) answer = none_failed (status_in answer)
is_good _ answer = true
