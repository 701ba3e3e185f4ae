-- The tasks of a load.
use Rattle.std.specs.Prelude.{ℕ, zero, suc, ◌+◌, ◌*◌, ◌/◌, ◌%◌, ◌^◌, ◌==◌, if◌then◌else◌, List, [], ◌∷◌, ◌++◌}
use Rattle.load_run.specs.declared.task.Task.{Task}
use Rattle.load_run.specs.declared.task.Task.TheVariants as task

-- the random number after another
abbrev pub random_after : ℕ → ℕ
random_after x = (x * 6364136223846793005 + 1442695040888963407) % (2 ^ 64)

-- the random number of a step of a load of n steps; the first one follows n
abbrev pub random : ℕ → ℕ → ℕ
random n zero = n
random n (suc i) = random_after (random n i)

-- the task of step i: `kind` chooses it, and `other` is a file or a count
abbrev pub chosen : ℕ → ℕ → ℕ → ℕ → Task
chosen kind zone other i =
    if kind == 12 then task.Delete zone other
    else if kind == 13 then task.Roll zone
    else if kind == 14 then task.Snap zone i
    else if kind == 15 then task.Generate zone (1 + other % 8)
    else task.MakeFile zone i

-- the task that these bits choose for step i: the lowest four are its kind, the next two the zone, and the others name a step before
abbrev pub step_by : ℕ → ℕ → Task
step_by bits i = chosen (bits % 16) (bits / 16 % 4) (bits / 256 % i) i

-- the task of step i of a load of n steps; the upper half of its random number chooses it
abbrev pub step_of : ℕ → ℕ → Task
step_of n i = step_by (random n i / 2 ^ 32) i

-- the tasks of the first steps of a load of n steps
abbrev pub steps : ℕ → ℕ → List Task
steps n zero = []
steps n (suc i) = steps n i ++ step_of n (suc i) ∷ []

-- one task for each of the four zones
abbrev pub in_each_zone : (ℕ → Task) → List Task
in_each_zone made = made 0 ∷ made 1 ∷ made 2 ∷ made 3 ∷ []

-- before the steps: the keys, the directories, which may have snapshots, and the zones
abbrev pub set_up : List Task
set_up = in_each_zone (λ z. task.MakeKey z) ++ in_each_zone (λ z. task.MakeDirectory z) ++ in_each_zone (λ z. task.Allow z) ++ in_each_zone (λ z. task.MakeZone z)

-- a zone is re-encrypted, and its status is asked for
abbrev pub reencrypted : ℕ → List Task
reencrypted zone = task.Submit zone ∷ task.Drive zone ∷ task.Status zone ∷ []

-- after the steps each zone is re-encrypted
abbrev pub closing : List Task
closing = reencrypted 0 ++ reencrypted 1 ++ reencrypted 2 ++ reencrypted 3

-- the tasks of a load of n steps
unfoldable pub tasks : ℕ → List Task
tasks n = set_up ++ steps n n ++ closing
