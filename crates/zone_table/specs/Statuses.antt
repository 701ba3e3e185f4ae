-- The statuses of the zones that were submitted for re-encryption, at most one a zone.
use Rattle.std.specs.Prelude.{◌≡◌, ℕ, ◌+◌, ◌-◌, ◌^◌, Bool, true, false, not, ◌&&◌, ◌==◌, nat_lt, List, [], ◌∷◌, map, Option, Some, None, if◌then◌else◌}
use Rattle.std.specs.List.{All, filter, find, list_any}
use Rattle.std.specs.Option.{option_and_then, option_map_or}
use Rattle.hk_base.specs.declared.names.KeyName.{KeyName}
use Rattle.hk_base.specs.Names.{Version}
use Rattle.name_calls.specs.declared.paths.NPath.{NPath}
use Rattle.inode_tree.specs.Below.{at_or_below}
use Rattle.inode_tree.specs.Rows.{Entry, entry_of, mark_of}
use Rattle.zone_table.specs.declared.statuses.StatusRow.{StatusRow}

-- the statuses in the order of the first submissions, and the capacity for more
pub record StatusesState : Type 0 where
  pub rows : List StatusRow
  pub spare : ℕ

-- the capacity that a submission needs
abbrev pub need_status : ℕ
need_status = 1

abbrev pub is_of : ℕ → StatusRow → Bool
is_of zone s = s.zone == zone

-- the status of a zone
abbrev pub status_of : List StatusRow → ℕ → Option StatusRow
status_of statuses zone = find (is_of zone) statuses

abbrev pub goes_on : StatusRow → Bool
goes_on s = not s.completed

-- the zone is being re-encrypted
abbrev pub zone_goes_on : List StatusRow → ℕ → Bool
zone_goes_on statuses zone = option_map_or goes_on (status_of statuses zone) false

abbrev pub goes_on_under : ℕ → StatusRow → Bool
goes_on_under session s = s.session == session && goes_on s

-- a zone is being re-encrypted under the session
abbrev pub session_goes_on : List StatusRow → ℕ → Bool
session_goes_on statuses session = list_any (goes_on_under session) statuses

-- the status of a zone right after it was submitted
abbrev pub new_status : ℕ → ℕ → Version → StatusRow
new_status zone session noted = record { zone = zone; session = session; noted = noted; completed = false; cancelled = false; reencrypted = 0; failed = 0; mark = None }

-- the statuses with another one: in the place of the earlier one of its zone, or at the end
abbrev pub with_status : StatusRow → List StatusRow → List StatusRow
with_status s [] = s ∷ []
with_status s (t ∷ ts) = if is_of s.zone t then s ∷ ts else t ∷ with_status s ts

abbrev pub with_end : ℕ → Bool → StatusRow → StatusRow
with_end session cancelled s = if goes_on_under session s then record s { completed = true; cancelled = cancelled } else s

-- the statuses after the session has ended
abbrev pub ended : ℕ → Bool → List StatusRow → List StatusRow
ended session cancelled statuses = map (with_end session cancelled) statuses

-- a count that stays at the greatest number of 64 bits
abbrev pub capped : ℕ → ℕ
capped n = if nat_lt n (2 ^ 64) then n else 2 ^ 64 - 1

-- the mark, or the earlier one if it has not moved
abbrev pub or_mark : Option NPath → Option NPath → Option NPath
or_mark None mark = mark
or_mark (Some p) mark = Some p

-- the status with more files that were re-encrypted or failed, and with a mark that may have moved
abbrev pub with_counts : ℕ → ℕ → Option NPath → StatusRow → StatusRow
with_counts changed failed mark s = record s { reencrypted = capped (s.reencrypted + changed); failed = capped (s.failed + failed); mark = or_mark mark s.mark }

-- the statuses after the first one that goes on under the session has counted files
abbrev pub counted : ℕ → ℕ → ℕ → Option NPath → List StatusRow → List StatusRow
counted session changed failed mark [] = []
counted session changed failed mark (s ∷ ss) = if goes_on_under session s then with_counts changed failed mark s ∷ ss else s ∷ counted session changed failed mark ss

-- the statuses without those of zones at the path or below it
abbrev pub without_below : List Entry → List (List ℕ) → List StatusRow → List StatusRow
without_below rows p statuses = filter (λ s. not (at_or_below rows s.zone p)) statuses

-- the mark of the directory that has the id
abbrev pub mark_of_id : List Entry → ℕ → Option KeyName
mark_of_id rows id = option_and_then (λ e. mark_of e.row.kind) (entry_of rows id)

-- each status is of a directory marked with the key whose version it has
abbrev pub StatusesFit : List Entry → List StatusRow → Type 0
StatusesFit rows statuses = All (λ s. mark_of_id rows s.zone ≡ Some s.noted.key) statuses
