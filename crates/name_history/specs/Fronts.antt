-- The fronts of batches that walks gave.
use Rattle.std.specs.Prelude.{ℕ, ◌==◌, ◌&&◌, Bool, List, [], ◌∷◌, ◌++◌, Result, Ok}
use Rattle.std.specs.List.{filter, list_any}
use Rattle.name_calls.specs.declared.calls.NameRefusal.{NameRefusal}
use Rattle.reenc_walk.specs.Files.{same_sent}
use Rattle.reenc_walk.specs.declared.sent.BatchNote.{BatchNote}
use Rattle.name_core.specs.State.{NameState}
use Rattle.name_core.specs.Updates.{is_outstanding}
use Rattle.name_core.specs.declared.walks.Walked.{Walked}
use Rattle.name_core.specs.declared.walks.Walked.TheVariants as walk
use Rattle.name_history.specs.declared.fronts.Front.{Front}

-- the same files, of the same zone and session
abbrev pub same_note : BatchNote → BatchNote → Bool
same_note a b = a.zone == b.zone && (a.session == b.session && same_sent a.sent b.sent)

abbrev pub is_front : BatchNote → ℕ → Front → Bool
is_front note count f = f.count == count && same_note f.note note

-- a batch with this zone, session and list has this front
abbrev pub has_front : List Front → BatchNote → ℕ → Bool
has_front fronts note count = list_any (is_front note count) fronts

-- the fronts of the batches that are outstanding
abbrev pub outstanding_fronts : NameState → List Front → List Front
outstanding_fronts s fronts = filter (λ f. is_outstanding s f.note) fronts

-- the fronts after a walk with this answer, at which the pass had seen so many entries
abbrev pub with_front : Result Walked NameRefusal → ℕ → List Front → List Front
with_front (Ok (walk.Batch note)) count fronts = fronts ++ record { note = note; count = count } ∷ []
with_front _ count fronts = fronts
