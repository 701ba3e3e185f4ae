-- What is under the lock, and what a pass is.
use Rattle.std.specs.Prelude.{ℕ, length, ◌≡◌, true, false, List, [], ◌∷◌, Some}
use Rattle.atomic_table.specs.Seated.{TableId}
use Rattle.atomic_table.specs.Table.{Me}
use Rattle.atomic_table.specs.declared.badge.Badge.{Badge}
use Rattle.hist_cell.specs.declared.views.Entry.{Entry}
use Rattle.hist_cell.specs.declared.views.View.{View}
use Rattle.hist_cell.specs.History.{state_after, first_number, other_numbers, first_view, LegalOf}
use Rattle.std.specs.Prelude.{⊤}

-- the name of no cell
abbrev pub no_table : TableId
no_table = record { words = 0; slots = 0; views_name = 0; atom = 0; block = 0; offset = 0; slot_names = [] }

-- a cell that has no name yet: which it is, and its core
pub record Unnamed (S : Type 0) : Type 0 where
  pub table : TableId
  pub core : S

-- the badge is the turn, and the core is in the state after all that it has seen
pub record IsTurn {Q R S : Type 0} (sound : S → Type 0) (name : TableId) (b : Badge (View Q R S)) (core : S) : Type 0 where
  pub view : View Q R S
  pub views : b.views ≡ view ∷ []
  pub table : b.table_id ≡ name
  pub turn : view.turn ≡ true
  pub first : S
  pub first_is : view.start ≡ Some first
  pub sound_first : sound first
  pub core_is : core ≡ state_after first view.seen

-- a caller's seat
pub record IsPass {Q R S : Type 0} (step : S → Q → R → S → Type 0) (allows : List (Entry Q R S) → Q → Type 0) (name : TableId) (table : TableId) (count : ℕ) (me : Me ⊤ (View Q R S)) : Type 0 where
  pub at : table ≡ name
  pub holds : me.1 ≡ []
  pub turn : me.0.turn ≡ false
  pub alive : me.0.spent ≡ false
  pub numbers : me.0.numbers ≡ first_number me.0.numbers ∷ other_numbers me.0.numbers
  pub count_is : count ≡ length me.0.seen
  pub legal : LegalOf step allows me.0.start me.0.seen

-- the first seat of a table, which has the turn
pub record IsSeatOpened {Q R S : Type 0} (sound : S → Type 0) (table at : TableId) (me : Me ⊤ (View Q R S)) (core : S) : Type 0 where
  pub words : table.words ≡ 1
  pub here : at ≡ table
  pub me_is : me ≡ (first_view core, [])
  pub sound_core : sound core
