-- Histories, and the rule of the history word.
use Rattle.std.specs.Prelude.{ℕ, ◌≡◌, ◌<◌, ◌≤◌, ◌+◌, ◌==◌, ◌⊎◌, true, false, List, [], ◌∷◌, ◌++◌, length, cond, ltb, Option, Some, None, ⊤}
use mathlib.Core.Option.{some}
use mathlib.Core.List.{IsPrefix}
use lib.ListN.{get_elem?}
use Rattle.atomic_table.specs.Table.{State}
use Rattle.hist_cell.specs.declared.views.Entry.{Entry}
use Rattle.hist_cell.specs.declared.views.Known.{Known}
use Rattle.hist_cell.specs.declared.views.View.{View}

-- n is one of the numbers
abbrev pub IsIn : ℕ → List ℕ → Type 0
IsIn n [] = ⊥
IsIn n (m ∷ ms) = (n ≡ m) ⊎ IsIn n ms

-- no number is in the list twice
abbrev pub Distinct : List ℕ → Type 0
Distinct [] = ⊤
Distinct (m ∷ ms) = (¬ IsIn m ms) × Distinct ms

-- the first of the numbers
abbrev pub first_number : List ℕ → ℕ
first_number [] = 0
first_number (n ∷ ns) = n

-- the numbers after the first
abbrev pub other_numbers : List ℕ → List ℕ
other_numbers [] = []
other_numbers (n ∷ ns) = ns

-- the longer of two lists
abbrev pub longer : {A : Type 0} → List A → List A → List A
longer xs ys = cond (ltb (length xs) (length ys)) ys xs

-- the shorter of two lists
abbrev pub shorter : {A : Type 0} → List A → List A → List A
shorter xs ys = cond (ltb (length xs) (length ys)) xs ys

module _ {Q R S : Type 0} where
  -- the state after a history
  abbrev pub state_after : S → List (Entry Q R S) → S
  state_after s [] = s
  state_after s (e ∷ es) = state_after e.after es

  -- the same, if the first state is known
  abbrev pub state_of : Option S → List (Entry Q R S) → Option S
  state_of None es = None
  state_of (Some s) es = Some (state_after s es)

  -- the entries of one caller
  abbrev pub own : ℕ → List (Entry Q R S) → List (Entry Q R S)
  own by [] = []
  own by (e ∷ es) = cond (e.by == by) (e ∷ own by es) (own by es)

  -- ---- views

  -- the view with which a cell begins: it has the turn
  abbrev pub first_view : S → View Q R S
  first_view s = record { turn = true; spent = false; numbers = []; next = 0; start = Some s; begun = Some s; base = []; held = []; seen = [] }

  -- a view that was joined to another one
  abbrev pub spent_view : View Q R S
  spent_view = record { turn = false; spent = true; numbers = []; next = 0; start = None; begun = None; base = []; held = []; seen = [] }

  -- a caller's view after it took the turn
  abbrev pub with_turn : View Q R S → View Q R S → View Q R S
  with_turn v w = record { turn = true; spent = false; numbers = v.numbers; next = w.next; start = v.start; begun = w.start; base = v.seen; held = v.numbers; seen = w.seen }

  -- a caller's view after it gave the turn back
  abbrev pub without_turn : View Q R S → View Q R S
  without_turn v = record v { turn = false; base = v.seen }

  -- the same, but it has seen no more than before it took the turn
  abbrev pub as_before : View Q R S → View Q R S
  as_before v = record v { turn = false; seen = v.base }

  -- the turn by itself
  abbrev pub turn_of : View Q R S → View Q R S
  turn_of v = record { turn = true; spent = false; numbers = []; next = v.next; start = v.start; begun = v.start; base = v.seen; held = []; seen = v.seen }

  -- the view with the turn, once it has given its next number
  abbrev pub counted : View Q R S → View Q R S
  counted v = record v { next = v.next + 1 }

  -- the new view, which has that number, and has seen what the other had before the turn
  abbrev pub newcomer : View Q R S → View Q R S
  newcomer v = record { turn = false; spent = false; numbers = v.next ∷ []; next = 0; start = v.start; begun = v.start; base = v.base; held = []; seen = v.base }

  -- a view with one more entry
  abbrev pub with_entry : View Q R S → Entry Q R S → View Q R S
  with_entry v e = record v { base = v.seen ++ e ∷ []; seen = v.seen ++ e ∷ [] }

  -- the entry that this caller adds by such a call
  abbrev pub entry_by : View Q R S → Q → R → S → Entry Q R S
  entry_by v call reply after = record { by = first_number v.numbers; call = call; reply = reply; after = after }

  -- two callers' views made one
  abbrev pub united : View Q R S → View Q R S → View Q R S
  united v w = record v { turn = false; numbers = v.numbers ++ w.numbers; begun = w.start; base = shorter v.seen w.seen; held = cond (ltb (length v.seen) (length w.seen)) v.numbers w.numbers; seen = longer v.seen w.seen }

  -- what contracts see of a caller's view
  abbrev pub known : View Q R S → Known Q R S
  known v = record { number = first_number v.numbers; ended = other_numbers v.numbers; start = v.start; seen = v.seen }

  -- ---- the rule

  -- a view has seen a prefix of the history, with all entries of its numbers
  pub record Fits (log : List (Entry Q R S)) (v : View Q R S) : Type 0 where
    pub begins : IsPrefix v.seen log
    pub all_own : (k : ℕ) → IsIn k v.numbers → own k log ≡ own k v.seen
    pub base_begins : IsPrefix v.base v.seen
    pub base_own : (k : ℕ) → IsIn k v.held → own k v.seen ≡ own k v.base
    pub distinct : Distinct v.numbers

  -- the view with the turn has seen all, and its next number is new
  pub record HasTurn (log : List (Entry Q R S)) (views : List (View Q R S)) (v : View Q R S) : Type 0 where
    pub alive : v.spent ≡ false
    pub all : v.seen ≡ log
    pub below : (i : ℕ) (u : View Q R S) → get_elem? views i ≡ some u → (k : ℕ) → IsIn k u.numbers → k < v.next
    pub fresh : (k : ℕ) → v.next ≤ k → own k log ≡ []

  -- w is a new pass: it has seen what v has, and has made no call
  pub record Splits (v w : Known Q R S) : Type 0 where
    pub seen : w.seen ≡ v.seen
    pub ended : w.ended ≡ []
    pub start : w.start ≡ v.start
    pub new : ¬ IsIn w.number (v.number ∷ v.ended)
    pub no_own : own w.number w.seen ≡ []

  -- v after w was met into it
  pub record Meets (v w into : Known Q R S) : Type 0 where
    pub number : into.number ≡ v.number
    pub start : into.start ≡ v.start
    pub same_start : w.start ≡ v.start
    pub ended : into.ended ≡ v.ended ++ w.number ∷ w.ended
    pub seen : into.seen ≡ longer v.seen w.seen
    pub this : IsPrefix v.seen into.seen
    pub that : IsPrefix w.seen into.seen
    pub this_own : (k : ℕ) → IsIn k (v.number ∷ v.ended) → own k into.seen ≡ own k v.seen
    pub that_own : (k : ℕ) → IsIn k (w.number ∷ w.ended) → own k into.seen ≡ own k w.seen
    pub distinct : Distinct (into.number ∷ into.ended)

module _ {Q R S : Type 0} (step : S → Q → R → S → Type 0) (allows : List (Entry Q R S) → Q → Type 0) where
  -- each entry is a step from the state after the one before it, and its call is one that the entries before it allow
  abbrev pub LegalAfter : List (Entry Q R S) → S → List (Entry Q R S) → Type 0
  LegalAfter before s [] = ⊤
  LegalAfter before s (e ∷ es) = allows before e.call × step s e.call e.reply e.after × LegalAfter (before ++ e ∷ []) e.after es

  -- a legal history from this state on
  abbrev pub Legal : S → List (Entry Q R S) → Type 0
  Legal s es = LegalAfter [] s es

  -- the same, if the first state is known
  abbrev pub LegalOf : Option S → List (Entry Q R S) → Type 0
  LegalOf None es = ⊥
  LegalOf (Some s) es = Legal s es

  -- the entry may follow the history
  abbrev pub Follows : Option S → List (Entry Q R S) → Entry Q R S → Type 0
  Follows None es e = ⊥
  Follows (Some s) es e = allows es e.call × step (state_after s es) e.call e.reply e.after

  -- The rule: the word counts the entries of a legal history. Each view has seen a prefix of it, and exactly one view has the turn. No
  -- number belongs to two views.
  pub record KeepsRule (start : S) (s : State ⊤ (View Q R S)) : Type 0 where
    pub log : List (Entry Q R S)
    pub words : s.words ≡ length log ∷ []
    pub legal : Legal start log
    pub starts : (i : ℕ) (v : View Q R S) → get_elem? s.views i ≡ some v → v.spent ≡ false → (v.start ≡ Some start) × (v.begun ≡ Some start)
    pub fits : (i : ℕ) (v : View Q R S) → get_elem? s.views i ≡ some v → Fits log v
    pub turn : (i : ℕ) (v : View Q R S) → get_elem? s.views i ≡ some v → v.turn ≡ true → HasTurn log s.views v
    pub one : (i j : ℕ) (v w : View Q R S) → get_elem? s.views i ≡ some v → get_elem? s.views j ≡ some w → v.turn ≡ true → w.turn ≡ true → i ≡ j
    pub apart : (i j : ℕ) (v w : View Q R S) → get_elem? s.views i ≡ some v → get_elem? s.views j ≡ some w
        → (k : ℕ) → IsIn k v.numbers → IsIn k w.numbers → i ≡ j

  -- ---- what steps tell

  -- what the view with the turn learns from the word
  pub record Leads (v : View Q R S) (found : ℕ) : Type 0 where
    pub count : found ≡ length v.seen
    pub below : (k : ℕ) → IsIn k v.numbers → k < v.next
    pub fresh : (k : ℕ) → v.next ≤ k → own k v.seen ≡ []

  -- what any view learns from the word
  pub record Learns (v : View Q R S) (found : ℕ) : Type 0 where
    pub begins : IsPrefix v.base v.seen
    pub base_own : (k : ℕ) → IsIn k v.held → own k v.seen ≡ own k v.base
    pub distinct : Distinct v.numbers
    pub legal : v.spent ≡ false → LegalOf v.start v.seen
    pub same_start : v.spent ≡ false → v.begun ≡ v.start
    pub leads : v.turn ≡ true → Leads v found

  -- an entry was added, and the history is still legal
  abbrev pub Committed : Option (Entry Q R S) → View Q R S → View Q R S → Type 0
  Committed item v w = (e : Entry Q R S) × (item ≡ Some e) × (w ≡ with_entry v e) × LegalOf v.start (v.seen ++ e ∷ [])

  -- ---- what contracts say

  -- A call is one entry of the legal history, after all that its caller had seen. Entries of others may be between.
  pub record MakesEntry (v : Known Q R S) (call : Q) (reply : R) (w : Known Q R S) : Type 0 where
    pub entry : Entry Q R S
    pub between : List (Entry Q R S)
    pub by : entry.by ≡ v.number
    pub call_is : entry.call ≡ call
    pub reply_is : entry.reply ≡ reply
    pub seen : w.seen ≡ (v.seen ++ between) ++ entry ∷ []
    pub mine : own v.number w.seen ≡ own v.number v.seen ++ entry ∷ []
    pub legal : LegalOf w.start w.seen
    pub same : (w.number ≡ v.number) × (w.ended ≡ v.ended) × (w.start ≡ v.start)

  -- such a call, made of a core that was in the state s and is then in the state t
  pub record MakesEntryOn (s : S) (v : Known Q R S) (call : Q) (reply : R) (w : Known Q R S) (t : S) : Type 0 where
    pub acts : MakesEntry v call reply w
    pub first : S
    pub first_is : v.start ≡ Some first
    pub before : s ≡ state_after first (v.seen ++ acts.between)
    pub after : acts.entry.after ≡ t

  -- Such a call, and a pass that the core lent in the state from which the entry is a step.
  pub record Lends {H : Type 0} (lends : S → H → Type 0) (v : Known Q R S) (call : Q) (reply : R) (w : Known Q R S) (lent : H) : Type 0 where
    pub acts : MakesEntry v call reply w
    pub first : S
    pub first_is : v.start ≡ Some first
    pub given : lends (state_after first (v.seen ++ acts.between)) lent

  -- Such a call, by a core that first took in a pass of another cell, in the state from which the entry is a step.
  pub record TakesIn {H : Type 0} (takes : S → H → S → Type 0) (answers : S → Q → R → S → Type 0) (v : Known Q R S) (with : H) (call : Q) (reply : R) (w : Known Q R S) : Type 0 where
    pub acts : MakesEntry v call reply w
    pub first : S
    pub first_is : v.start ≡ Some first
    pub met : S
    pub took : takes (state_after first (v.seen ++ acts.between)) with met
    pub answered : answers met call reply acts.entry.after

  -- the core after the whole history, of which the pass has seen a prefix
  pub record Closes (v : Known Q R S) (core : S) : Type 0 where
    pub all : List (Entry Q R S)
    pub begins : IsPrefix v.seen all
    pub legal : LegalOf v.start all
    pub core_is : Some core ≡ state_of v.start all
    pub mine : (k : ℕ) → IsIn k (v.number ∷ v.ended) → own k all ≡ own k v.seen
