-- What workers do: the entries that their passes make, and those that they do not.
use Rattle.std.specs.Prelude.{◌≡◌, ◌⊎◌, ℕ, zero, suc, List, [], ◌∷◌, ◌++◌, Option, All, ⊤}
use Rattle.eek_seal.specs.declared.tickets.Ticket.{Ticket}
use Rattle.name_calls.specs.declared.calls.NameCall.{NameCall}
use Rattle.name_calls.specs.declared.calls.NameCall.TheVariants as call
use Rattle.name_core.specs.Calls.{superuser}
use Rattle.hist_cell.specs.declared.views.Entry.{Entry}
use Rattle.hist_cell.specs.declared.views.Known.{Known}
use Rattle.hist_cell.specs.History.{IsIn, own}
use Rattle.kms_cell.specs.Entries.{KmsEntry, KmsKnown}
use Rattle.kms_cell.specs.Fills.{FillsBy}
use Rattle.kms_cell.specs.declared.acts.KmsAct.TheVariants as key_act
use Rattle.kms_cell.specs.declared.acts.KmsActed.TheVariants as key_acted
use Rattle.kms_cell.specs.declared.filling.FillTurn.{FillTurn}
use Rattle.name_history.specs.Entries.{NameEntry, NameKnown}
use Rattle.name_history.specs.declared.acts.NameAct.{NameAct}
use Rattle.name_history.specs.declared.acts.NameAct.TheVariants as act
use Rattle.cell_workers.specs.Batches.{AnswerOf}

-- ---- the calls of workers

-- the call asks for the zones, or for the status of one
abbrev pub AsksForZones : NameCall → Type 0
AsksForZones call.Zones = ⊤
AsksForZones (call.Status path) = ⊤
AsksForZones _ = ⊥

-- ---- passes

module _ {Q R S : Type 0} where
  -- no entry has this number, and no pass was met into this one
  abbrev pub IsFresh : Known Q R S → Type 0
  IsFresh v = (own v.number v.seen ≡ []) × (v.ended ≡ [])

  -- The pass v made these entries and no others, and then passes with these numbers were met into it.
  pub record Adds (v : Known Q R S) (made : List (Entry Q R S)) (others : List ℕ) (w : Known Q R S) : Type 0 where
    pub number : w.number ≡ v.number
    pub ended : w.ended ≡ v.ended ++ others
    pub mine : own v.number w.seen ≡ own v.number v.seen ++ made

  -- The pass v made only such entries, and then passes with these numbers, which had made only such, were met into it.
  pub record Works (work : Entry Q R S → Type 0) (v : Known Q R S) (others : List ℕ) (w : Known Q R S) : Type 0 where
    pub made : List (Entry Q R S)
    pub adds : Adds v made others w
    pub all : All work made
    pub all_others : (k : ℕ) → IsIn k others → All work (own k w.seen)

-- ---- workers of the namesystem

module _ {D W : Type 0} where
  -- an entry with this call is a walk, the delivery of what a batch was answered with, or an ask of the superuser for the zones or the status of one
  abbrev pub IsWorkBy : NameAct → NameEntry D W → Type 0
  IsWorkBy (act.Call user c) e = (user ≡ superuser) × AsksForZones c
  IsWorkBy (act.Walk path) e = ⊤
  IsWorkBy (act.Deliver front reply) e = AnswerOf front e reply
  IsWorkBy _ e = ⊥

  abbrev pub IsNameWork : NameEntry D W → Type 0
  IsNameWork e = IsWorkBy e.call e

-- ---- fillers

module _ {D W : Type 0} where
  -- one turn of a filler: a ticket, and then deposits of the first draws of the words
  pub record IsFillTurn (words words' : ℕ → ℕ) (made : List (KmsEntry D W)) : Type 0 where
    pub ticket : Option Ticket
    pub asked : KmsEntry D W
    pub deposits : List (KmsEntry D W)
    pub result : FillTurn
    pub made_is : made ≡ asked ∷ deposits
    pub call_is : asked.call ≡ key_act.Ticket
    pub reply_is : asked.reply ≡ key_acted.Ticket ticket
    pub fills : FillsBy ticket words words' deposits result

  -- That many turns, one after another. Each draws from the words that the one before it left.
  abbrev pub AreFillTurns : ℕ → (ℕ → ℕ) → List (KmsEntry D W) → (ℕ → ℕ) → Type 0
  AreFillTurns zero words made words' = (made ≡ []) × (words' ≡ words)
  AreFillTurns (suc n) words made words' =
      (here : List (KmsEntry D W)) × (there : List (KmsEntry D W)) × (rest : ℕ → ℕ) × (made ≡ here ++ there) × IsFillTurn words rest here × AreFillTurns n rest there words'

  -- a filler with these words made these entries
  pub record FilledFrom (words : ℕ → ℕ) (made : List (KmsEntry D W)) : Type 0 where
    pub turns : ℕ
    pub rest : ℕ → ℕ
    pub fills : AreFillTurns turns words made rest

  -- a pass made the entries of a filler, and no others
  pub record Fills (words words' : ℕ → ℕ) (v w : KmsKnown D W) : Type 0 where
    pub turns : ℕ
    pub made : List (KmsEntry D W)
    pub adds : Adds v made [] w
    pub fills : AreFillTurns turns words made words'

  -- two passes did so, each with words of its own, and the second was met into the first
  pub record FillsBoth (first second : ℕ → ℕ) (v w : KmsKnown D W) : Type 0 where
    pub made : List (KmsEntry D W)
    pub other : ℕ
    pub adds : Adds v made (other ∷ []) w
    pub fills : FilledFrom first made
    pub other_fills : FilledFrom second (own other w.seen)

-- ---- all workers

module _ {D W : Type 0} where
  -- All entries of these numbers are the work of two fillers, each with words of its own, and of workers of the namesystem. The passes of the
  -- keys that serve batches are not among them: each delivery meets its pass into the one that the namesystem keeps, and its entry shows that
  -- this pass made the call for the batch and no other.
  pub record IsPoolWork (first second : ℕ → ℕ) (keys : List (KmsEntry D W)) (names : List (NameEntry D W)) (of_keys of_names : List ℕ) : Type 0 where
    pub filler : ℕ
    pub other_filler : ℕ
    pub numbers : of_keys ≡ filler ∷ other_filler ∷ []
    pub fills : FilledFrom first (own filler keys)
    pub other_fills : FilledFrom second (own other_filler keys)
    pub works : (k : ℕ) → IsIn k of_names → All IsNameWork (own k names)

  -- There were no workers, or all entries of these numbers are their work.
  abbrev pub IsWork : (ℕ → ℕ) → (ℕ → ℕ) → List (KmsEntry D W) → List (NameEntry D W) → List ℕ → List ℕ → Type 0
  IsWork first second keys names of_keys of_names = ((of_keys ≡ []) × (of_names ≡ [])) ⊎ IsPoolWork first second keys names of_keys of_names

  -- Workers that began with these passes, if the passes had made no entry, did all work that both passes and those met into them have made.
  abbrev pub PoolWorks : (ℕ → ℕ) → (ℕ → ℕ) → KmsKnown D W → NameKnown D W → KmsKnown D W → NameKnown D W → Type 0
  PoolWorks first second keys0 names0 keys names =
      IsFresh keys0 → IsFresh names0 → IsPoolWork first second keys.seen names.seen (keys.number ∷ keys.ended) (names.number ∷ names.ended)
