-- The last round: after all connections, each zone whose re-encryption goes on is walked through, and its batches are served and delivered.
use Rattle.std.specs.Prelude.{◌≡◌, ℕ, Bool, true, false, cond, List, [], ◌∷◌, ◌++◌, length, Option, Some, None, Result, Ok, Err}
use Rattle.name_calls.specs.declared.calls.NameCall.{NameCall}
use Rattle.name_calls.specs.declared.calls.NameCall.TheVariants as call
use Rattle.name_calls.specs.declared.calls.NameRefusal.{NameRefusal}
use Rattle.name_calls.specs.declared.calls.NameRefusal.TheVariants as refusal
use Rattle.name_calls.specs.declared.calls.NameReply.{NameReply}
use Rattle.name_calls.specs.declared.calls.NameReply.TheVariants as reply
use Rattle.name_calls.specs.declared.paths.NPath.{NPath}
use Rattle.name_calls.specs.declared.status.Delivered.{Delivered}
use Rattle.name_calls.specs.declared.status.State.{State}
use Rattle.name_calls.specs.declared.status.State.TheVariants as state_is
use Rattle.name_calls.specs.declared.zone_list.ZonePath.{ZonePath}
use Rattle.reenc_walk.specs.declared.sent.BatchNote.{BatchNote}
use Rattle.reenc_update.specs.Replies.{ReplyState}
use Rattle.name_core.specs.Calls.{superuser}
use Rattle.name_core.specs.declared.walks.Walked.{Walked}
use Rattle.name_core.specs.declared.walks.Walked.TheVariants as walk
use Rattle.name_history.specs.Entries.{NameEntry}
use Rattle.name_history.specs.declared.acts.NameAct.TheVariants as act
use Rattle.name_history.specs.declared.acts.NameActed.TheVariants as acted
use Rattle.cell_workers.specs.Batches.{CameOf}

-- ---- what replies say

-- the zones that a reply lists
abbrev pub zones_in : NameReply → List ZonePath
zones_in (reply.Zones zones) = zones
zones_in _ = []

-- the re-encryption has not ended
abbrev pub is_open : State → Bool
is_open state_is.Submitted = true
is_open state_is.Processing = true
is_open state_is.Completed = false

-- the reply shows a re-encryption that has not ended
abbrev pub goes_on : NameReply → Bool
goes_on (reply.Status (Some status)) = is_open status.state
goes_on _ = false

-- there was memory for the reply
abbrev pub HadMemory : NameReply → Type 0
HadMemory answer = ¬ (answer ≡ reply.Refused refusal.NoMemory)

-- the batch that a walk gave
abbrev pub batch_of : Result Walked NameRefusal → Option BatchNote
batch_of (Ok (walk.Batch batch)) = Some batch
batch_of _ = None

-- the walks go on after a delivery, unless it was refused
abbrev pub After : Result Delivered NameRefusal → Type 0 → Type 0 → Type 0
After (Ok delivered) more ends = more
After (Err why) more ends = ends

-- ---- entries

module _ {D W : Type 0} where
  -- a call of the superuser, with its reply
  pub record IsCall (c : NameCall) (answer : NameReply) (e : NameEntry D W) : Type 0 where
    pub call_is : e.call ≡ act.Call superuser c
    pub reply_is : e.reply ≡ acted.Call answer

  -- a walk through the zone at a path, with its answer
  pub record IsWalk (path : NPath) (answer : Result Walked NameRefusal) (e : NameEntry D W) : Type 0 where
    pub call_is : e.call ≡ act.Walk path
    pub reply_is : e.reply ≡ acted.Walk answer

  -- the delivery of a reply with the front of its batch, with its answer
  pub record IsDelivery (front : ℕ) (came : ReplyState) (answer : Result Delivered NameRefusal) (e : NameEntry D W) : Type 0 where
    pub call_is : e.call ≡ act.Deliver front came
    pub reply_is : e.reply ≡ acted.Deliver answer

  -- a walk gave no batch
  pub record GivesNone (path : NPath) (walked : NameEntry D W) : Type 0 where
    pub gave : Result Walked NameRefusal
    pub walk_is : IsWalk path gave walked
    pub none : batch_of gave ≡ None

  -- one entry lists the zones
  abbrev pub ListsZones : List ZonePath → List (NameEntry D W) → Type 0
  ListsZones zones made = (e : NameEntry D W) × (answer : NameReply) × (made ≡ e ∷ []) × IsCall call.Zones answer e × HadMemory answer × (zones ≡ zones_in answer)

  -- one entry asks for the status of a zone, and shows whether its re-encryption goes on
  abbrev pub ShowsStatus : NPath → Bool → List (NameEntry D W) → Type 0
  ShowsStatus path going made = (e : NameEntry D W) × (answer : NameReply) × (made ≡ e ∷ []) × IsCall (call.Status path) answer e × HadMemory answer × (going ≡ goes_on answer)

  -- the status of each zone was asked for, in order; `going` are the paths of those whose re-encryption has not ended
  abbrev pub AsksAbout : List ZonePath → List (NameEntry D W) → List NPath → Type 0
  AsksAbout [] [] going = going ≡ []
  AsksAbout (zone ∷ zones) (e ∷ es) going =
      (answer : NameReply) × (more : List NPath) × IsCall (call.Status zone.path) answer e × HadMemory answer
      × (going ≡ cond (goes_on answer) (zone.path ∷ more) more) × AsksAbout zones es more
  AsksAbout _ _ going = ⊥

  -- A walk gave a batch, and what came of it was delivered. The front is how many entries the kept pass of the keys had seen at the walk.
  pub record DeliversBatch (path : NPath) (walked delivered : NameEntry D W) (answer : Result Delivered NameRefusal) : Type 0 where
    pub gave : Result Walked NameRefusal
    pub batch : BatchNote
    pub front : ℕ
    pub came : ReplyState
    pub walk_is : IsWalk path gave walked
    pub gave_batch : batch_of gave ≡ Some batch
    pub front_is : front ≡ length walked.after.keys.seen
    pub for_batch : came.note ≡ batch
    pub served : CameOf front delivered came
    pub delivery_is : IsDelivery front came answer delivered

  -- The walks through the zone at a path: each batch is served and delivered before the next walk. The last walk is the first that gives no
  -- batch, or the first whose delivery is refused.
  abbrev pub Walks : NPath → List (NameEntry D W) → Type 0
  Walks path [] = ⊥
  Walks path (walked ∷ []) = GivesNone path walked
  Walks path (walked ∷ delivered ∷ es) = (answer : Result Delivered NameRefusal) × DeliversBatch path walked delivered answer × After answer (Walks path es) (es ≡ [])

  -- entries after which the walks of a zone go on, whatever comes; or they were the last
  abbrev pub WalkedOn : Bool → NPath → List (NameEntry D W) → Type 0
  WalkedOn true path made = (es : List (NameEntry D W)) → Walks path es → Walks path (made ++ es)
  WalkedOn false path made = Walks path made

  -- the walks through the zones at these paths, one zone after another
  abbrev pub WalksAll : List NPath → List (NameEntry D W) → Type 0
  WalksAll [] es = es ≡ []
  WalksAll (path ∷ paths) es = (here : List (NameEntry D W)) × (there : List (NameEntry D W)) × (es ≡ here ++ there) × Walks path here × WalksAll paths there

  -- The last round: the zones are listed, the status of each is asked for, and those whose re-encryption has not ended are walked through.
  pub record IsLastRound (made : List (NameEntry D W)) : Type 0 where
    pub listed : NameReply
    pub asked : NameEntry D W
    pub statuses : List (NameEntry D W)
    pub going : List NPath
    pub walks : List (NameEntry D W)
    pub made_is : made ≡ asked ∷ (statuses ++ walks)
    pub zones : IsCall call.Zones listed asked
    pub had_memory : HadMemory listed
    pub asks : AsksAbout (zones_in listed) statuses going
    pub walked : WalksAll going walks
