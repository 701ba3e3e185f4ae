-- What a transaction of a connection takes: calls of the cell of the keys, and entries of the history of the namesystem.
use Rattle.std.specs.Prelude.{◌≡◌, ◌⊎◌, ℕ, List, [], ◌∷◌, ◌++◌, length, Option, Result, Ok, Err}
use Rattle.hk_base.specs.declared.texts.Text.{Text}
use Rattle.kms_calls.specs.declared.calls.KmsReply.{KmsReply}
use Rattle.name_calls.specs.declared.calls.Ask.{Ask}
use Rattle.name_calls.specs.declared.calls.AskNote.{AskNote}
use Rattle.name_calls.specs.declared.calls.NameRefusal.{NameRefusal}
use Rattle.name_calls.specs.declared.calls.NameRefusal.TheVariants as refusal
use Rattle.name_calls.specs.declared.calls.NameReply.{NameReply}
use Rattle.name_calls.specs.declared.calls.NameReply.TheVariants as reply
use Rattle.name_calls.specs.declared.calls.Want.{Want}
use Rattle.name_rest.specs.declared.order.NameOrder.TheVariants as order
use Rattle.hist_cell.specs.History.{own}
use Rattle.kms_cell.specs.Entries.{KmsEntry, KmsKnown}
use Rattle.kms_cell.specs.declared.acts.KmsAct.{KmsAct}
use Rattle.kms_cell.specs.declared.acts.KmsAct.TheVariants as key_act
use Rattle.kms_cell.specs.declared.acts.KmsActed.{KmsActed}
use Rattle.kms_cell.specs.declared.acts.KmsActed.TheVariants as key_acted
use Rattle.name_history.specs.Asked.{AnswersWant}
use Rattle.name_history.specs.Entries.{NameEntry}
use Rattle.name_history.specs.Served.{Got, IfWanted, act_wanted}
use Rattle.name_history.specs.declared.acts.NameAct.TheVariants as act
use Rattle.name_history.specs.declared.acts.NameActed.TheVariants as acted
use Rattle.hk_serve.specs.Transactions.{OfKeys, OfLook, OfNames, Transaction}
use Rattle.turns.specs.Entries.{calls_of}

-- calls of the cell of the keys, each with its reply
abbrev pub KeyCalls : Type 0
KeyCalls = List (KmsAct × KmsActed)

-- the reply to an ask that was finished so
abbrev pub finish_reply : Result (Unit {0}) NameRefusal → NameReply
finish_reply (Ok done) = reply.Done
finish_reply (Err why) = reply.Refused why

module _ {D W : Type 0} where
  -- there was no memory for it, and nothing was called
  pub record NotBegun (answer : NameReply) (keys : KeyCalls) (names : List (NameEntry D W)) : Type 0 where
    pub no_keys : keys ≡ []
    pub no_names : names ≡ []
    pub answer_is : answer ≡ reply.Refused refusal.NoMemory

  -- the ask was refused, and nothing else was called
  pub record NotAsked (user : Text) (asked : Ask) (answer : NameReply) (keys : KeyCalls) (names : List (NameEntry D W)) : Type 0 where
    pub why : NameRefusal
    pub no_keys : keys ≡ []
    pub refuses : calls_of names ≡ (act.Ask user asked, acted.Ask (Err why)) ∷ []
    pub answer_is : answer ≡ reply.Refused why

  -- The number made this call, with this reply, and no other call.
  abbrev pub CallsOnce : KmsAct → KmsReply → ℕ → List (KmsEntry D W) → Type 0
  CallsOnce q r by seen = Got 0 q r by seen × (length (own by seen) ≡ 1)

  -- What a pass has seen shows the call that a note wants, with this reply: the number that ended last made that call and no other. Or the note
  -- wants none, and there is no reply.
  abbrev pub ShowsWanted : Want → Option KmsReply → KmsKnown D W → Type 0
  ShowsWanted wanted given kept =
      IfWanted (λ q r. (by : ℕ) × (earlier : List ℕ) × (kept.ended ≡ earlier ++ by ∷ []) × CallsOnce q r by kept.seen) (act_wanted wanted) given

  -- The ask was answered with a note, and finished with the reply to the call that the note wants, if it wants one. The state of the finish
  -- shows that call of the superuser, by a pass that made no other. The pass of the keys made no entry.
  pub record Finished (user : Text) (asked : Ask) (answer : NameReply) (keys : KeyCalls) (names : List (NameEntry D W)) : Type 0 where
    pub note : AskNote
    pub given : Option KmsReply
    pub result : Result (Unit {0}) NameRefusal
    pub asking : NameEntry D W
    pub finish : NameEntry D W
    pub no_keys : keys ≡ []
    pub names_are : names ≡ asking ∷ finish ∷ []
    pub asks : (asking.call ≡ act.Ask user asked) × (asking.reply ≡ acted.Ask (Ok note))
    pub finishes : (finish.call ≡ act.Finish (record { id = note.id; reply = given })) × (finish.reply ≡ acted.Finish result)
    pub answers : AnswersWant note.want given
    pub shows : ShowsWanted note.want given finish.after.keys
    pub answer_is : answer ≡ finish_reply result

  -- These are the calls of the keys and the entries of the namesystem of a transaction of a user, in order.
  abbrev pub TakesCalls : Text → Transaction → KeyCalls → List (NameEntry D W) → Type 0
  TakesCalls user (OfKeys asked answer) keys names = (keys ≡ (key_act.Call user asked, key_acted.Call answer) ∷ []) × (names ≡ [])
  TakesCalls user (OfNames (order.Call asked) answer) keys names = (keys ≡ []) × (calls_of names ≡ (act.Call user asked, acted.Call answer) ∷ [])
  TakesCalls user (OfLook page counts) keys names = (keys ≡ []) × (names ≡ [])
  TakesCalls user (OfNames (order.Ask asked) answer) keys names =
      NotBegun answer keys names ⊎ (NotAsked user asked answer keys names ⊎ Finished user asked answer keys names)
