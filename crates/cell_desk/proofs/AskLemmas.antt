-- What the calls of a transaction come to.
use Rattle.std.proofs.Common.{◌≡◌, ℕ, List, [], ◌∷◌, ◌++◌, Ok, Err, inl, inr, refl, ap, sym, subst, ◌∙◌}
use Rattle.std.specs.declared.result.Result.{Result}
use Rattle.hk_base.specs.Disk.{DiskState}
use Rattle.hk_base.specs.declared.texts.Text.{Text}
use Rattle.kms_calls.specs.declared.calls.KmsCall.{KmsCall}
use Rattle.kms_calls.specs.declared.calls.KmsReply.{KmsReply}
use Rattle.name_calls.specs.declared.calls.Ask.{Ask}
use Rattle.name_calls.specs.declared.calls.AskNote.{AskNote}
use Rattle.name_calls.specs.declared.calls.NameCall.{NameCall}
use Rattle.name_calls.specs.declared.calls.NameRefusal.{NameRefusal}
use Rattle.name_calls.specs.declared.calls.NameRefusal.TheVariants as refusal
use Rattle.name_calls.specs.declared.calls.NameReply.{NameReply}
use Rattle.name_calls.specs.declared.calls.NameReply.TheVariants as reply
use Rattle.name_rest.specs.declared.order.NameOrder.TheVariants as order
use Rattle.hist_cell.specs.declared.views.Entry.{Entry}
use Rattle.hist_cell.specs.History.{LegalOf}
use Rattle.kms_cell.specs.Entries as keys
use Rattle.kms_cell.specs.Steps.{KmsSteps}
use Rattle.kms_cell.specs.Tickets.{KmsAllows}
use Rattle.kms_cell.specs.Views.{KmsView}
use Rattle.kms_cell.specs.declared.acts.KmsAct.TheVariants as key_act
use Rattle.kms_cell.specs.declared.acts.KmsActed.TheVariants as key_acted
use Rattle.name_history.specs.Asked.{HasNote, NameAllows, ReturnsNote}
use Rattle.name_history.specs.Entries as names
use Rattle.name_history.specs.Steps.{NameSteps}
use Rattle.name_history.specs.Views.{NameView}
use Rattle.name_history.specs.declared.acts.NameAct.{NameAct}
use Rattle.name_history.specs.declared.acts.NameAct.TheVariants as act
use Rattle.name_history.specs.declared.acts.NameActed.{NameActed}
use Rattle.name_history.specs.declared.acts.NameActed.TheVariants as acted
use Rattle.service_health.specs.declared.counts.CallCounts.{CallCounts}
use Rattle.service_health.specs.declared.pages.Page.{Page}
use Rattle.hk_serve.specs.Transactions.{OfKeys, OfLook, OfNames}
use Rattle.cell_desk.specs.Connections.{BothKnown, MakesOrder}
use Rattle.cell_desk.specs.Finishes.{FinishesAsk}
use Rattle.cell_desk.specs.Orders.{finish_reply}
use Rattle.turns.specs.Entries.{KeysMake, NamesMake}
use Rattle.turns.proofs.EntryLemmas.{made_first, made_none, made_one}

note_end : {S : Type 0} (note : AskNote) (es : List (Entry NameAct NameActed S)) (e : Entry NameAct NameActed S) → ReturnsNote note e → HasNote note (es ++ e ∷ [])
note_end note [] e returns = inl returns
note_end note (x ∷ es) e returns = inr (note_end note es e returns)

module _ {D W : Type 0} (state : D → DiskState) (to_come : W → ℕ → ℕ) where
  abbrev LegalKeys : keys.KmsKnown D W → Type 0
  LegalKeys v = LegalOf (KmsSteps {D = D} {W = W} state to_come) (KmsAllows {S = KmsView D W}) v.start v.seen

  abbrev LegalNames : names.NameKnown D W → Type 0
  LegalNames v = LegalOf (NameSteps {D = D} {W = W} state to_come) (NameAllows {S = NameView D W}) v.start v.seen

  no_keys : (v : keys.KmsKnown D W) → LegalKeys v → KeysMake state to_come v [] v
  no_keys v legal = made_none (KmsSteps {D = D} {W = W} state to_come) (KmsAllows {S = KmsView D W}) v legal

  -- a pass that made no call
  none_made : (v w : keys.KmsKnown D W) → LegalKeys v → w ≡ v → KeysMake state to_come v [] w
  none_made v w legal same = subst (λ (x : keys.KmsKnown D W). KeysMake state to_come v [] x) (sym same) (no_keys v legal)

  -- a pass that made an ask has seen its note
  pub has_noted : (v w : names.NameKnown D W) (user : Text) (asked : Ask) (answer : Result AskNote NameRefusal) (note : AskNote) → names.Makes state to_come v (act.Ask user asked) (acted.Ask answer) w → answer ≡ Ok note
      → HasNote note w.seen
  has_noted v w user asked answer note a is =
      subst (HasNote note) (sym a.seen)
      (note_end note (v.seen ++ a.between) a.entry (record { user = user; ask = asked; call_is = a.call_is; reply_is = a.reply_is ∙ ap acted.Ask is }))

  -- a call of the key management service
  pub keys_called : (v w : BothKnown D W) (user : Text) (c : KmsCall) (answer : KmsReply) → LegalNames v.names → w.names ≡ v.names
      → keys.Makes state to_come v.keys (key_act.Call user c) (key_acted.Call answer) w.keys → MakesOrder state to_come v user (OfKeys c answer) w
  keys_called v w user c answer legal same a = record {
    keys = a.entry ∷ [];
    names = [];
    makes_keys = made_one (KmsSteps {D = D} {W = W} state to_come) (KmsAllows {S = KmsView D W}) v.keys w.keys (key_act.Call user c) (key_acted.Call answer) a;
    makes_names = subst (λ (x : names.NameKnown D W). NamesMake state to_come v.names [] x) (sym same) (made_none (NameSteps {D = D} {W = W} state to_come) (NameAllows {S = NameView D W}) v.names legal);
    takes = (λ i. (a.call_is i, a.reply_is i) ∷ [], refl);
  }

  -- a call of the namesystem
  pub names_called : (v w : BothKnown D W) (user : Text) (c : NameCall) (answer : NameReply) → LegalKeys v.keys → w.keys ≡ v.keys
      → names.Makes state to_come v.names (act.Call user c) (acted.Call answer) w.names → MakesOrder state to_come v user (OfNames (order.Call c) answer) w
  names_called v w user c answer legal same a = record {
    keys = [];
    names = a.entry ∷ [];
    makes_keys = none_made v.keys w.keys legal same;
    makes_names = made_one (NameSteps {D = D} {W = W} state to_come) (NameAllows {S = NameView D W}) v.names w.names (act.Call user c) (acted.Call answer) a;
    takes = (refl, λ i. (a.call_is i, a.reply_is i) ∷ []);
  }

  -- a look, which calls neither service
  pub looked : (v : BothKnown D W) (user : Text) (page : Page) (counts : CallCounts) → LegalKeys v.keys → LegalNames v.names → MakesOrder state to_come v user (OfLook page counts) v
  looked v user page counts legal_keys legal_names = record {
    keys = [];
    names = [];
    makes_keys = no_keys v.keys legal_keys;
    makes_names = made_none (NameSteps {D = D} {W = W} state to_come) (NameAllows {S = NameView D W}) v.names legal_names;
    takes = (refl, refl);
  }

  -- an ask for which there was no memory
  pub not_begun : (v : BothKnown D W) (user : Text) (asked : Ask) → LegalKeys v.keys → LegalNames v.names → MakesOrder state to_come v user (OfNames (order.Ask asked) (reply.Refused refusal.NoMemory)) v
  not_begun v user asked legal_keys legal_names = record {
    keys = [];
    names = [];
    makes_keys = no_keys v.keys legal_keys;
    makes_names = made_none (NameSteps {D = D} {W = W} state to_come) (NameAllows {S = NameView D W}) v.names legal_names;
    takes = inl (record { no_keys = refl; no_names = refl; answer_is = refl });
  }

  -- an ask that was refused
  pub not_asked : (k l : keys.KmsKnown D W) (v w : names.NameKnown D W) (user : Text) (asked : Ask) (answer : Result AskNote NameRefusal) (why : NameRefusal) → LegalKeys k → l ≡ k
      → names.Makes state to_come v (act.Ask user asked) (acted.Ask answer) w → answer ≡ Err why
      → MakesOrder state to_come (record { keys = k; names = v }) user (OfNames (order.Ask asked) (reply.Refused why)) (record { keys = l; names = w })
  not_asked k l v w user asked answer why legal same a is = record {
    keys = [];
    names = a.entry ∷ [];
    makes_keys = none_made k l legal same;
    makes_names = made_one (NameSteps {D = D} {W = W} state to_come) (NameAllows {S = NameView D W}) v w (act.Ask user asked) (acted.Ask answer) a;
    takes = inr (inl (record { why = why; no_keys = refl; refuses = λ i. (a.call_is i, (a.reply_is ∙ ap acted.Ask is) i) ∷ []; answer_is = refl }));
  }

  -- an ask that was finished
  pub ask_finished : (k l : keys.KmsKnown D W) (v w x : names.NameKnown D W) (user : Text) (asked : Ask) (answer : Result AskNote NameRefusal) (note : AskNote) (result : Result (Unit {0}) NameRefusal) (said : NameReply)
      → LegalKeys k → l ≡ k → names.Makes state to_come v (act.Ask user asked) (acted.Ask answer) w → answer ≡ Ok note → FinishesAsk state to_come w note result x → said ≡ finish_reply result
      → MakesOrder state to_come (record { keys = k; names = v }) user (OfNames (order.Ask asked) said) (record { keys = l; names = x })
  ask_finished k l v w x user asked answer note result said legal same a is f said_is = record {
    keys = [];
    names = a.entry ∷ f.makes.entry ∷ [];
    makes_keys = none_made k l legal same;
    makes_names = made_first (NameSteps {D = D} {W = W} state to_come) (NameAllows {S = NameView D W}) v w x (f.makes.entry ∷ []) (act.Ask user asked) (acted.Ask answer) a
        (made_one (NameSteps {D = D} {W = W} state to_come) (NameAllows {S = NameView D W}) w x (act.Finish (record { id = note.id; reply = f.given })) (acted.Finish result) f.makes);
    takes = inr (inr (record {
      note = note;
      given = f.given;
      result = result;
      asking = a.entry;
      finish = f.makes.entry;
      no_keys = refl;
      names_are = refl;
      asks = (a.call_is, a.reply_is ∙ ap acted.Ask is);
      finishes = (f.makes.call_is, f.makes.reply_is);
      answers = f.answers;
      shows = f.shows;
      answer_is = said_is;
    }));
  }
