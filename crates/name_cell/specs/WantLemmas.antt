-- After a legal history, an open ask with the id of a note wants the call that the note names.
use Rattle.std.specs.Prelude.{◌≡◌, ℕ, ◌+◌, ◌<◌, ◌≤◌, Bool, true, false, List, [], ◌∷◌, ◌++◌, Option, Some, None, Result, Ok, Err}
use Rattle.std.proofs.Common.{inl, inr, refl, sym, ap, subst, ◌∙◌, arith}
use Rattle.std.specs.List.{AllByRecursion}
use Rattle.hk_base.specs.Disk.{DiskState}
use Rattle.edit_ops.specs.declared.ops.EditOp.{EditOp}
use Rattle.name_calls.specs.Answers.{answer_of}
use Rattle.name_calls.specs.declared.calls.Ask.{Ask}
use Rattle.name_calls.specs.declared.calls.AskNote.{AskNote}
use Rattle.name_calls.specs.declared.calls.NameRefusal.{NameRefusal}
use Rattle.name_calls.specs.declared.calls.NameRefusal.TheVariants as refusal
use Rattle.name_calls.specs.declared.status.Delivered.{Delivered}
use Rattle.name_calls.specs.declared.calls.Want.{Want}
use Rattle.kms_calls.specs.declared.calls.KmsReply.{KmsReply}
use Rattle.reenc_walk.specs.declared.sent.BatchNote.{BatchNote}
use Rattle.name_core.specs.declared.asks.OpenAsk.{OpenAsk}
use Rattle.name_core.specs.State.{IsNames, NameService, NameState, next_id, service_of, settled}
use Rattle.name_core.specs.Asks.{Asks, ask_causes, ask_opened, asked, note_of, open_ask, unless_not_asked}
use Rattle.name_core.specs.Calls.{NoRoom, Plain, first_cause}
use Rattle.name_core.specs.Laws.{Asked, Called, Delivers, Finished, IsStep, Walks}
use Rattle.name_core.specs.Steps.{Keeps}
use Rattle.name_core.specs.Updates.{deliver_deed, ignore_deed}
use Rattle.name_core.specs.Updating.{NameUpdates, UpdateActs, UpdateServes}
use Rattle.name_core.proofs.AskLemmas.{each-append, each-map, open-holds, open-id}
use Rattle.name_core.proofs.AskSteps.{asks-keep}
use Rattle.name_core.proofs.KeepLemmas.{keeps-of, settled-next}
use Rattle.hist_cell.specs.History.{Legal, LegalAfter, state_after}
use Rattle.kms_cell.specs.Entries.{KmsKnown}
use Rattle.kms_cell.specs.declared.acts.KmsAct.{KmsAct}
use Rattle.name_history.specs.Asked.{AnswersAsk, AnswersWant, HasNote, NameAllows, NameNeeds, ReturnsNote}
use Rattle.name_history.specs.Entries.{NameEntry}
use Rattle.name_history.specs.Fronts.{has_front}
use Rattle.name_history.specs.Served.{Got, GotForAsk, IfWanted, act_wanted}
use Rattle.name_history.specs.Steps.{NameCan, NameDoes, NameSteps, NameSuits, front_deed}
use Rattle.name_history.specs.Views.{NameView}
use Rattle.name_history.specs.declared.acts.NameAct.{NameAct}
use Rattle.name_history.specs.declared.acts.NameAct.TheVariants as act
use Rattle.name_history.specs.declared.acts.NameActed.{NameActed}
use Rattle.name_history.specs.declared.acts.NameActed.TheVariants as acted
use Rattle.name_cell.specs.FaultLemmas.{call_by_any, finish_by_any, update_by_any, walk_by_any}

-- the open ask wants the call that the note names, if it has the id of the note
abbrev HasWant : AskNote → OpenAsk → Type 0
HasWant note q = q.id ≡ note.id → q.want ≡ note.want

-- the id of the note is used, and an open ask with it has the want of the note
pub record FitsNote (note : AskNote) (s : NameService) : Type 0 where
  pub used : note.id + 1 ≤ next_id s.names
  pub asks : AllByRecursion (HasWant note) s.names.asks

-- ---- steps

note-unchanged : (note : AskNote) (s s' : NameService) → next_id s'.names ≡ next_id s.names → s'.names.asks ≡ s.names.asks → FitsNote note s → FitsNote note s'
note-unchanged note s s' next same k = record {
  used = let u = k.used in omega (arith, next, u);
  asks = subst (AllByRecursion (HasWant note)) (sym same) k.asks;
}

note-by-step : (note : AskNote) (s s' : NameService) → IsStep s s' → Keeps s → FitsNote note s → FitsNote note s'
note-by-step note s s' did keeps k =
    let still = asks-keep (HasWant note) (note.id + 1) (λ q later same. absurd (omega (arith, later, same))) s s' did keeps k.used k.asks in
    record { used = still.0; asks = still.1 }

-- a batch is ignored: at most the pending operation is settled
note-by-ignoring : (note : AskNote) (batch : BatchNote) (F : Type 0) (s : NameService) (result : Result Delivered NameRefusal) (logged : List EditOp) (s' : NameService) → UpdateServes s (ignore_deed batch) F result logged s'
    → Keeps s → FitsNote note s → FitsNote note s'
note-by-ignoring note batch F s result logged s' (inl u) keeps k = subst (FitsNote note) (sym u.ends.same) k
note-by-ignoring note batch F s result logged s' (inr (kept, inr u)) keeps k = absurd cc
note-by-ignoring note batch F s result logged s' (inr (kept, inl w)) keeps k =
    let same : w.changed ≡ settled kept s = left w.updates in
    note-unchanged note s s' (ap (λ (x : NameService). next_id x.names) w.left ∙ (ap next_id same ∙ settled-next kept s keeps))
    (ap (λ (x : NameService). x.names.asks) w.left ∙ ap (λ (x : NameState). x.asks) same) k
  where
    left : NameUpdates (settled kept s) (ignore_deed batch) result w.changed → w.changed ≡ settled kept s
    left (NoRoom, may, is) = ap (λ o. o.state) is
    left (Plain, may, is) = ap (λ o. o.state) is

-- ---- the ask that returned the note

accepted : (s : NameState) (user : List ℕ) (k : Ask) (note : AskNote) (s' : NameState) → Asks s user k (Ok note) s' → (note ≡ note_of (ask_opened s k)) × (s' ≡ asked s k)
accepted s user k note s' (NoRoom, may, is) = let f : Ok note ≡ Err refusal.NoMemory = ap (λ o. o.reply) is in absurd cc
accepted s user k note s' (Plain, may, is) = go (first_cause (ask_causes s user k)) is
  where
    go : (o : Option NameRefusal) → (record { reply = Ok note; state = s' }) ≡ unless_not_asked o s k → (note ≡ note_of (ask_opened s k)) × (s' ≡ asked s k)
    go (Some why) is = let f : Ok note ≡ Err why = ap (λ o. o.reply) is in absurd cc
    go None is = let f : Ok note ≡ Ok (note_of (ask_opened s k)) = ap (λ o. o.reply) is in (cc, ap (λ o. o.state) is)

-- its id is new, and no other open ask has it
note-of-new : (s : NameService) (k : Ask) → IsNames s → FitsNote (note_of (ask_opened s.names k)) (record { names = asked s.names k; pending = s.pending })
note-of-new s k names = record {
  used = omega arith;
  asks = each-append (HasWant its) s.names.asks (ask_opened s.names k)
      (each-map (λ (q : OpenAsk). q.id < next_id s.names) (HasWant its) (λ q low same. absurd (omega (arith, low, same))) s.names.asks names.ids.of_asks)
      (λ same. refl);
}
  where
    its : AskNote
    its = note_of (ask_opened s.names k)

note-by-ask : (note : AskNote) (s s' : NameService) (user : List ℕ) (k : Ask) → IsNames s → s'.pending ≡ s.pending → Asks s.names user k (Ok note) s'.names → FitsNote note s'
note-by-ask note s s' user k names same asks =
    let did = accepted s.names user k note s'.names asks in
    subst (λ (x : AskNote). FitsNote x s') (sym did.0)
    (subst (λ (x : NameService). FitsNote (note_of (ask_opened s.names k)) x) (λ i. record { names = sym did.1 i; pending = sym same i }) (note-of-new s k names))

-- ---- histories

module _ {D W : Type 0} (state : D → DiskState) (to_come : W → ℕ → ℕ) where
  abbrev at : NameView D W → NameService
  at v = service_of v.names

  note-by-does : (note : AskNote) (v v' : NameView D W) (q : NameAct) (r : NameActed) → Keeps (at v) → NameDoes state v q r v' → FitsNote note (at v) → FitsNote note (at v')
  note-by-does note v v' (act.Call user c) (acted.Call reply) keeps d k =
      note-by-step note (at v) (at v') (Called user c reply d.acts.logged (call_by_any _ (at v) user c reply d.acts.logged (at v') d.acts.serves)) keeps k
  note-by-does note v v' (act.Ask user a) (acted.Ask answer) keeps d k =
      note-by-step note (at v) (at v') (Asked user a answer d.asks (ap (λ s. s.log.pending) d.store)) keeps k
  note-by-does note v v' (act.Finish answered) (acted.Finish answer) keeps d k =
      note-by-step note (at v) (at v') (Finished answered.id (answer_of answered.reply) answer d.acts.logged (finish_by_any _ (at v) answered.id (answer_of answered.reply) answer d.acts.logged (at v') d.acts.serves)) keeps k
  note-by-does note v v' (act.Walk zone) (acted.Walk answer) keeps (inl d) k =
      note-by-step note (at v) (at v') (Walks zone answer d.acts.logged (walk_by_any _ (at v) zone answer d.acts.logged (at v') d.acts.serves)) keeps k
  note-by-does note v v' (act.Walk zone) (acted.Walk answer) keeps (inr d) k = subst (λ (x : NameView D W). FitsNote note (at x)) (sym d.same) k
  note-by-does note v v' (act.Deliver front reply) (acted.Deliver answer) keeps d k = go (has_front v.fronts reply.note front) d.acts
    where
      go : (found : Bool) → UpdateActs (state v.disk) (state v'.disk) v.names (front_deed found reply) answer v'.names → FitsNote note (at v')
      go true u = note-by-step note (at v) (at v') (Delivers reply answer u.logged (update_by_any _ (at v) (deliver_deed reply) answer u.logged (at v') u.serves)) keeps k
      go false u = note-by-ignoring note reply.note _ (at v) answer u.logged (at v') u.serves keeps k
  note-by-does note v v' _ _ keeps d k = absurd d

  note-after : (note : AskNote) (before : List (NameEntry D W)) (v : NameView D W) (es : List (NameEntry D W)) → LegalAfter (NameSteps state to_come) NameAllows before v es → FitsNote note (at v) → FitsNote note (at (state_after v es))
  note-after note before v [] legal k = k
  note-after note before v (e ∷ es) legal k =
      note-after note (before ++ e ∷ []) e.after es legal.2 (note-by-does note v e.after e.call e.reply (keeps-of (at v) legal.1.before) legal.1.does k)

  note-returned : (note : AskNote) (v : NameView D W) (e : NameEntry D W) → NameSteps state to_come v e.call e.reply e.after → ReturnsNote note e → FitsNote note (at e.after)
  note-returned note v e did returns =
      let asks : NameDoes state v (act.Ask returns.user returns.ask) (acted.Ask (Ok note)) e.after =
      subst (λ (q : NameAct). NameDoes state v q (acted.Ask (Ok note)) e.after) returns.call_is (subst (λ (r : NameActed). NameDoes state v e.call r e.after) returns.reply_is did.does) in
      note-by-ask note (at v) (at e.after) returns.user returns.ask did.before (ap (λ s. s.log.pending) asks.store) asks.asks

  note-in : (note : AskNote) (before : List (NameEntry D W)) (v : NameView D W) (es : List (NameEntry D W)) → LegalAfter (NameSteps state to_come) NameAllows before v es → HasNote note es → FitsNote note (at (state_after v es))
  note-in note before v [] legal h = absurd h
  note-in note before v (e ∷ es) legal h = elim h [
    | inl here ↦ note-after note (before ++ e ∷ []) e.after es legal.2 (note-returned note v e legal.1 here)
    | inr later ↦ note-in note (before ++ e ∷ []) e.after es legal.2 later
  ]

  -- after a legal history with the note, an open ask with its id has its want
  pub want_of_note : (note : AskNote) (v : NameView D W) (es : List (NameEntry D W)) (a : OpenAsk) → Legal (NameSteps state to_come) NameAllows v es → HasNote note es → open_ask (state_after v es).names.asks note.id ≡ Some a → a.want ≡ note.want
  want_of_note note v es a legal h is =
      open-holds (HasWant note) (state_after v es).names.asks note.id a (note-in note [] v es legal h).asks is (open-id (state_after v es).names.asks note.id a is)

  -- so a finish that the history allows can be answered
  pub allowed_can : (v : NameView D W) (es : List (NameEntry D W)) (q : NameAct) → Legal (NameSteps state to_come) NameAllows v es → NameAllows es q → NameCan (state_after v es) q
  allowed_can v es (act.Call user c) legal a = tt
  allowed_can v es (act.Ask user k) legal a = tt
  allowed_can v es (act.Finish answered) legal a = go (open_ask (state_after v es).names.asks answered.id) refl
    where
      go : (o : Option OpenAsk) → open_ask (state_after v es).names.asks answered.id ≡ o → AnswersAsk o answered.reply
      go None is = tt
      go (Some q) is =
          let same : q.want ≡ a.0.want = want_of_note a.0 v es q legal a.1 (subst (λ (id : ℕ). open_ask (state_after v es).names.asks id ≡ Some q) a.2.id is) in
          subst (λ (w : Want). AnswersWant w answered.reply) (sym same) a.2.answers
  allowed_can v es (act.Walk zone) legal a = tt
  allowed_can v es (act.Deliver front reply) legal a = tt

  -- and a pass that a call needs after the history suits it
  pub needed_suits : (v : NameView D W) (es : List (NameEntry D W)) (q : NameAct) (w : KmsKnown D W) → Legal (NameSteps state to_come) NameAllows v es → NameNeeds es q w → NameSuits (state_after v es) q w
  needed_suits v es (act.Call user c) w legal n = n
  needed_suits v es (act.Ask user k) w legal n = n
  needed_suits v es (act.Finish answered) w legal n = go (open_ask (state_after v es).names.asks answered.id) refl
    where
      go : (o : Option OpenAsk) → open_ask (state_after v es).names.asks answered.id ≡ o → GotForAsk o answered.reply w
      go None is = tt
      go (Some q) is =
          let same : q.want ≡ n.0.want = want_of_note n.0 v es q legal n.1 (subst (λ (id : ℕ). open_ask (state_after v es).names.asks id ≡ Some q) n.2.id is) in
          subst (λ (x : Want). IfWanted (λ (c : KmsAct) (r : KmsReply). Got 0 c r w.number w.seen) (act_wanted x) answered.reply) (sym same) n.2.got
  needed_suits v es (act.Walk zone) w legal n = n
  needed_suits v es (act.Deliver front reply) w legal n = n
