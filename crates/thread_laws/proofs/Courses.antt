-- Both histories as one course of linked worlds: before each entry of the namesystem come the entries of the keys that its kept pass
-- has seen since.
use Rattle.std.proofs.Common.{◌≡◌, ◌⊎◌, inl, inr, ℕ, zero, suc, ◌≤◌, Bool, true, false, List, [], ◌∷◌, ◌++◌, drop, length, Option, Some, None, Ok, refl, sym, ap, subst, ◌∙◌, arith}
use Rattle.std.specs.declared.result.Result.{Result}
use mathlib.Core.List.{IsPrefix}
use Rattle.hk_base.specs.Disk.{DiskState, Tells}
use Rattle.hk_base.specs.Faults.{Rose}
use Rattle.hk_base.specs.declared.names.Edek.{Edek}
use Rattle.hk_base.specs.declared.names.KeyName.{KeyName}
use Rattle.hk_base.specs.declared.texts.Text.{Text}
use Rattle.eek_seal.specs.declared.tickets.Ticket.{Ticket}
use Rattle.kms_calls.specs.declared.calls.KmsCall.TheVariants as key_call
use Rattle.kms_calls.specs.declared.calls.KmsReply.{KmsReply}
use Rattle.kms_calls.specs.declared.calls.KmsReply.TheVariants as key_reply
use Rattle.name_calls.specs.Answers.{answer_of}
use Rattle.name_calls.specs.declared.calls.Answered.{Answered}
use Rattle.name_calls.specs.declared.calls.Ask.{Ask}
use Rattle.name_calls.specs.declared.calls.AskNote.{AskNote}
use Rattle.name_calls.specs.declared.calls.KeyAnswer.{KeyAnswer}
use Rattle.name_calls.specs.declared.calls.KeyAnswer.TheVariants.{Given}
use Rattle.name_calls.specs.declared.calls.NameCall.{NameCall}
use Rattle.name_calls.specs.declared.calls.NameRefusal.{NameRefusal}
use Rattle.name_calls.specs.declared.calls.NameReply.{NameReply}
use Rattle.name_calls.specs.declared.calls.Want.{Want}
use Rattle.name_calls.specs.declared.calls.Want.TheVariants as want
use Rattle.name_calls.specs.declared.paths.NPath.{NPath}
use Rattle.name_calls.specs.declared.status.Delivered.{Delivered}
use Rattle.edit_ops.specs.declared.ops.EditOp.{EditOp}
use Rattle.reenc_walk.specs.declared.sent.BatchNote.{BatchNote}
use Rattle.reenc_update.specs.Replies.{ReplyState}
use Rattle.batch_calls.specs.Batches.{reply_for}
use Rattle.name_core.specs.Asks.{open_ask}
use Rattle.name_core.specs.Calls.{superuser}
use Rattle.name_core.specs.Service.{FinishServes, FinishServesAt}
use Rattle.name_core.specs.State.{IsNames, NameService, names_of, service_of, settled}
use Rattle.name_core.specs.Updates.{is_outstanding}
use Rattle.name_core.specs.Updating.{UpdateServes}
use Rattle.name_core.specs.declared.asks.OpenAsk.{OpenAsk}
use Rattle.name_core.specs.declared.walks.Walked.{Walked}
use Rattle.name_core.specs.declared.walks.Walked.TheVariants as walk
use Rattle.name_store.specs.Store.{StoreState}
use Rattle.hist_cell.specs.History.{IsIn, LegalAfter, LegalOf, state_after}
use Rattle.kms_cell.specs.Entries.{KmsEntry, KmsKnown}
use Rattle.kms_cell.specs.Steps.{CallSteps, KmsDoes, KmsSteps}
use Rattle.kms_cell.specs.Tickets.{KmsAllows}
use Rattle.kms_cell.specs.Views.{KmsView}
use Rattle.kms_cell.specs.declared.acts.KmsAct.{KmsAct}
use Rattle.kms_cell.specs.declared.acts.KmsAct.TheVariants as key_act
use Rattle.kms_cell.specs.declared.acts.KmsActed.{KmsActed}
use Rattle.kms_cell.specs.declared.acts.KmsActed.TheVariants as key_acted
use Rattle.name_history.specs.declared.fronts.Front.{Front}
use Rattle.name_history.specs.Asked.{NameAllows}
use Rattle.name_history.specs.Entries.{NameEntry}
use Rattle.name_history.specs.Fronts.{has_front, outstanding_fronts}
use Rattle.name_history.specs.Served.{IfWanted, Serves, ServesAsk, ServesBatch, act_wanted, batch_act}
use Rattle.name_history.specs.Steps.{AskSteps, CallSteps as NameCallSteps, FinishSteps, NameDoes, NameKeeps, NameSteps, WalkSteps, front_deed}
use Rattle.name_history.specs.Views.{NameView}
use Rattle.name_history.specs.declared.acts.NameAct.{NameAct}
use Rattle.name_history.specs.declared.acts.NameAct.TheVariants as act
use Rattle.name_history.specs.declared.acts.NameActed.{NameActed}
use Rattle.name_history.specs.declared.acts.NameActed.TheVariants as acted
use Rattle.world_run.specs.declared.kept.KeptReply.TheVariants.{ToBatch}
use Rattle.world_run.specs.Ledger.{Draw, FilesAtSubmission, Hidden, Ledger, Past, entered as entered_if, enters, entry_under, past_of, starts_of}
use Rattle.world_run.specs.Linked.{LinkedWorld, ReplyCameBack, ServicesFit, given}
use Rattle.world_run.specs.Promise.{In}
use Rattle.world_run.specs.Step.{finish_line}
use Rattle.world_run.specs.World.{Kept, WorldState}
use Rattle.world_run.proofs.Members.{in-filter, in-right}
use Rattle.thread_laws.specs.Promise.{CallEnters, FinishEnters, Generates, KnownAfter, KnownNext}
use Rattle.thread_laws.specs.Serving.{Uses}
use Rattle.thread_laws.specs.Worlds.{keys_of_view, world_with}
use Rattle.thread_laws.proofs.EntryTies.{history-tells, keys-tied}
use Rattle.thread_laws.proofs.Finishes.{finish-key-next}
use Rattle.thread_laws.proofs.FrontLemmas.{HasFront, front-of, gave-front}
use Rattle.thread_laws.proofs.HistoryLemmas.{legal-second, state_after-both}
use Rattle.thread_laws.proofs.KeyReplies.{NoKey, generate-gives, metadata-gives}
use Rattle.thread_laws.proofs.NamesNext.{AllFree, Next, NextWalk, ask-next, call-next, deliver-kept-next, deliver-refused-next, finish-none-next, ignored-next, same-next, walk-next}
use Rattle.thread_laws.proofs.ServedLemmas.{uses-served}
use Rattle.thread_laws.proofs.Ties.{Gave, HasReply, Ties}

-- members of the end of a list

in-drop-late : {X : Type 0} (n : ℕ) (before after : List X) (x : X) → n ≤ length before → In x (drop n (before ++ x ∷ after))
in-drop-late zero before after x few = in-right x before (x ∷ after) (inl refl)
in-drop-late (suc n) [] after x few = absurd (omega (arith, few))
in-drop-late (suc n) (y ∷ before) after x few = in-drop-late n before after x (omega (arith, few))

drop-all : {X : Type 0} (xs : List X) (x : X) → In x (drop (length xs) xs) → ⊥
drop-all [] x i = i
drop-all (y ∷ xs) x i = drop-all xs x i

-- a weaker promise on draws that wait
abbrev next-free : (w : WorldState) (h : Hidden) (names : NameService) (entries : Ledger) (Free Less : ℕ → Type 0) → ((k : ℕ) → Less k → Free k) → Next w h names entries Free → Next w h names entries Less
next-free w h names entries Free Less fewer n = record {
  kept = n.kept;
  hidden = n.hidden;
  linked = n.linked;
  ledger = n.ledger;
  starts = n.starts;
  tickets = n.tickets;
  batches = n.batches;
  waits = λ k e d free was. n.waits k e d (fewer k free) was;
  answers = n.answers;
}

-- Both histories tied together: the world of the keys after what the kept pass has seen, and of the namesystem now, is linked, with kept
-- values to which what was seen is tied.
pub record Tied {D W : Type 0} (first : KmsView D W) (v : NameView D W) : Type 0 where
  pub kept : Kept
  pub hidden : Hidden
  pub fit : ServicesFit (world_with (keys_of_view (state_after first v.keys.seen)) (service_of v.names) kept)
  pub linked : LinkedWorld (world_with (keys_of_view (state_after first v.keys.seen)) (service_of v.names) kept) hidden
  pub ties : Ties kept hidden v.keys.seen v.keys.ended v.fronts

-- the same with the keys after later entries, before the call of the namesystem
record Grown {D W : Type 0} (first : KmsView D W) (v : NameView D W) (h : Hidden) (seen : List (KmsEntry D W)) : Type 0 where
  kept : Kept
  hidden : Hidden
  fit : ServicesFit (world_with (keys_of_view (state_after first seen)) (service_of v.names) kept)
  linked : LinkedWorld (world_with (keys_of_view (state_after first seen)) (service_of v.names) kept) hidden
  ties : Ties kept hidden seen v.keys.ended v.fronts
  ledger : hidden.ledger ≡ h.ledger
  starts : hidden.starts ≡ h.starts

module _ {D W : Type 0} (state : D → DiskState) (to_come : W → ℕ → ℕ) (first : KmsView D W) (telling : Tells (state first.disk)) where
  abbrev KeysLegalAfter : List (KmsEntry D W) → KmsView D W → List (KmsEntry D W) → Type 0
  KeysLegalAfter before s es = LegalAfter (KmsSteps {D = D} {W = W} state to_come) (KmsAllows {S = KmsView D W}) before s es

  -- the entries of the keys that were seen since
  grown-by : (v : NameView D W) (t : Tied first v) (more : List (KmsEntry D W)) → KeysLegalAfter [] first (v.keys.seen ++ more) → Grown first v t.hidden (v.keys.seen ++ more)
  grown-by v t more legal =
      let k = keys-tied state to_come (service_of v.names) v.keys.ended v.fronts v.keys.seen more (state_after first v.keys.seen) t.kept t.hidden t.fit t.linked t.ties
      (history-tells state to_come [] v.keys.seen more first legal ∙ telling)
      (legal-second (KmsSteps {D = D} {W = W} state to_come) (KmsAllows {S = KmsView D W}) [] v.keys.seen more first legal) in
      let same = sym (state_after-both first v.keys.seen more) in
      record {
        kept = k.later.kept;
        hidden = k.later.hidden;
        fit = subst (λ (s : KmsView D W). ServicesFit (world_with (keys_of_view s) (service_of v.names) k.later.kept)) same (record { keys = k.fit; names = t.fit.names });
        linked = subst (λ (s : KmsView D W). LinkedWorld (world_with (keys_of_view s) (service_of v.names) k.later.kept) k.later.hidden) same k.later.linked;
        ties = k.ties;
        ledger = k.later.ledger;
        starts = k.later.starts;
      }

  grown : (v : NameView D W) (t : Tied first v) (seen : List (KmsEntry D W)) → IsPrefix v.keys.seen seen → KeysLegalAfter [] first seen → Grown first v t.hidden seen
  grown v t seen begins legal = subst (Grown first v t.hidden) begins.1 (grown-by v t begins.0 (subst (KeysLegalAfter [] first) (sym begins.1) legal))

  -- the reply to the call that an ask wants

  pub record AskedKey (x : KmsEntry D W) (r : KmsReply) : Type 0 where
    pub edek : Edek
    pub is : r ≡ key_reply.Ready (edek ∷ [])
    pub gave : Gave x edek

  generate-asked : (s : KmsView D W) (x : KmsEntry D W) (name : KeyName) (r : KmsReply) → x.call ≡ key_act.Call superuser (key_call.Generate name 1) → x.reply ≡ key_acted.Call r
      → CallSteps state to_come s superuser (key_call.Generate name 1) r x.after → NoKey r ⊎ AskedKey x r
  generate-asked s x name r call answered step =
      let lines = step.has_lines.0 in
      let acts = step.acts lines step.has_lines.1 in
      elim (generate-gives lines superuser (keys_of_view s) (to_come s.words) step.now (Rose (state s.disk).faults (state x.after.disk).faults) (Tells (state s.disk)) acts.drawn acts.logged (keys_of_view x.after) name r acts.serves) [
        | inl none ↦ inl none
        | inr one ↦ inr (record { edek = one.edek; is = one.reply_is; gave = record { name = name; call_is = call; reply_is = answered ∙ ap key_acted.Call one.reply_is } })
      ]

  metadata-asked : (s : KmsView D W) (x : KmsEntry D W) (name : KeyName) (r : KmsReply) → CallSteps state to_come s superuser (key_call.Metadata name) r x.after → NoKey r
  metadata-asked s x name r step =
      let lines = step.has_lines.0 in
      let acts = step.acts lines step.has_lines.1 in
      metadata-gives lines superuser (keys_of_view s) (to_come s.words) step.now (Rose (state s.disk).faults (state x.after.disk).faults) (Tells (state s.disk)) acts.drawn acts.logged (keys_of_view x.after) name r acts.serves

  same-act : (q p : KmsAct) → Some q ≡ Some p → p ≡ q
  same-act q p is = cc is

  asked-key : (s : KmsView D W) (x : KmsEntry D W) (wants : Want) (q : KmsAct) (r : KmsReply) → act_wanted wants ≡ Some q → x.call ≡ q → x.reply ≡ key_acted.Call r → KmsDoes state to_come s x.call x.reply x.after → NoKey r ⊎ AskedKey x r
  asked-key s x want.Nothing q r is call answered step = absurd (cc is)
  asked-key s x (want.Generate name) q r is call answered step =
      let now = call ∙ same-act (key_act.Call superuser (key_call.Generate name 1)) q is in
      generate-asked s x name r now answered
      (subst (λ (a : KmsActed). KmsDoes state to_come s (key_act.Call superuser (key_call.Generate name 1)) a x.after) answered (subst (λ (p : KmsAct). KmsDoes state to_come s p x.reply x.after) now step))
  asked-key s x (want.Metadata name) q r is call answered step =
      let now = call ∙ same-act (key_act.Call superuser (key_call.Metadata name)) q is in
      inl (metadata-asked s x name r
      (subst (λ (a : KmsActed). KmsDoes state to_come s (key_act.Call superuser (key_call.Metadata name)) a x.after) answered (subst (λ (p : KmsAct). KmsDoes state to_come s p x.reply x.after) now step)))

  -- an entry of the namesystem, once its kept pass has seen what it sees

  module _ (v : NameView D W) (e : NameEntry D W) (h : Hidden) (g : Grown first v h e.after.keys.seen) (then : IsNames (service_of e.after.names)) (legal : KeysLegalAfter [] first e.after.keys.seen) where
    abbrev w : WorldState
    w = world_with (keys_of_view (state_after first e.after.keys.seen)) (service_of v.names) g.kept

    abbrev names : NameService
    names = service_of e.after.names

    abbrev Unended : ℕ → Type 0
    Unended k = ¬ IsIn k e.after.keys.ended

    record Stepped (q : NameAct) (r : NameActed) : Type 0 where
      entered : Ledger
      enters : CallEnters v e q r entered
      next : Next w g.hidden names entered Unended
      fronts : (f : Front) → In f e.after.fronts → In f.note next.kept.batches
      answers :
          (f : Front) (x : KmsEntry D W) (came : KmsReply) → In f e.after.fronts → In x (drop f.count e.after.keys.seen) → x.call ≡ batch_act f.note → x.reply ≡ key_acted.Call came
          → In (ToBatch (reply_for f.note came)) next.kept.replies

    -- every front was there before
    stepped : (q : NameAct) (r : NameActed) (added : Ledger) → CallEnters v e q r added → e.after.fronts ≡ v.fronts → Next w g.hidden names added Unended → Stepped q r
    stepped q r added enters same n = record {
      entered = added;
      enters = enters;
      next = n;
      fronts = λ f i. n.batches f.note (g.ties.fronts f (subst (λ (fs : List Front). In f fs) same i));
      answers = λ f x came i j call reply. n.answers (reply_for f.note came) (g.ties.answers f x came (subst (λ (fs : List Front). In f fs) same i) j call reply);
    }

    abbrev quiet : Next w g.hidden names [] AllFree → Next w g.hidden names [] Unended
    quiet n = next-free w g.hidden names [] AllFree Unended (λ k free. tt) n

    call-step : (user : Text) (c : NameCall) (reply : NameReply) → NameCallSteps state v user c reply e.after → Stepped (act.Call user c) (acted.Call reply)
    call-step user c reply d =
        stepped (act.Call user c) (acted.Call reply) [] refl d.fronts
        (quiet (call-next w g.hidden user c (Rose (state v.disk).faults (state e.after.disk).faults) reply d.acts.logged names g.fit.names g.linked d.acts.serves))

    ask-step : (user : Text) (a : Ask) (answer : Result AskNote NameRefusal) → AskSteps v user a answer e.after → Stepped (act.Ask user a) (acted.Ask answer)
    ask-step user a answer d =
        stepped (act.Ask user a) (acted.Ask answer) [] refl d.fronts
        (quiet (subst (λ (s : StoreState). Next w g.hidden (record { names = names_of e.after.names; pending = s.log.pending }) [] AllFree) (sym d.store) (ask-next w g.hidden user a answer (names_of e.after.names) g.linked d.asks)))

    -- a walk

    walked : (zone : NPath) (answer : Result Walked NameRefusal) → e.after.keys ≡ v.keys → NextWalk w g.hidden names answer
        → ((f : Front) → In f e.after.fronts → In f v.fronts ⊎ ((answer ≡ Ok (walk.Batch f.note)) × (f.count ≡ length v.keys.seen))) → Stepped (act.Walk zone) (acted.Walk answer)
    walked zone answer keys m was = record {
      entered = [];
      enters = refl;
      next = quiet m.next;
      fronts = λ f i. elim (was f i) [
        | inl old ↦ m.next.batches f.note (g.ties.fronts f old)
        | inr new ↦ m.gave f.note new.0
      ];
      answers = λ f x came i j call reply. elim (was f i) [
        | inl old ↦ m.next.answers (reply_for f.note came) (g.ties.answers f x came old j call reply)
        | inr new ↦ absurd (drop-all e.after.keys.seen x (subst (λ (k : ℕ). In x (drop k e.after.keys.seen)) (new.1 ∙ ap (λ (s : KmsKnown D W). length s.seen) (sym keys)) j))
      ];
    }

    walk-step : (zone : NPath) (answer : Result Walked NameRefusal) → e.after.keys ≡ v.keys → WalkSteps state v zone answer e.after → Stepped (act.Walk zone) (acted.Walk answer)
    walk-step zone answer keys (inl d) =
        walked zone answer keys (walk-next w g.hidden zone (Rose (state v.disk).faults (state e.after.disk).faults) answer d.acts.logged names g.fit then g.linked d.acts.serves)
        (λ f i. elim (gave-front answer (length v.keys.seen) (outstanding_fronts (names_of v.names) v.fronts) f (subst (λ (fs : List Front). In f fs) d.fronts i)) [
          | inl old ↦ inl (in-filter (λ (x : Front). is_outstanding (names_of v.names) x.note) f v.fronts old).0
          | inr new ↦ inr new
        ])
    walk-step zone answer keys (inr d) =
        stepped (act.Walk zone) (acted.Walk answer) [] refl (ap (λ (u : NameView D W). u.fronts) d.same)
        (quiet (subst (λ (u : NameView D W). Next w g.hidden (service_of u.names) [] AllFree) (sym d.same) (same-next w g.hidden g.linked)))

    -- a finish

    enters-none : (b : Bool) (id : ℕ) → FinishEnters b None v e id []
    enters-none true id = refl
    enters-none false id = refl

    enters-not : (o : Option Edek) (id : ℕ) → FinishEnters false o v e id []
    enters-not None id = refl
    enters-not (Some edek) id = refl

    -- without a key
    unkeyed-step : (answered : Answered) (answer : Result (Unit {0}) NameRefusal) → given (answer_of answered.reply) ≡ None → FinishSteps state v answered answer e.after → Stepped (act.Finish answered) (acted.Finish answer)
    unkeyed-step answered answer none d =
        stepped (act.Finish answered) (acted.Finish answer) []
        (subst (λ (o : Option Edek). FinishEnters (enters answered.id (finish_line answer) names) o v e answered.id []) (sym none) (enters-none (enters answered.id (finish_line answer) names) answered.id)) d.fronts
        (quiet (finish-none-next w g.hidden answered.id (answer_of answered.reply) (Rose (state v.disk).faults (state e.after.disk).faults) answer d.acts.logged names g.fit then g.linked none d.acts.serves))

    -- of an ask that is not open
    gone-step : (answered : Answered) (answer : Result (Unit {0}) NameRefusal) → open_ask v.names.asks answered.id ≡ None → FinishSteps state v answered answer e.after → Stepped (act.Finish answered) (acted.Finish answer)
    gone-step answered answer gone d =
        stepped (act.Finish answered) (acted.Finish answer) []
        (subst (λ (r : Result (Unit {0}) NameRefusal). FinishEnters (enters answered.id (finish_line r) names) (given (answer_of answered.reply)) v e answered.id []) (sym ends.reply_is) (enters-not (given (answer_of answered.reply)) answered.id)) d.fronts
        (quiet (subst (λ (s : NameService). Next w g.hidden s [] AllFree) (sym ends.left_is) (same-next w g.hidden g.linked)))
      where
        ends : FinishServesAt (service_of v.names) None (answer_of answered.reply) (Rose (state v.disk).faults (state e.after.disk).faults) answer d.acts.logged names
        ends = subst (λ (o : Option OpenAsk). FinishServesAt (service_of v.names) o (answer_of answered.reply) (Rose (state v.disk).faults (state e.after.disk).faults) answer d.acts.logged names) gone d.acts.serves

    -- with the key that its entry generated
    enters-key : (b : Bool) (x : KmsEntry D W) (edek : Edek) (draw : Draw) (id : ℕ) → Uses v e x → Generates x edek draw → FinishEnters b (Some edek) v e id (entered_if b (entry_under id (Some draw)))
    enters-key true x edek draw id uses made = (x, draw, uses, made, refl)
    enters-key false x edek draw id uses made = refl

    keyed-step : (answered : Answered) (answer : Result (Unit {0}) NameRefusal) (x : KmsEntry D W) (edek : Edek) → answer_of answered.reply ≡ Given (Some edek) → Uses v e x → HasReply g.kept g.hidden x edek
        → FinishSteps state v answered answer e.after → Stepped (act.Finish answered) (acted.Finish answer)
    keyed-step answered answer x edek gives uses has d =
        stepped (act.Finish answered) (acted.Finish answer) (entered_if (enters answered.id (finish_line answer) names) (entry_under answered.id (Some has.draw)))
        (subst (λ (o : Option Edek). FinishEnters (enters answered.id (finish_line answer) names) o v e answered.id (entered_if (enters answered.id (finish_line answer) names) (entry_under answered.id (Some has.draw)))) (sym (ap given gives))
        (enters-key (enters answered.id (finish_line answer) names) x edek has.draw answered.id uses has.generates)) d.fronts
        (next-free w g.hidden names _ (λ k. k ≡ x.by → ⊥) Unended (λ k free same. free (subst (λ (j : ℕ). IsIn j e.after.keys.ended) (sym same) uses.ended))
        (finish-key-next w g.hidden x.by answered.id edek (Rose (state v.disk).faults (state e.after.disk).faults) answer d.acts.logged names g.fit then g.linked
        (subst (λ (a : KeyAnswer). FinishServes w.names answered.id a (Rose (state v.disk).faults (state e.after.disk).faults) answer d.acts.logged names) gives d.acts.serves) has.draw
        (record { at = has.at; unentered = has.unentered })))

    -- the entry that was got is one of the keys
    got-step : (front : ℕ) (q : KmsAct) (r : KmsReply) → (s : Serves front q r v.keys e.after.keys)
        → KmsDoes state to_come (state_after first s.got.before) s.got.entry.call s.got.entry.reply s.got.entry.after
    got-step front q r s =
        (legal-second (KmsSteps {D = D} {W = W} state to_come) (KmsAllows {S = KmsView D W}) [] s.got.before (s.got.entry ∷ s.got.after) first (subst (KeysLegalAfter [] first) s.got.seen_is legal)).1.does

    got-member : (front : ℕ) (q : KmsAct) (r : KmsReply) → (s : Serves front q r v.keys e.after.keys) → In s.got.entry e.after.keys.seen
    got-member front q r s = subst (λ (xs : List (KmsEntry D W)). In s.got.entry xs) (sym s.got.seen_is) (in-right s.got.entry s.got.before (s.got.entry ∷ s.got.after) (inl refl))

    served-step : (answered : Answered) (answer : Result (Unit {0}) NameRefusal) (wants : Want) (q : KmsAct) (r : KmsReply) → act_wanted wants ≡ Some q → answered.reply ≡ Some r → Serves 0 q r v.keys e.after.keys
        → FinishSteps state v answered answer e.after → Stepped (act.Finish answered) (acted.Finish answer)
    served-step answered answer wants q r is given_is s d =
        elim (asked-key (state_after first s.got.before) s.got.entry wants q r is s.got.call_is s.got.reply_is (got-step 0 q r s)) [
          | inl none ↦ unkeyed-step answered answer (ap (λ (o : Option KmsReply). given (answer_of o)) given_is ∙ none) d
          | inr key ↦ keyed-step answered answer s.got.entry key.edek (ap answer_of (given_is ∙ ap (λ (x : KmsReply). Some x) key.is)) (uses-served v e 0 q r s)
              (g.ties.replies s.got.entry key.edek (got-member 0 q r s) key.gave (uses-served v e 0 q r s).new) d
        ]

    wanted-step : (answered : Answered) (answer : Result (Unit {0}) NameRefusal) (wants : Want) (o : Option KmsAct) (p : Option KmsReply) → act_wanted wants ≡ o → answered.reply ≡ p
        → IfWanted (λ q r. Serves 0 q r v.keys e.after.keys) o p → FinishSteps state v answered answer e.after → Stepped (act.Finish answered) (acted.Finish answer)
    wanted-step answered answer wants o None is none s d = unkeyed-step answered answer (ap (λ (x : Option KmsReply). given (answer_of x)) none) d
    wanted-step answered answer wants None (Some r) is some s d = absurd s
    wanted-step answered answer wants (Some q) (Some r) is some s d = served-step answered answer wants q r is some s d

    finish-step : (answered : Answered) (answer : Result (Unit {0}) NameRefusal) (o : Option OpenAsk) → open_ask v.names.asks answered.id ≡ o → ServesAsk o answered.reply v.keys e.after.keys → FinishSteps state v answered answer e.after
        → Stepped (act.Finish answered) (acted.Finish answer)
    finish-step answered answer None gone s d = gone-step answered answer gone d
    finish-step answered answer (Some a) was_open s d = wanted-step answered answer a.want (act_wanted a.want) answered.reply refl refl s d

    -- a delivery

    delivered : (front : ℕ) (reply : ReplyState) (answer : Result Delivered NameRefusal) → HasFront v.fronts reply.note front → e.after.fronts ≡ v.fronts → ServesBatch front reply v.keys e.after.keys → (fault : Type 0) (ops : List EditOp)
        → UpdateServes w.names (front_deed true reply) fault answer ops names → Stepped (act.Deliver front reply) (acted.Deliver answer)
    delivered front reply answer f same (inl unserved) fault ops serves =
        stepped (act.Deliver front reply) (acted.Deliver answer) [] refl same
        (quiet (deliver-refused-next w g.hidden reply fault answer ops names g.fit then g.linked
        (subst (λ (x : ReplyState). ReplyCameBack g.hidden.ledger w.keys.keys.table.rows (ToBatch x)) (sym unserved) (tt, tt)) serves))
    delivered front reply answer f same (inr (r, means, s)) fault ops serves =
        stepped (act.Deliver front reply) (acted.Deliver answer) [] refl same (quiet (deliver-kept-next w g.hidden reply fault answer ops names g.fit then g.linked member serves))
      where
        late : In s.got.entry (drop f.front.count e.after.keys.seen)
        late =
            subst (λ (xs : List (KmsEntry D W)). In s.got.entry (drop f.front.count xs)) (sym s.got.seen_is)
            (in-drop-late f.front.count s.got.before s.got.after s.got.entry (let few = s.got.late in let count = f.count_is in omega (arith, few, count)))

        member : In (ToBatch reply) g.kept.replies
        member =
            subst (λ (x : ReplyState). In (ToBatch x) g.kept.replies) (ap (λ (n : BatchNote). reply_for n r) f.note_is ∙ sym means)
            (g.ties.answers f.front s.got.entry r f.member late (s.got.call_is ∙ ap batch_act (sym f.note_is)) s.got.reply_is)

    deliver-step : (front : ℕ) (reply : ReplyState) (answer : Result Delivered NameRefusal) (b : Bool) → has_front v.fronts reply.note front ≡ b → e.after.fronts ≡ v.fronts → ServesBatch front reply v.keys e.after.keys → (fault : Type 0) (ops : List EditOp)
        → UpdateServes w.names (front_deed b reply) fault answer ops names → Stepped (act.Deliver front reply) (acted.Deliver answer)
    deliver-step front reply answer true has same keeps fault ops serves = delivered front reply answer (front-of v.fronts reply.note front has) same keeps fault ops serves
    deliver-step front reply answer false has same keeps fault ops serves =
        stepped (act.Deliver front reply) (acted.Deliver answer) [] refl same (quiet (ignored-next w g.hidden reply.note fault answer ops names g.fit.names g.linked serves))

    -- each call

    each-step : (q : NameAct) (r : NameActed) → NameKeeps v q e.after → NameDoes state v q r e.after → Stepped q r
    each-step (act.Call user c) (acted.Call reply) keeps d = call-step user c reply d
    each-step (act.Ask user a) (acted.Ask answer) keeps d = ask-step user a answer d
    each-step (act.Finish answered) (acted.Finish answer) keeps d = finish-step answered answer (open_ask v.names.asks answered.id) refl keeps d
    each-step (act.Walk zone) (acted.Walk answer) keeps d = walk-step zone answer keeps d
    each-step (act.Deliver front reply) (acted.Deliver answer) keeps d =
        deliver-step front reply answer (has_front v.fronts reply.note front) refl d.fronts keeps (Rose (state v.disk).faults (state e.after.disk).faults) d.acts.logged d.acts.serves
    each-step q r keeps d = absurd d

  -- both histories are tied after the entry

  pub record TiedNext (v : NameView D W) (e : NameEntry D W) (past : Past) : Type 0 where
    pub tied : Tied first e.after
    pub known : KnownNext v e past (past_of tied.hidden)

  tied-by : (v : NameView D W) (e : NameEntry D W) (h : Hidden) (g : Grown first v h e.after.keys.seen) (then : IsNames (service_of e.after.names)) (legal : KeysLegalAfter [] first e.after.keys.seen)
      → ((k : ℕ) → IsIn k v.keys.ended → IsIn k e.after.keys.ended) → Stepped v e h g then legal e.call e.reply → TiedNext v e (past_of h)
  tied-by v e h g then legal grows s = record {
    tied = record {
      kept = s.next.kept;
      hidden = s.next.hidden;
      fit = record { keys = g.fit.keys; names = then };
      linked = s.next.linked;
      ties = record {
        tickets = λ t i. subst (λ (ts : List Ticket). In t ts) (sym s.next.tickets) (g.ties.tickets t i);
        replies = λ x edek i gave free.
            let has = g.ties.replies x edek i gave (λ was. free (grows x.by was)) in
            let waits = s.next.waits x.by edek has.draw free (record { at = has.at; unentered = has.unentered }) in
            record { draw = has.draw; at = waits.at; unentered = waits.unentered; generates = has.generates };
        fronts = s.fronts;
        answers = s.answers;
      };
    };
    known = record {
      entries = s.entered;
      enters = s.enters;
      ledger = s.next.ledger ∙ ap (λ (l : Ledger). l ++ s.entered) g.ledger;
      starts = s.next.starts ∙ ap (λ (l : FilesAtSubmission). l ++ starts_of (settled true (service_of e.after.names)).table s.entered) g.starts;
    };
  }

  tied-next : (v : NameView D W) (e : NameEntry D W) (t : Tied first v) → v.keys.start ≡ Some first → NameSteps state to_come v e.call e.reply e.after → TiedNext v e (past_of t.hidden)
  tied-next v e t start step = tied-by v e t.hidden g step.after legal step.grows.ended (each-step v e t.hidden g step.after legal e.call e.reply step.keeps step.does)
    where
      legal : KeysLegalAfter [] first e.after.keys.seen
      legal = subst (λ (o : Option (KmsView D W)). LegalOf (KmsSteps {D = D} {W = W} state to_come) (KmsAllows {S = KmsView D W}) o e.after.keys.seen) (step.grows.start ∙ start) step.grows.legal

      g : Grown first v t.hidden e.after.keys.seen
      g = grown v t e.after.keys.seen step.grows.begins legal

  -- and after a whole history

  pub record TiedAfter (v : NameView D W) (es : List (NameEntry D W)) (past : Past) : Type 0 where
    pub tied : Tied first (state_after v es)
    pub known : KnownAfter v es past (past_of tied.hidden)

  pub tied-after : (before es : List (NameEntry D W)) (v : NameView D W) (t : Tied first v) → v.keys.start ≡ Some first → LegalAfter (NameSteps {D = D} {W = W} state to_come) (NameAllows {S = NameView D W}) before v es → TiedAfter v es (past_of t.hidden)
  tied-after before [] v t start legal = record { tied = t; known = (refl, refl) }
  tied-after before (e ∷ es) v t start legal =
      let next = tied-next v e t start legal.1 in
      let rest = tied-after (before ++ e ∷ []) es e.after next.tied (legal.1.grows.start ∙ start) legal.2 in
      record { tied = rest.tied; known = (past_of next.tied.hidden, next.known, rest.known) }
