-- A linked world whose namesystem goes on: what each of its calls keeps, while the keys stay.
use Rattle.std.proofs.Common.{◌≡◌, inl, inr, ℕ, suc, ◌+◌, Bool, true, false, List, [], ◌∷◌, ◌++◌, length, Option, Some, None, Ok, Err, refl, sym, ap, subst, ◌∙◌, append-nil}
use Rattle.std.specs.Prelude.{⊤}
use Rattle.std.specs.declared.result.Result.{Result}
use Rattle.hk_base.specs.declared.names.Edek.{Edek}
use Rattle.hk_base.specs.declared.texts.Text.{Text}
use Rattle.edit_ops.specs.declared.ops.EditOp.{EditOp}
use Rattle.name_calls.specs.declared.calls.Ask.{Ask}
use Rattle.name_calls.specs.declared.calls.AskNote.{AskNote}
use Rattle.name_calls.specs.declared.calls.KeyAnswer.{KeyAnswer}
use Rattle.name_calls.specs.declared.calls.KeyAnswer.TheVariants.{Given}
use Rattle.name_calls.specs.declared.calls.NameCall.{NameCall}
use Rattle.name_calls.specs.declared.calls.NameRefusal.{NameRefusal}
use Rattle.name_calls.specs.declared.calls.NameReply.{NameReply}
use Rattle.name_calls.specs.declared.paths.NPath.{NPath}
use Rattle.name_calls.specs.declared.status.Delivered.{Delivered}
use Rattle.reenc_walk.specs.declared.sent.BatchNote.{BatchNote}
use Rattle.reenc_update.specs.Replies.{ReplyState}
use Rattle.name_core.specs.Asks.{Asks}
use Rattle.name_core.specs.Calls.{NoRoom, Plain}
use Rattle.name_core.specs.Service.{FinishServes, NameServes}
use Rattle.name_core.specs.State.{IsNames, NameService, NameState, settled}
use Rattle.name_core.specs.Updates.{deliver_deed, ignore_deed}
use Rattle.name_core.specs.Updating.{NameUpdates, UpdateServes}
use Rattle.name_core.specs.Walking.{WalkServes}
use Rattle.name_core.specs.declared.walks.Walked.{Walked}
use Rattle.name_core.specs.declared.walks.Walked.TheVariants as walk
use Rattle.hk_events.specs.declared.event.Event.TheVariants as event
use Rattle.world_run.specs.declared.kept.KeptReply.{KeptReply}
use Rattle.world_run.specs.declared.kept.KeptReply.TheVariants.{ToAsk, ToBatch}
use Rattle.world_run.specs.Acknowledged.{of_names}
use Rattle.world_run.specs.Batches.{after_walk, walk_line}
use Rattle.world_run.specs.Covered.{CoveredBy}
use Rattle.world_run.specs.Ledger.{Draw, Hidden, Ledger, entered, entry_of, enters, hidden_after, id_of_reply, past_of, starts_of}
use Rattle.world_run.specs.Linked.{KeyLinked, LinkedWorld, Replied, ReplyCameBack, ServicesFit, given, key_in_reply}
use Rattle.world_run.specs.Promise.{In}
use Rattle.world_run.specs.Step.{DeliverReply, FinishReply, after_ask, ask_line, finish_line, update_line}
use Rattle.world_run.specs.World.{Kept, WorldState, next_batch, next_note, numbered, with_names, with_reply}
use Rattle.world_run.proofs.CoveredCalls.{CoversNames, asks-cover, calls-cover, walks-cover}
use Rattle.world_run.proofs.CoveredKeys.{covered-place}
use Rattle.world_run.proofs.CoveredWorld.{keeps-world}
use Rattle.world_run.proofs.Members.{in-left}
use Rattle.world_run.proofs.NameKeeps.{ask-at-keeps, call-keeps, settled-keeps}
use Rattle.world_run.proofs.ServiceLaters.{same-service}
use Rattle.world_run.proofs.WalkKeeps.{walk-at-keeps}
use Rattle.world_run.proofs.WorldLemmas.{AfterReply, StillLinked, linked-reply}
use Rattle.thread_laws.specs.Worlds.{world_with}
use Rattle.thread_laws.proofs.Generating.{numbered-grows, numbered-last}
use Rattle.thread_laws.proofs.Laters.{in-numbered}

-- a draw that is kept for a number, and that no id has
pub record Waits (kept : Kept) (h : Hidden) (k : ℕ) (e : Edek) (d : Draw) : Type 0 where
  pub at : Replied kept.replies h.replied (ToAsk k (Given (Some e))) (Some d)
  pub unentered : (id : ℕ) → In (id, d) h.ledger → ⊥

-- The world with this namesystem is linked with what is hidden then. These entries were added, nothing that was kept is lost, and the
-- draws that are free are still unused.
pub record Next (w : WorldState) (h : Hidden) (names : NameService) (entries : Ledger) (Free : ℕ → Type 0) : Type 0 where
  pub kept : Kept
  pub hidden : Hidden
  pub linked : LinkedWorld (world_with w.keys names kept) hidden
  pub ledger : hidden.ledger ≡ h.ledger ++ entries
  pub starts : hidden.starts ≡ h.starts ++ starts_of (settled true names).table entries
  pub tickets : kept.tickets ≡ w.kept.tickets
  pub batches : (b : BatchNote) → In b w.kept.batches → In b kept.batches
  pub waits : (k : ℕ) (e : Edek) (d : Draw) → Free k → Waits w.kept h k e d → Waits kept hidden k e d
  pub answers : (r : ReplyState) → In (ToBatch r) w.kept.replies → In (ToBatch r) kept.replies

-- any number
abbrev pub AllFree : ℕ → Type 0
AllFree k = ⊤

-- nothing was entered, and only what is hidden of queues changed
abbrev pub quiet-next : (w : WorldState) (h : Hidden) (names : NameService) (kept : Kept) (queued : ℕ → List Draw) (place : ℕ) → kept.tickets ≡ w.kept.tickets → ((b : BatchNote) → In b w.kept.batches → In b kept.batches) → kept.replies ≡ w.kept.replies
    → LinkedWorld (world_with w.keys names kept) (record h { queued = queued; place = place }) → Next w h names [] AllFree
quiet-next w h names kept queued place tickets batches replies l = record {
  kept = kept;
  hidden = record h { queued = queued; place = place };
  linked = l;
  ledger = sym (append-nil h.ledger);
  starts = sym (append-nil h.starts);
  tickets = tickets;
  batches = batches;
  waits = λ k e d free was. record {
    at = (was.at.0, ap (λ (rs : List KeptReply). numbered rs was.at.0) replies ∙ was.at.1, was.at.2);
    unentered = was.unentered;
  };
  answers = λ r i. subst (λ (rs : List KeptReply). In (ToBatch r) rs) (sym replies) i;
}

-- the place of the next draw is no part of what is covered
placed : (w : WorldState) (h : Hidden) (names : NameService) → CoversNames (past_of h) w.keys.keys.table.rows names → (kept : Bool) → CoveredBy (record (past_of h) { place = h.place + 0 }) w.keys.keys.table.rows (settled kept names).table (settled kept names).walks
placed w h names c kept = covered-place (past_of h) (h.place + 0) w.keys.keys.table.rows (settled kept names).table (settled kept names).walks (c kept)

-- a call of a user

pub call-next : (w : WorldState) (h : Hidden) (user : Text) (c : NameCall) (fault : Type 0) (reply : NameReply) (ops : List EditOp) (names : NameService) → IsNames w.names → LinkedWorld w h → NameServes w.names user c fault reply ops names → Next w h names [] AllFree
call-next w h user c fault reply ops names fit l serves =
    quiet-next w h names w.kept h.queued h.place refl (λ b i. i) refl
    (record { draws = call-keeps w h user c fault reply ops names fit l.draws serves; covered = calls-cover w h user c fault reply ops names fit l serves })

-- an ask

asked-next : (w : WorldState) (h : Hidden) (names : NameState) (result : Result AskNote NameRefusal) → CoversNames (past_of h) w.keys.keys.table.rows (record w.names { names = names })
    → StillLinked w h 0 (after_ask result (with_names names w)) → Next w h (record w.names { names = names }) [] AllFree
asked-next w h names (Ok note) c l =
    quiet-next w h (record w.names { names = names }) (after_ask (Ok note) (with_names names w)).kept _ _ refl (λ b i. i) refl (record { draws = l; covered = placed w h (record w.names { names = names }) c })
asked-next w h names (Err why) c l = quiet-next w h (record w.names { names = names }) w.kept _ _ refl (λ b i. i) refl (record { draws = l; covered = placed w h (record w.names { names = names }) c })

pub ask-next : (w : WorldState) (h : Hidden) (user : Text) (a : Ask) (result : Result AskNote NameRefusal) (names : NameState) → LinkedWorld w h → Asks w.names.names user a result names → Next w h (record w.names { names = names }) [] AllFree
ask-next w h user a result names l asks =
    asked-next w h names result (asks-cover (past_of h) w.keys.keys.table.rows w.names user a result names l.covered asks)
    (ask-at-keeps w h user (λ p. a) (Some []) (ask_line result (next_note w)) 0 (after_ask result (with_names names w)) l.draws
    (inl (record { result = result; names = names; asks = asks; reply_is = refl; left = refl })))

-- a walk, whose batch is kept

pub record NextWalk (w : WorldState) (h : Hidden) (names : NameService) (result : Result Walked NameRefusal) : Type 0 where
  pub next : Next w h names [] AllFree
  pub gave : (note : BatchNote) → result ≡ Ok (walk.Batch note) → In note next.kept.batches

same-batch : (b c : BatchNote) (r : Result Walked NameRefusal) → r ≡ Ok (walk.Batch b) → r ≡ Ok (walk.Batch c) → b ≡ c
same-batch b c r was is = cc (was, is)

in-last : {X : Type 0} (x : X) (xs : List X) → In x (xs ++ x ∷ [])
in-last x [] = inl refl
in-last x (y ∷ xs) = inr (in-last x xs)

walked-next : (w : WorldState) (h : Hidden) (names : NameService) (result : Result Walked NameRefusal) → CoversNames (past_of h) w.keys.keys.table.rows names
    → StillLinked w h 0 (after_walk result (record w { names = names })) → NextWalk w h names result
walked-next w h names (Ok (walk.Batch note)) c l = record {
  next = quiet-next w h names (after_walk (Ok (walk.Batch note)) (record w { names = names })).kept _ _ refl (λ b i. in-left b w.kept.batches (note ∷ []) i) refl (record { draws = l; covered = placed w h names c });
  gave = λ b is. subst (λ (x : BatchNote). In x (w.kept.batches ++ note ∷ [])) (same-batch note b (Ok (walk.Batch note)) refl is) (in-last note w.kept.batches);
}
walked-next w h names (Ok (walk.NoneLeft outstanding)) c l = record { next = quiet-next w h names w.kept _ _ refl (λ b i. i) refl (record { draws = l; covered = placed w h names c }); gave = λ b is. absurd (cc is) }
walked-next w h names (Ok walk.Completed) c l = record { next = quiet-next w h names w.kept _ _ refl (λ b i. i) refl (record { draws = l; covered = placed w h names c }); gave = λ b is. absurd (cc is) }
walked-next w h names (Err why) c l = record { next = quiet-next w h names w.kept _ _ refl (λ b i. i) refl (record { draws = l; covered = placed w h names c }); gave = λ b is. absurd (cc is) }

pub walk-next : (w : WorldState) (h : Hidden) (p : NPath) (fault : Type 0) (result : Result Walked NameRefusal) (ops : List EditOp) (names : NameService) → ServicesFit w → IsNames names → LinkedWorld w h
    → WalkServes w.names p fault result ops names → NextWalk w h names result
walk-next w h p fault result ops names fit then l serves =
    walked-next w h names result (walks-cover w h p fault result ops names fit.names l then.table.rules serves)
    (walk-at-keeps w h (Some p) fault (walk_line result (next_batch w)) 0 (of_names ops) (after_walk result (record w { names = names })) fit.names l.draws
    (inl (record { result = result; names = names; ops = ops; walks = serves; logged_is = refl; reply_is = refl; none_drawn = refl; left = refl })))

-- a reply without a draw is kept

abbrev added : WorldState → KeptReply → WorldState
added w r = with_reply r w

abbrev hidden_added : WorldState → Hidden → Hidden
hidden_added w h = AfterReply h w.keys.keys.ready.queues w.keys.keys.ready.queues 0 None

added-linked : (w : WorldState) (h : Hidden) (r : KeptReply) → key_in_reply r ≡ None → ReplyCameBack h.ledger w.keys.keys.table.rows r → LinkedWorld w h → LinkedWorld (added w r) (hidden_added w h)
added-linked w h r none back l = record {
  draws = linked-reply w h w.keys 0 r None (same-service w.keys)
      (record { opens = subst (λ (o : Option Edek). KeyLinked w.keys.keys.table.rows o None) (sym none) tt; free = λ d is. absurd (cc is); born = λ d is. absurd (cc is); recent = λ d is. absurd (cc is); back = back }) l.draws;
  covered = placed w h w.names l.covered;
}

-- a finish without a key: its reply is kept first

no-entry : (b : Bool) → entered b [] ≡ []
no-entry true = refl
no-entry false = refl

entry-none : (k : Option KeptReply) (o : Option (Option Draw)) (id : ℕ) (a : KeyAnswer) → k ≡ Some (ToAsk id a) → o ≡ Some None → entry_of k o ≡ []
entry-none k o id a k_is o_is = ap (λ (x : Option KeptReply). entry_of x o) k_is ∙ ap (λ (x : Option (Option Draw)). entry_of (Some (ToAsk id a)) x) o_is

pub finish-at : (w : WorldState) (h : Hidden) (number id : ℕ) (answer : KeyAnswer) (fault : Type 0) (result : Result (Unit {0}) NameRefusal) (ops : List EditOp) (names : NameService) → ServicesFit w → IsNames names → LinkedWorld w h
    → numbered w.kept.replies number ≡ Some (ToAsk id answer) → FinishServes w.names id answer fault result ops names
    → LinkedWorld (record w { names = names }) (hidden_after w (λ k. k) (event.Finish number) (finish_line result) 0 (record w { names = names }) h)
finish-at w h number id answer fault result ops names fit then l at serves =
    keeps-world [] w (λ k. k) 0 (event.Finish number) fault (Unit {0}) (finish_line result) 0 (of_names ops) (record w { names = names }) h tt fit then.table.rules
    (subst (λ (o : Option KeptReply). FinishReply w o fault (finish_line result) 0 (of_names ops) (record w { names = names })) (sym at)
    (record { result = result; names = names; ops = ops; finishes = serves; logged_is = refl; reply_is = refl; none_drawn = refl; left = refl })) l

waits-added : (w : WorldState) (h : Hidden) (r : KeptReply) (k : ℕ) (e : Edek) (d : Draw) (ledger : Ledger) → ledger ≡ h.ledger → Waits w.kept h k e d
    → Replied (w.kept.replies ++ r ∷ []) (h.replied ++ None ∷ []) (ToAsk k (Given (Some e))) (Some d) × ((id : ℕ) → In (id, d) ledger → ⊥)
waits-added w h r k e d ledger same was = (
  (was.at.0, numbered-grows w.kept.replies (r ∷ []) was.at.0 (ToAsk k (Given (Some e))) was.at.1, numbered-grows h.replied (None ∷ []) was.at.0 (Some d) was.at.2),
  λ id i. was.unentered id (subst (λ (l : Ledger). In (id, d) l) same i),
)

pub finish-none-next : (w : WorldState) (h : Hidden) (id : ℕ) (answer : KeyAnswer) (fault : Type 0) (result : Result (Unit {0}) NameRefusal) (ops : List EditOp) (names : NameService) → ServicesFit w → IsNames names → LinkedWorld w h
    → given answer ≡ None → FinishServes w.names id answer fault result ops names → Next w h names [] AllFree
finish-none-next w h id answer fault result ops names fit then l none serves = record {
  kept = w1.kept;
  hidden = h2;
  linked = finish-at w1 h1 number id answer fault result ops names (record { keys = fit.keys; names = fit.names }) then l1 here serves;
  ledger = ap (λ (x : Ledger). h.ledger ++ x) entry-is;
  starts = ap (λ (x : Ledger). h.starts ++ starts_of (settled true names).table x) entry-is;
  tickets = refl;
  batches = λ b i. i;
  waits = λ k e d free was. let so = waits-added w h reply k e d h2.ledger (ap (λ (x : Ledger). h.ledger ++ x) entry-is ∙ append-nil h.ledger) was in record { at = so.0; unentered = so.1 };
  answers = λ r i. in-left (ToBatch r) w.kept.replies (reply ∷ []) i;
}
  where
    reply : KeptReply
    reply = ToAsk id answer

    w1 : WorldState
    w1 = added w reply

    h1 : Hidden
    h1 = hidden_added w h

    number : ℕ
    number = suc (length w.kept.replies)

    h2 : Hidden
    h2 = hidden_after w1 (λ k. k) (event.Finish number) (finish_line result) 0 (record w1 { names = names }) h1

    l1 : LinkedWorld w1 h1
    l1 = added-linked w h reply none tt l

    here : numbered w1.kept.replies number ≡ Some (ToAsk id answer)
    here = numbered-last w.kept.replies reply (length w.kept.replies) refl

    drew : numbered h1.replied number ≡ Some None
    drew = numbered-last h.replied None (length w.kept.replies) (sym l.draws.replies.as_many)

    entry-is : entered (enters (id_of_reply (numbered w1.kept.replies number)) (finish_line result) names) (entry_of (numbered w1.kept.replies number) (numbered h1.replied number)) ≡ []
    entry-is = ap (entered (enters (id_of_reply (numbered w1.kept.replies number)) (finish_line result) names)) (entry-none (numbered w1.kept.replies number) (numbered h1.replied number) id answer here drew)
        ∙ no-entry (enters (id_of_reply (numbered w1.kept.replies number)) (finish_line result) names)

-- a delivery of a reply that is kept

deliver-at : (w : WorldState) (h : Hidden) (number : ℕ) (reply : ReplyState) (fault : Type 0) (result : Result Delivered NameRefusal) (ops : List EditOp) (names : NameService) → ServicesFit w → IsNames names → LinkedWorld w h
    → numbered w.kept.replies number ≡ Some (ToBatch reply) → UpdateServes w.names (deliver_deed reply) fault result ops names
    → LinkedWorld (record w { names = names }) (hidden_after w (λ k. k) (event.Deliver number) (update_line result) 0 (record w { names = names }) h)
deliver-at w h number reply fault result ops names fit then l at serves =
    keeps-world [] w (λ k. k) 0 (event.Deliver number) fault (Unit {0}) (update_line result) 0 (of_names ops) (record w { names = names }) h tt fit then.table.rules
    (subst (λ (o : Option KeptReply). DeliverReply w o fault (update_line result) 0 (of_names ops) (record w { names = names })) (sym at)
    (record { result = result; names = names; ops = ops; serves = serves; logged_is = refl; reply_is = refl; none_drawn = refl; left = refl })) l

pub deliver-kept-next : (w : WorldState) (h : Hidden) (reply : ReplyState) (fault : Type 0) (result : Result Delivered NameRefusal) (ops : List EditOp) (names : NameService) → ServicesFit w → IsNames names → LinkedWorld w h
    → In (ToBatch reply) w.kept.replies → UpdateServes w.names (deliver_deed reply) fault result ops names → Next w h names [] AllFree
deliver-kept-next w h reply fault result ops names fit then l member serves =
    let found = in-numbered (ToBatch reply) w.kept.replies member in
    quiet-next w h names w.kept _ _ refl (λ b i. i) refl (deliver-at w h found.0 reply fault result ops names fit then l found.1 serves)

-- a delivery of a refusal, which is kept first
pub deliver-refused-next : (w : WorldState) (h : Hidden) (reply : ReplyState) (fault : Type 0) (result : Result Delivered NameRefusal) (ops : List EditOp) (names : NameService) → ServicesFit w → IsNames names → LinkedWorld w h
    → ReplyCameBack h.ledger w.keys.keys.table.rows (ToBatch reply) → UpdateServes w.names (deliver_deed reply) fault result ops names → Next w h names [] AllFree
deliver-refused-next w h reply fault result ops names fit then l back serves = record {
  kept = w1.kept;
  hidden = _;
  linked = deliver-at w1 h1 (suc (length w.kept.replies)) reply fault result ops names (record { keys = fit.keys; names = fit.names }) then (added-linked w h (ToBatch reply) refl back l)
      (numbered-last w.kept.replies (ToBatch reply) (length w.kept.replies) refl) serves;
  ledger = sym (append-nil h.ledger);
  starts = sym (append-nil h.starts);
  tickets = refl;
  batches = λ b i. i;
  waits = λ k e d free was. let so = waits-added w h (ToBatch reply) k e d h.ledger refl was in record { at = so.0; unentered = so.1 };
  answers = λ r i. in-left (ToBatch r) w.kept.replies (ToBatch reply ∷ []) i;
}
  where
    w1 : WorldState
    w1 = added w (ToBatch reply)

    h1 : Hidden
    h1 = hidden_added w h

-- a delivery that is ignored: the pending operation may have been settled

settled-next : (w : WorldState) (h : Hidden) (k : Bool) → IsNames w.names → LinkedWorld w h → Next w h (record { names = settled k w.names; pending = None }) [] AllFree
settled-next w h k fit l =
    quiet-next w h (record { names = settled k w.names; pending = None }) w.kept h.queued h.place refl (λ b i. i) refl
    (record { draws = settled-keeps w h k fit l.draws; covered = λ kept. l.covered k })

pub same-next : (w : WorldState) (h : Hidden) → LinkedWorld w h → Next w h w.names [] AllFree
same-next w h l = quiet-next w h w.names w.kept h.queued h.place refl (λ b i. i) refl l

ignored-state : (s s' : NameState) (note : BatchNote) (result : Result Delivered NameRefusal) → NameUpdates s (ignore_deed note) result s' → s' ≡ s
ignored-state s s' note result (Plain, may, is) = ap (λ o. o.state) is
ignored-state s s' note result (NoRoom, may, is) = absurd (cc may)

pub ignored-next : (w : WorldState) (h : Hidden) (note : BatchNote) (fault : Type 0) (result : Result Delivered NameRefusal) (ops : List EditOp) (names : NameService) → IsNames w.names → LinkedWorld w h
    → UpdateServes w.names (ignore_deed note) fault result ops names → Next w h names [] AllFree
ignored-next w h note fault result ops names fit l (inl u) = subst (λ (s : NameService). Next w h s [] AllFree) (sym u.ends.same) (same-next w h l)
ignored-next w h note fault result ops names fit l (inr (k, inl u)) =
    subst (λ (s : NameService). Next w h s [] AllFree) (sym (u.left ∙ ap (λ (s : NameState). record { names = s; pending = None }) (ignored-state (settled k w.names) u.changed note result u.updates))) (settled-next w h k fit l)
ignored-next w h note fault result ops names fit l (inr (k, inr u)) = absurd (cc u.writes)
