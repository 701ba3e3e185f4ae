-- Properties of the namesystem that the layers above need.
use Rattle.std.proofs.Common.{◌≡◌, ℕ, ◌<◌, ◌≤◌, Bool, true, false, cond, List, Option, None, Some, refl, ap, sym, subst, ◌∙◌, arith}
use Rattle.std.specs.Prelude.{Result}
use Rattle.hk_base.specs.Disk.{DiskState}
use Rattle.edit_ops.specs.declared.ops.EditOp.{EditOp}
use Rattle.name_store.specs.Replay.{AllBelow}
use Rattle.name_store.specs.Store.{StoreState, is_opening}
use Rattle.name_store.specs.Store as store
use Rattle.name_store.specs.Table.{allows, is_among}
use Rattle.name_core.specs.declared.asks.OpenAsk.{OpenAsk}
use Rattle.name_calls.specs.declared.calls.Ask.{Ask}
use Rattle.name_calls.specs.declared.calls.AskNote.{AskNote}
use Rattle.name_calls.specs.declared.calls.KeyAnswer.{KeyAnswer}
use Rattle.name_calls.specs.declared.calls.NameCall.{NameCall}
use Rattle.name_calls.specs.declared.calls.NameRefusal.{NameRefusal}
use Rattle.name_calls.specs.declared.calls.NameReply.{NameReply}
use Rattle.name_core.specs.State.{AreFree, IsNames, NameService, NameState, RunningNames, IsNamesystemOf, WalksOnce, names_of, next_id, settled}
use Rattle.name_core.specs.Asks.{Asks, ask_causes, asked, ask_opened, unless_not_asked}
use Rattle.name_core.specs.Calls.{NoRoom, Plain, first_cause}
use Rattle.name_core.specs.Service.{OwnOf, OwnOfFinish}
use Rattle.name_core.specs.Steps.{Keeps, MayUpdate}
use Rattle.name_core.specs.Walking.{OwnOfWalk}
use Rattle.name_core.specs.Updates.{applied, deliver_deed, give_up_deed, ignored, is_outstanding, update_deed, update_op}
use Rattle.name_core.specs.Updating.{OwnOfUpdate}
use Rattle.name_core.specs.declared.walks.Walked.{Walked}
use Rattle.reenc_update.specs.declared.changes.Changes.{Changes}
use Rattle.reenc_update.specs.Changes.{all_failed, changes_of}
use Rattle.reenc_update.specs.Replies.{FitsSent, ReplyState}
use Rattle.reenc_walk.specs.declared.sent.BatchNote.{BatchNote}
use Rattle.name_calls.specs.declared.status.Delivered.{Delivered}
use Rattle.name_core.proofs.AskLemmas.{each-append}
use Rattle.name_core.proofs.OnceLemmas.{once-settled}
use Rattle.name_core.proofs.UpdateLemmas.{allowed-update, may-deliver}
use Rattle.name_core.proofs.KeepLemmas.{below-more, keeps-of, keeps-settled, settled-opening}
pub use Rattle.name_core.proofs.AllowedLemmas.{allowed-call, allowed-finish, allowed-walk, no-opening, no-opening-finish, no-opening-walk, not-among}

-- asks

-- after an ask the state is unchanged, or one more ask is open
pub data Asking (s : NameState) (user : List ℕ) (a : Ask) (s' : NameState) : Type 0 where
  Same : s' ≡ s → Asking s user a s'
  Opened : first_cause (ask_causes s user a) ≡ None → s' ≡ asked s a → Asking s user a s'

pub asking : (s : NameState) (user : List ℕ) (a : Ask) (answer : Result AskNote NameRefusal) (s' : NameState) → Asks s user a answer s' → Asking s user a s'
asking s user a answer s' (NoRoom, may, is) = Same (ap (λ o. o.state) is)
asking s user a answer s' (Plain, may, is) = go (first_cause (ask_causes s user a)) refl is
  where
    go : (o : Option NameRefusal) → first_cause (ask_causes s user a) ≡ o → (record { reply = answer; state = s' }) ≡ unless_not_asked o s a → Asking s user a s'
    go (Some why) stops is = Same (ap (λ o. o.state) is)
    go None free is = Opened free (ap (λ o. o.state) is)

moved : (d : DiskState) (r t : RunningNames) (ops : List EditOp) → next_id (names_of r) ≤ next_id (names_of t)
    → ((used : List ℕ) → AllBelow (next_id (names_of r)) used → AreFree used r.asks → AreFree used t.asks) → t.store ≡ r.store → IsNamesystemOf d r ops → IsNamesystemOf d t ops
moved d r t ops rises free same s = record {
  used = s.used;
  store = subst (λ (x : StoreState). store.IsNameStoreOf d x s.used ops) (sym same) s.store;
  below = below-more (next_id (names_of r)) (next_id (names_of t)) rises s.used s.below;
  free = free s.used s.below s.free;
}

-- the log holds the same operations after an ask
pub stands_after_ask : (d : DiskState) (r t : RunningNames) (user : List ℕ) (a : Ask) (answer : Result AskNote NameRefusal) (ops : List EditOp) → Asks (names_of r) user a answer (names_of t)
    → t.store ≡ r.store → IsNamesystemOf d r ops → IsNamesystemOf d t ops
stands_after_ask d r t user a answer ops asks same s = go (asking (names_of r) user a answer (names_of t) asks)
  where
    go : Asking (names_of r) user a (names_of t) → IsNamesystemOf d t ops
    go (Same is) =
        let n = ap next_id is in
        moved d r t ops (omega (arith, n)) (λ used below free. subst (λ (l : List OpenAsk). AreFree used l) (sym (ap (λ (x : NameState). x.asks) is)) free) same s
    go (Opened free is) =
        let n = ap next_id is in
        moved d r t ops (omega (arith, n))
        (λ used below apart. subst (λ (l : List OpenAsk). AreFree used l) (sym (ap (λ (x : NameState). x.asks) is))
        (each-append (λ (q : OpenAsk). is_among used q.id ≡ false) r.asks (ask_opened (names_of r) a) apart (not-among used (next_id (names_of r)) below)))
        same s

-- the rules of ids stay true after the pending operation is settled

pub settled_keeps : (kept : Bool) (s : NameService) → IsNames s → Keeps (record { names = settled kept s; pending = None })
settled_keeps kept s n = keeps-settled kept s (keeps-of s n)

pub settled_opened : (kept : Bool) (s : NameService) → IsNames s → 0 < (settled kept s).table.opening
settled_opened kept s n = subst (λ (o : ℕ). 0 < o) (sym (settled-opening kept s.pending s.names s.names.table (keeps-of s n).waits)) n.opened

-- the operation that a call may write is allowed, and is not an opening
pub own_of_call : (s : NameService) (c : NameCall) (answer : NameReply) (s' : NameService) (kept : Bool) (o : EditOp) → IsNames s → OwnOf s c answer s' kept o
    → (allows (settled kept s).table o ≡ true) × (is_opening o ≡ false)
own_of_call s c answer s' kept o n own =
    (allowed-call (settled kept s) c o (settled_opened kept s n) (settled_keeps kept s n).ids own.free own.is, no-opening (settled kept s) c o own.is)

-- the operation that a finish may write is allowed, and is not an opening
pub own_of_finish : (s : NameService) (id : ℕ) (given : KeyAnswer) (answer : Result (Unit {0}) NameRefusal) (s' : NameService) (kept : Bool) (o : EditOp) → IsNames s
    → OwnOfFinish s id given answer s' kept o → (allows (settled kept s).table o ≡ true) × (is_opening o ≡ false)
own_of_finish s id given answer s' kept o n own =
    let k = settled_keeps kept s n in (
      subst (λ (x : EditOp). allows (settled kept s).table x ≡ true) (sym own.is) (allowed-finish (settled kept s) id own.ask own.edek (settled_opened kept s n) k.few k.ids k.recent own.was_open own.free),
      ap is_opening own.is ∙ no-opening-finish own.ask.id own.edek own.ask.ask,
    )

-- the completion that a walk may write is allowed, and is not an opening
pub own_of_walk : (s : NameService) (p : List (List ℕ)) (answer : Result Walked NameRefusal) (s' : NameService) (kept : Bool) (o : EditOp) → IsNames s → OwnOfWalk s p answer s' kept o
    → (allows (settled kept s).table o ≡ true) × (is_opening o ≡ false)
own_of_walk s p answer s' kept o n own = (allowed-walk (settled kept s) p o (settled_opened kept s n) own.free own.is, no-opening-walk (settled kept s) p o own.is)

-- the update that a delivery, or a batch given up, may write is allowed, and is not an opening

once_settled : (kept : Bool) (s : NameService) → IsNames s → WalksOnce (settled kept s).walks
once_settled kept s n = once-settled kept s.pending s.names.updating s.names.walks n.once

abbrev pub Writable : NameState → EditOp → Type 0
Writable s o = (allows s.table o ≡ true) × (is_opening o ≡ false)

by_update : (s : NameState) (note : BatchNote) (changes : Changes) (o : EditOp) → 0 < s.table.opening → (is_outstanding s note ≡ true → MayUpdate s note changes) → (update_deed s note changes).logs ≡ Some o → Writable s o
by_update s note changes o opened may logs = go (is_outstanding s note) refl logs
  where
    go : (b : Bool) → is_outstanding s note ≡ b → (cond b (applied s note changes) (ignored s note)).logs ≡ Some o → Writable s o
    go true is logs = let same : update_op s note changes ≡ o = cc in subst (Writable s) same (allowed-update s note changes opened (may is), refl)
    go false is logs = absurd cc

pub own_of_delivery : (s : NameService) (reply : ReplyState) (answer : Result Delivered NameRefusal) (s' : NameService) (kept : Bool) (o : EditOp) → IsNames s → FitsSent reply.note.sent reply.result
    → OwnOfUpdate s (deliver_deed reply) answer s' kept o → Writable (settled kept s) o
own_of_delivery s reply answer s' kept o n fits own =
    let t = settled kept s in
    by_update t reply.note (changes_of t.table.rows reply.note.zone reply.note.sent reply.result) o (settled_opened kept s n) (may-deliver t reply.note reply.result (once_settled kept s n) fits) own.is

pub own_of_giving_up : (s : NameService) (note : BatchNote) (answer : Result Delivered NameRefusal) (s' : NameService) (kept : Bool) (o : EditOp) → IsNames s → OwnOfUpdate s (give_up_deed note) answer s' kept o
    → Writable (settled kept s) o
own_of_giving_up s note answer s' kept o n own = by_update (settled kept s) note (all_failed note.sent) o (settled_opened kept s n) (λ is. (is, refl)) own.is
