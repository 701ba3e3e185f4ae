-- A key that was generated as an ask wants it: its draw is kept under the number of the entry, and no id has it yet.
use Rattle.std.proofs.Common.{◌≡◌, inl, ℕ, zero, suc, false, List, [], ◌∷◌, ◌++◌, length, Option, Some, None, is_none, slice_get, refl, sym, ap, subst, ◌∙◌, arith}
use Rattle.hk_base.specs.declared.names.Edek.{Edek}
use Rattle.hk_base.specs.declared.names.KeyName.{KeyName}
use Rattle.key_rows.specs.declared.rows.KeyCommand.{KeyCommand}
use Rattle.key_rows.specs.declared.rows.KeyRow.{KeyRow}
use Rattle.key_rows.specs.Table.{Table, find_name, is_named}
use Rattle.prop_text.specs.declared.lines.PropLine.{PropLine}
use Rattle.kms_calls.specs.declared.calls.KmsCall.TheVariants as key_call
use Rattle.kms_calls.specs.declared.calls.KmsReply.{KmsReply}
use Rattle.kms_calls.specs.declared.calls.KmsReply.TheVariants as key_reply
use Rattle.name_calls.specs.declared.calls.AskNote.{AskNote}
use Rattle.name_calls.specs.declared.calls.KeyAnswer.TheVariants.{Given}
use Rattle.name_calls.specs.declared.calls.Want.TheVariants as want
use Rattle.kms_core.specs.Calls.{birth_of, row_of}
use Rattle.kms_core.specs.Opening.{unseals}
use Rattle.kms_core.specs.State.{IsService, ServiceState}
use Rattle.kms_core.specs.Users.{ServesUser}
use Rattle.hk_events.specs.declared.event.Event.TheVariants as event
use Rattle.hk_events.specs.declared.event.Line.TheVariants as line
use Rattle.name_core.specs.Calls.{superuser}
use Rattle.kms_cell.specs.Entries.{KmsEntry}
use Rattle.kms_cell.specs.declared.acts.KmsAct.TheVariants as key_act
use Rattle.kms_cell.specs.declared.acts.KmsActed.TheVariants as key_acted
use Rattle.world_run.specs.declared.kept.KeptReply.{KeptReply}
use Rattle.world_run.specs.declared.kept.KeptReply.TheVariants.{ToAsk}
use Rattle.world_run.specs.Acknowledged.{of_keys}
use Rattle.world_run.specs.Ledger.{Draw, Hidden, draw_noted, draw_of, first_of, moved_on}
use Rattle.world_run.specs.Linked.{LinkedWorld, OpensTo, Pairs, ReadyLinked, ServicesFit}
use Rattle.world_run.specs.Promise.{In}
use Rattle.world_run.specs.Step.{DrawActs, kept_reply}
use Rattle.world_run.specs.World.{Kept, WorldState, next_reply, numbered, with_note, with_reply}
use Rattle.world_run.proofs.CoveredWorld.{keeps-world}
use Rattle.world_run.proofs.DrawLemmas.{opens-among}
use Rattle.world_run.proofs.Members.{found-in, numbered-in, numbered-within}
use Rattle.thread_laws.specs.Promise.{Generates}
use Rattle.thread_laws.specs.Worlds.{keys_of_view}
use Rattle.thread_laws.proofs.KeyReplies.{OneGenerated}
use Rattle.thread_laws.proofs.Laters.{Later, in-numbered}
use Rattle.thread_laws.proofs.Renames.{renamed, set-numbered-here, set-numbered-other, set_at}
use Rattle.thread_laws.proofs.Ties.{Gave, HasReply}

-- the last value of a list, and the values before it

got-last : {X : Type 0} (xs : List X) (x : X) → slice_get (xs ++ x ∷ []) (length xs) ≡ Some x
got-last [] x = refl
got-last (y ∷ xs) x = got-last xs x

pub numbered-last : {X : Type 0} (xs : List X) (x : X) (n : ℕ) → n ≡ length xs → numbered (xs ++ x ∷ []) (suc n) ≡ Some x
numbered-last xs x n is = ap (λ (k : ℕ). slice_get (xs ++ x ∷ []) k) is ∙ got-last xs x

got-grows : {X : Type 0} (xs ys : List X) (n : ℕ) (x : X) → slice_get xs n ≡ Some x → slice_get (xs ++ ys) n ≡ Some x
got-grows [] ys n x h = absurd cc
got-grows (y ∷ xs) ys zero x h = h
got-grows (y ∷ xs) ys (suc n) x h = got-grows xs ys n x h

pub numbered-grows : {X : Type 0} (xs ys : List X) (n : ℕ) (x : X) → numbered xs n ≡ Some x → numbered (xs ++ ys) n ≡ Some x
numbered-grows xs ys zero x h = absurd cc
numbered-grows xs ys (suc n) x h = got-grows xs ys n x h

-- a note more
noted : (w : WorldState) (h : Hidden) (note : AskNote) → LinkedWorld w h → LinkedWorld (with_note note w) h
noted w h note l = record {
  draws = record {
    files = l.draws.files;
    replies = l.draws.replies;
    draws = l.draws.draws;
    ledger = l.draws.ledger;
    queues = l.draws.queues;
    tickets = l.draws.tickets;
    batches = record { sent = l.draws.batches.sent; sessions = l.draws.batches.sessions; back = l.draws.batches.back };
    versions = l.draws.versions;
  };
  covered = l.covered;
}

-- the draw that is first in its queue is of the queue's birth
first-birth : (rows : List KeyRow) (birth : ℕ) (ready : List Edek) (queued : List Draw) (new : Draw) → new.birth ≡ birth → Pairs (ReadyLinked rows birth) ready queued → (first_of queued new).birth ≡ birth
first-birth rows birth ready [] new is pairs = is
first-birth rows birth [] (d ∷ ds) new is pairs = absurd pairs
first-birth rows birth (e ∷ es) (d ∷ ds) new is pairs = pairs.0.of_birth

-- the key exists, and opens the encrypted key to the data encryption key of the draw
opens-now : (keys : ServiceState) (name : KeyName) (edek : Edek) (d : Draw) → IsService keys → is_none (row_of keys.keys name) ≡ false → d.birth ≡ birth_of (row_of keys.keys name) → OpensTo keys.keys.table.rows d edek
    → unseals keys.keys.table.rows edek ≡ Some d.dek
opens-now keys name edek d is stands birth opens = go (row_of keys.keys name) refl stands birth
  where
    go : (o : Option KeyRow) → find_name keys.keys.table.rows name ≡ o → is_none o ≡ false → d.birth ≡ birth_of o → unseals keys.keys.table.rows edek ≡ Some d.dek
    go None found some at = absurd (cc some)
    go (Some row) found some at =
        let member = found-in (is_named name) keys.keys.table.rows row found in
        opens-among keys.keys.table.rows row edek d.dek is.table.names member (opens row member (sym at)).opens

-- the world after the entry has its draw
pub record WithDraw {D W : Type 0} (w : WorldState) (h : Hidden) (x : KmsEntry D W) : Type 0 where
  pub later : Later w h (keys_of_view x.after)
  pub has : (e : Edek) → Gave x e → HasReply later.kept later.hidden x e

-- the call that an ask wants, by whomever it was made: an event in which a note of its own is drawn
module _ {D W : Type 0} (lines : List PropLine) (w : WorldState) (h : Hidden) (x : KmsEntry D W) (words : ℕ → ℕ) (now : ℕ) (name : KeyName) (fault tells : Type 0) (drawn : ℕ) (commands : List KeyCommand) (edek : Edek)
    (call_is : x.call ≡ key_act.Call superuser (key_call.Generate name 1)) (reply_is : x.reply ≡ key_acted.Call (key_reply.Ready (edek ∷ []))) (fit : ServicesFit w) (is_service : IsService (keys_of_view x.after)) (one : OneGenerated w.keys name (key_reply.Ready (edek ∷ [])) (keys_of_view x.after))
    (serves : ServesUser lines superuser w.keys words now (key_call.Generate name 1) fault tells (key_reply.Ready (edek ∷ [])) drawn commands (keys_of_view x.after)) (l : LinkedWorld w h) where
  abbrev keys : ServiceState
  keys = keys_of_view x.after

  abbrev its_note : AskNote
  its_note = record { id = 0; want = want.Generate name }

  abbrev its_reply : KmsReply
  its_reply = key_reply.Ready (edek ∷ [])

  abbrev before : WorldState
  before = with_note its_note w

  abbrev number : ℕ
  number = suc (length w.kept.notes)

  abbrev place : ℕ
  place = length w.kept.replies

  abbrev after : WorldState
  after = with_reply (kept_reply its_note (Some its_reply)) (record before { keys = keys })

  abbrev drew : Option Draw
  drew = draw_noted w.keys.keys words h (numbered before.kept.notes number) (Some its_reply)

  abbrev then : Hidden
  then = record (moved_on w.keys.keys.ready.queues keys.keys.ready.queues drawn h) { replied = h.replied ++ drew ∷ [] }

  abbrev draw : Draw
  draw = first_of (h.queued (birth_of (row_of w.keys.keys name))) (draw_of w.keys.keys words h.place name)

  linked-after : LinkedWorld after then
  linked-after =
      keeps-world lines before words now (event.Draw number) fault tells (line.Replied (next_reply before) (Some its_reply)) drawn (of_keys commands) after h tt
      (record { keys = fit.keys; names = fit.names }) fit.names.table.rules
      (subst (λ (o : Option AskNote). DrawActs lines before words now o fault tells (line.Replied (next_reply before) (Some its_reply)) drawn (of_keys commands) after)
      (sym (numbered-last w.kept.notes its_note (length w.kept.notes) refl))
      (inl (record { reply = Some its_reply; keys = keys; commands = commands; acts = record { reply = its_reply; serves = serves; reply_is = refl }; logged_is = refl; reply_is = refl; left = refl })))
      (noted w h its_note l)

  drew-is : drew ≡ Some draw
  drew-is = ap (λ (o : Option AskNote). draw_noted w.keys.keys words h o (Some its_reply)) (numbered-last w.kept.notes its_note (length w.kept.notes) refl)

  at-reply : numbered after.kept.replies (suc place) ≡ Some (ToAsk 0 (Given (Some edek)))
  at-reply = numbered-last w.kept.replies (ToAsk 0 (Given (Some edek))) place refl

  at-draw : numbered then.replied (suc place) ≡ Some (Some draw)
  at-draw = numbered-last h.replied drew place (sym l.draws.replies.as_many) ∙ ap (λ (o : Option Draw). Some o) drew-is

  unentered-yet : (id : ℕ) → In (id, draw) then.ledger → ⊥
  unentered-yet id i =
      let is : 0 ≡ id = linked-after.draws.ledger.its_ask id (ToAsk 0 (Given (Some edek))) draw i (suc place, at-reply, at-draw) in
      let high = linked-after.draws.ledger.recent id draw i in
      absurd (omega (arith, is, high))

  birth-is : draw.birth ≡ birth_of (row_of keys.keys name)
  birth-is =
      let at : ℕ = birth_of (row_of w.keys.keys name) in
      first-birth w.keys.keys.table.rows at _ (h.queued at) (draw_of w.keys.keys words h.place name) refl (l.draws.queues.opens at)
      ∙ ap (λ (t : Table). birth_of (find_name t.rows name)) (sym one.same)

  generates : Generates x edek draw
  generates =
      let open_up = linked-after.draws.replies.keys_open (ToAsk 0 (Given (Some edek))) (Some draw) (suc place, at-reply, at-draw) in
      record {
        name = name;
        call_is = call_is;
        reply_is = reply_is;
        version = sym open_up.0;
        iv = sym open_up.1;
        birth = birth-is;
        opens = opens-now keys name edek draw is_service (subst (λ (t : Table). is_none (find_name t.rows name) ≡ false) (sym one.same) one.stands) birth-is open_up.2;
      }

  -- the reply gets the number of the entry

  abbrev its_kept : KeptReply
  its_kept = ToAsk x.by (Given (Some edek))

  abbrev kept_then : Kept
  kept_then = record after.kept { replies = set_at place its_kept after.kept.replies }

  stayed : (k : ℕ) (r : KeptReply) → numbered w.kept.replies k ≡ Some r → numbered kept_then.replies k ≡ Some r
  stayed k r at = set-numbered-other place k its_kept r after.kept.replies (numbered-within w.kept.replies k r at) (numbered-grows w.kept.replies (kept_reply its_note (Some its_reply) ∷ []) k r at)

  generated-later : Later w h keys
  generated-later = record {
    kept = kept_then;
    hidden = then;
    linked = renamed after then place 0 x.by edek draw linked-after at-reply at-draw unentered-yet;
    ledger = refl;
    starts = refl;
    tickets = λ t i. i;
    batches = refl;
    replies = λ r o at. (at.0, stayed at.0 r at.1, numbered-grows h.replied (drew ∷ []) at.0 o at.2);
    more = λ r i. let found = in-numbered r w.kept.replies i in numbered-in kept_then.replies found.0 r (stayed found.0 r found.1);
  }

  generated-reply : HasReply kept_then then x edek
  generated-reply = record {
    draw = draw;
    at = (suc place, set-numbered-here place its_kept (ToAsk 0 (Given (Some edek))) after.kept.replies at-reply, at-draw);
    unentered = unentered-yet;
    generates = generates;
  }

  same-key : (r : KmsReply) (e : Edek) → key_acted.Call (key_reply.Ready (edek ∷ [])) ≡ key_acted.Call (key_reply.Ready (e ∷ [])) → edek ≡ e
  same-key r e same = cc same

  generated-has : (e : Edek) → Gave x e → HasReply kept_then then x e
  generated-has e g = subst (λ (y : Edek). HasReply kept_then then x y) (same-key its_reply e (sym reply_is ∙ g.reply_is)) generated-reply

  pub generated : WithDraw w h x
  unfolding generated-later
  generated = record { later = generated-later; has = generated-has }
