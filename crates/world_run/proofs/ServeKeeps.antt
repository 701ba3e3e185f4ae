-- The call for a kept batch keeps the world linked: each key that comes back opens to the draw of its file.
use Rattle.std.proofs.Common.{◌≡◌, ◌⊎◌, inl, inr, ℕ, zero, suc, ◌+◌, ◌-◌, ◌<◌, Bool, false, List, [], ◌∷◌, length, map, Option, Some, None, Ok, Err, slice_get, refl, sym, ap, subst, ◌∙◌, arith}
use Rattle.std.specs.Prelude.{◌≢◌}
use Rattle.std.specs.List.{list_any}
use Rattle.std.specs.Option.{option_map, option_and_then}
use Rattle.std.specs.declared.result.Result.{Result}
use Rattle.std.proofs.lemmas.Option.{slice_get-map}
use Rattle.std.proofs.lemmas.Bool.{or_parts}
use Rattle.hk_base.specs.declared.names.Dek.{Dek}
use Rattle.hk_base.specs.declared.names.Edek.{Edek}
use Rattle.hk_base.specs.declared.names.KeyName.{KeyName}
use Rattle.hk_base.specs.declared.names.VersionName.{VersionName}
use Rattle.key_rows.specs.declared.rows.KeyCommand.{KeyCommand}
use Rattle.key_rows.specs.declared.rows.KeyRow.{KeyRow}
use Rattle.key_rows.specs.Sound.{IsKeyTable, NamesOnce}
use Rattle.key_rows.specs.Table.{find_name, is_named}
use Rattle.kms_acls.specs.declared.answers.Denied.{Denied}
use Rattle.kms_acls.specs.declared.answers.Shown.{Shown}
use Rattle.kms_acls.specs.Verdict.{verdict}
use Rattle.kms_calls.specs.declared.calls.KmsRefusal.{KmsRefusal}
use Rattle.kms_calls.specs.declared.calls.KmsReply.{KmsReply}
use Rattle.kms_calls.specs.declared.calls.KmsReply.TheVariants as key_reply
use Rattle.kms_core.specs.Calls.{KmsActs, NoRoom, Plain, batch_causes, causes, current_version, deed, first_cause, is_of_other_key, resealed, row_of, unless_refused}
use Rattle.kms_core.specs.Laws.{SameKey, sent_of}
use Rattle.kms_core.specs.Opening.{unseals}
use Rattle.kms_core.specs.Service.{ReadFails}
use Rattle.kms_core.specs.State.{KmsState, ServiceState}
use Rattle.kms_core.specs.Users.{ServesUnder}
use Rattle.kms_core.proofs.KeyLemmas.{found_passes, named}
use Rattle.kms_core.proofs.ResealLemmas.{batch_opens}
use Rattle.kms_core.proofs.SentLemmas.{batch_has}
use Rattle.prop_text.specs.declared.lines.PropLine.{PropLine}
use Rattle.name_core.specs.Calls.{superuser}
use Rattle.reenc_walk.specs.declared.sent.BatchNote.{BatchNote}
use Rattle.reenc_walk.specs.declared.sent.Sent.{Sent}
use Rattle.hk_events.specs.declared.event.Event.TheVariants as event
use Rattle.hk_events.specs.declared.event.Line.{Line}
use Rattle.world_run.specs.declared.kept.KeptReply.TheVariants.{ToBatch}
use Rattle.batch_calls.proofs.FitLemmas.{batch-fits, of-name}
use Rattle.world_run.specs.Acknowledged.{Acknowledged}
use Rattle.world_run.specs.Batches.{batch_call, key_of_sent, raw_keys, reply_for, result_of}
use Rattle.world_run.specs.Ledger.{Draw, Hidden, Ledger, hidden_after, left_in, moved_on}
use Rattle.world_run.specs.Linked.{CameBackIn, HasDraw, KeysCameBack, LinkedDraws, NotBelow, OfSession, OpensUnder, ReplyCameBack, ServicesFit, VersionsStand}
use Rattle.world_run.specs.Promise.{In}
use Rattle.world_run.specs.Step.{ServeActs}
use Rattle.world_run.specs.World.{WorldState, numbered}
use Rattle.world_run.proofs.DrawLemmas.{opens-alone, opens-among, opens-named}
use Rattle.world_run.proofs.FinishLemmas.{OneDraw}
use Rattle.world_run.proofs.Members.{each-in, found-in, got-in, numbered-in, some-is}
use Rattle.world_run.proofs.ServiceLaters.{ServiceLater, user-state}
use Rattle.world_run.proofs.WorldLemmas.{AfterReply, NewReply, StaysLinked, apart-moved, apart-reply, linked-reply, linked-still}

-- rows of keys by their names

once-named : (rows : List KeyRow) (a b : KeyRow) → NamesOnce rows → In a rows → In b rows → a.name ≡ b.name → a ≡ b
once-named [] a b once i j same = absurd i
once-named (y ∷ ys) a b once (inl p) (inl q) same = p ∙ sym q
once-named (y ∷ ys) a b once (inl p) (inr j) same = absurd (each-in (λ (x : KeyRow). x.name ≢ y.name) ys b once.0 j (sym same ∙ ap (λ (x : KeyRow). x.name) p))
once-named (y ∷ ys) a b once (inr i) (inl q) same = absurd (each-in (λ (x : KeyRow). x.name ≢ y.name) ys a once.0 i (same ∙ ap (λ (x : KeyRow). x.name) q))
once-named (y ∷ ys) a b once (inr i) (inr j) same = once-named ys a b once.1 i j same

-- a key that opens has a row of its version's name
opened-row : (open_by : Dek → Dek) (o : Option KeyRow) (n : ℕ) (dek : Dek) → option_map open_by (option_and_then (λ (r : KeyRow). slice_get r.materials n) o) ≡ Some dek → (row : KeyRow) × (o ≡ Some row)
opened-row open_by None n dek h = absurd cc
opened-row open_by (Some row) n dek h = (row, refl)

found-row : (rows : List KeyRow) (e : Edek) (dek : Dek) → unseals rows e ≡ Some dek → (row : KeyRow) × (find_name rows e.version.key ≡ Some row)
found-row rows e dek h = opened-row _ (find_name rows e.version.key) e.version.number dek h

-- a key that comes back in a re-encryption, for a file with a draw
module _ (ledger : Ledger) (session : ℕ) (s : KmsState) (name : KeyName) (x : Sent) (e : Edek) (row : KeyRow) (table : IsKeyTable s.table) (mine : x.edek.version.key ≡ name) (had : HasDraw ledger s.table.rows x.id x.edek) (of_session : OfSession ledger session x.edek.version.key)
    (same : SameKey s name (sent_of x.edek) s e) (found : find_name s.table.rows name ≡ Some row) where
  row-named : row.name ≡ name
  row-named = named s.table.rows name row found

  -- it is of the current version of that key
  key-is : e.version.key ≡ name
  key-is = ap (λ (v : VersionName). v.key) (same.version ∙ ap current_version found) ∙ row-named

  opened : (other : KeyRow) → In other s.table.rows → other.birth ≡ had.draw.birth → OpensUnder other had.draw e
  opened other i birth =
      let was = had.opens other i birth in
      let by_sent : unseals (other ∷ []) x.edek ≡ Some had.draw.dek = was.opens in
      let name_is : other.name ≡ row.name = opens-named other x.edek had.draw.dek by_sent ∙ mine ∙ sym row-named in
      let is : other ≡ row = once-named s.table.rows other row table.names i (found-in (is_named name) s.table.rows row found) name_is in
      let dek_is : Some same.dek ≡ Some had.draw.dek = sym same.before ∙ opens-among s.table.rows other x.edek had.draw.dek table.names i by_sent in
      record {
        opens = subst (λ (r : KeyRow). unseals (r ∷ []) e ≡ Some had.draw.dek) (sym is)
            (opens-alone s.table.rows row e had.draw.dek (ap (find_name s.table.rows) key-is ∙ found) (ap (λ (k : KeyName). is_named k row) key-is ∙ found_passes (is_named name) s.table.rows row found)
            (same.after ∙ dek_is));
        long = was.long;
        vector = ap length same.iv ∙ was.vector;
      }

  -- its version is the last one of that key
  not-below : OneDraw ledger → VersionsStand ledger s.table.rows → NotBelow ledger s.table.rows session e
  not-below one stand d other entered i born =
      let drawn = stand session d other entered i born in
      let draw_is : d ≡ of_session.draw = one session d of_session.draw entered of_session.entered in
      let name_is : other.name ≡ row.name = drawn.0 ∙ ap (λ (f : Draw). f.version.key) draw_is ∙ of_session.of_key ∙ mine ∙ sym row-named in
      let is : other ≡ row = once-named s.table.rows other row table.names i (found-in (is_named name) s.table.rows row found) name_is in
      let low : d.version.number < length row.materials = subst (λ (r : KeyRow). d.version.number < length r.materials) is drawn.1 in
      let number : e.version.number ≡ length row.materials - 1 = ap (λ (v : VersionName). v.number) (same.version ∙ ap current_version found) in
      omega (arith, low, number)

  of-row : OneDraw ledger → VersionsStand ledger s.table.rows → CameBackIn ledger s.table.rows session x e
  of-row one stand = record {
    came = record { of_key = key-is ∙ sym mine; has = record { draw = had.draw; entered = had.entered; of_key = key-is ∙ sym mine ∙ had.of_key; carries = same.iv ∙ had.carries; opens = opened } };
    of_session = record { draw = of_session.draw; entered = of_session.entered; of_key = of_session.of_key ∙ mine ∙ sym key-is };
    not_below = not-below one stand;
  }

came-back : (ledger : Ledger) (session : ℕ) (s : KmsState) (name : KeyName) (x : Sent) (e : Edek) → IsKeyTable s.table → x.edek.version.key ≡ name → HasDraw ledger s.table.rows x.id x.edek → OfSession ledger session x.edek.version.key
    → OneDraw ledger → VersionsStand ledger s.table.rows → SameKey s name (sent_of x.edek) s e → CameBackIn ledger s.table.rows session x e
came-back ledger session s name x e table mine had of_session one stand same =
    let found = found-row s.table.rows x.edek same.dek same.before in
    of-row ledger session s name x e found.0 table mine had of_session same (ap (find_name s.table.rows) (sym mine) ∙ found.1) one stand

-- none of a list, so not the one at a place
none-at : {X : Type 0} (p : X → Bool) (xs : List X) (n : ℕ) (x : X) → list_any p xs ≡ false → slice_get xs n ≡ Some x → p x ≡ false
none-at p [] n x none at = absurd cc
none-at p (y ∷ ys) zero x none at = subst (λ z. p z ≡ false) (some-is y x at) (or_parts (p y) (list_any p ys) none).0
none-at p (y ∷ ys) (suc n) x none at = none-at p ys n x (or_parts (p y) (list_any p ys) none).1 at

-- the reply to the call for a batch

module _ (ledger : Ledger) (s : KmsState) (words : ℕ → ℕ) (now : ℕ) (batch : BatchNote) (table : IsKeyTable s.table) (had : (x : Sent) → In x batch.sent → HasDraw ledger s.table.rows x.id x.edek)
    (of_session : (x : Sent) → In x batch.sent → OfSession ledger batch.session x.edek.version.key) (one : OneDraw ledger) (stand : VersionsStand ledger s.table.rows) where
  abbrev Returned : KmsReply → Type 0
  Returned reply = KeysCameBack ledger s.table.rows batch (result_of reply)

  abbrev batch_key : KeyName
  batch_key = key_of_sent batch.sent

  abbrev new_keys : List Edek
  new_keys = map (resealed s batch_key) (raw_keys batch.sent)

  keys-returned : (drawn : ℕ) → first_cause (batch_causes (row_of s batch_key) batch_key (raw_keys batch.sent)) ≡ None → KmsActs s words now (batch_call batch) (key_reply.Ready new_keys) drawn s → Returned (key_reply.Ready new_keys)
  keys-returned drawn free acts = λ place x e sent got.
      let at : slice_get (raw_keys batch.sent) place ≡ Some (sent_of x.edek) = slice_get-map (λ (y : Sent). sent_of y.edek) batch.sent place ∙ ap (option_map (λ (y : Sent). sent_of y.edek)) sent in
      let its = none-at (is_of_other_key batch_key) (raw_keys batch.sent) place (sent_of x.edek) (batch_has (row_of s batch_key) batch_key (raw_keys batch.sent) free).its at in
      let same = (batch_opens s words now batch_key (raw_keys batch.sent) new_keys s (λ k. words (drawn + k)) table (record { drawn = drawn; acts = acts; rest = λ k. refl })).1 place (sent_of x.edek) e at got in
      let member = got-in batch.sent place x sent in
      came-back ledger batch.session s batch_key x e table (of-name batch_key x its) (had x member) (of_session x member) one stand same

  acts-returned : (reply : KmsReply) (drawn : ℕ) → KmsActs s words now (batch_call batch) reply drawn s → Returned reply
  acts-returned reply drawn (NoRoom some, may, is) = subst Returned (sym (ap (λ o. o.reply) is)) tt
  acts-returned reply drawn (Plain, may, is) = go (first_cause (causes s (batch_call batch))) refl is
    where
      go : (o : Option KmsRefusal) → first_cause (causes s (batch_call batch)) ≡ o → (record { reply = reply; drawn = drawn; state = s }) ≡ unless_refused o s (deed s words now (batch_call batch)) → Returned reply
      go (Some why) cause is = subst Returned (sym (ap (λ o. o.reply) is)) tt
      go None free answered =
          let ready : reply ≡ key_reply.Ready new_keys = ap (λ o. o.reply) answered in
          subst Returned (sym ready) (keys-returned drawn free (subst (λ (r : KmsReply). KmsActs s words now (batch_call batch) r drawn s) ready (Plain, may, is)))

  under-returned : (service : ServiceState) (fault tells : Type 0) (reply : KmsReply) (drawn : ℕ) (logged : List KeyCommand) (after : ServiceState) (v : Result Shown Denied) → tells → service.keys ≡ s
      → ServesUnder v service words now (batch_call batch) fault tells reply drawn logged after → Returned reply
  under-returned service fault tells reply drawn logged after (Ok shown) telling is p = subst Returned (sym p.reply_is) (known (p.serves.acts (λ older. telling)))
    where
      known : KmsActs service.keys words now (batch_call batch) p.reply drawn service.keys ⊎ ReadFails service.keys (batch_call batch) fault p.reply → Returned p.reply
      known (inl acts) = acts-returned p.reply drawn (subst (λ (k : KmsState). KmsActs k words now (batch_call batch) p.reply drawn k) is acts)
      known (inr fails) = subst Returned (sym fails.reply_is) tt
  under-returned service fault tells reply drawn logged after (Err denied) telling is d = subst Returned (sym d.reply_is) tt

-- the call changes no key
same-rows : (s after : ServiceState) (words : ℕ → ℕ) (now : ℕ) (batch : BatchNote) (fault tells : Type 0) (reply : KmsReply) (drawn : ℕ) (logged : List KeyCommand) (v : Result Shown Denied)
    → ServesUnder v s words now (batch_call batch) fault tells reply drawn logged after → after ≡ s
same-rows s after words now batch fault tells reply drawn logged (Ok shown) p = p.serves.same
same-rows s after words now batch fault tells reply drawn logged (Err denied) d = d.same

pub serve-keeps : (lines : List PropLine) (w : WorldState) (h : Hidden) (words : ℕ → ℕ) (now number : ℕ) (fault tells : Type 0) (outcome : Line) (drawn : ℕ) (logged : Acknowledged) (w' : WorldState) (o : Option BatchNote) → tells → ServicesFit w → LinkedDraws w h
    → numbered w.kept.batches number ≡ o → ServeActs lines w words now o fault tells outcome drawn logged w' → StaysLinked h w' (hidden_after w words (event.Serve number) outcome drawn w' h)
serve-keeps lines w h words now number fault tells outcome drawn logged w' None telling fit l at u =
    subst (λ (t : Line). StaysLinked h w' (hidden_after w words (event.Serve number) t drawn w' h)) (sym u.reply_is)
    (subst (λ (v : WorldState). StaysLinked h v (moved_on w.keys.keys.ready.queues v.keys.keys.ready.queues drawn h)) (sym u.same) (linked-still w h drawn l, apart-moved w.keys.keys.ready.queues w.keys.keys.ready.queues drawn h))
serve-keeps lines w h words now number fault tells outcome drawn logged w' (Some batch) telling fit l at (inr u) =
    subst (λ (t : Line). StaysLinked h w' (hidden_after w words (event.Serve number) t drawn w' h)) (sym u.reply_is)
    (subst (λ (v : WorldState). StaysLinked h v (moved_on w.keys.keys.ready.queues v.keys.keys.ready.queues drawn h)) (sym u.same) (linked-still w h drawn l, apart-moved w.keys.keys.ready.queues w.keys.keys.ready.queues drawn h))
serve-keeps lines w h words now number fault tells outcome drawn logged w' (Some batch) telling fit l at (inl a) =
    subst (λ (t : Line). StaysLinked h w' (hidden_after w words (event.Serve number) t drawn w' h)) (sym a.reply_is)
    (subst (λ (v : WorldState). StaysLinked h v (AfterReply h w.keys.keys.ready.queues v.keys.keys.ready.queues drawn None)) (sym a.left)
    (linked-reply w h a.keys drawn (ToBatch (reply_for batch a.reply)) None later new l, apart-reply w h a.keys drawn (ToBatch (reply_for batch a.reply)) None later new))
  where
    later : ServiceLater w.keys a.keys
    later = user-state lines superuser w.keys words now (batch_call batch) fault tells a.reply drawn a.commands a.keys fit.keys a.serves

    same : a.keys ≡ w.keys
    same = same-rows w.keys a.keys words now batch fault tells a.reply drawn a.commands (verdict lines superuser (batch_call batch)) a.serves

    back : ReplyCameBack h.ledger w.keys.keys.table.rows (ToBatch (reply_for batch a.reply))
    back =
        let member = numbered-in w.kept.batches number batch at in (
          batch-fits w.keys words now batch fault tells a.reply drawn a.commands a.keys (verdict lines superuser (batch_call batch)) a.serves,
          under-returned h.ledger w.keys.keys words now batch fit.keys.table (λ x i. l.batches.sent batch x member i) (λ x i. l.batches.sessions batch x member i) l.ledger.one_draw l.versions w.keys fault tells a.reply drawn a.commands a.keys
              (verdict lines superuser (batch_call batch)) telling refl a.serves,
        )

    new : NewReply h (left_in w.keys.keys.ready.queues a.keys.keys.ready.queues h.queued) (h.place + drawn) a.keys.keys.table (ToBatch (reply_for batch a.reply)) None
    new = record {
      opens = tt;
      free = λ d is. absurd cc;
      born = λ d is. absurd cc;
      recent = λ d is. absurd cc;
      back = subst (λ (k : ServiceState). ReplyCameBack h.ledger k.keys.table.rows (ToBatch (reply_for batch a.reply))) (sym same) back;
    }
