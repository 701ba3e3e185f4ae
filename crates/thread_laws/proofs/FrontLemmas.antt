-- Each front is that of a walk, and an applied delivery has a front.
use Rattle.std.proofs.Common.{◌≡◌, ◌⊎◌, inl, inr, ℕ, ◌≤◌, ◌==◌, ◌&&◌, ◌||◌, Bool, true, false, List, [], ◌∷◌, ◌++◌, length, Ok, Err, refl, sym, ap, subst, ◌∙◌, append_assoc, append-nil, arith}
use Rattle.std.specs.declared.result.Result.{Result}
use Rattle.std.proofs.lemmas.Bool.{and_parts, eqb-true}
use mathlib.Core.List.{IsPrefix}
use Rattle.hk_base.specs.Disk.{DiskState}
use Rattle.edit_ops.specs.declared.ops.EditOp.{EditOp}
use Rattle.name_calls.specs.declared.calls.NameRefusal.{NameRefusal}
use Rattle.name_calls.specs.declared.paths.NPath.{NPath}
use Rattle.name_calls.specs.declared.status.Delivered.{Delivered}
use Rattle.name_calls.specs.declared.status.Delivered.TheVariants.{Applied}
use Rattle.reenc_walk.specs.declared.sent.BatchNote.{BatchNote}
use Rattle.reenc_walk.specs.Files.{same_sent}
use Rattle.reenc_update.specs.Replies.{ReplyState}
use Rattle.name_core.specs.Calls.{NoRoom, Plain}
use Rattle.name_core.specs.State.{NameService, NameState, names_of}
use Rattle.name_core.specs.Updates.{ignore_deed, is_outstanding}
use Rattle.name_core.specs.Updating.{NameUpdates, UpdateServes}
use Rattle.name_core.specs.declared.walks.Walked.{Walked}
use Rattle.name_core.specs.declared.walks.Walked.TheVariants as walk
use Rattle.hist_cell.specs.History.{LegalAfter, state_after}
use Rattle.hist_cell.proofs.Lists.{prefix_shorter, prefix_trans}
use Rattle.kms_cell.specs.Entries.{KmsEntry}
use Rattle.name_history.specs.declared.fronts.Front.{Front}
use Rattle.name_history.specs.Asked.{NameAllows}
use Rattle.name_history.specs.Entries.{NameEntry}
use Rattle.name_history.specs.Fronts.{has_front, is_front, outstanding_fronts, same_note, with_front}
use Rattle.name_history.specs.Served.{IsUnserved, ServesBatch}
use Rattle.name_history.specs.Steps.{DeliverSteps, NameDoes, NameKeeps, NameSteps, front_deed}
use Rattle.name_history.specs.Views.{NameView}
use Rattle.name_history.specs.declared.acts.NameAct.{NameAct}
use Rattle.name_history.specs.declared.acts.NameAct.TheVariants as act
use Rattle.name_history.specs.declared.acts.NameActed.{NameActed}
use Rattle.name_history.specs.declared.acts.NameActed.TheVariants as acted
use Rattle.world_run.specs.Promise.{In}
use Rattle.world_run.proofs.Members.{in-filter, in-more}
use Rattle.world_run.proofs.RetiredBatches.{same-files}
use Rattle.thread_laws.specs.Serving.{DeliveriesAreTimely, DeliveryIsServed, IsTimely}
use Rattle.thread_laws.proofs.HistoryLemmas.{legal-first, seen-between, state_after-both, step-at}
use Rattle.thread_laws.proofs.ServedLemmas.{uses-served}

-- the same note

pub note-is : (a b : BatchNote) → same_note a b ≡ true → a ≡ b
note-is a b h =
    let parts = and_parts (a.zone == b.zone) (a.session == b.session && same_sent a.sent b.sent) h in
    let more = and_parts (a.session == b.session) (same_sent a.sent b.sent) parts.1 in
    let zone = eqb-true a.zone b.zone parts.0 in
    let session = eqb-true a.session b.session more.0 in
    let sent = same-files a.sent b.sent more.1 in λ i. record { zone = zone i; session = session i; sent = sent i }

-- a batch that has a front
pub record HasFront (fronts : List Front) (note : BatchNote) (count : ℕ) : Type 0 where
  pub front : Front
  pub member : In front fronts
  pub note_is : front.note ≡ note
  pub count_is : front.count ≡ count

pub front-of : (fronts : List Front) (note : BatchNote) (count : ℕ) → has_front fronts note count ≡ true → HasFront fronts note count
front-of [] note count h = absurd cc
front-of (f ∷ fs) note count h = go (is_front note count f) refl h (front-of fs note count)
  where
    go : (b : Bool) → is_front note count f ≡ b → (b || has_front fs note count) ≡ true → (has_front fs note count ≡ true → HasFront fs note count) → HasFront (f ∷ fs) note count
    go true is h ih =
        let parts = and_parts (f.count == count) (same_note f.note note) is in
        record { front = f; member = inl refl; note_is = note-is f.note note parts.1; count_is = eqb-true f.count count parts.0 }
    go false is h ih = let rest = ih h in record { front = rest.front; member = inr rest.member; note_is = rest.note_is; count_is = rest.count_is }

-- a delivery with a wrong front is not applied

abbrev NotApplied : Result Delivered NameRefusal → Type 0
NotApplied answer = (changed skipped failed : ℕ) → answer ≡ Ok (Applied changed skipped failed) → ⊥

ignored-updates : (s s' : NameState) (note : BatchNote) (answer : Result Delivered NameRefusal) → NameUpdates s (ignore_deed note) answer s' → NotApplied answer
ignored-updates s s' note answer (Plain, may, is) changed skipped failed applied = let was = ap (λ o. o.reply) is in absurd (cc (was, applied))
ignored-updates s s' note answer (NoRoom, may, is) changed skipped failed applied = let was = ap (λ o. o.reply) is in absurd (cc (was, applied))

ignored-serves : (s s' : NameService) (note : BatchNote) (fault : Type 0) (answer : Result Delivered NameRefusal) (ops : List EditOp) → UpdateServes s (ignore_deed note) fault answer ops s' → NotApplied answer
ignored-serves s s' note fault answer ops (inl u) changed skipped failed applied = let was = u.ends.reply_is in absurd (cc (was, applied))
ignored-serves s s' note fault answer ops (inr (kept, inl w)) changed skipped failed applied = ignored-updates _ w.changed note answer w.updates changed skipped failed applied
ignored-serves s s' note fault answer ops (inr (kept, inr u)) changed skipped failed applied = let was = u.reply_is in absurd (cc (was, applied))

pub applied-front : (fronts : List Front) (s s' : NameService) (front : ℕ) (reply : ReplyState) (fault : Type 0) (changed skipped failed : ℕ) (ops : List EditOp)
    → UpdateServes s (front_deed (has_front fronts reply.note front) reply) fault (Ok (Applied changed skipped failed)) ops s' → HasFront fronts reply.note front
applied-front fronts s s' front reply fault changed skipped failed ops serves = go (has_front fronts reply.note front) refl serves
  where
    go : (b : Bool) → has_front fronts reply.note front ≡ b → UpdateServes s (front_deed b reply) fault (Ok (Applied changed skipped failed)) ops s' → HasFront fronts reply.note front
    go true is u = front-of fronts reply.note front is
    go false is u = absurd (ignored-serves s s' reply.note fault (Ok (Applied changed skipped failed)) ops u changed skipped failed refl)

-- a batch of a walk that gives one

pub gave-front : (answer : Result Walked NameRefusal) (count : ℕ) (fronts : List Front) (f : Front) → In f (with_front answer count fronts) → In f fronts ⊎ ((answer ≡ Ok (walk.Batch f.note)) × (f.count ≡ count))
gave-front (Ok (walk.Batch note)) count fronts f i = elim (in-more f (record { note = note; count = count }) fronts i) [
  | inl old ↦ inl old
  | inr is ↦ inr (ap (λ (g : Front). Ok (walk.Batch g.note)) (sym is), ap (λ (g : Front). g.count) is)
]
gave-front (Ok (walk.NoneLeft outstanding)) count fronts f i = inl i
gave-front (Ok walk.Completed) count fronts f i = inl i
gave-front (Err why) count fronts f i = inl i

prefix-of-parts : {A : Type 0} (xs ys zs all : List A) → IsPrefix xs all → all ≡ ys ++ zs → length xs ≤ length ys → IsPrefix xs ys
prefix-of-parts xs ys zs all p is few = prefix_shorter xs ys all p (zs, sym is) few

module _ {D W : Type 0} (state : D → DiskState) (to_come : W → ℕ → ℕ) where
  -- the front is that of a walk in the history so far
  record WasWalked (v : NameView D W) (before : List (NameEntry D W)) (f : Front) : Type 0 where
    earlier : List (NameEntry D W)
    walked : NameEntry D W
    between : List (NameEntry D W)
    before_is : before ≡ earlier ++ walked ∷ between
    zone : NPath
    call_is : walked.call ≡ act.Walk zone
    gave : walked.reply ≡ acted.Walk (Ok (walk.Batch f.note))
    count_is : f.count ≡ length (state_after v earlier).keys.seen

  walked-more : (v : NameView D W) (before : List (NameEntry D W)) (e : NameEntry D W) (f : Front) → WasWalked v before f → WasWalked v (before ++ e ∷ []) f
  walked-more v before e f w = record {
    earlier = w.earlier;
    walked = w.walked;
    between = w.between ++ e ∷ [];
    before_is = ap (λ (l : List (NameEntry D W)). l ++ e ∷ []) w.before_is ∙ append_assoc w.earlier (w.walked ∷ w.between) (e ∷ []);
    zone = w.zone;
    call_is = w.call_is;
    gave = w.gave;
    count_is = w.count_is;
  }

  -- what a step adds to the fronts
  record IsOfWalk (v : NameView D W) (q : NameAct) (r : NameActed) (f : Front) : Type 0 where
    zone : NPath
    call_is : q ≡ act.Walk zone
    gave : r ≡ acted.Walk (Ok (walk.Batch f.note))
    count_is : f.count ≡ length v.keys.seen

  abbrev Came : NameView D W → NameAct → NameActed → Front → Type 0
  Came v q r f = In f v.fronts ⊎ IsOfWalk v q r f

  stayed : (v v' : NameView D W) (q : NameAct) (r : NameActed) (f : Front) → v'.fronts ≡ v.fronts → In f v'.fronts → Came v q r f
  stayed v v' q r f same i = inl (subst (λ (fs : List Front). In f fs) same i)

  came : (v v' : NameView D W) (q : NameAct) (r : NameActed) (f : Front) → NameDoes state v q r v' → In f v'.fronts → Came v q r f
  came v v' (act.Call user c) (acted.Call reply) f d i = stayed v v' (act.Call user c) (acted.Call reply) f d.fronts i
  came v v' (act.Ask user a) (acted.Ask answer) f d i = stayed v v' (act.Ask user a) (acted.Ask answer) f d.fronts i
  came v v' (act.Finish answered) (acted.Finish answer) f d i = stayed v v' (act.Finish answered) (acted.Finish answer) f d.fronts i
  came v v' (act.Walk zone) (acted.Walk answer) f (inl d) i =
      elim (gave-front answer (length v.keys.seen) (outstanding_fronts (names_of v.names) v.fronts) f (subst (λ (fs : List Front). In f fs) d.fronts i)) [
        | inl old ↦ inl (in-filter (λ (g : Front). is_outstanding (names_of v.names) g.note) f v.fronts old).0
        | inr new ↦ inr (record { zone = zone; call_is = refl; gave = ap acted.Walk new.0; count_is = new.1 })
      ]
  came v v' (act.Walk zone) (acted.Walk answer) f (inr d) i = stayed v v' (act.Walk zone) (acted.Walk answer) f (ap (λ (u : NameView D W). u.fronts) d.same) i
  came v v' (act.Deliver front reply) (acted.Deliver answer) f d i = stayed v v' (act.Deliver front reply) (acted.Deliver answer) f d.fronts i
  came v v' q r f d i = absurd d

  -- each front in the state after more entries is that of a walk
  fronts-walked : (v : NameView D W) (before es : List (NameEntry D W)) (s : NameView D W) (f : Front) → s ≡ state_after v before → ((g : Front) → In g s.fronts → WasWalked v before g)
      → LegalAfter (NameSteps {D = D} {W = W} state to_come) (NameAllows {S = NameView D W}) before s es → In f (state_after s es).fronts → WasWalked v (before ++ es) f
  fronts-walked v before [] s f is was legal i = subst (λ (b : List (NameEntry D W)). WasWalked v b f) (sym (append-nil before)) (was f i)
  fronts-walked v before (e ∷ es) s f is was legal i =
      subst (λ (b : List (NameEntry D W)). WasWalked v b f) (append_assoc before (e ∷ []) es)
      (fronts-walked v (before ++ e ∷ []) es e.after f (sym (state_after-both v before (e ∷ []))) now legal.2 i)
    where
      now : (g : Front) → In g e.after.fronts → WasWalked v (before ++ e ∷ []) g
      now g j = elim (came s e.after e.call e.reply g legal.1.does j) [
        | inl old ↦ walked-more v before e g (was g old)
        | inr new ↦ record {
          earlier = before;
          walked = e;
          between = [];
          before_is = refl;
          zone = new.zone;
          call_is = new.call_is;
          gave = new.gave;
          count_is = new.count_is ∙ ap (λ (u : NameView D W). length u.keys.seen) is;
        }
      ]

  -- what serves a delivery comes after all that had been seen at the walk
  delivery-served : (v : NameView D W) (e : NameEntry D W) (front : ℕ) (reply : ReplyState) (seen : List (KmsEntry D W)) → IsPrefix seen e.after.keys.seen → length seen ≤ front
      → ServesBatch front reply v.keys e.after.keys → IsUnserved reply ⊎ DeliveryIsServed v e reply seen
  delivery-served v e front reply seen begins few (inl none) = inl none
  delivery-served v e front reply seen begins few (inr (r, means, s)) = inr (record {
    entry = s.got.entry;
    uses = uses-served v e front _ r s;
    call_is = s.got.call_is;
    came = r;
    reply_is = s.got.reply_is;
    means = means;
    later = prefix-of-parts seen s.got.before (s.got.entry ∷ s.got.after) e.after.keys.seen begins s.got.seen_is (omega (arith, few, s.got.late));
  })

  timely : (v : NameView D W) (before after : List (NameEntry D W)) (e : NameEntry D W) (front : ℕ) (reply : ReplyState) (changed skipped failed : ℕ) → v.fronts ≡ []
      → LegalAfter (NameSteps {D = D} {W = W} state to_come) (NameAllows {S = NameView D W}) [] v before → IsPrefix (state_after v before).keys.seen e.after.keys.seen
      → DeliverSteps state (state_after v before) front reply (Ok (Applied changed skipped failed)) e.after → ServesBatch front reply (state_after v before).keys e.after.keys → IsTimely v before e reply
  timely v before after e front reply changed skipped failed none legal begins does keeps = record {
    earlier = w.earlier;
    walked = w.walked;
    between = w.between;
    before_is = w.before_is;
    zone = w.zone;
    call_is = w.call_is;
    gave = w.gave ∙ ap (λ (n : BatchNote). acted.Walk (Ok (walk.Batch n))) has.note_is;
    served = delivery-served (state_after v before) e front reply (state_after v w.earlier).keys.seen
        (prefix_trans (state_after v w.earlier).keys.seen (state_after v before).keys.seen e.after.keys.seen upto begins) few keeps;
  }
    where
      has : HasFront (state_after v before).fronts reply.note front
      has = applied-front (state_after v before).fronts _ _ front reply _ changed skipped failed _ does.acts.serves

      w : WasWalked v before has.front
      w = fronts-walked v [] before v has.front refl (λ g j. absurd (subst (λ (fs : List Front). In g fs) none j)) legal has.member

      few : length (state_after v w.earlier).keys.seen ≤ front
      few = let same = sym has.count_is ∙ w.count_is in omega (arith, same)

      upto : IsPrefix (state_after v w.earlier).keys.seen (state_after v before).keys.seen
      upto =
          subst (λ (b : List (NameEntry D W)). IsPrefix (state_after v w.earlier).keys.seen (state_after v b).keys.seen) (sym w.before_is)
          (seen-between state to_come w.earlier (w.walked ∷ w.between) v
          (subst (λ (b : List (NameEntry D W)). LegalAfter (NameSteps {D = D} {W = W} state to_come) (NameAllows {S = NameView D W}) [] v b) w.before_is legal))

  pub deliveries_are_timely : DeliveriesAreTimely state to_come
  deliveries_are_timely v before after e front reply changed skipped failed legal none call answered =
      timely v before after e front reply changed skipped failed none (legal-first (NameSteps {D = D} {W = W} state to_come) (NameAllows {S = NameView D W}) [] before (e ∷ after) v legal) s.grows.begins
      (subst (λ (r : NameActed). NameDoes state (state_after v before) (act.Deliver front reply) r e.after) answered (subst (λ (q : NameAct). NameDoes state (state_after v before) q e.reply e.after) call s.does))
      (subst (λ (q : NameAct). NameKeeps (state_after v before) q e.after) call s.keeps)
    where
      s : NameSteps state to_come (state_after v before) e.call e.reply e.after
      s = step-at state to_come before after v e legal
