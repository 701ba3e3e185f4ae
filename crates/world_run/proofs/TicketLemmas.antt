-- Tickets that are kept, and deposits of ready keys.
use Rattle.std.proofs.Common.{◌≡◌, inl, inr, ℕ, zero, suc, ◌+◌, ◌-◌, ◌^◌, ◌<◌, ◌≤◌, ◌==◌, ◌⊎◌, Bool, true, false, cond, List, [], ◌∷◌, ◌++◌, length, Option, Some, None, slice_get, refl, sym, ap, subst, ◌∙◌, arith}
use Rattle.std.specs.Prelude.{nat_lt, unwrap_or}
use Rattle.std.specs.Option.{option_map, option_and_then}
use Rattle.std.proofs.lemmas.Slice.Eq.{bytes_eq-Decides}
use Rattle.std.proofs.lemmas.Bool.{eqb-true, eq-eqb}
use Rattle.hk_base.specs.declared.names.Dek.{Dek}
use Rattle.hk_base.specs.declared.names.Edek.{Edek}
use Rattle.hk_base.specs.declared.names.Iv.{Iv}
use Rattle.hk_base.specs.declared.names.VersionName.{VersionName}
use Rattle.eek_seal.specs.Seal.{seal, unseal}
use Rattle.eek_seal.specs.Tickets.{SealedKey}
use Rattle.eek_seal.specs.declared.deposit.Deposit.{Deposit}
use Rattle.eek_seal.specs.declared.deposit.Deposit.TheVariants.{Full, Kept, Stale}
use Rattle.eek_seal.specs.declared.tickets.Ticket.{Ticket}
use Rattle.eek_seal.proofs.SealLemmas.{unseal-seal}
use Rattle.eek_queues.specs.Queues.{AllQueues, Queue, has_queue, is_lower, limit, lower_of, lowest, ready_in, set_ready}
use Rattle.eek_queues.proofs.Births.{ready-set}
use Rattle.key_rows.specs.declared.rows.KeyRow.{KeyRow}
use Rattle.key_rows.specs.Sound.{IsKeyTable, IsRow}
use Rattle.key_rows.specs.Table.{find_birth, is_born, material_of}
use Rattle.kms_core.specs.Calls.{current_version, row_of}
use Rattle.kms_core.specs.Draws.{sealed_with, words_of_draw}
use Rattle.kms_core.specs.Opening.{unseals}
use Rattle.kms_core.specs.Ready.{deposit_answer, edek_of_sealed, is_filled, is_present, newest_material, queues_with, stale_for, ticket_for, ticket_of, with_sealed}
use Rattle.kms_core.specs.State.{AllReady, IsReadyFor, IsService, KmsState}
use Rattle.kms_core.proofs.DepositLemmas.{all_deposited, present_newest}
use Rattle.kms_core.proofs.KeyLemmas.{found_passes}
use Rattle.hk_events.specs.declared.event.Event.TheVariants as event
use Rattle.hk_events.specs.declared.event.Line.{Line}
use Rattle.hk_events.specs.declared.event.Line.TheVariants as line
use Rattle.world_run.specs.Acknowledged.{Acknowledged}
use Rattle.world_run.specs.World.{WorldState, numbered}
use Rattle.world_run.specs.Step.{DepositActs, GivesTicket, LacksRoom, after_ticket}
use Rattle.world_run.specs.Ledger.{Draw, Hidden, behind_words, deposited_under, draw_under, hidden_after, moved_on, with_queued}
use Rattle.world_run.specs.Promise.{In}
use Rattle.world_run.specs.Linked.{AreDrawsRising, DrawsFit, IsDrawn, IsOldBirth, LinkedDraws, Pairs, QueuesLinked, ReadyLinked, TicketLinked, TicketsLinked}
use Rattle.world_run.proofs.DrawLemmas.{dek-long, iv-long, material-long, rising-most, rising-once, words-of-dek}
use Rattle.world_run.proofs.Members.{each-in, found-in, in-more, numbered-in, some-is}
use Rattle.world_run.proofs.PairLemmas.{pairs-more, rising-more}
use Rattle.world_run.proofs.QueueLaters.{ready-other, set-has}
use Rattle.world_run.proofs.ServiceLaters.{same-service}
use Rattle.world_run.proofs.WorldLemmas.{IsFree, StaysLinked, StillLinked, apart-moved, apart-with, draws-with, linked-keys, linked-still, new-free}

-- a ticket that is given

-- the lowest queue is one of the queues
lowest-in : (n : ℕ) (qs : List Queue) (q : Queue) → lowest n qs ≡ Some q → In q qs
lowest-in n [] q h = absurd cc
lowest-in n (x ∷ xs) q h = go (nat_lt (length x.ready) n) (lowest n xs) (lowest-in n xs) h
  where
    lower : (r : Queue) (b : Bool) → In r xs → cond b r x ≡ q → In q (x ∷ xs)
    lower r true i is = inr (subst (λ (y : Queue). In y xs) is i)
    lower r false i is = inl (sym is)

    go : (t : Bool) (o : Option Queue) → ((r : Queue) → o ≡ Some r → In r xs) → cond t (Some (lower_of x o)) o ≡ Some q → In q (x ∷ xs)
    go true None ih h = inl (sym (some-is x q h))
    go true (Some r) ih h = lower r (is_lower r x) (ih r refl) (some-is (cond (is_lower r x) r x) q h)
    go false o ih h = inr (ih q h)

has-in : (qs : List Queue) (q : Queue) → In q qs → has_queue qs q.birth ≡ true
has-in [] q i = absurd i
has-in (x ∷ xs) q (inl is) = ap (λ t. cond t true (has_queue xs q.birth)) (eq-eqb x.birth q.birth (ap (λ (r : Queue). r.birth) (sym is)))
has-in (x ∷ xs) q (inr i) = go (x.birth == q.birth) (has-in xs q i)
  where
    go : (t : Bool) → has_queue xs q.birth ≡ true → cond t true (has_queue xs q.birth) ≡ true
    go true ih = refl
    go false ih = ih

newest-got : (row : KeyRow) → 0 < length row.materials → slice_get row.materials (length row.materials - 1) ≡ Some (newest_material (Some row))
newest-got row some = go (slice_get row.materials (length row.materials - 1)) (got row.materials (length row.materials - 1) (omega (arith, some)))
  where
    got : (ms : List Dek) (n : ℕ) → n < length ms → (m : Dek) × (slice_get ms n ≡ Some m)
    got [] n within = absurd (omega (arith, within))
    got (m ∷ ms) zero within = (m, refl)
    got (m ∷ ms) (suc n) within = got ms n (omega (arith, within))

    go : (o : Option Dek) → (m : Dek) × (o ≡ Some m) → o ≡ Some (unwrap_or o [])
    go None found = absurd (cc found.1)
    go (Some m) found = refl

pub ticket-linked : (s : KmsState) (ticket : Ticket) → IsKeyTable s.table → AllReady s.table.rows s.ready.queues → ticket_of s ≡ Some ticket → TicketLinked s.table s.ready.queues ticket
ticket-linked s ticket table ready given = go (lowest (limit s.ready) s.ready.queues) refl given
  where
    rows : List KeyRow
    rows = s.table.rows

    for-row : (birth : ℕ) (row : KeyRow) → find_birth rows birth ≡ Some row → has_queue s.ready.queues birth ≡ true → TicketLinked s.table s.ready.queues (ticket_for s birth)
    for-row birth row found has =
        let member : In row rows = found-in (is_born birth) rows row found in
        let born : row.birth ≡ birth = eqb-true row.birth birth (found_passes (is_born birth) rows row found) in
        let sound : IsRow row = each-in IsRow rows row table.rows member in
        let most : row.birth ≤ s.table.greatest = rising-most 0 s.table.greatest rows table.births row member in
        record {
          opened = omega arith;
          born = inr (subst (λ (b : ℕ). b ≤ s.table.greatest) born most);
          recent = subst (λ (b : ℕ). 2 ^ 32 ≤ b) born sound.born;
          of_key = λ other i same.
              let is : other ≡ row = rising-once 0 s.table.greatest rows table.births other row i member (same ∙ sym born) in
              subst (λ (o : Option KeyRow). (other.name ≡ (current_version o).key) × (slice_get other.materials (current_version o).number ≡ Some (newest_material o))) (sym found)
              (subst (λ (r : KeyRow). (r.name ≡ row.name) × (slice_get r.materials (length row.materials - 1) ≡ Some (newest_material (Some row)))) (sym is) (refl, newest-got row sound.some));
          waits = λ other i same now. has;
        }

    for-queue : (q : Queue) → In q s.ready.queues → TicketLinked s.table s.ready.queues (ticket_for s q.birth)
    for-queue q i = let key = each-in (IsReadyFor rows) s.ready.queues q ready i in for-row q.birth key.0 key.1 (has-in s.ready.queues q i)

    go : (o : Option Queue) → lowest (limit s.ready) s.ready.queues ≡ o → option_map (ticket_for s) (option_map (λ q. q.birth) o) ≡ Some ticket → TicketLinked s.table s.ready.queues ticket
    go None is given = absurd cc
    go (Some q) is given = subst (TicketLinked s.table s.ready.queues) (some-is (ticket_for s q.birth) ticket given) (for-queue q (lowest-in (limit s.ready) s.ready.queues q is))

-- it is kept
linked-ticket : (w : WorldState) (h : Hidden) (o : Option Ticket) → IsService w.keys → ticket_of w.keys.keys ≡ o → LinkedDraws w h → LinkedDraws (after_ticket o w) h
linked-ticket w h None fit is l = l
linked-ticket w h (Some ticket) fit is l = record {
  files = l.files;
  replies = l.replies;
  draws = l.draws;
  ledger = l.ledger;
  queues = l.queues;
  tickets = λ other i. elim (in-more other ticket w.kept.tickets i) [
    | inl old ↦ l.tickets other old
    | inr same ↦ subst (TicketLinked w.keys.keys.table w.keys.keys.ready.queues) (sym same) (ticket-linked w.keys.keys ticket fit.table fit.ready is)
  ];
  batches = record { sent = l.batches.sent; sessions = l.batches.sessions; back = l.batches.back };
  versions = l.versions;
}

-- the world after the event

ticket-still : (w : WorldState) (h : Hidden) (drawn : ℕ) (o : Option Ticket) → LinkedDraws (after_ticket o w) h → StillLinked w h drawn (after_ticket o w)
ticket-still w h drawn None l = linked-still w h drawn l
ticket-still w h drawn (Some ticket) l = linked-still (after_ticket (Some ticket) w) h drawn l

pub ticket-keeps : (w : WorldState) (h : Hidden) (outcome : Line) (drawn : ℕ) (logged : Acknowledged) (w' : WorldState) → IsService w.keys → LinkedDraws w h → GivesTicket w outcome drawn logged w' ⊎ LacksRoom w outcome drawn logged w'
    → StillLinked w h drawn w'
ticket-keeps w h outcome drawn logged w' fit l (inl g) =
    subst (StillLinked w h drawn) (sym g.left) (ticket-still w h drawn (ticket_of w.keys.keys) (linked-ticket w h (ticket_of w.keys.keys) fit refl l))
ticket-keeps w h outcome drawn logged w' fit l (inr u) = subst (StillLinked w h drawn) (sym u.same) (linked-still w h drawn l)

-- a deposit that is kept

-- the world with these queues
abbrev with_ready : WorldState → AllQueues → WorldState
with_ready w all = record w { keys = record w.keys { keys = record w.keys.keys { ready = all } } }

-- its key has a queue
kept-queued : (s : KmsState) (x : SealedKey) → deposit_answer s x ≡ Kept → has_queue s.ready.queues x.birth ≡ true
kept-queued s x kept = present (is_present s x) kept
  where
    queued : (t : Bool) → has_queue s.ready.queues x.birth ≡ t → cond (cond t (length (ready_in s.ready.queues x.birth) == s.ready.size) true) Full Kept ≡ Kept → has_queue s.ready.queues x.birth ≡ true
    queued true has kept = has
    queued false has kept = absurd cc

    present : (t : Bool) → cond t (cond (is_filled s.ready x.birth) Full Kept) (stale_for s (row_of s x.version.key)) ≡ Kept → has_queue s.ready.queues x.birth ≡ true
    present true kept = queued (has_queue s.ready.queues x.birth) refl kept
    present false kept = absurd cc

-- it is of the key now
kept-present : (s : KmsState) (x : SealedKey) → deposit_answer s x ≡ Kept → is_present s x ≡ true
kept-present s x kept = go (is_present s x) refl kept
  where
    go : (t : Bool) → is_present s x ≡ t → cond t (cond (is_filled s.ready x.birth) Full Kept) (stale_for s (row_of s x.version.key)) ≡ Kept → is_present s x ≡ true
    go true is kept = is
    go false is kept = absurd cc

-- a key that was sealed with the material of its version opens
opens-sealed : (row : KeyRow) (v : VersionName) (iv : Iv) (material dek : Dek) → row.name ≡ v.key → slice_get row.materials v.number ≡ Some material
    → unseals (row ∷ []) (record { version = v; iv = iv; sealed = seal material iv dek }) ≡ Some dek
opens-sealed row v iv material dek named got =
    let has : material_of (row ∷ []) v ≡ Some material =
    ap (λ (t : Bool). option_and_then (λ (r : KeyRow). slice_get r.materials v.number) (cond t (Some row) None)) ((bytes_eq-Decides row.name v.key).1 named) ∙ got in
    ap (option_map (λ (m : Dek). unseal m iv (seal material iv dek))) has ∙ ap Some (unseal-seal material iv dek)

in-queued : (new : Draw) (queued : ℕ → List Draw) (birth : ℕ) (d : Draw) → In d (with_queued new queued birth) → In d (queued birth) ⊎ (d ≡ new)
in-queued new queued birth d i = go (birth == new.birth) i
  where
    go : (t : Bool) → In d (cond t (queued birth ++ new ∷ []) (queued birth)) → In d (queued birth) ⊎ (d ≡ new)
    go true j = in-more d new (queued birth) j
    go false j = inl j

module _ (w : WorldState) (h : Hidden) (words : ℕ → ℕ) (ticket : Ticket) (drawn : ℕ) (member : In ticket w.kept.tickets) (drawn_is : drawn ≡ words_of_draw (length ticket.material))
    (kept : deposit_answer w.keys.keys (sealed_with ticket words) ≡ Kept) (fit : IsService w.keys) (l : LinkedDraws w h) where
  abbrev row_list : List KeyRow
  row_list = w.keys.keys.table.rows

  abbrev old_queues : List Queue
  old_queues = w.keys.keys.ready.queues

  has : has_queue old_queues ticket.birth ≡ true
  has = kept-queued w.keys.keys (sealed_with ticket words) kept

  abbrev made_key : Edek
  made_key = edek_of_sealed (sealed_with ticket words)

  abbrev new_queues : List Queue
  new_queues = set_ready old_queues ticket.birth (ready_in old_queues ticket.birth ++ made_key ∷ [])

  abbrev new_draw : Draw
  new_draw = draw_under ticket words h.place

  abbrev hidden_then : Hidden
  hidden_then = record (behind_words drawn h) { queued = with_queued new_draw h.queued }

  free : (d : Draw) → d ≡ new_draw → IsFree h h.queued (h.place + drawn) d
  free d is = subst (IsFree h h.queued (h.place + drawn)) (sym is)
      (new-free h (IsOldBirth w.keys.keys.table) h.queued (h.place + drawn) new_draw l.draws (λ birth f i. i) (omega arith) (omega (arith, words-of-dek words (length ticket.material), drawn_is)))

  was-drawn : (d : Draw) → IsDrawn hidden_then d → IsDrawn h d ⊎ (d ≡ new_draw)
  was-drawn d (inl i) = inl (inl i)
  was-drawn d (inr (inl i)) = inl (inr (inl i))
  was-drawn d (inr (inr (birth, i))) = elim (in-queued new_draw h.queued birth d i) [ inl old ↦ inl (inr (inr (birth, old))) | inr is ↦ inr is ]

  once : (d f : Draw) → d ≡ new_draw → f ≡ new_draw → d ≡ f
  once d f is other = is ∙ sym other

  ticket-is : TicketLinked w.keys.keys.table old_queues ticket
  ticket-is = l.tickets ticket member

  made-linked : ReadyLinked row_list ticket.birth made_key new_draw
  made-linked = record {
    of_birth = refl;
    of_version = refl;
    of_iv = refl;
    opens = λ row i birth.
        let key = ticket-is.of_key row i birth in
        let is = each-in IsRow row_list row fit.table.rows i in
        record {
          opens = opens-sealed row ticket.version new_draw.iv ticket.material new_draw.dek key.0 key.1;
          long = dek-long words row.bits ticket.material is.bits (material-long row ticket.version.number ticket.material is key.1);
          vector = iv-long words;
        };
  }

  opens-so : (birth : ℕ) → Pairs (ReadyLinked row_list birth) (ready_in new_queues birth) (with_queued new_draw h.queued birth)
  opens-so birth = go (birth == ticket.birth) refl
    where
      here : Pairs (ReadyLinked row_list ticket.birth) (ready_in new_queues ticket.birth) (h.queued ticket.birth ++ new_draw ∷ [])
      here = subst (λ (ready : List Edek). Pairs (ReadyLinked row_list ticket.birth) ready (h.queued ticket.birth ++ new_draw ∷ [])) (sym (ready-set old_queues ticket.birth (ready_in old_queues ticket.birth ++ made_key ∷ []) has))
          (pairs-more (ReadyLinked row_list ticket.birth) (ready_in old_queues ticket.birth) (h.queued ticket.birth) made_key new_draw (l.queues.opens ticket.birth) made-linked)

      go : (t : Bool) → (birth == ticket.birth) ≡ t → Pairs (ReadyLinked row_list birth) (ready_in new_queues birth) (cond t (h.queued birth ++ new_draw ∷ []) (h.queued birth))
      go true is = subst (λ (b : ℕ). Pairs (ReadyLinked row_list b) (ready_in new_queues b) (h.queued b ++ new_draw ∷ [])) (sym (eqb-true birth ticket.birth is)) here
      go false is = subst (λ (ready : List Edek). Pairs (ReadyLinked row_list birth) ready (h.queued birth))
          (sym (ready-other old_queues ticket.birth (ready_in old_queues ticket.birth ++ made_key ∷ []) birth (λ same. let no : true ≡ false = sym (eq-eqb birth ticket.birth (sym same)) ∙ is in absurd cc)))
          (l.queues.opens birth)

  rises : (birth : ℕ) → AreDrawsRising (with_queued new_draw h.queued birth)
  rises birth = go (birth == ticket.birth)
    where
      go : (t : Bool) → AreDrawsRising (cond t (h.queued birth ++ new_draw ∷ []) (h.queued birth))
      go true = rising-more (h.queued birth) new_draw (l.queues.rising birth) (λ f i. l.draws.below f (inr (inr (birth, i))))
      go false = l.queues.rising birth

  deposited-queues : QueuesLinked row_list new_queues hidden_then
  deposited-queues = record {
    opens = opens-so;
    current = all_deposited w.keys.keys (sealed_with ticket words) (present_newest w.keys.keys (sealed_with ticket words) fit.table (kept-present w.keys.keys (sealed_with ticket words) kept)) fit.ready;
    rising = rises;
    not_replied = λ birth d i j. elim (in-queued new_draw h.queued birth d i) [ inl old ↦ l.queues.not_replied birth d old j | inr is ↦ (free d is).not_replied j ];
    not_entered = λ birth id d i j. elim (in-queued new_draw h.queued birth d i) [ inl old ↦ l.queues.not_entered birth id d old j | inr is ↦ (free d is).not_entered id j ];
  }

  deposited-draws : DrawsFit hidden_then (IsOldBirth w.keys.keys.table)
  deposited-draws =
      draws-with h hidden_then h.queued (IsOldBirth w.keys.keys.table) (IsOldBirth w.keys.keys.table) (λ d. d ≡ new_draw) was-drawn once free (omega arith) (λ b old. old)
      (λ d is. subst (λ (x : Draw). IsOldBirth w.keys.keys.table x.birth) (sym is) ticket-is.born) (λ d is. subst (λ (x : Draw). 2 ^ 32 ≤ x.birth) (sym is) ticket-is.recent) l.draws

  deposited-tickets : TicketsLinked w.keys.keys.table new_queues w.kept.tickets
  deposited-tickets t i =
      let was = l.tickets t i in
      record {
        opened = was.opened;
        born = was.born;
        recent = was.recent;
        of_key = was.of_key;
        waits = λ row j birth now. set-has old_queues ticket.birth (ready_in old_queues ticket.birth ++ made_key ∷ []) t.birth (was.waits row j birth now);
      }

  linked-deposit : StaysLinked h (with_ready w (with_sealed w.keys.keys.ready (sealed_with ticket words))) hidden_then
  linked-deposit = (
    record { files = l.files; replies = l.replies; draws = deposited-draws; ledger = l.ledger; queues = deposited-queues; tickets = deposited-tickets; batches = l.batches; versions = l.versions },
    λ apart. apart-with h hidden_then h.queued (λ d. d ≡ new_draw) was-drawn once free (omega arith) apart,
  )

-- the world after a deposit with this answer
answered-deposit : (w : WorldState) (h : Hidden) (words : ℕ → ℕ) (number : ℕ) (ticket : Ticket) (drawn : ℕ) (a : Deposit) → numbered w.kept.tickets number ≡ Some ticket → drawn ≡ words_of_draw (length ticket.material)
    → deposit_answer w.keys.keys (sealed_with ticket words) ≡ a → IsService w.keys → LinkedDraws w h
    → (w' : WorldState) → w' ≡ with_ready w (queues_with w.keys.keys.ready (sealed_with ticket words) a) → StaysLinked h w' (hidden_after w words (event.Deposit number) (line.Deposit a) drawn w' h)
answered-deposit w h words number ticket drawn Kept at drawn_is kept fit l w' left =
    subst (λ (v : WorldState). StaysLinked h v (record (behind_words drawn h) { queued = deposited_under (numbered w.kept.tickets number) words h.place h.queued })) (sym left)
    (subst (λ (o : Option Ticket). StaysLinked h (with_ready w (with_sealed w.keys.keys.ready (sealed_with ticket words))) (record (behind_words drawn h) { queued = deposited_under o words h.place h.queued })) (sym at)
    (linked-deposit w h words ticket drawn (numbered-in w.kept.tickets number ticket at) drawn_is kept fit l))
answered-deposit w h words number ticket drawn Full at drawn_is full fit l w' left =
    subst (λ (v : WorldState). StaysLinked h v (moved_on w.keys.keys.ready.queues v.keys.keys.ready.queues drawn h)) (sym left)
    (linked-keys w h (with_ready w w.keys.keys.ready).keys drawn (same-service w.keys) l, apart-moved w.keys.keys.ready.queues w.keys.keys.ready.queues drawn h)
answered-deposit w h words number ticket drawn (Stale opening birth version) at drawn_is stale fit l w' left =
    subst (λ (v : WorldState). StaysLinked h v (moved_on w.keys.keys.ready.queues v.keys.keys.ready.queues drawn h)) (sym left)
    (linked-keys w h (with_ready w w.keys.keys.ready).keys drawn (same-service w.keys) l, apart-moved w.keys.keys.ready.queues w.keys.keys.ready.queues drawn h)

pub deposit-keeps : (w : WorldState) (h : Hidden) (words : ℕ → ℕ) (number : ℕ) (outcome : Line) (drawn : ℕ) (logged : Acknowledged) (w' : WorldState) (o : Option Ticket) → IsService w.keys → LinkedDraws w h → numbered w.kept.tickets number ≡ o
    → DepositActs w words o outcome drawn logged w' → StaysLinked h w' (hidden_after w words (event.Deposit number) outcome drawn w' h)
deposit-keeps w h words number outcome drawn logged w' None fit l at u =
    subst (λ (t : Line). StaysLinked h w' (hidden_after w words (event.Deposit number) t drawn w' h)) (sym u.reply_is)
    (subst (λ (v : WorldState). StaysLinked h v (moved_on w.keys.keys.ready.queues v.keys.keys.ready.queues drawn h)) (sym u.same)
    (linked-still w h drawn l, apart-moved w.keys.keys.ready.queues w.keys.keys.ready.queues drawn h))
deposit-keeps w h words number outcome drawn logged w' (Some ticket) fit l at d =
    subst (λ (t : Line). StaysLinked h w' (hidden_after w words (event.Deposit number) t drawn w' h)) (sym d.reply_is)
    (answered-deposit w h words number ticket drawn (deposit_answer w.keys.keys (sealed_with ticket words)) at d.drawn_is refl fit l w' d.left)
