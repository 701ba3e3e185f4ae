-- Moves of a world that keep it linked: keys and queues that change, words that are drawn, another namesystem, and a reply that is kept.
use Rattle.std.proofs.Common.{◌≡◌, ◌⊎◌, inl, inr, ℕ, ◌+◌, ◌-◌, ◌*◌, ◌^◌, ◌<◌, ◌≤◌, Bool, true, false, List, [], ◌∷◌, ◌++◌, length, Option, Some, None, refl, sym, ap, subst, ◌∙◌, arith, length-append}
use Rattle.std.specs.Prelude.{IfSome, drop}
use Rattle.hk_base.specs.declared.names.Edek.{Edek}
use Rattle.eek_queues.specs.Queues.{Queue, has_queue, ready_in}
use Rattle.eek_seal.specs.declared.tickets.Ticket.{Ticket}
use Rattle.key_rows.specs.declared.rows.KeyRow.{KeyRow}
use Rattle.key_rows.specs.Table.{Table}
use Rattle.kms_core.specs.Draws.{words_of_draw}
use Rattle.kms_core.specs.State.{AllReady, IsService, ServiceState, service_after_opening, settled}
use Rattle.edit_ops.specs.declared.ops.EditOp.{EditOp}
use Rattle.edit_ops.specs.declared.ops.EditOp.TheVariants.{Opened, Mkdir, File, Remove, Rename, Zone, Allow, Disallow, Snap, Unsnap, Submit, Update, Cancel, Complete}
use Rattle.name_store.specs.Store.{is_opening}
use Rattle.name_store.specs.Table.{NameTable, after_table, settled_table}
use Rattle.name_store.proofs.StatusLemmas.{fit-of}
use Rattle.zone_table.specs.Statuses.{StatusesFit}
use Rattle.name_core.specs.declared.asks.OpenAsk.{OpenAsk}
use Rattle.name_core.specs.State.{IsNames, IsWaiting, NameService, NameState, next_id, settled as settled_names, started}
use Rattle.reenc_update.specs.declared.reply.BatchResult.{BatchResult}
use Rattle.reenc_update.specs.declared.reply.BatchResult.TheVariants as batch_result
use Rattle.reenc_walk.specs.declared.sent.BatchNote.{BatchNote}
use Rattle.world_run.specs.declared.kept.KeptReply.{KeptReply}
use Rattle.world_run.specs.declared.kept.KeptReply.TheVariants.{ToAsk, ToBatch}
use Rattle.world_run.specs.World.{Kept, WorldState, with_note, with_reply}
use Rattle.world_run.specs.Ledger.{Draw, Hidden, Ledger, behind_words, drawn_before, left_in, moved_on, past_of}
use Rattle.world_run.specs.Promise.{Apart, In}
use Rattle.world_run.specs.Linked.{AreDrawsRising, BatchesLinked, DrawsFit, FilesLinked, HasDraw, IsDrawn, IsOldBirth, KeyLinked, KeysCameBack, LedgerFits, LinkedDraws, Pairs, QueuesLinked, ReadyLinked, Replied, RepliesLinked, ReplyCameBack, TicketLinked, TicketsLinked, WordsApart, key_in_reply}
use Rattle.world_run.proofs.Laters.{KeysLater, LaterAt, draw-later, later-opened, later-settled, opens-later, then-later}
use Rattle.world_run.proofs.Members.{in-more, numbered-in, numbered-more, numbered-within, some-is}
use Rattle.world_run.proofs.PairLemmas.{drop-as-many, first-once, in-drop, pairs-drop, pairs-long, pairs-then, pairs-with, rising-drop}
use Rattle.world_run.proofs.QueueLaters.{Shrinks, none-shrinks}
use Rattle.world_run.proofs.RowLemmas.{InPlace, in-place}
use Rattle.world_run.proofs.RowsAfter.{files-opened, rows-after}
use Rattle.world_run.proofs.ServiceLaters.{ServiceLater, StateLater}
use Rattle.world_run.proofs.VersionLemmas.{below-later, versions-later}

-- the world is linked again, and draws that were apart still are
abbrev pub StaysLinked : Hidden → WorldState → Hidden → Type 0
StaysLinked h w h' = LinkedDraws w h' × (WordsApart h → WordsApart h')

-- the world is linked with what is hidden after an event that only takes ready keys out of queues, and draws words
abbrev pub StillLinked : WorldState → Hidden → ℕ → WorldState → Type 0
StillLinked w h drawn w' = LinkedDraws w' (moved_on w.keys.keys.ready.queues w'.keys.keys.ready.queues drawn h)

-- draws of which fewer are left

pub draws-fewer : (h g : Hidden) (IsBirth IsLater : ℕ → Type 0) → ((d : Draw) → IsDrawn g d → IsDrawn h d) → h.place ≤ g.place → ((b : ℕ) → IsBirth b → IsLater b) → DrawsFit h IsBirth → DrawsFit g IsLater
draws-fewer h g IsBirth IsLater was on later f =
    record {
      below = λ d i. let t = f.below d (was d i) in omega (arith, t, on);
      one_place = λ d e i j. f.one_place d e (was d i) (was e j);
      born = λ d i. later d.birth (f.born d (was d i));
      recent = λ d i. f.recent d (was d i);
    }

pub draws-later : (h : Hidden) (IsBirth IsLater : ℕ → Type 0) → ((b : ℕ) → IsBirth b → IsLater b) → DrawsFit h IsBirth → DrawsFit h IsLater
draws-later h IsBirth IsLater later f = draws-fewer h h IsBirth IsLater (λ d i. i) (omega arith) later f

-- the draws of entries are left after the queues and the replies are lost
pub drawn-past : (h : Hidden) (d : Draw) → IsDrawn (drawn_before (past_of h)) d → IsDrawn h d
drawn-past h d (inl i) = inl i
drawn-past h d (inr (inl none)) = absurd none
drawn-past h d (inr (inr (birth, none))) = absurd none

pub apart-fewer : (h g : Hidden) → ((d : Draw) → IsDrawn g d → IsDrawn h d) → h.place ≤ g.place → WordsApart h → WordsApart g
apart-fewer h g was on f = record { taken = λ d i. let t = f.taken d (was d i) in omega (arith, t, on); apart = λ d e i j. f.apart d e (was d i) (was e j) }

-- queues that lose their oldest draws

pub drawn-moved : (before after : List Queue) (drawn : ℕ) (h : Hidden) (d : Draw) → IsDrawn (moved_on before after drawn h) d → IsDrawn h d
drawn-moved before after drawn h d (inl i) = inl i
drawn-moved before after drawn h d (inr (inl i)) = inr (inl i)
drawn-moved before after drawn h d (inr (inr (birth, i))) = inr (inr (birth, in-drop (length (ready_in before birth) - length (ready_in after birth)) d (h.queued birth) i))

pub apart-moved : (before after : List Queue) (drawn : ℕ) (h : Hidden) → WordsApart h → WordsApart (moved_on before after drawn h)
apart-moved before after drawn h f = apart-fewer h (moved_on before after drawn h) (drawn-moved before after drawn h) (omega arith) f

draws-moved : (before after : List Queue) (drawn : ℕ) (h : Hidden) (IsBirth IsLater : ℕ → Type 0) → ((b : ℕ) → IsBirth b → IsLater b) → DrawsFit h IsBirth → DrawsFit (moved_on before after drawn h) IsLater
draws-moved before after drawn h IsBirth IsLater later f = draws-fewer h (moved_on before after drawn h) IsBirth IsLater (drawn-moved before after drawn h) (omega arith) later f

-- the queues are the same
moved-same : (qs : List Queue) (drawn : ℕ) (h : Hidden) → moved_on qs qs drawn h ≡ behind_words drawn h
moved-same qs drawn h = λ i. record (behind_words drawn h) { queued = λ birth. same birth i }
  where
    none : (n : ℕ) → n - n ≡ 0
    none n = omega arith

    same : (birth : ℕ) → left_in qs qs h.queued birth ≡ h.queued birth
    same birth = ap (λ n. drop n (h.queued birth)) (none (length (ready_in qs birth)))

-- the draws that are left are those of the ready keys that are left
pub left-is : (P : Edek → Draw → Type 0) (before after : List Queue) (queued : ℕ → List Draw) (birth n : ℕ) → ready_in after birth ≡ drop n (ready_in before birth) → Pairs P (ready_in before birth) (queued birth)
    → left_in before after queued birth ≡ drop n (queued birth)
left-is P before after queued birth n is pairs =
    ap (λ (ready : List Edek). drop (length (ready_in before birth) - length ready) (queued birth)) is
    ∙ drop-as-many n (ready_in before birth) (queued birth) (pairs-long P (ready_in before birth) (queued birth) pairs)

ready-later : (olds rows : List KeyRow) (birth : ℕ) (e : Edek) (d : Draw) → LaterAt olds rows d.birth → ReadyLinked olds birth e d → ReadyLinked rows birth e d
ready-later olds rows birth e d later r = record { of_birth = r.of_birth; of_version = r.of_version; of_iv = r.of_iv; opens = opens-later olds rows d e later r.opens }

queues-moved : (h : Hidden) (IsBirth : ℕ → Type 0) (olds rows : List KeyRow) (before after : List Queue) (drawn : ℕ) → DrawsFit h IsBirth → ((b : ℕ) → IsBirth b → LaterAt olds rows b) → Shrinks before after
    → (AllReady olds before → AllReady rows after) → QueuesLinked olds before h → QueuesLinked rows after (moved_on before after drawn h)
queues-moved h IsBirth olds rows before after drawn f later shrinks current q =
    record {
      current = current q.current;
      opens = λ birth. subst (λ (ready : List Edek). Pairs (ReadyLinked rows birth) ready (left birth)) (sym (shrinks birth).1)
          (subst (λ (ds : List Draw). Pairs (ReadyLinked rows birth) (drop (shrinks birth).0 (ready_in before birth)) ds) (sym (left-by birth))
          (pairs-drop (ReadyLinked rows birth) (shrinks birth).0 (ready_in before birth) (h.queued birth)
          (pairs-then (ReadyLinked olds birth) (ReadyLinked rows birth) (ready_in before birth) (h.queued birth) (λ e d i r. ready-later olds rows birth e d (later d.birth (f.born d (inr (inr (birth, i))))) r) (q.opens birth))));
      rising = λ birth. rising-drop (length (ready_in before birth) - length (ready_in after birth)) (h.queued birth) (q.rising birth);
      not_replied = λ birth d i. q.not_replied birth d (was birth d i);
      not_entered = λ birth id d i. q.not_entered birth id d (was birth d i);
    }
  where
    left : ℕ → List Draw
    left = left_in before after h.queued

    left-by : (birth : ℕ) → left birth ≡ drop (shrinks birth).0 (h.queued birth)
    left-by birth = left-is (ReadyLinked olds birth) before after h.queued birth (shrinks birth).0 (shrinks birth).1 (q.opens birth)

    was : (birth : ℕ) (d : Draw) → In d (left birth) → In d (h.queued birth)
    was birth d i = in-drop (length (ready_in before birth) - length (ready_in after birth)) d (h.queued birth) i

-- keys that change, and words that are drawn

has-later : (h : Hidden) (IsBirth : ℕ → Type 0) (olds keys : List KeyRow) (id : ℕ) (e : Edek) → DrawsFit h IsBirth → ((b : ℕ) → IsBirth b → LaterAt olds keys b) → HasDraw h.ledger olds id e → HasDraw h.ledger keys id e
has-later h IsBirth olds keys id e draws later d =
    record { draw = d.draw; entered = d.entered; of_key = d.of_key; carries = d.carries; opens = opens-later olds keys d.draw e (later d.draw.birth (draws.born d.draw (inl (id, d.entered)))) d.opens }

pub files-later : (h : Hidden) (IsBirth : ℕ → Type 0) (olds keys : List KeyRow) (names : NameTable) → DrawsFit h IsBirth → ((b : ℕ) → IsBirth b → LaterAt olds keys b) → FilesLinked h.ledger olds names → FilesLinked h.ledger keys names
files-later h IsBirth olds keys names draws later f =
    record { files = λ row e i is. has-later h IsBirth olds keys row.id e draws later (f.files row e i is); zones = f.zones; statuses = f.statuses; distinct = f.distinct }

back-later : (h : Hidden) (IsBirth : ℕ → Type 0) (olds keys : List KeyRow) (note : BatchNote) (result : BatchResult) → DrawsFit h IsBirth → ((b : ℕ) → IsBirth b → LaterAt olds keys b)
    → KeysCameBack h.ledger olds note result → KeysCameBack h.ledger keys note result
back-later h IsBirth olds keys note batch_result.Refused draws later back = tt
back-later h IsBirth olds keys note (batch_result.Ready edeks) draws later back = λ place x e sent got.
    let was = back place x e sent got in
    record {
      came = record { of_key = was.came.of_key; has = has-later h IsBirth olds keys x.id e draws later was.came.has };
      of_session = was.of_session;
      not_below = below-later h IsBirth olds keys note.session e draws later was.not_below;
    }

reply-later : (h : Hidden) (IsBirth : ℕ → Type 0) (olds keys : List KeyRow) (r : KeptReply) → DrawsFit h IsBirth → ((b : ℕ) → IsBirth b → LaterAt olds keys b) → ReplyCameBack h.ledger olds r → ReplyCameBack h.ledger keys r
reply-later h IsBirth olds keys (ToAsk id answer) draws later back = tt
reply-later h IsBirth olds keys (ToBatch reply) draws later back = (back.0, back-later h IsBirth olds keys reply.note reply.result draws later back.1)

batches-later : (h : Hidden) (IsBirth : ℕ → Type 0) (olds keys : List KeyRow) (kept : Kept) → DrawsFit h IsBirth → ((b : ℕ) → IsBirth b → LaterAt olds keys b) → BatchesLinked h.ledger olds kept → BatchesLinked h.ledger keys kept
batches-later h IsBirth olds keys kept draws later l =
    record {
      sent = λ batch x i j. has-later h IsBirth olds keys x.id x.edek draws later (l.sent batch x i j);
      sessions = l.sessions;
      back = λ r i. reply-later h IsBirth olds keys r draws later (l.back r i);
    }

replies-later : (h : Hidden) (IsBirth : ℕ → Type 0) (olds keys : List KeyRow) (replies : List KeptReply) → DrawsFit h IsBirth → ((b : ℕ) → IsBirth b → LaterAt olds keys b)
    → RepliesLinked olds replies h.replied → RepliesLinked keys replies h.replied
replies-later h IsBirth olds keys replies draws later l =
    record {
      as_many = l.as_many;
      keys_open = λ r o at. draw-later olds keys (key_in_reply r) o
          (λ d is. later d.birth (draws.born d (inr (inl (subst (λ (q : Option Draw). In q h.replied) is (numbered-in h.replied at.0 o at.2)))))) (l.keys_open r o at);
      one_reply = l.one_reply;
    }

tickets-later : (t u : Table) (before after : List Queue) (tickets : List Ticket) → StateLater t u before after → TicketsLinked t before tickets → TicketsLinked u after tickets
tickets-later t u before after tickets later linked ticket i =
    record {
      opened = omega (arith, was.opened, later.keys.opening);
      born = later.keys.births ticket.birth was.born;
      recent = was.recent;
      of_key = λ row j birth.
          let old = later.keys.rows ticket.birth was.born row j birth in
          let of_old = was.of_key old.0 old.1 old.2 in
          (old.3.named ∙ of_old.0, old.3.has ticket.version.number ticket.material of_old.1);
      waits = λ row j birth now.
          let first = was.opened in
          let next = later.keys.opening in
          let old = later.keys.rows ticket.birth was.born row j birth in
          let has : has_queue before ticket.birth ≡ true = was.waits old.0 old.1 old.2 (omega (arith, now, first, next)) in
          subst (λ (b : ℕ). has_queue after b ≡ true) birth
          (later.stays (omega (arith, now, first, next)) row j (subst (IsOldBirth t) (sym birth) was.born) (subst (λ (b : ℕ). has_queue before b ≡ true) (sym birth) has));
    }
  where
    was : TicketLinked t before ticket
    was = linked ticket i

pub linked-keys : (w : WorldState) (h : Hidden) (keys : ServiceState) (drawn : ℕ) → ServiceLater w.keys keys → LinkedDraws w h → StillLinked w h drawn (record w { keys = keys })
linked-keys w h keys drawn later l =
    let IsBirth : ℕ → Type 0 = IsOldBirth w.keys.keys.table in
    let olds : List KeyRow = w.keys.keys.table.rows in
    let rows : List KeyRow = keys.keys.table.rows in
    let before : List Queue = w.keys.keys.ready.queues in
    let after : List Queue = keys.keys.ready.queues in
    record {
      files = λ kept. files-later h IsBirth olds rows (settled_names kept w.names).table l.draws later.keys.rows (l.files kept);
      replies = replies-later h IsBirth olds rows w.kept.replies l.draws later.keys.rows l.replies;
      draws = draws-moved before after drawn h IsBirth (IsOldBirth keys.keys.table) later.keys.births l.draws;
      ledger = l.ledger;
      queues = queues-moved h IsBirth olds rows before after drawn l.draws later.keys.rows later.shrinks later.current l.queues;
      tickets = tickets-later w.keys.keys.table keys.keys.table before after w.kept.tickets later l.tickets;
      batches = batches-later h IsBirth olds rows w.kept l.draws later.keys.rows l.batches;
      versions = versions-later h IsBirth olds rows l.draws later.keys.rows l.versions;
    }

-- words are drawn, and the queues are the same
linked-words : (w : WorldState) (h : Hidden) (drawn : ℕ) → LinkedDraws w h → LinkedDraws w (behind_words drawn h)
linked-words w h drawn l =
    record {
      files = l.files;
      replies = l.replies;
      draws = record { below = λ x i. let t = l.draws.below x i in omega (arith, t); one_place = l.draws.one_place; born = l.draws.born; recent = l.draws.recent };
      ledger = l.ledger;
      queues = record { opens = l.queues.opens; current = l.queues.current; rising = l.queues.rising; not_replied = l.queues.not_replied; not_entered = l.queues.not_entered };
      tickets = l.tickets;
      batches = l.batches;
      versions = l.versions;
    }

pub linked-still : (w : WorldState) (h : Hidden) (drawn : ℕ) → LinkedDraws w h → StillLinked w h drawn w
linked-still w h drawn l = subst (LinkedDraws w) (sym (moved-same w.keys.keys.ready.queues drawn h)) (linked-words w h drawn l)

-- the keys that a start finds, with the pending command kept or dropped
pub linked-restart : (w : WorldState) (h : Hidden) (drawn : ℕ) (kept : Bool) (table : Table) → table ≡ (settled kept w.keys).table → IsService w.keys → LinkedDraws w h
    → StillLinked w h drawn (record w { keys = service_after_opening w.keys.keys.ready table })
linked-restart w h drawn kept table is fit l =
    let then : ServiceState = service_after_opening w.keys.keys.ready table in
    let found : KeysLater w.keys.keys.table table = subst (KeysLater w.keys.keys.table) (sym is) (later-settled kept w.keys fit) in
    linked-keys w h then drawn (record {
      keys = then-later w.keys.keys.table table then.keys.table found (later-opened w.keys.keys.ready table);
      shrinks = none-shrinks w.keys.keys.ready.queues;
      current = λ each. tt;
      stays = λ same row i old has. let on = found.opening in absurd (omega (arith, same, on));
    }) l

-- another namesystem

-- the rows are in place after the pending operation was settled
pub rows-settled : (kept : Bool) (s : NameService) → IsNames s → InPlace (settled_names kept s).table.rows
rows-settled kept s fit = go kept s.pending fit.waits
  where
    go : (b : Bool) (o : Option EditOp) → IfSome o (IsWaiting s.names) → InPlace (settled_table b o s.names.table).rows
    go b None waits = in-place s.names.table.rows fit.table.rules
    go true (Some op) waits = rows-after s.names.table op (in-place s.names.table.rows fit.table.rules) waits.pending.allowed
    go false (Some op) waits = in-place s.names.table.rows fit.table.rules

-- and the statuses fit them
pub statuses-settled : (kept : Bool) (s : NameService) → IsNames s → StatusesFit (settled_names kept s).table.rows (settled_names kept s).table.statuses
statuses-settled kept s fit = go kept s.pending fit.waits
  where
    go : (b : Bool) (o : Option EditOp) → IfSome o (IsWaiting s.names) → StatusesFit (settled_table b o s.names.table).rows (settled_table b o s.names.table).statuses
    go b None waits = fit.table.statuses
    go true (Some op) waits = (fit-of s.names.table s.names.table op op refl refl fit.table waits.pending.allowed).1
    go false (Some op) waits = fit.table.statuses

-- the opening is the same after an operation that is not an opening
same-opening : (t : NameTable) (op : EditOp) → is_opening op ≡ false → (after_table t op).opening ≡ t.opening
same-opening t (Opened opening) h = absurd cc
same-opening t (Mkdir id p) h = refl
same-opening t (File id p edek) h = refl
same-opening t (Remove p) h = refl
same-opening t (Rename p q) h = refl
same-opening t (Zone p key) h = refl
same-opening t (Allow p) h = refl
same-opening t (Disallow p) h = refl
same-opening t (Snap p name) h = refl
same-opening t (Unsnap p name) h = refl
same-opening t (Submit session p noted) h = refl
same-opening t (Update session failed mark files) h = refl
same-opening t (Cancel session) h = refl
same-opening t (Complete session) h = refl

-- the next id after an operation that is not an opening
pub next-after : (s : NameState) (op : EditOp) → is_opening op ≡ false → next_id (record s { table = after_table s.table op }) ≡ next_id s
next-after s op h = ap (λ (n : ℕ). n * 2 ^ 32 + s.next) (same-opening s.table op h)

-- and after the pending operation was settled
pub opening-settled : (kept : Bool) (s : NameService) → IsNames s → (settled_names kept s).table.opening ≡ s.names.table.opening
opening-settled kept s fit = go kept s.pending fit.waits
  where
    go : (b : Bool) (o : Option EditOp) → IfSome o (IsWaiting s.names) → (settled_table b o s.names.table).opening ≡ s.names.table.opening
    go b None waits = refl
    go true (Some op) waits = same-opening s.names.table op waits.pending.no_opening
    go false (Some op) waits = refl

-- the next id of a settled namesystem
pub next-settled : (kept : Bool) (s : NameService) → IsNames s → next_id (settled_names kept s) ≡ next_id s.names
next-settled kept s fit = ap (λ (n : ℕ). n * 2 ^ 32 + s.names.next) (opening-settled kept s fit)

pub ledger-more : (ledger : Ledger) (replies : List KeptReply) (replied : List (Option Draw)) (asks : List OpenAsk) (next more : ℕ) → next ≤ more
    → LedgerFits ledger replies replied asks next → LedgerFits ledger replies replied asks more
ledger-more ledger replies replied asks next more over f =
    record { one_draw = f.one_draw; one_file = f.one_file; below = λ id d i. let h = f.below id d i in omega (arith, h, over); recent = f.recent; not_open = f.not_open; its_ask = f.its_ask }

pub linked-names : (w : WorldState) (h : Hidden) (names : NameService) → ((kept : Bool) → FilesLinked h.ledger w.keys.keys.table.rows (settled_names kept names).table)
    → LedgerFits h.ledger w.kept.replies h.replied names.names.asks (next_id names.names) → LinkedDraws w h → LinkedDraws (record w { names = names }) h
linked-names w h names files fits l = record { files = files; replies = l.replies; draws = l.draws; ledger = fits; queues = l.queues; tickets = l.tickets; batches = l.batches; versions = l.versions }

-- the one that a start finds, with the pending operation kept or dropped
pub linked-reopened : (w : WorldState) (h : Hidden) (kept : Bool) (table : NameTable) → table ≡ (settled_names kept w.names).table → IsNames w.names → LinkedDraws w h → LinkedDraws (record w { names = started w.names.names.batch table }) h
linked-reopened w h kept table is fit l =
    linked-names w h (started w.names.names.batch table) (λ again. files-opened h.ledger w.keys.keys.table.rows table (table.opening + 1) (subst (FilesLinked h.ledger w.keys.keys.table.rows) (sym is) (l.files kept))) (
    record {
      one_draw = l.ledger.one_draw;
      one_file = l.ledger.one_file;
      below = λ id d i.
          let low = l.ledger.below id d i in
          let few = fit.few in
          later id w.names.names.table.opening table.opening w.names.names.next low few (ap (λ (t : NameTable). t.opening) is ∙ opening-settled kept w.names fit);
      recent = l.ledger.recent;
      not_open = λ a d i j. absurd i;
      its_ask = l.ledger.its_ask;
    }) l
  where
    later : (id old new next : ℕ) → id < old * 2 ^ 32 + next → next ≤ 2 ^ 32 → new ≡ old → id < (new + 1) * 2 ^ 32 + 1
    later id old new next low few same = omega (arith, low, few, same)

-- an ask that was accepted, with its note

asks-more : (ledger : Ledger) (replies : List KeptReply) (replied : List (Option Draw)) (asks : List OpenAsk) (q : OpenAsk) (next : ℕ) → q.id ≡ next
    → LedgerFits ledger replies replied asks next → LedgerFits ledger replies replied (asks ++ q ∷ []) (next + 1)
asks-more ledger replies replied asks q next new f =
    record {
      one_draw = f.one_draw;
      one_file = f.one_file;
      below = λ id d i. let h = f.below id d i in omega (arith, h);
      recent = f.recent;
      not_open = λ a d i k. elim (in-more a q asks i) [
        | inl old ↦ f.not_open a d old k
        | inr is ↦ let h = f.below a.id d k in absurd (omega (arith, h, new, ap (λ (b : OpenAsk). b.id) is))
      ];
      its_ask = f.its_ask;
    }

pub linked-ask : (w : WorldState) (h : Hidden) (q : OpenAsk) (names : NameState) → names.table ≡ w.names.names.table → names.asks ≡ w.names.names.asks ++ q ∷ [] → next_id names ≡ next_id w.names.names + 1
    → q.id ≡ next_id w.names.names → LinkedDraws w h → LinkedDraws (with_note (record { id = q.id; want = q.want }) (record w { names = record w.names { names = names } })) h
linked-ask w h q names table asks next new l =
    record {
      files = λ kept. subst (λ (t : NameTable). FilesLinked h.ledger w.keys.keys.table.rows (settled_table kept w.names.pending t)) (sym table) (l.files kept);
      replies = l.replies;
      draws = l.draws;
      ledger = subst (λ (open_asks : List OpenAsk). LedgerFits h.ledger w.kept.replies h.replied open_asks (next_id names)) (sym asks)
          (subst (λ (m : ℕ). LedgerFits h.ledger w.kept.replies h.replied (w.names.names.asks ++ q ∷ []) m) (sym next)
          (asks-more h.ledger w.kept.replies h.replied w.names.names.asks q (next_id w.names.names) new l.ledger));
      queues = l.queues;
      tickets = l.tickets;
      batches = record { sent = l.batches.sent; sessions = l.batches.sessions; back = l.batches.back };
      versions = l.versions;
    }

-- a new draw, and a draw that leaves its queue

-- No kept reply, no entry and no queue has the draw, if these draws are left in the queues, and its words come before this place.
pub record IsFree (h : Hidden) (left : ℕ → List Draw) (place : ℕ) (d : Draw) : Type 0 where
  pub below : d.place < place
  pub one_place : (f : Draw) → IsDrawn h f → d.place ≡ f.place → d ≡ f
  pub not_replied : In (Some d) h.replied → ⊥
  pub not_entered : (id : ℕ) → In (id, d) h.ledger → ⊥
  pub not_queued : (birth : ℕ) → In d (left birth) → ⊥
  pub taken : WordsApart h → d.place + words_of_draw (length d.dek) ≤ place
  pub apart : WordsApart h → (f : Draw) → IsDrawn h f → (d ≡ f) ⊎ Apart d f

-- of words that were not drawn before
pub new-free : (h : Hidden) (IsBirth : ℕ → Type 0) (left : ℕ → List Draw) (place : ℕ) (d : Draw) → DrawsFit h IsBirth → ((birth : ℕ) (f : Draw) → In f (left birth) → In f (h.queued birth)) → h.place ≤ d.place
    → d.place + words_of_draw (length d.dek) ≤ place → IsFree h left place d
new-free h IsBirth left place d f was begins ends =
    record {
      below = omega (arith, ends);
      one_place = λ g i same. let low = f.below g i in absurd (omega (arith, low, begins, same));
      not_replied = λ i. new (inr (inl i));
      not_entered = λ id i. new (inl (id, i));
      not_queued = λ birth i. new (inr (inr (birth, was birth d i)));
      taken = λ apart. ends;
      apart = λ apart g i. let low = apart.taken g i in inr (inr (omega (arith, low, begins)));
    }
  where
    new : IsDrawn h d → ⊥
    new i = let low = f.below d i in omega (arith, low, begins)

-- the first of a queue that loses it
pub first-free : (h : Hidden) (IsBirth : ℕ → Type 0) (rows : List KeyRow) (queues : List Queue) (left : ℕ → List Draw) (place birth : ℕ) (d : Draw) (rest : List Draw) → DrawsFit h IsBirth → QueuesLinked rows queues h
    → ((b : ℕ) (f : Draw) → In f (left b) → In f (h.queued b)) → h.queued birth ≡ d ∷ rest → left birth ≡ rest → h.place ≤ place → IsFree h left place d
first-free h IsBirth rows queues left place birth d rest f q was begun loses on =
    record {
      below = let low = f.below d drew in omega (arith, low, on);
      one_place = λ g i same. f.one_place d g drew i same;
      not_replied = λ i. q.not_replied birth d here i;
      not_entered = λ id i. q.not_entered birth id d here i;
      not_queued = λ b i.
          let same : b ≡ birth = sym (of_birth b (was b d i)) ∙ of_birth birth here in
          first-once d rest (subst AreDrawsRising begun (q.rising birth)) (subst (λ (ds : List Draw). In d ds) (ap left same ∙ loses) i);
      taken = λ apart. let low = apart.taken d drew in omega (arith, low, on);
      apart = λ apart g i. apart.apart d g drew i;
    }
  where
    here : In d (h.queued birth)
    here = subst (λ (ds : List Draw). In d ds) (sym begun) (inl refl)

    drew : IsDrawn h d
    drew = inr (inr (birth, here))

    of_birth : (b : ℕ) → In d (h.queued b) → d.birth ≡ b
    of_birth b i = (pairs-with (ReadyLinked rows b) (ready_in queues b) (h.queued b) d (q.opens b) i).1.of_birth

-- draws among which one more may be, which is free

pub draws-with : (h g : Hidden) (left : ℕ → List Draw) (IsBirth IsLater : ℕ → Type 0) (IsMore : Draw → Type 0) → ((d : Draw) → IsDrawn g d → IsDrawn h d ⊎ IsMore d) → ((d f : Draw) → IsMore d → IsMore f → d ≡ f)
    → ((d : Draw) → IsMore d → IsFree h left g.place d) → h.place ≤ g.place → ((b : ℕ) → IsBirth b → IsLater b) → ((d : Draw) → IsMore d → IsLater d.birth) → ((d : Draw) → IsMore d → 2 ^ 32 ≤ d.birth)
    → DrawsFit h IsBirth → DrawsFit g IsLater
draws-with h g left IsBirth IsLater IsMore was once free on later born_more recent_more f =
    record {
      below = λ d i. elim (was d i) [ inl old ↦ let t = f.below d old in omega (arith, t, on) | inr more ↦ (free d more).below ];
      one_place = λ d e i j same. elim (was d i) [
        | inl old ↦ elim (was e j) [ inl other ↦ f.one_place d e old other same | inr more ↦ sym ((free e more).one_place d old (sym same)) ]
        | inr mine ↦ elim (was e j) [ inl other ↦ (free d mine).one_place e other same | inr more ↦ once d e mine more ]
      ];
      born = λ d i. elim (was d i) [ inl old ↦ later d.birth (f.born d old) | inr more ↦ born_more d more ];
      recent = λ d i. elim (was d i) [ inl old ↦ f.recent d old | inr more ↦ recent_more d more ];
    }

-- the same two draws the other way round
turned : (d f : Draw) → (d ≡ f) ⊎ Apart d f → (f ≡ d) ⊎ Apart f d
turned d f (inl same) = inl (sym same)
turned d f (inr (inl first)) = inr (inr first)
turned d f (inr (inr later)) = inr (inl later)

pub apart-with : (h g : Hidden) (left : ℕ → List Draw) (IsMore : Draw → Type 0) → ((d : Draw) → IsDrawn g d → IsDrawn h d ⊎ IsMore d) → ((d f : Draw) → IsMore d → IsMore f → d ≡ f)
    → ((d : Draw) → IsMore d → IsFree h left g.place d) → h.place ≤ g.place → WordsApart h → WordsApart g
apart-with h g left IsMore was once free on f =
    record {
      taken = λ d i. elim (was d i) [ inl old ↦ let t = f.taken d old in omega (arith, t, on) | inr more ↦ (free d more).taken f ];
      apart = λ d e i j. elim (was d i) [
        | inl old ↦ elim (was e j) [ inl other ↦ f.apart d e old other | inr more ↦ turned e d ((free e more).apart f d old) ]
        | inr mine ↦ elim (was e j) [ inl other ↦ (free d mine).apart f e other | inr more ↦ inl (once d e mine more) ]
      ];
    }

-- a reply that is kept, with its draw

pub record NewReply (h : Hidden) (left : ℕ → List Draw) (place : ℕ) (keys : Table) (r : KeptReply) (o : Option Draw) : Type 0 where
  pub opens : KeyLinked keys.rows (key_in_reply r) o
  pub free : (d : Draw) → o ≡ Some d → IsFree h left place d
  pub born : (d : Draw) → o ≡ Some d → IsOldBirth keys d.birth
  pub recent : (d : Draw) → o ≡ Some d → 2 ^ 32 ≤ d.birth
  pub back : ReplyCameBack h.ledger keys.rows r

abbrev pub AfterReply : Hidden → List Queue → List Queue → ℕ → Option Draw → Hidden
AfterReply h before after drawn o = record (moved_on before after drawn h) { replied = h.replied ++ o ∷ [] }

-- a reply and its draw under one number, in both lists with one more
replied-before : (replies : List KeptReply) (replied : List (Option Draw)) (r : KeptReply) (o : Option Draw) (q : KeptReply) (p : Option Draw) → length replied ≡ length replies
    → Replied (replies ++ r ∷ []) (replied ++ o ∷ []) q p → Replied replies replied q p ⊎ ((q ≡ r) × (p ≡ o))
replied-before replies replied r o q p many at =
    elim (numbered-more replies r at.0 q at.1) [
      | inl old ↦ elim (numbered-more replied o at.0 p at.2) [
        | inl other ↦ inl (at.0, old, other)
        | inr is ↦ absurd (numbered-within replies at.0 q old (omega (arith, is.0, many)))
      ]
      | inr mine ↦ elim (numbered-more replied o at.0 p at.2) [
        | inl other ↦ absurd (numbered-within replied at.0 p other (omega (arith, mine.0, many)))
        | inr is ↦ inr (mine.1, is.1)
      ]
    ]

module _ (w : WorldState) (h : Hidden) (keys : ServiceState) (drawn : ℕ) (r : KeptReply) (o : Option Draw) (later : ServiceLater w.keys keys)
    (n : NewReply h (left_in w.keys.keys.ready.queues keys.keys.ready.queues h.queued) (h.place + drawn) keys.keys.table r o) where
  abbrev old_queues : List Queue
  old_queues = w.keys.keys.ready.queues

  abbrev new_queues : List Queue
  new_queues = keys.keys.ready.queues

  was-drawn : (d : Draw) → IsDrawn (AfterReply h old_queues new_queues drawn o) d → IsDrawn h d ⊎ (o ≡ Some d)
  was-drawn d (inl i) = inl (inl i)
  was-drawn d (inr (inl i)) = elim (in-more (Some d) o h.replied i) [ inl old ↦ inl (inr (inl old)) | inr is ↦ inr (sym is) ]
  was-drawn d (inr (inr i)) = inl (drawn-moved old_queues new_queues drawn h d (inr (inr i)))

  once : (d f : Draw) → o ≡ Some d → o ≡ Some f → d ≡ f
  once d f is other = some-is d f (sym is ∙ other)

  -- its words are apart from those of the others
  pub apart-reply : WordsApart h → WordsApart (AfterReply h old_queues new_queues drawn o)
  apart-reply f = apart-with h (AfterReply h old_queues new_queues drawn o) (left_in old_queues new_queues h.queued) (λ d. o ≡ Some d) was-drawn once n.free (omega arith) f

  replies-reply : RepliesLinked keys.keys.table.rows w.kept.replies h.replied → RepliesLinked keys.keys.table.rows (w.kept.replies ++ r ∷ []) (h.replied ++ o ∷ [])
  replies-reply l =
      record {
        as_many = omega (arith, length-append h.replied (o ∷ []), length-append w.kept.replies (r ∷ []), l.as_many);
        keys_open = λ q p at. elim (replied-before w.kept.replies h.replied r o q p l.as_many at) [
          | inl old ↦ l.keys_open q p old
          | inr is ↦ subst (λ (x : KeptReply). KeyLinked keys.keys.table.rows (key_in_reply x) p) (sym is.0) (subst (λ (x : Option Draw). KeyLinked keys.keys.table.rows (key_in_reply r) x) (sym is.1) n.opens)
        ];
        one_reply = λ i j d at other_at. elim (numbered-more h.replied o i (Some d) at) [
          | inl old ↦ elim (numbered-more h.replied o j (Some d) other_at) [
            | inl other ↦ l.one_reply i j d old other
            | inr is ↦ absurd ((n.free d (sym is.1)).not_replied (numbered-in h.replied i (Some d) old))
          ]
          | inr mine ↦ elim (numbered-more h.replied o j (Some d) other_at) [
            | inl other ↦ absurd ((n.free d (sym mine.1)).not_replied (numbered-in h.replied j (Some d) other))
            | inr is ↦ mine.0 ∙ sym is.0
          ]
        ];
      }

  ledger-reply : RepliesLinked w.keys.keys.table.rows w.kept.replies h.replied → LedgerFits h.ledger w.kept.replies h.replied w.names.names.asks (next_id w.names.names)
      → LedgerFits h.ledger (w.kept.replies ++ r ∷ []) (h.replied ++ o ∷ []) w.names.names.asks (next_id w.names.names)
  ledger-reply l g =
      record {
        one_draw = g.one_draw;
        one_file = g.one_file;
        below = g.below;
        recent = g.recent;
        not_open = g.not_open;
        its_ask = λ id q d i at. elim (replied-before w.kept.replies h.replied r o q (Some d) l.as_many at) [
          | inl old ↦ g.its_ask id q d i old
          | inr is ↦ absurd ((n.free d (sym is.1)).not_entered id i)
        ];
      }

  queues-reply : QueuesLinked keys.keys.table.rows new_queues (moved_on old_queues new_queues drawn h) → QueuesLinked keys.keys.table.rows new_queues (AfterReply h old_queues new_queues drawn o)
  queues-reply q =
      record {
        opens = q.opens;
        current = q.current;
        rising = q.rising;
        not_replied = λ birth d i j. elim (in-more (Some d) o h.replied j) [ inl old ↦ q.not_replied birth d i old | inr is ↦ (n.free d (sym is)).not_queued birth i ];
        not_entered = q.not_entered;
      }

  pub linked-reply : LinkedDraws w h → LinkedDraws (with_reply r (record w { keys = keys })) (AfterReply h old_queues new_queues drawn o)
  linked-reply l =
      let m = linked-keys w h keys drawn later l in
      record {
        files = m.files;
        replies = replies-reply m.replies;
        draws = draws-with h (AfterReply h old_queues new_queues drawn o) (left_in old_queues new_queues h.queued) (IsOldBirth w.keys.keys.table) (IsOldBirth keys.keys.table) (λ d. o ≡ Some d) was-drawn once n.free (omega arith) later.keys.births n.born n.recent l.draws;
        ledger = ledger-reply l.replies l.ledger;
        queues = queues-reply m.queues;
        tickets = m.tickets;
        batches = record {
          sent = m.batches.sent;
          sessions = m.batches.sessions;
          back = λ q i. elim (in-more q r w.kept.replies i) [ inl old ↦ m.batches.back q old | inr is ↦ subst (ReplyCameBack h.ledger keys.keys.table.rows) (sym is) n.back ];
        };
        versions = m.versions;
      }
