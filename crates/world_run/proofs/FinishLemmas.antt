-- The ledger of draws, and the files, after a finish.
use Rattle.std.proofs.Common.{◌≡◌, ◌⊎◌, inl, inr, ℕ, ◌≤◌, ◌^◌, ◌*◌, ◌<◌, Bool, true, false, cond, List, [], ◌∷◌, ◌++◌, Option, Some, None, is_none, refl, sym, ap, subst, ◌∙◌, arith}
use Rattle.std.specs.Prelude.{◌==◌}
use Rattle.std.proofs.lemmas.List.{append-nil}
use Rattle.std.proofs.lemmas.Bool.{eqb-true, eq-eqb, not-false}
use Rattle.hk_base.specs.declared.names.Edek.{Edek}
use Rattle.hk_base.specs.declared.names.VersionName.{VersionName}
use Rattle.eek_queues.specs.Queues.{Queue}
use Rattle.key_rows.specs.declared.rows.KeyRow.{KeyRow}
use Rattle.hk_base.specs.declared.names.KeyName.{KeyName}
use Rattle.inode_tree.specs.Rows.{Entry}
use Rattle.name_calls.specs.declared.paths.NPath.{NPath}
use Rattle.name_store.specs.Table.{NameTable, fits_zone, key_of_zone}
use Rattle.name_core.specs.declared.asks.OpenAsk.{OpenAsk}
use Rattle.name_calls.specs.declared.calls.Ask.{Ask}
use Rattle.name_calls.specs.declared.calls.Ask.TheVariants as ask
use Rattle.name_calls.specs.declared.calls.KeyAnswer.{KeyAnswer}
use Rattle.name_calls.specs.declared.calls.NameRefusal.{NameRefusal}
use Rattle.name_calls.specs.declared.calls.NameRefusal.TheVariants as refusal
use Rattle.name_core.specs.Asks.{finish_causes, finish_op, is_other_key, is_other_zone, open_ask, without}
use Rattle.name_core.specs.Calls.{first_cause, make_causes, path_causes}
use Rattle.name_store.specs.Causes.{directory_causes, id_at, mark_at, row_causes, zone_causes, zone_root_causes}
use Rattle.zone_table.specs.declared.statuses.StatusRow.{StatusRow}
use Rattle.zone_table.specs.Statuses.{zone_goes_on}
use Rattle.name_store.proofs.CauseLemmas.{clear, none-of-both}
use Rattle.name_core.specs.State.{AreAsksRising, IsNames, NameService, next_id, settled}
use Rattle.world_run.specs.declared.kept.KeptReply.{KeptReply}
use Rattle.world_run.specs.declared.kept.KeptReply.TheVariants.{ToAsk, ToBatch}
use Rattle.reenc_update.specs.declared.reply.BatchResult.{BatchResult}
use Rattle.reenc_update.specs.declared.reply.BatchResult.TheVariants as batch_result
use Rattle.reenc_walk.specs.declared.sent.BatchNote.{BatchNote}
use Rattle.world_run.specs.World.{Kept, WorldState, numbered}
use Rattle.world_run.specs.Ledger.{Draw, Hidden, Ledger, entered, entry_under, makes_entry, starts_of}
use Rattle.world_run.specs.Promise.{In}
use Rattle.world_run.specs.Linked.{BatchesLinked, DrawsFit, FilesLinked, HasDraw, HasNoted, IsDrawn, IsOldBirth, IsReplyTo, KeyLinked, KeysCameBack, LedgerFits, LinkedDraws, NotBelow, OfSession, QueuesLinked, Replied, RepliesLinked, ReplyCameBack, StatusesLinked, VersionsStand, given}
use Rattle.world_run.proofs.Members.{each-in, in-append, in-left, in-right, numbered-in, some-is}
use Rattle.world_run.proofs.RowsAfter.{OpFits, OpHasDraw, OpIsNew}
use Rattle.world_run.proofs.StatusLemmas.{entered-statuses, root-has-key}
use Rattle.world_run.proofs.VersionLemmas.{drawn-version}
use Rattle.world_run.proofs.WorldLemmas.{draws-fewer}

-- open asks

in-without : (asks : List OpenAsk) (id : ℕ) (a : OpenAsk) → In a (without asks id) → In a asks
in-without [] id a i = absurd i
in-without (b ∷ asks) id a i = go (b.id == id) (in-without asks id a) i
  where
    go : (t : Bool) → (In a (without asks id) → In a asks) → In a (cond t asks (b ∷ without asks id)) → In a (b ∷ asks)
    go true ih i = inr i
    go false ih (inl is) = inl is
    go false ih (inr i) = inr (ih i)

-- the open ask of an id is a member, and has that id
pub open-in : (asks : List OpenAsk) (id : ℕ) (a : OpenAsk) → open_ask asks id ≡ Some a → In a asks × (a.id ≡ id)
open-in [] id a h = absurd cc
open-in (b ∷ asks) id a h = go (b.id == id) refl (open-in asks id a) h
  where
    go : (t : Bool) → (b.id == id) ≡ t → (open_ask asks id ≡ Some a → In a asks × (a.id ≡ id)) → cond t (Some b) (open_ask asks id) ≡ Some a → In a (b ∷ asks) × (a.id ≡ id)
    go true same ih h = let is : b ≡ a = cc in (inl (sym is), ap (λ (x : OpenAsk). x.id) (sym is) ∙ eqb-true b.id id same)
    go false same ih h = let q = ih h in (inr q.0, q.1)

-- after it is closed no open ask has the id
without-apart : (asks : List OpenAsk) (id : ℕ) → AreAsksRising asks → (b : OpenAsk) → In b (without asks id) → b.id ≡ id → ⊥
without-apart [] id r b i same = absurd i
without-apart (a ∷ asks) id r b i same = go (a.id == id) refl i (without-apart asks id r.1 b)
  where
    go : (t : Bool) → (a.id == id) ≡ t → In b (cond t asks (a ∷ without asks id)) → (In b (without asks id) → b.id ≡ id → ⊥) → ⊥
    go true is i ih = let h = each-in (λ (x : OpenAsk). a.id < x.id) asks b r.0 i in absurd (omega (arith, h, same, eqb-true a.id id is))
    go false is (inl e) ih = let h = eq-eqb a.id id (ap (λ (x : OpenAsk). x.id) (sym e) ∙ same) in absurd cc
    go false is (inr i) ih = ih i same

-- the entry of a finish

abbrev pub with_entry : Bool → ℕ → Option Draw → Ledger → Ledger
with_entry enter ask_id o ledger = ledger ++ entered enter (entry_under ask_id o)

in-entry : (enter : Bool) (ledger : Ledger) (ask_id : ℕ) (o : Option Draw) (i : ℕ) (d : Draw) → In (i, d) (with_entry enter ask_id o ledger) → In (i, d) ledger ⊎ ((i ≡ ask_id) × (o ≡ Some d))
in-entry enter ledger ask_id o i d p = go enter o (in-append (i, d) ledger (entered enter (entry_under ask_id o)) p)
  where
    go : (b : Bool) (q : Option Draw) → In (i, d) ledger ⊎ In (i, d) (entered b (entry_under ask_id q)) → In (i, d) ledger ⊎ ((i ≡ ask_id) × (q ≡ Some d))
    go b q (inl old) = inl old
    go false q (inr none) = absurd none
    go true None (inr none) = absurd none
    go true (Some f) (inr (inl is)) = inr (ap (λ (e : ℕ × Draw). e.0) is, ap (λ (e : ℕ × Draw). Some e.1) (sym is))
    go true (Some f) (inr (inr none)) = absurd none

same-draw : (o : Option Draw) (d f : Draw) → o ≡ Some d → o ≡ Some f → d ≡ f
same-draw o d f h k = go (sym h ∙ k)
  where
    go : Some d ≡ Some f → d ≡ f
    go e = cc

-- a draw is of one kept reply
one-kept : (keys : List KeyRow) (replies : List KeptReply) (replied : List (Option Draw)) (r q : KeptReply) (d : Draw) → RepliesLinked keys replies replied → Replied replies replied r (Some d) → Replied replies replied q (Some d) → r ≡ q
one-kept keys replies replied r q d l at other = some-is r q (sym at.1 ∙ ap (numbered replies) (l.one_reply at.0 other.0 d at.2 other.2) ∙ other.1)

pub entered-ledger : (enter : Bool) (ledger : Ledger) (keys : List KeyRow) (replies : List KeptReply) (replied : List (Option Draw)) (asks : List OpenAsk) (a : OpenAsk) (ask_id : ℕ) (answer : KeyAnswer) (o : Option Draw) (next : ℕ)
    → In a asks → a.id ≡ ask_id → a.id < next → 2 ^ 32 ≤ a.id → AreAsksRising asks → Replied replies replied (ToAsk ask_id answer) o → RepliesLinked keys replies replied
    → LedgerFits ledger replies replied asks next → LedgerFits (with_entry enter ask_id o ledger) replies replied (without asks a.id) next
entered-ledger enter ledger keys replies replied asks a ask_id answer o next member same low recent rising at l g =
    record {
      one_draw = λ id d f i j. elim (in-entry enter ledger ask_id o id d i) [
        | inl old ↦ elim (in-entry enter ledger ask_id o id f j) [
          | inl other ↦ g.one_draw id d f old other
          | inr new ↦ absurd (g.not_open a d member (subst (λ (n : ℕ). In (n, d) ledger) (new.0 ∙ sym same) old))
        ]
        | inr mine ↦ elim (in-entry enter ledger ask_id o id f j) [
          | inl other ↦ absurd (g.not_open a f member (subst (λ (n : ℕ). In (n, f) ledger) (mine.0 ∙ sym same) other))
          | inr new ↦ same-draw o d f mine.1 new.1
        ]
      ];
      one_file = λ i j d p q. elim (in-entry enter ledger ask_id o i d p) [
        | inl old ↦ elim (in-entry enter ledger ask_id o j d q) [
          | inl other ↦ g.one_file i j d old other
          | inr new ↦ sym (g.its_ask i (ToAsk ask_id answer) d old (replied-as new.1)) ∙ sym new.0
        ]
        | inr mine ↦ elim (in-entry enter ledger ask_id o j d q) [
          | inl other ↦ mine.0 ∙ g.its_ask j (ToAsk ask_id answer) d other (replied-as mine.1)
          | inr new ↦ mine.0 ∙ sym new.0
        ]
      ];
      below = λ id d i. elim (in-entry enter ledger ask_id o id d i) [ inl old ↦ g.below id d old | inr new ↦ omega (arith, low, same, new.0) ];
      recent = λ id d i. elim (in-entry enter ledger ask_id o id d i) [ inl old ↦ g.recent id d old | inr new ↦ omega (arith, recent, same, new.0) ];
      not_open = λ b d i j. elim (in-entry enter ledger ask_id o b.id d j) [
        | inl old ↦ g.not_open b d (in-without asks a.id b i) old
        | inr new ↦ without-apart asks a.id rising b i (new.0 ∙ sym same)
      ];
      its_ask = λ id r d i r_at. elim (in-entry enter ledger ask_id o id d i) [
        | inl old ↦ g.its_ask id r d old r_at
        | inr new ↦ subst (IsReplyTo id) (sym (one-kept keys replies replied r (ToAsk ask_id answer) d l r_at (replied-as new.1))) (sym new.0)
      ];
    }
  where
    replied-as : {d : Draw} → o ≡ Some d → Replied replies replied (ToAsk ask_id answer) (Some d)
    replied-as {d = d} is = subst (λ (x : Option Draw). Replied replies replied (ToAsk ask_id answer) x) is at

-- what is hidden with the entry, if this is the table of the namesystem then
abbrev pub entered_in : Bool → ℕ → Option Draw → NameTable → Hidden → Hidden
entered_in enter ask_id o t h = record h { ledger = with_entry enter ask_id o h.ledger; starts = h.starts ++ starts_of t (entered enter (entry_under ask_id o)) }

-- the draw of an entry was drawn before
module _ (enter : Bool) (h : Hidden) (t : NameTable) (replies : List KeptReply) (ask_id : ℕ) (answer : KeyAnswer) (o : Option Draw) (at : Replied replies h.replied (ToAsk ask_id answer) o) where
  replied-so : (d : Draw) → o ≡ Some d → In (Some d) h.replied
  replied-so d is = subst (λ (x : Option Draw). In x h.replied) is (numbered-in h.replied at.0 o at.2)

  entered-draws : (IsBirth : ℕ → Type 0) → DrawsFit h IsBirth → DrawsFit (entered_in enter ask_id o t h) IsBirth
  entered-draws IsBirth f = draws-fewer h (entered_in enter ask_id o t h) IsBirth IsBirth was (omega arith) (λ b old. old) f
    where
      was : (d : Draw) → IsDrawn (entered_in enter ask_id o t h) d → IsDrawn h d
      was d (inl (id, i)) = elim (in-entry enter h.ledger ask_id o id d i) [ inl old ↦ inl (id, old) | inr new ↦ inr (inl (replied-so d new.1)) ]
      was d (inr i) = inr i

  entered-queues : (rows : List KeyRow) (queues : List Queue) → QueuesLinked rows queues h → QueuesLinked rows queues (entered_in enter ask_id o t h)
  entered-queues rows queues q =
      record {
        opens = q.opens;
        current = q.current;
        rising = q.rising;
        not_replied = q.not_replied;
        not_entered = λ birth id d i j. elim (in-entry enter h.ledger ask_id o id d j) [ inl old ↦ q.not_entered birth id d i old | inr new ↦ q.not_replied birth d i (replied-so d new.1) ];
      }

-- what is linked is linked with more entries too

has-entered : (ledger entries : Ledger) (keys : List KeyRow) (id : ℕ) (e : Edek) → HasDraw ledger keys id e → HasDraw (ledger ++ entries) keys id e
has-entered ledger entries keys id e d = record { draw = d.draw; entered = in-left (id, d.draw) ledger entries d.entered; of_key = d.of_key; carries = d.carries; opens = d.opens }

pub entered-files : (ledger entries : Ledger) (keys : List KeyRow) (names : NameTable) → FilesLinked ledger keys names → FilesLinked (ledger ++ entries) keys names
entered-files ledger entries keys names f =
    record { files = λ row e i h. has-entered ledger entries keys row.id e (f.files row e i h); zones = f.zones; statuses = entered-statuses ledger entries names.statuses f.statuses; distinct = f.distinct }

of-entered : (ledger entries : Ledger) (session : ℕ) (key : KeyName) → OfSession ledger session key → OfSession (ledger ++ entries) session key
of-entered ledger entries session key s = record { draw = s.draw; entered = in-left (session, s.draw) ledger entries s.entered; of_key = s.of_key }

-- one draw for an id
abbrev pub OneDraw : Ledger → Type 0
OneDraw ledger = (id : ℕ) (d f : Draw) → In (id, d) ledger → In (id, f) ledger → d ≡ f

-- the re-encryption has no other draw
below-entered : (ledger entries : Ledger) (keys : List KeyRow) (session : ℕ) (e : Edek) → OneDraw (ledger ++ entries) → OfSession ledger session e.version.key → NotBelow ledger keys session e → NotBelow (ledger ++ entries) keys session e
below-entered ledger entries keys session e one s low d row i j born =
    let same : s.draw ≡ d = one session s.draw d (in-left (session, s.draw) ledger entries s.entered) i in
    subst (λ (x : Draw). x.version.number ≤ e.version.number) same (low s.draw row s.entered j (born ∙ ap (λ (x : Draw). x.birth) (sym same)))

back-entered : (ledger entries : Ledger) (keys : List KeyRow) (note : BatchNote) (result : BatchResult) → OneDraw (ledger ++ entries) → KeysCameBack ledger keys note result → KeysCameBack (ledger ++ entries) keys note result
back-entered ledger entries keys note batch_result.Refused one back = tt
back-entered ledger entries keys note (batch_result.Ready edeks) one back = λ place x e sent got.
    let was = back place x e sent got in
    record {
      came = record { of_key = was.came.of_key; has = has-entered ledger entries keys x.id e was.came.has };
      of_session = of-entered ledger entries note.session e.version.key was.of_session;
      not_below = below-entered ledger entries keys note.session e one was.of_session was.not_below;
    }

reply-entered : (ledger entries : Ledger) (keys : List KeyRow) (r : KeptReply) → OneDraw (ledger ++ entries) → ReplyCameBack ledger keys r → ReplyCameBack (ledger ++ entries) keys r
reply-entered ledger entries keys (ToAsk id answer) one back = tt
reply-entered ledger entries keys (ToBatch reply) one back = (back.0, back-entered ledger entries keys reply.note reply.result one back.1)

entered-batches : (ledger entries : Ledger) (keys : List KeyRow) (kept : Kept) → OneDraw (ledger ++ entries) → BatchesLinked ledger keys kept → BatchesLinked (ledger ++ entries) keys kept
entered-batches ledger entries keys kept one l =
    record {
      sent = λ batch x i j. has-entered ledger entries keys x.id x.edek (l.sent batch x i j);
      sessions = λ batch x i j. of-entered ledger entries batch.session x.edek.version.key (l.sessions batch x i j);
      back = λ r i. reply-entered ledger entries keys r one (l.back r i);
    }

entered-versions : (enter : Bool) (ledger : Ledger) (keys : List KeyRow) (ask_id : ℕ) (o : Option Draw) (edek : Option Edek) → KeyLinked keys edek o → VersionsStand ledger keys → VersionsStand (with_entry enter ask_id o ledger) keys
entered-versions enter ledger keys ask_id o edek linked stand id d row i j born = elim (in-entry enter ledger ask_id o id d i) [
  | inl old ↦ stand id d row old j born
  | inr new ↦ drawn-version keys edek o d row linked new.1 j born
]

-- the draw of the key of a new file
new-draw : (ledger : Ledger) (keys : List KeyRow) (ask_id : ℕ) (o : Option Draw) (e : Edek) → KeyLinked keys (Some e) o → HasDraw (with_entry true ask_id o ledger) keys ask_id e
new-draw ledger keys ask_id None e k = absurd k
new-draw ledger keys ask_id (Some d) e k = record {
  draw = d;
  entered = in-right (ask_id, d) ledger ((ask_id, d) ∷ []) (inl refl);
  of_key = ap (λ (v : VersionName). v.key) k.0;
  carries = k.1;
  opens = k.2;
}

-- the draw of a new re-encryption
new-noted : (ledger : Ledger) (keys : List KeyRow) (ask_id : ℕ) (o : Option Draw) (e : Edek) → KeyLinked keys (Some e) o → HasNoted (with_entry true ask_id o ledger) ask_id e.version
new-noted ledger keys ask_id None e k = absurd k
new-noted ledger keys ask_id (Some d) e k = record { draw = d; entered = in-right (ask_id, d) ledger ((ask_id, d) ∷ []) (inl refl); noted_is = k.0 }

-- a re-encryption has a key, since the path is that of a zone
pub submit-has-key : (rows : List Entry) (statuses : List StatusRow) (a : OpenAsk) (p : NPath) → first_cause (finish_causes rows statuses a None (ask.Submit p)) ≡ None → ⊥
submit-has-key rows statuses a p free =
    let more : List (Bool × NameRefusal) = (zone_goes_on statuses (id_at rows p), refusal.AlreadySubmitted) ∷ [] in
    let key : List (Bool × NameRefusal) = (is_other_key rows p None, refusal.ZoneChanged) ∷ more in
    let checks : List (Bool × NameRefusal) = (is_other_zone rows a, refusal.ZoneChanged) ∷ key in
    let parts = none-of-both (zone_root_causes rows p) checks (none-of-both (path_causes p) (zone_root_causes rows p ++ checks) free).1 in
    let root = none-of-both (directory_causes rows p) ((is_none (mark_at rows p), refusal.NotAZoneRoot) ∷ []) parts.0 in
    let fits = clear (is_other_key rows p None) refusal.ZoneChanged (first_cause more) (clear (is_other_zone rows a) refusal.ZoneChanged (first_cause key) parts.1).1 in
    root-has-key rows p (clear (is_none (mark_at rows p)) refusal.NotAZoneRoot None root.1).0 (keyless (key_of_zone rows p) (not-false (fits_zone (key_of_zone rows p) None) fits.0))
  where
    keyless : (o : Option KeyName) → fits_zone o None ≡ true → o ≡ None
    keyless None h = refl
    keyless (Some key) h = absurd cc

-- the operation of a finish that nothing stops has a draw, if its file or its re-encryption is entered
pub finish-drawn : (enter : Bool) (ledger : Ledger) (keys : List KeyRow) (rows : List Entry) (statuses : List StatusRow) (a : OpenAsk) (ask_id : ℕ) (o : Option Draw) (edek : Option Edek) (x : Ask) → a.id ≡ ask_id → KeyLinked keys edek o
    → first_cause (finish_causes rows statuses a edek x) ≡ None → (makes_entry ask_id (Some (finish_op a.id edek x)) ≡ true → enter ≡ true) → OpHasDraw (with_entry enter ask_id o ledger) keys (finish_op a.id edek x)
finish-drawn enter ledger keys rows statuses a ask_id o None (ask.Create p) same k free enters = tt
finish-drawn enter ledger keys rows statuses a ask_id o (Some e) (ask.Create p) same k free enters =
    subst (λ (b : Bool). HasDraw (with_entry b ask_id o ledger) keys a.id e) (sym (enters (eq-eqb a.id ask_id same)))
    (subst (λ (n : ℕ). HasDraw (with_entry true ask_id o ledger) keys n e) (sym same) (new-draw ledger keys ask_id o e k))
finish-drawn enter ledger keys rows statuses a ask_id o edek (ask.Zone p key) same k free enters = tt
finish-drawn enter ledger keys rows statuses a ask_id o None (ask.Submit p) same k free enters = absurd (submit-has-key rows statuses a p free)
finish-drawn enter ledger keys rows statuses a ask_id o (Some e) (ask.Submit p) same k free enters =
    subst (λ (b : Bool). HasNoted (with_entry b ask_id o ledger) a.id e.version) (sym (enters (eq-eqb a.id ask_id same)))
    (subst (λ (n : ℕ). HasNoted (with_entry true ask_id o ledger) n e.version) (sym same) (new-noted ledger keys ask_id o e k))

pub finish-fits : (rows : List Entry) (statuses : List StatusRow) (a : OpenAsk) (edek : Option Edek) (x : Ask) → first_cause (finish_causes rows statuses a edek x) ≡ None → OpFits rows (finish_op a.id edek x)
finish-fits rows statuses a edek (ask.Create p) free =
    let key : List (Bool × NameRefusal) = (is_other_key rows p edek, refusal.ZoneChanged) ∷ row_causes rows in
    let checks : List (Bool × NameRefusal) = (is_other_zone rows a, refusal.ZoneChanged) ∷ key in
    let made = none-of-both (path_causes p) (make_causes rows p ++ checks) free in
    let fits = clear (is_other_zone rows a) refusal.ZoneChanged (first_cause key) (none-of-both (make_causes rows p) checks made.1).1 in
    not-false (fits_zone (key_of_zone rows p) edek) (clear (is_other_key rows p edek) refusal.ZoneChanged (first_cause (row_causes rows)) fits.1).0
finish-fits rows statuses a edek (ask.Zone p key) free =
    let checks : List (Bool × NameRefusal) = (is_other_zone rows a, refusal.ZoneChanged) ∷ [] in
    (none-of-both (zone_causes rows p) checks (none-of-both (path_causes p) (zone_causes rows p ++ checks) free).1).0
finish-fits rows statuses a edek (ask.Submit p) free = tt

-- no re-encryption has the id of an open ask
pub finish-new : (ledger : Ledger) (replies : List KeptReply) (replied : List (Option Draw)) (asks : List OpenAsk) (next : ℕ) (statuses : List StatusRow) (a : OpenAsk) (edek : Option Edek) (x : Ask) → In a asks → LedgerFits ledger replies replied asks next
    → StatusesLinked ledger statuses → OpIsNew statuses (finish_op a.id edek x)
finish-new ledger replies replied asks next statuses a edek (ask.Create p) member fits linked = tt
finish-new ledger replies replied asks next statuses a edek (ask.Zone p key) member fits linked = tt
finish-new ledger replies replied asks next statuses a edek (ask.Submit p) member fits linked = λ t i same.
    let has = linked t i in fits.not_open a has.draw member (subst (λ (id : ℕ). In (id, has.draw) ledger) same has.entered)

-- the world after a finish

-- an open ask, and the kept reply that answers it, with its draw
pub record Answered (w : WorldState) (h : Hidden) (a : OpenAsk) (ask_id : ℕ) (answer : KeyAnswer) (o : Option Draw) : Type 0 where
  pub opened : open_ask w.names.names.asks ask_id ≡ Some a
  pub at : Replied w.kept.replies h.replied (ToAsk ask_id answer) o

-- an id of an opening from 1 on
from-one : (opening id : ℕ) → 0 < opening → opening * 2 ^ 32 ≤ id → 2 ^ 32 ≤ id
from-one opening id opened here = omega (arith, opened, here)

-- the ask is no longer open, and its draw may be entered
pub linked-finished : (w : WorldState) (h : Hidden) (enter : Bool) (a : OpenAsk) (ask_id : ℕ) (answer : KeyAnswer) (o : Option Draw) (t : NameTable) (names : NameService) → IsNames w.names → Answered w h a ask_id answer o
    → names.names.asks ≡ without w.names.names.asks a.id → next_id names.names ≡ next_id w.names.names
    → ((k : Bool) → FilesLinked (with_entry enter ask_id o h.ledger) w.keys.keys.table.rows (settled k names).table) → LinkedDraws w h → LinkedDraws (record w { names = names }) (entered_in enter ask_id o t h)
linked-finished w h enter a ask_id answer o t names fit answered asks next files l =
    let member = open-in w.names.names.asks ask_id a answered.opened in
    let low : a.id < next_id w.names.names = each-in (λ (q : OpenAsk). q.id < next_id w.names.names) w.names.names.asks a fit.ids.of_asks member.0 in
    let present : w.names.names.table.opening * 2 ^ 32 ≤ a.id = each-in (λ (q : OpenAsk). w.names.names.table.opening * 2 ^ 32 ≤ q.id) w.names.names.asks a fit.recent member.0 in
    let recent : 2 ^ 32 ≤ a.id = from-one w.names.names.table.opening a.id fit.opened present in
    let fits : LedgerFits (with_entry enter ask_id o h.ledger) w.kept.replies h.replied (without w.names.names.asks a.id) (next_id w.names.names) =
    entered-ledger enter h.ledger w.keys.keys.table.rows w.kept.replies h.replied w.names.names.asks a ask_id answer o (next_id w.names.names) member.0 member.1 low recent fit.ids.rising answered.at l.replies l.ledger in
    record {
      files = files;
      replies = l.replies;
      draws = entered-draws enter h t w.kept.replies ask_id answer o answered.at (IsOldBirth w.keys.keys.table) l.draws;
      ledger = subst (λ (open_asks : List OpenAsk). LedgerFits (with_entry enter ask_id o h.ledger) w.kept.replies h.replied open_asks (next_id names.names)) (sym asks)
          (subst (λ (n : ℕ). LedgerFits (with_entry enter ask_id o h.ledger) w.kept.replies h.replied (without w.names.names.asks a.id) n) (sym next) fits);
      queues = entered-queues enter h t w.kept.replies ask_id answer o answered.at w.keys.keys.table.rows w.keys.keys.ready.queues l.queues;
      tickets = l.tickets;
      batches = entered-batches h.ledger (entered enter (entry_under ask_id o)) w.keys.keys.table.rows w.kept fits.one_draw l.batches;
      versions = entered-versions enter h.ledger w.keys.keys.table.rows ask_id o (given answer) (l.replies.keys_open (ToAsk ask_id answer) o answered.at) l.versions;
    }

-- nothing is entered
abbrev pub unentered : Hidden → Hidden
unentered h = record h { ledger = h.ledger ++ []; starts = h.starts ++ [] }

pub linked-unentered : (w : WorldState) (h : Hidden) → LinkedDraws w h → LinkedDraws w (unentered h)
linked-unentered w h l = subst (LinkedDraws w) (λ i. record h { ledger = sym (append-nil h.ledger) i; starts = sym (append-nil h.starts) i }) l
