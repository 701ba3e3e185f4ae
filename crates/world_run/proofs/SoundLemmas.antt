-- The files that a crash leaves during an event are linked with the ledger of draws after that event.
use Rattle.std.proofs.Common.{◌≡◌, ◌⊎◌, inl, inr, ℕ, zero, suc, ◌+◌, ◌*◌, ◌^◌, ◌<◌, ◌≤◌, Bool, true, false, List, [], Option, Some, None, Err, refl, sym, ap, subst, ◌∙◌, arith}
use Rattle.std.specs.Prelude.{IfSome, ◌==◌}
use Rattle.std.specs.declared.result.Result.{Result}
use Rattle.std.proofs.lemmas.Bool.Decides.{nat_tests}
use Rattle.std.proofs.lemmas.Bool.{and_parts}
use Rattle.hk_base.specs.declared.names.Edek.{Edek}
use Rattle.key_rows.specs.declared.rows.KeyCommand.{KeyCommand}
use Rattle.key_rows.specs.declared.rows.KeyRow.{KeyRow}
use Rattle.key_rows.specs.Table.{Table}
use Rattle.prop_text.specs.declared.lines.PropLine.{PropLine}
use Rattle.edit_ops.specs.declared.ops.EditOp.{EditOp}
use Rattle.edit_ops.specs.declared.ops.EditOp.TheVariants as op
use Rattle.kms_core.specs.State.{settled}
use Rattle.kms_store.specs.Replay.{HasRoomForBirths}
use Rattle.kms_store.specs.Store.{Applies, settled_table}
use Rattle.name_store.specs.Replay.{Applies as AppliesToNames}
use Rattle.name_store.specs.Store.{AnOpening, IsLeftOf, NothingMore}
use Rattle.name_store.specs.Table.{NameTable, Replayed, after_table, allows, is_fresh, settled_log, settled_table as settled_names_table}
use Rattle.name_store.proofs.CauseLemmas.{renamable}
use Rattle.name_core.specs.declared.asks.OpenAsk.{OpenAsk}
use Rattle.name_calls.specs.declared.calls.KeyAnswer.{KeyAnswer}
use Rattle.name_calls.specs.declared.calls.KeyAnswer.TheVariants.{Given}
use Rattle.name_calls.specs.declared.calls.NameCall.{NameCall}
use Rattle.name_calls.specs.declared.calls.NameCall.TheVariants as call
use Rattle.name_calls.specs.declared.calls.NameRefusal.{NameRefusal}
use Rattle.name_calls.specs.declared.calls.NameRefusal.TheVariants as refusal
use Rattle.name_core.specs.Asks.{finish_op, open_ask}
use Rattle.name_core.specs.Calls.{causes, deed, first_cause}
use Rattle.name_core.specs.Service.{FinishServes, FinishServesAt, FinishServesOpen, OwnOfFinish, closed_service}
use Rattle.name_core.specs.State.{NameService, next_id, settled as settled_names}
use Rattle.name_core.specs.Walks.{session_at}
use Rattle.hk_events.specs.declared.event.Event.{Event}
use Rattle.hk_events.specs.declared.event.Event.TheVariants as event
use Rattle.hk_events.specs.declared.event.Line.{Line}
use Rattle.world_run.specs.declared.kept.KeptReply.{KeptReply}
use Rattle.world_run.specs.declared.kept.KeptReply.TheVariants.{ToAsk, ToBatch}
use Rattle.world_run.specs.Acknowledged.{Acknowledged}
use Rattle.world_run.specs.Own.{OwnOfNamesCall}
use Rattle.world_run.specs.World.{WorldState, numbered}
use Rattle.world_run.specs.Step.{FinishReply, Step, finish_line}
use Rattle.world_run.specs.Covered.{CoveredBy}
use Rattle.world_run.specs.Ledger.{Draw, Hidden, Past, behind_words, drawn_before, enters, hidden_after, makes_entry, past_of}
use Rattle.world_run.specs.Linked.{DrawsFit, FilesLinked, IsOldBirth, IsRecordedBirth, LedgerFits, LinkedDraws, LinkedTables, LinkedWorld, Replied, ServicesFit, VersionsStand}
use Rattle.world_run.proofs.CoveredCalls.{call-covers}
use Rattle.world_run.proofs.CoveredEnds.{covered-forget}
use Rattle.world_run.proofs.CoveredFinish.{applied-covers, before-covers, entered_past, open-drawn, open-lies, own-answered, unentered-covers}
use Rattle.world_run.proofs.CoveredKeys.{covered-keys, covered-place}
use Rattle.world_run.proofs.CoveredOps.{covered-same}
use Rattle.world_run.proofs.FinishLemmas.{Answered, entered_in, linked-unentered, open-in, unentered}
use Rattle.world_run.proofs.KeepLemmas.{closed-keeps, finish-files, finish-hidden}
use Rattle.world_run.proofs.Laters.{KeysLater, later-settled, later-with, old-recorded, then-later}
use Rattle.world_run.proofs.Members.{numbered-beside, some-is}
use Rattle.world_run.proofs.PastLemmas.{deposit-past, draw-past, later_past, serve-past}
use Rattle.world_run.proofs.RowsAfter.{OpFits, OpHasDraw, OpIsNew, files-after, files-opened}
use Rattle.world_run.proofs.SettledLemmas.{is-settled}
use Rattle.world_run.proofs.VersionLemmas.{versions-later}
use Rattle.world_run.proofs.WorldLemmas.{draws-fewer, draws-later, drawn-past, files-later, opening-settled, rows-settled}

-- a table of the namesystem that is linked with these keys, and whose re-encryptions cover their files, while no walk has begun
pub record NamesLinked (past : Past) (keys : List KeyRow) (names : NameTable) : Type 0 where
  pub files : FilesLinked past.ledger keys names
  pub covered : CoveredBy past keys names []

-- linked with what is hidden of it, whatever is kept: the files with and without the pending operation, and the ledger itself
pub record LinkedFiles (w : WorldState) (past : Past) : Type 0 where
  pub files : (kept : Bool) → NamesLinked past w.keys.keys.table.rows (settled_names kept w.names).table
  pub draws : DrawsFit (drawn_before past) (IsOldBirth w.keys.keys.table)
  pub fits : LedgerFits past.ledger [] [] [] (next_id w.names.names)
  pub versions : VersionsStand past.ledger w.keys.keys.table.rows

pub none-replied : (r : KeptReply) (o : Option Draw) → Replied [] [] r o → ⊥
none-replied r o (n, at, other) = go n at
  where
    go : (k : ℕ) → numbered {X = KeptReply} [] k ≡ Some r → ⊥
    go zero h = absurd cc
    go (suc k) h = absurd cc

drawn-files : (w : WorldState) (h : Hidden) → LinkedDraws w h → ((kept : Bool) → CoveredBy (past_of h) w.keys.keys.table.rows (settled_names kept w.names).table []) → LinkedFiles w (past_of h)
drawn-files w h l covers =
    record {
      files = λ kept. record { files = l.files kept; covered = covers kept };
      draws = draws-fewer h (drawn_before (past_of h)) (IsOldBirth w.keys.keys.table) (IsOldBirth w.keys.keys.table) (drawn-past h) (omega arith) (λ b old. old) l.draws;
      fits = record {
        one_draw = l.ledger.one_draw;
        one_file = l.ledger.one_file;
        below = l.ledger.below;
        recent = l.ledger.recent;
        not_open = λ a d i j. absurd i;
        its_ask = λ id r d i at. absurd (none-replied r (Some d) at);
      };
      versions = l.versions;
    }

pub world-files : (w : WorldState) (h : Hidden) → LinkedWorld w h → LinkedFiles w (past_of h)
world-files w h l =
    drawn-files w h l.draws (λ kept. covered-forget (past_of h) w.keys.keys.table.rows (settled_names kept w.names).table (settled_names kept w.names).walks (l.covered kept))

-- the world before an event, with what is hidden after it

more-words : (w : WorldState) (past : Past) (drawn : ℕ) → LinkedFiles w past → LinkedFiles w (record past { place = past.place + drawn })
more-words w past drawn f =
    record {
      files = λ kept. record {
        files = (f.files kept).files;
        covered = covered-place past (past.place + drawn) w.keys.keys.table.rows (settled_names kept w.names).table [] (f.files kept).covered;
      };
      draws = record { below = λ d i. let t = f.draws.below d i in omega (arith, t); one_place = f.draws.one_place; born = f.draws.born; recent = f.draws.recent };
      fits = f.fits;
      versions = f.versions;
    }

-- nothing is entered
unentered-files : (w : WorldState) (h : Hidden) → LinkedWorld w h → LinkedFiles w (past_of (unentered h))
unentered-files w h l =
    drawn-files w (unentered h) (linked-unentered w h l.draws) (λ kept.
    unentered-covers (past_of h) w.keys.keys.table.rows (settled_names kept w.names).table []
    (covered-forget (past_of h) w.keys.keys.table.rows (settled_names kept w.names).table (settled_names kept w.names).walks (l.covered kept)))

-- the ask that is finished is open
opened-files : (w : WorldState) (h : Hidden) (answer : KeyAnswer) (o : Option Draw) (a : OpenAsk) (fault : Type 0) (result : Result (Unit {0}) NameRefusal) (ops : List EditOp) (names : NameService) → ServicesFit w → LinkedWorld w h
    → Answered w h a a.id answer o → FinishServesOpen w.names a answer fault result ops names → LinkedFiles w (past_of (entered_in (enters a.id (finish_line result) names) a.id o (settled_names true names).table h))
opened-files w h answer o a fault result ops names fit l answered serves = record { files = f.files; draws = f.draws; fits = f.fits; versions = f.versions }
  where
    enter : Bool
    enter = enters a.id (finish_line result) names

    t : NameTable
    t = (settled_names true names).table

    covers : (kept : Bool) → CoveredBy (past_of (entered_in enter a.id o t h)) w.keys.keys.table.rows (settled_names kept w.names).table []
    covers kept =
        covered-forget (past_of (entered_in enter a.id o t h)) w.keys.keys.table.rows (settled_names kept w.names).table (settled_names kept w.names).walks
        (before-covers w h answer o a fit.names l answered enter t kept (open-drawn w h answer o a fit.names l answered answer fault result ops names serves))

    f : LinkedFiles (record w { names = closed_service w.names a }) (past_of (entered_in enter a.id o t h))
    f = drawn-files (record w { names = closed_service w.names a }) (entered_in enter a.id o t h) (closed-keeps w h a.id answer o a fit.names l.draws answered enter t) covers

finish-through : (w : WorldState) (words : ℕ → ℕ) (h : Hidden) (number drawn : ℕ) (ask_id : ℕ) (answer : KeyAnswer) (fault : Type 0) (result : Result (Unit {0}) NameRefusal) (ops : List EditOp) (names : NameService) → ServicesFit w → LinkedWorld w h
    → numbered w.kept.replies number ≡ Some (ToAsk ask_id answer) → FinishServes w.names ask_id answer fault result ops names
    → LinkedFiles w (past_of (hidden_after w words (event.Finish number) (finish_line result) drawn (record w { names = names }) h))
finish-through w words h number drawn ask_id answer fault result ops names fit l at serves =
    let drew = numbered-beside w.kept.replies h.replied number (ToAsk ask_id answer) l.draws.replies.as_many at in
    subst (λ (g : Hidden). LinkedFiles w (past_of g)) (sym (finish-hidden w words h number drawn ask_id answer drew.0 result names at drew.1))
    (more-words w (past_of (entered_in (enters ask_id (finish_line result) names) ask_id drew.0 (settled_names true names).table h)) drawn
    (go drew.0 drew.1 (open_ask w.names.names.asks ask_id) refl serves))
  where
    t : NameTable
    t = (settled_names true names).table

    go : (o : Option Draw) → numbered h.replied number ≡ Some o → (q : Option OpenAsk) → open_ask w.names.names.asks ask_id ≡ q → FinishServesAt w.names q answer fault result ops names
        → LinkedFiles w (past_of (entered_in (enters ask_id (finish_line result) names) ask_id o t h))
    go o drew None gone e =
        subst (λ (r : Result (Unit {0}) NameRefusal). LinkedFiles w (past_of (entered_in (enters ask_id (finish_line r) names) ask_id o t h))) (sym e.reply_is) (unentered-files w h l)
    go o drew (Some a) found s =
        subst (λ (id : ℕ). LinkedFiles w (past_of (entered_in (enters id (finish_line result) names) id o t h))) (open-in w.names.names.asks ask_id a found).1
        (opened-files w h answer o a fault result ops names fit l (own-answered w h ask_id answer o a found (number, at, drew)) s)

finish-reply-through : (w : WorldState) (words : ℕ → ℕ) (h : Hidden) (number : ℕ) (fault : Type 0) (outcome : Line) (drawn : ℕ) (logged : Acknowledged) (w' : WorldState) (o : Option KeptReply) → ServicesFit w → LinkedWorld w h
    → numbered w.kept.replies number ≡ o → FinishReply w o fault outcome drawn logged w' → LinkedFiles w (past_of (hidden_after w words (event.Finish number) outcome drawn w' h))
finish-reply-through w words h number fault outcome drawn logged w' None fit l at u =
    subst (λ (t : Line). LinkedFiles w (past_of (hidden_after w words (event.Finish number) t drawn w' h))) (sym u.reply_is)
    (more-words w (past_of (unentered h)) drawn (unentered-files w h l))
finish-reply-through w words h number fault outcome drawn logged w' (Some (ToBatch reply)) fit l at u =
    subst (λ (t : Line). LinkedFiles w (past_of (hidden_after w words (event.Finish number) t drawn w' h))) (sym u.reply_is)
    (more-words w (past_of (unentered h)) drawn (unentered-files w h l))
finish-reply-through w words h number fault outcome drawn logged w' (Some (ToAsk ask_id answer)) fit l at f =
    subst (λ (t : Line). LinkedFiles w (past_of (hidden_after w words (event.Finish number) t drawn w' h))) (sym f.reply_is)
    (subst (λ (v : WorldState). LinkedFiles w (past_of (hidden_after w words (event.Finish number) (finish_line f.result) drawn v h))) (sym f.left)
    (finish-through w words h number drawn ask_id answer fault f.result f.ops f.names fit l at f.finishes))

pub event-files : (lines : List PropLine) (w : WorldState) (words : ℕ → ℕ) (now : ℕ) (e : Event) (fault tells : Type 0) (outcome : Line) (drawn : ℕ) (logged : Acknowledged) (w' : WorldState) (h : Hidden) → ServicesFit w
    → Step lines w words now e fault tells outcome drawn logged w' → LinkedWorld w h → LinkedFiles w (past_of (hidden_after w words e outcome drawn w' h))
event-files lines w words now e fault tells outcome drawn logged w' h fit s l = go e s
  where
    before : LinkedFiles w (past_of (behind_words drawn h))
    before = more-words w (past_of h) drawn (world-files w h l)

    at : (past : Past) → past ≡ later_past drawn h → LinkedFiles w past
    at past same = subst (LinkedFiles w) (sym same) before

    go : (e : Event) → Step lines w words now e fault tells outcome drawn logged w' → LinkedFiles w (past_of (hidden_after w words e outcome drawn w' h))
    go (event.Kms user c) s = before
    go event.Ticket s = before
    go (event.Deposit number) s = at (past_of (hidden_after w words (event.Deposit number) outcome drawn w' h)) (deposit-past w words h number drawn w' outcome)
    go event.RestartKms s = before
    go event.RestartName s = before
    go (event.Mkdir user p) s = before
    go (event.Delete user p recursive) s = before
    go (event.Rename user p q) s = before
    go (event.Info user p) s = before
    go (event.List user p) s = before
    go (event.Allow user p) s = before
    go (event.Disallow user p) s = before
    go (event.Snap user p name) s = before
    go (event.Unsnap user p name) s = before
    go (event.Cancel user p) s = before
    go (event.Status user p) s = before
    go (event.Zones user) s = before
    go (event.AskCreate user p) s = before
    go (event.AskZone user p key) s = before
    go (event.AskSubmit user p) s = before
    go (event.Draw number) s = at (past_of (hidden_after w words (event.Draw number) outcome drawn w' h)) (draw-past w words h number drawn w' outcome)
    go (event.Finish number) s = finish-reply-through w words h number fault outcome drawn logged w' (numbered w.kept.replies number) fit l refl s
    go (event.Walk p) s = before
    go (event.Serve number) s = at (past_of (hidden_after w words (event.Serve number) outcome drawn w' h)) (serve-past w words h number drawn w' outcome)
    go (event.Deliver number) s = before
    go (event.GiveUp number) s = before

-- an operation that an event may write after the settled edit log keeps the files linked

abbrev pub OwnLinks : WorldState → Past → (Bool → EditOp → Type 0) → Type 0
OwnLinks w past own = (kept : Bool) (op : EditOp) → own kept op → allows (settled_names kept w.names).table op ≡ true → NamesLinked past w.keys.keys.table.rows (after_table (settled_names kept w.names).table op)

-- words that were taken change nothing about that
pub later-owns : {own : Bool → EditOp → Type 0} (w : WorldState) (past : Past) (drawn : ℕ) → OwnLinks w past own → OwnLinks w (record past { place = past.place + drawn }) own
later-owns w past drawn links = λ kept op own may. let f = links kept op own may in record {
  files = f.files;
  covered = covered-place past (past.place + drawn) w.keys.keys.table.rows (after_table (settled_names kept w.names).table op) [] f.covered;
}

pub own-of-nothing : (w : WorldState) (h : Hidden) → OwnLinks w (past_of h) NothingMore
own-of-nothing w h kept written own may = absurd own

pub own-of-opening : (w : WorldState) (h : Hidden) → ServicesFit w → LinkedWorld w h → OwnLinks w (past_of h) AnOpening
own-of-opening w h fit l kept (op.Opened opening) own may =
    let t : NameTable = (settled_names kept w.names).table in
    record {
      files = files-opened h.ledger w.keys.keys.table.rows t opening (l.draws.files kept);
      covered = covered-same (past_of h) w.keys.keys.table.rows t [] opening t.snaps (covered-forget (past_of h) w.keys.keys.table.rows t (settled_names kept w.names).walks (l.covered kept));
    }
own-of-opening w h fit l kept (op.Mkdir id p) own may = absurd cc
own-of-opening w h fit l kept (op.File id p edek) own may = absurd cc
own-of-opening w h fit l kept (op.Remove p) own may = absurd cc
own-of-opening w h fit l kept (op.Rename p q) own may = absurd cc
own-of-opening w h fit l kept (op.Zone p key) own may = absurd cc
own-of-opening w h fit l kept (op.Allow p) own may = absurd cc
own-of-opening w h fit l kept (op.Disallow p) own may = absurd cc
own-of-opening w h fit l kept (op.Snap p name) own may = absurd cc
own-of-opening w h fit l kept (op.Unsnap p name) own may = absurd cc
own-of-opening w h fit l kept (op.Submit session p noted) own may = absurd cc
own-of-opening w h fit l kept (op.Update session failed mark files) own may = absurd cc
own-of-opening w h fit l kept (op.Cancel session) own may = absurd cc
own-of-opening w h fit l kept (op.Complete session) own may = absurd cc

pub own-of-call : (w : WorldState) (h : Hidden) (c : NameCall) (outcome : Line) (names : NameService) → ServicesFit w → LinkedWorld w h → OwnLinks w (past_of h) (OwnOfNamesCall w.names c outcome names)
own-of-call w h c outcome names fit l kept written own may = record {
  files = go c own.own.free own.own.is;
  covered = covered-forget (past_of h) w.keys.keys.table.rows (after_table (settled_names kept w.names).table written) (settled_names kept w.names).walks
      (call-covers (past_of h) w.keys.keys.table.rows (settled_names kept w.names) (is-settled w h kept fit.names l) c written own.own.free own.own.is);
}
  where
    linked : (o : EditOp) → OpFits (settled_names kept w.names).table.rows o → OpHasDraw h.ledger w.keys.keys.table.rows o → OpIsNew (settled_names kept w.names).table.statuses o → Some o ≡ Some written
        → FilesLinked h.ledger w.keys.keys.table.rows (after_table (settled_names kept w.names).table written)
    linked o fits has new is =
        subst (λ (x : EditOp). FilesLinked h.ledger w.keys.keys.table.rows (after_table (settled_names kept w.names).table x)) (some-is o written is)
        (files-after h.ledger w.keys.keys.table.rows (settled_names kept w.names).table o (rows-settled kept w.names fit.names) fits has new (l.draws.files kept))

    go : (c : NameCall) → first_cause (causes (settled_names kept w.names) c) ≡ None → (deed (settled_names kept w.names) c).logs ≡ Some written → FilesLinked h.ledger w.keys.keys.table.rows (after_table (settled_names kept w.names).table written)
    go (call.Mkdir p) free is = linked (op.Mkdir (next_id (settled_names kept w.names)) p) tt tt tt is
    go (call.Delete p recursive) free is = linked (op.Remove p) tt tt tt is
    go (call.Rename p q) free is =
        let m = renamable (settled_names kept w.names).table.rows (settled_names kept w.names).table.snaps (settled_names kept w.names).table.statuses p q free in
        linked (op.Rename p q) (m.can, m.zone) tt tt is
    go (call.Info r) free is = absurd cc
    go (call.List r) free is = absurd cc
    go (call.Allow p) free is = linked (op.Allow p) tt tt tt is
    go (call.Disallow p) free is = linked (op.Disallow p) tt tt tt is
    go (call.Snap p name) free is = linked (op.Snap p name) tt tt tt is
    go (call.Unsnap p name) free is = linked (op.Unsnap p name) tt tt tt is
    go (call.Cancel p) free is = linked (op.Cancel (session_at (settled_names kept w.names).table p)) tt tt tt is
    go (call.Status p) free is = absurd cc
    go call.Zones free is = absurd cc

-- the answer of a finish that leaves an operation pending
pending-answered : (s : NameService) (a : OpenAsk) (given : KeyAnswer) (edek : Option Edek) (fault : Type 0) (result : Result (Unit {0}) NameRefusal) (ops : List EditOp) (names : NameService) (waiting : EditOp) → given ≡ Given edek
    → FinishServesOpen s a given fault result ops names → names.pending ≡ Some waiting → result ≡ Err refusal.StoreFault
pending-answered s a given edek fault result ops names waiting said serves waits = go (subst (λ (x : KeyAnswer). FinishServesOpen s a x fault result ops names) said serves)
  where
    go : FinishServesOpen s a (Given edek) fault result ops names → result ≡ Err refusal.StoreFault
    go (inl u) = u.ends.reply_is
    go (inr (k, inl d)) = let none : None ≡ Some waiting = sym (ap (λ (n : NameService). n.pending) d.left) ∙ waits in absurd cc
    go (inr (k, inr u)) = u.reply_is

-- an operation that a finish wrote, or left pending, is entered if it makes an entry
written-enters : (s : NameService) (ask_id : ℕ) (answer : KeyAnswer) (fault : Type 0) (result : Result (Unit {0}) NameRefusal) (ops : List EditOp) (names : NameService) (k : Bool) (written : EditOp) (own : OwnOfFinish s ask_id answer result names k written)
    → FinishServes s ask_id answer fault result ops names → makes_entry ask_id (Some (finish_op own.ask.id own.edek own.ask.ask)) ≡ true → enters ask_id (finish_line result) names ≡ true
written-enters s ask_id answer fault result ops names k written own serves file = elim own.was_written [
  | inl done ↦ ap (λ (r : Result (Unit {0}) NameRefusal). enters ask_id (finish_line r) names) done
  | inr waits ↦
      let refused : result ≡ Err refusal.StoreFault = pending-answered s own.ask answer own.edek fault result ops names written own.gave
      (subst (λ (o : Option OpenAsk). FinishServesAt s o answer fault result ops names) own.was_open serves) waits in
      ap (λ (r : Result (Unit {0}) NameRefusal). enters ask_id (finish_line r) names) refused ∙ ap (makes_entry ask_id) (waits ∙ ap Some own.is) ∙ file
]

-- what its table covers
own-covers : (w : WorldState) (h : Hidden) (ask_id : ℕ) (answer : KeyAnswer) (o : Option Draw) (fault : Type 0) (result : Result (Unit {0}) NameRefusal) (ops : List EditOp) (names : NameService) (k : Bool) (written : EditOp)
    → FinishServes w.names ask_id answer fault result ops names → Replied w.kept.replies h.replied (ToAsk ask_id answer) o → ServicesFit w → LinkedWorld w h → (own : OwnOfFinish w.names ask_id answer result names k written)
    → CoveredBy (entered_past (enters ask_id (finish_line result) names) ask_id o (settled_names true names).table (past_of h)) w.keys.keys.table.rows (after_table (settled_names k w.names).table (finish_op own.ask.id own.edek own.ask.ask)) []
own-covers w h ask_id answer o fault result ops names k written serves at fit l own = subst Covers same (covered-forget (past a.id) w.keys.keys.table.rows t (settled_names k w.names).walks
    (applied-covers w h answer o a fit.names l answered k own.edek (enters a.id (finish_line result) names) (settled_names true names).table own.gave own.free enters-it
    (open-drawn w h answer o a fit.names l answered answer fault result ops names open_serves) (open-lies w h answer o a fit.names l answered k own.edek answer fault result ops names own.free open_serves)))
  where
    a : OpenAsk
    a = own.ask

    same : a.id ≡ ask_id
    same = (open-in w.names.names.asks ask_id a own.was_open).1

    t : NameTable
    t = after_table (settled_names k w.names).table (finish_op a.id own.edek a.ask)

    past : ℕ → Past
    past id = entered_past (enters id (finish_line result) names) id o (settled_names true names).table (past_of h)

    Covers : ℕ → Type 0
    Covers id = CoveredBy (past id) w.keys.keys.table.rows t []

    answered : Answered w h a a.id answer o
    answered = own-answered w h ask_id answer o a own.was_open at

    open_serves : FinishServesOpen w.names a answer fault result ops names
    open_serves = subst (λ (q : Option OpenAsk). FinishServesAt w.names q answer fault result ops names) own.was_open serves

    enters-it : makes_entry a.id (Some (finish_op a.id own.edek a.ask)) ≡ true → enters a.id (finish_line result) names ≡ true
    enters-it = subst (λ (id : ℕ). makes_entry id (Some (finish_op a.id own.edek a.ask)) ≡ true → enters id (finish_line result) names ≡ true) (sym same) (written-enters w.names ask_id answer fault result ops names k written own serves)

pub own-of-finish : (w : WorldState) (h : Hidden) (words : ℕ → ℕ) (drawn : ℕ) (number : ℕ) (ask_id : ℕ) (answer : KeyAnswer) (fault : Type 0) (result : Result (Unit {0}) NameRefusal) (ops : List EditOp) (names : NameService)
    → FinishServes w.names ask_id answer fault result ops names → numbered w.kept.replies number ≡ Some (ToAsk ask_id answer) → ServicesFit w → LinkedWorld w h
    → OwnLinks w (past_of (hidden_after w words (event.Finish number) (finish_line result) drawn (record w { names = names }) h)) (OwnOfFinish w.names ask_id answer result names)
own-of-finish w h words drawn number ask_id answer fault result ops names serves at fit l k written own may =
    let drew = numbered-beside w.kept.replies h.replied number (ToAsk ask_id answer) l.draws.replies.as_many at in
    let enter : Bool = enters ask_id (finish_line result) names in
    let past : Past = entered_past enter ask_id drew.0 (settled_names true names).table (past_of h) in
    subst (λ (g : Hidden). NamesLinked (past_of g) w.keys.keys.table.rows (after_table (settled_names k w.names).table written)) (sym (finish-hidden w words h number drawn ask_id answer drew.0 result names at drew.1))
    (subst (λ (x : EditOp). NamesLinked (record past { place = h.place + drawn }) w.keys.keys.table.rows (after_table (settled_names k w.names).table x)) (sym own.is) (record {
      files = finish-files w h enter k own.ask ask_id answer drew.0 own.edek fit.names l.draws (record { opened = own.was_open; at = (number, at, drew.1) }) own.gave own.free
          (written-enters w.names ask_id answer fault result ops names k written own serves);
      covered = covered-place past (h.place + drawn) w.keys.keys.table.rows (after_table (settled_names k w.names).table (finish_op own.ask.id own.edek own.ask.ask)) []
          (own-covers w h ask_id answer drew.0 fault result ops names k written serves (number, at, drew.1) fit l own);
    }))

-- the edit log that a crash leaves

-- the pending operation as the one more that was written
pending-more : (k : Bool) (o : Option EditOp) (waiting : EditOp) (t : NameTable) → k ≡ false → o ≡ Some waiting → settled_names_table true o t ≡ after_table (settled_names_table k o t) waiting
pending-more true o waiting t fresh is = absurd cc
pending-more false None waiting t fresh is = absurd cc
pending-more false (Some q) waiting t fresh is = ap (after_table t) (some-is q waiting is)

files-more : (w : WorldState) (past : Past) (own : Bool → EditOp → Type 0) (k : Bool) (r : Replayed) (more : Option EditOp) (found : Bool) → r.table ≡ (settled_names k w.names).table → LinkedFiles w past → OwnLinks w past own
    → IfSome more (λ op. ((k ≡ false) × (w.names.pending ≡ Some op)) ⊎ own k op) → AppliesToNames r more → NamesLinked past w.keys.keys.table.rows (settled_names_table found more (settled_names k w.names).table)
files-more w past own k r None found is f links which fits = f.files k
files-more w past own k r (Some more) false is f links which fits = f.files k
files-more w past own k r (Some more) true is f links (inl waits) fits =
    subst (NamesLinked past w.keys.keys.table.rows) (pending-more k w.names.pending more w.names.names.table waits.0 waits.1) (f.files true)
files-more w past own k r (Some more) true is f links (inr mine) fits =
    links k more mine (ap (λ (t : NameTable). allows t more) (sym is) ∙ (and_parts (allows r.table more) (is_fresh r.used more) fits).0)

pub files-left : (w : WorldState) (past : Past) (own : Bool → EditOp → Type 0) (made : Replayed) (ops : List EditOp) (bytes : List ℕ) → made.table ≡ w.names.names.table → LinkedFiles w past → OwnLinks w past own
    → (left : IsLeftOf made w.names.pending own ops bytes) → (found : Bool) → NamesLinked past w.keys.keys.table.rows (settled_log found left.more (settled_log left.kept w.names.pending made)).table
files-left w past own made ops bytes is f links left found =
    let settled_is : (settled_log left.kept w.names.pending made).table ≡ (settled_names left.kept w.names).table = ap (λ (t : NameTable). settled_names_table left.kept w.names.pending t) is in
    subst (λ (t : NameTable). NamesLinked past w.keys.keys.table.rows (settled_names_table found left.more t)) (sym settled_is)
    (files-more w past own left.kept (settled_log left.kept w.names.pending made) left.more found settled_is f links left.more_is left.fits)

-- the number of the opening never falls
opening-rises : (t : NameTable) (more : EditOp) → allows t more ≡ true → t.opening ≤ (after_table t more).opening
opening-rises t (op.Opened opening) may = next t.opening opening may
  where
    next : (a b : ℕ) → (b == a + 1) ≡ true → a ≤ b
    next a b h = grind (arith, nat_tests)
opening-rises t (op.Mkdir id p) may = omega arith
opening-rises t (op.File id p edek) may = omega arith
opening-rises t (op.Remove p) may = omega arith
opening-rises t (op.Rename p q) may = omega arith
opening-rises t (op.Zone p key) may = omega arith
opening-rises t (op.Allow p) may = omega arith
opening-rises t (op.Disallow p) may = omega arith
opening-rises t (op.Snap p name) may = omega arith
opening-rises t (op.Unsnap p name) may = omega arith
opening-rises t (op.Submit session p noted) may = omega arith
opening-rises t (op.Update session failed mark files) may = omega arith
opening-rises t (op.Cancel session) may = omega arith
opening-rises t (op.Complete session) may = omega arith

opening-more : (r : Replayed) (more : Option EditOp) (found : Bool) → AppliesToNames r more → r.table.opening ≤ (settled_names_table found more r.table).opening
opening-more r None found fits = omega arith
opening-more r (Some more) false fits = omega arith
opening-more r (Some more) true fits = opening-rises r.table more (and_parts (allows r.table more) (is_fresh r.used more) fits).0

pub opening-left : (w : WorldState) (own : Bool → EditOp → Type 0) (made : Replayed) (ops : List EditOp) (bytes : List ℕ) → made.table ≡ w.names.names.table → ServicesFit w
    → (left : IsLeftOf made w.names.pending own ops bytes) → (found : Bool) → w.names.names.table.opening ≤ (settled_log found left.more (settled_log left.kept w.names.pending made)).table.opening
opening-left w own made ops bytes is fit left found =
    let same : (settled_log left.kept w.names.pending made).table.opening ≡ w.names.names.table.opening =
    ap (λ (t : NameTable). (settled_names_table left.kept w.names.pending t).opening) is ∙ opening-settled left.kept w.names fit.names in
    subst (λ (n : ℕ). n ≤ (settled_log found left.more (settled_log left.kept w.names.pending made)).table.opening) same (opening-more (settled_log left.kept w.names.pending made) left.more found left.fits)

-- and_parts tables

-- the keys of a log, which grew from the world's, and rows that are linked with the world's keys
tables-of-files : (w : WorldState) (past : Past) (keys : Table) (names : NameTable) → ServicesFit w → KeysLater w.keys.keys.table keys → HasRoomForBirths keys
    → LinkedFiles w past → w.names.names.table.opening ≤ names.opening → NamesLinked past w.keys.keys.table.rows names → LinkedTables past keys names
tables-of-files w past keys names fit grew room f rises files =
    record {
      files = files-later hidden (IsOldBirth w.keys.keys.table) w.keys.keys.table.rows keys.rows names f.draws grew.rows files.files;
      draws = draws-later hidden (IsOldBirth w.keys.keys.table) (IsRecordedBirth keys) (λ b old. old-recorded keys room b (grew.births b old)) f.draws;
      fits = record {
        one_draw = f.fits.one_draw;
        one_file = f.fits.one_file;
        below = λ id d i. let low = f.fits.below id d i in let few = fit.names.few in higher id w.names.names.table.opening names.opening w.names.names.next low few rises;
        recent = f.fits.recent;
        not_open = f.fits.not_open;
        its_ask = f.fits.its_ask;
      };
      versions = versions-later hidden (IsOldBirth w.keys.keys.table) w.keys.keys.table.rows keys.rows f.draws grew.rows f.versions;
      covered = covered-keys past w.keys.keys.table.rows keys.rows names [] (λ id d i. grew.rows d.birth (f.draws.born d (inl (id, i)))) files.covered;
    }
  where
    hidden : Hidden
    hidden = drawn_before past

    higher : (id old new next : ℕ) → id < old * 2 ^ 32 + next → next ≤ 2 ^ 32 → old ≤ new → id < (new + 1) * 2 ^ 32
    higher id old new next low few over = omega (arith, low, few, over)

-- the tables that a start finds in what a crash leaves of and_parts logs
pub tables-through : (w : WorldState) (past : Past) (own : Bool → EditOp → Type 0) (k found : Bool) (more : Option KeyCommand) (made : Replayed) (ops : List EditOp) (bytes : List ℕ) → ServicesFit w → Applies (settled k w.keys).table more
    → HasRoomForBirths (settled_table found more (settled k w.keys).table) → made.table ≡ w.names.names.table → LinkedFiles w past → OwnLinks w past own → (left : IsLeftOf made w.names.pending own ops bytes) → (found_names : Bool)
    → LinkedTables past (settled_table found more (settled k w.keys).table) (settled_log found_names left.more (settled_log left.kept w.names.pending made)).table
tables-through w past own k found more made ops bytes fit may room is f links left found_names =
    let grew = then-later w.keys.keys.table (settled k w.keys).table (settled_table found more (settled k w.keys).table) (later-settled k w.keys fit.keys) (later-with found more (settled k w.keys).table may) in
    tables-of-files w past (settled_table found more (settled k w.keys).table) (settled_log found_names left.more (settled_log left.kept w.names.pending made)).table fit grew room f
    (opening-left w own made ops bytes is fit left found_names) (files-left w past own made ops bytes is f links left found_names)
