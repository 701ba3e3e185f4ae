-- Each event keeps the world linked, and a linked world keeps the promise on zone files.
use Rattle.std.proofs.Common.{◌≡◌, inl, inr, ℕ, ◌+◌, ◌-◌, ◌*◌, ◌^◌, ◌≤◌, Bool, true, false, List, [], ◌∷◌, ◌++◌, length, Option, Some, None, Ok, Err, refl, sym, ap, subst, ◌∙◌, arith}
use Rattle.std.specs.Prelude.{drop}
use Rattle.std.specs.declared.result.Result.{Result}
use Rattle.hk_base.specs.declared.names.Edek.{Edek}
use Rattle.hk_base.specs.declared.names.KeyName.{KeyName}
use Rattle.eek_queues.specs.Queues.{Queue, ready_in}
use Rattle.key_rows.specs.declared.rows.KeyCommand.{KeyCommand}
use Rattle.key_rows.specs.declared.rows.KeyRow.{KeyRow}
use Rattle.kms_calls.specs.declared.calls.KmsCall.TheVariants as key_call
use Rattle.kms_calls.specs.declared.calls.KmsReply.{KmsReply}
use Rattle.kms_calls.specs.declared.calls.KmsReply.TheVariants as key_reply
use Rattle.kms_calls.specs.declared.calls.KmsRefusal.TheVariants as key_refusal
use Rattle.key_rows.specs.Sound.{NamesOnce}
use Rattle.key_rows.specs.Table.{Table}
use Rattle.prop_text.specs.declared.lines.PropLine.{PropLine}
use Rattle.name_calls.specs.Paths.{read_path}
use Rattle.name_calls.specs.ReadPaths.{read_any_path}
use Rattle.edit_ops.specs.declared.ops.EditOp.{EditOp}
use Rattle.kms_acls.specs.declared.answers.Denied.{Denied}
use Rattle.kms_acls.specs.declared.answers.Shown.{Shown}
use Rattle.kms_acls.specs.Verdict.{verdict}
use Rattle.kms_core.specs.Calls.{KmsActs, birth_of, current_material, row_of}
use Rattle.kms_core.specs.State.{IsService, KmsState, ServiceState, settled as settled_keys}
use Rattle.kms_core.specs.Users.{ServesUnder}
use Rattle.name_store.specs.Store.{is_opening}
use Rattle.name_store.specs.Table.{NameTable, after_table}
use Rattle.name_core.specs.declared.asks.OpenAsk.{OpenAsk}
use Rattle.name_calls.specs.declared.calls.Ask.{Ask}
use Rattle.name_calls.specs.declared.calls.Ask.TheVariants as ask
use Rattle.name_calls.specs.declared.calls.AskNote.{AskNote}
use Rattle.name_calls.specs.declared.calls.KeyAnswer.{KeyAnswer}
use Rattle.name_calls.specs.declared.calls.KeyAnswer.TheVariants.{Given, Refused}
use Rattle.name_calls.specs.declared.calls.NameCall.TheVariants as call
use Rattle.name_calls.specs.declared.calls.NameRefusal.{NameRefusal}
use Rattle.name_calls.specs.declared.calls.NameRefusal.TheVariants as refusal
use Rattle.name_calls.specs.declared.calls.Want.{Want}
use Rattle.name_calls.specs.declared.calls.Want.TheVariants as want
use Rattle.name_calls.specs.Answers.{answer_of}
use Rattle.name_core.specs.Asks.{FinishOutcome, Finishes, ask_gone, closed, finish_causes, finish_op, finished, open_ask, unless_stopped}
use Rattle.name_core.specs.Calls.{NoRoom, Plain, first_cause, superuser}
use Rattle.name_core.specs.Service.{FinishServes, FinishServesAt, FinishServesOpen, closed_service}
use Rattle.name_core.specs.State.{IsNames, NameService, NameState, next_id, settled, started}
use Rattle.hk_events.specs.declared.event.Event.{Event}
use Rattle.hk_events.specs.declared.event.Event.TheVariants as event
use Rattle.hk_events.specs.declared.event.Line.{Line}
use Rattle.hk_events.specs.declared.event.Line.TheVariants as line
use Rattle.world_run.specs.declared.kept.KeptReply.{KeptReply}
use Rattle.world_run.specs.declared.kept.KeptReply.TheVariants.{ToAsk, ToBatch}
use Rattle.world_run.specs.Acknowledged.{Acknowledged}
use Rattle.world_run.specs.World.{WorldState, numbered, with_reply}
use Rattle.world_run.specs.RenamePaths.{read_rename_paths, rename_along}
use Rattle.world_run.specs.SnapPaths.{read_snap_path, snap_at, unsnap_at}
use Rattle.world_run.specs.Step.{DrawActs, FinishReply, Step, WantActs, delete_with, finish_line, kept_reply, zone_with}
use Rattle.world_run.specs.Keeps.{KnowsWorld}
use Rattle.reenc_walk.specs.Walks.{WalkState}
use Rattle.world_run.specs.Covered.{CoveredBy}
use Rattle.world_run.specs.Ledger.{Draw, Hidden, Past, FilesAtSubmission, draw_noted, draw_of, draw_answered, entered, enters, entry_of, entry_under, first_of, hidden_after, id_of_reply, left_in, makes_entry, moved_on, past_of, starts_of}
use Rattle.world_run.specs.Promise.{FilesOpen, In, ZoneFilesOpen}
use Rattle.world_run.specs.Linked.{AreDrawsApart, FilesLinked, IsDrawn, IsOldBirth, KeyLinked, LedgerFits, LinkedDraws, LinkedTables, LinkedWorld, OpensTo, ReadyLinked, ServicesFit, WordsApart, given}
use Rattle.world_run.proofs.CoveredEnds.{covered-completed}
use Rattle.world_run.proofs.CoveredKeys.{covered-keys}
use Rattle.world_run.proofs.DrawLemmas.{OneDrawn, OneTaken, fresh-key, generate-one, meta-answers, opens-among, opens-named, words-of-dek}
use Rattle.world_run.proofs.FinishLemmas.{Answered, entered-files, entered_in, finish-drawn, finish-fits, finish-new, linked-finished, linked-unentered, open-in, unentered, with_entry}
use Rattle.world_run.proofs.Laters.{later-settled, may-wait, names-with}
use Rattle.kms_core.proofs.MemoryReads.{acts-from-memory}
use Rattle.world_run.proofs.Members.{in-append, numbered-beside, numbered-in, some-is}
use Rattle.world_run.proofs.PairLemmas.{in-drop, pairs-first, pairs-none}
use Rattle.world_run.proofs.RowsAfter.{files-after}
use Rattle.world_run.proofs.ServiceLaters.{ServiceLater, acts-state, same-service, user-state}
use Rattle.world_run.proofs.TicketLemmas.{deposit-keeps, ticket-keeps}
use Rattle.world_run.proofs.WorldLemmas.{AfterReply, IsFree, NewReply, StaysLinked, StillLinked, apart-fewer, apart-moved, apart-reply, drawn-moved, files-later, first-free, left-is, linked-keys, linked-reopened, linked-reply, linked-restart, linked-still, new-free, next-after, next-settled, rows-settled}
use Rattle.world_run.proofs.NameKeeps.{ask-at-keeps, call-keeps, path-keeps, settled-keeps, with-pending}
use Rattle.world_run.proofs.ServeKeeps.{serve-keeps}
use Rattle.world_run.proofs.UpdateKeeps.{deliver-keeps, give-up-keeps}
use Rattle.world_run.proofs.WalkKeeps.{walk-at-keeps}

-- draws

abbrev AfterDraw : WorldState → (ℕ → ℕ) → Hidden → AskNote → ℕ → ServiceState → Want → Option KmsReply → Type 0
AfterDraw w words h note drawn keys wanted reply =
    StaysLinked h (with_reply (kept_reply note reply) (record w { keys = keys })) (AfterReply h w.keys.keys.ready.queues keys.keys.ready.queues drawn (draw_answered w.keys.keys words h wanted reply))

-- a new reply with its draw
abbrev Answers : WorldState → Hidden → ServiceState → ℕ → KeptReply → Option Draw → Type 0
Answers w h keys drawn r o = NewReply h (left_in w.keys.keys.ready.queues keys.keys.ready.queues h.queued) (h.place + drawn) keys.keys.table r o

reply-stays : (w : WorldState) (h : Hidden) (keys : ServiceState) (drawn : ℕ) (r : KeptReply) (o : Option Draw) → ServiceLater w.keys keys → Answers w h keys drawn r o → LinkedDraws w h
    → StaysLinked h (with_reply r (record w { keys = keys })) (AfterReply h w.keys.keys.ready.queues keys.keys.ready.queues drawn o)
reply-stays w h keys drawn r o later new l = (linked-reply w h keys drawn r o later new l, apart-reply w h keys drawn r o later new)

-- a reply without a key
unkeyed-keeps : (w : WorldState) (h : Hidden) (words : ℕ → ℕ) (note : AskNote) (wanted : Want) (reply : Option KmsReply) (drawn : ℕ) (keys : ServiceState) → LinkedDraws w h → given (answer_of reply) ≡ None
    → draw_answered w.keys.keys words h wanted reply ≡ None → ServiceLater w.keys keys → AfterDraw w words h note drawn keys wanted reply
unkeyed-keeps w h words note wanted reply drawn keys l none undrawn later =
    subst (λ (d : Option Draw). StaysLinked h (with_reply (kept_reply note reply) (record w { keys = keys })) (AfterReply h w.keys.keys.ready.queues keys.keys.ready.queues drawn d)) (sym undrawn)
    (reply-stays w h keys drawn (kept_reply note reply) None later (
    record {
      opens = subst (λ (x : Option Edek). KeyLinked keys.keys.table.rows x None) (sym none) tt;
      free = λ d is. absurd cc;
      born = λ d is. absurd cc;
      recent = λ d is. absurd cc;
      back = tt;
    }) l)

-- and with the keys unchanged
unkeyed-same : (w : WorldState) (h : Hidden) (words : ℕ → ℕ) (note : AskNote) (wanted : Want) (reply : Option KmsReply) (drawn : ℕ) → LinkedDraws w h → given (answer_of reply) ≡ None
    → draw_answered w.keys.keys words h wanted reply ≡ None → AfterDraw w words h note drawn w.keys wanted reply
unkeyed-same w h words note wanted reply drawn l none undrawn = unkeyed-keeps w h words note wanted reply drawn w.keys l none undrawn (same-service w.keys)

-- the facts of one draw as those of the draw of a reply
keyed-answers : (w : WorldState) (h : Hidden) (keys : ServiceState) (drawn : ℕ) (note : AskNote) (e : Edek) (d : Draw) → keys.keys.table ≡ w.keys.keys.table → e.version ≡ d.version → e.iv ≡ d.iv → OpensTo w.keys.keys.table.rows d e
    → IsFree h (left_in w.keys.keys.ready.queues keys.keys.ready.queues h.queued) (h.place + drawn) d → IsOldBirth w.keys.keys.table d.birth → 2 ^ 32 ≤ d.birth
    → Answers w h keys drawn (kept_reply note (Some (key_reply.Ready (e ∷ [])))) (Some d)
keyed-answers w h keys drawn note e d same version vector opens free born recent =
    record {
      opens = (version, vector, subst (λ (t : Table). OpensTo t.rows d e) (sym same) opens);
      free = λ f is. subst (IsFree h (left_in w.keys.keys.ready.queues keys.keys.ready.queues h.queued) (h.place + drawn)) (some-is d f is) free;
      born = λ f is. subst (λ (x : Draw). IsOldBirth keys.keys.table x.birth) (some-is d f is) (subst (λ (t : Table). IsOldBirth t d.birth) (sym same) born);
      recent = λ f is. subst (λ (x : Draw). 2 ^ 32 ≤ x.birth) (some-is d f is) recent;
      back = tt;
    }

module _ (w : WorldState) (h : Hidden) (words : ℕ → ℕ) (now : ℕ) (note : AskNote) (name : KeyName) (reply : KmsReply) (drawn : ℕ) (changed : KmsState) (fit : ServicesFit w) (l : LinkedDraws w h)
    (acts : KmsActs w.keys.keys words now (key_call.Generate name 1) reply drawn changed) where
  abbrev changed_keys : ServiceState
  changed_keys = record w.keys { keys = changed }

  abbrev key_birth : ℕ
  key_birth = birth_of (row_of w.keys.keys name)

  abbrev old_queues : List Queue
  old_queues = w.keys.keys.ready.queues

  abbrev still_queued : ℕ → List Draw
  still_queued = left_in old_queues changed.ready.queues h.queued

  abbrev old_rows : List KeyRow
  old_rows = w.keys.keys.table.rows

  keys-later : ServiceLater w.keys changed_keys
  keys-later = acts-state w.keys.keys words now (key_call.Generate name 1) reply drawn changed fit.keys.births fit.keys.table.births acts

  was-queued : (b : ℕ) (f : Draw) → In f (still_queued b) → In f (h.queued b)
  was-queued b f i = in-drop (length (ready_in old_queues b) - length (ready_in changed.ready.queues b)) f (h.queued b) i

  -- the reply has the key, and this draw
  replied-with : (e : Edek) (d : Draw) → reply ≡ key_reply.Ready (e ∷ []) → first_of (h.queued key_birth) (draw_of w.keys.keys words h.place name) ≡ d
      → Answers w h changed_keys drawn (kept_reply note (Some (key_reply.Ready (e ∷ [])))) (Some d) → AfterDraw w words h note drawn changed_keys (want.Generate name) (Some reply)
  replied-with e d is first new =
      subst (λ (r : KmsReply). AfterDraw w words h note drawn changed_keys (want.Generate name) (Some r)) (sym is)
      (subst (λ (x : Draw). StaysLinked h (with_reply (kept_reply note (Some (key_reply.Ready (e ∷ [])))) (record w { keys = changed_keys })) (AfterReply h old_queues changed.ready.queues drawn (Some x))) (sym first)
      (reply-stays w h changed_keys drawn (kept_reply note (Some (key_reply.Ready (e ∷ [])))) (Some d) keys-later new l))

  taken-keeps : (e : Edek) → reply ≡ key_reply.Ready (e ∷ []) → OneTaken w.keys.keys name e changed → AfterDraw w words h note drawn changed_keys (want.Generate name) (Some reply)
  taken-keeps e is one =
      let begun = pairs-first (ReadyLinked old_rows key_birth) e one.rest (ready_in old_queues key_birth) (h.queued key_birth) one.first (l.queues.opens key_birth) in
      let d : Draw = begun.first in
      let member : In d (h.queued key_birth) = subst (λ (ds : List Draw). In d ds) (sym begun.is) (inl refl) in
      let drew : IsDrawn h d = inr (inr (key_birth, member)) in
      let loses : still_queued key_birth ≡ begun.rest = left-is (ReadyLinked old_rows key_birth) old_queues changed.ready.queues h.queued key_birth 1 one.left (l.queues.opens key_birth) ∙ ap (drop 1) begun.is in
      replied-with e d is (ap (λ (ds : List Draw). first_of ds (draw_of w.keys.keys words h.place name)) begun.is)
      (keyed-answers w h changed_keys drawn note e d one.same begun.linked.of_version begun.linked.of_iv begun.linked.opens
      (first-free h (IsOldBirth w.keys.keys.table) old_rows old_queues still_queued (h.place + drawn) key_birth d begun.rest l.draws l.queues was-queued begun.is loses (omega arith)) (l.draws.born d drew) (l.draws.recent d drew))

  drawn-keeps : (e : Edek) → reply ≡ key_reply.Ready (e ∷ []) → OneDrawn w.keys.keys words name e drawn changed → AfterDraw w words h note drawn changed_keys (want.Generate name) (Some reply)
  drawn-keeps e is one =
      let d : Draw = draw_of w.keys.keys words h.place name in
      let none : h.queued key_birth ≡ [] = pairs-none (ReadyLinked old_rows key_birth) (ready_in old_queues key_birth) (h.queued key_birth) one.none (l.queues.opens key_birth) in
      let fresh = fresh-key w.keys.keys words h.place now name e drawn changed fit.keys.table (subst (λ (r : KmsReply). KmsActs w.keys.keys words now (key_call.Generate name 1) r drawn changed) is acts) one in
      replied-with e d is (ap (λ (ds : List Draw). first_of ds d) none)
      (keyed-answers w h changed_keys drawn note e d one.same fresh.of_draw fresh.of_iv fresh.opens
      (new-free h (IsOldBirth w.keys.keys.table) still_queued (h.place + drawn) d l.draws was-queued (omega arith) (omega (arith, words-of-dek words (length (current_material w.keys.keys name)), one.took))) (inr fresh.born) fresh.recent)

  made-keeps : AfterDraw w words h note drawn changed_keys (want.Generate name) (Some reply)
  made-keeps = elim (generate-one w.keys.keys words now name reply drawn changed acts) [
    | inl refused ↦
        subst (λ (r : KmsReply). AfterDraw w words h note drawn changed_keys (want.Generate name) (Some r)) (sym refused.1)
        (unkeyed-keeps w h words note (want.Generate name) (Some (key_reply.Refused refused.0)) drawn changed_keys l refl refl keys-later)
    | inr ready ↦ elim ready.2 [ inl one ↦ taken-keeps ready.0 ready.1 one | inr one ↦ drawn-keeps ready.0 ready.1 one ]
  ]

-- the reply to the call that was wanted, by the verdict on the superuser

generate-keeps : (w : WorldState) (h : Hidden) (words : ℕ → ℕ) (now : ℕ) (note : AskNote) (name : KeyName) (fault tells : Type 0) (reply : KmsReply) (drawn : ℕ) (logged : List KeyCommand) (keys : ServiceState) (v : Result Shown Denied)
    → ServicesFit w → LinkedDraws w h → ServesUnder v w.keys words now (key_call.Generate name 1) fault tells reply drawn logged keys → AfterDraw w words h note drawn keys (want.Generate name) (Some reply)
generate-keeps w h words now note name fault tells reply drawn logged keys (Ok shown) fit l p =
    subst (λ (s : ServiceState). AfterDraw w words h note drawn s (want.Generate name) (Some reply)) (sym p.serves.left)
    (subst (λ (r : KmsReply). AfterDraw w words h note drawn (record w.keys { keys = p.serves.changed }) (want.Generate name) (Some r)) (sym p.reply_is)
    (made-keeps w h words now note name p.reply drawn p.serves.changed fit l p.serves.acts))
generate-keeps w h words now note name fault tells reply drawn logged keys (Err denied) fit l d =
    subst (λ (s : ServiceState). AfterDraw w words h note drawn s (want.Generate name) (Some reply)) (sym d.same)
    (subst (λ (r : KmsReply). AfterDraw w words h note drawn w.keys (want.Generate name) (Some r)) (sym d.reply_is)
    (unkeyed-same w h words note (want.Generate name) (Some (key_reply.Refused (key_refusal.Denied denied.table denied.op))) drawn l refl refl))

metadata-keeps : (w : WorldState) (h : Hidden) (words : ℕ → ℕ) (now : ℕ) (note : AskNote) (name : KeyName) (fault tells : Type 0) (reply : KmsReply) (drawn : ℕ) (logged : List KeyCommand) (keys : ServiceState) (v : Result Shown Denied)
    → LinkedDraws w h → ServesUnder v w.keys words now (key_call.Metadata name) fault tells reply drawn logged keys → AfterDraw w words h note drawn keys (want.Metadata name) (Some reply)
metadata-keeps w h words now note name fault tells reply drawn logged keys (Ok shown) l p =
    subst (λ (s : ServiceState). AfterDraw w words h note drawn s (want.Metadata name) (Some reply)) (sym p.serves.same)
    (subst (λ (r : KmsReply). AfterDraw w words h note drawn w.keys (want.Metadata name) (Some r)) (sym p.reply_is)
    (unkeyed-same w h words note (want.Metadata name) (Some p.reply) drawn l (meta-answers w.keys.keys words now name p.reply drawn w.keys.keys (acts-from-memory w.keys words now (key_call.Metadata name) fault tells p.reply drawn logged keys refl p.serves)) refl))
metadata-keeps w h words now note name fault tells reply drawn logged keys (Err denied) l d =
    subst (λ (s : ServiceState). AfterDraw w words h note drawn s (want.Metadata name) (Some reply)) (sym d.same)
    (subst (λ (r : KmsReply). AfterDraw w words h note drawn w.keys (want.Metadata name) (Some r)) (sym d.reply_is)
    (unkeyed-same w h words note (want.Metadata name) (Some (key_reply.Refused (key_refusal.Denied denied.table denied.op))) drawn l refl refl))

want-keeps : (lines : List PropLine) (w : WorldState) (h : Hidden) (words : ℕ → ℕ) (now : ℕ) (note : AskNote) (fault tells : Type 0) (reply : Option KmsReply) (drawn : ℕ) (logged : List KeyCommand) (keys : ServiceState) (wanted : Want)
    → ServicesFit w → LinkedDraws w h → WantActs lines w.keys words now wanted fault tells reply drawn logged keys → AfterDraw w words h note drawn keys wanted reply
want-keeps lines w h words now note fault tells reply drawn logged keys want.Nothing fit l a =
    subst (λ (s : ServiceState). AfterDraw w words h note drawn s want.Nothing reply) (sym a.same)
    (subst (λ (r : Option KmsReply). AfterDraw w words h note drawn w.keys want.Nothing r) (sym a.reply_is) (unkeyed-same w h words note want.Nothing None drawn l refl refl))
want-keeps lines w h words now note fault tells reply drawn logged keys (want.Generate name) fit l a =
    subst (λ (r : Option KmsReply). AfterDraw w words h note drawn keys (want.Generate name) r) (sym a.reply_is)
    (generate-keeps w h words now note name fault tells a.reply drawn logged keys (verdict lines superuser (key_call.Generate name 1)) fit l a.serves)
want-keeps lines w h words now note fault tells reply drawn logged keys (want.Metadata name) fit l a =
    subst (λ (r : Option KmsReply). AfterDraw w words h note drawn keys (want.Metadata name) r) (sym a.reply_is)
    (metadata-keeps w h words now note name fault tells a.reply drawn logged keys (verdict lines superuser (key_call.Metadata name)) l a.serves)

draw-keeps : (lines : List PropLine) (w : WorldState) (h : Hidden) (words : ℕ → ℕ) (now number : ℕ) (fault tells : Type 0) (outcome : Line) (drawn : ℕ) (logged : Acknowledged) (w' : WorldState) (o : Option AskNote) → ServicesFit w → LinkedDraws w h
    → numbered w.kept.notes number ≡ o → DrawActs lines w words now o fault tells outcome drawn logged w' → StaysLinked h w' (hidden_after w words (event.Draw number) outcome drawn w' h)
draw-keeps lines w h words now number fault tells outcome drawn logged w' None fit l is u =
    subst (λ (t : Line). StaysLinked h w' (hidden_after w words (event.Draw number) t drawn w' h)) (sym u.reply_is)
    (subst (λ (v : WorldState). StaysLinked h v (moved_on w.keys.keys.ready.queues v.keys.keys.ready.queues drawn h)) (sym u.same) (linked-still w h drawn l, apart-moved w.keys.keys.ready.queues w.keys.keys.ready.queues drawn h))
draw-keeps lines w h words now number fault tells outcome drawn logged w' (Some note) fit l is (inr u) =
    subst (λ (t : Line). StaysLinked h w' (hidden_after w words (event.Draw number) t drawn w' h)) (sym u.reply_is)
    (subst (λ (v : WorldState). StaysLinked h v (moved_on w.keys.keys.ready.queues v.keys.keys.ready.queues drawn h)) (sym u.same) (linked-still w h drawn l, apart-moved w.keys.keys.ready.queues w.keys.keys.ready.queues drawn h))
draw-keeps lines w h words now number fault tells outcome drawn logged w' (Some note) fit l is (inl a) =
    subst (λ (t : Line). StaysLinked h w' (hidden_after w words (event.Draw number) t drawn w' h)) (sym a.reply_is)
    (subst (λ (q : Option AskNote). StaysLinked h w' (AfterReply h w.keys.keys.ready.queues w'.keys.keys.ready.queues drawn (draw_noted w.keys.keys words h q a.reply))) (sym is)
    (subst (λ (v : WorldState). StaysLinked h v (AfterReply h w.keys.keys.ready.queues v.keys.keys.ready.queues drawn (draw_answered w.keys.keys words h note.want a.reply))) (sym a.left)
    (want-keeps lines w h words now note fault tells a.reply drawn a.commands a.keys note.want fit l a.acts)))

-- finishes

-- what is hidden with the entry of a kept reply, if this is the state of the namesystem then
abbrev entered_by : Option KeptReply → Option (Option Draw) → Line → NameService → Hidden → Hidden
entered_by kept o outcome names h =
    let entry = entered (enters (id_of_reply kept) outcome names) (entry_of kept o) in
    record h { ledger = h.ledger ++ entry; starts = h.starts ++ starts_of (settled true names).table entry }

-- and so after a finish
pub finish-hidden : (w : WorldState) (words : ℕ → ℕ) (h : Hidden) (number drawn : ℕ) (ask_id : ℕ) (answer : KeyAnswer) (o : Option Draw) (result : Result (Unit {0}) NameRefusal) (names : NameService)
    → numbered w.kept.replies number ≡ Some (ToAsk ask_id answer) → numbered h.replied number ≡ Some o
    → hidden_after w words (event.Finish number) (finish_line result) drawn (record w { names = names }) h
    ≡ moved_on w.keys.keys.ready.queues w.keys.keys.ready.queues drawn (entered_in (enters ask_id (finish_line result) names) ask_id o (settled true names).table h)
finish-hidden w words h number drawn ask_id answer o result names at drew =
    ap (λ (k : Option KeptReply). moved_on w.keys.keys.ready.queues w.keys.keys.ready.queues drawn (entered_by k (numbered h.replied number) (finish_line result) names h)) at
    ∙ ap (λ (d : Option (Option Draw)). moved_on w.keys.keys.ready.queues w.keys.keys.ready.queues drawn (entered_by (Some (ToAsk ask_id answer)) d (finish_line result) names h)) drew

-- the operation of a finish that nothing stops keeps the files linked
pub finish-files : (w : WorldState) (h : Hidden) (enter : Bool) (k : Bool) (a : OpenAsk) (ask_id : ℕ) (answer : KeyAnswer) (o : Option Draw) (edek : Option Edek) → IsNames w.names → LinkedDraws w h → Answered w h a ask_id answer o
    → answer ≡ Given edek → first_cause (finish_causes (settled k w.names).table.rows (settled k w.names).table.statuses a edek a.ask) ≡ None → (makes_entry ask_id (Some (finish_op a.id edek a.ask)) ≡ true → enter ≡ true)
    → FilesLinked (with_entry enter ask_id o h.ledger) w.keys.keys.table.rows (after_table (settled k w.names).table (finish_op a.id edek a.ask))
finish-files w h enter k a ask_id answer o edek fit l answered said free enters =
    let linked : KeyLinked w.keys.keys.table.rows edek o = subst (λ (x : KeyAnswer). KeyLinked w.keys.keys.table.rows (given x) o) said (l.replies.keys_open (ToAsk ask_id answer) o answered.at) in
    let member = open-in w.names.names.asks ask_id a answered.opened in
    files-after (with_entry enter ask_id o h.ledger) w.keys.keys.table.rows (settled k w.names).table (finish_op a.id edek a.ask) (rows-settled k w.names fit)
    (finish-fits (settled k w.names).table.rows (settled k w.names).table.statuses a edek a.ask free)
    (finish-drawn enter h.ledger w.keys.keys.table.rows (settled k w.names).table.rows (settled k w.names).table.statuses a ask_id o edek a.ask member.1 linked free enters)
    (finish-new h.ledger w.kept.replies h.replied w.names.names.asks (next_id w.names.names) (settled k w.names).table.statuses a edek a.ask member.0 l.ledger (l.files k).statuses)
    (entered-files h.ledger (entered enter (entry_under ask_id o)) w.keys.keys.table.rows (settled k w.names).table (l.files k))

-- a finish with this answer, and this state after it, keeps the world linked, with the entry of its draw or without
abbrev FinishKeeps : WorldState → Hidden → ℕ → Option Draw → Result (Unit {0}) NameRefusal → NameService → Type 0
FinishKeeps w h ask_id o result names = LinkedDraws (record w { names = names }) (entered_in (enters ask_id (finish_line result) names) ask_id o (settled true names).table h)

no-opening : (id : ℕ) (edek : Option Edek) (x : Ask) → is_opening (finish_op id edek x) ≡ false
no-opening id edek (ask.Create p) = refl
no-opening id edek (ask.Zone p key) = refl
no-opening id edek (ask.Submit p) = refl

-- the state after it is replaced by an equal one
ends-keeps : (w : WorldState) (h : Hidden) (ask_id : ℕ) (o : Option Draw) (result outcome : Result (Unit {0}) NameRefusal) (left names : NameService) → outcome ≡ result → names ≡ left
    → FinishKeeps w h ask_id o result left → FinishKeeps w h ask_id o outcome names
ends-keeps w h ask_id o result outcome left names same is l = subst (λ (r : Result (Unit {0}) NameRefusal). FinishKeeps w h ask_id o r names) (sym same) (subst (λ (n : NameService). FinishKeeps w h ask_id o result n) (sym is) l)

module _ (w : WorldState) (h : Hidden) (ask_id : ℕ) (answer : KeyAnswer) (o : Option Draw) (a : OpenAsk) (fit : IsNames w.names) (l : LinkedDraws w h) (answered : Answered w h a ask_id answer o) where
  -- the ask is closed, and the pending operation is still pending
  pub closed-keeps : (enter : Bool) (t : NameTable) → LinkedDraws (record w { names = closed_service w.names a }) (entered_in enter ask_id o t h)
  closed-keeps enter t =
      linked-finished w h enter a ask_id answer o t (closed_service w.names a) fit answered refl refl
      (λ k. entered-files h.ledger (entered enter (entry_under ask_id o)) w.keys.keys.table.rows (settled k w.names).table (l.files k)) l

  -- or was settled
  settled-closed : (enter : Bool) (k : Bool) → LinkedDraws (record w { names = record { names = closed (settled k w.names) a.id; pending = None } }) (entered_in enter ask_id o (settled k w.names).table h)
  settled-closed enter k =
      linked-finished w h enter a ask_id answer o (settled k w.names).table (record { names = closed (settled k w.names) a.id; pending = None }) fit answered refl (next-settled k w.names fit)
      (λ b. entered-files h.ledger (entered enter (entry_under ask_id o)) w.keys.keys.table.rows (settled k w.names).table (l.files k)) l

  written-keeps : (k : Bool) (edek : Option Edek) (result : Result (Unit {0}) NameRefusal) (changed : NameState) → answer ≡ Given edek → Finishes (settled k w.names) a edek result changed
      → FinishKeeps w h ask_id o result (record { names = changed; pending = None })
  written-keeps k edek result changed said (NoRoom, may, is) =
      subst (λ (x : FinishOutcome). FinishKeeps w h ask_id o x.reply (record { names = x.state; pending = None })) (sym is) (linked-unentered _ h (settled-keeps w h k fit l))
  written-keeps k edek result changed said (Plain, may, is) =
      subst (λ (x : FinishOutcome). FinishKeeps w h ask_id o x.reply (record { names = x.state; pending = None })) (sym is) (go (first_cause (finish_causes (settled k w.names).table.rows (settled k w.names).table.statuses a edek a.ask)) refl)
    where
      go : (c : Option NameRefusal) → first_cause (finish_causes (settled k w.names).table.rows (settled k w.names).table.statuses a edek a.ask) ≡ c
          → FinishKeeps w h ask_id o (unless_stopped c (settled k w.names) a edek).reply (record { names = (unless_stopped c (settled k w.names) a edek).state; pending = None })
      go (Some why) cause = settled-closed (enters ask_id (line.Refused why) (record { names = closed (settled k w.names) a.id; pending = None })) k
      go None free =
          linked-finished w h true a ask_id answer o (finished (settled k w.names) a edek).table (record { names = finished (settled k w.names) a edek; pending = None }) fit answered refl
          (next-after (closed (settled k w.names) a.id) (finish_op a.id edek a.ask) (no-opening a.id edek a.ask) ∙ next-settled k w.names fit)
          (λ b. finish-files w h true k a ask_id answer o edek fit l answered said free (λ e. refl)) l

  -- the operation is left pending
  unwritten-keeps : (k : Bool) (edek : Option Edek) → answer ≡ Given edek → first_cause (finish_causes (settled k w.names).table.rows (settled k w.names).table.statuses a edek a.ask) ≡ None
      → FinishKeeps w h ask_id o (Err refusal.StoreFault) (record { names = closed (settled k w.names) a.id; pending = Some (finish_op a.id edek a.ask) })
  unwritten-keeps k edek said free =
      let enter : Bool = makes_entry ask_id (Some (finish_op a.id edek a.ask)) in
      linked-finished w h enter a ask_id answer o (after_table (settled k w.names).table (finish_op a.id edek a.ask)) (record { names = closed (settled k w.names) a.id; pending = Some (finish_op a.id edek a.ask) }) fit answered refl (next-settled k w.names fit)
      (with-pending (with_entry enter ask_id o h.ledger) w.keys.keys.table.rows (settled k w.names).table (finish_op a.id edek a.ask)
      (entered-files h.ledger (entered enter (entry_under ask_id o)) w.keys.keys.table.rows (settled k w.names).table (l.files k))
      (finish-files w h enter k a ask_id answer o edek fit l answered said free (λ e. e))) l

  open-keeps : (gave : KeyAnswer) (fault : Type 0) (result : Result (Unit {0}) NameRefusal) (ops : List EditOp) (names : NameService) → answer ≡ gave
      → FinishServesOpen w.names a gave fault result ops names → FinishKeeps w h ask_id o result names
  open-keeps (Refused why) fault result ops names said e = ends-keeps w h ask_id o (Err (refusal.KeyRefused why)) result (closed_service w.names a) names e.reply_is e.left_is (closed-keeps false (settled true w.names).table)
  open-keeps (Given edek) fault result ops names said (inl u) =
      ends-keeps w h ask_id o (Err refusal.StoreFault) result (closed_service w.names a) names u.ends.reply_is u.ends.left_is (closed-keeps (makes_entry ask_id w.names.pending) (settled true w.names).table)
  open-keeps (Given edek) fault result ops names said (inr (k, inl d)) =
      ends-keeps w h ask_id o result result (record { names = d.changed; pending = None }) names refl d.left (written-keeps k edek result d.changed said d.finishes)
  open-keeps (Given edek) fault result ops names said (inr (k, inr u)) =
      ends-keeps w h ask_id o (Err refusal.StoreFault) result (record { names = closed (settled k w.names) a.id; pending = Some (finish_op a.id edek a.ask) }) names u.reply_is u.left
      (unwritten-keeps k edek said u.free)

finish-keeps : (w : WorldState) (words : ℕ → ℕ) (h : Hidden) (number drawn : ℕ) (ask_id : ℕ) (answer : KeyAnswer) (fault : Type 0) (result : Result (Unit {0}) NameRefusal) (ops : List EditOp) (names : NameService) → IsNames w.names → LinkedDraws w h
    → numbered w.kept.replies number ≡ Some (ToAsk ask_id answer) → FinishServes w.names ask_id answer fault result ops names
    → LinkedDraws (record w { names = names }) (hidden_after w words (event.Finish number) (finish_line result) drawn (record w { names = names }) h)
finish-keeps w words h number drawn ask_id answer fault result ops names fit l at serves =
    let drew = numbered-beside w.kept.replies h.replied number (ToAsk ask_id answer) l.replies.as_many at in
    subst (LinkedDraws (record w { names = names })) (sym (finish-hidden w words h number drawn ask_id answer drew.0 result names at drew.1))
    (linked-still (record w { names = names }) (entered_in (enters ask_id (finish_line result) names) ask_id drew.0 (settled true names).table h) drawn (go drew.0 drew.1 (open_ask w.names.names.asks ask_id) refl serves))
  where
    go : (o : Option Draw) → numbered h.replied number ≡ Some o → (q : Option OpenAsk) → open_ask w.names.names.asks ask_id ≡ q → FinishServesAt w.names q answer fault result ops names → FinishKeeps w h ask_id o result names
    go o drew None gone e = ends-keeps w h ask_id o (Err (ask_gone w.names.names)) result w.names names e.reply_is e.left_is (linked-unentered w h l)
    go o drew (Some a) found s = open-keeps w h ask_id answer o a fit l (record { opened = found; at = (number, at, drew) }) answer fault result ops names refl s

finish-reply-keeps : (w : WorldState) (words : ℕ → ℕ) (h : Hidden) (number : ℕ) (fault : Type 0) (outcome : Line) (drawn : ℕ) (logged : Acknowledged) (w' : WorldState) (o : Option KeptReply) → IsNames w.names → LinkedDraws w h
    → numbered w.kept.replies number ≡ o → FinishReply w o fault outcome drawn logged w' → LinkedDraws w' (hidden_after w words (event.Finish number) outcome drawn w' h)
finish-reply-keeps w words h number fault outcome drawn logged w' None fit l at u =
    subst (λ (t : Line). LinkedDraws w' (hidden_after w words (event.Finish number) t drawn w' h)) (sym u.reply_is)
    (subst (λ (v : WorldState). LinkedDraws v (moved_on w.keys.keys.ready.queues v.keys.keys.ready.queues drawn (unentered h))) (sym u.same) (linked-still w (unentered h) drawn (linked-unentered w h l)))
finish-reply-keeps w words h number fault outcome drawn logged w' (Some (ToBatch reply)) fit l at u =
    subst (λ (t : Line). LinkedDraws w' (hidden_after w words (event.Finish number) t drawn w' h)) (sym u.reply_is)
    (subst (λ (v : WorldState). LinkedDraws v (moved_on w.keys.keys.ready.queues v.keys.keys.ready.queues drawn (unentered h))) (sym u.same) (linked-still w (unentered h) drawn (linked-unentered w h l)))
finish-reply-keeps w words h number fault outcome drawn logged w' (Some (ToAsk ask_id answer)) fit l at f =
    subst (λ (t : Line). LinkedDraws w' (hidden_after w words (event.Finish number) t drawn w' h)) (sym f.reply_is)
    (subst (λ (v : WorldState). LinkedDraws v (hidden_after w words (event.Finish number) (finish_line f.result) drawn v h)) (sym f.left)
    (finish-keeps w words h number drawn ask_id answer fault f.result f.ops f.names fit l at f.finishes))

-- each event

pub keeps-linked : (lines : List PropLine) (w : WorldState) (words : ℕ → ℕ) (now : ℕ) (e : Event) (fault tells : Type 0) (outcome : Line) (drawn : ℕ) (logged : Acknowledged) (w' : WorldState) (h : Hidden) → KnowsWorld e tells → ServicesFit w
    → Step lines w words now e fault tells outcome drawn logged w' → LinkedDraws w h → LinkedDraws w' (hidden_after w words e outcome drawn w' h)
keeps-linked lines w words now (event.Kms user c) fault tells outcome drawn logged w' h knows fit s l =
    subst (StillLinked w h drawn) (sym s.left) (linked-keys w h s.keys drawn (user-state lines user w.keys words now c fault tells s.reply drawn s.commands s.keys fit.keys s.serves) l)
keeps-linked lines w words now event.Ticket fault tells outcome drawn logged w' h knows fit s l = ticket-keeps w h outcome drawn logged w' fit.keys l s
keeps-linked lines w words now (event.Deposit number) fault tells outcome drawn logged w' h knows fit s l = (deposit-keeps w h words number outcome drawn logged w' (numbered w.kept.tickets number) fit.keys l refl s).0
keeps-linked lines w words now event.RestartKms fault tells outcome drawn logged w' h knows fit s l =
    subst (StillLinked w h drawn) (sym s.left) (linked-restart w h drawn (s.found knows).kept s.table (s.found knows).table_is fit.keys l)
keeps-linked lines w words now event.RestartName fault tells outcome drawn logged w' h knows fit s l =
    subst (StillLinked w h drawn) (sym s.left) (linked-still (record w { names = started w.names.names.batch s.table }) h drawn (linked-reopened w h (s.found knows).kept s.table (s.found knows).table_is fit.names l))
keeps-linked lines w words now (event.Mkdir user p) fault tells outcome drawn logged w' h knows fit s l = path-keeps w h user call.Mkdir (read_path p) fault outcome drawn logged w' fit.names l s
keeps-linked lines w words now (event.Delete user p recursive) fault tells outcome drawn logged w' h knows fit s l = path-keeps w h user (delete_with recursive) (read_path p) fault outcome drawn logged w' fit.names l s
keeps-linked lines w words now (event.Rename user p q) fault tells outcome drawn logged w' h knows fit s l = path-keeps w h user rename_along (read_rename_paths p q) fault outcome drawn logged w' fit.names l s
keeps-linked lines w words now (event.Info user p) fault tells outcome drawn logged w' h knows fit s l = path-keeps w h user call.Info (read_any_path p) fault outcome drawn logged w' fit.names l s
keeps-linked lines w words now (event.List user p) fault tells outcome drawn logged w' h knows fit s l = path-keeps w h user call.List (read_any_path p) fault outcome drawn logged w' fit.names l s
keeps-linked lines w words now (event.Allow user p) fault tells outcome drawn logged w' h knows fit s l = path-keeps w h user call.Allow (read_path p) fault outcome drawn logged w' fit.names l s
keeps-linked lines w words now (event.Disallow user p) fault tells outcome drawn logged w' h knows fit s l = path-keeps w h user call.Disallow (read_path p) fault outcome drawn logged w' fit.names l s
keeps-linked lines w words now (event.Snap user p name) fault tells outcome drawn logged w' h knows fit s l = path-keeps w h user snap_at (read_snap_path p name) fault outcome drawn logged w' fit.names l s
keeps-linked lines w words now (event.Unsnap user p name) fault tells outcome drawn logged w' h knows fit s l = path-keeps w h user unsnap_at (read_snap_path p name) fault outcome drawn logged w' fit.names l s
keeps-linked lines w words now (event.Cancel user p) fault tells outcome drawn logged w' h knows fit s l = path-keeps w h user call.Cancel (read_path p) fault outcome drawn logged w' fit.names l s
keeps-linked lines w words now (event.Status user p) fault tells outcome drawn logged w' h knows fit s l = path-keeps w h user call.Status (read_path p) fault outcome drawn logged w' fit.names l s
keeps-linked lines w words now (event.Zones user) fault tells outcome drawn logged w' h knows fit s l =
    subst (StillLinked w h drawn) (sym s.left) (linked-still (record w { names = s.names }) h drawn (call-keeps w h user call.Zones fault s.reply s.ops s.names fit.names l s.serves))
keeps-linked lines w words now (event.AskCreate user p) fault tells outcome drawn logged w' h knows fit s l = ask-at-keeps w h user ask.Create (read_path p) outcome drawn w' l s.1
keeps-linked lines w words now (event.AskZone user p key) fault tells outcome drawn logged w' h knows fit s l = ask-at-keeps w h user (zone_with key) (read_path p) outcome drawn w' l s.1
keeps-linked lines w words now (event.AskSubmit user p) fault tells outcome drawn logged w' h knows fit s l = ask-at-keeps w h user ask.Submit (read_path p) outcome drawn w' l s.1
keeps-linked lines w words now (event.Draw number) fault tells outcome drawn logged w' h knows fit s l = (draw-keeps lines w h words now number fault tells outcome drawn logged w' (numbered w.kept.notes number) fit l refl s).0
keeps-linked lines w words now (event.Finish number) fault tells outcome drawn logged w' h knows fit s l = finish-reply-keeps w words h number fault outcome drawn logged w' (numbered w.kept.replies number) fit.names l refl s
keeps-linked lines w words now (event.Walk p) fault tells outcome drawn logged w' h knows fit s l = walk-at-keeps w h (read_path p) fault outcome drawn logged w' fit.names l s
keeps-linked lines w words now (event.Serve number) fault tells outcome drawn logged w' h knows fit s l = (serve-keeps lines w h words now number fault tells outcome drawn logged w' (numbered w.kept.batches number) knows fit l refl s).0
keeps-linked lines w words now (event.Deliver number) fault tells outcome drawn logged w' h knows fit s l = deliver-keeps w h number (numbered w.kept.replies number) fault outcome drawn logged w' fit.names l refl s
keeps-linked lines w words now (event.GiveUp number) fault tells outcome drawn logged w' h knows fit s l = give-up-keeps w h (numbered w.kept.batches number) fault outcome drawn logged w' fit.names l s

-- draws that were apart

apart-finish : (before after : List Queue) (h : Hidden) (drawn : ℕ) (enter : Bool) (kept : Option KeptReply) (o : Option (Option Draw)) (starts : FilesAtSubmission) → ((x : Option Draw) → o ≡ Some x → In x h.replied) → WordsApart h
    → WordsApart (record (moved_on before after drawn h) { ledger = h.ledger ++ entered enter (entry_of kept o); starts = starts })
apart-finish before after h drawn enter kept o starts is_kept f = apart-fewer h then was (omega arith) f
  where
    then : Hidden
    then = record (moved_on before after drawn h) { ledger = h.ledger ++ entered enter (entry_of kept o); starts = starts }

    drew : (d : Draw) (id : ℕ) (b : Bool) (k : Option KeptReply) (q : Option (Option Draw)) → ((x : Option Draw) → q ≡ Some x → In x h.replied) → In (id, d) (entered b (entry_of k q)) → In (Some d) h.replied
    drew d id false k q has i = absurd i
    drew d id true None q has i = absurd i
    drew d id true (Some (ToBatch reply)) q has i = absurd i
    drew d id true (Some (ToAsk ask_id answer)) None has i = absurd i
    drew d id true (Some (ToAsk ask_id answer)) (Some None) has i = absurd i
    drew d id true (Some (ToAsk ask_id answer)) (Some (Some g)) has (inl is) = subst (λ (x : Draw). In (Some x) h.replied) (sym (ap (λ (e : ℕ × Draw). e.1) is)) (has (Some g) refl)
    drew d id true (Some (ToAsk ask_id answer)) (Some (Some g)) has (inr none) = absurd none

    was : (d : Draw) → IsDrawn then d → IsDrawn h d
    was d (inl (id, i)) = elim (in-append (id, d) h.ledger (entered enter (entry_of kept o)) i) [ inl old ↦ inl (id, old) | inr new ↦ inr (inl (drew d id enter kept o is_kept new)) ]
    was d (inr i) = drawn-moved before after drawn h d (inr i)

words-stay : (lines : List PropLine) (w : WorldState) (words : ℕ → ℕ) (now : ℕ) (e : Event) (fault tells : Type 0) (outcome : Line) (drawn : ℕ) (logged : Acknowledged) (w' : WorldState) (h : Hidden) → KnowsWorld e tells → ServicesFit w
    → Step lines w words now e fault tells outcome drawn logged w' → LinkedDraws w h → WordsApart h → WordsApart (hidden_after w words e outcome drawn w' h)
words-stay lines w words now e fault tells outcome drawn logged w' h knows fit s l f = go e knows s
  where
    before : List Queue
    before = w.keys.keys.ready.queues

    after : List Queue
    after = w'.keys.keys.ready.queues

    moved : WordsApart (moved_on before after drawn h)
    moved = apart-moved before after drawn h f

    go : (e : Event) → KnowsWorld e tells → Step lines w words now e fault tells outcome drawn logged w' → WordsApart (hidden_after w words e outcome drawn w' h)
    go (event.Kms user c) knows s = moved
    go event.Ticket knows s = moved
    go (event.Deposit number) knows s = (deposit-keeps w h words number outcome drawn logged w' (numbered w.kept.tickets number) fit.keys l refl s).1 f
    go event.RestartKms knows s = moved
    go event.RestartName knows s = moved
    go (event.Mkdir user p) knows s = moved
    go (event.Delete user p recursive) knows s = moved
    go (event.Rename user p q) knows s = moved
    go (event.Info user p) knows s = moved
    go (event.List user p) knows s = moved
    go (event.Allow user p) knows s = moved
    go (event.Disallow user p) knows s = moved
    go (event.Snap user p name) knows s = moved
    go (event.Unsnap user p name) knows s = moved
    go (event.Cancel user p) knows s = moved
    go (event.Status user p) knows s = moved
    go (event.Zones user) knows s = moved
    go (event.AskCreate user p) knows s = moved
    go (event.AskZone user p key) knows s = moved
    go (event.AskSubmit user p) knows s = moved
    go (event.Draw number) knows s = (draw-keeps lines w h words now number fault tells outcome drawn logged w' (numbered w.kept.notes number) fit l refl s).1 f
    go (event.Finish number) knows s =
        apart-finish before after h drawn (enters (id_of_reply (numbered w.kept.replies number)) outcome w'.names) (numbered w.kept.replies number) (numbered h.replied number) _ (λ x at. numbered-in h.replied number x at) f
    go (event.Walk p) knows s = moved
    go (event.Serve number) knows s = (serve-keeps lines w h words now number fault tells outcome drawn logged w' (numbered w.kept.batches number) knows fit l refl s).1 f
    go (event.Deliver number) knows s = moved
    go (event.GiveUp number) knows s = moved

-- and the draws of two files are apart, if each file has a draw of its own
pub files-apart : (h : Hidden) (replies : List KeptReply) (asks : List OpenAsk) (next : ℕ) → LedgerFits h.ledger replies h.replied asks next → WordsApart h → AreDrawsApart h
files-apart h replies asks next fits f = record {
  words = f;
  files = record {
    apart = λ i j d g p q unlike. elim (f.apart d g (inl (i, p)) (inl (j, q))) [
      | inl same ↦ absurd (unlike (fits.one_file i j d p (subst (λ (x : Draw). In (j, x) h.ledger) (sym same) q)))
      | inr away ↦ away
    ];
  };
}

pub world-apart : (w : WorldState) (h : Hidden) → LinkedDraws w h → WordsApart h → AreDrawsApart h
world-apart w h l f = files-apart h w.kept.replies w.names.names.asks (next_id w.names.names) l.ledger f

pub draws-stay : (lines : List PropLine) (w : WorldState) (words : ℕ → ℕ) (now : ℕ) (e : Event) (fault tells : Type 0) (outcome : Line) (drawn : ℕ) (logged : Acknowledged) (w' : WorldState) (h : Hidden) → KnowsWorld e tells → ServicesFit w
    → Step lines w words now e fault tells outcome drawn logged w' → LinkedDraws w h → WordsApart h → AreDrawsApart (hidden_after w words e outcome drawn w' h)
draws-stay lines w words now e fault tells outcome drawn logged w' h knows fit s l f =
    world-apart w' (hidden_after w words e outcome drawn w' h) (keeps-linked lines w words now e fault tells outcome drawn logged w' h knows fit s l)
    (words-stay lines w words now e fault tells outcome drawn logged w' h knows fit s l f)

-- the promise

files-open : (past : Past) (replied : List (Option Draw)) (keys : List KeyRow) (names : NameTable) (walks : List WalkState) (replies : List KeptReply) (asks : List OpenAsk) (next : ℕ) → NamesOnce keys → FilesLinked past.ledger keys names
    → LedgerFits past.ledger replies replied asks next → CoveredBy past keys names walks → FilesOpen past keys names
files-open past replied keys names walks replies asks next once f fits covered =
    record {
      open_up = λ row e i is.
          let d = f.files row e i is in
          record {
            draw = d.draw;
            entered = d.entered;
            of_key = d.of_key;
            carries = d.carries;
            opens = λ key j birth. let alone = (d.opens key j birth).opens in (opens-named key e d.draw.dek alone ∙ d.of_key, opens-among keys key e d.draw.dek once j alone);
            long = λ key j birth. let so = d.opens key j birth in (so.long, so.vector);
          };
      one_draw = fits.one_draw;
      of_zone = f.zones;
      completed = covered-completed past keys names walks covered;
    }

pub linked-promise : (w : WorldState) (h : Hidden) → IsService w.keys → LinkedWorld w h → ZoneFilesOpen w h
linked-promise w h fit l kept_keys kept_names =
    let later = later-settled kept_keys w.keys fit in
    files-open (past_of h) h.replied (settled_keys kept_keys w.keys).table.rows (settled kept_names w.names).table (settled kept_names w.names).walks w.kept.replies w.names.names.asks (next_id w.names.names)
    (names-with kept_keys w.keys.pending w.keys.keys.table fit.table (may-wait w.keys.pending w.keys.keys fit.waits))
    (files-later h (IsOldBirth w.keys.keys.table) w.keys.keys.table.rows (settled_keys kept_keys w.keys).table.rows (settled kept_names w.names).table l.draws.draws later.rows (l.draws.files kept_names))
    l.draws.ledger
    (covered-keys (past_of h) w.keys.keys.table.rows (settled_keys kept_keys w.keys).table.rows (settled kept_names w.names).table (settled kept_names w.names).walks
    (λ id d i. later.rows d.birth (l.draws.draws.born d (inl (id, i)))) (l.covered kept_names))

pub tables-open : (past : Past) (keys : Table) (names : NameTable) → NamesOnce keys.rows → LinkedTables past keys names → FilesOpen past keys.rows names
tables-open past keys names once l = files-open past [] keys.rows names [] [] [] ((names.opening + 1) * 2 ^ 32) once l.files l.fits l.covered
