-- Which answers tell of a fault of the disk.
use Rattle.std.proofs.Common.{◌≡◌, ◌≢◌, ◌∙◌, inl, inr, ℕ, ◌+◌, suc, Bool, true, false, List, [], ◌∷◌, ◌++◌, length, ap, arith, refl, subst, sym}
use Rattle.std.specs.Prelude.{Option, None, Some, Result, Ok, Err, if◌then◌else◌}
use Rattle.std.specs.List.{slice_get}
use Rattle.hk_base.specs.declared.names.Edek.{Edek}
use Rattle.hk_base.specs.declared.names.KeyName.{KeyName}
use Rattle.hk_events.specs.declared.event.Event.TheVariants as event
use Rattle.hk_events.specs.declared.event.Line.{Line}
use Rattle.hk_events.specs.declared.event.Line.TheVariants as line
use Rattle.inode_tree.specs.Rows.{Entry, row_at}
use Rattle.inode_tree.specs.declared.rows.Kind.{Kind}
use Rattle.inode_tree.specs.declared.rows.Kind.TheVariants.{Dir, File}
use Rattle.inode_tree.specs.declared.rows.Row.{Row}
use Rattle.key_rows.specs.declared.rows.KeyCommand.{KeyCommand}
use Rattle.kms_acls.specs.Verdict.{verdict}
use Rattle.kms_acls.specs.declared.answers.Denied.{Denied}
use Rattle.kms_acls.specs.declared.answers.Shown.{Shown}
use Rattle.kms_calls.specs.declared.calls.KmsCall.{KmsCall}
use Rattle.kms_calls.specs.declared.calls.KmsCall.TheVariants as call
use Rattle.kms_calls.specs.declared.calls.KmsRefusal.{KmsRefusal}
use Rattle.kms_calls.specs.declared.calls.KmsRefusal.TheVariants as key
use Rattle.kms_calls.specs.declared.calls.KmsReply.{KmsReply}
use Rattle.kms_calls.specs.declared.calls.KmsReply.TheVariants as key_reply
use Rattle.kms_calls.specs.declared.calls.RawEdek.{RawEdek}
use Rattle.kms_core.specs.Calls as keys
use Rattle.kms_core.specs.State.{KmsState, ServiceState}
use Rattle.kms_core.specs.Users.{ServesUnder}
use Rattle.kms_core.proofs.MemoryReads.{acts-from-memory}
use Rattle.name_calls.specs.declared.calls.Ask.{Ask}
use Rattle.name_calls.specs.declared.calls.Ask.TheVariants as ask
use Rattle.name_calls.specs.declared.calls.AskNote.{AskNote}
use Rattle.name_calls.specs.declared.calls.KeyAnswer.{KeyAnswer}
use Rattle.name_calls.specs.declared.calls.KeyAnswer.TheVariants as given
use Rattle.name_calls.specs.declared.calls.NameCall.TheVariants as name_call
use Rattle.name_calls.specs.declared.calls.NameRefusal.{NameRefusal}
use Rattle.name_calls.specs.declared.calls.NameRefusal.TheVariants as refusal
use Rattle.name_calls.specs.declared.calls.NameReply.{NameReply}
use Rattle.name_calls.specs.declared.calls.NameReply.TheVariants as reply
use Rattle.name_calls.specs.declared.calls.Want.{Want}
use Rattle.name_calls.specs.declared.calls.Want.TheVariants as want
use Rattle.name_calls.specs.declared.paths.NPath.{NPath}
use Rattle.name_calls.specs.declared.read_paths.ReadPath.{ReadPath}
use Rattle.name_calls.specs.declared.read_paths.SnapPart.{SnapPart}
use Rattle.name_calls.specs.Answers.{answer_of}
use Rattle.name_calls.specs.Paths.{read_path}
use Rattle.name_calls.specs.ReadPaths.{read_any_path}
use Rattle.name_core.specs.Asks.{AskOutcome, Asks, FinishOutcome, Finishes, ask_causes, ask_gone, finish_causes, open_ask, unless_not_asked, unless_stopped}
use Rattle.name_core.specs.Calls as names
use Rattle.name_core.specs.Calls.{first_cause, part_name_causes, path_causes}
use Rattle.name_core.specs.Reads.{entry_causes, info_causes, info_of, part_causes, path_read, rows_read, shown_at, zone_read}
use Rattle.name_core.specs.Service.{Concludes, FinishServesAt, ServesUnless}
use Rattle.name_core.specs.State.{NameService, NameState}
use Rattle.name_core.specs.declared.asks.OpenAsk.{OpenAsk}
use Rattle.name_store.specs.Table.{NameTable}
use Rattle.edit_ops.specs.declared.ops.EditOp.{EditOp}
use Rattle.prop_text.specs.declared.lines.PropLine.{PropLine}
use Rattle.zone_table.specs.declared.statuses.StatusRow.{StatusRow}
use Rattle.file_orders.specs.Ends.{end_of_keys, end_of_names, end_of_refused}
use Rattle.file_orders.specs.Opening.{replied_in}
use Rattle.file_orders.specs.declared.ends.FsEnd.TheVariants as end
use Rattle.world_run.specs.Acknowledged.{Acknowledged}
use Rattle.world_run.specs.Step.{AskAt, DrawActs, FinishReply, PathActs, Step, WantActs, ask_line, finish_line}
use Rattle.world_run.specs.World.{WorldState, numbered}
use Rattle.world_run.specs.declared.kept.KeptReply.{KeptReply}
use Rattle.world_run.specs.declared.kept.KeptReply.TheVariants.{ToAsk, ToBatch}
use Rattle.data_stream.specs.Statuses.{end_in}

-- ---- causes of the namesystem

-- no fault of the disk
abbrev IsPlain : NameRefusal → Type 0
IsPlain why = end_of_names why ≢ end.StoreFault

named : (why : NameRefusal) → end.NameRefused why ≢ end.StoreFault
named why h = cc

memory : end.NoMemory ≢ end.StoreFault
memory h = cc

abbrev ArePlain : List (Bool × NameRefusal) → Type 0
ArePlain [] = Unit {0}
ArePlain (cause ∷ causes) = IsPlain cause.1 × ArePlain causes

if_plain : (hit : Bool) (own why : NameRefusal) (rest : Option NameRefusal) → IsPlain own → (rest ≡ Some why → IsPlain why) → (if hit then Some own else rest) ≡ Some why → IsPlain why
if_plain true own why rest p q e = let same : own ≡ why = cc in subst IsPlain same p
if_plain false own why rest p q e = q e

first_plain : (causes : List (Bool × NameRefusal)) (why : NameRefusal) → ArePlain causes → first_cause causes ≡ Some why → IsPlain why
first_plain [] why p e = absurd cc
first_plain (cause ∷ causes) why p e = if_plain cause.0 cause.1 why (first_cause causes) p.0 (λ f. first_plain causes why p.1 f) e

ask_plain : (s : NameState) (user : List ℕ) (a : Ask) → ArePlain (ask_causes s user a)
ask_plain s user (ask.Create p) = (named _, (named _, (named _, (named _, (named _, tt)))))
ask_plain s user (ask.Zone p key) = (named _, (named _, (named _, (named _, (named _, (named _, (named _, tt)))))))
ask_plain s user (ask.Submit p) = (named _, (named _, (named _, (named _, (named _, (named _, (named _, tt)))))))

finish_plain : (rows : List Entry) (statuses : List StatusRow) (a : OpenAsk) (edek : Option Edek) (own : Ask) → ArePlain (finish_causes rows statuses a edek own)
finish_plain rows statuses a edek (ask.Create p) = (named _, (named _, (named _, (named _, (named _, (named _, (named _, tt)))))))
finish_plain rows statuses a edek (ask.Zone p key) = (named _, (named _, (named _, (named _, (named _, (named _, tt))))))
finish_plain rows statuses a edek (ask.Submit p) = (named _, (named _, (named _, (named _, (named _, (named _, (named _, tt)))))))

early_plain : (p : NPath) (part : Option SnapPart) → ArePlain (path_causes p ++ part_name_causes part)
early_plain p None = (named _, tt)
early_plain p (Some part) = (named _, (named _, tt))

info_plain : (t : NameTable) (p : NPath) (part : Option SnapPart) (rows : List Entry) (q : NPath) → ArePlain (part_causes t p part ++ entry_causes rows q)
info_plain t p None rows q = (named _, tt)
info_plain t p (Some part) rows q = (named _, (named _, (named _, (named _, (named _, tt)))))

-- ---- an ask

refused_by : (own why : NameRefusal) → IsPlain own → line.Refused own ≡ line.Refused why → IsPlain why
refused_by own why p e = let same : own ≡ why = cc in subst IsPlain same p

module _ (s : NameState) (user : List ℕ) (a : Ask) (own : NameRefusal) (s' : NameState) where
  asked_so : (why : Option NameRefusal) → first_cause (ask_causes s user a) ≡ why → record { reply = Err own; state = s' } ≡ unless_not_asked why s a → IsPlain own
  asked_so (Some why) is e =
      let r : Err own ≡ Err why = ap (λ (o : AskOutcome). o.reply) e in
      let same : why ≡ own = cc in
      subst IsPlain same (first_plain (ask_causes s user a) why (ask_plain s user a) is)
  asked_so None is e = let r = ap (λ (o : AskOutcome). o.reply) e in absurd cc

  asks_plain : Asks s user a (Err own) s' → IsPlain own
  asks_plain (names.Plain, may, e) = asked_so (first_cause (ask_causes s user a)) refl e
  asks_plain (names.NoRoom, may, e) =
      let r : Err own ≡ Err refusal.NoMemory = ap (λ (o : AskOutcome). o.reply) e in
      let same : refusal.NoMemory ≡ own = cc in
      subst IsPlain same memory

-- ---- a finish

finished_so : (s : NameState) (a : OpenAsk) (edek : Option Edek) (own : NameRefusal) (s' : NameState) (why : Option NameRefusal) → first_cause (finish_causes s.table.rows s.table.statuses a edek a.ask) ≡ why
    → record { reply = Err own; state = s' } ≡ unless_stopped why s a edek → IsPlain own
finished_so s a edek own s' (Some why) is e =
    let r : Err own ≡ Err why = ap (λ (o : FinishOutcome). o.reply) e in
    let same : why ≡ own = cc in
    subst IsPlain same (first_plain (finish_causes s.table.rows s.table.statuses a edek a.ask) why (finish_plain s.table.rows s.table.statuses a edek a.ask) is)
finished_so s a edek own s' None is e = let r = ap (λ (o : FinishOutcome). o.reply) e in absurd cc

finishes_plain : (s : NameState) (a : OpenAsk) (edek : Option Edek) (own : NameRefusal) (s' : NameState) → Finishes s a edek (Err own) s' → IsPlain own
finishes_plain s a edek own s' (names.Plain, may, e) = finished_so s a edek own s' (first_cause (finish_causes s.table.rows s.table.statuses a edek a.ask)) refl e
finishes_plain s a edek own s' (names.NoRoom, may, e) =
    let r : Err own ≡ Err refusal.NoMemory = ap (λ (o : FinishOutcome). o.reply) e in
    let same : refusal.NoMemory ≡ own = cc in
    subst IsPlain same memory

gone : (own : NameRefusal) (opening next : ℕ) → own ≡ refusal.AskGone opening next → IsPlain own
gone own opening next is h = named (refusal.AskGone opening next) (sym (ap end_of_names is) ∙ h)

-- ---- an info

module _ (s : NameState) (p : ReadPath) (own : NameRefusal) where
  shown_plain : (kind : Kind) (id : ℕ) (lying : Option NPath) → info_of id lying kind ≡ reply.Refused own → IsPlain own
  shown_plain (Dir key) id lying e = absurd cc
  shown_plain (File edek) id lying e = absurd cc

  found_plain : (found : Option Row) (lying : Option NPath) → shown_at lying found ≡ reply.Refused own → IsPlain own
  found_plain None lying e = let same : refusal.NoSuchPath ≡ own = cc in subst IsPlain same (named refusal.NoSuchPath)
  found_plain (Some row) lying e = shown_plain row.kind row.id lying e

  info_unless : (why : Option NameRefusal) (answered : NameReply) (s' : NameState) → first_cause (names.causes s (name_call.Info p)) ≡ why
      → record { reply = answered; state = s' } ≡ names.unless_refused why s (names.deed s (name_call.Info p)) → answered ≡ reply.Refused own → IsPlain own
  info_unless (Some why) answered s' first e is =
      let r : answered ≡ reply.Refused why = ap (λ (o : names.Outcome). o.reply) e in
      let same : why ≡ own = cc in
      subst IsPlain same (first_plain (info_causes s.table p) why (info_plain s.table p.path p.snapshot (rows_read s.table p) (path_read p)) first)
  info_unless None answered s' first e is = found_plain (row_at (rows_read s.table p) (path_read p)) (zone_read s.table p) (sym (ap (λ (o : names.Outcome). o.reply) e) ∙ is)

  info_acts : (answered : NameReply) (s' : NameState) → names.NameActs s (name_call.Info p) answered s' → answered ≡ reply.Refused own → IsPlain own
  info_acts answered s' (names.Plain, may, e) is = info_unless (first_cause (names.causes s (name_call.Info p))) answered s' refl e is
  info_acts answered s' (names.NoRoom, may, e) is =
      let r : answered ≡ reply.Refused refusal.NoMemory = ap (λ (o : names.Outcome). o.reply) e in
      let same : refusal.NoMemory ≡ own = cc in
      subst IsPlain same memory

info_served : (s : NameService) (user : List ℕ) (p : ReadPath) (fault : Type 0) (answered : NameReply) (ops : List EditOp) (s' : NameService) (why : Option NameRefusal) → first_cause (names.early_causes user (name_call.Info p)) ≡ why
    → ServesUnless why s (name_call.Info p) fault answered ops s' → (own : NameRefusal) → answered ≡ reply.Refused own → IsPlain own
info_served s user p fault answered ops s' (Some why) first early own is =
    let r = early.reply_is in
    let same : why ≡ own = cc in
    subst IsPlain same (first_plain (path_causes p.path ++ part_name_causes p.snapshot) why (early_plain p.path p.snapshot) first)
info_served s user p fault answered ops s' None first only own is = info_acts s.names p own answered s.names only.acts is

-- ---- calls on keys

abbrev AreSound : List (Bool × KmsRefusal) → Type 0
AreSound [] = Unit {0}
AreSound (cause ∷ causes) = (cause.1 ≢ key.StoreFault) × AreSound causes

if_sound : (hit : Bool) (own why : KmsRefusal) (rest : Option KmsRefusal) → own ≢ key.StoreFault → (rest ≡ Some why → why ≢ key.StoreFault) → (if hit then Some own else rest) ≡ Some why → why ≢ key.StoreFault
if_sound true own why rest p q e h = let same : own ≡ why = cc in p (same ∙ h)
if_sound false own why rest p q e h = q e h

first_sound : (causes : List (Bool × KmsRefusal)) (why : KmsRefusal) → AreSound causes → keys.first_cause causes ≡ Some why → why ≢ key.StoreFault
first_sound [] why p e h = absurd cc
first_sound (cause ∷ causes) why p e h = if_sound cause.0 cause.1 why (keys.first_cause causes) p.0 (λ f. first_sound causes why p.1 f) e h

-- a call with sound causes, whose answer is no refusal
module _ (s : KmsState) (words : ℕ → ℕ) (now : ℕ) (c : KmsCall) (sound : AreSound (keys.causes s c)) (done : (keys.deed s words now c).answer ≢ key_reply.Refused key.StoreFault) where
  key_unless : (why : Option KmsRefusal) (answered : KmsReply) (drawn : ℕ) (s' : KmsState) → keys.first_cause (keys.causes s c) ≡ why
      → record { reply = answered; drawn = drawn; state = s' } ≡ keys.unless_refused why s (keys.deed s words now c) → answered ≢ key_reply.Refused key.StoreFault
  key_unless (Some why) answered drawn s' first e is =
      let r : answered ≡ key_reply.Refused why = ap (λ (o : keys.Outcome). o.reply) e in
      let same : why ≡ key.StoreFault = cc in
      first_sound (keys.causes s c) why sound first same
  key_unless None answered drawn s' first e is = done (sym (ap (λ (o : keys.Outcome). o.reply) e) ∙ is)

  key_acts : (answered : KmsReply) (drawn : ℕ) (s' : KmsState) → keys.KmsActs s words now c answered drawn s' → answered ≢ key_reply.Refused key.StoreFault
  key_acts answered drawn s' (keys.Plain, may, e) is = key_unless (keys.first_cause (keys.causes s c)) answered drawn s' refl e is
  key_acts answered drawn s' (keys.NoRoom count, may, e) is = let r : answered ≡ key_reply.Refused key.NoMemory = ap (λ (o : keys.Outcome). o.reply) e in absurd cc

module _ (s : ServiceState) (words : ℕ → ℕ) (now : ℕ) (fault tells : Type 0) (answered : KmsReply) (drawn : ℕ) (logged : List KeyCommand) (s' : ServiceState) where
  decrypted_fails : (judged : Result Shown Denied) (name : KeyName) (sent : RawEdek) → ServesUnder judged s words now (call.Decrypt name sent) fault tells answered drawn logged s' → answered ≡ key_reply.Refused key.StoreFault → fault
  decrypted_fails (Err denied) name sent denies is = let r = denies.reply_is in absurd cc
  decrypted_fails (Ok shown) name sent permits is = permits.serves.fails (sym permits.reply_is ∙ is)

  generated_soundly : (judged : Result Shown Denied) (name : KeyName) (count : ℕ) → ServesUnder judged s words now (call.Generate name count) fault tells answered drawn logged s' → answered ≢ key_reply.Refused key.StoreFault
  generated_soundly (Err denied) name count denies is = let r = denies.reply_is in absurd cc
  generated_soundly (Ok shown) name count permits is =
      key_acts s.keys words now (call.Generate name count) (λ h. cc, (λ h. cc, tt)) (λ h. cc) permits.reply drawn permits.serves.changed permits.serves.acts (sym permits.reply_is ∙ is)

  shown_soundly : (judged : Result Shown Denied) (name : KeyName) → ServesUnder judged s words now (call.Metadata name) fault tells answered drawn logged s' → answered ≢ key_reply.Refused key.StoreFault
  shown_soundly (Err denied) name denies is = let r = denies.reply_is in absurd cc
  shown_soundly (Ok shown) name permits is = key_acts s.keys words now (call.Metadata name) (λ h. cc, tt) (λ h. cc) permits.reply drawn s.keys
      (acts-from-memory s words now (call.Metadata name) fault tells permits.reply drawn logged s' refl permits.serves) (sym permits.reply_is ∙ is)

keys_store : (why : KmsRefusal) → end_of_keys why ≡ end.StoreFault → why ≡ key.StoreFault
keys_store key.BadRequest h = absurd cc
keys_store key.NoUser h = absurd cc
keys_store (key.Denied table op) h = absurd cc
keys_store key.NoSuchKey h = absurd cc
keys_store key.NoSuchVersion h = absurd cc
keys_store key.KeyExists h = absurd cc
keys_store key.WrongKey h = absurd cc
keys_store key.BadMaterial h = absurd cc
keys_store key.BadLength h = absurd cc
keys_store key.TooManyKeys h = absurd cc
keys_store key.TooManyVersions h = absurd cc
keys_store key.TooManyAsked h = absurd cc
keys_store key.NoMemory h = absurd cc
keys_store key.StoreFault h = refl

refused_store : (refused : KmsRefusal) (why : NameRefusal) → end_of_refused refused why ≡ end.StoreFault → refused ≡ key.StoreFault
refused_store key.BadRequest why h = absurd cc
refused_store key.NoUser why h = absurd cc
refused_store (key.Denied table op) why h = absurd cc
refused_store key.NoSuchKey why h = absurd cc
refused_store key.NoSuchVersion why h = absurd cc
refused_store key.KeyExists why h = absurd cc
refused_store key.WrongKey why h = absurd cc
refused_store key.BadMaterial why h = absurd cc
refused_store key.BadLength why h = absurd cc
refused_store key.TooManyKeys why h = absurd cc
refused_store key.TooManyVersions why h = absurd cc
refused_store key.TooManyAsked why h = absurd cc
refused_store key.NoMemory why h = absurd cc
refused_store key.StoreFault why h = refl

-- ---- the replies that are kept

at_end : {X : Type 0} (xs : List X) (x : X) → slice_get (xs ++ x ∷ []) (length xs) ≡ Some x
at_end [] x = refl
at_end (y ∷ xs) x = at_end xs x

numbered_at_end : {X : Type 0} (xs : List X) (x : X) (n : ℕ) → n ≡ length xs + 1 → numbered (xs ++ x ∷ []) n ≡ Some x
numbered_at_end xs x n is = let next : n ≡ suc (length xs) = omega (arith, is) in ap (numbered (xs ++ x ∷ [])) next ∙ at_end xs x

-- a reply that is kept for an ask, and tells of no fault of the disk
pub record IsKeptSound (w : WorldState) (number : ℕ) : Type 0 where
  pub id : ℕ
  pub answer : KeyAnswer
  pub at : numbered w.kept.replies number ≡ Some (ToAsk id answer)
  pub sound : answer ≢ given.Refused key.StoreFault

answered_soundly : (kept : Option KmsReply) → (kept ≢ Some (key_reply.Refused key.StoreFault)) → answer_of kept ≢ given.Refused key.StoreFault
answered_soundly None sound h = absurd cc
answered_soundly (Some (key_reply.Refused why)) sound h = let same : why ≡ key.StoreFault = cc in sound (ap (λ (r : KmsRefusal). Some (key_reply.Refused r)) same)
answered_soundly (Some (key_reply.Version version material)) sound h = absurd cc
answered_soundly (Some (key_reply.Metadata meta)) sound h = absurd cc
answered_soundly (Some (key_reply.Metadatas metas)) sound h = absurd cc
answered_soundly (Some (key_reply.Names names)) sound h = absurd cc
answered_soundly (Some (key_reply.Versions versions)) sound h = absurd cc
answered_soundly (Some (key_reply.Ready edeks)) sound h = absurd cc
answered_soundly (Some (key_reply.Key dek)) sound h = absurd cc
answered_soundly (Some (key_reply.Resealed edek)) sound h = absurd cc
answered_soundly (Some key_reply.Done) sound h = absurd cc

kept_is : (few : Bool) (number own : ℕ) → (if few then Ok number else Err end.NoMemory) ≡ Ok own → number ≡ own
kept_is true number own e = cc
kept_is false number own e = absurd cc

wanted_soundly : (lines : List PropLine) (s : ServiceState) (words : ℕ → ℕ) (now : ℕ) (w : Want) (fault tells : Type 0) (kept : Option KmsReply) (drawn : ℕ) (logged : List KeyCommand) (s' : ServiceState)
    → WantActs lines s words now w fault tells kept drawn logged s' → kept ≢ Some (key_reply.Refused key.StoreFault)
wanted_soundly lines s words now want.Nothing fault tells kept drawn logged s' nothing h = let r = nothing.reply_is in absurd cc
wanted_soundly lines s words now (want.Generate name) fault tells kept drawn logged s' acts h =
    let own : acts.reply ≡ key_reply.Refused key.StoreFault = let r = acts.reply_is in cc in
    generated_soundly s words now fault tells acts.reply drawn logged s' (verdict lines names.superuser (call.Generate name 1)) name 1 acts.serves own
wanted_soundly lines s words now (want.Metadata name) fault tells kept drawn logged s' acts h =
    let own : acts.reply ≡ key_reply.Refused key.StoreFault = let r = acts.reply_is in cc in
    shown_soundly s words now fault tells acts.reply drawn logged s' (verdict lines names.superuser (call.Metadata name)) name acts.serves own

-- ---- the events of a command

module _ (lines : List PropLine) (w : WorldState) (words : ℕ → ℕ) (now : ℕ) (fault tells : Type 0) (answer : Line) (drawn : ℕ) (logged : Acknowledged) (w' : WorldState) where
  -- an ask for a file never tells of a fault
  pub ask_never : (user path : List ℕ) → Step lines w words now (event.AskCreate user path) fault tells answer drawn logged w' → end_in answer ≢ end.StoreFault
  ask_never user path step h = go (read_path path) step.1
    where
      by : (own : NameRefusal) → answer ≡ line.Refused own → IsPlain own → ⊥
      by own is plain = plain (sym (ap end_in is) ∙ h)

      asked : (p : NPath) (result : Result AskNote NameRefusal) (number : ℕ) (s' : NameState) → Asks w.names.names user (ask.Create p) result s' → answer ≡ ask_line result number → ⊥
      asked p (Ok note) number s' asks is = memory (sym (ap end_in is) ∙ h)
      asked p (Err own) number s' asks is = by own is (asks_plain w.names.names user (ask.Create p) own s' asks)

      go : (read : Option NPath) → AskAt w user ask.Create read answer w' → ⊥
      go None refuses = by refusal.BadPath refuses.reply_is (named refusal.BadPath)
      go (Some p) (inl acts) = asked p acts.result _ acts.names acts.asks acts.reply_is
      go (Some p) (inr refuses) = by refusal.NoMemory refuses.reply_is memory

  -- nor does an info
  pub info_never : (user path : List ℕ) → Step lines w words now (event.Info user path) fault tells answer drawn logged w' → end_in answer ≢ end.StoreFault
  info_never user path step h = go (read_any_path path) step
    where
      by : (own : NameRefusal) → answer ≡ line.Name (reply.Refused own) → IsPlain own → ⊥
      by own is plain = plain (sym (ap end_in is) ∙ h)

      served : (given : NameReply) → answer ≡ line.Name given → ((own : NameRefusal) → given ≡ reply.Refused own → IsPlain own) → ⊥
      served (reply.Refused own) is plain = by own is (plain own refl)
      served (reply.Dir id area key) is plain = let r : end.Directory ≡ end.StoreFault = sym (ap end_in is) ∙ h in cc
      served reply.Done is plain = memory (sym (ap end_in is) ∙ h)
      served (reply.File id area edek) is plain = memory (sym (ap end_in is) ∙ h)
      served (reply.List children) is plain = memory (sym (ap end_in is) ∙ h)
      served (reply.Status status) is plain = memory (sym (ap end_in is) ∙ h)
      served (reply.Zones zones) is plain = memory (sym (ap end_in is) ∙ h)

      go : (read : Option ReadPath) → PathActs w user name_call.Info read fault answer drawn logged w' → ⊥
      go None unread = by refusal.BadPath unread.reply_is (named refusal.BadPath)
      go (Some p) (inr unread) = by refusal.NoMemory unread.reply_is memory
      go (Some p) (inl acts) = served acts.reply acts.reply_is (info_served w.names user p fault acts.reply acts.ops acts.names (first_cause (names.early_causes user (name_call.Info p))) refl acts.serves)

  -- a decryption tells of a fault only if there was one
  pub decrypt_fails : (user : List ℕ) (name : KeyName) (sent : RawEdek) → Step lines w words now (event.Kms user (call.Decrypt name sent)) fault tells answer drawn logged w' → end_in answer ≡ end.StoreFault → fault
  decrypt_fails user name sent step h = served step.reply step.reply_is (decrypted_fails w.keys words now fault tells step.reply drawn step.commands step.keys (verdict lines user (call.Decrypt name sent)) name sent step.serves)
    where
      served : (given : KmsReply) → answer ≡ line.Kms given → (given ≡ key_reply.Refused key.StoreFault → fault) → fault
      served (key_reply.Refused why) is fails = fails (ap key_reply.Refused (keys_store why (sym (ap end_in is) ∙ h)))
      served (key_reply.Version version material) is fails = absurd (memory (sym (ap end_in is) ∙ h))
      served (key_reply.Metadata meta) is fails = absurd (memory (sym (ap end_in is) ∙ h))
      served (key_reply.Metadatas metas) is fails = absurd (memory (sym (ap end_in is) ∙ h))
      served (key_reply.Names names) is fails = absurd (memory (sym (ap end_in is) ∙ h))
      served (key_reply.Versions versions) is fails = absurd (memory (sym (ap end_in is) ∙ h))
      served (key_reply.Ready edeks) is fails = absurd (memory (sym (ap end_in is) ∙ h))
      served (key_reply.Key dek) is fails = absurd (memory (sym (ap end_in is) ∙ h))
      served (key_reply.Resealed edek) is fails = absurd (memory (sym (ap end_in is) ∙ h))
      served key_reply.Done is fails = absurd (memory (sym (ap end_in is) ∙ h))

  -- the reply that a draw keeps tells of none
  pub draw_keeps : (number own : ℕ) → Step lines w words now (event.Draw number) fault tells answer drawn logged w' → replied_in answer ≡ Ok own → IsKeptSound w' own
  draw_keeps number own step is = go (numbered w.kept.notes number) step
    where
      go : (note : Option AskNote) → DrawActs lines w words now note fault tells answer drawn logged w' → IsKeptSound w' own
      go None unknown = let r = sym (ap replied_in unknown.reply_is) ∙ is in absurd cc
      go (Some note) (inr lacks) = let r = sym (ap replied_in lacks.reply_is) ∙ is in absurd cc
      go (Some note) (inl draws) =
          let number_is : length w.kept.replies + 1 ≡ own = kept_is _ _ own (sym (ap replied_in draws.reply_is) ∙ is) in
          record {
            id = note.id;
            answer = answer_of draws.reply;
            at = subst (λ (x : WorldState). numbered x.kept.replies own ≡ Some (ToAsk note.id (answer_of draws.reply))) (sym draws.left) (numbered_at_end w.kept.replies (ToAsk note.id (answer_of draws.reply)) own (sym number_is));
            sound = answered_soundly draws.reply (wanted_soundly lines w.keys words now note.want fault tells draws.reply drawn draws.commands draws.keys draws.acts);
          }

  -- a finish by such a reply tells of a fault only if there was one
  pub finish_fails : (number : ℕ) → IsKeptSound w number → Step lines w words now (event.Finish number) fault tells answer drawn logged w' → end_in answer ≡ end.StoreFault → fault
  finish_fails number kept step h = go (numbered w.kept.replies number) kept.at step
    where
      concluded : (s : NameState) (ops : List EditOp) (a : OpenAsk) (edek : Option Edek) (own : NameRefusal) (logged' : List EditOp) (s' : NameService) → end_of_names own ≡ end.StoreFault → Concludes s ops a edek fault (Err own) logged' s' → fault
      concluded s ops a edek own logged' s' e (inl written) = absurd (finishes_plain s a edek own written.changed written.finishes e)
      concluded s ops a edek own logged' s' e (inr unwritten) = unwritten.failed

      opened : (a : Option OpenAsk) (answer' : KeyAnswer) (own : NameRefusal) (logged' : List EditOp) (s' : NameService) → answer' ≢ given.Refused key.StoreFault → end_of_names own ≡ end.StoreFault
          → FinishServesAt w.names a answer' fault (Err own) logged' s' → fault
      opened None answer' own logged' s' sound e early =
          let r : Err own ≡ Err (ask_gone w.names.names) = early.reply_is in
          let same : own ≡ ask_gone w.names.names = cc in
          absurd (gone own _ _ same e)
      opened (Some a) (given.Refused why) own logged' s' sound e early =
          let r = early.reply_is in
          let same : own ≡ refusal.KeyRefused why = cc in
          absurd (sound (ap given.Refused (refused_store why (refusal.KeyRefused why) (sym (ap end_of_names same) ∙ e))))
      opened (Some a) (given.Given edek) own logged' s' sound e (inl unsettled) = unsettled.failed
      opened (Some a) (given.Given edek) own logged' s' sound e (inr (found, concludes)) = concluded _ _ a edek own logged' s' e concludes

      finished : (result : Result (Unit {0}) NameRefusal) (logged' : List EditOp) (s' : NameService) → answer ≡ finish_line result
          → FinishServesAt w.names (open_ask w.names.names.asks kept.id) kept.answer fault result logged' s' → fault
      finished (Ok done) logged' s' is serves = absurd (memory (sym (ap end_in is) ∙ h))
      finished (Err own) logged' s' is serves = opened (open_ask w.names.names.asks kept.id) kept.answer own logged' s' kept.sound (sym (ap end_in is) ∙ h) serves

      go : (found : Option KeptReply) → found ≡ Some (ToAsk kept.id kept.answer) → FinishReply w found fault answer drawn logged w' → fault
      go None is step = absurd cc
      go (Some (ToBatch reply)) is step = absurd cc
      go (Some (ToAsk id answer')) is acts =
          let i : id ≡ kept.id = cc in
          let a : answer' ≡ kept.answer = cc in
          finished acts.result acts.ops acts.names acts.reply_is
          (subst (λ (x : ℕ). FinishServesAt w.names (open_ask w.names.names.asks x) kept.answer fault acts.result acts.ops acts.names) i
          (subst (λ (x : KeyAnswer). FinishServesAt w.names (open_ask w.names.names.asks id) x fault acts.result acts.ops acts.names) a acts.finishes))
