-- The events that only read fail by no fault of a disk.
use Rattle.std.proofs.Common.{◌≡◌, ◌≢◌, ◌∙◌, inl, inr, ℕ, Bool, true, false, List, [], ◌∷◌, ◌++◌, ap, refl, subst, sym}
use Rattle.std.specs.Prelude.{Option, None, Some, Result, Ok, Err, IfErr, IfOk, if◌then◌else◌}
use Rattle.edit_ops.specs.declared.ops.EditOp.{EditOp}
use Rattle.hk_base.specs.Disk.{DiskState, Tells}
use Rattle.hk_base.specs.Faults.{Rose}
use Rattle.hk_base.specs.declared.names.KeyName.{KeyName}
use Rattle.hk_base.specs.declared.texts.Text.{Text}
use Rattle.hk_events.specs.declared.event.Event.{Event}
use Rattle.hk_events.specs.declared.event.Event.TheVariants as event
use Rattle.hk_events.specs.declared.event.Line.{Line}
use Rattle.hk_events.specs.declared.event.Line.TheVariants as line
use Rattle.inode_tree.specs.Rows.{row_at}
use Rattle.inode_tree.specs.declared.rows.Kind.{Kind}
use Rattle.inode_tree.specs.declared.rows.Kind.TheVariants.{Dir, File}
use Rattle.inode_tree.specs.declared.rows.Row.{Row}
use Rattle.key_rows.specs.declared.rows.KeyCommand.{KeyCommand}
use Rattle.kms_acls.specs.Verdict.{verdict}
use Rattle.kms_acls.specs.declared.answers.Denied.{Denied}
use Rattle.kms_acls.specs.declared.answers.Shown.{Shown}
use Rattle.kms_calls.specs.declared.calls.KmsCall.TheVariants as call
use Rattle.kms_calls.specs.declared.calls.KmsRefusal.{KmsRefusal}
use Rattle.kms_calls.specs.declared.calls.KmsRefusal.TheVariants as key
use Rattle.kms_calls.specs.declared.calls.KmsReply.{KmsReply}
use Rattle.kms_calls.specs.declared.calls.KmsReply.TheVariants as key_reply
use Rattle.kms_core.specs.Calls as keys
use Rattle.kms_core.specs.State.{KmsState, ServiceState}
use Rattle.kms_core.specs.Users.{ServesUnder}
use Rattle.kms_core.proofs.MemoryReads.{acts-from-memory}
use Rattle.name_calls.specs.ReadPaths.{read_any_path}
use Rattle.name_calls.specs.declared.calls.NameCall.{NameCall}
use Rattle.name_calls.specs.declared.calls.NameCall.TheVariants as name_call
use Rattle.name_calls.specs.declared.calls.NameRefusal.{NameRefusal}
use Rattle.name_calls.specs.declared.calls.NameRefusal.TheVariants as refusal
use Rattle.name_calls.specs.declared.calls.NameReply.{NameReply}
use Rattle.name_calls.specs.declared.calls.NameReply.TheVariants as reply
use Rattle.name_calls.specs.declared.listing.Child.{Child}
use Rattle.name_calls.specs.declared.paths.NPath.{NPath}
use Rattle.name_calls.specs.declared.read_paths.ReadPath.{ReadPath}
use Rattle.name_calls.specs.declared.read_paths.SnapPart.{SnapPart}
use Rattle.name_core.specs.Calls as names
use Rattle.name_core.specs.Calls.{first_cause, part_name_causes, path_causes, superuser}
use Rattle.name_core.specs.Reads.{info_of, part_causes, path_read, rows_read, shown_at, zone_read}
use Rattle.name_core.specs.Service as service
use Rattle.name_core.specs.State.{NameService, NameState}
use Rattle.name_store.specs.Table.{NameTable}
use Rattle.prop_text.specs.declared.lines.PropLine.{PropLine}
use Rattle.file_orders.specs.Ends.{end_of_names}
use Rattle.file_orders.specs.declared.ends.FsEnd.{FsEnd}
use Rattle.file_orders.specs.declared.ends.FsEnd.TheVariants as end
use Rattle.file_orders.proofs.EndLemmas.{names_fail}
use Rattle.source_looks.specs.Looks.{AsksKey, ListsDirectory, Looks, children_by, children_in, reply_in, row_by, row_in}
use Rattle.place_texts.specs.Places.{read_path_text}
use Rattle.row_copies.specs.Clusters.{EndsFor}
use Rattle.row_copies.proofs.CauseLemmas.{ends-failed, ends-so}
use Rattle.world_run.specs.Acknowledged.{Acknowledged}
use Rattle.world_run.specs.Drives.{Standing}
use Rattle.world_run.specs.Step.{PathActs, Step}
use Rattle.world_run.specs.World.{WorldState, world_of}
use Rattle.world_desk.specs.Worlds.{IsDeskReady}
use Rattle.world_events.specs.Events.{LeadsAt}
use Rattle.world_rows.specs.Rows.{EventRefused, IsReadEvent, ShowsRefused}

-- ---- refusals of the namesystem

-- no fault of the disk
abbrev IsPlain : NameRefusal → Type 0
IsPlain why = end_of_names why ≢ end.StoreFault

named : (why : NameRefusal) → end.NameRefused why ≢ end.StoreFault
named why h = cc

memory : end.NoMemory ≢ end.StoreFault
memory h = cc

abbrev ArePlain : List (Bool × NameRefusal) → Type 0
ArePlain [] = Unit {0}
ArePlain (cause ∷ causes) = IsPlain cause.1 × ArePlain causes

if_plain : (hit : Bool) (own why : NameRefusal) (rest : Option NameRefusal) → IsPlain own → (rest ≡ Some why → IsPlain why) → (if hit then Some own else rest) ≡ Some why → IsPlain why
if_plain true own why rest p q e = let same : own ≡ why = cc in subst IsPlain same p
if_plain false own why rest p q e = q e

first_plain : (causes : List (Bool × NameRefusal)) (why : NameRefusal) → ArePlain causes → first_cause causes ≡ Some why → IsPlain why
first_plain [] why p e = absurd cc
first_plain (cause ∷ causes) why p e = if_plain cause.0 cause.1 why (first_cause causes) p.0 (λ f. first_plain causes why p.1 f) e

early_plain : (p : NPath) (part : Option SnapPart) → ArePlain (path_causes p ++ part_name_causes part)
early_plain p None = (named _, tt)
early_plain p (Some part) = (named _, (named _, tt))

part_plain : (t : NameTable) (p : NPath) (part : Option SnapPart) (causes : List (Bool × NameRefusal)) → ArePlain causes → ArePlain (part_causes t p part ++ causes)
part_plain t p None causes plain = plain
part_plain t p (Some part) causes plain = (named _, (named _, (named _, (named _, plain))))

-- a call that changes nothing, whose causes are plain, and whose answer is no fault of the disk
module _ (c : NameCall) (s : NameService) (reads : service.is_change c ≡ false) (plain : ArePlain (names.causes s.names c)) (done : (own : NameRefusal) → (names.deed s.names c).answer ≡ reply.Refused own → IsPlain own) where
  unless_plain : (why : Option NameRefusal) (given : NameReply) (s' : NameState) → first_cause (names.causes s.names c) ≡ why → record { reply = given; state = s' } ≡ names.unless_refused why s.names (names.deed s.names c)
      → (own : NameRefusal) → given ≡ reply.Refused own → IsPlain own
  unless_plain (Some why) given s' first e own is =
      let r : given ≡ reply.Refused why = ap (λ (o : names.Outcome). o.reply) e in
      let same : why ≡ own = cc in
      subst IsPlain same (first_plain (names.causes s.names c) why plain first)
  unless_plain None given s' first e own is = done own (sym (ap (λ (o : names.Outcome). o.reply) e) ∙ is)

  acts_plain : (given : NameReply) (s' : NameState) → names.NameActs s.names c given s' → (own : NameRefusal) → given ≡ reply.Refused own → IsPlain own
  acts_plain given s' (names.Plain, may, e) own is = unless_plain (first_cause (names.causes s.names c)) given s' refl e own is
  acts_plain given s' (names.NoRoom, may, e) own is =
      let r : given ≡ reply.Refused refusal.NoMemory = ap (λ (o : names.Outcome). o.reply) e in
      let same : refusal.NoMemory ≡ own = cc in
      subst IsPlain same memory

  served_plain : (p : ReadPath) (fault : Type 0) (given : NameReply) (ops : List EditOp) (s' : NameService) (why : Option NameRefusal) → first_cause (path_causes p.path ++ part_name_causes p.snapshot) ≡ why
      → service.ServesUnless why s c fault given ops s' → (own : NameRefusal) → given ≡ reply.Refused own → IsPlain own
  served_plain p fault given ops s' (Some why) first early own is =
      let r = early.reply_is in
      let same : why ≡ own = cc in
      subst IsPlain same (first_plain (path_causes p.path ++ part_name_causes p.snapshot) why (early_plain p.path p.snapshot) first)
  served_plain p fault given ops s' None first serves own is =
      let only : service.OnlyReads s c given ops s' = subst (λ (b : Bool). service.ServesBy b s c fault given ops s') reads serves in
      acts_plain given s.names only.acts own is

found_plain : (found : Option Row) (lying : Option NPath) (own : NameRefusal) → shown_at lying found ≡ reply.Refused own → IsPlain own
found_plain None lying own e = let same : refusal.NoSuchPath ≡ own = cc in subst IsPlain same (named refusal.NoSuchPath)
found_plain (Some row) lying own e = go row.kind e
  where
    go : (kind : Kind) → info_of row.id lying kind ≡ reply.Refused own → IsPlain own
    go (Dir key) e = absurd cc
    go (File edek) e = absurd cc

info_plain : (s : NameService) (user : List ℕ) (p : ReadPath) (fault : Type 0) (given : NameReply) (ops : List EditOp) (s' : NameService) → service.NameServes s user (name_call.Info p) fault given ops s' → (own : NameRefusal) → given ≡ reply.Refused own → IsPlain own
info_plain s user p fault given ops s' serves own is =
    served_plain (name_call.Info p) s refl (part_plain s.names.table p.path p.snapshot _ (named _, tt)) (λ o e. found_plain (row_at (rows_read s.names.table p) (path_read p)) (zone_read s.names.table p) o e)
    p fault given ops s' (first_cause (names.early_causes user (name_call.Info p))) refl serves own is

list_plain : (s : NameService) (user : List ℕ) (p : ReadPath) (fault : Type 0) (given : NameReply) (ops : List EditOp) (s' : NameService) → service.NameServes s user (name_call.List p) fault given ops s' → (own : NameRefusal) → given ≡ reply.Refused own → IsPlain own
list_plain s user p fault given ops s' serves own is =
    served_plain (name_call.List p) s refl (part_plain s.names.table p.path p.snapshot _ (named _, (named _, tt))) (λ o e. absurd cc)
    p fault given ops s' (first_cause (names.early_causes user (name_call.List p))) refl serves own is

-- what an answer tells
abbrev IsPlainLine : Line → Type 0
IsPlainLine answer = (own : NameRefusal) → answer ≡ line.Name (reply.Refused own) → IsPlain own

path_plain : (w : WorldState) (user : List ℕ) (c : ReadPath → NameCall) (read : Option ReadPath) (fault : Type 0) (answer : Line) (drawn : ℕ) (logged : Acknowledged) (w' : WorldState)
    → ((p : ReadPath) (given : NameReply) (ops : List EditOp) (s' : NameService) → service.NameServes w.names user (c p) fault given ops s' → (own : NameRefusal) → given ≡ reply.Refused own → IsPlain own)
    → PathActs w user c read fault answer drawn logged w' → IsPlainLine answer
path_plain w user c None fault answer drawn logged w' serves unread own is = let r = unread.reply_is in let same : refusal.BadPath ≡ own = cc in subst IsPlain same (named refusal.BadPath)
path_plain w user c (Some p) fault answer drawn logged w' serves (inr unread) own is = let r = unread.reply_is in let same : refusal.NoMemory ≡ own = cc in subst IsPlain same memory
path_plain w user c (Some p) fault answer drawn logged w' serves (inl acts) own is =
    let r = acts.reply_is in
    let told : acts.reply ≡ reply.Refused own = cc in
    serves p acts.reply acts.ops acts.names acts.serves own told

module _ (lines : List PropLine) (w : WorldState) (words : ℕ → ℕ) (now : ℕ) (user path : List ℕ) (fault tells : Type 0) (answer : Line) (drawn : ℕ) (logged : Acknowledged) (w' : WorldState) where
  info_line : Step lines w words now (event.Info user path) fault tells answer drawn logged w' → IsPlainLine answer
  info_line step = path_plain w user name_call.Info (read_any_path path) fault answer drawn logged w' (λ p given ops s' serves own is. info_plain w.names user p fault given ops s' serves own is) step

  list_line : Step lines w words now (event.List user path) fault tells answer drawn logged w' → IsPlainLine answer
  list_line step = path_plain w user name_call.List (read_any_path path) fault answer drawn logged w' (λ p given ops s' serves own is. list_plain w.names user p fault given ops s' serves own is) step

refused_ends : (own : NameRefusal) → IsPlain own → EndsFor ⊥ ⊥ (ShowsRefused (line.Name (reply.Refused own))) (end_of_names own)
refused_ends own plain = ends-failed ⊥ ⊥ (ShowsRefused (line.Name (reply.Refused own))) (end_of_names own) (names_fail own) plain (inr (record { own = own; answer_is = refl; why_is = refl }))

row_by_ends : (given : NameReply) → IsPlainLine (line.Name given) → IfErr (row_by given) (EndsFor ⊥ ⊥ (ShowsRefused (line.Name given)))
row_by_ends reply.Done plain = tt
row_by_ends (reply.Dir id area key) plain = tt
row_by_ends (reply.File id area edek) plain = tt
row_by_ends (reply.List children) plain = tt
row_by_ends (reply.Status status) plain = tt
row_by_ends (reply.Zones zones) plain = tt
row_by_ends (reply.Refused own) plain = refused_ends own (plain own refl)

row_ends : (answer : Line) → IsPlainLine answer → IfErr (row_in answer) (EndsFor ⊥ ⊥ (ShowsRefused answer))
row_ends (line.Kms given) plain = tt
row_ends (line.Ticket number version wanted) plain = tt
row_ends line.NoTicket plain = tt
row_ends (line.Deposit deposit) plain = tt
row_ends (line.Opened opening) plain = tt
row_ends (line.Asked number note) plain = tt
row_ends (line.Replied number given) plain = tt
row_ends (line.Batch number files) plain = tt
row_ends (line.NoneLeft count) plain = tt
row_ends line.Completed plain = tt
row_ends (line.Delivered delivered) plain = tt
row_ends (line.Refused why) plain = tt
row_ends line.Unknown plain = tt
row_ends (line.Name given) plain = row_by_ends given plain

children_by_ends : (given : NameReply) → IsPlainLine (line.Name given) → IfErr (children_by given) (EndsFor ⊥ ⊥ (ShowsRefused (line.Name given)))
children_by_ends reply.Done plain = tt
children_by_ends (reply.Dir id area key) plain = tt
children_by_ends (reply.File id area edek) plain = tt
children_by_ends (reply.List children) plain = tt
children_by_ends (reply.Status status) plain = tt
children_by_ends (reply.Zones zones) plain = tt
children_by_ends (reply.Refused own) plain = refused_ends own (plain own refl)

children_ends : (answer : Line) → IsPlainLine answer → IfErr (children_in answer) (EndsFor ⊥ ⊥ (ShowsRefused answer))
children_ends (line.Kms given) plain = tt
children_ends (line.Ticket number version wanted) plain = tt
children_ends line.NoTicket plain = tt
children_ends (line.Deposit deposit) plain = tt
children_ends (line.Opened opening) plain = tt
children_ends (line.Asked number note) plain = tt
children_ends (line.Replied number given) plain = tt
children_ends (line.Batch number files) plain = tt
children_ends (line.NoneLeft count) plain = tt
children_ends line.Completed plain = tt
children_ends (line.Delivered delivered) plain = tt
children_ends (line.Refused why) plain = tt
children_ends line.Unknown plain = tt
children_ends (line.Name given) plain = children_by_ends given plain

-- ---- the metadata of a key

abbrev AreSound : List (Bool × KmsRefusal) → Type 0
AreSound [] = Unit {0}
AreSound (cause ∷ causes) = (cause.1 ≢ key.StoreFault) × AreSound causes

if_sound : (hit : Bool) (own why : KmsRefusal) (rest : Option KmsRefusal) → own ≢ key.StoreFault → (rest ≡ Some why → why ≢ key.StoreFault) → (if hit then Some own else rest) ≡ Some why → why ≢ key.StoreFault
if_sound true own why rest p q e h = let same : own ≡ why = cc in p (same ∙ h)
if_sound false own why rest p q e h = q e h

first_sound : (causes : List (Bool × KmsRefusal)) (why : KmsRefusal) → AreSound causes → keys.first_cause causes ≡ Some why → why ≢ key.StoreFault
first_sound [] why p e h = absurd cc
first_sound (cause ∷ causes) why p e h = if_sound cause.0 cause.1 why (keys.first_cause causes) p.0 (λ f. first_sound causes why p.1 f) e h

module _ (s : KmsState) (words : ℕ → ℕ) (now : ℕ) (name : KeyName) where
  key_unless : (why : Option KmsRefusal) (answered : KmsReply) (drawn : ℕ) (s' : KmsState) → keys.first_cause (keys.causes s (call.Metadata name)) ≡ why
      → record { reply = answered; drawn = drawn; state = s' } ≡ keys.unless_refused why s (keys.deed s words now (call.Metadata name)) → answered ≢ key_reply.Refused key.StoreFault
  key_unless (Some why) answered drawn s' first e is =
      let r : answered ≡ key_reply.Refused why = ap (λ (o : keys.Outcome). o.reply) e in
      let same : why ≡ key.StoreFault = cc in
      first_sound (keys.causes s (call.Metadata name)) why (λ h. cc, tt) first same
  key_unless None answered drawn s' first e is = let r = sym (ap (λ (o : keys.Outcome). o.reply) e) ∙ is in absurd cc

  key_acts : (answered : KmsReply) (drawn : ℕ) (s' : KmsState) → keys.KmsActs s words now (call.Metadata name) answered drawn s' → answered ≢ key_reply.Refused key.StoreFault
  key_acts answered drawn s' (keys.Plain, may, e) is = key_unless (keys.first_cause (keys.causes s (call.Metadata name))) answered drawn s' refl e is
  key_acts answered drawn s' (keys.NoRoom count, may, e) is = let r : answered ≡ key_reply.Refused key.NoMemory = ap (λ (o : keys.Outcome). o.reply) e in absurd cc

key_sound : (s : ServiceState) (words : ℕ → ℕ) (now : ℕ) (fault tells : Type 0) (answered : KmsReply) (drawn : ℕ) (logged : List KeyCommand) (s' : ServiceState) (judged : Result Shown Denied) (name : KeyName)
    → ServesUnder judged s words now (call.Metadata name) fault tells answered drawn logged s' → answered ≢ key_reply.Refused key.StoreFault
key_sound s words now fault tells answered drawn logged s' (Err denied) name denies is = let r = denies.reply_is in absurd cc
key_sound s words now fault tells answered drawn logged s' (Ok shown) name permits is = key_acts s.keys words now name permits.reply drawn s.keys (acts-from-memory s words now (call.Metadata name) fault tells permits.reply drawn logged s' refl permits.serves) (sym permits.reply_is ∙ is)

metadata_line : (lines : List PropLine) (w : WorldState) (words : ℕ → ℕ) (now : ℕ) (user : List ℕ) (name : KeyName) (fault tells : Type 0) (answer : Line) (drawn : ℕ) (logged : Acknowledged) (w' : WorldState)
    → Step lines w words now (event.Kms user (call.Metadata name)) fault tells answer drawn logged w' → answer ≢ line.Kms (key_reply.Refused key.StoreFault)
metadata_line lines w words now user name fault tells answer drawn logged w' step is =
    let r = step.reply_is in
    let own : step.reply ≡ key_reply.Refused key.StoreFault = cc in
    key_sound w.keys words now fault tells step.reply drawn step.commands step.keys (verdict lines user (call.Metadata name)) name step.serves own

reply_ends : (refused : FsEnd → Type 0) (answer : Line) → IfErr (reply_in answer) (EndsFor ⊥ ⊥ refused)
reply_ends refused (line.Kms given) = tt
reply_ends refused (line.Name given) = tt
reply_ends refused (line.Ticket number version wanted) = tt
reply_ends refused line.NoTicket = tt
reply_ends refused (line.Deposit deposit) = tt
reply_ends refused (line.Opened opening) = tt
reply_ends refused (line.Asked number note) = tt
reply_ends refused (line.Replied number given) = tt
reply_ends refused (line.Batch number files) = tt
reply_ends refused (line.NoneLeft count) = tt
reply_ends refused line.Completed = tt
reply_ends refused (line.Delivered delivered) = tt
reply_ends refused (line.Refused why) = tt
reply_ends refused line.Unknown = tt

reply_is : (answer : Line) (given : KmsReply) → reply_in answer ≡ Ok given → answer ≡ line.Kms given
reply_is (line.Kms given) own e = let same : given ≡ own = cc in ap line.Kms same
reply_is (line.Name given) own e = absurd cc
reply_is (line.Ticket number version wanted) own e = absurd cc
reply_is line.NoTicket own e = absurd cc
reply_is (line.Deposit deposit) own e = absurd cc
reply_is (line.Opened opening) own e = absurd cc
reply_is (line.Asked number note) own e = absurd cc
reply_is (line.Replied number given) own e = absurd cc
reply_is (line.Batch number files) own e = absurd cc
reply_is (line.NoneLeft count) own e = absurd cc
reply_is line.Completed own e = absurd cc
reply_is (line.Delivered delivered) own e = absurd cc
reply_is (line.Refused why) own e = absurd cc
reply_is line.Unknown own e = absurd cc

-- ---- over a disk

module _ {D W : Type 0} (state : D → DiskState) (to_come : W → ℕ → ℕ) (now : ℕ) (a b : Standing D W) (ready : IsDeskReady state a) (user : Text) where
  -- the refusal that an answer shows is the cause
  read_ends : (e : Event) (answer : Line) (why : FsEnd) → IsReadEvent e → LeadsAt state to_come now a e answer b → EndsFor ⊥ ⊥ (ShowsRefused answer) why → EndsFor ⊥ ⊥ (EventRefused state to_come now a b) why
  read_ends e answer why only leads h = ends-so ⊥ ⊥ ⊥ ⊥ (ShowsRefused answer) (EventRefused state to_come now a b) why (λ x. x) (λ x. x) (λ shows. (e, answer, only, leads, shows)) h

  err_ends : {T : Type 0} (e : Event) (answer : Line) (result : Result T FsEnd) → IsReadEvent e → LeadsAt state to_come now a e answer b → IfErr result (EndsFor ⊥ ⊥ (ShowsRefused answer)) → IfErr result (EndsFor ⊥ ⊥ (EventRefused state to_come now a b))
  err_ends e answer (Ok done) only leads h = tt
  err_ends e answer (Err why) only leads h = read_ends e answer why only leads h

  module _ (is_user : user ≡ superuser) where
    pub look_ends : (place : ReadPath) (result : Result Row FsEnd) → Looks (LeadsAt state to_come now) user place a result b → IfErr result (EndsFor ⊥ ⊥ (EventRefused state to_come now a b))
    look_ends place result (inr (none, same)) = subst (λ (r : Result Row FsEnd). IfErr r (EndsFor ⊥ ⊥ (EventRefused state to_come now a b))) (sym none) tt
    look_ends place result (inl (answer, leads, is)) =
        let s = leads ready.0 ready.1.lists in
        subst (λ (r : Result Row FsEnd). IfErr r (EndsFor ⊥ ⊥ (EventRefused state to_come now a b))) (sym is)
        (err_ends (event.Info user (read_path_text place)) answer (row_in answer) is_user leads
        (row_ends answer (info_line ready.0 (world_of a.world) (to_come a.words) now user (read_path_text place) (Rose (state a.disk).faults (state b.disk).faults) (Tells (state a.disk)) answer s.drawn s.logged (world_of b.world) s.step.step)))

    pub list_ends : (place : ReadPath) (result : Result (List Child) FsEnd) → ListsDirectory (LeadsAt state to_come now) user place a result b → IfErr result (EndsFor ⊥ ⊥ (EventRefused state to_come now a b))
    list_ends place result (inr (none, same)) = subst (λ (r : Result (List Child) FsEnd). IfErr r (EndsFor ⊥ ⊥ (EventRefused state to_come now a b))) (sym none) tt
    list_ends place result (inl (answer, leads, is)) =
        let s = leads ready.0 ready.1.lists in
        subst (λ (r : Result (List Child) FsEnd). IfErr r (EndsFor ⊥ ⊥ (EventRefused state to_come now a b))) (sym is)
        (err_ends (event.List user (read_path_text place)) answer (children_in answer) is_user leads
        (children_ends answer (list_line ready.0 (world_of a.world) (to_come a.words) now user (read_path_text place) (Rose (state a.disk).faults (state b.disk).faults) (Tells (state a.disk)) answer s.drawn s.logged (world_of b.world) s.step.step)))

  module _ (name : KeyName) (result : Result KmsReply FsEnd) where
    pub metadata_ends : (refused : FsEnd → Type 0) → AsksKey (LeadsAt state to_come now) user name a result b → IfErr result (EndsFor ⊥ ⊥ refused)
    metadata_ends refused (inr (none, same)) = subst (λ (r : Result KmsReply FsEnd). IfErr r (EndsFor ⊥ ⊥ refused)) (sym none) tt
    metadata_ends refused (inl (answer, leads, is)) = subst (λ (r : Result KmsReply FsEnd). IfErr r (EndsFor ⊥ ⊥ refused)) (sym is) (reply_ends refused answer)

    pub metadata_fault : AsksKey (LeadsAt state to_come now) user name a result b → result ≡ Ok (key_reply.Refused key.StoreFault) → ⊥
    metadata_fault (inr (none, same)) h = absurd cc
    metadata_fault (inl (answer, leads, is)) h =
        let s = leads ready.0 ready.1.lists in
        metadata_line ready.0 (world_of a.world) (to_come a.words) now user name (Rose (state a.disk).faults (state b.disk).faults) (Tells (state a.disk)) answer s.drawn s.logged (world_of b.world) s.step.step (reply_is answer (key_reply.Refused key.StoreFault) (sym is ∙ h))

    -- the reply is that to an event of the superuser
    pub metadata_given : user ≡ superuser → AsksKey (LeadsAt state to_come now) user name a result b → IfOk result (λ (given : KmsReply). LeadsAt state to_come now a (event.Kms superuser (call.Metadata name)) (line.Kms given) b)
    metadata_given is_user (inr (none, same)) = subst (λ (r : Result KmsReply FsEnd). IfOk r (λ (given : KmsReply). LeadsAt state to_come now a (event.Kms superuser (call.Metadata name)) (line.Kms given) b)) (sym none) tt
    metadata_given is_user (inl (answer, leads, is)) = go result (sym is)
      where
        go : (r : Result KmsReply FsEnd) → reply_in answer ≡ r → IfOk r (λ (given : KmsReply). LeadsAt state to_come now a (event.Kms superuser (call.Metadata name)) (line.Kms given) b)
        go (Err why) e = tt
        go (Ok given) e = subst (λ (u : Text). LeadsAt state to_come now a (event.Kms u (call.Metadata name)) (line.Kms given) b) is_user (subst (λ (l : Line). LeadsAt state to_come now a (event.Kms user (call.Metadata name)) l b) (reply_is answer given e) leads)
