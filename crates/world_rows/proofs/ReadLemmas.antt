-- What the events that only read tell, and that they leave the world as it was.
use Rattle.std.proofs.Common.{◌≡◌, ◌≤◌, inl, inr, ℕ, Bool, true, false, not, List, [], ◌∷◌, ◌++◌, refl, sym, ap, ◌∙◌, subst, arith}
use Rattle.std.specs.Prelude.{Option, Some, None, Result, Ok, Err, IfOk, OnOk, is_none}
use Rattle.edit_ops.specs.declared.ops.EditOp.{EditOp}
use Rattle.hk_base.specs.Disk.{DiskState, Tells}
use Rattle.hk_base.specs.Faults.{Rose}
use Rattle.hk_base.specs.declared.names.KeyName.{KeyName}
use Rattle.hk_base.specs.declared.texts.Text.{Text}
use Rattle.hk_events.specs.declared.event.Event.{Event}
use Rattle.hk_events.specs.declared.event.Event.TheVariants as event
use Rattle.hk_events.specs.declared.event.Line.{Line}
use Rattle.inode_tree.specs.Listing.{children}
use Rattle.inode_tree.specs.Rows.{is_dir_at, row_at}
use Rattle.inode_tree.specs.declared.rows.Kind.{Kind}
use Rattle.inode_tree.specs.declared.rows.Kind.TheVariants.{Dir, File}
use Rattle.inode_tree.specs.declared.rows.Row.{Row}
use Rattle.key_rows.specs.declared.rows.KeyCommand.{KeyCommand}
use Rattle.kms_acls.specs.Verdict.{verdict}
use Rattle.kms_acls.specs.declared.answers.Denied.{Denied}
use Rattle.kms_acls.specs.declared.answers.Shown.{Shown}
use Rattle.kms_calls.specs.declared.calls.KmsCall.TheVariants as call
use Rattle.kms_calls.specs.declared.calls.KmsReply.{KmsReply}
use Rattle.kms_core.specs.State.{ServiceState}
use Rattle.kms_core.specs.Users.{ServesUnder}
use Rattle.name_calls.specs.ReadPaths.{read_any_path}
use Rattle.name_calls.specs.Paths.{is_relative}
use Rattle.name_calls.specs.declared.calls.NameCall.TheVariants as name_call
use Rattle.name_calls.specs.declared.calls.NameRefusal.{NameRefusal}
use Rattle.name_calls.specs.declared.calls.NameReply.{NameReply}
use Rattle.name_calls.specs.declared.calls.NameReply.TheVariants as reply
use Rattle.name_calls.specs.declared.listing.Child.{Child}
use Rattle.name_calls.specs.declared.paths.NPath.{NPath}
use Rattle.name_calls.specs.declared.read_paths.ReadPath.{ReadPath}
use Rattle.name_core.specs.Calls as names
use Rattle.name_core.specs.Calls.{superuser}
use Rattle.name_core.specs.Reads.{info_of, list_causes, path_read, rows_read, shown_at, snapshot_causes, zone_read}
use Rattle.name_core.specs.Service as service
use Rattle.name_core.specs.State.{NameService, NameState}
use Rattle.name_store.specs.Causes.{first_cause}
use Rattle.name_store.specs.Table.{NameTable}
use Rattle.prop_text.specs.declared.lines.PropLine.{PropLine}
use Rattle.file_orders.specs.declared.ends.FsEnd.{FsEnd}
use Rattle.place_texts.specs.Places.{place_below, read_path_text}
use Rattle.place_texts.proofs.PlaceLemmas.{only-back}
use Rattle.source_looks.specs.Looks.{ListsDirectory, Looks, AsksKey, children_by, children_in, row_by, row_in}
use Rattle.world_desk.specs.Worlds.{IsDeskReady}
use Rattle.world_events.specs.Events.{HoldsSame, LeadsAt, standing_of}
use Rattle.world_events.specs.declared.events.WorldEvents.{WorldEvents}
use Rattle.world_run.specs.Acknowledged.{Acknowledged}
use Rattle.world_run.specs.Drives.{Standing}
use Rattle.world_run.specs.Step.{PathActs, Step}
use Rattle.world_run.specs.World.{WorldState, world_of}
use Rattle.world_rows.specs.Rows.{IsPlace, IsReadEvent, ReadsOnce, place_rows, table_of}
use Rattle.world_rows.proofs.SeenLemmas.{children-of-place, row-of-place}

-- ---- an info

shows : (id : ℕ) (kind : Kind) (lying : Option NPath) (row : Row) → row_by (info_of id lying kind) ≡ Ok row → record { id = id; kind = kind } ≡ row
shows id (Dir key) lying row e = cc
shows id (File edek) lying row e = cc

shows_row : (found : Option Row) (lying : Option NPath) (row : Row) → row_by (shown_at lying found) ≡ Ok row → found ≡ Some row
shows_row None lying row e = absurd cc
shows_row (Some x) lying row e = ap Some (shows x.id x.kind lying row e)

module _ (s : NameState) (p : ReadPath) (row : Row) where
  unless_so : (why : Option NameRefusal) (given : NameReply) (s' : NameState) → record { reply = given; state = s' } ≡ names.unless_refused why s (names.deed s (name_call.Info p)) → row_by given ≡ Ok row
      → row_at (rows_read s.table p) (path_read p) ≡ Some row
  unless_so (Some why) given s' e is = let r : given ≡ reply.Refused why = ap (λ (o : names.Outcome). o.reply) e in let bad = sym (ap row_by r) ∙ is in absurd cc
  unless_so None given s' e is = shows_row (row_at (rows_read s.table p) (path_read p)) (zone_read s.table p) row (sym (ap (λ (o : names.Outcome). row_by o.reply) e) ∙ is)

  acts_so : (given : NameReply) (s' : NameState) → names.NameActs s (name_call.Info p) given s' → row_by given ≡ Ok row → row_at (rows_read s.table p) (path_read p) ≡ Some row
  acts_so given s' (names.Plain, may, e) is = unless_so (names.first_cause (names.causes s (name_call.Info p))) given s' e is
  acts_so given s' (names.NoRoom, may, e) is = let r = ap (λ (o : names.Outcome). row_by o.reply) e in let bad = sym r ∙ is in absurd cc

served_so : (why : Option NameRefusal) (s : NameService) (p : ReadPath) (fault : Type 0) (given : NameReply) (ops : List EditOp) (s' : NameService) (row : Row)
    → service.ServesUnless why s (name_call.Info p) fault given ops s' → row_by given ≡ Ok row → row_at (rows_read s.names.table p) (path_read p) ≡ Some row
served_so (Some why) s p fault given ops s' row refused is = let bad = sym (ap row_by refused.reply_is) ∙ is in absurd cc
served_so None s p fault given ops s' row only is = acts_so s.names p row given s.names only.acts is

-- an answer that shows a row tells the row at the path that was read
pub row_told : (lines : List PropLine) (w : WorldState) (words : ℕ → ℕ) (now : ℕ) (user path : List ℕ) (fault tells : Type 0) (answer : Line) (drawn : ℕ) (logged : Acknowledged) (w' : WorldState)
    → Step lines w words now (event.Info user path) fault tells answer drawn logged w' → (row : Row) → row_in answer ≡ Ok row
    → (p : ReadPath) × (read_any_path path ≡ Some p) × (row_at (rows_read w.names.names.table p) (path_read p) ≡ Some row)
row_told lines w words now user path fault tells answer drawn logged w' step row is = go (read_any_path path) refl step
  where
    go : (read : Option ReadPath) → read_any_path path ≡ read → PathActs w user name_call.Info read fault answer drawn logged w'
        → (p : ReadPath) × (read_any_path path ≡ Some p) × (row_at (rows_read w.names.names.table p) (path_read p) ≡ Some row)
    go None read unread = let bad = sym (ap row_in unread.reply_is) ∙ is in absurd cc
    go (Some p) read (inr unread) = let bad = sym (ap row_in unread.reply_is) ∙ is in absurd cc
    go (Some p) read (inl acts) =
        (p, read, served_so (names.first_cause (names.early_causes user (name_call.Info p))) w.names p fault acts.reply acts.ops acts.names row acts.serves (sym (ap row_in acts.reply_is) ∙ is))

-- ---- a list

last_passes : (xs : List (Bool × NameRefusal)) (a b : Bool) (x y : NameRefusal) → first_cause (xs ++ ((a, x) ∷ (not b, y) ∷ [])) ≡ None → b ≡ true
last_passes [] true b x y h = absurd cc
last_passes [] false true x y h = refl
last_passes [] false false x y h = absurd cc
last_passes ((true, z) ∷ xs) a b x y h = absurd cc
last_passes ((false, z) ∷ xs) a b x y h = last_passes xs a b x y h

-- a list tells the entries of a directory
abbrev Told : NameTable → ReadPath → List Child → Type 0
Told t p list = (list ≡ children (rows_read t p) (path_read p)) × (is_dir_at (row_at (rows_read t p) (path_read p)) ≡ true)

module _ (s : NameState) (p : ReadPath) (list : List Child) where
  list_so : (why : Option NameRefusal) → first_cause (list_causes s.table p) ≡ why → (given : NameReply) (s' : NameState) → record { reply = given; state = s' } ≡ names.unless_refused why s (names.deed s (name_call.List p)) → children_by given ≡ Ok list
      → Told s.table p list
  list_so (Some why) cause given s' e is = let r : given ≡ reply.Refused why = ap (λ (o : names.Outcome). o.reply) e in let bad = sym (ap children_by r) ∙ is in absurd cc
  list_so None cause given s' e is =
      let own : Ok (children (rows_read s.table p) (path_read p)) ≡ Ok list = sym (ap (λ (o : names.Outcome). children_by o.reply) e) ∙ is in
      let same : children (rows_read s.table p) (path_read p) ≡ list = cc in
      (sym same, last_passes (snapshot_causes s.table p) (is_none (row_at (rows_read s.table p) (path_read p))) (is_dir_at (row_at (rows_read s.table p) (path_read p))) _ _ cause)

  list_acts : (given : NameReply) (s' : NameState) → names.NameActs s (name_call.List p) given s' → children_by given ≡ Ok list → Told s.table p list
  list_acts given s' (names.Plain, may, e) is = list_so (names.first_cause (names.causes s (name_call.List p))) refl given s' e is
  list_acts given s' (names.NoRoom, may, e) is = let r = ap (λ (o : names.Outcome). children_by o.reply) e in let bad = sym r ∙ is in absurd cc

list_served : (why : Option NameRefusal) (s : NameService) (p : ReadPath) (fault : Type 0) (given : NameReply) (ops : List EditOp) (s' : NameService) (list : List Child)
    → service.ServesUnless why s (name_call.List p) fault given ops s' → children_by given ≡ Ok list → Told s.names.table p list
list_served (Some why) s p fault given ops s' list refused is = let bad = sym (ap children_by refused.reply_is) ∙ is in absurd cc
list_served None s p fault given ops s' list only is = list_acts s.names p list given s.names only.acts is

pub list_told : (lines : List PropLine) (w : WorldState) (words : ℕ → ℕ) (now : ℕ) (user path : List ℕ) (fault tells : Type 0) (answer : Line) (drawn : ℕ) (logged : Acknowledged) (w' : WorldState)
    → Step lines w words now (event.List user path) fault tells answer drawn logged w' → (list : List Child) → children_in answer ≡ Ok list
    → (p : ReadPath) × (read_any_path path ≡ Some p) × Told w.names.names.table p list
list_told lines w words now user path fault tells answer drawn logged w' step list is = go (read_any_path path) refl step
  where
    go : (read : Option ReadPath) → read_any_path path ≡ read → PathActs w user name_call.List read fault answer drawn logged w' → (p : ReadPath) × (read_any_path path ≡ Some p) × Told w.names.names.table p list
    go None read unread = let bad = sym (ap children_in unread.reply_is) ∙ is in absurd cc
    go (Some p) read (inr unread) = let bad = sym (ap children_in unread.reply_is) ∙ is in absurd cc
    go (Some p) read (inl acts) =
        (p, read, list_served (names.first_cause (names.early_causes user (name_call.List p))) w.names p fault acts.reply acts.ops acts.names list acts.serves (sym (ap children_in acts.reply_is) ∙ is))

-- ---- the world stays

-- nothing was drawn, and the world is as before
abbrev Quiet : WorldState → ℕ → WorldState → Type 0
Quiet w drawn w' = (drawn ≡ 0) × (w' ≡ w)

info_same : (why : Option NameRefusal) (s : NameService) (p : ReadPath) (fault : Type 0) (given : NameReply) (ops : List EditOp) (s' : NameService) → service.ServesUnless why s (name_call.Info p) fault given ops s' → s' ≡ s
info_same (Some why) s p fault given ops s' refused = refused.same
info_same None s p fault given ops s' only = only.same

list_same : (why : Option NameRefusal) (s : NameService) (p : ReadPath) (fault : Type 0) (given : NameReply) (ops : List EditOp) (s' : NameService) → service.ServesUnless why s (name_call.List p) fault given ops s' → s' ≡ s
list_same (Some why) s p fault given ops s' refused = refused.same
list_same None s p fault given ops s' only = only.same

key_same : (judged : Result Shown Denied) (s : ServiceState) (words : ℕ → ℕ) (now : ℕ) (name : KeyName) (fault tells : Type 0) (given : KmsReply) (drawn : ℕ) (logged : List KeyCommand) (s' : ServiceState)
    → ServesUnder judged s words now (call.Metadata name) fault tells given drawn logged s' → (drawn ≡ 0) × (s' ≡ s)
key_same (Err denied) s words now name fault tells given drawn logged s' denies = (denies.none_drawn, denies.same)
key_same (Ok shown) s words now name fault tells given drawn logged s' permits = (permits.serves.none_drawn, permits.serves.same)

pub quiet : (lines : List PropLine) (w : WorldState) (words : ℕ → ℕ) (now : ℕ) (e : Event) (fault tells : Type 0) (answer : Line) (drawn : ℕ) (logged : Acknowledged) (w' : WorldState)
    → Step lines w words now e fault tells answer drawn logged w' → IsReadEvent e → Quiet w drawn w'
quiet lines w words now (event.Info user path) fault tells answer drawn logged w' step only = go (read_any_path path) step
  where
    go : (read : Option ReadPath) → PathActs w user name_call.Info read fault answer drawn logged w' → Quiet w drawn w'
    go None unread = (unread.quiet.0, unread.same)
    go (Some p) (inr unread) = (unread.quiet.0, unread.same)
    go (Some p) (inl acts) = (acts.none_drawn, acts.left ∙ ap (λ (n : NameService). record w { names = n }) (info_same (names.first_cause (names.early_causes user (name_call.Info p))) w.names p fault acts.reply acts.ops acts.names acts.serves))
quiet lines w words now (event.List user path) fault tells answer drawn logged w' step only = go (read_any_path path) step
  where
    go : (read : Option ReadPath) → PathActs w user name_call.List read fault answer drawn logged w' → Quiet w drawn w'
    go None unread = (unread.quiet.0, unread.same)
    go (Some p) (inr unread) = (unread.quiet.0, unread.same)
    go (Some p) (inl acts) = (acts.none_drawn, acts.left ∙ ap (λ (n : NameService). record w { names = n }) (list_same (names.first_cause (names.early_causes user (name_call.List p))) w.names p fault acts.reply acts.ops acts.names acts.serves))
quiet lines w words now (event.Kms user (call.Metadata name)) fault tells answer drawn logged w' step only =
    let k = key_same (verdict lines user (call.Metadata name)) w.keys words now name fault tells step.reply drawn step.commands step.keys step.serves in
    (k.0, step.left ∙ ap (λ (k : ServiceState). record w { keys = k }) k.1)
quiet lines w words now (event.Kms user (call.Create _ _ _ _)) fault tells answer drawn logged w' step only = absurd only.1
quiet lines w words now (event.Kms user (call.Roll _ _)) fault tells answer drawn logged w' step only = absurd only.1
quiet lines w words now (event.Kms user (call.Delete _)) fault tells answer drawn logged w' step only = absurd only.1
quiet lines w words now (event.Kms user (call.Invalidate _)) fault tells answer drawn logged w' step only = absurd only.1
quiet lines w words now (event.Kms user (call.Metadatas _)) fault tells answer drawn logged w' step only = absurd only.1
quiet lines w words now (event.Kms user call.Names) fault tells answer drawn logged w' step only = absurd only.1
quiet lines w words now (event.Kms user (call.Current _)) fault tells answer drawn logged w' step only = absurd only.1
quiet lines w words now (event.Kms user (call.Versions _)) fault tells answer drawn logged w' step only = absurd only.1
quiet lines w words now (event.Kms user (call.Version _)) fault tells answer drawn logged w' step only = absurd only.1
quiet lines w words now (event.Kms user (call.Generate _ _)) fault tells answer drawn logged w' step only = absurd only.1
quiet lines w words now (event.Kms user (call.Decrypt _ _)) fault tells answer drawn logged w' step only = absurd only.1
quiet lines w words now (event.Kms user (call.Reencrypt _ _)) fault tells answer drawn logged w' step only = absurd only.1
quiet lines w words now (event.Kms user (call.Batch _ _)) fault tells answer drawn logged w' step only = absurd only.1
quiet lines w words now event.Ticket fault tells answer drawn logged w' step only = absurd only
quiet lines w words now (event.Deposit _) fault tells answer drawn logged w' step only = absurd only
quiet lines w words now event.RestartKms fault tells answer drawn logged w' step only = absurd only
quiet lines w words now event.RestartName fault tells answer drawn logged w' step only = absurd only
quiet lines w words now (event.Mkdir _ _) fault tells answer drawn logged w' step only = absurd only
quiet lines w words now (event.Delete _ _ _) fault tells answer drawn logged w' step only = absurd only
quiet lines w words now (event.Rename _ _ _) fault tells answer drawn logged w' step only = absurd only
quiet lines w words now (event.Allow _ _) fault tells answer drawn logged w' step only = absurd only
quiet lines w words now (event.Disallow _ _) fault tells answer drawn logged w' step only = absurd only
quiet lines w words now (event.Snap _ _ _) fault tells answer drawn logged w' step only = absurd only
quiet lines w words now (event.Unsnap _ _ _) fault tells answer drawn logged w' step only = absurd only
quiet lines w words now (event.Cancel _ _) fault tells answer drawn logged w' step only = absurd only
quiet lines w words now (event.Status _ _) fault tells answer drawn logged w' step only = absurd only
quiet lines w words now (event.Zones _) fault tells answer drawn logged w' step only = absurd only
quiet lines w words now (event.AskCreate _ _) fault tells answer drawn logged w' step only = absurd only
quiet lines w words now (event.AskZone _ _ _) fault tells answer drawn logged w' step only = absurd only
quiet lines w words now (event.AskSubmit _ _) fault tells answer drawn logged w' step only = absurd only
quiet lines w words now (event.Draw _) fault tells answer drawn logged w' step only = absurd only
quiet lines w words now (event.Finish _) fault tells answer drawn logged w' step only = absurd only
quiet lines w words now (event.Walk _) fault tells answer drawn logged w' step only = absurd only
quiet lines w words now (event.Serve _) fault tells answer drawn logged w' step only = absurd only
quiet lines w words now (event.Deliver _) fault tells answer drawn logged w' step only = absurd only
quiet lines w words now (event.GiveUp _) fault tells answer drawn logged w' step only = absurd only

-- ---- over a disk

-- the step of an event, and the lists that it was judged by
record Stepped {D W : Type 0} (state : D → DiskState) (to_come : W → ℕ → ℕ) (now : ℕ) (a : Standing D W) (e : Event) (answer : Line) (b : Standing D W) : Type 0 where
  lines : List PropLine
  drawn : ℕ
  logged : Acknowledged
  step : Step lines (world_of a.world) (to_come a.words) now e (Rose (state a.disk).faults (state b.disk).faults) (Tells (state a.disk)) answer drawn logged (world_of b.world)

module _ {D W : Type 0} (state : D → DiskState) (to_come : W → ℕ → ℕ) (now : ℕ) (a b : Standing D W) (ready : IsDeskReady state a) where
  stepped : (e : Event) (answer : Line) → LeadsAt state to_come now a e answer b → Stepped state to_come now a e answer b
  stepped e answer leads = let s = leads ready.0 ready.1.lists in record { lines = ready.0; drawn = s.drawn; logged = s.logged; step = s.step.step }

  -- the world is as it was
  pub once_same : ReadsOnce state to_come now a b → world_of b.world ≡ world_of a.world
  once_same (inl same) = ap (λ (v : Standing D W). world_of v.world) same
  once_same (inr (e, answer, only, leads)) =
      let s = stepped e answer leads in
      (quiet s.lines (world_of a.world) (to_come a.words) now e _ _ answer s.drawn s.logged (world_of b.world) s.step only).1

  pub rows_same : (place : ReadPath) → ReadsOnce state to_come now a b → place_rows (table_of b.world) place ≡ place_rows (table_of a.world) place
  rows_same place once = ap (λ (w : WorldState). place_rows w.names.names.table place) (once_same once)

  module _ (user : Text) (place : ReadPath) (q : NPath) (is_place : IsPlace place) (short : is_relative q ≡ true) where
    pub row_found : (result : Result Row FsEnd) → Looks (LeadsAt state to_come now) user (place_below place q) a result b → IfOk result (λ (row : Row). row_at (place_rows (table_of a.world) place) q ≡ Some row)
    row_found (Err why) looks = tt
    row_found (Ok row) (inr (none, same)) = absurd cc
    row_found (Ok row) (inl (answer, leads, is)) =
        let s = stepped (event.Info user (read_path_text (place_below place q))) answer leads in
        let t = row_told s.lines (world_of a.world) (to_come a.words) now user (read_path_text (place_below place q)) (Rose (state a.disk).faults (state b.disk).faults) (Tells (state a.disk)) answer s.drawn s.logged (world_of b.world) s.step row (sym is) in
        sym (row-of-place (table_of a.world) place q is_place)
        ∙ ap (λ (p : ReadPath). row_at (rows_read (table_of a.world) p) (path_read p)) (sym (only-back place q t.0 is_place.ruled short t.1)) ∙ t.2

    pub list_found : (result : Result (List Child) FsEnd) → ListsDirectory (LeadsAt state to_come now) user (place_below place q) a result b → IfOk result (λ (list : List Child). list ≡ children (place_rows (table_of a.world) place) q)
    list_found (Err why) looks = tt
    list_found (Ok list) (inr (none, same)) = absurd cc
    list_found (Ok list) (inl (answer, leads, is)) =
        let s = stepped (event.List user (read_path_text (place_below place q))) answer leads in
        let t = list_told s.lines (world_of a.world) (to_come a.words) now user (read_path_text (place_below place q)) (Rose (state a.disk).faults (state b.disk).faults) (Tells (state a.disk)) answer s.drawn s.logged (world_of b.world) s.step list (sym is) in
        t.2.0 ∙ ap (λ (p : ReadPath). children (rows_read (table_of a.world) p) (path_read p)) (only-back place q t.0 is_place.ruled short t.1) ∙ children-of-place (table_of a.world) place q is_place

    pub directory_found : (result : Result (List Child) FsEnd) → ListsDirectory (LeadsAt state to_come now) user (place_below place q) a result b → OnOk result (is_dir_at (row_at (place_rows (table_of a.world) place) q) ≡ true)
    directory_found (Err why) looks = tt
    directory_found (Ok list) (inr (none, same)) = absurd cc
    directory_found (Ok list) (inl (answer, leads, is)) =
        let s = stepped (event.List user (read_path_text (place_below place q))) answer leads in
        let t = list_told s.lines (world_of a.world) (to_come a.words) now user (read_path_text (place_below place q)) (Rose (state a.disk).faults (state b.disk).faults) (Tells (state a.disk)) answer s.drawn s.logged (world_of b.world) s.step list (sym is) in
        ap is_dir_at (sym (row-of-place (table_of a.world) place q is_place) ∙ ap (λ (p : ReadPath). row_at (rows_read (table_of a.world) p) (path_read p)) (sym (only-back place q t.0 is_place.ruled short t.1))) ∙ t.2.1

-- ---- over events that hold the services

-- an event of these services
abbrev Led : {D W : Type 0} → (D → DiskState) → (W → ℕ → ℕ) → WorldEvents D W → Event → Line → WorldEvents D W → Type 0
Led state to_come old e answer new = HoldsSame old new × LeadsAt state to_come old.now (standing_of old) e answer (standing_of new)

module _ {D W : Type 0} (state : D → DiskState) (to_come : W → ℕ → ℕ) (a b : WorldEvents D W) (user : Text) where
  holds_itself : b ≡ a → HoldsSame a b
  holds_itself same = subst (λ (v : WorldEvents D W). HoldsSame a v) (sym same) (refl, (refl, (refl, refl)))

  pub looks_on : (place : ReadPath) (result : Result Row FsEnd) → Looks (Led state to_come) user place a result b → HoldsSame a b × Looks (LeadsAt state to_come a.now) user place (standing_of a) result (standing_of b)
  looks_on place result (inl (answer, (holds, leads), is)) = (holds, inl (answer, leads, is))
  looks_on place result (inr (none, same)) = (holds_itself same, inr (none, ap standing_of same))

  pub lists_on : (place : ReadPath) (result : Result (List Child) FsEnd) → ListsDirectory (Led state to_come) user place a result b → HoldsSame a b × ListsDirectory (LeadsAt state to_come a.now) user place (standing_of a) result (standing_of b)
  lists_on place result (inl (answer, (holds, leads), is)) = (holds, inl (answer, leads, is))
  lists_on place result (inr (none, same)) = (holds_itself same, inr (none, ap standing_of same))

  pub asks_on : (key : KeyName) (result : Result KmsReply FsEnd) → AsksKey (Led state to_come) user key a result b → HoldsSame a b × AsksKey (LeadsAt state to_come a.now) user key (standing_of a) result (standing_of b)
  asks_on key result (inl (answer, (holds, leads), is)) = (holds, inl (answer, leads, is))
  asks_on key result (inr (none, same)) = (holds_itself same, inr (none, ap standing_of same))

module _ {D W : Type 0} (state : D → DiskState) (to_come : W → ℕ → ℕ) (now : ℕ) (a b : Standing D W) (user : Text) (is_user : user ≡ superuser) where
  pub look_once : (place : ReadPath) (result : Result Row FsEnd) → Looks (LeadsAt state to_come now) user place a result b → ReadsOnce state to_come now a b
  look_once place result (inl (answer, leads, is)) = inr (event.Info user (read_path_text place), answer, is_user, leads)
  look_once place result (inr (none, same)) = inl same

  pub list_once : (place : ReadPath) (result : Result (List Child) FsEnd) → ListsDirectory (LeadsAt state to_come now) user place a result b → ReadsOnce state to_come now a b
  list_once place result (inl (answer, leads, is)) = inr (event.List user (read_path_text place), answer, is_user, leads)
  list_once place result (inr (none, same)) = inl same

  pub ask_once : (key : KeyName) (result : Result KmsReply FsEnd) → AsksKey (LeadsAt state to_come now) user key a result b → ReadsOnce state to_come now a b
  ask_once key result (inl (answer, leads, is)) = inr (event.Kms user (call.Metadata key), answer, (is_user, tt), leads)
  ask_once key result (inr (none, same)) = inl same
