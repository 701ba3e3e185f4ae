-- What the answers to an info and to a decryption tell.
use Rattle.std.proofs.Common.{◌≡◌, ◌⊎◌, inl, inr, ℕ, List, [], refl, sym, ap, ◌∙◌}
use Rattle.std.specs.Prelude.{Option, Some, None, Result, Ok, Err, unwrap_or}
use Rattle.edit_ops.specs.declared.ops.EditOp.{EditOp}
use Rattle.hk_base.specs.declared.names.Dek.{Dek}
use Rattle.hk_base.specs.declared.names.Edek.{Edek}
use Rattle.hk_base.specs.declared.names.KeyName.{KeyName}
use Rattle.hk_events.specs.declared.event.Event.TheVariants as event
use Rattle.hk_events.specs.declared.event.Line.{Line}
use Rattle.hk_events.specs.declared.event.Line.TheVariants as line
use Rattle.inode_tree.specs.declared.rows.Kind.{Kind}
use Rattle.inode_tree.specs.declared.rows.Kind.TheVariants.{Dir, File}
use Rattle.inode_tree.specs.declared.rows.Row.{Row}
use Rattle.inode_tree.specs.Rows.{row_at}
use Rattle.key_rows.specs.declared.rows.KeyCommand.{KeyCommand}
use Rattle.kms_acls.specs.Verdict.{verdict}
use Rattle.kms_acls.specs.declared.answers.Denied.{Denied}
use Rattle.kms_acls.specs.declared.answers.Shown.{Shown}
use Rattle.kms_calls.specs.declared.calls.KmsCall.TheVariants as call
use Rattle.kms_calls.specs.declared.calls.KmsRefusal.{KmsRefusal}
use Rattle.kms_calls.specs.declared.calls.KmsReply.{KmsReply}
use Rattle.kms_calls.specs.declared.calls.KmsReply.TheVariants as key_reply
use Rattle.kms_calls.specs.declared.calls.RawEdek.{RawEdek}
use Rattle.kms_core.specs.Calls.{Ending, KmsActs, Plain, NoRoom, causes, deed, edek_of, first_cause, unless_refused}
use Rattle.kms_core.specs.Opening.{unseals}
use Rattle.kms_core.specs.State.{KmsState, ServiceState}
use Rattle.kms_core.specs.Service.{ReadFails}
use Rattle.kms_core.specs.Users.{ServesUnder}
use Rattle.name_calls.specs.declared.calls.NameCall.TheVariants as name_call
use Rattle.name_calls.specs.declared.calls.NameRefusal.{NameRefusal}
use Rattle.name_calls.specs.declared.calls.NameReply.{NameReply}
use Rattle.name_calls.specs.declared.calls.NameReply.TheVariants as reply
use Rattle.name_calls.specs.declared.paths.NPath.{NPath}
use Rattle.name_calls.specs.declared.read_paths.ReadPath.{ReadPath}
use Rattle.name_calls.specs.ReadPaths.{read_any_path}
use Rattle.name_core.specs.Calls as names
use Rattle.name_core.specs.Reads.{info_of, path_read, rows_read, shown_at, zone_read}
use Rattle.name_core.specs.Service as service
use Rattle.name_core.specs.State.{NameService, NameState}
use Rattle.prop_text.specs.declared.lines.PropLine.{PropLine}
use Rattle.world_run.specs.Acknowledged.{Acknowledged}
use Rattle.world_run.specs.Step.{PathActs, Step}
use Rattle.world_run.specs.World.{WorldState}
use Rattle.data_stream.specs.Bodies.{IsFileAt}

-- ---- an info

-- the row that an info shows as a file
pub record ShowsRow (found : Option Row) (id : ℕ) (edek : Option Edek) : Type 0 where
  pub file : Row
  pub at : found ≡ Some file
  pub id_is : file.id ≡ id
  pub kind_is : file.kind ≡ File edek

shows_kind : (kind : Kind) (own id : ℕ) (lying area : Option NPath) (edek : Option Edek) → info_of own lying kind ≡ reply.File id area edek → (own ≡ id) × (kind ≡ File edek)
shows_kind (Dir key) own id lying area edek e = absurd cc
shows_kind (File other) own id lying area edek e = let i : own ≡ id = cc in let k : other ≡ edek = cc in (i, ap File k)

shows_row : (found : Option Row) (lying area : Option NPath) (id : ℕ) (edek : Option Edek) → shown_at lying found ≡ reply.File id area edek → ShowsRow found id edek
shows_row None lying area id edek e = absurd cc
shows_row (Some row) lying area id edek e = let k = shows_kind row.kind row.id id lying area edek e in record { file = row; at = refl; id_is = k.0; kind_is = k.1 }

module _ (s : NameState) (p : ReadPath) (id : ℕ) (area : Option NPath) (edek : Option Edek) where
  unless_so : (why : Option NameRefusal) (given : NameReply) (s' : NameState) → record { reply = given; state = s' } ≡ names.unless_refused why s (names.deed s (name_call.Info p)) → given ≡ reply.File id area edek
      → ShowsRow (row_at (rows_read s.table p) (path_read p)) id edek
  unless_so (Some why) given s' e is = let r : given ≡ reply.Refused why = ap (λ (o : names.Outcome). o.reply) e in absurd cc
  unless_so None given s' e is = shows_row (row_at (rows_read s.table p) (path_read p)) (zone_read s.table p) area id edek (sym (ap (λ (o : names.Outcome). o.reply) e) ∙ is)

  acts_so : (given : NameReply) (s' : NameState) → names.NameActs s (name_call.Info p) given s' → given ≡ reply.File id area edek → ShowsRow (row_at (rows_read s.table p) (path_read p)) id edek
  acts_so given s' (names.Plain, may, e) is = unless_so (names.first_cause (names.causes s (name_call.Info p))) given s' e is
  acts_so given s' (names.NoRoom, may, e) is = let r = ap (λ (o : names.Outcome). o.reply) e in absurd cc

-- what an info of a file tells, and that it leaves the world as it was
pub record Showed (w w' : WorldState) (path : List ℕ) (id : ℕ) (edek : Option Edek) : Type 0 where
  pub same : w' ≡ w
  pub file : Row
  pub at : IsFileAt w path file
  pub id_is : file.id ≡ id
  pub kind_is : file.kind ≡ File edek

served_so : (why : Option NameRefusal) (s : NameService) (p : ReadPath) (fault : Type 0) (given : NameReply) (ops : List EditOp) (s' : NameService)
    → service.ServesUnless why s (name_call.Info p) fault given ops s' → (id : ℕ) (area : Option NPath) (edek : Option Edek) → given ≡ reply.File id area edek
    → (s' ≡ s) × ShowsRow (row_at (rows_read s.names.table p) (path_read p)) id edek
served_so (Some why) s p fault given ops s' refused id area edek is = let r = refused.reply_is in absurd cc
served_so None s p fault given ops s' only id area edek is = (only.same, acts_so s.names p id area edek given s.names only.acts is)

pub showed : (lines : List PropLine) (w : WorldState) (words : ℕ → ℕ) (now : ℕ) (user path : List ℕ) (fault tells : Type 0) (answer : Line) (drawn : ℕ) (logged : Acknowledged) (w' : WorldState)
    → Step lines w words now (event.Info user path) fault tells answer drawn logged w' → (id : ℕ) (area : Option NPath) (edek : Option Edek) → answer ≡ line.Name (reply.File id area edek) → Showed w w' path id edek
showed lines w words now user path fault tells answer drawn logged w' step id area edek is = go (read_any_path path) refl step
  where
    go : (read : Option ReadPath) → read_any_path path ≡ read → PathActs w user name_call.Info read fault answer drawn logged w' → Showed w w' path id edek
    go None read unread = let r = unread.reply_is in absurd cc
    go (Some p) read (inr unread) = let r = unread.reply_is in absurd cc
    go (Some p) read (inl acts) =
        let given : acts.reply ≡ reply.File id area edek = let r = acts.reply_is in cc in
        let s = served_so (names.first_cause (names.early_causes user (name_call.Info p))) w.names p fault acts.reply acts.ops acts.names acts.serves id area edek given in
        record {
          same = acts.left ∙ ap (λ (n : NameService). record w { names = n }) s.0;
          file = s.1.file;
          at = record { place = p; is_place = read; at = s.1.at };
          id_is = s.1.id_is;
          kind_is = s.1.kind_is;
        }

-- ---- a decryption

-- what a decryption tells, and that it leaves the world as it was
pub record Decrypted (w w' : WorldState) (sent : RawEdek) (dek : Dek) : Type 0 where
  pub same : w' ≡ w
  pub dek_is : (d : Dek) → unseals w.keys.keys.table.rows (edek_of sent) ≡ Some d → dek ≡ d

module _ (s : KmsState) (words : ℕ → ℕ) (now : ℕ) (name : KeyName) (sent : RawEdek) (dek : Dek) where
  unless_opened : (why : Option KmsRefusal) (given : KmsReply) (drawn : ℕ) (s' : KmsState) → record { reply = given; drawn = drawn; state = s' } ≡ unless_refused why s (deed s words now (call.Decrypt name sent)) → given ≡ key_reply.Key dek
      → dek ≡ unwrap_or (unseals s.table.rows (edek_of sent)) []
  unless_opened (Some why) given drawn s' e is = let r = ap (λ (o : Rattle.kms_core.specs.Calls.Outcome). o.reply) e in absurd cc
  unless_opened None given drawn s' e is =
      let r : given ≡ key_reply.Key (unwrap_or (unseals s.table.rows (edek_of sent)) []) = ap (λ (o : Rattle.kms_core.specs.Calls.Outcome). o.reply) e in
      cc

  acts_opened : (given : KmsReply) (drawn : ℕ) (s' : KmsState) → KmsActs s words now (call.Decrypt name sent) given drawn s' → given ≡ key_reply.Key dek → dek ≡ unwrap_or (unseals s.table.rows (edek_of sent)) []
  acts_opened given drawn s' (Plain, may, e) is = unless_opened (first_cause (causes s (call.Decrypt name sent))) given drawn s' e is
  acts_opened given drawn s' (NoRoom count, may, e) is = absurd cc

opened_so : (judged : Result Shown Denied) (s : ServiceState) (words : ℕ → ℕ) (now : ℕ) (name : KeyName) (sent : RawEdek) (fault tells : Type 0) (given : KmsReply) (drawn : ℕ) (logged : List KeyCommand) (s' : ServiceState)
    → tells → ServesUnder judged s words now (call.Decrypt name sent) fault tells given drawn logged s' → (dek : Dek) → given ≡ key_reply.Key dek
    → (s' ≡ s) × (dek ≡ unwrap_or (unseals s.keys.table.rows (edek_of sent)) [])
opened_so (Err denied) s words now name sent fault tells given drawn logged s' telling denies dek is = let r = denies.reply_is in absurd cc
opened_so (Ok shown) s words now name sent fault tells given drawn logged s' telling permits dek is = (permits.serves.same, known (permits.serves.acts (λ older. telling)))
  where
    known : KmsActs s.keys words now (call.Decrypt name sent) permits.reply drawn s.keys ⊎ ReadFails s.keys (call.Decrypt name sent) fault permits.reply → dek ≡ unwrap_or (unseals s.keys.table.rows (edek_of sent)) []
    known (inl acts) = acts_opened s.keys words now name sent dek permits.reply drawn s.keys acts (sym permits.reply_is ∙ is)
    known (inr fails) = let r = sym fails.reply_is ∙ sym permits.reply_is ∙ is in absurd cc

pub decrypted : (lines : List PropLine) (w : WorldState) (words : ℕ → ℕ) (now : ℕ) (user : List ℕ) (name : KeyName) (sent : RawEdek) (fault tells : Type 0) (answer : Line) (drawn : ℕ) (logged : Acknowledged) (w' : WorldState)
    → Step lines w words now (event.Kms user (call.Decrypt name sent)) fault tells answer drawn logged w' → tells → (dek : Dek) → answer ≡ line.Kms (key_reply.Key dek) → Decrypted w w' sent dek
decrypted lines w words now user name sent fault tells answer drawn logged w' step telling dek is =
    let given : step.reply ≡ key_reply.Key dek = let r = step.reply_is in cc in
    let s = opened_so (verdict lines user (call.Decrypt name sent)) w.keys words now name sent fault tells step.reply drawn step.commands step.keys telling step.serves dek given in
    record {
      same = step.left ∙ ap (λ (k : ServiceState). record w { keys = k }) s.0;
      dek_is = λ d opens. s.1 ∙ ap (λ (o : Option Dek). unwrap_or o []) opens;
    }
