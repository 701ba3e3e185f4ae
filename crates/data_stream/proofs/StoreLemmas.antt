-- What was stored, and what was read, under the draw of a file.
use Rattle.std.proofs.Common.{◌≡◌, inl, inr, ℕ, false, List, [], refl, ap, sym, ◌∙◌, subst}
use Rattle.std.specs.Prelude.{Option, Some, None, Result, Ok, Err}
use Rattle.std.specs.Io.KnownBytes.{Appends}
use Rattle.hk_base.specs.Disk.{DiskState, Tells}
use Rattle.key_rows.specs.declared.rows.KeyCommand.{KeyCommand}
use Rattle.key_rows.specs.Table.{Table}
use Rattle.edit_ops.specs.declared.ops.EditOp.{EditOp}
use Rattle.kms_store.specs.Store.{settled_table}
use Rattle.name_store.specs.Table.{NameTable, settled_table as settled_names}
use Rattle.prop_text.specs.declared.props.Props.{Props}
use Rattle.body_stream.specs.Transfers.{PutsBody, ReadsBody}
use Rattle.body_stream.specs.Vaults.{OtherBodiesStay, TellsBodies, VaultState}
use Rattle.body_stream.specs.declared.faults.BodyFault.{BodyFault}
use Rattle.body_stream.specs.declared.faults.BodyFault.TheVariants as fault
use Rattle.world_run.specs.Ledger.{Draw, Past}
use Rattle.world_run.specs.Promise.{FilesOpen}
use Rattle.world_run.specs.World.{WorldState}
use Rattle.hk_runs.specs.Headline.{Headline, WorldKept, known_after}
use Rattle.hk_runs.specs.Run.{History}
use Rattle.hk_runs.proofs.HeadlineLemmas.{whole}
use Rattle.file_orders.specs.Bodies.{Puts, PutsUnless, ReadsRange, Sends, Stores}
use Rattle.file_orders.specs.Ends.{end_of_body}
use Rattle.file_orders.proofs.EndLemmas.{FailsIf, IsFailure, makes_fail, opens_fail}
use Rattle.file_orders.specs.declared.ends.FsEnd.{FsEnd}
use Rattle.file_orders.specs.declared.ends.FsEnd.TheVariants as end
use Rattle.file_orders.specs.declared.open.OpenFile.{OpenFile}
use Rattle.file_orders.specs.Opening.{OpensFile}
use Rattle.data_stream.specs.Bodies.{HasReadBody, HasStored, IsDrawOf, stored_of}
use Rattle.data_stream.specs.Runs.{AddsEvent, Worked, last_world, world_before}
use Rattle.data_stream.proofs.KeyLemmas.{form_is, kept_at}
use Rattle.data_stream.proofs.OpenLemmas.{IsOpened, opened}

-- the tables without what is pending

no_command : (pending : Option KeyCommand) (t : Table) → settled_table false pending t ≡ t
no_command None t = refl
no_command (Some command) t = refl

no_operation : (pending : Option EditOp) (t : NameTable) → settled_names false pending t ≡ t
no_operation None t = refl
no_operation (Some op) t = refl

-- the promise in a world, as it is without what is pending
promise_now : (known : Past) (w : WorldState) → WorldKept known w → FilesOpen known w.keys.keys.table.rows w.names.names.table
promise_now known w kept =
    subst (λ (t : NameTable). FilesOpen known w.keys.keys.table.rows t) (no_operation w.names.pending w.names.names.table)
    (subst (λ (t : Table). FilesOpen known t.rows (settled_names false w.names.pending w.names.names.table)) (no_command w.keys.pending w.keys.keys.table) (kept false false).files_open)

-- ---- a body that was put

put_is : (how : FsEnd) (count own : ℕ) → how ≡ end.Put count → how ≡ end.Put own → own ≡ count
put_is how count own e f = let g : end.Put own ≡ end.Put count = sym f ∙ e in cc

no_put : (why : BodyFault) (count : ℕ) → end_of_body why ≡ end.Put count → ⊥
no_put fault.ReadFault count e = absurd cc
no_put fault.WriteFault count e = absurd cc
no_put fault.VaultFault count e = absurd cc
no_put fault.TooLong count e = absurd cc
no_put fault.NoMemory count e = absurd cc

pub no_read : (why : BodyFault) (count : ℕ) → end_of_body why ≡ end.Read count → ⊥
no_read fault.ReadFault count e = absurd cc
no_read fault.WriteFault count e = absurd cc
no_read fault.VaultFault count e = absurd cc
no_read fault.TooLong count e = absurd cc
no_read fault.NoMemory count e = absurd cc

module _ (known : Past) (w : WorldState) (path : List ℕ) (kept : WorldKept known w) (file : OpenFile) (o : IsOpened w path file) where
  abbrev form : (draw : Option Draw) → IsDrawOf known w.keys.keys.table.rows o.row draw → (bytes : List ℕ) → Rattle.body_stream.specs.Forms.stored_form file.key 0 bytes ≡ stored_of draw bytes
  form = form_is known w.keys.keys.table.rows w.names.names.table (promise_now known w kept) o.row (kept_at w path o.row o.at) o.edek o.kind_is file.key o.key_is

  pub has_stored : (count : ℕ) (left left' : Option (List ℕ)) (old new : VaultState) → TellsBodies old → PutsBody file.key file.id count left left' old new → HasStored known w path count left left' old new
  has_stored count left left' old new tells p = record {
    file = o.row;
    at = o.at;
    bytes = p.bytes;
    consumed = p.consumed;
    end = p.end;
    long = p.long;
    stored = λ draw of. ap new.bodies o.id_is ∙ p.body tells ∙ form draw of p.bytes;
    others = subst (λ (id : ℕ). OtherBodiesStay id old.bodies new.bodies) (sym o.id_is) (p.others tells);
  }

  pub has_read : (from count sent : ℕ) (vault : VaultState) (written now : Option (List ℕ)) → TellsBodies vault → ReadsBody file.key file.id from count sent vault written now → HasReadBody known w path from count vault written now
  has_read from count sent vault written now tells r = record {
    file = o.row;
    at = o.at;
    range = λ draw of bytes is. subst (Appends written now) (r.range tells bytes (sym (ap vault.bodies o.id_is) ∙ is ∙ sym (form draw of bytes))) r.wrote;
  }

-- ---- the commands

module _ (past : Past) (props : Props) (old new : DiskState) (words words' : ℕ → ℕ) (worked : Worked props old new words words')
    (keeps : Headline past props.lines old new words (world_before worked) worked.history) (now : ℕ) (user path : List ℕ) (telling : Tells old) where
  abbrev known : Past
  known = known_after past (world_before worked) words worked.history

  kept : WorldKept known (last_world worked)
  kept = keeps.worlds worked.history (whole worked.history)

  file_of : (earlier : History) (file : OpenFile) → OpensFile (AddsEvent now) user path earlier (Ok file) worked.history → IsOpened (last_world worked) path file
  file_of earlier file opens = opened props.lines (Tells old) (world_before worked) words worked.before now user path telling earlier worked.history file worked.runs opens

  never_put : (why : FsEnd) (count : ℕ) → IsFailure why → why ≡ end.Put count → ⊥
  never_put why count f is = subst IsFailure is f

  never_read : (why : FsEnd) (count : ℕ) → IsFailure why → why ≡ end.Read count → ⊥
  never_read why count f is = subst IsFailure is f

  stores : (earlier : History) (result : Result OpenFile FsEnd) (how : FsEnd) (left left' : Option (List ℕ)) (vault vault' : VaultState) → OpensFile (AddsEvent now) user path earlier result worked.history
      → Stores result how left left' vault vault' → (count : ℕ) → how ≡ end.Put count → TellsBodies vault → HasStored known (last_world worked) path count left left' vault vault'
  stores earlier (Ok file) how left left' vault vault' opens (inl done) count is tells =
      has_stored known (last_world worked) path kept file (file_of earlier file opens) count left left' vault vault' tells
      (subst (λ (n : ℕ). PutsBody file.key file.id n left left' vault vault') (put_is how count done.count is done.how_is) done.puts)
  stores earlier (Ok file) how left left' vault vault' opens (inr (inl cut)) count is tells = absurd (no_put cut.fault count (sym cut.how_is ∙ is))
  stores earlier (Ok file) how left left' vault vault' opens (inr (inr not)) count is tells = let bad : end.VaultFault ≡ end.Put count = sym not.how_is ∙ is in absurd cc
  stores earlier (Err why) how left left' vault vault' opens (same, untouched) count is tells =
      absurd (never_put why count (opens_fail (AddsEvent now) user path earlier worked.history (Err why) opens) (sym same ∙ is))

  unless_stored : (earlier : History) (made : Option FsEnd) (how : FsEnd) (left left' : Option (List ℕ)) (vault vault' : VaultState) → FailsIf made → PutsUnless made (AddsEvent now) user path earlier how worked.history left left' vault vault'
      → (count : ℕ) → how ≡ end.Put count → TellsBodies vault → HasStored known (last_world worked) path count left left' vault vault'
  unless_stored earlier (Some why) how left left' vault vault' f (same, unmoved, untouched) count is tells = absurd (never_put why count f (sym same ∙ is))
  unless_stored earlier None how left left' vault vault' f (result, opens, s) count is tells = stores earlier result how left left' vault vault' opens s count is tells

  pub put_stored : (how : FsEnd) (left left' : Option (List ℕ)) (vault vault' : VaultState) → Puts (AddsEvent now) user path [] how worked.history left left' vault vault'
      → (count : ℕ) → how ≡ end.Put count → TellsBodies vault → HasStored known (last_world worked) path count left left' vault vault'
  put_stored how left left' vault vault' p count is tells =
      unless_stored p.mid p.made how left left' vault vault' (makes_fail (AddsEvent now) user path [] p.mid p.made p.makes) p.puts count is tells

  sends : (from wanted : ℕ) (result : Result OpenFile FsEnd) (how : FsEnd) (vault vault' : VaultState) (written body : Option (List ℕ)) → OpensFile (AddsEvent now) user path [] result worked.history
      → Sends from wanted result how vault vault' written body → (sent : ℕ) → how ≡ end.Read sent → TellsBodies vault → HasReadBody known (last_world worked) path from wanted vault written body
  sends from wanted (Ok file) how vault vault' written body opens (inl done, same) sent is tells =
      has_read known (last_world worked) path kept file (file_of [] file opens) from wanted done.sent vault written body tells done.reads
  sends from wanted (Ok file) how vault vault' written body opens (inr cut, same) sent is tells = absurd (no_read cut.fault sent (sym cut.how_is ∙ is))
  sends from wanted (Err why) how vault vault' written body opens (same, unwritten, untouched) sent is tells =
      absurd (never_read why sent (opens_fail (AddsEvent now) user path [] worked.history (Err why) opens) (sym same ∙ is))

  pub range_read : (from wanted : ℕ) (how : FsEnd) (vault vault' : VaultState) (written body : Option (List ℕ)) → ReadsRange (AddsEvent now) user path from wanted [] how worked.history vault vault' written body
      → (sent : ℕ) → how ≡ end.Read sent → TellsBodies vault → HasReadBody known (last_world worked) path from wanted vault written body
  range_read from wanted how vault vault' written body r sent is tells = sends from wanted r.opened how vault vault' written body r.opens r.sends sent is tells
