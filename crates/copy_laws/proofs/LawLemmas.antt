-- What was put is read back of a copy.
use Rattle.std.proofs.Common.{◌≡◌, ℕ, Bool, true, false, cond, List, [], ◌∷◌, ◌++◌, refl, sym, ap, subst, ◌∙◌}
use Rattle.std.specs.Prelude.{Option, Some, None}
use Rattle.hk_base.specs.Disk.{DiskState, Tells}
use Rattle.hk_base.specs.declared.names.Edek.{Edek}
use Rattle.inode_tree.specs.Rows.{Entry, is_dir, row_at}
use Rattle.name_calls.specs.Paths.{same_path}
use Rattle.inode_tree.specs.declared.rows.Kind.{Kind}
use Rattle.inode_tree.specs.declared.rows.Kind.TheVariants.{File}
use Rattle.inode_tree.specs.declared.rows.Row.{Row}
use Rattle.key_rows.specs.Sound.{NamesOnce}
use Rattle.key_rows.specs.Table.{Table, no_keys}
use Rattle.key_rows.specs.declared.rows.KeyCommand.{KeyCommand}
use Rattle.key_rows.specs.declared.rows.KeyRow.{KeyRow}
use Rattle.kms_store.specs.Store.{settled_table}
use Rattle.prop_text.specs.declared.props.Props.{Props}
use Rattle.name_core.proofs.SnapshotRows.{row-below}
use Rattle.backup_names.specs.Ends.{row_shown}
use Rattle.file_orders.specs.declared.open.ShownFile.{ShownFile}
use Rattle.row_copies.specs.Copies.{AreCopies, HasBodyOf, PairsOfRows}
use Rattle.world_run.specs.Ledger.{Draw, Past}
use Rattle.world_run.specs.Linked.{OpensTo}
use Rattle.world_run.specs.Promise.{edek_of}
use Rattle.world_run.specs.World.{WorldState}
use Rattle.world_run.proofs.DrawLemmas.{opens-among}
use Rattle.world_run.proofs.LawLemmas.{no-keys-table, replayed-table}
use Rattle.world_rows.specs.Rows.{place_rows}
use Rattle.hk_runs.specs.Headline.{Headline}
use Rattle.hk_runs.specs.KeyFacts.{OpensKey}
use Rattle.hk_runs.specs.Laws.{RunFrom}
use Rattle.hk_runs.proofs.HeadlineLemmas.{whole}
use Rattle.data_stream.specs.Bodies.{stored_of}
use Rattle.data_stream.specs.Runs.{Worked, last_world, world_before}
use Rattle.copy_reads.specs.Bodies.{IsDrawOfCopy}
use Rattle.copy_laws.specs.Laws.{CopiesAreReadBack, FactsGoOn, KeptFactsOpenCopies, KeyStands, LaterRunsReadCopies, OpenedBefore, RunsOpenCopies, StillOpens}

-- ---- the copy of a row

-- at a path of rows that were copied is a copy of the row, with its body
pub record IsCopied (ys : List Entry) (p : List (List ℕ)) (row : Row) (bodies copies : ℕ → List ℕ) : Type 0 where
  pub copy : Row
  pub at : row_at ys p ≡ Some copy
  pub kind : copy.kind ≡ row.kind
  pub body : is_dir row.kind ≡ false → copies copy.id ≡ bodies row.id

module _ (p : List (List ℕ)) (row : Row) (bodies copies : ℕ → List ℕ) where
  pub copied_at : (xs ys : List Entry) → row_at xs p ≡ Some row → AreCopies xs ys → PairsOfRows (HasBodyOf bodies copies) xs ys → IsCopied ys p row bodies copies
  copied_at [] [] at are has = absurd cc
  copied_at [] (y ∷ ys) at are has = absurd are
  copied_at (x ∷ xs) [] at are has = absurd are
  copied_at (x ∷ xs) (y ∷ ys) at ((same_place, same_kind), are) (body, has) = go (same_path x.path p) (ap (λ (q : List (List ℕ)). same_path q p) same_place) at (λ e. copied_at xs ys e are has)
    where
      go : (t : Bool) → same_path y.path p ≡ t → cond t (Some x.row) (row_at xs p) ≡ Some row → (row_at xs p ≡ Some row → IsCopied ys p row bodies copies) → IsCopied (y ∷ ys) p row bodies copies
      go true is e later =
          let own : x.row ≡ row = cc e in
          record {
            copy = y.row;
            at = ap (λ (t : Bool). cond t (Some y.row) (row_at ys p)) is;
            kind = same_kind ∙ ap (λ (r : Row). r.kind) own;
            body = λ file. body (ap (λ (r : Row). is_dir r.kind) own ∙ file) ∙ ap (λ (r : Row). bodies r.id) own;
          }
      go false is e later =
          let further = later e in
          record { copy = further.copy; at = ap (λ (t : Bool). cond t (Some y.row) (row_at ys p)) is ∙ further.at; kind = further.kind; body = further.body }

-- ---- what is read

some_row : (a b : Row) → Some a ≡ Some b → a ≡ b
some_row a b e = cc

some_path : (p q : List (List ℕ)) → Some p ≡ Some q → p ≡ q
some_path p q e = cc

no_dir : (kind : Kind) (edek : Option Edek) → File edek ≡ kind → is_dir kind ≡ false
no_dir kind edek e = ap is_dir (sym e)

-- the draw of the source is that of its copy
drawn : (keys : List KeyRow) (file : Row) (shown : ShownFile) (draw : Option Draw) → File shown.edek ≡ file.kind → StillOpens keys file draw → IsDrawOfCopy keys shown draw
drawn keys file shown None is none = ap edek_of is ∙ none
drawn keys file shown (Some draw) is o = (o.0, ap edek_of is ∙ o.1, o.2, o.3, o.4, o.5)

pub read_back : CopiesAreReadBack
read_back known w path text count from wanted left left' old new copies draw place target below file before after keys rows written now put of was there opens is_text read =
    let all = was.copies.all in
    let copied = copied_at below file before.vault.bodies after.copies.bodies (place_rows before.table place) all.rows was.at all.copied (all.bodies was.tells was.copies_tell) in
    let made : row_at after.names.store.table.rows (target ++ below) ≡ Some copied.copy =
    sym (row-below after.names.store.table.rows target below) ∙ ap (λ (es : List Entry). row_at es below) all.makes.made_is ∙ copied.at in
    let here : row_at rows (target ++ below) ≡ Some copied.copy = there.row ∙ made in
    let at : read.at.place ≡ target ++ below = some_path read.at.place (target ++ below) (sym read.at.is_place ∙ is_text) in
    let shown : row_shown read.file ≡ copied.copy = some_row (row_shown read.file) copied.copy (sym read.at.at ∙ ap (row_at rows) at ∙ here) in
    let kind : File read.file.edek ≡ file.kind = ap (λ (r : Row). r.kind) shown ∙ copied.kind in
    let id : read.file.id ≡ copied.copy.id = ap (λ (r : Row). r.id) shown in
    let body : copies.bodies read.file.id ≡ stored_of draw put.bytes =
    ap copies.bodies id ∙ there.body copied.copy here ∙ copied.body (no_dir file.kind read.file.edek kind) ∙ was.body ∙ put.stored draw of in
    read.range draw (drawn keys file read.file draw kind opens) put.bytes body

-- ---- what lasts

pub kept_facts_open : KeptFactsOpenCopies
kept_facts_open keys edek draw once carries fact = record {
  carries = carries;
  opens = λ row among born. opens-among keys row edek draw.dek once among (fact row among born).opens;
}

-- ---- from run to run

dropped : (o : Option KeyCommand) (t : Table) → settled_table false o t ≡ t
dropped None t = refl
dropped (Some command) t = refl

-- the keys in the end are those of a key log
names_once : (props : Props) (old new : DiskState) (words words' : ℕ → ℕ) (worked : Worked props old new words words') → Tells old → NamesOnce (last_world worked).keys.keys.table.rows
names_once props old new words words' worked tells =
    let reads = worked.reads tells in
    let log = reads.2.keys in
    subst (λ (w : WorldState). NamesOnce w.keys.keys.table.rows) reads.1 (replayed-table no_keys reads.0.keys.store.table.keys _ log.spelled no-keys-table log.makes).names

pub runs_open : (old new : DiskState) → RunsOpenCopies old new
runs_open old new past props words words' worked edek draw tells keeps carries fact =
    let w = last_world worked in
    let opens : OpensTo w.keys.keys.table.rows draw edek =
    subst (λ (t : Table). OpensTo t.rows draw edek) (dropped w.keys.pending w.keys.keys.table) ((keeps.lasts (OpensKey draw edek) fact).worlds worked.history (whole worked.history) false) in
    kept_facts_open w.keys.keys.table.rows edek draw (names_once props old new words words' worked tells) carries opens

module _ (at_copy copied at_read done : DiskState) where
  -- the source opened so before the run that copied it, and opens so in the end of the run that reads
  still_opens : (past : Past) (props : Props) (words words' : ℕ → ℕ) (worked : Worked props at_read done words words') (file : Row) (draw : Option Draw) → OpenedBefore at_copy file draw → RunFrom at_copy copied → FactsGoOn copied at_read
      → Tells at_read → Headline past props.lines at_read done words (world_before worked) worked.history → KeyStands (last_world worked).keys.keys.table.rows draw → StillOpens (last_world worked).keys.keys.table.rows file draw
  still_opens past props words words' worked file None none run go tells keeps stands = none
  still_opens past props words words' worked file (Some draw) (edek, has, carries, fact) run go tells keeps (row, among, born) =
      (edek, has, runs_open at_read done past props words words' worked edek draw tells keeps carries (go (OpensKey draw edek) (run.keeps.lasts (OpensKey draw edek) fact).on_disk.last), row, among, born)

  pub later_read : LaterRunsReadCopies at_copy copied at_read done
  later_read known past w props path text count from wanted left left' old new copies draw place target below file before after words words' worked rows written now put of was opened run go tells keeps there stands is_text read =
      read_back known w path text count from wanted left left' old new copies draw place target below file before after (last_world worked).keys.keys.table.rows rows written now put of was there
      (still_opens past props words words' worked file draw opened run go tells keeps stands) is_text read
