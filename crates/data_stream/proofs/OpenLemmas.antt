-- A file that was opened by the events of a history.
use Rattle.std.proofs.Common.{◌≡◌, inl, inr, ℕ, List, refl, ap, sym, ◌∙◌, subst}
use Rattle.std.specs.Prelude.{Option, Some, None, Result, Ok, Err}
use Rattle.hk_base.specs.declared.names.Dek.{Dek}
use Rattle.hk_base.specs.declared.names.Edek.{Edek}
use Rattle.hk_base.specs.Faults.{Rose}
use Rattle.hk_events.specs.declared.event.Event.{Event}
use Rattle.hk_events.specs.declared.event.Event.TheVariants as event
use Rattle.hk_events.specs.declared.event.Line.{Line}
use Rattle.hk_events.specs.declared.event.Line.TheVariants as line
use Rattle.inode_tree.specs.declared.rows.Kind.TheVariants.{File}
use Rattle.inode_tree.specs.declared.rows.Row.{Row}
use Rattle.kms_calls.specs.declared.calls.KmsReply.{KmsReply}
use Rattle.kms_calls.specs.declared.calls.KmsReply.TheVariants as key_reply
use Rattle.name_calls.specs.declared.calls.NameReply.{NameReply}
use Rattle.name_calls.specs.declared.calls.NameReply.TheVariants as reply
use Rattle.name_calls.specs.declared.paths.NPath.{NPath}
use Rattle.prop_text.specs.declared.lines.PropLine.{PropLine}
use Rattle.world_run.specs.Step.{Step}
use Rattle.world_run.specs.World.{WorldState}
use Rattle.hk_runs.specs.Run.{History, Runs, behind, drawn_in, faults_after, world_after}
use Rattle.file_orders.specs.Opening.{Decrypts, OpensEdek, OpensFile, OpensShown, as_sent, dek_by, dek_in, file_with, shown_by, shown_in}
use Rattle.file_orders.specs.declared.ends.FsEnd.{FsEnd}
use Rattle.file_orders.specs.declared.open.OpenFile.{OpenFile}
use Rattle.file_orders.specs.declared.open.ShownFile.{ShownFile}
use Rattle.data_stream.specs.Bodies.{IsFileAt}
use Rattle.data_stream.specs.Runs.{AddsEvent}
use Rattle.data_stream.proofs.KeyLemmas.{IsKeyOf}
use Rattle.data_stream.proofs.StepLemmas.{decrypted, showed}

-- ---- answers

-- an answer that shows a file is that of an info
pub record IsShown (answer : Line) (shown : ShownFile) : Type 0 where
  pub area : Option NPath
  pub is : answer ≡ line.Name (reply.File shown.id area shown.edek)

shown_reply : (given : NameReply) (shown : ShownFile) → shown_by given ≡ Ok shown → IsShown (line.Name given) shown
shown_reply (reply.File id area edek) shown e =
    let i : id ≡ shown.id = let s : record { id = id; edek = edek } ≡ shown = cc in ap (λ (x : ShownFile). x.id) s in
    let k : edek ≡ shown.edek = let s : record { id = id; edek = edek } ≡ shown = cc in ap (λ (x : ShownFile). x.edek) s in
    record { area = area; is = λ j. line.Name (reply.File (i j) area (k j)) }
shown_reply (reply.Dir id area key) shown e = absurd cc
shown_reply (reply.Refused why) shown e = absurd cc
shown_reply reply.Done shown e = absurd cc
shown_reply (reply.List children) shown e = absurd cc
shown_reply (reply.Status status) shown e = absurd cc
shown_reply (reply.Zones zones) shown e = absurd cc

is_shown : (answer : Line) (shown : ShownFile) → shown_in answer ≡ Ok shown → IsShown answer shown
is_shown (line.Name given) shown e = shown_reply given shown e
is_shown (line.Kms given) shown e = absurd cc
is_shown (line.Ticket number version wanted) shown e = absurd cc
is_shown line.NoTicket shown e = absurd cc
is_shown (line.Deposit deposit) shown e = absurd cc
is_shown (line.Opened opening) shown e = absurd cc
is_shown (line.Asked number note) shown e = absurd cc
is_shown (line.Replied number given) shown e = absurd cc
is_shown (line.Batch number files) shown e = absurd cc
is_shown (line.NoneLeft count) shown e = absurd cc
is_shown line.Completed shown e = absurd cc
is_shown (line.Delivered delivered) shown e = absurd cc
is_shown (line.Refused why) shown e = absurd cc
is_shown line.Unknown shown e = absurd cc

dek_reply : (given : KmsReply) (dek : Dek) → dek_by given ≡ Ok dek → given ≡ key_reply.Key dek
dek_reply (key_reply.Key own) dek e = let s : own ≡ dek = cc in ap key_reply.Key s
dek_reply (key_reply.Refused why) dek e = absurd cc
dek_reply (key_reply.Version version material) dek e = absurd cc
dek_reply (key_reply.Metadata meta) dek e = absurd cc
dek_reply (key_reply.Metadatas metas) dek e = absurd cc
dek_reply (key_reply.Names names) dek e = absurd cc
dek_reply (key_reply.Versions versions) dek e = absurd cc
dek_reply (key_reply.Ready keys) dek e = absurd cc
dek_reply (key_reply.Resealed key) dek e = absurd cc
dek_reply key_reply.Done dek e = absurd cc

is_dek : (answer : Line) (dek : Dek) → dek_in answer ≡ Ok dek → answer ≡ line.Kms (key_reply.Key dek)
is_dek (line.Kms given) dek e = ap line.Kms (dek_reply given dek e)
is_dek (line.Name given) dek e = absurd cc
is_dek (line.Ticket number version wanted) dek e = absurd cc
is_dek line.NoTicket dek e = absurd cc
is_dek (line.Deposit deposit) dek e = absurd cc
is_dek (line.Opened opening) dek e = absurd cc
is_dek (line.Asked number note) dek e = absurd cc
is_dek (line.Replied number given) dek e = absurd cc
is_dek (line.Batch number files) dek e = absurd cc
is_dek (line.NoneLeft count) dek e = absurd cc
is_dek line.Completed dek e = absurd cc
is_dek (line.Delivered delivered) dek e = absurd cc
is_dek (line.Refused why) dek e = absurd cc
is_dek line.Unknown dek e = absurd cc

-- ---- the events

-- the step of the last event of a run
pub last_step : (lines : List PropLine) (tells : Type 0) (first : WorldState) (words : ℕ → ℕ) (before now : ℕ) (earlier later : History) (e : Event) (answer : Line)
    → Runs lines tells first words before later → (a : AddsEvent now earlier e answer later)
    → Step lines (world_after first earlier) (behind (drawn_in earlier) words) a.happened.now e (Rose (faults_after before earlier) a.happened.faults) tells answer a.happened.drawn a.happened.logged (world_after first later)
last_step lines tells first words before now earlier later e answer runs a =
    let x = a.happened in
    let step = (subst (Runs lines tells first words before) a.later_is runs).0.step.step in
    subst (λ (w : WorldState). Step lines (world_after first earlier) (behind (drawn_in earlier) words) x.now e (Rose (faults_after before earlier) x.faults) tells answer x.drawn x.logged w) (sym (ap (world_after first) a.later_is))
    (subst (λ (l : Line). Step lines (world_after first earlier) (behind (drawn_in earlier) words) x.now e (Rose (faults_after before earlier) x.faults) tells l x.drawn x.logged x.world) a.answer_is
    (subst (λ (v : Event). Step lines (world_after first earlier) (behind (drawn_in earlier) words) x.now v (Rose (faults_after before earlier) x.faults) tells x.reply x.drawn x.logged x.world) a.event_is step))

-- and the run before it
pub run_before : (lines : List PropLine) (tells : Type 0) (first : WorldState) (words : ℕ → ℕ) (before now : ℕ) (earlier later : History) (e : Event) (answer : Line)
    → Runs lines tells first words before later → AddsEvent now earlier e answer later → Runs lines tells first words before earlier
run_before lines tells first words before now earlier later e answer runs a = (subst (Runs lines tells first words before) a.later_is runs).1

-- the file that was opened at a path, and its key
pub record IsOpened (w : WorldState) (path : List ℕ) (file : OpenFile) : Type 0 where
  pub row : Row
  pub at : IsFileAt w path row
  pub id_is : row.id ≡ file.id
  pub edek : Option Edek
  pub kind_is : row.kind ≡ File edek
  pub key_is : IsKeyOf w.keys.keys.table.rows edek file.key

moved_to : (w w' : WorldState) (path : List ℕ) (file : OpenFile) → w' ≡ w → IsOpened w path file → IsOpened w' path file
moved_to w w' path file same opened = subst (λ (x : WorldState). IsOpened x path file) (sym same) opened

module _ (lines : List PropLine) (tells : Type 0) (first : WorldState) (words : ℕ → ℕ) (before now : ℕ) (user path : List ℕ) (telling : tells) where
  abbrev Goes : History → Type 0
  Goes history = Runs lines tells first words before history

  -- the key of a file, once the world after these events has shown its encrypted key
  key_opened : (id : ℕ) (edek : Edek) (mid later : History) (file : OpenFile) (dek : Result Dek FsEnd) → Goes later → Decrypts (AddsEvent now) user edek mid dek later → Ok file ≡ file_with id edek.iv dek
      → (file.id ≡ id) × IsKeyOf (world_after first mid).keys.keys.table.rows (Some edek) file.key × (world_after first later ≡ world_after first mid)
  key_opened id edek mid later file (Err why) runs decrypts is = absurd cc
  key_opened id edek mid later file (Ok dek) runs (inr (none, same)) is = absurd cc
  key_opened id edek mid later file (Ok dek) runs (inl (answer, adds, given)) is =
      let own : file ≡ record { id = id; key = Some (record { dek = dek; iv = edek.iv }) } = cc in
      let d = decrypted lines (world_after first mid) _ _ user edek.version.key (as_sent edek) _ tells answer _ _ (world_after first later)
      (last_step lines tells first words before now mid later _ answer runs adds) telling dek (is_dek answer dek (sym given)) in
      (ap (λ (f : OpenFile). f.id) own, (dek, ap (λ (f : OpenFile). f.key) own, d.dek_is), d.same)

  pub edek_opened : (id : ℕ) (edek : Option Edek) (mid later : History) (file : OpenFile) → Goes later → OpensEdek (AddsEvent now) user id edek mid (Ok file) later
      → (file.id ≡ id) × IsKeyOf (world_after first mid).keys.keys.table.rows edek file.key × (world_after first later ≡ world_after first mid)
  edek_opened id None mid later file runs (is, same) =
      let own : file ≡ record { id = id; key = None } = cc in
      (ap (λ (f : OpenFile). f.id) own, ap (λ (f : OpenFile). f.key) own, ap (world_after first) same)
  edek_opened id (Some edek) mid later file runs (dek, decrypts, is) = key_opened id edek mid later file dek runs decrypts is

  before_edek : (id : ℕ) (edek : Option Edek) (mid later : History) (result : Result OpenFile FsEnd) → Goes later → OpensEdek (AddsEvent now) user id edek mid result later → Goes mid
  before_edek id None mid later result runs (is, same) = subst Goes same runs
  before_edek id (Some edek) mid later result runs (dek, inl (answer, adds, given), is) = run_before lines tells first words before now mid later _ answer runs adds
  before_edek id (Some edek) mid later result runs (dek, inr (none, same), is) = subst Goes same runs

  shown_opened : (shown : Result ShownFile FsEnd) (answer : Line) (earlier mid later : History) (file : OpenFile) → shown_in answer ≡ shown → Goes later → AddsEvent now earlier (event.Info user path) answer mid
      → OpensShown (AddsEvent now) user shown mid (Ok file) later → IsOpened (world_after first later) path file
  shown_opened (Err why) answer earlier mid later file given runs adds (is, same) = absurd cc
  shown_opened (Ok shown) answer earlier mid later file given runs adds opens =
      let s = is_shown answer shown given in
      let runs_mid = before_edek shown.id shown.edek mid later (Ok file) runs opens in
      let i = showed lines (world_after first earlier) (behind (drawn_in earlier) words) adds.happened.now user path _ tells answer _ _ (world_after first mid) (last_step lines tells first words before now earlier mid _ answer runs_mid adds) shown.id s.area shown.edek s.is in
      let o = edek_opened shown.id shown.edek mid later file runs opens in
      moved_to (world_after first earlier) (world_after first later) path file (o.2 ∙ i.same) (record {
        row = i.file;
        at = i.at;
        id_is = i.id_is ∙ sym o.0;
        edek = shown.edek;
        kind_is = i.kind_is;
        key_is = subst (λ (w : WorldState). IsKeyOf w.keys.keys.table.rows shown.edek file.key) i.same o.1;
      })

  pub opened : (earlier later : History) (file : OpenFile) → Goes later → OpensFile (AddsEvent now) user path earlier (Ok file) later → IsOpened (world_after first later) path file
  opened earlier later file runs (inl (answer, mid, adds, opens)) = shown_opened (shown_in answer) answer earlier mid later file refl runs adds opens
  opened earlier later file runs (inr (none, same)) = absurd cc
