-- What a start finds and leaves.
use Rattle.std.proofs.Common.{◌≡◌, ℕ, ◌+◌, ◌*◌, ◌^◌, ◌<◌, Bool, true, false, ◌&&◌, List, [], ◌∷◌, ◌++◌, Option, Some, None, refl, sym, ◌∙◌, ap, subst}
use Rattle.std.specs.Prelude.{IfSome, if◌then◌else◌}
use Rattle.std.specs.List.{All}
use Rattle.std.proofs.lemmas.Bool.Decides.{Decides-eqb}
use Rattle.std.proofs.lemmas.Bool.{and_parts}
use Rattle.hk_base.specs.Disk.{DiskState, LeavesOnly, Reads, RunOn, Tells}
use Rattle.hk_base.proofs.Runs.{Going, weaker}
use Rattle.frame_log.specs.Format.{Found, IsAsFound, Log_as_found, log_of}
use Rattle.frame_log.specs.Opens.{FailsFor, RecoversLog}
use Rattle.frame_log.proofs.Openings.{opens_as, opens_then}
use Rattle.frame_log.specs.declared.fault.StartFault.{StartFault}
use Rattle.frame_log.specs.declared.fault.StartFault.TheVariants as fault
use Rattle.edit_ops.specs.Records.{HasSpelling}
use Rattle.edit_ops.specs.declared.ops.EditOp.{EditOp}
use Rattle.edit_ops.specs.declared.ops.EditOp.TheVariants as op
use Rattle.edit_log.specs.declared.reader.OpReader.{OpReader}
use Rattle.edit_log.specs.Reader.{IsReaderOpened}
use Rattle.edit_log.proofs.Readers.{still_stands_for}
use Rattle.edit_log.specs.Replay.{in_turn, openings, then_last}
use Rattle.edit_log.specs.Replay as turns
use Rattle.edit_log.specs.Log.{EditLogState}
use Rattle.edit_log.specs.Log as edits
use Rattle.name_store.specs.Table.{NameTable, Replayed, after, after_table, allows, applies, is_fresh, next_opening, nothing_logged}
use Rattle.name_store.specs.Replay.{AllBelow, Applies, IsMade, IsNoNext, IsRefusedAt, name_replay}
use Rattle.name_store.specs.Store.{IsDamagedAt, IsNameLog, IsWritten, Not_a_log, Not_of_its_kind, Opening, OpensNames, Recovered, SpentNames, Started, StoreState, made_with}
use Rattle.name_store.proofs.Commits.{each_last}
use Rattle.name_store.proofs.IdLemmas.{used_earlier}
use Rattle.name_store.proofs.Replays.{replay_more}
use Rattle.name_store.proofs.CauseLemmas.{allowed}

-- an operation that is allowed is in turn

first-of : (a b : Bool) → (a && b) ≡ true → a ≡ true
first-of a b h = (and_parts a b h).0

turn-of : (t : NameTable) (o : EditOp) → allows t o ≡ true → in_turn t.opening o ≡ true
turn-of t (op.Opened opening) may = may
turn-of t (op.Mkdir id p) may = (allowed t (op.Mkdir id p) refl may).opened
turn-of t (op.File id p edek) may = (allowed t (op.File id p edek) refl may).opened
turn-of t (op.Remove p) may = (allowed t (op.Remove p) refl may).opened
turn-of t (op.Rename p q) may = (allowed t (op.Rename p q) refl may).opened
turn-of t (op.Zone p key) may = (allowed t (op.Zone p key) refl may).opened
turn-of t (op.Allow p) may = (allowed t (op.Allow p) refl may).opened
turn-of t (op.Disallow p) may = (allowed t (op.Disallow p) refl may).opened
turn-of t (op.Snap p name) may = (allowed t (op.Snap p name) refl may).opened
turn-of t (op.Unsnap p name) may = (allowed t (op.Unsnap p name) refl may).opened
turn-of t (op.Submit session p noted) may = (allowed t (op.Submit session p noted) refl may).opened
turn-of t (op.Update session failed mark files) may = (allowed t (op.Update session failed mark files) refl may).opened
turn-of t (op.Cancel session) may = (allowed t (op.Cancel session) refl may).opened
turn-of t (op.Complete session) may = (allowed t (op.Complete session) refl may).opened

last-of : (t : NameTable) (o : EditOp) → (after_table t o).opening ≡ then_last t.opening o
last-of t (op.Opened opening) = refl
last-of t (op.Mkdir id p) = refl
last-of t (op.File id p edek) = refl
last-of t (op.Remove p) = refl
last-of t (op.Rename p q) = refl
last-of t (op.Zone p key) = refl
last-of t (op.Allow p) = refl
last-of t (op.Disallow p) = refl
last-of t (op.Snap p name) = refl
last-of t (op.Unsnap p name) = refl
last-of t (op.Submit session p noted) = refl
last-of t (op.Update session failed mark files) = refl
last-of t (op.Cancel session) = refl
last-of t (op.Complete session) = refl

-- the last opening of operations is that of the table that they make
pub openings-of : (r made : Replayed) (ops : List EditOp) → name_replay r ops ≡ Some made → openings r.table.opening ops ≡ Some made.table.opening
openings-of r made [] is = let same : r ≡ made = cc is in ap (λ (x : Replayed). Some x.table.opening) same
openings-of r made (o ∷ ops) is = go (openings-of (after r o) made ops) (applies r o) refl is
  where
    go : (name_replay (after r o) ops ≡ Some made → openings (after_table r.table o).opening ops ≡ Some made.table.opening) → (b : Bool) → applies r o ≡ b → (if b then name_replay (after r o) ops else None) ≡ Some made
        → openings r.table.opening (o ∷ ops) ≡ Some made.table.opening
    go rest true may is =
        ap (λ (b : Bool). if b then openings (then_last r.table.opening o) ops else None) (turn-of r.table o (first-of (allows r.table o) (is_fresh r.used o) may))
        ∙ ap (λ (n : ℕ). openings n ops) (sym (last-of r.table o)) ∙ rest is
    go rest false may is = absurd cc

-- a record that is out of turn doesn't apply
pub no-next : (made : Replayed) (last : ℕ) (payload : List ℕ) → last ≡ made.table.opening → turns.IsNoNext last payload → IsNoNext made payload
no-next made last payload same none o has is = go (applies made o) refl
  where
    out : in_turn made.table.opening o ≡ false
    out = ap (λ (n : ℕ). in_turn n o) (sym same) ∙ none o has is

    go : (b : Bool) → applies made o ≡ b → b ≡ false
    go false may = refl
    go true may = let turn = turn-of made.table o (first-of (allows made.table o) (is_fresh made.used o) may) in absurd (cc (turn, out))

-- why the records that a reader had to return make no table
pub damaged_at : (bytes : List ℕ) (todo : List (List ℕ)) (gate at : ℕ) → log_of 1 bytes ≡ Found todo gate → IsRefusedAt todo at → IsDamagedAt bytes at
damaged_at bytes todo gate at found r = Not_of_its_kind (record {
  ops = r.ops;
  payload = r.payload;
  payloads = r.payloads;
  gate = gate;
  made = r.made;
  spelled = r.spelled;
  found = found ∙ ap (λ (l : List (List ℕ)). Found l gate) r.split;
  makes = r.makes;
  not_next = r.not_next;
  place = r.place;
})

-- a log that was recovered, and the table that its reader's operations make
module _ (bytes : List ℕ) (disk : DiskState) (log : EditLogState) (reader : OpReader) (table : NameTable) (m : IsMade disk reader table) (opened : IsReaderOpened bytes disk log reader) (tells : Tells disk) where
  pub name_log : IsNameLog bytes m.ops (record { table = table; used = m.used })
  name_log =
      let all = m.all tells opened.payloads opened.ahead in
      record { gate = opened.gate; spelled = all.0; found = opened.found ∙ ap (λ (l : List (List ℕ)). Found l opened.gate) all.1; makes = m.makes }

  -- after a run of calls that only read
  pub log_stands : (now : DiskState) → Reads 1 disk now → log.log.file ≡ 1 → edits.IsEditLogOf now log m.ops
  log_stands now same file =
      let all = m.all tells opened.payloads opened.ahead in
      still_stands_for disk now log m.ops same file tells (opened.stands m.ops all.0 all.1)

-- the next opening

pub opens : (r : Replayed) → applies r (next_opening r.table) ≡ true
opens r = ap (λ (b : Bool). b && true) ((Decides-eqb (r.table.opening + 1) (r.table.opening + 1)).1 refl)

pub started : (old mid new : DiskState) (store : StoreState) (reader : OpReader) (table : NameTable) (m : IsMade mid reader table)
    → store.table ≡ after_table table (next_opening table) → store.log.pending ≡ None
    → (Tells old → IsNameLog (old.reads 1) m.ops (record { table = table; used = m.used }))
    → (Tells old → edits.IsEditLogOf new store.log (m.ops ++ next_opening table ∷ [])) → Started old new store
started old mid new store reader table m then_is none log stands =
    let made : Replayed = record { table = table; used = m.used } in
    let ids = used_earlier made m.ops m.makes in
    record {
      found = table;
      table = then_is;
      settled = none;
      earlier = subst (λ (t : NameTable). All (λ e. e.row.id < t.opening * 2 ^ 32) t.rows) (sym then_is) ids.rows;
      log = λ tells. record {
        ops = m.ops;
        used = m.used;
        is = log tells;
        stands = record {
          log = stands tells;
          makes = replay_more nothing_logged made m.ops (next_opening table) m.makes (opens made) ∙ ap (λ (t : NameTable). Some (record { table = t; used = m.used })) (sym then_is);
          waits = subst (λ (o : Option EditOp). Applies (made_with store m.used) o) (sym none) tt;
        };
        earlier = subst (λ (t : NameTable). AllBelow (t.opening * 2 ^ 32) m.used) (sym then_is) ids.used;
      };
    }

-- what a crash leaves

module _ (old new : DiskState) (was is : EditLogState) (o : EditOp) (any : Tells old → (ops : List EditOp) → edits.IsEditLogOf old was ops → LeavesOnly 1 old new (edits.IsWithOrWithout ops o)) where
  pub done_moments : (Tells old → (ops : List EditOp) → edits.IsEditLogOf old was ops → edits.IsEditLogOf new is (ops ++ o ∷ []))
      → Tells old → (ops : List EditOp) → edits.IsEditLogOf old was ops → LeavesOnly 1 old new (IsWritten ops o)
  done_moments added tells ops s = let now = added tells ops s in weaker (λ c with. (each_last HasSpelling ops o now.spelled, with)) (any tells ops s)

  pub fault_moments : (why : StartFault) → (Tells old → (ops : List EditOp) → edits.IsEditLogOf old was ops → edits.IsEditLogOf new is ops) → (why ≡ fault.StoreFault → is.pending ≡ Some o)
      → (why ≡ fault.NoMemory → (P : List ℕ → Type 0) → LeavesOnly 1 old new P) → (why ≡ fault.Spent → (P : List ℕ → Type 0) → LeavesOnly 1 old new P) → ((at : ℕ) → why ≡ fault.Damaged at → ⊥)
      → Tells old → (ops : List EditOp) → edits.IsEditLogOf old was ops → LeavesOnly 1 old new (IsWritten ops o)
  fault_moments (fault.Damaged at) kept waits memory spent damaged tells ops s = absurd (damaged at refl)
  fault_moments fault.StoreFault kept waits memory spent damaged tells ops s =
      let now = kept tells ops s in
      let spelled : HasSpelling o = subst (λ (x : Option EditOp). IfSome x HasSpelling) (waits refl) now.waits in
      weaker (λ c with. (spelled, with)) (any tells ops s)
  fault_moments fault.NoMemory kept waits memory spent damaged tells ops s = memory refl (IsWritten ops o)
  fault_moments fault.Spent kept waits memory spent damaged tells ops s = spent refl (IsWritten ops o)

-- a recovery of the edit log, as a start
pub opens_log : (old new : DiskState) {fails : StartFault → Type 0} → RecoversLog 1 old new fails → OpensNames old new fails
opens_log old new o = opens_as old new (λ bytes at none. Not_a_log none) (λ bytes none. absurd none) (λ bytes c held. Recovered held) o

-- a log that was recovered, and calls that read its operations
module _ (old mid read : DiskState) {fails : StartFault → Type 0} (opened : fails fault.StoreFault → ⊥) (o : RecoversLog 1 old mid fails) (leaves : Tells old → (c : List ℕ) → mid.leaves 1 c → IsAsFound 1 (old.reads 1) c) (on : Going 1 mid read (mid.leaves 1)) where
  pub opens_read : {fails' : StartFault → Type 0} → FailsFor 1 IsDamagedAt SpentNames old read fails' → OpensNames old read fails'
  opens_read why = opens_then old mid read opened (opens_log old mid o) on.run (λ tells. weaker (λ c here. Recovered (Log_as_found (leaves tells c here))) on.moments) why

  -- and then the record of the next opening was committed
  pub opens_next : (new : DiskState) (ops : List EditOp) (made : Replayed) {fails' : StartFault → Type 0} → (Tells old → IsNameLog (old.reads 1) ops made) → RunOn 1 read new
      → (Tells old → LeavesOnly 1 read new (IsWritten ops (next_opening made.table))) → FailsFor 1 IsDamagedAt SpentNames old new fails' → OpensNames old new fails'
  opens_next new ops made log run moments why = opens_then old read new (λ none. none) (opens_read never) run (λ tells. weaker (λ c left. Opening ops made (log tells) left) (moments tells)) why
    where
      never : FailsFor 1 IsDamagedAt SpentNames old read (λ why. ⊥)
      never = record { damaged = λ at none. absurd none; spent = λ none. absurd none; cause = λ none. absurd none }
