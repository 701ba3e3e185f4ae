-- What a start finds and leaves.
use Rattle.std.proofs.Common.{◌≡◌, ℕ, ◌+◌, ◌<◌, ◌^◌, List, [], ◌∷◌, ◌++◌, length, map, None, Result, Ok, Err, refl, sym, ◌∙◌, ap, subst, arith, length-append}
use Rattle.std.specs.Prelude.{IfOk}
use Rattle.std.specs.Int.{w32, to_be_bytes}
use Rattle.std.proofs.lemmas.List.{map-append}
use Rattle.hk_base.specs.Disk.{DiskState, Reads, Tells}
use Rattle.hk_base.specs.declared.names.Dek.{Dek}
use Rattle.frame_log.specs.Ahead.{Ahead}
use Rattle.frame_log.specs.Format.{log_of, Found, Log_as_found, end_of, frames, behind, placed}
use Rattle.frame_log.specs.Opens.{RecoversLog}
use Rattle.frame_log.specs.Stands.{Stands, front}
use Rattle.frame_log.specs.declared.fault.StartFault.{StartFault}
use Rattle.frame_log.specs.declared.log.Log.{Log}
use Rattle.frame_log.specs.declared.records.Records.{Records}
use Rattle.frame_log.proofs.Layers.{left_as_found, still_stands}
use Rattle.frame_log.proofs.Openings.{opens_as}
use Rattle.key_rows.specs.Table.{Table}
use Rattle.key_rows.specs.Records.{spelling}
use Rattle.key_rows.specs.declared.rows.KeyCommand.{KeyCommand}
use Rattle.key_index.specs.declared.cache.MaterialKey.{MaterialKey}
use Rattle.kms_store.specs.Keys.{IsReadFrom, KeysState, store_of}
use Rattle.kms_store.specs.Replay.{IsReplayed, IsStuck, payload_of, place_of}
use Rattle.kms_store.specs.Store.{IsKeyStoreOf, IsKeyLog, IsNoKeyLog, IsLeftByStart, Not_a_log, Recovered, OpensKeys}

pub if_ok : {T E : Type 0} {P Q : T → Type 0} (result : Result T E) → ((x : T) → P x → Q x) → IfOk result P → IfOk result Q
if_ok (Ok x) f held = f x held
if_ok (Err e) f held = held

pub placed_payloads : (at : ℕ) (list : List (List ℕ)) → map payload_of (placed at list) ≡ list
placed_payloads at [] = refl
placed_payloads at (p ∷ list) = ap (λ (l : List (List ℕ)). p ∷ l) (placed_payloads (at + 5 + length p) list)

-- the offset of a frame, by the payloads before it
place_at : (at : ℕ) (list : List (List ℕ)) (before : List (ℕ × List ℕ)) (frame : ℕ × List ℕ) (rest : List (ℕ × List ℕ)) → placed at list ≡ before ++ frame ∷ rest → place_of frame ≡ at + 5 + length (frames (map payload_of before))
place_at at [] [] frame rest e = absurd (cc e)
place_at at [] (b ∷ before) frame rest e = absurd (cc e)
place_at at (p ∷ list) [] frame rest e = let same : (at + 5, p) ≡ frame = cc e in omega (arith, ap place_of same)
place_at at (p ∷ list) (b ∷ before) frame rest e =
    let first : (at + 5, p) ≡ b = cc e in
    let more : placed (at + 5 + length p) list ≡ before ++ frame ∷ rest = cc e in
    let same : length p ≡ length (payload_of b) = ap (λ (f : ℕ × List ℕ). length (payload_of f)) first in
    let q = payload_of b in
    let qs = map payload_of before in
    omega (arith, place_at (at + 5 + length p) list before frame rest more, same, length-append (behind q) (frames qs), length-append (to_be_bytes w32 (length q)) q)

module _ (bytes : List ℕ) (list : List (List ℕ)) (gate : ℕ) (framed : List (ℕ × List ℕ)) (found : log_of 0 bytes ≡ Found list gate) (are : framed ≡ placed 8 list) where
  payloads_are : list ≡ map payload_of framed
  payloads_are = sym (placed_payloads 8 list) ∙ ap (map payload_of) (sym are)

  pub key_log : (table : Table) (r : IsReplayed framed table) → IsKeyLog bytes r.commands table
  key_log table r = record {
    gate = gate;
    spelled = r.spelled;
    found = found ∙ ap (λ (l : List (List ℕ)). Found l gate) (payloads_are ∙ r.are);
    makes = r.makes;
  }

  pub no_key_log : (at : ℕ) → IsStuck framed at → IsNoKeyLog bytes at
  no_key_log at s =
      let here = payload_of s.frame in
      let rest = map payload_of s.behind in
      let parts : list ≡ map spelling s.replayed.commands ++ here ∷ rest =
      payloads_are ∙ ap (map payload_of) s.split ∙ map-append payload_of s.before (s.frame ∷ s.behind) ∙ ap (λ (l : List (List ℕ)). l ++ here ∷ rest) s.replayed.are in
      let lies : place_of s.frame ≡ 8 + 5 + length (frames (map payload_of s.before)) = place_at 8 list s.before s.frame s.behind (sym are ∙ s.split) in
      let ends : length (frames (map payload_of s.before)) ≡ length (frames (map spelling s.replayed.commands)) = ap (λ (l : List (List ℕ)). length (frames l)) s.replayed.are in
      record {
        ops = s.replayed.commands;
        payload = here;
        payloads = rest;
        gate = gate;
        made = s.table;
        spelled = s.replayed.spelled;
        found = found ∙ ap (λ (l : List (List ℕ)). Found l gate) parts;
        makes = s.replayed.makes;
        not_next = s.not_next;
        place = omega (arith, s.place, lies, ends);
      }

-- what a start finds in a file: a key log of commands that make these keys, and the store before its opening is recorded
pub record KeysFound (bytes : List ℕ) (now : DiskState) (log : Log) (keys : KeysState) : Type 0 where
  pub commands : List KeyCommand
  pub is_log : IsKeyLog bytes commands keys.table
  pub store : IsKeyStoreOf now (store_of log keys) commands

-- what a recovery finds in a file
abbrev pub Recovers : List ℕ → DiskState → Log → Records → Type 0
Recovers bytes mid log records = (payloads : List (List ℕ)) × (gate : ℕ) × (log_of 0 bytes ≡ Found payloads gate) × Ahead mid records payloads × Stands mid log payloads None

pub keys_found : (bytes : List ℕ) (mid now : DiskState) (log : Log) (records : Records) (keys : KeysState) → IsReadFrom mid records keys → log.file ≡ 0 → log.end < 2 ^ 64 → records.at ≡ 8 → Reads 0 mid now → Tells mid → Recovers bytes mid log records
    → KeysFound bytes now log keys
keys_found bytes mid now log records keys read file fits at same tells found =
    let list : List (List ℕ) = found.0 in
    let are : read.frames ≡ placed 8 list = read.all tells list found.3 ∙ ap (λ (k : ℕ). placed k list) at in
    let payloads : map payload_of read.frames ≡ list = ap (map payload_of) are ∙ placed_payloads 8 list in
    let stands : Stands now log list None = still_stands 0 mid now log list None same file tells found.4 in
    let end : log.end ≡ end_of list = stands.end ∙ ap (λ (k : ℕ). length (front k list)) file ∙ omega arith in
    let b = read.built in
    record {
      commands = b.replayed.commands;
      is_log = key_log bytes list found.1 read.frames found.2 are keys.table b.replayed;
      store = record {
        spelled = b.replayed.spelled;
        makes = b.replayed.makes;
        waits = tt;
        log = subst (λ (l : List (List ℕ)). Stands now log l None) (sym payloads ∙ b.replayed.are) stands;
        materials = record {
          older = b.older;
          stands = b.stands;
          held = b.held (record { places = are ∙ ap (placed 8) (sym payloads); fits = omega (arith, fits, end, ap end_of payloads) });
          cached = tt;
        };
      };
    }

-- a record that is not a command which applies
pub damage_found : (bytes : List ℕ) (mid : DiskState) (log : Log) (records : Records) (at : ℕ) → records.at ≡ 8 → (found : Recovers bytes mid log records) → IsStuck (placed records.at found.0) at → IsNoKeyLog bytes at
damage_found bytes mid log records at place found stuck =
    no_key_log bytes found.0 found.1 (placed 8 found.0) found.2 refl at (subst (λ (k : ℕ). IsStuck (placed k found.0) at) place stuck)

-- what a crash leaves while the records are read
pub reading_left : (bytes : List ℕ) (mid : DiskState) (log : Log) (records : Records) → log.file ≡ 0 → Recovers bytes mid log records → (c : List ℕ) → mid.leaves 0 c → IsLeftByStart bytes c
reading_left bytes mid log records file found c left = Recovered (Log_as_found (left_as_found mid log found.0 0 found.1 bytes found.4 file found.2 c left))

-- the store with its cache, which is empty
pub with_cache : (disk : DiskState) (log : Log) (keys : KeysState) (cache : List (MaterialKey × Dek)) (commands : List KeyCommand) → cache ≡ [] → IsKeyStoreOf disk (store_of log keys) commands → IsKeyStoreOf disk (record (store_of log keys) { cache = cache }) commands
with_cache disk log keys cache commands empty = subst (λ (entries : List (MaterialKey × Dek)). IsKeyStoreOf disk (record (store_of log keys) { cache = entries }) commands) (sym empty)

-- a recovery of the key log, as a start
pub opens_log : (old new : DiskState) {fails : StartFault → Type 0} → RecoversLog 0 old new fails → OpensKeys old new fails
opens_log old new o = opens_as old new (λ bytes at none. Not_a_log none) (λ bytes none. absurd none) (λ bytes c held. Recovered held) o
