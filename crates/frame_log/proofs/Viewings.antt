-- A reader of a log that is only read.
use Rattle.std.proofs.Common.{◌≡◌, ◌≢◌, ℕ, ◌+◌, ◌≤◌, Bool, true, false, List, [], ◌∷◌, ◌++◌, length, take, drop, refl, sym, ◌∙◌, ap, append_assoc}
use Rattle.std.specs.List.{AllByRecursion}
use Rattle.std.proofs.lemmas.List.{drop_at, take-append-drop}
use Rattle.hk_base.specs.Disk.{DiskState}
use Rattle.frame_log.specs.Format.{magic, frames, IsPayload, log_of, starts_with, Found, NoLog}
use Rattle.frame_log.specs.Ahead.{Ahead}
use Rattle.frame_log.specs.Stands.{front}
use Rattle.frame_log.specs.declared.records.Records.{Records}
use Rattle.frame_log.specs.Scan.{IsScanned}
use Rattle.frame_log.specs.declared.gates.Scan.{Scan}
use Rattle.frame_log.proofs.Found.{other_magic, scanned}
use Rattle.frame_log.proofs.Reading.{magic_long}
use Rattle.frame_log.proofs.Windows.{nothing}

-- a new reader of these bytes has all payloads to return, whatever the end gate is
pub view_ahead : (disk : DiskState) (file : ℕ) (bytes : List ℕ) (records : Records) (payloads : List (List ℕ)) (gate : ℕ) (rest : List ℕ) → AllByRecursion IsPayload payloads → bytes ≡ front file payloads ++ gate ∷ rest → gate ≢ 1
    → disk.reads file ≡ bytes → records.file ≡ file → records.size ≡ length bytes → records.at ≡ 8 → records.window.bytes.items ≡ [] → Ahead disk records payloads
view_ahead disk file bytes records payloads gate rest sized is shut reads same size at none =
    let file_is : disk.reads records.file ≡ bytes = ap (λ (k : ℕ). disk.reads k) same ∙ reads in
    record {
      gate = gate;
      rest = rest;
      sized = sized;
      split =
          ap (λ (k : ℕ). drop k (disk.reads records.file)) at
          ∙ ap (λ (l : List ℕ). drop 8 l) (file_is ∙ is ∙ append_assoc (magic file) (frames payloads) (gate ∷ rest))
          ∙ drop_at (magic file) (frames payloads ++ gate ∷ rest) 8 (magic_long file);
      shut = shut;
      size = size ∙ ap length (sym file_is);
      window = nothing (disk.reads records.file) records.window none;
    }

-- a log of more than nine bytes begins with the magic
begins_log : (file : ℕ) (bytes : List ℕ) (payloads : List (List ℕ)) (gate : ℕ) → 10 ≤ length bytes → log_of file bytes ≡ Found payloads gate → starts_with (magic file) bytes ≡ true
begins_log file bytes payloads gate long found = by (starts_with (magic file) bytes) refl
  where
    by : (b : Bool) → starts_with (magic file) bytes ≡ b → starts_with (magic file) bytes ≡ true
    by true is = is
    by false is = let no : NoLog 0 ≡ Found payloads gate = sym (other_magic file bytes long is) ∙ found in absurd (cc no)

-- a reader at the first payload of a log is behind its magic
pub ahead_front : (disk : DiskState) (records : Records) (file : ℕ) (bytes : List ℕ) (payloads : List (List ℕ)) (gate : ℕ) (ahead : Ahead disk records payloads) → log_of file bytes ≡ Found payloads gate → 10 ≤ length bytes
    → disk.reads records.file ≡ bytes → records.at ≡ 8 → bytes ≡ front file payloads ++ ahead.gate ∷ ahead.rest
ahead_front disk records file bytes payloads gate ahead found long reads at = scanned file bytes scan is_scanned (begins_log file bytes payloads gate long found)
  where
    scan : Scan
    scan = record { end = 8 + length (frames payloads); gate = ahead.gate }

    tail : drop 8 bytes ≡ frames payloads ++ ahead.gate ∷ ahead.rest
    tail = ap (λ (l : List ℕ). drop 8 l) (sym reads) ∙ ap (λ (k : ℕ). drop k (disk.reads records.file)) (sym at) ∙ ahead.split

    is_scanned : IsScanned bytes scan
    is_scanned = record {
      payloads = payloads;
      rest = ahead.rest;
      sized = ahead.sized;
      split = sym (take-append-drop 8 bytes) ∙ ap (λ (l : List ℕ). take 8 bytes ++ l) tail;
      end = refl;
      shut = ahead.shut;
    }
