-- What a view of a key log finds.
use Rattle.std.proofs.Common.{◌≡◌, ℕ, ◌<◌, ◌^◌, List, [], ◌∷◌, ◌++◌, length, map, Option, Some, IfSome, refl, sym, ◌∙◌, ap, subst, arith, length-append}
use Rattle.std.specs.Prelude.{MatchOption}
use Rattle.hk_base.specs.Disk.{DiskState, Tells}
use Rattle.frame_log.specs.Ahead.{Ahead}
use Rattle.frame_log.specs.Format.{log_of, Found, end_of, placed}
use Rattle.frame_log.specs.Stands.{front}
use Rattle.frame_log.specs.declared.records.Records.{Records}
use Rattle.frame_log.proofs.Reading.{front_long}
use Rattle.frame_log.proofs.Viewings.{ahead_front}
use Rattle.key_rows.specs.Records.{spelling}
use Rattle.key_rows.specs.Table.{Table, no_keys}
use Rattle.hk_base.specs.declared.names.Dek.{Dek}
use Rattle.key_index.specs.declared.cache.MaterialKey.{MaterialKey}
use Rattle.key_index.specs.Cache.{AreCached}
use Rattle.key_index.specs.Held.{AreHeld}
use Rattle.key_index.specs.Index.{Index, no_index}
use Rattle.key_index.proofs.Holding.{rows_longer}
use Rattle.kms_store.specs.Keys.{IsOver, IsReadFrom, IsViewed, KeysState}
use Rattle.kms_store.specs.Replay.{IsStuck, payload_of}
use Rattle.kms_store.specs.Store.{HasMaterials, IsNoKeyLog, StandsFor, StoreState}
use Rattle.kms_store.proofs.Starts.{key_log, no_key_log, placed_payloads}
use Rattle.kms_store.proofs.Stepping.{built_none}

-- a reader at the first payload of a log of these bytes
pub record IsAtFirst (bytes : List ℕ) (mid : DiskState) (records : Records) : Type 0 where
  pub payloads : List (List ℕ)
  pub gate : ℕ
  pub found : log_of 0 bytes ≡ Found payloads gate
  pub ahead : Ahead mid records payloads
  pub reads : mid.reads 0 ≡ bytes
  pub file : records.file ≡ 0
  pub at : records.at ≡ 8
  pub size : 9 < records.size

-- a view of records that returned a reader
pub at_first : (bytes : List ℕ) (mid : DiskState) (r : Option Records) (records : Records) → r ≡ Some records
    → (payloads : List (List ℕ)) × (gate : ℕ) × (log_of 0 bytes ≡ Found payloads gate) × MatchOption r (payloads ≡ []) (λ (x : Records). Ahead mid x payloads)
    → IfSome r (λ (x : Records). (x.file ≡ 0) × (x.at ≡ 8) × (9 < x.size)) → mid.reads 0 ≡ bytes → IsAtFirst bytes mid records
at_first bytes mid r records is found reader reads =
    let ahead = subst (λ (o : Option Records). MatchOption o (found.0 ≡ []) (λ (x : Records). Ahead mid x found.0)) is found.3 in
    let at = subst (λ (o : Option Records). IfSome o (λ (x : Records). (x.file ≡ 0) × (x.at ≡ 8) × (9 < x.size))) is reader in
    record { payloads = found.0; gate = found.1; found = found.2; ahead = ahead; reads = reads; file = at.0; at = at.1; size = at.2 }

module _ (bytes : List ℕ) (mid : DiskState) (records : Records) (f : IsAtFirst bytes mid records) where
  of_file : mid.reads records.file ≡ bytes
  of_file = ap (λ (k : ℕ). mid.reads k) f.file ∙ f.reads

  long : length bytes ≡ records.size
  long = ap length (sym of_file) ∙ sym f.ahead.size

  parts : bytes ≡ front 0 f.payloads ++ f.ahead.gate ∷ f.ahead.rest
  parts = ahead_front mid records 0 bytes f.payloads f.gate f.ahead f.found (omega (arith, long, f.size)) of_file f.at

  -- the keys that were built of all its records
  pub viewed : (keys : KeysState) → IsReadFrom mid records keys → Tells mid → IsViewed bytes keys
  viewed keys read tells =
      let list : List (List ℕ) = f.payloads in
      let are : read.frames ≡ placed 8 list = read.all tells list f.ahead ∙ ap (λ (k : ℕ). placed k list) f.at in
      let payloads : map payload_of read.frames ≡ list = ap (map payload_of) are ∙ placed_payloads 8 list in
      let b = read.built in
      let spelled : map spelling b.replayed.commands ≡ list = sym b.replayed.are ∙ payloads in
      let short : end_of list < 2 ^ 64 = omega (arith, long, records.size_in, ap length parts, length-append (front 0 list) (f.ahead.gate ∷ f.ahead.rest), front_long 0 list) in
      let fits : end_of (map payload_of read.frames) < 2 ^ 64 = subst (λ (l : List (List ℕ)). end_of l < 2 ^ 64) (sym payloads) short in
      let in_front = b.held (record { places = are ∙ ap (placed 8) (sym payloads); fits = fits }) in
      record {
        commands = b.replayed.commands;
        log = key_log bytes list f.gate read.frames f.found are keys.table b.replayed;
        older = b.older;
        stands = b.stands;
        held = subst (λ (file : List ℕ). AreHeld b.older file keys.index.index) (ap (λ (l : List (List ℕ)). front 0 l ++ f.ahead.gate ∷ f.ahead.rest) spelled ∙ sym parts)
            (rows_longer b.older (front 0 (map spelling b.replayed.commands)) (f.ahead.gate ∷ f.ahead.rest) keys.index.index.rows in_front);
      }

  -- a record that is not a command which applies
  pub stuck_view : (at : ℕ) → IsStuck (placed records.at f.payloads) at → IsNoKeyLog bytes at
  stuck_view at stuck = no_key_log bytes f.payloads f.gate (placed 8 f.payloads) f.found refl at (subst (λ (k : ℕ). IsStuck (placed k f.payloads) at) f.at stuck)

-- a file without payloads
pub viewed_none : (bytes : List ℕ) (payloads : List (List ℕ)) (gate : ℕ) (keys : KeysState) → log_of 0 bytes ≡ Found payloads gate → payloads ≡ [] → keys.table ≡ no_keys → keys.index.index ≡ no_index → IsViewed bytes keys
viewed_none bytes payloads gate keys found none table index =
    let b = built_none keys table index in
    let empty : log_of 0 bytes ≡ Found [] gate = found ∙ ap (λ (l : List (List ℕ)). Found l gate) none in
    record {
      commands = b.replayed.commands;
      log = key_log bytes [] gate [] empty refl keys.table b.replayed;
      older = b.older;
      stands = b.stands;
      held = subst (λ x. AreHeld b.older bytes x) (sym index) tt;
    }

-- a new store of the keys that were viewed
pub over_holds : (d : DiskState) (bytes : List ℕ) (keys : KeysState) (store : StoreState) → IsOver keys store → IsViewed bytes keys → d.reads 0 ≡ bytes → HasMaterials d store
over_holds d bytes keys store over v reads = record {
  older = v.older;
  stands = subst (λ (x : Index). StandsFor v.older x store.table.keys) (sym over.index) (subst (λ (t : Table). StandsFor v.older keys.index.index t) (sym over.table) v.stands);
  held = subst (λ (x : Index). AreHeld v.older (d.reads 0) x) (sym over.index) (subst (λ (b : List ℕ). AreHeld v.older b keys.index.index) (sym reads) v.held);
  cached = subst (λ (entries : List (MaterialKey × Dek)). AreCached v.older store.index entries) (sym over.cache) tt;
}
