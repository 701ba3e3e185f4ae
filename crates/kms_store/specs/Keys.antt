-- All keys: the index that memory has, and the whole table.
use Rattle.std.specs.Prelude.{◌≡◌, ℕ, ◌-◌, ◌<◌, ◌^◌, List, [], None, length, map}
use Rattle.hk_base.specs.Disk.{DiskState, Tells}
use Rattle.frame_log.specs.Ahead.{Ahead}
use Rattle.frame_log.specs.Format.{end_of, placed}
use Rattle.frame_log.specs.declared.log.Log.{Log}
use Rattle.frame_log.specs.declared.records.Records.{Records}
use Rattle.key_rows.specs.declared.rows.KeyCommand.{KeyCommand}
use Rattle.key_rows.specs.Table.{Table}
use Rattle.key_index.specs.Held.{AreHeld, InLog, material_in}
use Rattle.key_index.specs.Index.{KeptIndex, Materials}
use Rattle.kms_store.specs.Replay.{IsReplayed, payload_of}
use Rattle.kms_store.specs.Store.{IsKeyLog, StandsFor, StoreState}

pub record KeysState : Type 0 where
  pub index : KeptIndex
  pub table : Table

-- the offset of the material of a command whose record ends here: the material ends the record
abbrev pub place_before : ℕ → KeyCommand → ℕ
place_before end command = end - length (material_in command)

-- the frames of a log from the first one on, at their offsets
pub record ArePlaced (frames : List (ℕ × List ℕ)) : Type 0 where
  pub places : frames ≡ placed 8 (map payload_of frames)
  pub fits : end_of (map payload_of frames) < 2 ^ 64

-- The commands of these frames make the keys. If the frames are those of a log, the log has the older materials.
pub record IsBuilt (frames : List (ℕ × List ℕ)) (keys : KeysState) : Type 0 where
  pub replayed : IsReplayed frames keys.table
  pub older : Materials
  pub stands : StandsFor older keys.index.index keys.table
  pub held : ArePlaced frames → InLog older replayed.commands keys.index.index

-- The keys were built of frames. If the disk tells what its files hold, these are the frames that were ahead of the reader.
pub record IsReadFrom (disk : DiskState) (records : Records) (keys : KeysState) : Type 0 where
  pub frames : List (ℕ × List ℕ)
  pub built : IsBuilt frames keys
  pub all : Tells disk → (todo : List (List ℕ)) → Ahead disk records todo → frames ≡ placed records.at todo

-- the file is a key log of commands that make the keys, and it has their older materials
pub record IsViewed (file : List ℕ) (keys : KeysState) : Type 0 where
  pub commands : List KeyCommand
  pub log : IsKeyLog file commands keys.table
  pub older : Materials
  pub stands : StandsFor older keys.index.index keys.table
  pub held : AreHeld older file keys.index.index

-- the store of these keys, with an empty cache, before any command is added to its log
abbrev pub store_of : Log → KeysState → StoreState
store_of log keys = record {
  log = log;
  table = record { keys = keys.table; spare = keys.index.spare };
  index = keys.index.index;
  cache = [];
  pending = None;
}

-- a store has these keys, an empty cache, and nothing pending; an opening is recorded
pub record IsOver (keys : KeysState) (store : StoreState) : Type 0 where
  pub table : store.table.keys ≡ keys.table
  pub index : store.index ≡ keys.index.index
  pub cache : store.cache ≡ []
  pub pending : store.pending ≡ None
  pub opened : 0 < keys.table.opening
