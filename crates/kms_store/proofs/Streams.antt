-- The keys that are built of the records of a reader, so far and at its end.
use Rattle.std.proofs.Common.{◌≡◌, ℕ, ◌+◌, ◌-◌, List, [], ◌∷◌, ◌++◌, length, refl, sym, ◌∙◌, ap, append_assoc, append-nil}
use Rattle.hk_base.specs.Disk.{DiskState, Tells}
use Rattle.frame_log.specs.Ahead.{Ahead, IsFirstPayload, IsPartlyRead}
use Rattle.frame_log.specs.Format.{placed}
use Rattle.frame_log.specs.declared.records.Records.{Records}
use Rattle.key_rows.specs.Table.{no_keys}
use Rattle.key_index.specs.Index.{no_index}
use Rattle.kms_store.specs.Keys.{IsBuilt, IsReadFrom, KeysState}
use Rattle.kms_store.specs.Replay.{IsNoNext, IsStuck}
use Rattle.kms_store.proofs.Stepping.{built_none}

-- the keys are those of the records that the reader has returned
pub record IsBuiltSoFar (old now : DiskState) (first records : Records) (keys : KeysState) : Type 0 where
  pub frames : List (ℕ × List ℕ)
  pub built : IsBuilt frames keys
  pub tells : Tells old → (todo : List (List ℕ)) → Ahead old first todo → IsPartlyRead now first.at todo records frames

pub none_yet : (old : DiskState) (first : Records) (keys : KeysState) → keys.table ≡ no_keys → keys.index.index ≡ no_index → IsBuiltSoFar old old first first keys
none_yet old first keys table index = record {
  frames = [];
  built = built_none keys table index;
  tells = λ tells todo ahead. record { rest = todo; split = refl; ahead = ahead };
}

module _ (old mid : DiskState) (first records : Records) (keys : KeysState) (so_far : IsBuiltSoFar old mid first records keys) where
  -- there are no more
  pub read_all : (Tells old → (todo : List (List ℕ)) → Ahead mid records todo → todo ≡ []) → IsReadFrom old first keys
  read_all none = record {
    frames = so_far.frames;
    built = so_far.built;
    all = λ tells todo ahead.
        let partly = so_far.tells tells todo ahead in
        sym (partly.split ∙ ap (λ (l : List (List ℕ)). so_far.frames ++ placed records.at l) (none tells partly.rest partly.ahead) ∙ append-nil so_far.frames);
  }

  module _ (new : DiskState) (records' : Records) (offset : ℕ) (got : Tells old → (todo : List (List ℕ)) → Ahead mid records todo → IsFirstPayload new records records' todo offset) where
    split_next : (tells : Tells old) (todo : List (List ℕ)) (ahead : Ahead old first todo)
        → placed first.at todo ≡ so_far.frames ++ (offset, records'.payload.items) ∷ placed records'.at (got tells (so_far.tells tells todo ahead).rest (so_far.tells tells todo ahead).ahead).rest
    split_next tells todo ahead =
        let partly = so_far.tells tells todo ahead in
        let next = got tells partly.rest partly.ahead in
        let x : List ℕ = records'.payload.items in
        partly.split
        ∙ ap (λ (l : List (List ℕ)). so_far.frames ++ placed records.at l) next.first
        ∙ ap (λ (k : ℕ). so_far.frames ++ (k, x) ∷ placed (records.at + 5 + length x) next.rest) (sym next.place)
        ∙ ap (λ (k : ℕ). so_far.frames ++ (offset, x) ∷ placed k next.rest) (sym next.next_place)

    -- one more
    pub built_next : (keys' : KeysState) → IsBuilt (so_far.frames ++ (offset, records'.payload.items) ∷ []) keys' → IsBuiltSoFar old new first records' keys'
    built_next keys' built = record {
      frames = so_far.frames ++ (offset, records'.payload.items) ∷ [];
      built = built;
      tells = λ tells todo ahead.
          let next = got tells (so_far.tells tells todo ahead).rest (so_far.tells tells todo ahead).ahead in
          record {
            rest = next.rest;
            split = split_next tells todo ahead ∙ sym (append_assoc so_far.frames ((offset, records'.payload.items) ∷ []) (placed records'.at next.rest));
            ahead = next.ahead;
          };
    }

    -- one that is not a command which applies
    pub stuck_at : (at : ℕ) → IsNoNext keys.table records'.payload.items → at ≡ offset - 5 → Tells old → (todo : List (List ℕ)) → Ahead old first todo → IsStuck (placed first.at todo) at
    stuck_at at none place tells todo ahead = record {
      before = so_far.frames;
      frame = (offset, records'.payload.items);
      behind = _;
      table = keys.table;
      split = split_next tells todo ahead;
      replayed = so_far.built.replayed;
      not_next = none;
      place = place;
    }
