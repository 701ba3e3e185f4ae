-- What a commit and a settling leave.
use Rattle.std.proofs.Common.{◌≡◌, ℕ, ◌+◌, Bool, true, false, List, [], ◌∷◌, ◌++◌, length, map, Option, Some, None, refl, sym, ap, ◌∙◌, subst}
use Rattle.std.specs.Prelude.{if◌then◌else◌, option_map, IfSome}
use Rattle.hk_base.specs.Disk.{DiskState, LeavesOnly, Tells}
use Rattle.hk_base.proofs.Runs.{weaker}
use Rattle.std.specs.List.{AllByRecursion}
use Rattle.std.proofs.lemmas.List.{append-nil}
use Rattle.frame_log.specs.Bases.{front_of}
use Rattle.frame_log.specs.Format.{IsPayload}
use Rattle.frame_log.specs.Stands.{Is, Stands, front}
use Rattle.frame_log.specs.declared.log.Log.{Log}
use Rattle.frame_log.proofs.Reading.{before_or_after, end_push}
use Rattle.key_rows.proofs.Births.{each_more}
use Rattle.key_rows.specs.Table.{Table, no_keys, applies, after}
use Rattle.key_rows.specs.Records.{HasSpelling, spelling}
use Rattle.key_rows.specs.declared.rows.KeyCommand.{KeyCommand}
use Rattle.key_index.specs.Cache.{AreCached}
use Rattle.key_index.specs.Held.{InLog, log_front}
use Rattle.key_index.specs.Index.{Index, Materials, after_at, materials_after}
use Rattle.key_index.specs.Sound.{IsSoundIndex}
use Rattle.key_index.proofs.CacheLemmas.{cached_after}
use Rattle.kms_store.specs.Keys.{place_before}
use Rattle.kms_store.specs.Replay.{key_replay}
use Rattle.kms_store.specs.Store.{HoldsMaterials, SettlesKeys, StandsFor, StoreState, IsKeyStoreOf, IsWithOrWithout, IsWritten, settled_commands, settled_table}
use Rattle.kms_store.proofs.Replays.{replay_more, spelled_more}
use Rattle.kms_store.proofs.Stepping.{held_next, may_here, stands_after}

-- what a command that the log has changes of a store
pub record Advances (store store' : StoreState) (command : KeyCommand) : Type 0 where
  pub sound : IsSoundIndex store.index
  pub may : applies store.table.keys command ≡ true
  pub table : store'.table.keys ≡ after store.table.keys command
  pub index : store'.index ≡ after_at store.index command (place_before store'.log.end command)
  pub cache : store'.cache ≡ store.cache
  pub none : store'.pending ≡ None
  pub file : store'.log.file ≡ 0

-- where the log of one more command ends
ends_at : (log : Log) (commands : List KeyCommand) (command : KeyCommand) → log.file ≡ 0 → log.end ≡ length (front log.file (map spelling commands ++ spelling command ∷ [])) → log.end ≡ length (log_front commands) + 5 + length (spelling command)
ends_at log commands command file end =
    end ∙ ap (λ (k : ℕ). length (front k (map spelling commands ++ spelling command ∷ []))) file ∙ end_push 0 (map spelling commands) (spelling command)

holds_after : (store store' : StoreState) (commands : List KeyCommand) (command : KeyCommand) → Advances store store' command → store'.log.end ≡ length (log_front commands) + 5 + length (spelling command)
    → HoldsMaterials store commands → HoldsMaterials store' (commands ++ command ∷ [])
holds_after store store' commands command a end h =
    let m : Materials = materials_after h.older store.index command in
    let place : ℕ = place_before store'.log.end command in
    let stands : StandsFor m (after_at store.index command place) (after store.table.keys command) = stands_after h.older store.index store.table.keys command a.sound h.stands a.may place in
    let cached : AreCached m (after_at store.index command place) store.cache = cached_after h.older store.index place a.sound command (may_here h.older store.index store.table.keys command a.sound h.stands a.may) store.cache h.cached in
    record {
      older = m;
      stands = subst (λ (x : Index). StandsFor m x store'.table.keys) (sym a.index) (subst (StandsFor m (after_at store.index command place)) (sym a.table) stands);
      held = subst (λ (x : Index). InLog m (commands ++ command ∷ []) x) (sym a.index) (held_next h.older store.index store.table.keys command a.sound h.stands a.may commands store'.log.end end h.held);
      cached = subst (λ (x : Index). AreCached m x store'.cache) (sym a.index) (subst (AreCached m (after_at store.index command place)) (sym a.cache) cached);
    }

module _ (old new : DiskState) (store : StoreState) (commands : List KeyCommand) (command : KeyCommand) where
  pub stands_alone : IsKeyStoreOf old store commands → store.pending ≡ None → Stands old store.log (map spelling commands) None
  stands_alone s none = subst (λ (o : Option KeyCommand). Stands old store.log (map spelling commands) (option_map spelling o)) none s.log

  pub stands_beside : IsKeyStoreOf old store commands → store.pending ≡ Some command → Stands old store.log (map spelling commands) (Some (spelling command))
  stands_beside s some = subst (λ (o : Option KeyCommand). Stands old store.log (map spelling commands) (option_map spelling o)) some s.log

  -- one more command
  one_more : (store' : StoreState) → IsKeyStoreOf old store commands → HasSpelling command → Advances store store' command → Stands new store'.log (map spelling commands ++ spelling command ∷ []) None
      → IsKeyStoreOf new store' (commands ++ command ∷ [])
  one_more store' s spelled a stands = record {
    spelled = each_more HasSpelling commands command s.spelled spelled;
    makes = subst (λ (x : Table). key_replay no_keys (commands ++ command ∷ []) ≡ Some x) (sym a.table) (replay_more no_keys store.table.keys commands command s.makes a.may);
    waits = subst (λ (o : Option KeyCommand). IfSome o HasSpelling) (sym a.none) tt;
    log = subst (λ (o : Option KeyCommand). Stands new store'.log (map spelling (commands ++ command ∷ [])) (option_map spelling o)) (sym a.none) (subst (λ (l : List (List ℕ)). Stands new store'.log l None) (sym (spelled_more commands command)) stands);
    materials = holds_after store store' commands command a (ends_at store'.log commands command a.file stands.end) s.materials;
  }

  pub committed : (store' : StoreState) (payload : List ℕ) → IsKeyStoreOf old store commands → store.pending ≡ None → HasSpelling command → payload ≡ spelling command → Advances store store' command
      → ((payloads : List (List ℕ)) → Stands old store.log payloads None → Stands new store'.log (payloads ++ payload ∷ []) None) → IsKeyStoreOf new store' (commands ++ command ∷ [])
  committed store' payload s alone spelled is a added =
      one_more store' s spelled a (subst (λ (p : List ℕ). Stands new store'.log (map spelling commands ++ p ∷ []) None) is (added (map spelling commands) (stands_alone s alone)))

  -- the pending command was kept
  pub kept : (store' : StoreState) (was_kept : Bool) → IsKeyStoreOf old store commands → store.pending ≡ Some command → was_kept ≡ true → Advances store store' command
      → ((payloads : List (List ℕ)) (payload : List ℕ) → Stands old store.log payloads (Some payload) → Stands new store'.log (if was_kept then payloads ++ payload ∷ [] else payloads) None)
      → IsKeyStoreOf new store' (commands ++ command ∷ [])
  kept store' was_kept s waits true_is a settled =
      let spelled : HasSpelling command = subst (λ (o : Option KeyCommand). IfSome o HasSpelling) waits s.waits in
      let whole : List (List ℕ) = map spelling commands ++ spelling command ∷ [] in
      one_more store' s spelled a (subst (λ (b : Bool). Stands new store'.log (if b then whole else map spelling commands) None) true_is (settled (map spelling commands) (spelling command) (stands_beside s waits)))

  -- what a crash leaves while a record is added to the log, or settled
  left_with : (file : ℕ) (payload : List ℕ) → file ≡ 0 → IsPayload payload → payload ≡ spelling command → AllByRecursion IsPayload (map spelling commands) → LeavesOnly file old new (Is (front_of file None (map spelling commands)) (Some payload))
      → LeavesOnly 0 old new (IsWithOrWithout commands command)
  left_with file payload zero_is fits is sized left =
      weaker (λ c held. before_or_after 0 (map spelling commands) (spelling command) sized (subst IsPayload is fits) c held)
      (subst (λ (p : List ℕ). LeavesOnly 0 old new (Is (front_of 0 None (map spelling commands)) (Some p))) is (subst (λ (k : ℕ). LeavesOnly k old new (Is (front_of k None (map spelling commands)) (Some payload))) zero_is left))

  pub moments : (file : ℕ) (payload : List ℕ) → file ≡ 0 → HasSpelling command → IsPayload payload → payload ≡ spelling command → AllByRecursion IsPayload (map spelling commands) → LeavesOnly file old new (Is (front_of file None (map spelling commands)) (Some payload))
      → LeavesOnly 0 old new (IsWritten commands command)
  moments file payload zero_is spelled fits is sized left = weaker (λ c with. (spelled, with)) (left_with file payload zero_is fits is sized left)

  pub settle_moments : IsKeyStoreOf old store commands → store.pending ≡ Some command → store.log.file ≡ 0
      → ((payloads : List (List ℕ)) (payload : List ℕ) → Stands old store.log payloads (Some payload) → LeavesOnly store.log.file old new (Is (front_of store.log.file None payloads) (Some payload)))
      → LeavesOnly 0 old new (IsWithOrWithout commands command)
  settle_moments s waits zero_is left =
      let stands = stands_beside s waits in
      left_with store.log.file (spelling command) zero_is stands.payload refl stands.sized (left (map spelling commands) (spelling command) stands)

-- the payload that was added last is one
pub last_fits : (payloads : List (List ℕ)) (payload : List ℕ) → AllByRecursion IsPayload (payloads ++ payload ∷ []) → IsPayload payload
last_fits [] payload all = all.0
last_fits (p ∷ ps) payload all = last_fits ps payload all.1

-- two stores have the same keys
pub record HasSameKeys (store store' : StoreState) : Type 0 where
  pub table : store'.table.keys ≡ store.table.keys
  pub index : store'.index ≡ store.index
  pub cache : store'.cache ≡ store.cache

-- a store that has the same keys, over what the log then holds
pub same_keys : (old new : DiskState) (store store' : StoreState) (commands : List KeyCommand) → IsKeyStoreOf old store commands → HasSameKeys store store' → IfSome store'.pending HasSpelling
    → Stands new store'.log (map spelling commands) (option_map spelling store'.pending) → IsKeyStoreOf new store' commands
same_keys old new store store' commands s same waits stands = record {
  spelled = s.spelled;
  makes = s.makes ∙ ap Some (sym same.table);
  waits = waits;
  log = stands;
  materials = record {
    older = s.materials.older;
    stands = subst (λ (x : Index). StandsFor s.materials.older x store'.table.keys) (sym same.index) (subst (StandsFor s.materials.older store.index) (sym same.table) s.materials.stands);
    held = subst (InLog s.materials.older commands) (sym same.index) s.materials.held;
    cached = subst (λ (x : Index). AreCached s.materials.older x store'.cache) (sym same.index) (subst (AreCached s.materials.older store.index) (sym same.cache) s.materials.cached);
  };
}

-- the command is still pending
pub still_waits : (old new : DiskState) (store : StoreState) (commands : List KeyCommand) (log : Log) → IsKeyStoreOf old store commands → ¬ (store.pending ≡ None)
    → ((payloads : List (List ℕ)) (payload : List ℕ) → Stands old store.log payloads (Some payload) → Stands new log payloads (Some payload)) → IsKeyStoreOf new (record store { log = log }) commands
still_waits old new store commands log s some unsettled = go store.pending refl
  where
    go : (o : Option KeyCommand) → store.pending ≡ o → IsKeyStoreOf new (record store { log = log }) commands
    go None waits = absurd (some waits)
    go (Some command) waits =
        same_keys old new store (record store { log = log }) commands s (record { table = refl; index = refl; cache = refl }) s.waits
        (subst (λ (o : Option KeyCommand). Stands new log (map spelling commands) (option_map spelling o)) (sym waits) (unsettled (map spelling commands) (spelling command) (stands_beside old new store commands command s waits)))

-- a command is pending that was not before
pub now_waits : (old new : DiskState) (store store' : StoreState) (commands : List KeyCommand) (command : KeyCommand) (payload : List ℕ) → IsKeyStoreOf old store commands → store.pending ≡ None → HasSameKeys store store' → store'.pending ≡ Some command
    → HasSpelling command → payload ≡ spelling command → ((payloads : List (List ℕ)) → Stands old store.log payloads None → Stands new store'.log payloads (Some payload)) → IsKeyStoreOf new store' commands
now_waits old new store store' commands command payload s alone same waits spelled is unsettled =
    same_keys old new store store' commands s same (subst (λ (o : Option KeyCommand). IfSome o HasSpelling) (sym waits) spelled)
    (subst (λ (o : Option KeyCommand). Stands new store'.log (map spelling commands) (option_map spelling o)) (sym waits)
    (subst (λ (p : List ℕ). Stands new store'.log (map spelling commands) (Some p)) is (unsettled (map spelling commands) (stands_alone old new store commands command s alone))))

-- the pending command was dropped
pub dropped : (old new : DiskState) (store : StoreState) (commands : List KeyCommand) (log : Log) (pending : Option KeyCommand) (was_kept : Bool) → IsKeyStoreOf old store commands → ¬ (store.pending ≡ None) → pending ≡ None → was_kept ≡ false
    → ((payloads : List (List ℕ)) (payload : List ℕ) → Stands old store.log payloads (Some payload) → Stands new log (if was_kept then payloads ++ payload ∷ [] else payloads) None)
    → IsKeyStoreOf new (record store { log = log; pending = pending }) commands
dropped old new store commands log pending was_kept s some none false_is settled = go store.pending refl
  where
    go : (o : Option KeyCommand) → store.pending ≡ o → IsKeyStoreOf new (record store { log = log; pending = pending }) commands
    go None waits = absurd (some waits)
    go (Some command) waits =
        let whole : List (List ℕ) = map spelling commands ++ spelling command ∷ [] in
        let stands : Stands new log (map spelling commands) None =
        subst (λ (b : Bool). Stands new log (if b then whole else map spelling commands) None) false_is (settled (map spelling commands) (spelling command) (stands_beside old new store commands command s waits)) in
        same_keys old new store (record store { log = log; pending = pending }) commands s (record { table = refl; index = refl; cache = refl }) (subst (λ (o : Option KeyCommand). IfSome o HasSpelling) (sym none) tt)
        (subst (λ (o : Option KeyCommand). Stands new log (map spelling commands) (option_map spelling o)) (sym none) stands)

dropped_table : (o : Option KeyCommand) (t : Table) → t ≡ settled_table false o t
dropped_table None t = refl
dropped_table (Some command) t = refl

dropped_commands : (o : Option KeyCommand) → [] ≡ settled_commands false o
dropped_commands None = refl
dropped_commands (Some command) = refl

pub settles_dropped : (old new : DiskState) (store store' : StoreState) → store'.pending ≡ None → store'.table.keys ≡ store.table.keys → (Tells old → (commands : List KeyCommand) → IsKeyStoreOf old store commands → IsKeyStoreOf new store' commands) → SettlesKeys old new store store' false
settles_dropped old new store store' none same holds = record {
  none = none;
  table = same ∙ dropped_table store.pending store.table.keys;
  log = λ tells commands s. subst (IsKeyStoreOf new store') (sym (append-nil commands) ∙ ap (λ (l : List KeyCommand). commands ++ l) (dropped_commands store.pending)) (holds tells commands s);
}

-- the pending command was kept and took effect
pub settles_kept : (old new : DiskState) (store store' : StoreState) (command : KeyCommand) → store.pending ≡ Some command → store'.pending ≡ None → store'.table.keys ≡ after store.table.keys command
    → (Tells old → (commands : List KeyCommand) → IsKeyStoreOf old store commands → IsKeyStoreOf new store' (commands ++ command ∷ [])) → SettlesKeys old new store store' true
settles_kept old new store store' command waits none then_is added = record {
  none = none;
  table = then_is ∙ ap (λ (o : Option KeyCommand). settled_table true o store.table.keys) (sym waits);
  log = λ tells commands s. subst (λ (o : Option KeyCommand). IsKeyStoreOf new store' (commands ++ settled_commands true o)) (sym waits) (added tells commands s);
}
