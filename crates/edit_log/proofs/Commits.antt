-- The log after a commit and after a settling.
use Rattle.std.proofs.Common.{◌≡◌, ◌≤◌, ℕ, Bool, true, false, List, [], ◌∷◌, ◌++◌, map, Option, Some, None, refl, sym, subst, arith}
use Rattle.std.specs.Prelude.{if◌then◌else◌, option_map, IfSome}
use Rattle.std.specs.List.{AllByRecursion}
use Rattle.std.proofs.lemmas.List.{map-append}
use Rattle.hk_base.specs.Disk.{DiskState, LeavesOnly}
use Rattle.hk_base.proofs.Runs.{weaker}
use Rattle.frame_log.specs.Bases.{front_of}
use Rattle.frame_log.specs.Format.{IsPayload}
use Rattle.frame_log.specs.Stands.{Is, Stands}
use Rattle.frame_log.proofs.Reading.{before_or_after}
use Rattle.frame_log.specs.declared.log.Log.{Log}
use Rattle.edit_ops.specs.Laws.{longest_record}
use Rattle.edit_ops.specs.Records.{HasSpelling, spelling}
use Rattle.edit_ops.specs.declared.ops.EditOp.{EditOp}
use Rattle.edit_ops.proofs.RecordLemmas.{records_are_short}
use Rattle.edit_log.specs.Log.{EditLogState, IsEditLogOf, IsWithOrWithout}
use Rattle.edit_log.proofs.Replays.{each_more}

-- the longest record is within the log's bound
longest_fits : longest_record ≤ 1048576
longest_fits = omega arith

-- a record is a payload
pub is_payload : (op : EditOp) (bytes : List ℕ) → HasSpelling op → bytes ≡ spelling op → IsPayload bytes
is_payload op bytes has is =
    let short = records_are_short op has in
    subst IsPayload (sym is) (record { some = short.0; limit = omega (arith, short.1, longest_fits) })

module _ (old new : DiskState) (edits : EditLogState) (ops : List EditOp) (op : EditOp) where
  pub stands_alone : IsEditLogOf old edits ops → edits.pending ≡ None → Stands old edits.log (map spelling ops) None
  stands_alone s none = subst (λ (o : Option EditOp). Stands old edits.log (map spelling ops) (option_map spelling o)) none s.log

  pub stands_beside : IsEditLogOf old edits ops → edits.pending ≡ Some op → Stands old edits.log (map spelling ops) (Some (spelling op))
  stands_beside s some = subst (λ (o : Option EditOp). Stands old edits.log (map spelling ops) (option_map spelling o)) some s.log

  -- an operation more
  one_more : (log : Log) (pending : Option EditOp) → IsEditLogOf old edits ops → pending ≡ None → HasSpelling op
      → Stands new log (map spelling ops ++ spelling op ∷ []) None → IsEditLogOf new (record { log = log; pending = pending }) (ops ++ op ∷ [])
  one_more log pending s none spelled stands = record {
    spelled = each_more HasSpelling ops op s.spelled spelled;
    waits = subst (λ (o : Option EditOp). IfSome o HasSpelling) (sym none) tt;
    log = subst (λ (o : Option EditOp). Stands new log (map spelling (ops ++ op ∷ [])) (option_map spelling o)) (sym none) (subst (λ (l : List (List ℕ)). Stands new log l None) (sym (map-append spelling ops (op ∷ []))) stands);
  }

  pub committed : (log : Log) (pending : Option EditOp) (payload : List ℕ) → IsEditLogOf old edits ops → edits.pending ≡ None → pending ≡ None → HasSpelling op → payload ≡ spelling op
      → ((payloads : List (List ℕ)) → Stands old edits.log payloads None → Stands new log (payloads ++ payload ∷ []) None)
      → IsEditLogOf new (record { log = log; pending = pending }) (ops ++ op ∷ [])
  committed log pending payload s alone none spelled is added =
      one_more log pending s none spelled (subst (λ (p : List ℕ). Stands new log (map spelling ops ++ p ∷ []) None) is (added (map spelling ops) (stands_alone s alone)))

  -- the pending operation was kept
  pub kept : (log : Log) (pending : Option EditOp) (was_kept : Bool) → IsEditLogOf old edits ops → edits.pending ≡ Some op → pending ≡ None → was_kept ≡ true
      → ((payloads : List (List ℕ)) (payload : List ℕ) → Stands old edits.log payloads (Some payload) → Stands new log (if was_kept then payloads ++ payload ∷ [] else payloads) None)
      → IsEditLogOf new (record { log = log; pending = pending }) (ops ++ op ∷ [])
  kept log pending was_kept s waits none true_is settled =
      let spelled : HasSpelling op = subst (λ (o : Option EditOp). IfSome o HasSpelling) waits s.waits in
      let whole : List (List ℕ) = map spelling ops ++ spelling op ∷ [] in
      one_more log pending s none spelled (subst (λ (b : Bool). Stands new log (if b then whole else map spelling ops) None) true_is (settled (map spelling ops) (spelling op) (stands_beside s waits)))

  -- what a crash leaves while a record is added to the log, or settled
  pub moments : (file : ℕ) (payload : List ℕ) → file ≡ 1 → HasSpelling op → payload ≡ spelling op → AllByRecursion IsPayload (map spelling ops) → LeavesOnly file old new (Is (front_of file None (map spelling ops)) (Some payload))
      → LeavesOnly 1 old new (IsWithOrWithout ops op)
  moments file payload one_is has is sized left =
      weaker (λ c held. before_or_after 1 (map spelling ops) (spelling op) sized (is_payload op (spelling op) has refl) c held)
      (subst (λ (p : List ℕ). LeavesOnly 1 old new (Is (front_of 1 None (map spelling ops)) (Some p))) is (subst (λ (k : ℕ). LeavesOnly k old new (Is (front_of k None (map spelling ops)) (Some payload))) one_is left))

  -- the same of a settling
  pub settle_moments : IsEditLogOf old edits ops → edits.pending ≡ Some op → edits.log.file ≡ 1
      → ((payloads : List (List ℕ)) (payload : List ℕ) → Stands old edits.log payloads (Some payload) → LeavesOnly edits.log.file old new (Is (front_of edits.log.file None payloads) (Some payload)))
      → LeavesOnly 1 old new (IsWithOrWithout ops op)
  settle_moments s waits one_is left =
      let stands = stands_beside s waits in
      moments edits.log.file (spelling op) one_is (subst (λ (o : Option EditOp). IfSome o HasSpelling) waits s.waits) refl stands.sized (left (map spelling ops) (spelling op) stands)

-- the operation is still pending
pub still_waits : (old new : DiskState) (edits : EditLogState) (ops : List EditOp) (log : Log) → IsEditLogOf old edits ops → ¬ (edits.pending ≡ None)
    → ((payloads : List (List ℕ)) (payload : List ℕ) → Stands old edits.log payloads (Some payload) → Stands new log payloads (Some payload)) → IsEditLogOf new (record { log = log; pending = edits.pending }) ops
still_waits old new edits ops log s some unsettled = go edits.pending refl
  where
    go : (o : Option EditOp) → edits.pending ≡ o → IsEditLogOf new (record { log = log; pending = edits.pending }) ops
    go None waits = absurd (some waits)
    go (Some op) waits = record {
      spelled = s.spelled;
      waits = s.waits;
      log = subst (λ (o : Option EditOp). Stands new log (map spelling ops) (option_map spelling o)) (sym waits) (unsettled (map spelling ops) (spelling op) (stands_beside old new edits ops op s waits));
    }

-- an operation is pending that was not before
pub now_waits : (old new : DiskState) (edits : EditLogState) (ops : List EditOp) (op : EditOp) (log : Log) (pending : Option EditOp) (payload : List ℕ) → IsEditLogOf old edits ops → edits.pending ≡ None → pending ≡ Some op → HasSpelling op → payload ≡ spelling op
    → ((payloads : List (List ℕ)) → Stands old edits.log payloads None → Stands new log payloads (Some payload)) → IsEditLogOf new (record { log = log; pending = pending }) ops
now_waits old new edits ops op log pending payload s alone waits has is unsettled = record {
  spelled = s.spelled;
  waits = subst (λ (o : Option EditOp). IfSome o HasSpelling) (sym waits) has;
  log = subst (λ (o : Option EditOp). Stands new log (map spelling ops) (option_map spelling o)) (sym waits) (subst (λ (p : List ℕ). Stands new log (map spelling ops) (Some p)) is (unsettled (map spelling ops) (stands_alone old new edits ops op s alone)));
}

-- the pending operation was dropped
pub dropped : (old new : DiskState) (edits : EditLogState) (ops : List EditOp) (log : Log) (pending : Option EditOp) (was_kept : Bool) → IsEditLogOf old edits ops → ¬ (edits.pending ≡ None) → pending ≡ None → was_kept ≡ false
    → ((payloads : List (List ℕ)) (payload : List ℕ) → Stands old edits.log payloads (Some payload) → Stands new log (if was_kept then payloads ++ payload ∷ [] else payloads) None)
    → IsEditLogOf new (record { log = log; pending = pending }) ops
dropped old new edits ops log pending was_kept s some none false_is settled = go edits.pending refl
  where
    go : (o : Option EditOp) → edits.pending ≡ o → IsEditLogOf new (record { log = log; pending = pending }) ops
    go None waits = absurd (some waits)
    go (Some op) waits =
        let whole : List (List ℕ) = map spelling ops ++ spelling op ∷ [] in
        let stands : Stands new log (map spelling ops) None =
        subst (λ (b : Bool). Stands new log (if b then whole else map spelling ops) None) false_is (settled (map spelling ops) (spelling op) (stands_beside old new edits ops op s waits)) in
        record {
          spelled = s.spelled;
          waits = subst (λ (o : Option EditOp). IfSome o HasSpelling) (sym none) tt;
          log = subst (λ (o : Option EditOp). Stands new log (map spelling ops) (option_map spelling o)) (sym none) stands;
        }
