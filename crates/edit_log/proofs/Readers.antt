-- The operations that a reader returns, by the payloads of the log.
use Rattle.std.proofs.Common.{◌≡◌, ℕ, ◌+◌, ◌-◌, List, [], ◌∷◌, ◌++◌, length, map, Some, None, sym, ◌∙◌, ap, subst, arith}
use Rattle.std.specs.List.{AllByRecursion}
use Rattle.std.proofs.lemmas.List.{map-append}
use Rattle.hk_base.specs.Disk.{DiskState, Tells, Reads}
use Rattle.frame_log.specs.Format.{log_of, Found, end_of}
use Rattle.frame_log.specs.Ahead.{Ahead, IsFirstPayload, IsNextPayload}
use Rattle.frame_log.specs.Stands.{Stands}
use Rattle.frame_log.specs.declared.log.Log.{Log}
use Rattle.frame_log.specs.declared.records.Records.{Records}
use Rattle.frame_log.proofs.Reading.{end_push, front_long}
use Rattle.frame_log.proofs.Layers.{left_as_found, still_stands}
use Rattle.edit_ops.specs.Records.{HasSpelling, spelling}
use Rattle.edit_ops.specs.declared.ops.EditOp.{EditOp}
use Rattle.edit_log.specs.declared.replay.PlacedOp.{PlacedOp}
use Rattle.edit_log.specs.declared.reader.OpReader.{OpReader}
use Rattle.edit_log.specs.Replay.{then_last, IsNext, IsNoNext}
use Rattle.edit_log.specs.Log.{EditLogState, IsEditLogOf}
use Rattle.edit_log.specs.Reader.{OpsAhead, IsFirstOp, IsNextOp, HasNoNextOp, IsReaderOpened}
use Rattle.edit_log.proofs.Replays.{each_more, openings_more}

-- the end of a log with one record more
end_more : (payloads : List (List ℕ)) (payload : List ℕ) → end_of (payloads ++ payload ∷ []) ≡ end_of payloads + 5 + length payload
end_more payloads payload = omega (arith, end_push 0 payloads payload, front_long 0 payloads, front_long 0 (payloads ++ payload ∷ []))

-- the record read spells an operation in turn
pub first_op : (disk now : DiskState) (old new : OpReader) (done : List EditOp) (todo : List (List ℕ)) → OpsAhead disk old done todo → (offset : ℕ) → IsFirstPayload now old.records new.records todo offset
    → (placed : PlacedOp) → placed.at ≡ offset - 5 → IsNext old.opening new.records.payload.items placed.op → new.opening ≡ then_last old.opening placed.op → IsFirstOp now new done todo placed
first_op disk now old new done todo a offset got placed at n last =
    let ops : map spelling (done ++ placed.op ∷ []) ≡ map spelling done ++ spelling placed.op ∷ [] = map-append spelling done (placed.op ∷ []) in
    let size : length new.records.payload.items ≡ length (spelling placed.op) = ap length n.spells in
    let end : end_of (map spelling (done ++ placed.op ∷ [])) ≡ end_of (map spelling done) + 5 + length (spelling placed.op) = ap end_of ops ∙ end_more (map spelling done) (spelling placed.op) in
    record {
      rest = got.rest;
      first = got.first ∙ ap (λ (l : List ℕ). l ∷ got.rest) n.spells;
      place = omega (arith, at, got.place, a.place);
      ahead = record {
        spelled = each_more HasSpelling done placed.op a.spelled n.spelled;
        turns = openings_more 0 old.opening done placed.op a.turns n.turn ∙ ap Some (sym last);
        place = omega (arith, got.next_place, a.place, size, end);
        ahead = got.ahead;
      };
    }

-- there is none, and the reader stayed at the end
pub no_op_left : (disk now : DiskState) (old new : OpReader) (done : List EditOp) (todo : List (List ℕ)) → OpsAhead disk old done todo → IsNextPayload now old.records new.records todo None
    → new.opening ≡ old.opening → IsNextOp now new done todo None
no_op_left disk now old new done todo a end same =
    (end.0, record { spelled = a.spelled; turns = a.turns ∙ ap Some (sym same); place = end.1 ∙ a.place; ahead = end.2 })

-- it spells none
pub no_next_op : (disk now : DiskState) (old : OpReader) (records : Records) (done : List EditOp) (todo : List (List ℕ)) → OpsAhead disk old done todo → (offset : ℕ) → IsFirstPayload now old.records records todo offset
    → (other : ℕ) → other ≡ offset - 5 → IsNoNext old.opening records.payload.items → HasNoNextOp old done todo other
no_next_op disk now old records done todo a offset got other at none = record {
  payload = records.payload.items;
  rest = got.rest;
  first = got.first;
  not_next = none;
  place = omega (arith, at, got.place, a.place);
}

-- a log whose payloads are the records of operations holds them
pub stands_for_ops : (disk : DiskState) (log : Log) (payloads : List (List ℕ)) (ops : List EditOp) → Stands disk log payloads None → AllByRecursion HasSpelling ops → payloads ≡ map spelling ops → IsEditLogOf disk (record { log = log; pending = None }) ops
stands_for_ops disk log payloads ops s spelled are = record { spelled = spelled; waits = tt; log = subst (λ (l : List (List ℕ)). Stands disk log l None) are s }

-- the log holds the same operations after calls that only read
pub still_stands_for : (old new : DiskState) (edits : EditLogState) (ops : List EditOp) → Reads 1 old new → edits.log.file ≡ 1 → Tells old → IsEditLogOf old edits ops → IsEditLogOf new edits ops
still_stands_for old new edits ops same is tells s = record { spelled = s.spelled; waits = s.waits; log = still_stands 1 old new edits.log (map spelling ops) _ same is tells s.log }

-- a log that was recovered, and a reader at its first record
pub opened : (bytes : List ℕ) (disk : DiskState) (log : Log) (reader : OpReader) (payloads : List (List ℕ)) (gate : ℕ) → log_of 1 bytes ≡ Found payloads gate → Ahead disk reader.records payloads → Stands disk log payloads None → log.file ≡ 1 → reader.records.at ≡ 8 → reader.opening ≡ 0
    → IsReaderOpened bytes disk (record { log = log; pending = None }) reader
opened bytes disk log reader payloads gate found ahead s is at none = record {
  payloads = payloads;
  gate = gate;
  found = found;
  ahead = record { spelled = tt; turns = ap Some (sym none); place = at; ahead = ahead };
  leaves = λ left h. left_as_found disk log payloads 1 gate bytes s is found left h;
  stands = λ ops spelled are. stands_for_ops disk log payloads ops s spelled are;
}
