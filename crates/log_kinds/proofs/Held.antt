-- The operations that a log on a disk holds.
use Rattle.std.proofs.Common.{◌≡◌, ℕ, Bool, true, false, List, [], ◌∷◌, ◌++◌, map, length, Option, Some, None, sym, ap, ◌∙◌, subst, arith}
use Rattle.std.specs.Prelude.{IfSome, option_map}
use Rattle.std.specs.List.{AllByRecursion}
use Rattle.std.proofs.lemmas.List.{append-nil, append_cancel_right}
use Rattle.hk_base.specs.Disk.{DiskState}
use Rattle.frame_log.specs.Format.{log_of, IsAtRest, IsBeforeOrAfter, IsPayload}
use Rattle.frame_log.specs.Stands.{Is, Stands, front}
use Rattle.frame_log.specs.declared.log.Log.{Log}
use Rattle.frame_log.proofs.Reading.{before_or_after, end_push, log_shut}
use Rattle.log_kinds.specs.Kinds.{Applies, IsLeftOf, IsLogOf, IsSoundLog, LogKind, Nothing, replay, settled_ops}
use Rattle.log_kinds.proofs.Replays.{KindLaws, spelled_more}
use Rattle.log_kinds.proofs.Sound.{finds, found_log, still_pending}

-- a log on a disk holds operations, which make a state, and maybe a pending one, which applies
pub record HoldsOps (K : LogKind) (d : DiskState) (log : Log) (pending : Option K.Op) (ops : List K.Op) (made : K.State) : Type 0 where
  pub of_file : log.file ≡ K.file
  pub spelled : AllByRecursion K.HasSpelling ops
  pub waits : IfSome pending K.HasSpelling
  pub makes : replay K K.empty ops ≡ Some made
  pub fits : Applies K made pending
  pub stands : Stands d log (map K.spelling ops) (option_map K.spelling pending)

module _ (K : LogKind) where
  -- each image of its file is a log of these operations, with or without the pending one
  pub log_of_store : (d : DiskState) (log : Log) (pending : Option K.Op) (ops : List K.Op) → log.file ≡ K.file → Stands d log (map K.spelling ops) (option_map K.spelling pending)
      → (bytes : List ℕ) → Is (front log.file (map K.spelling ops)) (option_map K.spelling pending) bytes → IsLogOf K ops pending bytes
  log_of_store d log pending ops of_file s bytes is = go pending is s.payload
    where
      payloads : List (List ℕ)
      payloads = map K.spelling ops

      go : (o : Option K.Op) → Is (front log.file payloads) (option_map K.spelling o) bytes → IfSome (option_map K.spelling o) IsPayload → IsLogOf K ops o bytes
      go None shut fits = subst (λ (k : ℕ). IsAtRest k payloads bytes) of_file (ap (log_of log.file) shut.1 ∙ log_shut log.file payloads shut.0 s.sized)
      go (Some op) held fits = subst (λ (k : ℕ). IsBeforeOrAfter k payloads (K.spelling op) bytes) of_file (before_or_after log.file payloads (K.spelling op) s.sized fits bytes held)

  module _ (d : DiskState) (log : Log) (pending : Option K.Op) (ops : List K.Op) (made : K.State) (h : HoldsOps K d log pending ops made) where
    -- the log is sound
    pub sound_store : IsSoundLog K (d.reads K.file) ops pending made
    sound_store = record {
      spelled = h.spelled;
      spelled_more = h.waits;
      makes = h.makes;
      fits = h.fits;
      log = log_of_store d log pending ops h.of_file h.stands (d.reads K.file)
          (subst (λ (k : ℕ). Is (front log.file (map K.spelling ops)) (option_map K.spelling pending) (d.reads k)) h.of_file h.stands.reads);
    }

    -- and so is what a crash leaves of it
    pub left_by_store : KindLaws K → (bytes : List ℕ) → d.leaves K.file bytes → IsLeftOf K made pending (Nothing K) ops bytes
    left_by_store laws bytes left =
        go pending h.fits h.waits (log_of_store d log pending ops h.of_file h.stands bytes (h.stands.leaves bytes (subst (λ (k : ℕ). d.leaves k bytes) (sym h.of_file) left)))
      where
        go : (o : Option K.Op) → Applies K made o → IfSome o K.HasSpelling → IsLogOf K ops o bytes → IsLeftOf K made o (Nothing K) ops bytes
        go None fits spelled log = record { kept = false; more = None; more_is = tt; fits = tt; spelled = tt; log = subst (λ (l : List K.Op). IsLogOf K l None bytes) (sym (append-nil ops)) log }
        go (Some op) fits spelled log = still_pending K laws ops op made (Nothing K) bytes fits spelled log

  -- a log holds exactly one list of operations
  pub stands_once : KindLaws K → (d : DiskState) (log : Log) (pending : Option K.Op) (ops others : List K.Op) (made comes_to : K.State) → HoldsOps K d log pending ops made → HoldsOps K d log pending others comes_to → others ≡ ops
  stands_once laws d log pending ops others made comes_to h k =
      let found = found_log K laws (d.reads K.file) ops pending made (sound_store d log pending ops made h) in
      let f = finds K laws (d.reads K.file) others pending comes_to (ops ++ settled_ops K found.0 pending) (K.settled found.0 pending made) (sound_store d log pending others comes_to k) found.1 in
      go found.0 f.kept pending (sym f.ops_are)
    where
      long : (a b : List K.Op) (s t : K.State) → HoldsOps K d log pending a s → HoldsOps K d log pending b t → (op : K.Op) → a ≡ b ++ op ∷ [] → ⊥
      long a b s t p q op is =
          let whole : length (front log.file (map K.spelling a)) ≡ length (front log.file (map K.spelling b ++ K.spelling op ∷ [])) =
          ap (λ (l : List (List ℕ)). length (front log.file l)) (ap (map K.spelling) is ∙ spelled_more K b op) in
          absurd (omega (arith, whole, end_push log.file (map K.spelling b) (K.spelling op), p.stands.end, q.stands.end))

      go : (x y : Bool) (o : Option K.Op) → others ++ settled_ops K y o ≡ ops ++ settled_ops K x o → others ≡ ops
      go x y None is = append_cancel_right others ops [] is
      go true true (Some op) is = append_cancel_right others ops (op ∷ []) is
      go false false (Some op) is = append_cancel_right others ops [] is
      go true false (Some op) is = absurd (long others ops comes_to made k h op (sym (append-nil others) ∙ is))
      go false true (Some op) is = absurd (long ops others made comes_to h k op (sym (append-nil ops) ∙ sym is))
