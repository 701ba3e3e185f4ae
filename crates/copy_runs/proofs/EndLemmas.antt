-- Which end of a copy its exit status tells of.
use Rattle.std.proofs.Common.{◌≡◌, ◌⊎◌, inl, inr, ℕ, List, refl, ap, sym, subst}
use Rattle.std.specs.Prelude.{Option, Result, Ok, Err}
use Rattle.frame_log.specs.declared.fault.StartFault.{StartFault}
use Rattle.frame_log.specs.declared.fault.StartFault.TheVariants as start
use Rattle.file_orders.specs.declared.ends.FsEnd.{FsEnd}
use Rattle.file_orders.specs.declared.ends.FsEnd.TheVariants as end
use Rattle.row_copies.specs.declared.walk.Copied.{Copied}
use Rattle.raw_copy.specs.declared.backup.CopyFault.{CopyFault}
use Rattle.raw_copy.specs.declared.backup.CopyFault.TheVariants.{End, Start}
use Rattle.raw_copy.specs.Copies.{IsCopyEnd}
use Rattle.data_stream.specs.Ends.{status_of}
use Rattle.data_stream.proofs.CauseLemmas.{closed_long, closed_read, closed_vault}
use Rattle.data_stream.proofs.EndLemmas.{close_is_no_usage}
use Rattle.data_stream.proofs.StatusLemmas.{Either, closes_either}
use Rattle.copy_ends.specs.Ends.{ShowsLine, copied_line, start_line, start_status}
use Rattle.copy_reads.proofs.FaultLemmas.{by_either}
use Rattle.copy_reads.proofs.StoreLemmas.{closed_store}
use Rattle.copy_runs.specs.Commands.{ClosesCopy}

abbrev Ended : Type 0
Ended = Result Copied CopyFault

abbrev pub failed : CopyFault → Ended
failed fault = Err fault

-- the line of this end was shown
pub closes_so : (ended own : Ended) → ended ≡ own → (written now : Option (List ℕ)) (status : ℕ) → ClosesCopy own written now status → ClosesCopy ended written now status
closes_so ended own same written now status closes = subst (λ (e : Ended). ClosesCopy e written now status) (sym same) closes

shows_either : (line : List ℕ) (own : ℕ) (written now : Option (List ℕ)) (status : ℕ) → ShowsLine line own written now status → Either own status
shows_either line own written now status (inl (inl shown)) = inl shown.0
shows_either line own written now status (inl (inr cut)) = inr (inr cut.0)
shows_either line own written now status (inr (inl shown)) = inr (inl shown.0)
shows_either line own written now status (inr (inr cut)) = inr (inr cut.0)

-- a log that could not be opened has none of the other statuses
start_not : (n : ℕ) → (4 ≡ n → ⊥) → (5 ≡ n → ⊥) → (6 ≡ n → ⊥) → (10 ≡ n → ⊥) → (fault : StartFault) → start_status fault ≡ n → ⊥
start_not n four five six ten (start.Damaged at) is = four is
start_not n four five six ten start.StoreFault is = five is
start_not n four five six ten start.NoMemory is = six is
start_not n four five six ten start.Spent is = ten is

start_store : (fault : StartFault) → start_status fault ≡ 5 → fault ≡ start.StoreFault
start_store (start.Damaged at) is = absurd cc
start_store start.StoreFault is = refl
start_store start.NoMemory is = absurd cc
start_store start.Spent is = absurd cc

module _ (written now : Option (List ℕ)) (status n : ℕ) (six : 6 ≡ n → ⊥) (eight : 8 ≡ n → ⊥) (is : status ≡ n) where
  no_counts : (counts : Copied) → (0 ≡ n → ⊥) → ShowsLine (copied_line counts) 0 written now status → ⊥
  no_counts counts zero shows = zero (by_either 0 n status six eight (shows_either (copied_line counts) 0 written now status shows) is)

  start_is : (fault : StartFault) → ShowsLine (start_line fault) (start_status fault) written now status → start_status fault ≡ n
  start_is fault shows = by_either (start_status fault) n status six eight (shows_either (start_line fault) (start_status fault) written now status shows) is

  -- the status is that of a copy that was begun
  copy_end : (own : FsEnd) → (0 ≡ n → ⊥) → (4 ≡ n → ⊥) → (5 ≡ n → ⊥) → (10 ≡ n → ⊥) → ((how : FsEnd) → ClosesCopy (failed (End how)) written now status → how ≡ own) → (ended : Ended) → ClosesCopy ended written now status → ended ≡ Err (End own)
  copy_end own zero four five ten so (Ok counts) closes = absurd (no_counts counts zero closes)
  copy_end own zero four five ten so (Err (Start fault)) closes = absurd (start_not n four five six ten fault (start_is fault closes))
  copy_end own zero four five ten so (Err (End how)) closes = ap (λ (h : FsEnd). failed (End h)) (so how closes)

module _ (written now : Option (List ℕ)) (status : ℕ) (ended : Ended) (closes : ClosesCopy ended written now status) where
  pub ended_read : status ≡ 7 → ended ≡ Err (End end.ReadFault)
  ended_read is = copy_end written now status 7 (λ h. cc) (λ h. cc) is end.ReadFault (λ h. cc) (λ h. cc) (λ h. cc) (λ h. cc) (λ how c. closed_read how written now status c is) ended closes

  pub ended_vault : status ≡ 12 → ended ≡ Err (End end.VaultFault)
  ended_vault is = copy_end written now status 12 (λ h. cc) (λ h. cc) is end.VaultFault (λ h. cc) (λ h. cc) (λ h. cc) (λ h. cc) (λ how c. closed_vault how written now status c is) ended closes

  pub ended_long : status ≡ 13 → ended ≡ Err (End end.TooLong)
  ended_long is = copy_end written now status 13 (λ h. cc) (λ h. cc) is end.TooLong (λ h. cc) (λ h. cc) (λ h. cc) (λ h. cc) (λ how c. closed_long how written now status c is) ended closes

-- a store fault is one of the log that was opened, or of the copy
pub ended_store : (written now : Option (List ℕ)) (status : ℕ) (ended : Ended) → ClosesCopy ended written now status → status ≡ 5 → (ended ≡ Err (Start start.StoreFault)) ⊎ (ended ≡ Err (End end.StoreFault))
ended_store written now status (Ok counts) closes is = absurd (no_counts written now status 5 (λ h. cc) (λ h. cc) is counts (λ h. cc) closes)
ended_store written now status (Err (Start fault)) closes is = inl (ap (λ (f : StartFault). failed (Start f)) (start_store fault (start_is written now status 5 (λ h. cc) (λ h. cc) is fault closes)))
ended_store written now status (Err (End how)) closes is = inr (ap (λ (h : FsEnd). failed (End h)) (closed_store how written now status closes is))

-- no copy ends with the status of refused words
pub ended_is_no_usage : (ended : Ended) (written now : Option (List ℕ)) (status : ℕ) → ClosesCopy ended written now status → status ≡ 2 → ⊥
ended_is_no_usage (Ok counts) written now status closes is = no_counts written now status 2 (λ h. cc) (λ h. cc) is counts (λ h. cc) closes
ended_is_no_usage (Err (Start fault)) written now status closes is = start_not 2 (λ h. cc) (λ h. cc) (λ h. cc) (λ h. cc) fault (start_is written now status 2 (λ h. cc) (λ h. cc) is fault closes)
ended_is_no_usage (Err (End how)) written now status closes is = close_is_no_usage how written now status closes is

-- and only one that was whole ends with the status 0

end_not_done : (how : FsEnd) → IsCopyEnd how → status_of how ≡ 0 → ⊥
end_not_done (end.Put count) own is = own.0
end_not_done (end.Read count) own is = own.0
end_not_done (end.NameRefused why) own is = cc
end_not_done (end.KeyRefused why) own is = cc
end_not_done end.Directory own is = cc
end_not_done end.StoreFault own is = cc
end_not_done end.NoMemory own is = cc
end_not_done end.ReadFault own is = own.0
end_not_done end.WriteFault own is = own.0
end_not_done end.VaultFault own is = cc
end_not_done end.TooLong own is = own.0

pub ended_done : (written now : Option (List ℕ)) (status : ℕ) (ended : Ended) → ((why : FsEnd) → ended ≡ Err (End why) → IsCopyEnd why) → ClosesCopy ended written now status → status ≡ 0 → (counts : Copied) × (ended ≡ Ok counts)
ended_done written now status (Ok counts) own closes is = (counts, refl)
ended_done written now status (Err (Start fault)) own closes is = absurd (start_not 0 (λ h. cc) (λ h. cc) (λ h. cc) (λ h. cc) fault (start_is written now status 0 (λ h. cc) (λ h. cc) is fault closes))
ended_done written now status (Err (End how)) own closes is = absurd (end_not_done how (own how refl) (by_either (status_of how) 0 status (λ h. cc) (λ h. cc) (closes_either how written now status closes) is))
