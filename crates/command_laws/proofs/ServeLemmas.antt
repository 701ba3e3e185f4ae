-- A server over good logs.
use Rattle.std.proofs.Common.{◌≡◌, ◌⊎◌, ⊎_elim, inl, inr, ℕ, IsTrue, List, refl, ◌∙◌, subst, Option}
use Rattle.hk_base.specs.Disk.{DiskState}
use Rattle.frame_log.specs.declared.fault.StartFault.{StartFault}
use Rattle.frame_log.specs.declared.fault.StartFault.TheVariants as start
use Rattle.prop_text.specs.declared.props.Props.{Props}
use Rattle.rand_chacha.specs.ChaCha.{ChaCha}
use Rattle.server_parts.specs.Doors.{DoorState}
use Rattle.server_parts.specs.Yards.{YardState}
use Rattle.cell_server.specs.Connections.{Serving}
use Rattle.server_run.specs.Opening.{NoneOpened}
use Rattle.server_run.specs.declared.run.RunEnd.{RunEnd}
use Rattle.server_run.specs.declared.run.RunEnd.TheVariants as run_end
use Rattle.hk_base.specs.Writing.{WroteFront}
use Rattle.std.specs.Io.KnownBytes.{Appends}
use Rattle.command_io.specs.declared.ends.ReplayEnd.{ReplayEnd}
use Rattle.command_io.specs.declared.ends.ReplayEnd.TheVariants as replayed
use Rattle.command_io.specs.Ends.{Closes, Reports, ended_by, last_line, status_of}
use Rattle.server_command.specs.Serve.{ReportsRun, RefusesToServe, RunsUnder, Serves, ServesUnder}
use Rattle.command_laws.specs.Complete.{ServeIsComplete}
use Rattle.command_laws.specs.Good.{FaultCounts, GoodProperties, GoodYard}
use Rattle.command_laws.proofs.LogLemmas.{keys_not_damaged, keys_not_spent, names_not_damaged, names_not_spent}
use Rattle.command_laws.proofs.EndLemmas.{Unfailed, memory_shown, no_memory, not_read, not_stored, not_written, only_memory, same_props, unfailed, unread}

-- an end that is not by a fault of the output is the one for which the server stopped, or want of memory
shut : (stop how : ReplayEnd) (written now : Option (List ℕ)) → Closes stop 0 written now how → (how ≡ replayed.WriteFault → ⊥) → (how ≡ stop) ⊎ (how ≡ replayed.NoMemory)
shut stop how written now c never = by c.last_is c.writes
  where
    by : (c.last ≡ stop) ⊎ (c.last ≡ replayed.NoMemory) → ((how ≡ c.last) × Appends written now (last_line c.last 0)) ⊎ ((how ≡ replayed.WriteFault) × WroteFront written now (last_line c.last 0)) → (how ≡ stop) ⊎ (how ≡ replayed.NoMemory)
    by is (inr failed) = absurd (never failed.0)
    by (inl is) (inl shown) = inl (shown.0 ∙ is)
    by (inr is) (inl shown) = inr (shown.0 ∙ is)

-- a report of an end that is a fault that didn't come, or want of memory
reported : (stop fault : ReplayEnd) (written now : Option (List ℕ)) (status : ℕ) → Unfailed status → Reports stop written now status → (stop ≡ fault) ⊎ (stop ≡ replayed.NoMemory)
    → ((how : ReplayEnd) → status ≡ status_of how → how ≡ fault → ⊥) → status ≡ 6
reported stop fault written now status ok r why never =
    no_memory r.how status r.status_is (only_memory stop r.how fault (shut stop r.how written now r.closes (not_written r.how status r.status_is ok)) why (never r.how r.status_is))

damaged_never : (old new : YardState) (file at : ℕ) → NoneOpened old new file (start.Damaged at) → GoodYard old → ⊥
damaged_never old new file at closed good =
    ⊎_elim (λ keys. keys_not_damaged (old.reads 0) at good.keys (keys.1.cause good.tells)) (λ names. names_not_damaged (old.reads 1) at good.names (names.1.cause good.tells)) closed.first

spent_never : (old new : YardState) (file : ℕ) → NoneOpened old new file start.Spent → GoodYard old → ⊥
spent_never old new file closed good = ⊎_elim (λ keys. keys_not_spent (old.reads 0) good.keys (keys.1.cause good.tells)) (λ names. names_not_spent (old.reads 1) good.names (names.1.cause good.tells)) closed.first

-- good logs fail to be opened for a fault of the yard or for want of memory alone
kept_closed : (old new : YardState) (file : ℕ) (fault : StartFault) → NoneOpened old new file fault → GoodYard old → (ended_by file fault ≡ replayed.StoreFault) ⊎ (ended_by file fault ≡ replayed.NoMemory)
kept_closed old new file (start.Damaged at) closed good = absurd (damaged_never old new file at closed good)
kept_closed old new file start.StoreFault closed good = inl refl
kept_closed old new file start.NoMemory closed good = inr refl
kept_closed old new file start.Spent closed good = absurd (spent_never old new file closed good)

module _ {D I O : Type 0} (state : D → DiskState) (to_come : ChaCha → ℕ → ℕ) (serves : Serving I O D ChaCha) (port conns : ℕ) (acls acls' : Option (List ℕ)) (words words' : ℕ → ℕ) (yard yard' : YardState) (door door' : DoorState I O) (written now : Option (List ℕ)) (status : ℕ)
    (properties : GoodProperties acls) (good : GoodYard yard) (ok : Unfailed status) where
  abbrev EndsBy : RunEnd → Type 0
  EndsBy = RunsUnder state to_come serves properties.props port conns words yard yard' door door'

  abbrev Done : Type 0
  Done = ((status ≡ 0) × (EndsBy run_end.Served ⊎ (IsTrue door'.closed × EndsBy run_end.Closed))) ⊎ (status ≡ 6)

  refused : (same : Type 0) → RefusesToServe same acls written now status → Done
  refused same r = inr (reported _ replayed.ReadFault written now status ok r.reports (unread acls properties r.fault r.has_fault) (λ how is. not_read how status is ok))

  under : ServesUnder state to_come serves port conns acls acls' words words' yard yard' door door' written now status → Done
  under u = go u.end u.ends u.reports
    where
      under_same : (end : RunEnd) → RunsUnder state to_come serves u.props port conns words yard yard' door door' end → EndsBy end
      under_same end ends =
          subst (λ (p : Props). RunsUnder state to_come serves p port conns words yard yard' door door' end) (same_props acls acls' u.props properties u.read) ends

      go : (end : RunEnd) → RunsUnder state to_come serves u.props port conns words yard yard' door door' end → ReportsRun end written now status → Done
      go run_end.Served ends reports = inl (reports.0, inl (under_same run_end.Served ends))
      go run_end.Closed ends reports = inl (reports.0, inr (ends.ran.served.closed refl, under_same run_end.Closed ends))
      go run_end.StoreFault ends reports = inr (reported replayed.StoreFault replayed.StoreFault written now status ok reports (inl refl) (λ how is. not_stored how status is ok))
      go run_end.DoorFault ends (inl shown) = absurd (ok.door shown.0)
      go run_end.DoorFault ends (inr failed) = absurd (ok.write failed.0)
      go run_end.NoMemory ends reports = inr (reported replayed.NoMemory replayed.ReadFault written now status ok reports (inr refl) (λ how is. not_read how status is ok))
      go (run_end.NotOpened file fault) ends reports =
          inr (reported (ended_by file fault) replayed.StoreFault written now status ok reports (kept_closed yard yard' file fault ends.0 good) (λ how is. not_stored how status is ok))

  served : (same : Type 0) → Serves state to_come serves same port conns acls acls' words words' yard yard' door door' written now status → Done
  served same (inl r) = refused same r
  served same (inr u) = under u

pub serve_is_complete : {D I O : Type 0} (state : D → DiskState) (to_come : ChaCha → ℕ → ℕ) (serves : Serving I O D ChaCha) (same others unasked : Type 0) (port conns : ℕ) (acls acls' : Option (List ℕ)) (words words' : ℕ → ℕ) (yard yard' : YardState) (door door' : DoorState I O)
    (written now : Option (List ℕ)) (before after : FaultCounts) (status : ℕ) → ServeIsComplete state to_come serves same others unasked port conns acls acls' words words' yard yard' door door' written now before after status
serve_is_complete state to_come serves same others unasked port conns acls acls' words words' yard yard' door door' written now before after status (inl (runs, rest)) causes none properties good =
    served state to_come serves port conns acls acls' words words' yard yard' door door' written now status properties good (unfailed before after status causes none) same runs
serve_is_complete state to_come serves same others unasked port conns acls acls' words words' yard yard' door door' written now before after status (inr memory) causes none properties good =
    inr (memory_shown _ written now status (unfailed before after status causes none) memory.1)
