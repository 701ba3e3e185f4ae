-- What a server keeps of files follows from how it ended.
use Rattle.std.proofs.Common.{◌≡◌, inl, inr, ℕ, Bool, true, false, IsTrue, List, refl, sym, subst}
use Rattle.std.specs.Prelude.{Option, Err}
use Rattle.rand_chacha.specs.ChaCha.{ChaCha}
use Rattle.hk_base.specs.Disk.{DiskState}
use Rattle.frame_log.specs.declared.fault.StartFault.{StartFault}
use Rattle.prop_text.specs.declared.props.Props.{Props}
use Rattle.clap_lines.specs.declared.told.OrderFault.TheVariants.{NoMemory}
use Rattle.world_run.specs.Kept.{ImageKept}
use Rattle.world_run.specs.Ledger.{Past}
use Rattle.world_run.specs.Linked.{SoundFiles}
use Rattle.world_run.proofs.KeptLemmas.{image_kept}
use Rattle.server_parts.specs.Doors.{DoorState}
use Rattle.server_parts.specs.Yards.{YardState}
use Rattle.cell_server.specs.Connections.{Serving}
use Rattle.cell_server.specs.declared.ends.ServeEnd.{ServeEnd}
use Rattle.cell_server.specs.declared.ends.ServeEnd.TheVariants as serve_end
use Rattle.server_run.specs.Opening.{NoneOpened}
use Rattle.server_run.specs.Runs.{RanServer, end_of}
use Rattle.server_run.specs.declared.run.RunEnd.{RunEnd}
use Rattle.server_run.specs.declared.run.RunEnd.TheVariants as run_end
use Rattle.server_laws.proofs.ServerFileLemmas.{servers_keep_files, unopened_keep_files}
use Rattle.command_io.specs.Ends.{Reports, WantsMemory, ended_by}
use Rattle.command_io.specs.Properties.{ReadsProperties}
use Rattle.hkms_commands.specs.Orders.{LeavesServing, Obeys}
use Rattle.server_command.specs.Serve.{ReportsRun, RunsUnder, Serves, generator_of, words_after}
use Rattle.hkms_commands.specs.ServerHeadline.{CannotServe, ServerKeepsFiles}
use Rattle.hkms_commands.proofs.OrderLemmas.{OrderRead}

-- a yard as it was keeps the promise
kept_as_before : (past : Past) (yard yard' : YardState) → SoundFiles past yard.reads → yard' ≡ yard → ImageKept past yard'.reads
kept_as_before past yard yard' sound same = subst (λ (y : YardState). ImageKept past y.reads) (sym same) (image_kept past yard.reads sound)

-- if there is no memory to read the words, yard and door are as they were, and so is all that an order leaves as it was
pub unread_wants : (order : OrderRead) (replays pipes : Type 0) (serves : ℕ → ℕ → Type 0) (loads : ℕ → Type 0) (checks same idle : Type 0) (written now : Option (List ℕ)) (status : ℕ) → order ≡ Err NoMemory
    → Obeys order replays pipes serves loads checks same written now status → LeavesServing order idle → WantsMemory (same × idle) written now status
unread_wants order replays pipes serves loads checks same idle written now status is obeys leaves =
    let wants : WantsMemory same written now status = subst (λ (o : OrderRead). Obeys o replays pipes serves loads checks same written now status) is obeys in
    ((wants.0, subst (λ (o : OrderRead). LeavesServing o idle) is leaves), wants.1)

module _ {D I O : Type 0} (state : D → DiskState) (to_come : ChaCha → ℕ → ℕ) (serves : Serving I O D ChaCha) (unread same : Type 0) (past : Past) (port conns : ℕ) (acls acls' : Option (List ℕ)) (words words' : ℕ → ℕ) (yard yard' : YardState)
    (door door' : DoorState I O) (written now : Option (List ℕ)) (status : ℕ) (telling : IsTrue yard.tells) (sound : SoundFiles past yard.reads) where
  abbrev Keeps : Type 0
  Keeps = ServerKeepsFiles state to_come serves unread same past port conns acls acls' words yard yard' door door' written now status

  abbrev Ran : Props → ServeEnd → Bool → Type 0
  Ran props end failed = RanServer state to_come serves (to_come (generator_of (words_after 8 words))) (to_come (generator_of (words_after 16 words))) props (generator_of words) port conns yard yard' door door' end failed

  as_before : yard' ≡ yard → CannotServe acls acls' yard yard' door door' written now status unread same → Keeps
  as_before untouched cause = inl (record { cause = cause; again = kept_as_before past yard yard' sound untouched })

  -- there was no memory to read the words
  pub unread_keeps : (unread → yard' ≡ yard) → WantsMemory unread written now status → Keeps
  unread_keeps idle wants = as_before (idle wants.0) (inl (inl wants))

  module _ (props : Props) (read : ReadsProperties acls acls' props) where
    ran : (end : ServeEnd) (failed : Bool) → ReportsRun (end_of end failed) written now status → Ran props end failed → Keeps
    ran end failed reports r = inr (inl (record {
      props = props;
      read = read;
      end = end;
      failed = failed;
      reports = reports;
      ran = r;
      keeps = servers_keep_files state to_come serves conns yard yard' door door' (to_come (generator_of (words_after 8 words))) (to_come (generator_of (words_after 16 words))) props (generator_of words) port end failed r telling past sound;
    }))

    disk_failed : (end : ServeEnd) → ¬ (end ≡ serve_end.NoMemory) → ReportsRun run_end.StoreFault written now status → Ran props end true → Keeps
    disk_failed serve_end.Served other reports r = ran serve_end.Served true reports r
    disk_failed serve_end.Closed other reports r = ran serve_end.Closed true reports r
    disk_failed serve_end.DoorFault other reports r = ran serve_end.DoorFault true reports r
    disk_failed serve_end.NoMemory other reports r = absurd (other refl)

    not_opened : (file : ℕ) (fault : StartFault) → NoneOpened yard yard' file fault → door' ≡ door → Reports (ended_by file fault) written now status → Keeps
    not_opened file fault none idle reports = inl (record {
      cause = inr (inl (record { props = props; read = read; file = file; fault = fault; not_opened = none; idle = idle; reports = reports }));
      again = unopened_keep_files yard yard' file fault none telling past sound;
    })

    ended : (end : RunEnd) → RunsUnder state to_come serves props port conns words yard yard' door door' end → ReportsRun end written now status → Keeps
    ended run_end.Served r reports = ran serve_end.Served false reports r
    ended run_end.Closed r reports = ran serve_end.Closed false reports r
    ended run_end.DoorFault r reports = ran serve_end.DoorFault false reports r
    ended run_end.StoreFault r reports = disk_failed r.0 r.1 reports r.2
    ended (run_end.NotOpened file fault) r reports = not_opened file fault r.0 r.1 reports
    ended run_end.NoMemory (inl r) reports = ran serve_end.NoMemory r.0 reports r.1
    ended run_end.NoMemory (inr (inl untouched, idle)) reports = as_before untouched (inr (inr (record { props = props; read = read; untouched = untouched; idle = idle; reports = reports })))
    ended run_end.NoMemory (inr (inr vain, idle)) reports = inr (inr (record { props = props; read = read; vain = vain; idle = idle; reports = reports }))

  pub serve_keeps : (same → yard' ≡ yard) → Serves state to_come serves same port conns acls acls' words words' yard yard' door door' written now status → Keeps
  serve_keeps idle (inl refused) = as_before (idle refused.untouched) (inl (inr refused))
  serve_keeps idle (inr s) = ended s.props s.read s.end s.ends s.reports
