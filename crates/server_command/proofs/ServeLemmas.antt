-- What follows of what a server did.
use Rattle.std.proofs.Common.{◌≡◌, ◌≢◌, inl, inr, ℕ, ◌+◌, List, ap, ◌∙◌, subst, arith}
use Rattle.std.specs.Prelude.{Option}
use Rattle.rand_chacha.specs.ChaCha.{ChaCha}
use Rattle.hk_base.specs.Disk.{DiskState}
use Rattle.prop_text.specs.declared.props.Props.{Props}
use Rattle.server_parts.specs.Doors.{DoorState}
use Rattle.server_parts.specs.Yards.{YardState}
use Rattle.cell_server.specs.Connections.{Serving}
use Rattle.server_run.specs.Runs.{EndsAs}
use Rattle.server_run.specs.declared.run.RunEnd.{RunEnd}
use Rattle.server_run.specs.declared.run.RunEnd.TheVariants as run_end
use Rattle.command_io.specs.Properties.{ReadsProperties}
use Rattle.server_command.specs.Serve.{ReportsRun, Serves, generator_of, words_after}
use Rattle.command_io.proofs.UsageLemmas.{not_shown, report_is_no_usage}
use Rattle.server_command.proofs.SeedLemmas.{later}

-- no server has the status of refused words

not_two : (n : ℕ) → n ≡ 0 → n ≢ 2
not_two n zero two = absurd (omega (arith, zero, two))

run_is_no_usage : (end : RunEnd) (written now : Option (List ℕ)) (status : ℕ) → ReportsRun end written now status → status ≢ 2
run_is_no_usage run_end.Served written now status r = not_two status r.0
run_is_no_usage run_end.Closed written now status r = not_two status r.0
run_is_no_usage run_end.StoreFault written now status r = report_is_no_usage _ written now status r
run_is_no_usage run_end.DoorFault written now status r = not_shown _ 9 written now status (λ h. absurd cc) r
run_is_no_usage run_end.NoMemory written now status r = report_is_no_usage _ written now status r
run_is_no_usage (run_end.NotOpened file fault) written now status r = report_is_no_usage _ written now status r

pub server_is_no_usage : {D I O : Type 0} (state : D → DiskState) (to_come : ChaCha → ℕ → ℕ) (serves : Serving I O D ChaCha) (same : Type 0) (port conns : ℕ) (acls acls' : Option (List ℕ)) (words words' : ℕ → ℕ) (yard yard' : YardState)
    (door door' : DoorState I O) (written now : Option (List ℕ)) (status : ℕ) → Serves state to_come serves same port conns acls acls' words words' yard yard' door door' written now status → status ≢ 2
server_is_no_usage state to_come serves same port conns acls acls' words words' yard yard' door door' written now status (inl refused) = report_is_no_usage _ written now status refused.reports
server_is_no_usage state to_come serves same port conns acls acls' words words' yard yard' door door' written now status (inr ran) = run_is_no_usage ran.end written now status ran.reports

module _ {D I O : Type 0} (state : D → DiskState) (to_come : ChaCha → ℕ → ℕ) (serves : Serving I O D ChaCha) where
  -- the server ran with generators that were drawn one after another
  pub serves_under : (same : Type 0) (port conns : ℕ) (acls acls' : Option (List ℕ)) (t t1 t2 t3 : ℕ → ℕ) (yard yard' : YardState) (door door' : DoorState I O) (written now : Option (List ℕ)) (status : ℕ)
      (props : Props) (words first second : ChaCha) (end : RunEnd) → ReadsProperties acls acls' props
      → words ≡ generator_of t → ((k : ℕ) → t1 k ≡ t (k + 8)) → first ≡ generator_of t1 → ((k : ℕ) → t2 k ≡ t1 (k + 8)) → second ≡ generator_of t2 → ((k : ℕ) → t3 k ≡ t2 (k + 8))
      → EndsAs state to_come serves (to_come first) (to_come second) props words port conns yard yard' door door' end → ReportsRun end written now status
      → Serves state to_come serves same port conns acls acls' t t3 yard yard' door door' written now status
  serves_under same port conns acls acls' t t1 t2 t3 yard yard' door door' written now status props words first second end read is rest first_is rest' second_is rest'' ends reports =
      let on : (k : ℕ) → t2 k ≡ t (k + 16) = later t t1 t2 8 8 rest rest' in
      let one : to_come first ≡ to_come (generator_of (words_after 8 t)) = ap to_come (first_is ∙ ap generator_of (λ i k. rest k i)) in
      let two : to_come second ≡ to_come (generator_of (words_after 16 t)) = ap to_come (second_is ∙ ap generator_of (λ i k. on k i)) in
      inr (record {
        props = props;
        read = read;
        end = end;
        ends =
            subst (λ (f : ℕ → ℕ). EndsAs state to_come serves f (to_come (generator_of (words_after 16 t))) props (generator_of t) port conns yard yard' door door' end) one
            (subst (λ (f : ℕ → ℕ). EndsAs state to_come serves (to_come first) f props (generator_of t) port conns yard yard' door door' end) two
            (subst (λ (g : ChaCha). EndsAs state to_come serves (to_come first) (to_come second) props g port conns yard yard' door door' end) is ends));
        rest = later t t2 t3 16 8 on rest'';
        reports = reports;
      })
