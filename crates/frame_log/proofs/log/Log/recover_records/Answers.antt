use Rattle.std.proofs.Common.{rules, ◌≡◌, ◌<◌, ◌⊎◌, List, ℕ, length, Result, Err, IsTrue, inl, inr, refl, sym, ◌∙◌, ap, subst}
use Rattle.std.specs.Prelude.{IsErrOf}
use Rattle.hk_base.specs.Disk.{DiskState, Image, Tells, IsImage, CallOn, Reads, RunOn, LeavesOnly, Only}
use Rattle.hk_base.specs.Faults.{Rose}
use Rattle.hk_base.proofs.Runs.{Going, begin, then, compose}
use Rattle.frame_log.specs.Format.{log_of, NoLog, IsRecovered}
use Rattle.frame_log.specs.Opens.{FailsAs, FailsFor, RecoversLog}
use Rattle.frame_log.specs.declared.fault.LogFault.{LogFault}
use Rattle.frame_log.specs.declared.fault.LogFault.TheVariants as log
use Rattle.frame_log.specs.declared.fault.StartFault.{StartFault}
use Rattle.frame_log.proofs.Aheads.{log_ahead}
use Rattle.frame_log.proofs.Goings.{going, since}
use Rattle.frame_log.proofs.Found.{untouched}
use Rattle.frame_log.proofs.Openings.{as_found, log_err, log_ok, run_then, why_for, why_log, why_since}
use Rattle.frame_log.proofs.log.Log.recover_records.Goals as goal

still : {file : ℕ} {old new : DiskState} → CallOn file old new → Tells old → Tells new
still call tells = subst (λ b. IsTrue b) (sym call.tells) tells

pub returns-clause-log : goal.returns-clause-log
returns-clause-log g c tells =
    let file = c.args.file in
    let D2 = g.D.Disk.state c.open_synced.new.disk in
    let found = c.in_ok-log.ensures.log (still c.sync.ensures.call tells) in
    let log = c.in_ok-log.log in
    let is : log.file ≡ file = c.in_ok-log.ensures.settled.0 in
    let size : c.new-records.result.size ≡ length (D2.reads log.file) = c.new-records.ensures.size ∙ found.3 ∙ ap (λ (k : ℕ). length (D2.reads k)) (sym is) in (
      found.0,
      found.1,
      ap (log_of file) (sym (c.sync.ensures.same.reads tells)) ∙ found.2,
      log_ahead D2 log found.0 c.new-records.result found.4 (c.new-records.ensures.file ∙ sym is) size c.new-records.ensures.at c.new-records.ensures.window,
      found.4,
    )

-- a sync, and then the opening of the bytes that it made durable
module _ (file : ℕ) (old mid : DiskState) (file_in : file < 2) (call : CallOn file old mid) (same : Reads file old mid) where
  synced : (P : List ℕ → Type 0) → ((b : List ℕ) → old.leaves file b → P b) → Going file old mid P
  synced P f = then (begin file old P) call file_in (λ b h. f b (same.leaves b h))

  not_synced : {T : Type 0} (result : Result T LogFault) → result ≡ Err log.StoreFault → Rose old.faults mid.faults → RecoversLog file old mid (FailsAs result)
  not_synced result is rose = record {
    why = why_log old mid result (λ at other. absurd (cc (is, other))) (λ other. rose);
    any_moment = λ tells. (synced (λ b. old.leaves file b ⊎ IsRecovered file (old.reads file) b) (λ b h. inl h)).moments;
    since_sync = λ tells. inl ((log.StoreFault, is, refl), (synced (old.leaves file) (λ b h. h)).moments);
    run = (synced (old.leaves file) (λ b h. h)).run;
  }

  module _ (new : DiskState) where
    on_old : Tells old → RunOn file mid new → LeavesOnly file mid new (IsRecovered file (mid.reads file)) → Going file mid new (IsRecovered file (old.reads file))
    on_old tells run moments = compose (begin file mid _) (going run moments) (λ b h. subst (λ (l : List ℕ). IsRecovered file l b) (same.reads tells) h)

    opened : {fails : StartFault → Type 0} → RunOn file mid new → (Tells mid → LeavesOnly file mid new (IsRecovered file (mid.reads file)))
        → ((c : Image) → mid.left_since mid.moment c → IsImage mid c) → (Tells old → Only (old.reads file) (mid.leaves file))
        → FailsFor file (λ bytes at. log_of file bytes ≡ NoLog at) (λ bytes. ⊥) mid new fails → RecoversLog file old new fails
    opened run moments only_now durable why = record {
      why = why_since old mid new (synced (old.leaves file) (λ b h. h)).run same.reads why;
      any_moment = λ tells. (compose (synced _ (λ b h. inl h)) (on_old tells run (moments (still call tells))) (λ b h. inr h)).moments;
      since_sync = λ tells. inr (since file old mid new (IsRecovered file (old.reads file)) file_in call.later only_now (λ b h. untouched file (old.reads file) b (durable tells b h)) (on_old tells run (moments (still call tells))));
      run = run_then (synced (old.leaves file) (λ b h. h)).run run;
    }

pub returns-in_err-sync-clause-opens : goal.returns-in_err-sync-clause-opens
returns-in_err-sync-clause-opens g c =
    let fault : IsErrOf c.from_residual.result log.StoreFault = search rules in
    not_synced c.args.file _ _ c.requires c.sync.ensures.call c.sync.ensures.same c.from_residual.result fault c.in_err-sync.ensures.cause

pub returns-in_err-log-clause-opens : goal.returns-in_err-log-clause-opens
returns-in_err-log-clause-opens g c =
    let result = c.open_synced.result in
    let now : IsErrOf c.from_residual-in_err-log.result c.in_err-log.field-0.0 = search rules in
    opened c.args.file _ _ c.requires c.sync.ensures.call c.sync.ensures.same _ c.open_synced.ensures.run c.open_synced.ensures.moments (λ p left. g.met.D.Disk.only_now c.sync.new.self p left) c.in_ok-sync.ensures.durable
    (why_for (log_err c.in_err-log.field-0.0 result c.from_residual-in_err-log.result c.in_err-log.was now) (why_log _ _ result c.open_synced.ensures.damaged c.open_synced.ensures.cause))

pub returns-clause-opens : goal.returns-clause-opens
returns-clause-opens g c =
    opened c.args.file _ _ c.requires c.sync.ensures.call c.sync.ensures.same _ c.open_synced.ensures.run c.open_synced.ensures.moments (λ p left. g.met.D.Disk.only_now c.sync.new.self p left) c.in_ok-sync.ensures.durable
    (why_for (λ fault is. absurd (log_ok _ fault is)) (why_log _ _ c.open_synced.result c.open_synced.ensures.damaged c.open_synced.ensures.cause))

pub returns-in_err-log-clause-any_moment : goal.returns-in_err-log-clause-any_moment
returns-in_err-log-clause-any_moment g c tells = as_found c.args.file _ _ (g.met.D.Disk.is_one c.args.disk.now c.args.file tells c.requires) ((returns-in_err-log-clause-opens g c).any_moment tells)

pub returns-clause-any_moment : goal.returns-clause-any_moment
returns-clause-any_moment g c tells = as_found c.args.file _ _ (g.met.D.Disk.is_one c.args.disk.now c.args.file tells c.requires) ((returns-clause-opens g c).any_moment tells)
