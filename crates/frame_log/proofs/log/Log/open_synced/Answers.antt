use Rattle.std.proofs.Common.{rules, ◌≡◌, ◌≤◌, ◌++◌, [], ◌∷◌, List, ℕ, length, take, drop, IsTrue, true, false, refl, sym, ◌∙◌, ap, subst, arith, length-append}
use Rattle.std.specs.Prelude.{IsErrOf}
use Rattle.hk_base.specs.Disk.{DiskState, Tells, CallOn, RunOn, LeavesOnly, written}
use Rattle.hk_base.proofs.Runs.{begin, then, compose}
use Rattle.frame_log.specs.Format.{magic, starts_with, NoLog, frames_at, IsRecovered, Log_as_found}
use Rattle.frame_log.specs.Stands.{front, IsShut}
use Rattle.frame_log.specs.Scan.{IsScanned}
use Rattle.frame_log.specs.declared.fault.LogFault.TheVariants.{StoreFault}
use Rattle.frame_log.proofs.Goings.{going, one}
use Rattle.frame_log.proofs.Openings.{run_then, rose_since}
use Rattle.frame_log.proofs.Reading.{short_log, front_long, magic_long}
use Rattle.frame_log.proofs.Found.{untouched, head_is, other_magic, damaged, scanned, reads_as, gate_as_found, gate_shut, short_as_found, short_written, short_size, written_size}
use Rattle.frame_log.proofs.log.Log.open_synced.Goals.{then-scan-ne-SHUT+in_ok-write_at-2+in_ok-sync-2, else-scan-ne-SHUT}
use Rattle.frame_log.proofs.log.Log.open_synced.Goals as goal

still : {file : ℕ} {old new : DiskState} → CallOn file old new → Tells old → Tells new
still call tells = subst (λ b. IsTrue b) (sym call.tells) tells

pub returns-in_err-write_at-clause-moments : goal.returns-in_err-write_at-clause-moments
returns-in_err-write_at-clause-moments g c tells =
    let file = c.args.file in
    let D0 = g.D.Disk.state c.args.disk.now in
    let R = D0.reads file in
    let P : List ℕ → Type 0 = λ b. IsRecovered file R b in
    let file_in = c.requires.file in
    let only0 : (b : List ℕ) → D0.leaves file b → b ≡ R = λ b h. c.requires.synced tells b h in
    let tells1 = still c.len.ensures.call tells in
    let R1 = c.len.ensures.same.reads tells in
    let size : c.in_ok-size.size ≡ length R = c.in_ok-size.ensures.answer tells in
    let only1 : (b : List ℕ) → (g.D.Disk.state c.len.new.self).leaves file b → b ≡ R = λ b h. only0 b (c.len.ensures.same.leaves b h) in
    let go1 = then (begin file D0 P) c.len.ensures.call file_in (λ b h. untouched file R b (only1 b h)) in
    let short : length R ≤ 9 = omega (arith, size, c.if-size-le9.true) in
    let bytes : c.fresh.result ≡ magic file ++ 0 ∷ [] = c.fresh.ensures in
    let nine : length c.fresh.result ≡ 9 = omega (arith, ap length bytes, length-append (magic file) (0 ∷ []), magic_long file) in
    let left : (b : List ℕ) → (g.D.Disk.state c.write_at.new.self).leaves file b → IsRecovered file R b = λ b h. Log_as_found (short_as_found file R _ short nine _ _ only1 c.write_at.ensures.crash b h) in
    let go2 = then go1 c.write_at.ensures.call file_in left in
    go2.moments

pub returns-in_err-sync-clause-moments : goal.returns-in_err-sync-clause-moments
returns-in_err-sync-clause-moments g c tells =
    let file = c.args.file in
    let D0 = g.D.Disk.state c.args.disk.now in
    let R = D0.reads file in
    let P : List ℕ → Type 0 = λ b. IsRecovered file R b in
    let file_in = c.requires.file in
    let only0 : (b : List ℕ) → D0.leaves file b → b ≡ R = λ b h. c.requires.synced tells b h in
    let tells1 = still c.len.ensures.call tells in
    let R1 = c.len.ensures.same.reads tells in
    let size : c.in_ok-size.size ≡ length R = c.in_ok-size.ensures.answer tells in
    let only1 : (b : List ℕ) → (g.D.Disk.state c.len.new.self).leaves file b → b ≡ R = λ b h. only0 b (c.len.ensures.same.leaves b h) in
    let go1 = then (begin file D0 P) c.len.ensures.call file_in (λ b h. untouched file R b (only1 b h)) in
    let short : length R ≤ 9 = omega (arith, size, c.if-size-le9.true) in
    let bytes : c.fresh.result ≡ magic file ++ 0 ∷ [] = c.fresh.ensures in
    let nine : length c.fresh.result ≡ 9 = omega (arith, ap length bytes, length-append (magic file) (0 ∷ []), magic_long file) in
    let left : (b : List ℕ) → (g.D.Disk.state c.write_at.new.self).leaves file b → IsRecovered file R b = λ b h. Log_as_found (short_as_found file R _ short nine _ _ only1 c.write_at.ensures.crash b h) in
    let go2 = then go1 c.write_at.ensures.call file_in left in
    let go3 = then go2 c.sync.ensures.call file_in (λ b h. left b (c.sync.ensures.same.leaves b h)) in
    go3.moments

pub returns-then-size-le9-clause-moments : goal.returns-then-size-le9-clause-moments
returns-then-size-le9-clause-moments g c tells =
    let file = c.args.file in
    let D0 = g.D.Disk.state c.args.disk.now in
    let R = D0.reads file in
    let P : List ℕ → Type 0 = λ b. IsRecovered file R b in
    let file_in = c.requires.file in
    let only0 : (b : List ℕ) → D0.leaves file b → b ≡ R = λ b h. c.requires.synced tells b h in
    let tells1 = still c.len.ensures.call tells in
    let R1 = c.len.ensures.same.reads tells in
    let size : c.in_ok-size.size ≡ length R = c.in_ok-size.ensures.answer tells in
    let only1 : (b : List ℕ) → (g.D.Disk.state c.len.new.self).leaves file b → b ≡ R = λ b h. only0 b (c.len.ensures.same.leaves b h) in
    let go1 = then (begin file D0 P) c.len.ensures.call file_in (λ b h. untouched file R b (only1 b h)) in
    let short : length R ≤ 9 = omega (arith, size, c.if-size-le9.true) in
    let bytes : c.fresh.result ≡ magic file ++ 0 ∷ [] = c.fresh.ensures in
    let nine : length c.fresh.result ≡ 9 = omega (arith, ap length bytes, length-append (magic file) (0 ∷ []), magic_long file) in
    let left : (b : List ℕ) → (g.D.Disk.state c.write_at.new.self).leaves file b → IsRecovered file R b = λ b h. Log_as_found (short_as_found file R _ short nine _ _ only1 c.write_at.ensures.crash b h) in
    let go2 = then go1 c.write_at.ensures.call file_in left in
    let go3 = then go2 c.sync.ensures.call file_in (λ b h. left b (c.sync.ensures.same.leaves b h)) in
    go3.moments

pub returns-then-size-le9-clause-log : goal.returns-then-size-le9-clause-log
returns-then-size-le9-clause-log g c tells =
    let file = c.args.file in
    let D0 = g.D.Disk.state c.args.disk.now in
    let R = D0.reads file in
    let P : List ℕ → Type 0 = λ b. IsRecovered file R b in
    let file_in = c.requires.file in
    let only0 : (b : List ℕ) → D0.leaves file b → b ≡ R = λ b h. c.requires.synced tells b h in
    let tells1 = still c.len.ensures.call tells in
    let R1 = c.len.ensures.same.reads tells in
    let size : c.in_ok-size.size ≡ length R = c.in_ok-size.ensures.answer tells in
    let only1 : (b : List ℕ) → (g.D.Disk.state c.len.new.self).leaves file b → b ≡ R = λ b h. only0 b (c.len.ensures.same.leaves b h) in
    let short : length R ≤ 9 = omega (arith, size, c.if-size-le9.true) in
    let bytes : c.fresh.result ≡ magic file ++ 0 ∷ [] = c.fresh.ensures in
    let tells2 = still c.write_at.ensures.call tells1 in
    let wrote : (g.D.Disk.state c.write_at.new.self).reads file ≡ written 0 c.fresh.result R = subst (λ (l : List ℕ). (g.D.Disk.state c.write_at.new.self).reads file ≡ written 0 c.fresh.result l) R1 (c.in_ok-write_at.ensures.written tells1) in
    let done = short_written file R c.fresh.result _ short bytes wrote in (
      [],
      0,
      short_log file R short,
      sym (ap length (c.sync.ensures.same.reads tells2) ∙ short_size file R c.fresh.result _ short bytes wrote),
      record {
        is_base = tt;
        sized = tt;
        payload = tt;
        end = sym (front_long file []);
        waits = refl;
        reads = subst (IsShut (front file [])) (sym (c.sync.ensures.same.reads tells2)) done;
        leaves = λ b h. subst (IsShut (front file [])) (sym (c.in_ok-sync.ensures.durable tells2 b h)) done;
      },
    )

pub returns-in_err-read-clause-moments : goal.returns-in_err-read-clause-moments
returns-in_err-read-clause-moments g c tells =
    let file = c.args.file in
    let D0 = g.D.Disk.state c.args.disk.now in
    let R = D0.reads file in
    let P : List ℕ → Type 0 = λ b. IsRecovered file R b in
    let file_in = c.requires.file in
    let only0 : (b : List ℕ) → D0.leaves file b → b ≡ R = λ b h. c.requires.synced tells b h in
    let tells1 = still c.len.ensures.call tells in
    let R1 = c.len.ensures.same.reads tells in
    let size : c.in_ok-size.size ≡ length R = c.in_ok-size.ensures.answer tells in
    let only1 : (b : List ℕ) → (g.D.Disk.state c.len.new.self).leaves file b → b ≡ R = λ b h. only0 b (c.len.ensures.same.leaves b h) in
    let go1 = then (begin file D0 P) c.len.ensures.call file_in (λ b h. untouched file R b (only1 b h)) in
    let only2 : (b : List ℕ) → (g.D.Disk.state c.read.new.self).leaves file b → b ≡ R = λ b h. only1 b (c.read.ensures.same.leaves b h) in
    let go2 = then go1 c.read.ensures.call file_in (λ b h. untouched file R b (only2 b h)) in
    go2.moments

pub returns-then-not-is_magic-clause-damaged : goal.returns-then-not-is_magic-clause-damaged
returns-then-not-is_magic-clause-damaged g c at is tells =
    let file = c.args.file in
    let D0 = g.D.Disk.state c.args.disk.now in
    let R = D0.reads file in
    let P : List ℕ → Type 0 = λ b. IsRecovered file R b in
    let file_in = c.requires.file in
    let only0 : (b : List ℕ) → D0.leaves file b → b ≡ R = λ b h. c.requires.synced tells b h in
    let tells1 = still c.len.ensures.call tells in
    let R1 = c.len.ensures.same.reads tells in
    let size : c.in_ok-size.size ≡ length R = c.in_ok-size.ensures.answer tells in
    let only1 : (b : List ℕ) → (g.D.Disk.state c.len.new.self).leaves file b → b ≡ R = λ b h. only0 b (c.len.ensures.same.leaves b h) in
    let long : 10 ≤ length R = omega (arith, size, c.if-size-le9.false) in
    let tells2 = still c.read.ensures.call tells1 in
    let R2 = c.read.ensures.same.reads tells1 ∙ R1 in
    let only2 : (b : List ℕ) → (g.D.Disk.state c.read.new.self).leaves file b → b ≡ R = λ b h. only1 b (c.read.ensures.same.leaves b h) in
    let eight : length c.read.new.buf ≡ 8 = omega arith in
    let head : starts_with (magic file) c.read.new.buf ≡ starts_with (magic file) R =
    head_is file c.in_ok-read.field-0 c.read.new.buf R eight long (omega (arith, c.in_ok-read.ensures.answer tells1, ap length R1)) (c.in_ok-read.ensures.bytes tells1 ∙ ap (λ (l : List ℕ). take c.in_ok-read.field-0 l) R1) in
    let where_at : 0 ≡ at = cc is in
    let other : c.is_magic.result ≡ false = search rules in
    other_magic file R long (sym head ∙ sym c.is_magic.ensures ∙ other) ∙ ap NoLog where_at

pub returns-then-not-is_magic-clause-moments : goal.returns-then-not-is_magic-clause-moments
returns-then-not-is_magic-clause-moments g c tells =
    let file = c.args.file in
    let D0 = g.D.Disk.state c.args.disk.now in
    let R = D0.reads file in
    let P : List ℕ → Type 0 = λ b. IsRecovered file R b in
    let file_in = c.requires.file in
    let only0 : (b : List ℕ) → D0.leaves file b → b ≡ R = λ b h. c.requires.synced tells b h in
    let tells1 = still c.len.ensures.call tells in
    let R1 = c.len.ensures.same.reads tells in
    let size : c.in_ok-size.size ≡ length R = c.in_ok-size.ensures.answer tells in
    let only1 : (b : List ℕ) → (g.D.Disk.state c.len.new.self).leaves file b → b ≡ R = λ b h. only0 b (c.len.ensures.same.leaves b h) in
    let go1 = then (begin file D0 P) c.len.ensures.call file_in (λ b h. untouched file R b (only1 b h)) in
    let only2 : (b : List ℕ) → (g.D.Disk.state c.read.new.self).leaves file b → b ≡ R = λ b h. only1 b (c.read.ensures.same.leaves b h) in
    let go2 = then go1 c.read.ensures.call file_in (λ b h. untouched file R b (only2 b h)) in
    go2.moments

pub returns-in_err-scan-clause-damaged : goal.returns-in_err-scan-clause-damaged
returns-in_err-scan-clause-damaged g c at is tells =
    let file = c.args.file in
    let D0 = g.D.Disk.state c.args.disk.now in
    let R = D0.reads file in
    let P : List ℕ → Type 0 = λ b. IsRecovered file R b in
    let file_in = c.requires.file in
    let only0 : (b : List ℕ) → D0.leaves file b → b ≡ R = λ b h. c.requires.synced tells b h in
    let tells1 = still c.len.ensures.call tells in
    let R1 = c.len.ensures.same.reads tells in
    let size : c.in_ok-size.size ≡ length R = c.in_ok-size.ensures.answer tells in
    let only1 : (b : List ℕ) → (g.D.Disk.state c.len.new.self).leaves file b → b ≡ R = λ b h. only0 b (c.len.ensures.same.leaves b h) in
    let long : 10 ≤ length R = omega (arith, size, c.if-size-le9.false) in
    let tells2 = still c.read.ensures.call tells1 in
    let R2 = c.read.ensures.same.reads tells1 ∙ R1 in
    let only2 : (b : List ℕ) → (g.D.Disk.state c.read.new.self).leaves file b → b ≡ R = λ b h. only1 b (c.read.ensures.same.leaves b h) in
    let eight : length c.read.new.buf ≡ 8 = omega arith in
    let head : starts_with (magic file) c.read.new.buf ≡ starts_with (magic file) R =
    head_is file c.in_ok-read.field-0 c.read.new.buf R eight long (omega (arith, c.in_ok-read.ensures.answer tells1, ap length R1)) (c.in_ok-read.ensures.bytes tells1 ∙ ap (λ (l : List ℕ). take c.in_ok-read.field-0 l) R1) in
    let matches : c.is_magic.result ≡ true = search rules in
    let begins : starts_with (magic file) R ≡ true = sym head ∙ sym c.is_magic.ensures ∙ matches in
    let broken = c.in_err-scan.ensures.damaged at (search rules) tells2 in
    damaged file at R long begins (subst (λ (l : List ℕ). frames_at (length R) 8 (drop 8 l) ≡ NoLog at) R2 (subst (λ (k : ℕ). frames_at k 8 (drop 8 ((g.D.Disk.state c.read.new.self).reads file)) ≡ NoLog at) size broken))

pub returns-in_err-scan-clause-moments : goal.returns-in_err-scan-clause-moments
returns-in_err-scan-clause-moments g c tells =
    let file = c.args.file in
    let D0 = g.D.Disk.state c.args.disk.now in
    let R = D0.reads file in
    let P : List ℕ → Type 0 = λ b. IsRecovered file R b in
    let file_in = c.requires.file in
    let only0 : (b : List ℕ) → D0.leaves file b → b ≡ R = λ b h. c.requires.synced tells b h in
    let tells1 = still c.len.ensures.call tells in
    let R1 = c.len.ensures.same.reads tells in
    let size : c.in_ok-size.size ≡ length R = c.in_ok-size.ensures.answer tells in
    let only1 : (b : List ℕ) → (g.D.Disk.state c.len.new.self).leaves file b → b ≡ R = λ b h. only0 b (c.len.ensures.same.leaves b h) in
    let go1 = then (begin file D0 P) c.len.ensures.call file_in (λ b h. untouched file R b (only1 b h)) in
    let only2 : (b : List ℕ) → (g.D.Disk.state c.read.new.self).leaves file b → b ≡ R = λ b h. only1 b (c.read.ensures.same.leaves b h) in
    let go2 = then go1 c.read.ensures.call file_in (λ b h. untouched file R b (only2 b h)) in
    let go3 = compose go2 (going c.pass_frames.ensures.run c.pass_frames.ensures.moments) (λ b h. untouched file R b (only2 b h)) in
    go3.moments

pub returns-in_err-write_at-2-clause-moments : goal.returns-in_err-write_at-2-clause-moments
returns-in_err-write_at-2-clause-moments g c tells =
    let file = c.args.file in
    let D0 = g.D.Disk.state c.args.disk.now in
    let R = D0.reads file in
    let P : List ℕ → Type 0 = λ b. IsRecovered file R b in
    let file_in = c.requires.file in
    let only0 : (b : List ℕ) → D0.leaves file b → b ≡ R = λ b h. c.requires.synced tells b h in
    let tells1 = still c.len.ensures.call tells in
    let R1 = c.len.ensures.same.reads tells in
    let size : c.in_ok-size.size ≡ length R = c.in_ok-size.ensures.answer tells in
    let only1 : (b : List ℕ) → (g.D.Disk.state c.len.new.self).leaves file b → b ≡ R = λ b h. only0 b (c.len.ensures.same.leaves b h) in
    let go1 = then (begin file D0 P) c.len.ensures.call file_in (λ b h. untouched file R b (only1 b h)) in
    let long : 10 ≤ length R = omega (arith, size, c.if-size-le9.false) in
    let tells2 = still c.read.ensures.call tells1 in
    let R2 = c.read.ensures.same.reads tells1 ∙ R1 in
    let only2 : (b : List ℕ) → (g.D.Disk.state c.read.new.self).leaves file b → b ≡ R = λ b h. only1 b (c.read.ensures.same.leaves b h) in
    let go2 = then go1 c.read.ensures.call file_in (λ b h. untouched file R b (only2 b h)) in
    let eight : length c.read.new.buf ≡ 8 = omega arith in
    let head : starts_with (magic file) c.read.new.buf ≡ starts_with (magic file) R =
    head_is file c.in_ok-read.field-0 c.read.new.buf R eight long (omega (arith, c.in_ok-read.ensures.answer tells1, ap length R1)) (c.in_ok-read.ensures.bytes tells1 ∙ ap (λ (l : List ℕ). take c.in_ok-read.field-0 l) R1) in
    let matches : c.is_magic.result ≡ true = search rules in
    let begins : starts_with (magic file) R ≡ true = sym head ∙ sym c.is_magic.ensures ∙ matches in
    let go3 = compose go2 (going c.pass_frames.ensures.run c.pass_frames.ensures.moments) (λ b h. untouched file R b (only2 b h)) in
    let only3 : (b : List ℕ) → (g.D.Disk.state c.pass_frames.new.disk).leaves file b → b ≡ R = λ b h. only2 b (c.pass_frames.ensures.same.leaves b h) in
    let tells3 = subst (λ b. IsTrue b) (sym c.pass_frames.ensures.run.tells) tells2 in
    let R3 = c.pass_frames.ensures.same.reads tells2 ∙ R2 in
    let s : IsScanned R c.in_ok-scan.scan = subst (λ (l : List ℕ). IsScanned l c.in_ok-scan.scan) R2 (c.in_ok-scan.ensures.scan tells2) in
    let is = scanned file R c.in_ok-scan.scan s begins in
    let left : (b : List ℕ) → (g.D.Disk.state c.write_at-then-scan-ne-SHUT.new.self).leaves file b → IsRecovered file R b = λ b h. Log_as_found (gate_as_found file s.payloads c.in_ok-scan.scan.gate c.in_ok-scan.scan.end s.rest R s.sized is s.shut c.if-scan-ne-SHUT.true long s.end _ _ only3 c.write_at-then-scan-ne-SHUT.ensures.crash b h) in
    let go4 = then go3 c.write_at-then-scan-ne-SHUT.ensures.call file_in left in
    go4.moments

pub returns-in_err-sync-2-clause-moments : goal.returns-in_err-sync-2-clause-moments
returns-in_err-sync-2-clause-moments g c tells =
    let file = c.args.file in
    let D0 = g.D.Disk.state c.args.disk.now in
    let R = D0.reads file in
    let P : List ℕ → Type 0 = λ b. IsRecovered file R b in
    let file_in = c.requires.file in
    let only0 : (b : List ℕ) → D0.leaves file b → b ≡ R = λ b h. c.requires.synced tells b h in
    let tells1 = still c.len.ensures.call tells in
    let R1 = c.len.ensures.same.reads tells in
    let size : c.in_ok-size.size ≡ length R = c.in_ok-size.ensures.answer tells in
    let only1 : (b : List ℕ) → (g.D.Disk.state c.len.new.self).leaves file b → b ≡ R = λ b h. only0 b (c.len.ensures.same.leaves b h) in
    let go1 = then (begin file D0 P) c.len.ensures.call file_in (λ b h. untouched file R b (only1 b h)) in
    let long : 10 ≤ length R = omega (arith, size, c.if-size-le9.false) in
    let tells2 = still c.read.ensures.call tells1 in
    let R2 = c.read.ensures.same.reads tells1 ∙ R1 in
    let only2 : (b : List ℕ) → (g.D.Disk.state c.read.new.self).leaves file b → b ≡ R = λ b h. only1 b (c.read.ensures.same.leaves b h) in
    let go2 = then go1 c.read.ensures.call file_in (λ b h. untouched file R b (only2 b h)) in
    let eight : length c.read.new.buf ≡ 8 = omega arith in
    let head : starts_with (magic file) c.read.new.buf ≡ starts_with (magic file) R =
    head_is file c.in_ok-read.field-0 c.read.new.buf R eight long (omega (arith, c.in_ok-read.ensures.answer tells1, ap length R1)) (c.in_ok-read.ensures.bytes tells1 ∙ ap (λ (l : List ℕ). take c.in_ok-read.field-0 l) R1) in
    let matches : c.is_magic.result ≡ true = search rules in
    let begins : starts_with (magic file) R ≡ true = sym head ∙ sym c.is_magic.ensures ∙ matches in
    let go3 = compose go2 (going c.pass_frames.ensures.run c.pass_frames.ensures.moments) (λ b h. untouched file R b (only2 b h)) in
    let only3 : (b : List ℕ) → (g.D.Disk.state c.pass_frames.new.disk).leaves file b → b ≡ R = λ b h. only2 b (c.pass_frames.ensures.same.leaves b h) in
    let tells3 = subst (λ b. IsTrue b) (sym c.pass_frames.ensures.run.tells) tells2 in
    let R3 = c.pass_frames.ensures.same.reads tells2 ∙ R2 in
    let s : IsScanned R c.in_ok-scan.scan = subst (λ (l : List ℕ). IsScanned l c.in_ok-scan.scan) R2 (c.in_ok-scan.ensures.scan tells2) in
    let is = scanned file R c.in_ok-scan.scan s begins in
    let left : (b : List ℕ) → (g.D.Disk.state c.write_at-then-scan-ne-SHUT.new.self).leaves file b → IsRecovered file R b = λ b h. Log_as_found (gate_as_found file s.payloads c.in_ok-scan.scan.gate c.in_ok-scan.scan.end s.rest R s.sized is s.shut c.if-scan-ne-SHUT.true long s.end _ _ only3 c.write_at-then-scan-ne-SHUT.ensures.crash b h) in
    let go4 = then go3 c.write_at-then-scan-ne-SHUT.ensures.call file_in left in
    let go5 = then go4 c.sync-then-scan-ne-SHUT.ensures.call file_in (λ b h. left b (c.sync-then-scan-ne-SHUT.ensures.same.leaves b h)) in
    go5.moments

pub returns-clause-moments : goal.returns-clause-moments
returns-clause-moments g c tells =
    let file = c.args.file in
    let D0 = g.D.Disk.state c.args.disk.now in
    let R = D0.reads file in
    let P : List ℕ → Type 0 = λ b. IsRecovered file R b in
    let file_in = c.requires.file in
    let only0 : (b : List ℕ) → D0.leaves file b → b ≡ R = λ b h. c.requires.synced tells b h in
    let tells1 = still c.len.ensures.call tells in
    let R1 = c.len.ensures.same.reads tells in
    let size : c.in_ok-size.size ≡ length R = c.in_ok-size.ensures.answer tells in
    let only1 : (b : List ℕ) → (g.D.Disk.state c.len.new.self).leaves file b → b ≡ R = λ b h. only0 b (c.len.ensures.same.leaves b h) in
    let go1 = then (begin file D0 P) c.len.ensures.call file_in (λ b h. untouched file R b (only1 b h)) in
    let long : 10 ≤ length R = omega (arith, size, c.if-size-le9.false) in
    let tells2 = still c.read.ensures.call tells1 in
    let R2 = c.read.ensures.same.reads tells1 ∙ R1 in
    let only2 : (b : List ℕ) → (g.D.Disk.state c.read.new.self).leaves file b → b ≡ R = λ b h. only1 b (c.read.ensures.same.leaves b h) in
    let go2 = then go1 c.read.ensures.call file_in (λ b h. untouched file R b (only2 b h)) in
    let eight : length c.read.new.buf ≡ 8 = omega arith in
    let head : starts_with (magic file) c.read.new.buf ≡ starts_with (magic file) R =
    head_is file c.in_ok-read.field-0 c.read.new.buf R eight long (omega (arith, c.in_ok-read.ensures.answer tells1, ap length R1)) (c.in_ok-read.ensures.bytes tells1 ∙ ap (λ (l : List ℕ). take c.in_ok-read.field-0 l) R1) in
    let matches : c.is_magic.result ≡ true = search rules in
    let begins : starts_with (magic file) R ≡ true = sym head ∙ sym c.is_magic.ensures ∙ matches in
    let go3 = compose go2 (going c.pass_frames.ensures.run c.pass_frames.ensures.moments) (λ b h. untouched file R b (only2 b h)) in
    let only3 : (b : List ℕ) → (g.D.Disk.state c.pass_frames.new.disk).leaves file b → b ≡ R = λ b h. only2 b (c.pass_frames.ensures.same.leaves b h) in
    let tells3 = subst (λ b. IsTrue b) (sym c.pass_frames.ensures.run.tells) tells2 in
    let R3 = c.pass_frames.ensures.same.reads tells2 ∙ R2 in
    let s : IsScanned R c.in_ok-scan.scan = subst (λ (l : List ℕ). IsScanned l c.in_ok-scan.scan) R2 (c.in_ok-scan.ensures.scan tells2) in
    let is = scanned file R c.in_ok-scan.scan s begins in
    elim c.if-scan-ne-SHUT.branch [
      | then-scan-ne-SHUT+in_ok-write_at-2+in_ok-sync-2 w ↦
          let left : (b : List ℕ) → (g.D.Disk.state w.write_at-then-scan-ne-SHUT.new.self).leaves file b → IsRecovered file R b = λ b h. Log_as_found (gate_as_found file s.payloads c.in_ok-scan.scan.gate c.in_ok-scan.scan.end s.rest R s.sized is s.shut w.if-scan-ne-SHUT.true long s.end _ _ only3 w.write_at-then-scan-ne-SHUT.ensures.crash b h) in
          let go4 = then go3 w.write_at-then-scan-ne-SHUT.ensures.call file_in left in
          let go5 = then go4 w.sync-then-scan-ne-SHUT.ensures.call file_in (λ b h. left b (w.sync-then-scan-ne-SHUT.ensures.same.leaves b h)) in
          subst (λ d. LeavesOnly file D0 (g.D.Disk.state d) P) (sym w.disk-is) go5.moments
      | else-scan-ne-SHUT w ↦ subst (λ d. LeavesOnly file D0 (g.D.Disk.state d) P) (sym w.disk-is) go3.moments
    ]

pub returns-clause-log : goal.returns-clause-log
returns-clause-log g c tells =
    let file = c.args.file in
    let D0 = g.D.Disk.state c.args.disk.now in
    let R = D0.reads file in
    let P : List ℕ → Type 0 = λ b. IsRecovered file R b in
    let file_in = c.requires.file in
    let only0 : (b : List ℕ) → D0.leaves file b → b ≡ R = λ b h. c.requires.synced tells b h in
    let tells1 = still c.len.ensures.call tells in
    let R1 = c.len.ensures.same.reads tells in
    let size : c.in_ok-size.size ≡ length R = c.in_ok-size.ensures.answer tells in
    let only1 : (b : List ℕ) → (g.D.Disk.state c.len.new.self).leaves file b → b ≡ R = λ b h. only0 b (c.len.ensures.same.leaves b h) in
    let long : 10 ≤ length R = omega (arith, size, c.if-size-le9.false) in
    let tells2 = still c.read.ensures.call tells1 in
    let R2 = c.read.ensures.same.reads tells1 ∙ R1 in
    let only2 : (b : List ℕ) → (g.D.Disk.state c.read.new.self).leaves file b → b ≡ R = λ b h. only1 b (c.read.ensures.same.leaves b h) in
    let eight : length c.read.new.buf ≡ 8 = omega arith in
    let head : starts_with (magic file) c.read.new.buf ≡ starts_with (magic file) R =
    head_is file c.in_ok-read.field-0 c.read.new.buf R eight long (omega (arith, c.in_ok-read.ensures.answer tells1, ap length R1)) (c.in_ok-read.ensures.bytes tells1 ∙ ap (λ (l : List ℕ). take c.in_ok-read.field-0 l) R1) in
    let matches : c.is_magic.result ≡ true = search rules in
    let begins : starts_with (magic file) R ≡ true = sym head ∙ sym c.is_magic.ensures ∙ matches in
    let only3 : (b : List ℕ) → (g.D.Disk.state c.pass_frames.new.disk).leaves file b → b ≡ R = λ b h. only2 b (c.pass_frames.ensures.same.leaves b h) in
    let tells3 = subst (λ b. IsTrue b) (sym c.pass_frames.ensures.run.tells) tells2 in
    let R3 = c.pass_frames.ensures.same.reads tells2 ∙ R2 in
    let s : IsScanned R c.in_ok-scan.scan = subst (λ (l : List ℕ). IsScanned l c.in_ok-scan.scan) R2 (c.in_ok-scan.ensures.scan tells2) in
    let is = scanned file R c.in_ok-scan.scan s begins in
    let F = front file s.payloads in
    let ends : c.in_ok-scan.scan.end ≡ length F = omega (arith, s.end, front_long file s.payloads) in
    let found = reads_as file s.payloads c.in_ok-scan.scan.gate s.rest R s.sized is s.shut long in
    elim c.if-scan-ne-SHUT.branch [
      | then-scan-ne-SHUT+in_ok-write_at-2+in_ok-sync-2 w ↦
          let tells4 = still w.write_at-then-scan-ne-SHUT.ensures.call tells3 in
          let wrote : (g.D.Disk.state w.write_at-then-scan-ne-SHUT.new.self).reads file ≡ written c.in_ok-scan.scan.end (0 ∷ []) R = subst (λ (l : List ℕ). (g.D.Disk.state w.write_at-then-scan-ne-SHUT.new.self).reads file ≡ written c.in_ok-scan.scan.end (0 ∷ []) l) R3 (w.in_ok-write_at-2.ensures.written tells3) in
          let done = gate_shut file s.payloads c.in_ok-scan.scan.gate c.in_ok-scan.scan.end s.rest R _ is s.end wrote in
          let same_size : length ((g.D.Disk.state w.sync-then-scan-ne-SHUT.new.self).reads file) ≡ length R = ap length (w.sync-then-scan-ne-SHUT.ensures.same.reads tells4) ∙ written_size c.in_ok-scan.scan.end (0 ∷ []) R _ (omega (arith, c.in_ok-scan.ensures.end, size)) wrote in
          let size5 : c.in_ok-size.size ≡ length ((g.D.Disk.state c.if-scan-ne-SHUT.disk).reads file) = subst (λ d. c.in_ok-size.size ≡ length ((g.D.Disk.state d).reads file)) (sym w.disk-is) (size ∙ sym same_size) in
          let reads5 : IsShut F ((g.D.Disk.state c.if-scan-ne-SHUT.disk).reads file) = subst (λ d. IsShut F ((g.D.Disk.state d).reads file)) (sym w.disk-is) (subst (IsShut F) (sym (w.sync-then-scan-ne-SHUT.ensures.same.reads tells4)) done) in
          let leaves5 : (b : List ℕ) → (g.D.Disk.state c.if-scan-ne-SHUT.disk).leaves file b → IsShut F b = subst (λ d. (b : List ℕ) → (g.D.Disk.state d).leaves file b → IsShut F b) (sym w.disk-is) (λ b h. subst (IsShut F) (sym (w.in_ok-sync-2.ensures.durable tells4 b h)) done) in
          (s.payloads, c.in_ok-scan.scan.gate, found, size5, record { is_base = tt; sized = s.sized; payload = tt; end = ends; waits = refl; reads = reads5; leaves = λ b h. leaves5 b h })
      | else-scan-ne-SHUT w ↦
          let size5 : c.in_ok-size.size ≡ length ((g.D.Disk.state c.if-scan-ne-SHUT.disk).reads file) = subst (λ d. c.in_ok-size.size ≡ length ((g.D.Disk.state d).reads file)) (sym w.disk-is) (size ∙ ap length (sym R3)) in
          let done : IsShut F R = (s.rest, is ∙ ap (λ (k : ℕ). F ++ k ∷ s.rest) w.if-scan-ne-SHUT.false) in
          let reads5 : IsShut F ((g.D.Disk.state c.if-scan-ne-SHUT.disk).reads file) = subst (λ d. IsShut F ((g.D.Disk.state d).reads file)) (sym w.disk-is) (subst (IsShut F) (sym R3) done) in
          let leaves5 : (b : List ℕ) → (g.D.Disk.state c.if-scan-ne-SHUT.disk).leaves file b → IsShut F b = subst (λ d. (b : List ℕ) → (g.D.Disk.state d).leaves file b → IsShut F b) (sym w.disk-is) (λ b h. subst (IsShut F) (sym (only3 b h)) done) in
          (s.payloads, c.in_ok-scan.scan.gate, found, size5, record { is_base = tt; sized = s.sized; payload = tt; end = ends; waits = refl; reads = reads5; leaves = λ b h. leaves5 b h })
    ]

pub returns-in_err-size-clause-run : goal.returns-in_err-size-clause-run
returns-in_err-size-clause-run g c = one c.len.ensures.call

pub returns-in_err-size-clause-cause : goal.returns-in_err-size-clause-cause
returns-in_err-size-clause-cause g c is = c.in_err-size.ensures.cause

pub returns-in_err-size-clause-moments : goal.returns-in_err-size-clause-moments
returns-in_err-size-clause-moments g c tells =
    let file = c.args.file in
    let R = (g.D.Disk.state c.args.disk.now).reads file in
    (then (begin file _ (λ b. IsRecovered file R b)) c.len.ensures.call c.requires.file (λ b h. untouched file R b (c.requires.synced tells b (c.len.ensures.same.leaves b h)))).moments

pub returns-in_err-write_at-clause-run : goal.returns-in_err-write_at-clause-run
returns-in_err-write_at-clause-run g c = run_then (one c.len.ensures.call) (one c.write_at.ensures.call)

pub returns-in_err-write_at-clause-cause : goal.returns-in_err-write_at-clause-cause
returns-in_err-write_at-clause-cause g c is = rose_since c.len.ensures.call.faults c.in_err-write_at.ensures.cause

pub returns-in_err-sync-clause-run : goal.returns-in_err-sync-clause-run
returns-in_err-sync-clause-run g c = run_then (run_then (one c.len.ensures.call) (one c.write_at.ensures.call)) (one c.sync.ensures.call)

pub returns-in_err-sync-clause-cause : goal.returns-in_err-sync-clause-cause
returns-in_err-sync-clause-cause g c is = rose_since (run_then (one c.len.ensures.call) (one c.write_at.ensures.call)).faults c.in_err-sync.ensures.cause

pub returns-then-size-le9-clause-run : goal.returns-then-size-le9-clause-run
returns-then-size-le9-clause-run g c = run_then (run_then (one c.len.ensures.call) (one c.write_at.ensures.call)) (one c.sync.ensures.call)

pub returns-in_err-read-clause-run : goal.returns-in_err-read-clause-run
returns-in_err-read-clause-run g c = run_then (one c.len.ensures.call) (one c.read.ensures.call)

pub returns-in_err-read-clause-cause : goal.returns-in_err-read-clause-cause
returns-in_err-read-clause-cause g c is = rose_since c.len.ensures.call.faults c.in_err-read.ensures.cause

pub returns-then-not-is_magic-clause-run : goal.returns-then-not-is_magic-clause-run
returns-then-not-is_magic-clause-run g c = run_then (one c.len.ensures.call) (one c.read.ensures.call)

pub returns-in_err-scan-clause-run : goal.returns-in_err-scan-clause-run
returns-in_err-scan-clause-run g c = run_then (run_then (one c.len.ensures.call) (one c.read.ensures.call)) c.pass_frames.ensures.run

pub returns-in_err-write_at-2-clause-run : goal.returns-in_err-write_at-2-clause-run
returns-in_err-write_at-2-clause-run g c = run_then (run_then (run_then (one c.len.ensures.call) (one c.read.ensures.call)) c.pass_frames.ensures.run) (one c.write_at-then-scan-ne-SHUT.ensures.call)

pub returns-in_err-write_at-2-clause-cause : goal.returns-in_err-write_at-2-clause-cause
returns-in_err-write_at-2-clause-cause g c is = rose_since (run_then (run_then (one c.len.ensures.call) (one c.read.ensures.call)) c.pass_frames.ensures.run).faults c.in_err-write_at-2.ensures.cause

pub returns-in_err-sync-2-clause-run : goal.returns-in_err-sync-2-clause-run
returns-in_err-sync-2-clause-run g c = run_then (run_then (run_then (run_then (one c.len.ensures.call) (one c.read.ensures.call)) c.pass_frames.ensures.run) (one c.write_at-then-scan-ne-SHUT.ensures.call)) (one c.sync-then-scan-ne-SHUT.ensures.call)

pub returns-in_err-sync-2-clause-cause : goal.returns-in_err-sync-2-clause-cause
returns-in_err-sync-2-clause-cause g c is = rose_since (run_then (run_then (run_then (one c.len.ensures.call) (one c.read.ensures.call)) c.pass_frames.ensures.run) (one c.write_at-then-scan-ne-SHUT.ensures.call)).faults c.in_err-sync-2.ensures.cause

pub returns-clause-run : goal.returns-clause-run
returns-clause-run g c =
    let scanned = run_then (run_then (one c.len.ensures.call) (one c.read.ensures.call)) c.pass_frames.ensures.run in
    elim c.if-scan-ne-SHUT.branch [
      | then-scan-ne-SHUT+in_ok-write_at-2+in_ok-sync-2 w ↦
          subst (λ d. RunOn c.args.file (g.D.Disk.state c.args.disk.now) (g.D.Disk.state d)) (sym w.disk-is) (run_then (run_then scanned (one w.write_at-then-scan-ne-SHUT.ensures.call)) (one w.sync-then-scan-ne-SHUT.ensures.call))
      | else-scan-ne-SHUT w ↦ subst (λ d. RunOn c.args.file (g.D.Disk.state c.args.disk.now) (g.D.Disk.state d)) (sym w.disk-is) scanned
    ]

pub pass_frames-requires-clause-size : goal.pass_frames-requires-clause-size
pass_frames-requires-clause-size g c tells2 =
    let tells1 = subst (λ b. IsTrue b) c.read.ensures.call.tells tells2 in
    let tells = subst (λ b. IsTrue b) c.len.ensures.call.tells tells1 in
    c.in_ok-size.ensures.answer tells ∙ ap length (sym (c.read.ensures.same.reads tells1 ∙ c.len.ensures.same.reads tells))

pub write_at-requires-then-scan-ne-SHUT-clause-place : goal.write_at-requires-then-scan-ne-SHUT-clause-place
write_at-requires-then-scan-ne-SHUT-clause-place g c tells3 =
    let tells2 = subst (λ b. IsTrue b) c.pass_frames.ensures.run.tells tells3 in
    let tells1 = subst (λ b. IsTrue b) c.read.ensures.call.tells tells2 in
    let tells = subst (λ b. IsTrue b) c.len.ensures.call.tells tells1 in
    omega (arith, c.in_ok-scan.ensures.end, c.in_ok-size.ensures.answer tells, ap length (c.pass_frames.ensures.same.reads tells2), ap length (c.read.ensures.same.reads tells1), ap length (c.len.ensures.same.reads tells))

pub returns-in_err-scan-clause-cause : goal.returns-in_err-scan-clause-cause
returns-in_err-scan-clause-cause g c is =
    let first : IsErrOf c.pass_frames.result StoreFault = search rules in
    rose_since (run_then (one c.len.ensures.call) (one c.read.ensures.call)).faults (c.pass_frames.ensures.cause first)
