use Rattle.std.proofs.Common.{◌≡◌, ◌-◌, ℕ, List, length, refl, sym, ◌∙◌, ap, subst, arith}
use Rattle.hk_base.specs.Disk.{Torn}
use Rattle.disk_kinds.specs.Plain.{contents, faults_of}
use Rattle.disk_kinds.proofs.Plains.{plain_call, one_changed}
use Rattle.disk_kinds.proofs.Puts.{torn_same, torn_written}
use Rattle.disk_kinds.proofs.plain_disk.calls.PlainDiskDisk.write_at.Goals as goal

pub returns-then-at-gt-LONGEST_FILE-clause-torn : goal.returns-then-at-gt-LONGEST_FILE-clause-torn
returns-then-at-gt-LONGEST_FILE-clause-torn c = subst (λ (h : ℕ → List ℕ). Torn c.args.at (length c.args.bytes.now) (contents c.args.self.now c.args.file) (h c.args.file)) (sym c.fault.ensures.same) (torn_same c.args.at (length c.args.bytes.now) (contents c.args.self.now c.args.file))

pub returns-then-at-gt-LONGEST_FILE-clause-crash : goal.returns-then-at-gt-LONGEST_FILE-clause-crash
returns-then-at-gt-LONGEST_FILE-clause-crash c b is = (b, subst (λ (h : ℕ → List ℕ). b ≡ h c.args.file) c.fault.ensures.same is, torn_same c.args.at (length c.args.bytes.now) b)

pub returns-then-at-gt-LONGEST_FILE-clause-call : goal.returns-then-at-gt-LONGEST_FILE-clause-call
returns-then-at-gt-LONGEST_FILE-clause-call c = plain_call c.args.file (contents c.args.self.now) (contents c.fault.new.self) (faults_of c.args.self.now) (faults_of c.fault.new.self) c.fault.ensures.later c.fault.ensures.same

pub returns-in-Ok-clause-crash : goal.returns-in-Ok-clause-crash
returns-in-Ok-clause-crash c b is =
    let old = contents c.args.self.now c.args.file in
    (old, refl, subst (Torn c.args.at (length c.args.bytes.now) old) (sym (is ∙ c.in-Ok.ensures.written)) (torn_written c.args.at (length c.args.bytes.now) c.args.bytes.now old (c.requires.place) (omega arith)))

pub returns-in-Ok-clause-call : goal.returns-in-Ok-clause-call
returns-in-Ok-clause-call c = one_changed c.args.file _ _ _ _ (omega (arith, c.in-Ok.ensures.faults)) c.in-Ok.ensures.other

pub returns-then-at-gt-LONGEST_FILE-clause-other : goal.returns-then-at-gt-LONGEST_FILE-clause-other
returns-then-at-gt-LONGEST_FILE-clause-other c = ap (λ (h : ℕ → List ℕ). h (1 - c.args.file)) c.fault.ensures.same

pub returns-then-at-gt-LONGEST_FILE-clause-kept : goal.returns-then-at-gt-LONGEST_FILE-clause-kept
returns-then-at-gt-LONGEST_FILE-clause-kept c = ap (λ (h : ℕ → List ℕ). h c.args.file) c.fault.ensures.same

pub returns-in-Err-clause-other : goal.returns-in-Err-clause-other
returns-in-Err-clause-other c = ap (λ (h : ℕ → List ℕ). h (1 - c.args.file)) c.fault-in-Err.ensures.same ∙ c.in-Err.ensures.other

pub returns-in-Err-clause-kept : goal.returns-in-Err-clause-kept
returns-in-Err-clause-kept c = ap (λ (h : ℕ → List ℕ). h c.args.file) c.fault-in-Err.ensures.same ∙ c.in-Err.ensures.same

pub returns-in-Err-clause-torn : goal.returns-in-Err-clause-torn
returns-in-Err-clause-torn c =
    let old = contents c.args.self.now c.args.file in
    let same = ap (λ (h : ℕ → List ℕ). h c.args.file) c.fault-in-Err.ensures.same ∙ c.in-Err.ensures.same in
    subst (Torn c.args.at (length c.args.bytes.now) old) (sym same) (torn_same c.args.at (length c.args.bytes.now) old)

pub returns-in-Err-clause-crash : goal.returns-in-Err-clause-crash
returns-in-Err-clause-crash c b is =
    let same = ap (λ (h : ℕ → List ℕ). h c.args.file) c.fault-in-Err.ensures.same ∙ c.in-Err.ensures.same in
    (b, is ∙ same, torn_same c.args.at (length c.args.bytes.now) b)

pub returns-in-Err-clause-call : goal.returns-in-Err-clause-call
returns-in-Err-clause-call c =
    let other = ap (λ (h : ℕ → List ℕ). h (1 - c.args.file)) c.fault-in-Err.ensures.same ∙ c.in-Err.ensures.other in
    one_changed c.args.file _ _ _ _ (omega (arith, c.in-Err.ensures.faults, c.fault-in-Err.ensures.later)) other
