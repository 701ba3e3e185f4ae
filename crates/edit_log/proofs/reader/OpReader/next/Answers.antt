use Rattle.std.proofs.Common.{rules, ℕ, List, Option, refl, ◌∙◌, subst}
use Rattle.frame_log.specs.Ahead.{IsFirstPayload, IsNextPayload}
use Rattle.edit_log.specs.Replay.{IsNext, IsNoNext}
use Rattle.edit_log.proofs.Readers.{first_op, no_next_op, no_op_left}
use Rattle.edit_log.proofs.reader.OpReader.next.Goals as goal

pub returns-in-None-clause-next : goal.returns-in-None-clause-next
returns-in-None-clause-next g c tells done todo a =
    let old = c.args.self.now in
    let D1 = g.D.Disk.state c.next.new.disk in
    let end = subst (λ (o : Option ℕ). IsNextPayload D1 old.records c.next.new.self todo o) c.in-None.is (c.in_ok-next.ensures.first tells todo a.ahead) in
    no_op_left (g.D.Disk.state c.args.disk.now) D1 old _ done todo a end refl

pub returns-in_err-placed-in-Some-clause-damaged : goal.returns-in_err-placed-in-Some-clause-damaged
returns-in_err-placed-in-Some-clause-damaged g c at is tells done todo a =
    let old = c.args.self.now in
    let D1 = g.D.Disk.state c.next.new.disk in
    let got : IsFirstPayload D1 old.records c.next.new.self todo c.in-Some.at = subst (λ (o : Option ℕ). IsNextPayload D1 old.records c.next.new.self todo o) c.in-Some.is (c.in_ok-next.ensures.first tells todo a.ahead) in
    let none = c.in_err-placed-in-Some.ensures.damaged at (search rules) in
    no_next_op (g.D.Disk.state c.args.disk.now) D1 old c.next.new.self done todo a c.in-Some.at got at (none.0 ∙ c.saturating_sub.ensures) (subst (λ (p : List ℕ). IsNoNext old.opening p) c.payload.ensures none.1)

pub returns-in-Some-clause-next : goal.returns-in-Some-clause-next
returns-in-Some-clause-next g c tells done todo a =
    let old = c.args.self.now in
    let D1 = g.D.Disk.state c.next.new.disk in
    let got : IsFirstPayload D1 old.records c.next.new.self todo c.in-Some.at = subst (λ (o : Option ℕ). IsNextPayload D1 old.records c.next.new.self todo o) c.in-Some.is (c.in_ok-next.ensures.first tells todo a.ahead) in
    let placed = c.in_ok-placed-in-Some.placed in
    let read = c.in_ok-placed-in-Some.ensures.read in
    first_op (g.D.Disk.state c.args.disk.now) D1 old _ done todo a c.in-Some.at got placed (read.0 ∙ c.saturating_sub.ensures) (subst (λ (p : List ℕ). IsNext old.opening p placed.op) c.payload.ensures read.1) c.opening_after-self.ensures
