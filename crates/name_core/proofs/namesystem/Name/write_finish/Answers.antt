use Rattle.std.proofs.Common.{◌∙◌, Err, refl, ap, sym, subst}
use Rattle.name_core.specs.Asks.{closed}
use Rattle.name_core.specs.State.{NameState, RunningNames, WalksOnce, names_of}
use Rattle.name_core.specs.Steps.{MayWrite}
use Rattle.name_core.proofs.LoggingLemmas.{store-stands}
use Rattle.name_core.proofs.OnceLemmas.{once-after}
use Rattle.name_core.proofs.WriteLemmas.{Committing, write-done, write-failed, write-wanting}
use Rattle.name_core.proofs.namesystem.Name.write_finish.Goals as goal

pub commit-requires : goal.commit-requires
commit-requires g c =
    let r : RunningNames = record { store = c.self.inside.store; next = c.self.inside.next; asks = c.self.inside.asks; walks = c.self.inside.walks.items; updating = c.self.inside.updating; batch = c.self.inside.batch } in
    let left : RunningNames → NameState = λ (x : RunningNames). closed (names_of x) c.args.id in
    let may : MayWrite (names_of r) c.args.op.now (left r) = subst (λ (x : RunningNames). MayWrite (names_of x) c.args.op.now (left x)) (sym c.self.view_is) c.requires.may in
    record {
      settled = ap (λ (x : RunningNames). x.store.log.pending) c.self.view_is ∙ c.requires.settled;
      allowed = may.allowed;
      no_opening = may.behind.no_opening;
      fits = may.spelled;
      stands = store-stands (g.D.Disk.state c.args.disk.now) r c.args.self.now c.self.view_is c.requires.stands;
    }

pub returns-in-Err-NoMemory : goal.returns-in-Err-NoMemory
returns-in-Err-NoMemory g c =
    let r : RunningNames = record { store = c.self.inside.store; next = c.self.inside.next; asks = c.self.inside.asks; walks = c.self.inside.walks.items; updating = c.self.inside.updating; batch = c.self.inside.batch } in
    let t : RunningNames = record { store = c.commit.new.self; next = c.self.inside.next; asks = c.self.inside.asks; walks = c.self.inside.walks.items; updating = c.self.inside.updating; batch = c.self.inside.batch } in
    let same = c.commit.ensures.memory (c.in-Err-NoMemory.is ∙ ap Err c.in-Err-NoMemory.field-0-is) in
    write-wanting (g.D.Disk.state c.args.disk.now) (g.D.Disk.state c.commit.new.disk) r c.args.self.now t c.self.view_is
    (λ i. record { store = same.0 i; next = c.self.inside.next; asks = c.self.inside.asks; walks = c.self.inside.walks.items; updating = c.self.inside.updating; batch = c.self.inside.batch }) (ap g.D.Disk.state same.1) c.requires.settled

pub invariant_of-self-in-Err-StoreFault : goal.invariant_of-self-in-Err-StoreFault
invariant_of-self-in-Err-StoreFault g c =
    let r : RunningNames = record { store = c.self.inside.store; next = c.self.inside.next; asks = c.self.inside.asks; walks = c.self.inside.walks.items; updating = c.self.inside.updating; batch = c.self.inside.batch } in
    let t : RunningNames = record { store = c.commit.new.self; next = c.self.inside.next; asks = c.remove.new.self; walks = c.self.inside.walks.items; updating = c.self.inside.updating; batch = c.self.inside.batch } in
    let left : RunningNames → NameState = λ (x : RunningNames). closed (names_of x) c.args.id in
    let k : Committing left r c.args.self.now t c.args.op.now = record { same = c.self.view_is; may = c.requires.may; next = refl; asks = c.remove.ensures; updating = refl; batch = refl } in
    let said = c.commit.ensures.pending (c.in-Err-StoreFault.is ∙ ap Err c.in-Err-StoreFault.field-0-is) in (
      (write-failed left (g.D.Disk.state c.args.disk.now) (g.D.Disk.state c.commit.new.disk) r c.args.self.now t c.args.op.now k refl said.0 said.1
          (c.commit.ensures.cause (c.in-Err-StoreFault.is ∙ ap Err c.in-Err-StoreFault.field-0-is)) c.in-Err-StoreFault.ensures.log).1,
      c.self.invariant.1,
    )

pub returns-in-Err-StoreFault : goal.returns-in-Err-StoreFault
returns-in-Err-StoreFault g c =
    let r : RunningNames = record { store = c.self.inside.store; next = c.self.inside.next; asks = c.self.inside.asks; walks = c.self.inside.walks.items; updating = c.self.inside.updating; batch = c.self.inside.batch } in
    let t : RunningNames = record { store = c.commit.new.self; next = c.self.inside.next; asks = c.remove.new.self; walks = c.self.inside.walks.items; updating = c.self.inside.updating; batch = c.self.inside.batch } in
    let left : RunningNames → NameState = λ (x : RunningNames). closed (names_of x) c.args.id in
    let k : Committing left r c.args.self.now t c.args.op.now = record { same = c.self.view_is; may = c.requires.may; next = refl; asks = c.remove.ensures; updating = refl; batch = refl } in
    let said = c.commit.ensures.pending (c.in-Err-StoreFault.is ∙ ap Err c.in-Err-StoreFault.field-0-is) in
    (write-failed left (g.D.Disk.state c.args.disk.now) (g.D.Disk.state c.commit.new.disk) r c.args.self.now t c.args.op.now k refl said.0 said.1
    (c.commit.ensures.cause (c.in-Err-StoreFault.is ∙ ap Err c.in-Err-StoreFault.field-0-is)) c.in-Err-StoreFault.ensures.log).0

pub invariant_of-self-in-Ok : goal.invariant_of-self-in-Ok
invariant_of-self-in-Ok g c =
    let r : RunningNames = record { store = c.self.inside.store; next = c.self.inside.next; asks = c.self.inside.asks; walks = c.self.inside.walks.items; updating = c.self.inside.updating; batch = c.self.inside.batch } in
    let t : RunningNames = record { store = c.commit.new.self; next = c.self.inside.next; asks = c.remove-in-Ok.new.self; walks = c.retire_by.new.walks.items; updating = c.self.inside.updating; batch = c.self.inside.batch } in
    let left : RunningNames → NameState = λ (x : RunningNames). closed (names_of x) c.args.id in
    let k : Committing left r c.args.self.now t c.args.op.now = record { same = c.self.view_is; may = c.requires.may; next = refl; asks = c.remove-in-Ok.ensures; updating = refl; batch = refl } in (
      (write-done left (g.D.Disk.state c.args.disk.now) (g.D.Disk.state c.commit.new.disk) r c.args.self.now t c.args.op.now k c.retire_by.ensures c.in-Ok.ensures.done.0 c.in-Ok.ensures.done.1 c.in-Ok.ensures.log).1,
      subst WalksOnce (sym c.retire_by.ensures) (once-after c.self.inside.updating c.args.op.now c.self.inside.walks.items c.self.invariant.1),
    )

pub returns-in-Ok : goal.returns-in-Ok
returns-in-Ok g c =
    let r : RunningNames = record { store = c.self.inside.store; next = c.self.inside.next; asks = c.self.inside.asks; walks = c.self.inside.walks.items; updating = c.self.inside.updating; batch = c.self.inside.batch } in
    let t : RunningNames = record { store = c.commit.new.self; next = c.self.inside.next; asks = c.remove-in-Ok.new.self; walks = c.retire_by.new.walks.items; updating = c.self.inside.updating; batch = c.self.inside.batch } in
    let left : RunningNames → NameState = λ (x : RunningNames). closed (names_of x) c.args.id in
    let k : Committing left r c.args.self.now t c.args.op.now = record { same = c.self.view_is; may = c.requires.may; next = refl; asks = c.remove-in-Ok.ensures; updating = refl; batch = refl } in
    (write-done left (g.D.Disk.state c.args.disk.now) (g.D.Disk.state c.commit.new.disk) r c.args.self.now t c.args.op.now k c.retire_by.ensures c.in-Ok.ensures.done.0 c.in-Ok.ensures.done.1 c.in-Ok.ensures.log).0
