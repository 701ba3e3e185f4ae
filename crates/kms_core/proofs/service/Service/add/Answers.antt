use Rattle.std.proofs.Common.{rules, ◌≡◌, ◌*◌, ◌^◌, ◌+◌, ℕ, ◌<◌, true, false, Option, None, Some, Err, refl, sym, ap, ◌∙◌, subst}
use Rattle.key_rows.specs.declared.rows.KeyCommand.{KeyCommand}
use Rattle.key_rows.specs.declared.rows.KeyCommand.TheVariants.{Create}
use Rattle.key_rows.specs.Table.{applies}
use Rattle.kms_core.specs.State.{Keeps, Running, keys_of, service_of}
use Rattle.kms_core.specs.Calls.{created, is_full}
use Rattle.kms_core.specs.Steps.{Commits}
use Rattle.kms_core.proofs.KeepLemmas.{keeps_created, keeps_is, keeps_lost, room_for}
use Rattle.kms_core.proofs.ServiceLemmas.{Committed, IsDeedOf, commit_done, commit_failed, commit_wanting}
use Rattle.kms_core.proofs.service.Service.add.Goals as goal

pub returns-in-Err-NoMemory : goal.returns-in-Err-NoMemory
returns-in-Err-NoMemory g c =
    let D0 = g.D.Disk.state c.args.disk.now in
    let D1 = g.D.Disk.state c.commit.new.disk in
    let r : Running = record { store = c.self.inside.store; next = c.self.inside.next; ready = c.self.inside.queues } in
    let t : Running = record { store = c.commit.new.self; next = c.self.inside.next; ready = c.self.inside.queues } in
    subst (λ (x : Running). Commits D0 D1 x (created (keys_of x) c.args.now c.args.name c.args.bits c.args.description c.args.material 0) _ t) c.self.view_is
    (commit_wanting D0 D1 r t _ _ refl refl refl (c.commit.ensures.memory (c.in-Err-NoMemory.is ∙ ap Err c.in-Err-NoMemory.field-0-is)).0 (c.commit.ensures.memory (c.in-Err-NoMemory.is ∙ ap Err c.in-Err-NoMemory.field-0-is)).2 (ap g.D.Disk.state (c.commit.ensures.memory (c.in-Err-NoMemory.is ∙ ap Err c.in-Err-NoMemory.field-0-is)).3) (c.in-Err-NoMemory.ensures.refused))

pub returns-in-Err-StoreFault : goal.returns-in-Err-StoreFault
returns-in-Err-StoreFault g c =
    let D0 = g.D.Disk.state c.args.disk.now in
    let D1 = g.D.Disk.state c.commit.new.disk in
    let r : Running = record { store = c.self.inside.store; next = c.self.inside.next; ready = c.self.inside.queues } in
    let t : Running = record { store = c.commit.new.self; next = c.self.inside.next + 1; ready = c.self.inside.queues } in
    let birth : ℕ = c.opening.result * 2 ^ 32 + c.self.inside.next in
    let command : KeyCommand = Create birth c.args.name c.args.bits c.args.description c.args.now c.args.material in
    let of_deed : IsDeedOf r (created (keys_of r) c.args.now c.args.name c.args.bits c.args.description c.args.material 0) command =
    record { logs = ap (λ (n : ℕ). Some (Create (n * 2 ^ 32 + c.self.inside.next) c.args.name c.args.bits c.args.description c.args.now c.args.material)) (sym c.opening.ensures.opening); same_table = refl; acknowledges = refl } in
    let may : applies c.self.inside.store.table.keys command ≡ true = search rules in
    let k : Committed D0 D1 c.self.inside.store command = record { may = may; moments = c.commit.ensures.any_moment; run = c.commit.ensures.run } in
    subst (λ (x : Running). Commits D0 D1 x (created (keys_of x) c.args.now c.args.name c.args.bits c.args.description c.args.material 0) _ t) c.self.view_is
    (commit_failed D0 D1 r t _ command _ of_deed refl refl refl (c.commit.ensures.pending (c.in-Err-StoreFault.is ∙ ap Err c.in-Err-StoreFault.field-0-is)).0 (c.commit.ensures.pending (c.in-Err-StoreFault.is ∙ ap Err c.in-Err-StoreFault.field-0-is)).1 (c.commit.ensures.cause (c.in-Err-StoreFault.is ∙ ap Err c.in-Err-StoreFault.field-0-is)) k (c.in-Err-StoreFault.ensures.refused))

pub returns-in-Ok : goal.returns-in-Ok
returns-in-Ok g c =
    let D0 = g.D.Disk.state c.args.disk.now in
    let D1 = g.D.Disk.state c.commit.new.disk in
    let r : Running = record { store = c.self.inside.store; next = c.self.inside.next; ready = c.self.inside.queues } in
    let t : Running = record { store = c.commit.new.self; next = c.self.inside.next + 1; ready = c.self.inside.queues } in
    let birth : ℕ = c.opening.result * 2 ^ 32 + c.self.inside.next in
    let command : KeyCommand = Create birth c.args.name c.args.bits c.args.description c.args.now c.args.material in
    let of_deed : IsDeedOf r (created (keys_of r) c.args.now c.args.name c.args.bits c.args.description c.args.material 0) command =
    record { logs = ap (λ (n : ℕ). Some (Create (n * 2 ^ 32 + c.self.inside.next) c.args.name c.args.bits c.args.description c.args.now c.args.material)) (sym c.opening.ensures.opening); same_table = refl; acknowledges = refl } in
    let may : applies c.self.inside.store.table.keys command ≡ true = search rules in
    let k : Committed D0 D1 c.self.inside.store command = record { may = may; moments = c.commit.ensures.any_moment; run = c.commit.ensures.run } in
    subst (λ (x : Running). Commits D0 D1 x (created (keys_of x) c.args.now c.args.name c.args.bits c.args.description c.args.material 0) c.version_with_material.result t) c.self.view_is
    (commit_done D0 D1 r t _ command c.version_with_material.result of_deed refl refl c.version_with_material.ensures c.in-Ok.ensures.table.0 c.in-Ok.ensures.table.1 k c.in-Ok.ensures.committed)

pub invariant_of-self-in-Ok : goal.invariant_of-self-in-Ok
invariant_of-self-in-Ok g c =
    let D0 = g.D.Disk.state c.args.disk.now in
    let D1 = g.D.Disk.state c.commit.new.disk in
    let r : Running = record { store = c.self.inside.store; next = c.self.inside.next; ready = c.self.inside.queues } in
    let t : Running = record { store = c.commit.new.self; next = c.self.inside.next + 1; ready = c.self.inside.queues } in
    let none : c.self.inside.store.pending ≡ None = ap (λ (x : Running). x.store.pending) c.self.view_is ∙ c.requires.settled in
    let before : Keeps (record { keys = keys_of r; pending = None }) = subst (λ (o : Option KeyCommand). Keeps (record { keys = keys_of r; pending = o })) none c.self.invariant in
    let birth : ℕ = c.opening.result * 2 ^ 32 + c.self.inside.next in
    let birth_is : birth ≡ c.self.inside.store.table.keys.opening * 2 ^ 32 + c.self.inside.next = ap (λ (n : ℕ). n * 2 ^ 32 + c.self.inside.next) c.opening.ensures.opening in
    let room : c.self.inside.next < 2 ^ 32 = room_for (keys_of r) (subst (λ (x : Running). is_full (keys_of x) ≡ false) (sym c.self.view_is) c.requires.room) in
    keeps_is _ (service_of t) (λ i. record { keys = record { table = c.in-Ok.ensures.table.0 i; next = t.next; ready = r.ready }; pending = c.in-Ok.ensures.table.1 i })
    (keeps_created (keys_of r) birth c.args.name c.args.bits c.args.description c.args.now c.args.material birth_is room before)

pub invariant_of-self-in-Err-StoreFault : goal.invariant_of-self-in-Err-StoreFault
invariant_of-self-in-Err-StoreFault g c =
    let D0 = g.D.Disk.state c.args.disk.now in
    let D1 = g.D.Disk.state c.commit.new.disk in
    let r : Running = record { store = c.self.inside.store; next = c.self.inside.next; ready = c.self.inside.queues } in
    let t : Running = record { store = c.commit.new.self; next = c.self.inside.next + 1; ready = c.self.inside.queues } in
    let none : c.self.inside.store.pending ≡ None = ap (λ (x : Running). x.store.pending) c.self.view_is ∙ c.requires.settled in
    let before : Keeps (record { keys = keys_of r; pending = None }) = subst (λ (o : Option KeyCommand). Keeps (record { keys = keys_of r; pending = o })) none c.self.invariant in
    let birth : ℕ = c.opening.result * 2 ^ 32 + c.self.inside.next in
    let birth_is : birth ≡ c.self.inside.store.table.keys.opening * 2 ^ 32 + c.self.inside.next = ap (λ (n : ℕ). n * 2 ^ 32 + c.self.inside.next) c.opening.ensures.opening in
    let room : c.self.inside.next < 2 ^ 32 = room_for (keys_of r) (subst (λ (x : Running). is_full (keys_of x) ≡ false) (sym c.self.view_is) c.requires.room) in
    keeps_is _ (service_of t) (λ i. record { keys = record { table = (c.commit.ensures.pending (c.in-Err-StoreFault.is ∙ ap Err c.in-Err-StoreFault.field-0-is)).0 i; next = t.next; ready = r.ready }; pending = (c.commit.ensures.pending (c.in-Err-StoreFault.is ∙ ap Err c.in-Err-StoreFault.field-0-is)).1 i })
    (keeps_lost (keys_of r) birth c.args.name c.args.bits c.args.description c.args.now c.args.material birth_is room before)

pub invariant_of-self : goal.invariant_of-self
invariant_of-self g c =
    let D0 = g.D.Disk.state c.args.disk.now in
    let D1 = g.D.Disk.state c.commit.new.disk in
    let r : Running = record { store = c.self.inside.store; next = c.self.inside.next; ready = c.self.inside.queues } in
    let t : Running = record { store = c.commit.new.self; next = c.self.inside.next; ready = c.self.inside.queues } in
    let none : c.self.inside.store.pending ≡ None = ap (λ (x : Running). x.store.pending) c.self.view_is ∙ c.requires.settled in
    let before : Keeps (record { keys = keys_of r; pending = None }) = subst (λ (o : Option KeyCommand). Keeps (record { keys = keys_of r; pending = o })) none c.self.invariant in
    keeps_is _ (service_of t) (λ i. record { keys = record { table = (c.commit.ensures.memory (c.in-Err-NoMemory.is ∙ ap Err c.in-Err-NoMemory.field-0-is)).0 i; next = r.next; ready = r.ready }; pending = (c.commit.ensures.memory (c.in-Err-NoMemory.is ∙ ap Err c.in-Err-NoMemory.field-0-is)).2 i }) before
