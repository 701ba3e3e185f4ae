use Rattle.std.proofs.Common.{rules, ◌≡◌, true, Option, None, Err, refl, ap, ◌∙◌, subst}
use Rattle.key_rows.specs.declared.rows.KeyCommand.{KeyCommand}
use Rattle.key_rows.specs.declared.rows.KeyCommand.TheVariants.{Delete}
use Rattle.key_rows.specs.Table.{applies}
use Rattle.kms_core.specs.State.{Keeps, Running, keys_of, service_of}
use Rattle.kms_core.specs.Calls.{deleted}
use Rattle.kms_core.specs.Steps.{Commits}
use Rattle.kms_core.proofs.KeepLemmas.{keeps_deleted, keeps_is, keeps_undeleted}
use Rattle.kms_core.proofs.ServiceLemmas.{Committed, IsDeedOf, commit_done, commit_failed, commit_wanting}
use Rattle.kms_core.proofs.service.Service.remove.Goals as goal

pub returns-in-Err-NoMemory : goal.returns-in-Err-NoMemory
returns-in-Err-NoMemory g c =
    let D0 = g.D.Disk.state c.args.disk.now in
    let D1 = g.D.Disk.state c.commit.new.disk in
    let r : Running = record { store = c.self.inside.store; next = c.self.inside.next; ready = c.self.inside.queues } in
    let t : Running = record { store = c.commit.new.self; next = c.self.inside.next; ready = c.self.inside.queues } in
    subst (λ (x : Running). Commits D0 D1 x (deleted (keys_of x) c.args.birth) _ t) c.self.view_is
    (commit_wanting D0 D1 r t _ _ refl refl refl (c.commit.ensures.memory (c.in-Err-NoMemory.is ∙ ap Err c.in-Err-NoMemory.field-0-is)).0 (c.commit.ensures.memory (c.in-Err-NoMemory.is ∙ ap Err c.in-Err-NoMemory.field-0-is)).2 (ap g.D.Disk.state (c.commit.ensures.memory (c.in-Err-NoMemory.is ∙ ap Err c.in-Err-NoMemory.field-0-is)).3) c.in-Err-NoMemory.ensures.refused)

pub returns-in-Err-StoreFault : goal.returns-in-Err-StoreFault
returns-in-Err-StoreFault g c =
    let D0 = g.D.Disk.state c.args.disk.now in
    let D1 = g.D.Disk.state c.commit.new.disk in
    let r : Running = record { store = c.self.inside.store; next = c.self.inside.next; ready = c.self.inside.queues } in
    let t : Running = record { store = c.commit.new.self; next = c.self.inside.next; ready = c.self.inside.queues } in
    let command : KeyCommand = Delete c.args.birth in
    let of_deed : IsDeedOf r (deleted (keys_of r) c.args.birth) command = record { logs = refl; same_table = refl; acknowledges = refl } in
    let may : applies c.self.inside.store.table.keys command ≡ true = search rules in
    let k : Committed D0 D1 c.self.inside.store command = record { may = may; moments = c.commit.ensures.any_moment; run = c.commit.ensures.run } in
    subst (λ (x : Running). Commits D0 D1 x (deleted (keys_of x) c.args.birth) _ t) c.self.view_is
    (commit_failed D0 D1 r t _ command _ of_deed refl refl refl (c.commit.ensures.pending (c.in-Err-StoreFault.is ∙ ap Err c.in-Err-StoreFault.field-0-is)).0 (c.commit.ensures.pending (c.in-Err-StoreFault.is ∙ ap Err c.in-Err-StoreFault.field-0-is)).1 (c.commit.ensures.cause (c.in-Err-StoreFault.is ∙ ap Err c.in-Err-StoreFault.field-0-is)) k c.in-Err-StoreFault.ensures.refused)

pub returns-in-Ok : goal.returns-in-Ok
returns-in-Ok g c =
    let D0 = g.D.Disk.state c.args.disk.now in
    let D1 = g.D.Disk.state c.commit.new.disk in
    let r : Running = record { store = c.self.inside.store; next = c.self.inside.next; ready = c.self.inside.queues } in
    let t : Running = record { store = c.commit.new.self; next = c.self.inside.next; ready = c.drop_queue.new.self } in
    let command : KeyCommand = Delete c.args.birth in
    let of_deed : IsDeedOf r (deleted (keys_of r) c.args.birth) command = record { logs = refl; same_table = refl; acknowledges = refl } in
    let may : applies c.self.inside.store.table.keys command ≡ true = search rules in
    let k : Committed D0 D1 c.self.inside.store command = record { may = may; moments = c.commit.ensures.any_moment; run = c.commit.ensures.run } in
    subst (λ (x : Running). Commits D0 D1 x (deleted (keys_of x) c.args.birth) _ t) c.self.view_is
    (commit_done D0 D1 r t _ command _ of_deed refl c.drop_queue.ensures refl c.in-Ok.ensures.table.0 c.in-Ok.ensures.table.1 k c.in-Ok.ensures.committed)

pub invariant_of-self-in-Ok : goal.invariant_of-self-in-Ok
invariant_of-self-in-Ok g c =
    let D0 = g.D.Disk.state c.args.disk.now in
    let D1 = g.D.Disk.state c.commit.new.disk in
    let r : Running = record { store = c.self.inside.store; next = c.self.inside.next; ready = c.self.inside.queues } in
    let t : Running = record { store = c.commit.new.self; next = c.self.inside.next; ready = c.drop_queue.new.self } in
    let none : c.self.inside.store.pending ≡ None = ap (λ (x : Running). x.store.pending) c.self.view_is ∙ c.requires.settled in
    let before : Keeps (record { keys = keys_of r; pending = None }) = subst (λ (o : Option KeyCommand). Keeps (record { keys = keys_of r; pending = o })) none c.self.invariant in
    keeps_is _ (service_of t) (λ i. record { keys = record { table = c.in-Ok.ensures.table.0 i; next = r.next; ready = c.drop_queue.ensures i }; pending = c.in-Ok.ensures.table.1 i }) (keeps_deleted (keys_of r) c.args.birth before)

pub invariant_of-self-in-Err-StoreFault : goal.invariant_of-self-in-Err-StoreFault
invariant_of-self-in-Err-StoreFault g c =
    let D0 = g.D.Disk.state c.args.disk.now in
    let D1 = g.D.Disk.state c.commit.new.disk in
    let r : Running = record { store = c.self.inside.store; next = c.self.inside.next; ready = c.self.inside.queues } in
    let t : Running = record { store = c.commit.new.self; next = c.self.inside.next; ready = c.self.inside.queues } in
    let none : c.self.inside.store.pending ≡ None = ap (λ (x : Running). x.store.pending) c.self.view_is ∙ c.requires.settled in
    let before : Keeps (record { keys = keys_of r; pending = None }) = subst (λ (o : Option KeyCommand). Keeps (record { keys = keys_of r; pending = o })) none c.self.invariant in
    keeps_is _ (service_of t) (λ i. record { keys = record { table = (c.commit.ensures.pending (c.in-Err-StoreFault.is ∙ ap Err c.in-Err-StoreFault.field-0-is)).0 i; next = r.next; ready = r.ready }; pending = (c.commit.ensures.pending (c.in-Err-StoreFault.is ∙ ap Err c.in-Err-StoreFault.field-0-is)).1 i }) (keeps_undeleted (keys_of r) c.args.birth before)

pub invariant_of-self : goal.invariant_of-self
invariant_of-self g c =
    let D0 = g.D.Disk.state c.args.disk.now in
    let D1 = g.D.Disk.state c.commit.new.disk in
    let r : Running = record { store = c.self.inside.store; next = c.self.inside.next; ready = c.self.inside.queues } in
    let t : Running = record { store = c.commit.new.self; next = c.self.inside.next; ready = c.self.inside.queues } in
    let none : c.self.inside.store.pending ≡ None = ap (λ (x : Running). x.store.pending) c.self.view_is ∙ c.requires.settled in
    let before : Keeps (record { keys = keys_of r; pending = None }) = subst (λ (o : Option KeyCommand). Keeps (record { keys = keys_of r; pending = o })) none c.self.invariant in
    keeps_is _ (service_of t) (λ i. record { keys = record { table = (c.commit.ensures.memory (c.in-Err-NoMemory.is ∙ ap Err c.in-Err-NoMemory.field-0-is)).0 i; next = r.next; ready = r.ready }; pending = (c.commit.ensures.memory (c.in-Err-NoMemory.is ∙ ap Err c.in-Err-NoMemory.field-0-is)).2 i }) before
