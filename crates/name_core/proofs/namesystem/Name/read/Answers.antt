use Rattle.std.proofs.Common.{refl, subst}
use Rattle.std.specs.Prelude.{is_some, true}
use Rattle.name_calls.specs.declared.calls.NameCall.TheVariants.{Info, List, Status}
use Rattle.name_calls.specs.declared.calls.NameReply.TheVariants as reply
use Rattle.name_store.specs.Causes.{zone_root_causes}
use Rattle.name_core.specs.State.{RunningNames, names_of}
use Rattle.name_core.specs.Reads.{info_causes, info_reply, list_causes, list_reply, zone_read}
use Rattle.name_core.specs.Steps.{Answers}
use Rattle.name_core.specs.Walks.{status_shown_at}
use Rattle.name_core.proofs.CallLemmas.{read-acts}
use Rattle.name_core.proofs.namesystem.Name.read.Goals as goal

pub returns-in-Info : goal.returns-in-Info
returns-in-Info c =
    let r = c.in-Info.path in
    rw c.in-Info.is
    (read-acts (names_of c.args.self.now) (Info r) (info_reply c.args.self.now.store.table r) c.info.result refl
    (subst (λ (n : RunningNames). Answers (is_some (zone_read n.store.table r)) (info_causes n.store.table r) (info_reply n.store.table r) c.info.result) c.self.view_is c.info.ensures))

pub returns-in-List : goal.returns-in-List
returns-in-List c =
    let r = c.in-List.path in
    rw c.in-List.is
    (read-acts (names_of c.args.self.now) (List r) (list_reply c.args.self.now.store.table r) c.list.result refl
    (subst (λ (n : RunningNames). Answers true (list_causes n.store.table r) (list_reply n.store.table r) c.list.result) c.self.view_is c.list.ensures))

pub returns-in-Status : goal.returns-in-Status
returns-in-Status c =
    let p = c.in-Status.path in
    rw c.in-Status.is
    (read-acts (names_of c.args.self.now) (Status p) (reply.Status (status_shown_at c.args.self.now.store.table c.args.self.now.walks p)) c.status.result refl
    (subst (λ (n : RunningNames). Answers true (zone_root_causes n.store.table.rows p) (reply.Status (status_shown_at n.store.table n.walks p)) c.status.result) c.self.view_is c.status.ensures))
