use Rattle.std.proofs.Common.{◌≡◌, List, Option, subst}
use Rattle.std.specs.Prelude.{IfOk}
use Rattle.name_calls.specs.declared.listing.Child.{Child}
use Rattle.frozen_nodes.proofs.Walks.{list-none, list-some}
use Rattle.frozen_nodes.proofs.forest.Forest.list.Goals as goal

pub returns-in-Some : goal.returns-in-Some
returns-in-Some c = subst (λ (l : Option (List Child)). IfOk c.list_of.result (λ list. list ≡ l)) (list-some c.args.self.now.nodes c.invariants.ensures c.args.root c.requires c.args.path.now c.in-Some.n c.in-Some.ensures.node) c.list_of.ensures

pub returns-in-None : goal.returns-in-None
returns-in-None c = list-none c.args.self.now.nodes c.invariants.ensures c.args.root c.requires c.args.path.now c.in-None.ensures.node
