use Rattle.std.proofs.Common.{◌∙◌, ◌++◌, List, ℕ, Some, take, ap, sym}
use Rattle.name_calls.specs.Paths.{is_relative}
use Rattle.name_core.proofs.SnapshotZones.{zone-there}
use Rattle.name_core.proofs.reads.zone_in_snapshot.Goals as goal

pub joined-requires-clause-within : goal.joined-requires-clause-within
joined-requires-clause-within c =
    (zone-there c.args.store.now.table c.args.path.now c.args.part.now c.in-Some.count c.tree-tree.ensures.rules.table c.requires c.in-Some.ensures).within

pub joined-requires-clause-rule : goal.joined-requires-clause-rule
joined-requires-clause-rule c =
    ap (λ (p : List (List ℕ)). is_relative (p ++ take c.in-Some.count c.args.part.now.below)) c.in_ok-copy-in-Some.ensures
    ∙ (zone-there c.args.store.now.table c.args.path.now c.args.part.now c.in-Some.count c.tree-tree.ensures.rules.table c.requires c.in-Some.ensures).rule

pub returns-in_ok-zone-in-Some : goal.returns-in_ok-zone-in-Some
returns-in_ok-zone-in-Some c =
    ap Some (c.in_ok-zone-in-Some.ensures ∙ ap (λ (p : List (List ℕ)). p ++ take c.in-Some.count c.args.part.now.below) c.in_ok-copy-in-Some.ensures)
    ∙ sym (zone-there c.args.store.now.table c.args.path.now c.args.part.now c.in-Some.count c.tree-tree.ensures.rules.table c.requires c.in-Some.ensures).zone
