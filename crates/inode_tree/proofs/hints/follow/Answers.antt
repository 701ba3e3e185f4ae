use Rattle.std.proofs.Common.{sym, subst}
use Rattle.inode_tree.specs.Arena.{IsLive}
use Rattle.inode_tree.proofs.Insides.{at-most-of, below-upto, within-upto}
use Rattle.inode_tree.proofs.hints.follow.Goals as goal

pub expected-start-requires-clause-upto : goal.expected-start-requires-clause-upto
expected-start-requires-clause-upto c = c.requires.upto

pub names-init : goal.names-init
names-init c = record { upto = c.expected-start.ensures.upto; live = c.expected-start.ensures.live; path = c.expected-start.ensures.near.path }

pub name-requires : goal.name-requires
name-requires c = below-upto _ _ _ c.names-test.true c.requires.upto

pub near_at-requires-clause-live : goal.near_at-requires-clause-live
near_at-requires-clause-live c = c.names.invariant.live

pub near_at-requires-clause-path : goal.near_at-requires-clause-path
near_at-requires-clause-path c = c.names.invariant.path

pub near_at-requires-clause-depth : goal.near_at-requires-clause-depth
near_at-requires-clause-depth c = within-upto _ _ _ c.names.invariant.upto c.requires.upto

pub near_at-requires-2-clause-live : goal.near_at-requires-2-clause-live
near_at-requires-2-clause-live c = c.names.invariant.live

pub near_at-requires-2-clause-path : goal.near_at-requires-2-clause-path
near_at-requires-2-clause-path c = c.names.invariant.path

pub near_at-requires-2-clause-depth : goal.near_at-requires-2-clause-depth
near_at-requires-2-clause-depth c = within-upto _ _ _ c.names.invariant.upto c.requires.upto

pub returns-clause-near : goal.returns-clause-near
returns-clause-near c = c.near_at-2.ensures.near

pub returns-clause-live : goal.returns-clause-live
returns-clause-live c = subst (IsLive c.args.order.now.items) (sym c.near_at-2.ensures.node) c.names.invariant.live

pub returns-clause-upto : goal.returns-clause-upto
returns-clause-upto c = at-most-of _ _ _ c.near_at-2.ensures.depth c.names.invariant.upto

pub returns-in-None-clause-near : goal.returns-in-None-clause-near
returns-in-None-clause-near c = c.near_at.ensures.near

pub returns-in-None-clause-live : goal.returns-in-None-clause-live
returns-in-None-clause-live c = subst (IsLive c.args.order.now.items) (sym c.near_at.ensures.node) c.names.invariant.live

pub returns-in-None-clause-upto : goal.returns-in-None-clause-upto
returns-in-None-clause-upto c = at-most-of _ _ _ c.near_at.ensures.depth c.names.invariant.upto
