use Rattle.snap_store.proofs.snaps.Snaps.list.Goals as goal

pub list-requires : goal.list-requires
list-requires c = c.in-Some.ensures.within _ c.self.invariant.rooted.below
