use Rattle.snap_store.proofs.snaps.Snaps.zone_in.Goals as goal

pub zone_in-requires : goal.zone_in-requires
zone_in-requires c = c.in-Some.ensures.within _ c.self.invariant.rooted.below
