use Rattle.world_run.specs.World.{world_of}
use Rattle.place_trees.proofs.TreeLemmas.{places_are_trees}
use Rattle.place_trees.proofs.trees.recall_trees.Goals as goal

pub returns : goal.returns
returns c = places_are_trees (world_of c.args.world.now) c.fits.ensures.fits
