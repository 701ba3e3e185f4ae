use Rattle.std.proofs.Common.{ℕ, List, Option, sym, subst}
use Rattle.reenc_walk.specs.Steps.{IsStart}
use Rattle.reenc_walk.proofs.Starts.{starts-first}
use Rattle.reenc_walk.proofs.cursor.start_of.Goals as goal

pub returns-in-None : goal.returns-in-None
returns-in-None c = subst (λ (o : Option (List (List ℕ))). IsStart c.args.tree.now.rows c.args.dir.now o c.place.result) (sym c.in-None.is) (starts-first c.args.tree.now.rows c.args.dir.now c.place.result c.place.ensures)
