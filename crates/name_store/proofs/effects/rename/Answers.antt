use Rattle.name_store.proofs.CauseLemmas.{renamable}
use Rattle.name_store.proofs.effects.rename.Goals as goal

pub rename-requires : goal.rename-requires
rename-requires c = (renamable c.args.tree.now.rows c.requires.allowed.0 c.requires.allowed.1 c.args.path.now c.args.to.now c.requires.allowed.2).can
