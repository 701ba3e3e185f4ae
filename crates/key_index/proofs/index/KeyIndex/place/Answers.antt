use Rattle.std.proofs.Common.{ap, subst, sym, ◌∙◌, ℕ, Option, IfSome, is_some}
use Rattle.key_index.specs.Held.{IsMaterialAt}
use Rattle.key_index.specs.Index.{rows_of}
use Rattle.key_index.proofs.Lookups.{held_place, older_is}
use Rattle.key_index.proofs.index.KeyIndex.place.Goals as goal

pub returns-clause-older : goal.returns-clause-older
returns-clause-older c m = ap is_some c.older_place.ensures.place ∙ older_is m c.args.self.now.index.rows c.args.version.now c.older_place.ensures.sound.rows

pub returns-clause-held : goal.returns-clause-held
returns-clause-held c m file held =
    subst (λ (o : Option ℕ). IfSome o (IsMaterialAt (rows_of m c.args.self.now.index.rows) c.args.version.now file)) (sym c.older_place.ensures.place) (held_place m file c.args.self.now.index.rows c.args.version.now held)
