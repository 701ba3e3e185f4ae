use Rattle.std.proofs.Common.{◌∙◌, ap}
use Rattle.prop_text.specs.Properties.{is_among}
use Rattle.prop_text.proofs.SeenLemmas.{has_bytes}
use Rattle.prop_text.proofs.seen.NameSet.has.Goals as goal

pub returns : goal.returns
returns c = c.contains.ensures ∙ has_bytes (λ k. k.items) c.args.name.now c.self.inside.names.keys ∙ ap (is_among c.args.name.now) c.self.view_is
