use Rattle.std.proofs.Common.{None, Some, sym}
use Rattle.key_index.proofs.Searches.{nothing}
use Rattle.key_images.proofs.KeyLemmas.{name_found}
use Rattle.key_images.proofs.keys.has_name.Goals as goal

pub returns-in-None : goal.returns-in-None
returns-in-None c = sym (name_found c.args.index.now.index.rows c.args.name.now None (c.in-None.ensures.found nothing))

pub returns-in-Some : goal.returns-in-Some
returns-in-Some c = sym (name_found c.args.index.now.index.rows c.args.name.now (Some c.in-Some.field-0) (c.in-Some.ensures.found nothing))
