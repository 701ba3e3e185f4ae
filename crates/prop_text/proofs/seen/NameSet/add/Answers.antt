use Rattle.std.proofs.Common.{◌||◌, not, ◌∙◌, ap, map}
use Rattle.std.specs.Str.{bytes_eq}
use Rattle.prop_text.specs.Properties.{is_among}
use Rattle.prop_text.proofs.SeenLemmas.{has_bytes, put_bytes}
use Rattle.prop_text.proofs.seen.NameSet.add.Goals as goal

pub returns-clause-new : goal.returns-clause-new
returns-clause-new c =
    let has = has_bytes (λ k. k.items) c.in_ok-name.name.items c.self.inside.names.keys in
    c.in_ok-new.ensures.added ∙ ap not (has ∙ ap (λ name. is_among name (map (λ k. k.items) c.self.inside.names.keys)) c.in_ok-name.ensures.items ∙ ap (is_among c.args.name.now) c.self.view_is)

pub returns-clause-added : goal.returns-clause-added
returns-clause-added c = λ other.
    ap (λ keys. is_among other (map (λ k. k.items) keys)) c.in_ok-new.ensures.keys
    ∙ put_bytes (λ k. k.items) c.in_ok-name.name c.self.inside.names.keys other
    ∙ ap (λ name. bytes_eq other name || is_among other (map (λ k. k.items) c.self.inside.names.keys)) c.in_ok-name.ensures.items
    ∙ ap (λ names. bytes_eq other c.args.name.now || is_among other names) c.self.view_is
