use Rattle.std.proofs.Common.{Some, ap, ◌∙◌, cond}
use Rattle.std.specs.Str.{bytes_eq}
use Rattle.kms_acls.specs.Lists.{lists_of_key}
use Rattle.kms_acls.proofs.NameLemmas.{by_name, put_at}
use Rattle.kms_acls.proofs.keys.Keys.put.Goals as goal

pub returns : goal.returns
returns c = λ other.
    ap (λ es. lists_of_key other (by_name (λ k. k.items) es)) c.in_ok-insert.ensures.entries
    ∙ put_at (λ k. k.items) c.in_ok-key.key c.args.lists c.self.inside.lists.entries other
    ∙ ap (λ name. cond (bytes_eq other name) (Some c.args.lists) (lists_of_key other (by_name (λ k. k.items) c.self.inside.lists.entries))) c.in_ok-key.ensures.items
    ∙ ap (λ keys. cond (bytes_eq other c.args.key.now) (Some c.args.lists) (lists_of_key other keys)) c.self.view_is
