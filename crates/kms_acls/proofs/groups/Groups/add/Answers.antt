use Rattle.std.proofs.Common.{Some, ap, sym, ◌∙◌, cond, is_some}
use Rattle.std.specs.Str.{bytes_eq}
use Rattle.kms_acls.specs.Lists.{users_of}
use Rattle.kms_acls.proofs.NameLemmas.{by_name, look, put_at}
use Rattle.kms_acls.proofs.KeyLemmas.{group_is_new, group_is_there}
use Rattle.kms_acls.proofs.groups.Groups.add.Goals as goal

pub returns-then-contains_key : goal.returns-then-contains_key
returns-then-contains_key c =
    let same = c.contains_key.ensures ∙ ap is_some (look (λ k. k.items) c.args.group.now c.self.inside.users.entries ∙ ap (users_of c.args.group.now) c.self.view_is) in
    group_is_there c.args.self.now c.args.group.now c.args.users (sym same ∙ c.if-contains_key.true)

pub returns : goal.returns
returns c = λ other.
    let same = c.contains_key.ensures ∙ ap is_some (look (λ k. k.items) c.args.group.now c.self.inside.users.entries ∙ ap (users_of c.args.group.now) c.self.view_is) in
    ap (λ es. users_of other (by_name (λ k. k.items) es)) c.in_ok-insert.ensures.entries
    ∙ put_at (λ k. k.items) c.in_ok-group.group c.args.users c.self.inside.users.entries other
    ∙ ap (λ name. cond (bytes_eq other name) (Some c.args.users) (users_of other (by_name (λ k. k.items) c.self.inside.users.entries))) c.in_ok-group.ensures.items
    ∙ ap (λ groups. cond (bytes_eq other c.args.group.now) (Some c.args.users) (users_of other groups)) c.self.view_is
    ∙ group_is_new c.args.self.now c.args.group.now c.args.users (sym same ∙ c.if-contains_key.false) other
