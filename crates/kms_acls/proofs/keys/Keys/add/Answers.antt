use Rattle.std.proofs.Common.{◌∷◌, ◌++◌, [], ap, ◌∙◌, cond, Some}
use Rattle.std.specs.Option.{unwrap_or}
use Rattle.std.specs.Str.{bytes_eq}
use Rattle.kms_acls.specs.Lists.{lists_of_key, no_lists}
use Rattle.kms_acls.proofs.KeyLemmas.{changed, op_list_added}
use Rattle.kms_acls.proofs.keys.Keys.add.Goals as goal

pub returns-clause-added : goal.returns-clause-added
returns-clause-added c =
    let old = unwrap_or (lists_of_key c.args.key.now c.args.self.now) no_lists in
    let by_op = c.in_ok-add.ensures ∙ ap (λ lists. lists.by_op ++ record { op = c.args.op; members = c.args.members } ∷ []) c.take-lists.ensures.taken in
    let all = ap (λ lists. lists.all) c.take-lists.ensures.taken in
    op_list_added c.args.self.now c.put.new.self c.args.key.now c.args.op c.args.members
    (changed c.args.self.now c.take-lists.new.self c.put.new.self c.args.key.now _ c.take-lists.ensures.others (λ k.
    c.in_ok-put.ensures k
    ∙ (λ i. cond (bytes_eq k c.args.key.now) (Some record { by_op = by_op i; all = all i }) (lists_of_key k c.take-lists.new.self))))
