use Rattle.std.proofs.Common.{arith, ◌≡◌, ◌∙◌, ◌+◌, ◌-◌, length, ap, sym}
use Rattle.inode_tree.proofs.Lasts.{last-name}
use Rattle.inode_tree.proofs.tree.last_len.Goals as goal

pub returns : goal.returns
returns c =
    let e : length c.args.path.now ≡ c.len-len.result - 1 + 1 = let l = c.len-len.ensures.len in let f = c.if-len-eq0.false in omega arith in
    ap length (c.as_str.ensures ∙ c.name.ensures ∙ sym (last-name c.args.path.now (c.len-len.result - 1) e))
