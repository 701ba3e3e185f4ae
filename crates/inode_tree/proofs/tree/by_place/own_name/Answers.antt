use Rattle.std.proofs.Common.{◌∙◌, ap, sym}
use Rattle.std.specs.Prelude.{ℕ}
use Rattle.name_calls.specs.Paths.{last_name}
use Rattle.inode_tree.specs.Arena.{node_at, path_of}
use Rattle.inode_tree.specs.declared.rows.Link.{Link}
use Rattle.inode_tree.proofs.Lasts.{last-joined}
use Rattle.inode_tree.proofs.Ups.{path-root}
use Rattle.inode_tree.proofs.tree.by_place.own_name.Goals as goal

pub returns-then-n-eq0 : goal.returns-then-n-eq0
returns-then-n-eq0 c = sym (ap (λ (n : ℕ). last_name (path_of c.args.nodes.now.items n)) c.if-n-eq0.true ∙ ap last_name (path-root c.args.nodes.now.items))

pub returns : goal.returns
returns c =
    c.as_bytes.ensures.bytes ∙ ap (λ (l : Link). l.name) c.link.ensures
    ∙ sym (ap last_name (c.requires.linked.step c.args.n c.requires.live c.if-n-eq0.false) ∙ last-joined (path_of c.args.nodes.now.items (node_at c.args.nodes.now.items c.args.n).parent) (node_at c.args.nodes.now.items c.args.n).name)
