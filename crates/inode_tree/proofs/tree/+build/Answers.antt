use Rattle.std.proofs.Common.{◌∙◌, ap, sym, arith}
use Rattle.name_calls.specs.Paths.{is_relative}
use Rattle.name_calls.proofs.PathLemmas.{relative-front}
use Rattle.inode_tree.specs.Arena.{path_of}
use Rattle.inode_tree.proofs.Ups.{path-root, step-from, below-from, full-from}
use Rattle.inode_tree.proofs.tree.+build.Goals as goal

pub returns-then-n-eq0 : goal.returns-then-n-eq0
returns-then-n-eq0 t c = c.root.ensures ∙ sym (path-root c.args.nodes.now.items) ∙ ap (path_of c.args.nodes.now.items) (sym c.if-n-eq0.true)

pub build-requires : goal.build-requires
build-requires t c =
    let step = step-from c.args.nodes.now.items c.requires.linked c.args.n c.link-link.result.now c.requires.live c.if-n-eq0.false c.link-link.ensures in (
      omega arith,
      (
        c.requires.linked,
        (
          below-from c.args.nodes.now.items c.requires.linked c.args.n c.link-link.result.now c.requires.live c.link-link.ensures,
          relative-front (path_of c.args.nodes.now.items c.link-link.result.now.parent) c.link-link.result.now.name
              (ap is_relative (sym (full-from c.args.nodes.now.items c.requires.linked c.args.n c.link-link.result.now c.requires.live c.if-n-eq0.false c.link-link.ensures)) ∙ c.requires.rule),
        ),
      ),
    )
