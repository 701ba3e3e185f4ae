use Rattle.std.proofs.Common.{◌≡◌, ◌∙◌, ◌+◌, ◌++◌, ◌<◌, ◌∷◌, ℕ, List, [], ap, arith, get_or, length, refl, set, subst, sym, take, take_all}
use Rattle.std.proofs.lemmas.List.{length-set, take-set-le, take-take}
use Rattle.inode_tree.specs.Rows.{Entry}
use Rattle.edit_ops.specs.Records.{list_field}
use Rattle.frozen_nodes.specs.Forest.{node_at}
use Rattle.image_parts.specs.Parts.{KeepsPart}
use Rattle.name_images.specs.Fields.{row_field}
use Rattle.name_images.specs.Walks.{names_in, rows_led}
use Rattle.name_images.proofs.Led.{AreRuled, bytes-more, first_rows, kid-of, names-more, ruled-own, rows-whole}
use Rattle.name_images.proofs.nodes.+put_below.Goals as goal

pub put_row-told-requires-clause-rule : goal.put_row-told-requires-clause-rule
put_row-told-requires-clause-rule t c = ruled-own c.args.forest.now.nodes (names_in c.args.forest.now.nodes (take c.args.depth c.args.path.now)) c.args.n c.invariants.ensures c.requires.node c.requires.ruled

pub bounds-path-depth : goal.bounds-path-depth
bounds-path-depth t c =
    let kid = kid-of c.args.forest.now.nodes c.args.path.now c.args.depth c.args.n c.kids-kids.result.now c.loop-kid.kid-index c.invariants.ensures c.requires.node c.requires.room c.requires.depth c.requires.ruled c.kids-kids.ensures.kids c.loop-kid-test.true in
    omega (arith, c.loop-kid.invariant.room, kid.room)

pub put_below-next-requires : goal.put_below-next-requires
put_below-next-requires t c =
    let ns = c.args.forest.now.nodes in
    let k = get_or c.kids-kids.result.now c.loop-kid.kid-index 0 in
    let kid = kid-of ns c.args.path.now c.args.depth c.args.n c.kids-kids.result.now c.loop-kid.kid-index c.invariants.ensures c.requires.node c.requires.room c.requires.depth c.requires.ruled c.kids-kids.ensures.kids c.loop-kid-test.true in
    let below : k < c.args.n = kid.below in
    let names = names-more ns c.loop-kid.path c.args.depth k (omega (arith, c.loop-kid.invariant.room, kid.room))
    ∙ ap (λ (ks : List ℕ). names_in ns ks ++ (node_at ns k).name ∷ []) c.loop-kid.invariant.path in (
      omega (arith, below),
      (
        omega (arith, below, c.requires.node),
        (
          length-set c.loop-kid.path c.args.depth k ∙ c.loop-kid.invariant.room,
          (
            omega (arith, kid.room),
            subst (λ (p : List (List ℕ)). AreRuled (rows_led ns p k)) (sym names) kid.ruled,
          ),
        ),
      ),
    )

pub loop-kid-preserved : goal.loop-kid-preserved
loop-kid-preserved t c =
    let ns = c.args.forest.now.nodes in
    let depth = c.args.depth in
    let k = get_or c.kids-kids.result.now c.loop-kid.kid-index 0 in
    let kid = kid-of ns c.args.path.now depth c.args.n c.kids-kids.result.now c.loop-kid.kid-index c.invariants.ensures c.requires.node c.requires.room c.requires.depth c.requires.ruled c.kids-kids.ensures.kids c.loop-kid-test.true in
    let p = names_in ns (take depth c.args.path.now) in
    let names = names-more ns c.loop-kid.path depth k (omega (arith, c.loop-kid.invariant.room, kid.room))
    ∙ ap (λ (ks : List ℕ). names_in ns ks ++ (node_at ns k).name ∷ []) c.loop-kid.invariant.path in
    record {
      long = c.put_below-next.ensures.length ∙ c.loop-kid.invariant.long;
      room = c.put_below-next.ensures.room;
      path = sym (take-take depth (depth + 1) c.put_below-next.new.path (omega arith))
          ∙ ap (take depth) c.put_below-next.ensures.path
          ∙ take-take depth (depth + 1) (set c.loop-kid.path depth k) (omega arith)
          ∙ take-set-le depth c.loop-kid.path depth k (omega arith)
          ∙ c.loop-kid.invariant.path;
      held = λ all t.
          subst (λ (l : List ℕ). KeepsPart c.args.at c.put_below-next.result l c.put_below-next.new.buf)
          (ap (λ (q : List (List ℕ)). (all ++ list_field row_field (first_rows ns p c.args.n (take c.loop-kid.kid-index (node_at ns c.args.n).kids))) ++ list_field row_field (rows_led ns q k)) names
          ∙ bytes-more ns p c.args.n (node_at ns c.args.n).kids c.loop-kid.kid-index k (node_at ns k).name all kid.within kid.is refl)
          (c.put_below-next.ensures.told _ (c.loop-kid.invariant.held all t));
    }

pub returns-clause-told : goal.returns-clause-told
returns-clause-told t c = λ all h.
    let ns = c.args.forest.now.nodes in
    let p = names_in ns (take c.args.depth c.args.path.now) in
    let kids = (node_at ns c.args.n).kids in
    let same : length c.kids-kids.result.now ≡ length kids = ap length c.kids-kids.ensures.kids in
    subst (λ (es : List Entry). KeepsPart c.args.at c.loop-kid.told (all ++ list_field row_field es) c.loop-kid.buf)
    (ap (first_rows ns p c.args.n) (take_all c.loop-kid.kid-index kids (let le = c.loop-kid-test.false in omega (arith, le, same))) ∙ sym (rows-whole ns p c.args.n c.invariants.ensures c.requires.node))
    (c.loop-kid.invariant.held all h)
