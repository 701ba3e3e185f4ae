use Rattle.std.proofs.Common.{◌≡◌, true, false, List, ℕ, Option, Some, None, sym, ap, ◌∙◌, subst}
use Rattle.std.specs.Prelude.{is_some}
use Rattle.name_calls.specs.Paths.{parent}
use Rattle.inode_tree.specs.declared.rows.Row.{Row}
use Rattle.inode_tree.specs.Below.{at_or_above}
use Rattle.inode_tree.specs.Moves.{CanMove, move_fits}
use Rattle.inode_tree.specs.Rows.{Entry, IsRows, is_dir, is_dir_at, row_at}
use Rattle.inode_tree.proofs.MovedLaws.{above-by-id}
use Rattle.names_tests.proofs.bench.rename.Goals as goal

none : (o : Option Row) → is_some o ≡ false → o ≡ None
none None h = cc
none (Some row) h = cc

-- what the questions tell
can-move : (rows : List Entry) (p q : List (List ℕ)) (row above : Row) → IsRows rows → row_at rows p ≡ Some row → is_some (row_at rows q) ≡ false → at_or_above rows row.id q ≡ false → move_fits rows p q ≡ true → row_at rows (parent q) ≡ Some above → is_dir above.kind ≡ true → CanMove rows p q
can-move rows p q row above is found free off fits directory dir = record {
  stands = ap is_some found;
  housed = ap is_dir_at directory ∙ dir;
  absent = none (row_at rows q) free;
  apart = sym (above-by-id rows p q row is found) ∙ off;
  fits = fits;
}

pub rename-requires : goal.rename-requires
rename-requires c =
    subst (λ (rows : List Entry). CanMove rows c.args.path.now c.args.to.now) (sym c.reserve_rename.ensures.same)
    (can-move c.args.tree.now.rows c.args.path.now c.args.to.now c.in-Some.row c.in-Some-find_parent.above c.rows.ensures.rules (sym c.find.ensures ∙ c.in-Some.is) (ap is_some (sym c.find-2.ensures) ∙ sym c.is_some.ensures ∙ c.if-is_some.false) (sym c.at_or_above.ensures ∙ c.if-at_or_above.false) (sym c.move_fits.ensures ∙ c.if-not-move_fits.false) (sym c.find_parent.ensures ∙ c.in-Some-find_parent.is) (sym c.is_dir.ensures ∙ c.if-not-is_dir.false))
