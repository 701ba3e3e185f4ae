use Rattle.std.proofs.Common.{◌∙◌, sym}
use Rattle.snap_store.proofs.PathsOf.{entry-path, path-above, path-below}
use Rattle.snap_store.proofs.reserved.is_path_of.Goals as goal

pub returns-then-above : goal.returns-then-above
returns-then-above c = (
  (λ f. entry-path c.args.tree.now.rows c.args.dir c.args.path.now (sym c.at_or_above-above.ensures ∙ c.if-above.true) (sym c.at_or_below-below.ensures ∙ f)),
  (λ h. c.at_or_below-below.ensures ∙ path-below c.args.tree.now.rows c.args.dir c.args.path.now h),
)

pub returns-else-above : goal.returns-else-above
returns-else-above c = (
  (λ f. cc),
  (λ h. c.at_or_above-above.ensures ∙ path-above c.args.tree.now.rows c.args.dir c.args.path.now h),
)
