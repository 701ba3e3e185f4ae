use Rattle.std.proofs.Common.{◌≡◌, ◌∙◌, ◌++◌, true, ℕ, List, ap, append_assoc, subst, sym}
use Rattle.std.specs.List.{All}
use Rattle.key_rows.specs.Records.{text_field}
use Rattle.name_calls.specs.Paths.{is_relative}
use Rattle.snap_store.specs.Snapshots.{Snapshot}
use Rattle.frozen_nodes.specs.Forest.{rows_from}
use Rattle.image_parts.specs.Parts.{KeepsPart}
use Rattle.name_images.specs.Fields.{rows_field, snapshot_field}
use Rattle.name_images.specs.Walks.{no_snapshot}
use Rattle.name_images.proofs.Lists.{at-is}
use Rattle.name_images.proofs.snapshots.put_snapshot.Goals as goal

pub put_frozen_rows-requires-clause-ruled : goal.put_frozen_rows-requires-clause-ruled
put_frozen_rows-requires-clause-ruled c =
    subst (λ (s : Snapshot). All (λ e. is_relative e.path ≡ true) s.rows) (at-is c.args.snaps.now.table.taken c.args.index no_snapshot _ c.nth-snapshot.ensures.snapshot) (c.invariants.ensures.trees c.args.index no_snapshot c.requires).ruled

pub returns-clause-told : goal.returns-clause-told
returns-clause-told c = λ all t.
    let s = c.nth-snapshot.result in
    let rest = text_field s.name.now ++ rows_field (rows_from s.forest.now.nodes s.root) in
    subst (λ (x : Snapshot). KeepsPart c.args.at c.put_frozen_rows.result (all ++ snapshot_field x) c.put_frozen_rows.new.buf)
    (sym (at-is c.args.snaps.now.table.taken c.args.index no_snapshot _ c.nth-snapshot.ensures.snapshot))
    (subst (λ (l : List ℕ). KeepsPart c.args.at c.put_frozen_rows.result l c.put_frozen_rows.new.buf)
    (append_assoc (all ++ c.to_be_bytes.result) (text_field s.name.now) (rows_field (rows_from s.forest.now.nodes s.root)) ∙ append_assoc all c.to_be_bytes.result rest ∙ ap (λ (l : List ℕ). all ++ (l ++ rest)) c.to_be_bytes.ensures)
    (c.put_frozen_rows.ensures.told _ (c.put_name-named.ensures.told _ (c.put-placed.ensures.told _ t))))
