use Rattle.std.proofs.Common.{◌∙◌, ◌++◌, ◌<◌, ℕ, List, ap, append_assoc, arith, get_or, length, subst, sym, take, take_all}
use Rattle.std.proofs.lemmas.List.{get_or_default}
use Rattle.snap_store.specs.Snapshots.{Snapshot}
use Rattle.edit_ops.specs.Records.{list_field}
use Rattle.image_parts.specs.Parts.{KeepsPart}
use Rattle.name_images.specs.Fields.{snapshot_field}
use Rattle.name_images.specs.Walks.{no_snapshot}
use Rattle.name_images.proofs.Lists.{fields-more}
use Rattle.name_images.proofs.snapshots.put_each_snapshot.Goals as goal

pub loop-index-preserved : goal.loop-index-preserved
loop-index-preserved c =
    let taken = c.args.snaps.now.table.taken in
    let k = c.loop-index.index in
    let within : k < length taken = (let lt = c.loop-index-test.true in let n = c.len-index-end.ensures in omega (arith, lt, n)) in
    record {
      long = c.put_snapshot-next.ensures.length ∙ c.loop-index.invariant.long;
      held = λ all t.
          subst (λ (l : List ℕ). KeepsPart c.args.at c.put_snapshot-next.result l c.put_snapshot-next.new.buf)
          (append_assoc all (list_field snapshot_field (take k taken)) (snapshot_field (get_or taken k no_snapshot))
          ∙ ap (λ (l : List ℕ). all ++ l) (sym (fields-more snapshot_field taken k (get_or taken k no_snapshot) within (get_or_default taken k no_snapshot (get_or taken k no_snapshot) within))))
          (c.put_snapshot-next.ensures.told _ (c.loop-index.invariant.held all t));
    }

pub returns-clause-told : goal.returns-clause-told
returns-clause-told c = λ all t.
    subst (λ (ss : List Snapshot). KeepsPart c.args.at c.loop-index.told (all ++ list_field snapshot_field ss) c.loop-index.buf)
    (take_all c.loop-index.index c.args.snaps.now.table.taken (let h = c.loop-index-test.false in let n = c.len-index-end.ensures in omega (arith, h, n)))
    (c.loop-index.invariant.held all t)
