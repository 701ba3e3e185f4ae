use Rattle.std.proofs.Common.{◌∙◌, ap}
use Rattle.check_run.specs.declared.counts.RowCounts.{RowCounts}
use Rattle.check_run.proofs.SnapshotLemmas.{all_snapshots}
use Rattle.check_run.proofs.text.counts_of.Goals as goal

pub returns : goal.returns
returns c k = record {
  keys = c.count.ensures.count k;
  versions = c.in_ok-versions.ensures k;
  directories = ap (λ (r : RowCounts). r.directories) c.in_ok-rows.ensures k;
  files = ap (λ (r : RowCounts). r.files) c.in_ok-rows.ensures k;
  zones = ap (λ (r : RowCounts). r.zones) c.in_ok-rows.ensures k;
  snapshots = (ap (λ (r : RowCounts). r.snapshots) c.in_ok-rows.ensures ∙ all_snapshots c.args.names.now.table c.tree.ensures.rules.table) k;
  reencryptions = ap (λ (r : RowCounts). r.reencryptions) c.in_ok-rows.ensures k;
  lost = ap (λ (r : RowCounts). r.lost) c.in_ok-rows.ensures k;
}
