use Rattle.std.proofs.Common.{◌≡◌, ℕ, List, Some, true, subst, arith}
use Rattle.inode_tree.specs.declared.rows.Row.{Row}
use Rattle.inode_tree.specs.Rows.{is_marked, row_at}
use Rattle.row_copies.specs.Copies.{IsTooLong, StepRefuses, above, is_file}
use Rattle.row_copies.specs.Walks.{is_directory}
use Rattle.row_copies.proofs.EndLemmas.{absent-stops, marked-not, parents-stop, taken-before, whole-absent, whole-all, whole-count, whole-next, whole-part, zone-stops}
use Rattle.row_copies.proofs.StepLemmas.{one, steps-join}
use Rattle.row_copies.proofs.CauseLemmas.{ends-then, free-above, free-join, free-keeps, whole-long, whole-mark, whole-plain, whole-taken}
use Rattle.row_copies.proofs.walk.copy_rows.Goals as goal

pub returns-in-Err-clause-part : goal.returns-in-Err-clause-part
returns-in-Err-clause-part g c =
    zone-stops c.args.to.now (g.C.Clusters.state c.args.clusters.now) (g.C.Clusters.state c.check_zone.new.clusters) c.check_zone.ensures.keeps

pub returns-in-Err-clause-steps : goal.returns-in-Err-clause-steps
returns-in-Err-clause-steps g c =
    one g.C.Clusters.follows c.args.clusters.now c.check_zone.new.clusters c.check_zone.ensures.follows

pub returns-in-Err-make_parents-clause-part : goal.returns-in-Err-make_parents-clause-part
returns-in-Err-make_parents-clause-part g c =
    parents-stop c.args.to.now (g.C.Clusters.state c.args.clusters.now) (g.C.Clusters.state c.check_zone.new.clusters) (g.C.Clusters.state c.make_parents.new.clusters) c.check_zone.ensures.keeps c.in-Err-make_parents.ensures.err

pub returns-in-Err-make_parents-clause-steps : goal.returns-in-Err-make_parents-clause-steps
returns-in-Err-make_parents-clause-steps g c =
    steps-join g.C.Clusters.follows c.args.clusters.now c.check_zone.new.clusters c.make_parents.new.clusters (one g.C.Clusters.follows c.args.clusters.now c.check_zone.new.clusters c.check_zone.ensures.follows) c.make_parents.ensures.steps

pub returns-in-Err-check_absent-clause-part : goal.returns-in-Err-check_absent-clause-part
returns-in-Err-check_absent-clause-part g c =
    absent-stops c.args.to.now (g.C.Clusters.state c.args.clusters.now) (g.C.Clusters.state c.check_zone.new.clusters) (g.C.Clusters.state c.make_parents.new.clusters) (g.C.Clusters.state c.check_absent.new.clusters) c.check_zone.ensures.keeps c.in-Ok-make_parents.ensures.ok c.check_absent.ensures.keeps

pub returns-in-Err-check_absent-clause-steps : goal.returns-in-Err-check_absent-clause-steps
returns-in-Err-check_absent-clause-steps g c =
    steps-join g.C.Clusters.follows c.args.clusters.now c.make_parents.new.clusters c.check_absent.new.clusters (steps-join g.C.Clusters.follows c.args.clusters.now c.check_zone.new.clusters c.make_parents.new.clusters (one g.C.Clusters.follows c.args.clusters.now c.check_zone.new.clusters c.check_zone.ensures.follows) c.make_parents.ensures.steps) (one g.C.Clusters.follows c.make_parents.new.clusters c.check_absent.new.clusters c.check_absent.ensures.follows)

pub copy_block-requires-clause-next : goal.copy_block-requires-clause-next
copy_block-requires-clause-next g c =
    whole-next c.args.to.now c.root-root.result (g.C.Clusters.state c.args.clusters.now) (g.C.Clusters.state c.check_zone.new.clusters) (g.C.Clusters.state c.make_parents.new.clusters) (g.C.Clusters.state c.check_absent.new.clusters) c.root-root.ensures c.check_zone.ensures.keeps c.in-Ok-make_parents.ensures.ok c.check_absent.ensures.keeps c.in-Ok-check_absent.ensures.ok c.facts.ensures.source c.facts.ensures.target

pub returns-in-Ok-copy_block-clause-all : goal.returns-in-Ok-copy_block-clause-all
returns-in-Ok-copy_block-clause-all g c =
    whole-all c.args.to.now c.root-root.result (g.C.Clusters.state c.args.clusters.now) (g.C.Clusters.state c.check_zone.new.clusters) (g.C.Clusters.state c.make_parents.new.clusters) (g.C.Clusters.state c.check_absent.new.clusters) c.root-root.ensures c.check_zone.ensures.keeps c.in-Ok-make_parents.ensures.ok c.check_absent.ensures.keeps c.in-Ok-check_absent.ensures.ok c.facts.ensures.source c.facts.ensures.target (g.C.Clusters.state c.copy_block.new.clusters) c.in-Ok-copy_block.ensures.adds

pub returns-in-Ok-copy_block-clause-files : goal.returns-in-Ok-copy_block-clause-files
returns-in-Ok-copy_block-clause-files g c =
    omega (arith, c.in-Ok-copy_block.ensures.counts.0, whole-count c.args.to.now c.root-root.result (g.C.Clusters.state c.args.clusters.now) (g.C.Clusters.state c.check_zone.new.clusters) (g.C.Clusters.state c.make_parents.new.clusters) (g.C.Clusters.state c.check_absent.new.clusters) c.root-root.ensures c.check_zone.ensures.keeps c.in-Ok-make_parents.ensures.ok c.check_absent.ensures.keeps c.in-Ok-check_absent.ensures.ok c.facts.ensures.source c.facts.ensures.target is_file)

pub returns-in-Ok-copy_block-clause-directories : goal.returns-in-Ok-copy_block-clause-directories
returns-in-Ok-copy_block-clause-directories g c =
    omega (arith, c.in-Ok-copy_block.ensures.counts.1, whole-count c.args.to.now c.root-root.result (g.C.Clusters.state c.args.clusters.now) (g.C.Clusters.state c.check_zone.new.clusters) (g.C.Clusters.state c.make_parents.new.clusters) (g.C.Clusters.state c.check_absent.new.clusters) c.root-root.ensures c.check_zone.ensures.keeps c.in-Ok-make_parents.ensures.ok c.check_absent.ensures.keeps c.in-Ok-check_absent.ensures.ok c.facts.ensures.source c.facts.ensures.target is_directory)

pub returns-in-Ok-copy_block-clause-zone : goal.returns-in-Ok-copy_block-clause-zone
returns-in-Ok-copy_block-clause-zone g c =
    subst (λ (q : List (List ℕ)). (row : Row) × (row_at (g.C.Clusters.state c.args.clusters.now).source.rows q ≡ Some row) × (is_marked row ≡ true)) c.root-root.ensures c.in-Ok.ensures.ok

pub returns-in-Ok-copy_block-clause-absent : goal.returns-in-Ok-copy_block-clause-absent
returns-in-Ok-copy_block-clause-absent g c =
    whole-absent c.args.to.now c.root-root.result (g.C.Clusters.state c.args.clusters.now) (g.C.Clusters.state c.check_zone.new.clusters) (g.C.Clusters.state c.make_parents.new.clusters) (g.C.Clusters.state c.check_absent.new.clusters) c.root-root.ensures c.check_zone.ensures.keeps c.in-Ok-make_parents.ensures.ok c.check_absent.ensures.keeps c.in-Ok-check_absent.ensures.ok c.facts.ensures.source c.facts.ensures.target

pub returns-in-Ok-copy_block-clause-steps : goal.returns-in-Ok-copy_block-clause-steps
returns-in-Ok-copy_block-clause-steps g c =
    steps-join g.C.Clusters.follows c.args.clusters.now c.check_absent.new.clusters c.copy_block.new.clusters (steps-join g.C.Clusters.follows c.args.clusters.now c.make_parents.new.clusters c.check_absent.new.clusters (steps-join g.C.Clusters.follows c.args.clusters.now c.check_zone.new.clusters c.make_parents.new.clusters (one g.C.Clusters.follows c.args.clusters.now c.check_zone.new.clusters c.check_zone.ensures.follows) c.make_parents.ensures.steps) (one g.C.Clusters.follows c.make_parents.new.clusters c.check_absent.new.clusters c.check_absent.ensures.follows)) c.copy_block.ensures.steps

pub returns-clause-part : goal.returns-clause-part
returns-clause-part g c =
    whole-part c.args.to.now c.root-root.result (g.C.Clusters.state c.args.clusters.now) (g.C.Clusters.state c.check_zone.new.clusters) (g.C.Clusters.state c.make_parents.new.clusters) (g.C.Clusters.state c.check_absent.new.clusters) c.root-root.ensures c.check_zone.ensures.keeps c.in-Ok-make_parents.ensures.ok c.check_absent.ensures.keeps c.in-Ok-check_absent.ensures.ok c.facts.ensures.source c.facts.ensures.target (g.C.Clusters.state c.copy_block.new.clusters) c.in-Err-copy_block.ensures.err

pub returns-clause-steps : goal.returns-clause-steps
returns-clause-steps g c =
    steps-join g.C.Clusters.follows c.args.clusters.now c.check_absent.new.clusters c.copy_block.new.clusters (steps-join g.C.Clusters.follows c.args.clusters.now c.make_parents.new.clusters c.check_absent.new.clusters (steps-join g.C.Clusters.follows c.args.clusters.now c.check_zone.new.clusters c.make_parents.new.clusters (one g.C.Clusters.follows c.args.clusters.now c.check_zone.new.clusters c.check_zone.ensures.follows) c.make_parents.ensures.steps) (one g.C.Clusters.follows c.make_parents.new.clusters c.check_absent.new.clusters c.check_absent.ensures.follows)) c.copy_block.ensures.steps

pub returns-in-Err-clause-unmarked : goal.returns-in-Err-clause-unmarked
returns-in-Err-clause-unmarked g c row at plain = c.check_zone.ensures.keeps

pub returns-in-Err-make_parents-clause-unmarked : goal.returns-in-Err-make_parents-clause-unmarked
returns-in-Err-make_parents-clause-unmarked g c row at plain =
    absurd (marked-not (g.C.Clusters.state c.args.clusters.now).source.rows c.root-root.result row c.root-root.ensures c.in-Ok.ensures.ok at plain)

pub returns-in-Err-check_absent-clause-unmarked : goal.returns-in-Err-check_absent-clause-unmarked
returns-in-Err-check_absent-clause-unmarked g c row at plain =
    absurd (marked-not (g.C.Clusters.state c.args.clusters.now).source.rows c.root-root.result row c.root-root.ensures c.in-Ok.ensures.ok at plain)

pub returns-in-Ok-copy_block-clause-unmarked : goal.returns-in-Ok-copy_block-clause-unmarked
returns-in-Ok-copy_block-clause-unmarked g c row at plain =
    absurd (marked-not (g.C.Clusters.state c.args.clusters.now).source.rows c.root-root.result row c.root-root.ensures c.in-Ok.ensures.ok at plain)

pub returns-clause-unmarked : goal.returns-clause-unmarked
returns-clause-unmarked g c row at plain =
    absurd (marked-not (g.C.Clusters.state c.args.clusters.now).source.rows c.root-root.result row c.root-root.ensures c.in-Ok.ensures.ok at plain)

pub returns-in-Err-clause-ends : goal.returns-in-Err-clause-ends
returns-in-Err-clause-ends g c =
    whole-mark g.C.Clusters.state g.C.Clusters.follows g.C.Clusters.store_fails g.C.Clusters.vault_fails g.C.Clusters.refuses c.args.to.now c.args.clusters.now c.root-root.result c.check_zone.new.clusters c.in-Err.end c.root-root.ensures c.in-Err.ensures.ends

pub returns-in-Err-make_parents-clause-ends : goal.returns-in-Err-make_parents-clause-ends
returns-in-Err-make_parents-clause-ends g c =
    whole-plain g.C.Clusters.state g.C.Clusters.follows g.C.Clusters.store_fails g.C.Clusters.vault_fails g.C.Clusters.refuses c.args.to.now c.args.clusters.now c.make_parents.new.clusters c.in-Err-make_parents.end
    (ends-then g.C.Clusters.state g.C.Clusters.follows g.C.Clusters.store_fails g.C.Clusters.vault_fails g.C.Clusters.refuses c.args.clusters.now c.check_zone.new.clusters c.make_parents.new.clusters c.in-Err-make_parents.end (one g.C.Clusters.follows c.args.clusters.now c.check_zone.new.clusters c.check_zone.ensures.follows) (free-keeps (g.C.Clusters.state c.args.clusters.now) (g.C.Clusters.state c.check_zone.new.clusters) c.check_zone.ensures.keeps) c.in-Err-make_parents.ensures.ends)

pub returns-in-Err-check_absent-clause-ends : goal.returns-in-Err-check_absent-clause-ends
returns-in-Err-check_absent-clause-ends g c =
    whole-taken g.C.Clusters.state g.C.Clusters.follows g.C.Clusters.store_fails g.C.Clusters.vault_fails g.C.Clusters.refuses c.args.to.now c.args.clusters.now c.make_parents.new.clusters c.check_absent.new.clusters c.in-Err-check_absent.end (steps-join g.C.Clusters.follows c.args.clusters.now c.check_zone.new.clusters c.make_parents.new.clusters (one g.C.Clusters.follows c.args.clusters.now c.check_zone.new.clusters c.check_zone.ensures.follows) c.make_parents.ensures.steps) (free-join (g.C.Clusters.state c.args.clusters.now) (g.C.Clusters.state c.check_zone.new.clusters) (g.C.Clusters.state c.make_parents.new.clusters) (free-keeps (g.C.Clusters.state c.args.clusters.now) (g.C.Clusters.state c.check_zone.new.clusters) c.check_zone.ensures.keeps) (free-above (above c.args.to.now) c.args.to.now (g.C.Clusters.state c.check_zone.new.clusters) (g.C.Clusters.state c.make_parents.new.clusters) c.in-Ok-make_parents.ensures.ok))
    (taken-before c.args.to.now (g.C.Clusters.state c.args.clusters.now) (g.C.Clusters.state c.check_zone.new.clusters) (g.C.Clusters.state c.make_parents.new.clusters) c.check_zone.ensures.keeps c.in-Ok-make_parents.ensures.ok) c.in-Err-check_absent.ensures.ends

pub returns-clause-ends : goal.returns-clause-ends
returns-clause-ends g c =
    whole-long g.C.Clusters.state g.C.Clusters.follows g.C.Clusters.store_fails g.C.Clusters.vault_fails g.C.Clusters.refuses c.args.to.now c.args.clusters.now c.copy_block.new.clusters c.in-Err-copy_block.end
    (ends-then g.C.Clusters.state g.C.Clusters.follows g.C.Clusters.store_fails g.C.Clusters.vault_fails (StepRefuses g.C.Clusters.state g.C.Clusters.refuses (IsTooLong c.args.to.now)) c.args.clusters.now c.check_absent.new.clusters c.copy_block.new.clusters c.in-Err-copy_block.end (steps-join g.C.Clusters.follows c.args.clusters.now c.make_parents.new.clusters c.check_absent.new.clusters (steps-join g.C.Clusters.follows c.args.clusters.now c.check_zone.new.clusters c.make_parents.new.clusters (one g.C.Clusters.follows c.args.clusters.now c.check_zone.new.clusters c.check_zone.ensures.follows) c.make_parents.ensures.steps) (one g.C.Clusters.follows c.make_parents.new.clusters c.check_absent.new.clusters c.check_absent.ensures.follows)) (free-join (g.C.Clusters.state c.args.clusters.now) (g.C.Clusters.state c.make_parents.new.clusters) (g.C.Clusters.state c.check_absent.new.clusters) (free-join (g.C.Clusters.state c.args.clusters.now) (g.C.Clusters.state c.check_zone.new.clusters) (g.C.Clusters.state c.make_parents.new.clusters) (free-keeps (g.C.Clusters.state c.args.clusters.now) (g.C.Clusters.state c.check_zone.new.clusters) c.check_zone.ensures.keeps) (free-above (above c.args.to.now) c.args.to.now (g.C.Clusters.state c.check_zone.new.clusters) (g.C.Clusters.state c.make_parents.new.clusters) c.in-Ok-make_parents.ensures.ok)) (free-keeps (g.C.Clusters.state c.make_parents.new.clusters) (g.C.Clusters.state c.check_absent.new.clusters) c.check_absent.ensures.keeps)) c.in-Err-copy_block.ensures.ends)
