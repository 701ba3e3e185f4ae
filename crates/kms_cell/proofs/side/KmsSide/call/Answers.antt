use Rattle.std.proofs.Common.{subst}
use Rattle.kms_cell.specs.Steps.{CallSteps}
use Rattle.kms_cell.specs.Views.{KmsView}
use Rattle.kms_cell.proofs.side.KmsSide.call.Goals as goal

pub returns : goal.returns
returns g c =
    let after : KmsView _ _ = record { kms = c.act.new.self; disk = c.act.new.disk; words = c.act.new.words } in
    subst (λ (v : KmsView _ _). CallSteps g.D.Disk.state g.W.Words.to_come v c.args.user c.args.call c.act.result after)
    c.self.view_is (record { now = c.now_ms-now.result; has_lines = (c.self.invariant.lines, c.self.invariant.lists); acts = c.act.ensures })
