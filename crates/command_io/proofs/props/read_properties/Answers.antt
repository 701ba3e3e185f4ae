use Rattle.std.proofs.Common.{ℕ, List, subst}
use Rattle.prop_text.specs.Properties.{HasFault}
use Rattle.command_io.proofs.PropsLemmas.{text_fault_is}
use Rattle.command_io.proofs.props.read_properties.Goals as goal

pub returns-in-Err-read_props-clause-fault : goal.returns-in-Err-read_props-clause-fault
returns-in-Err-read_props-clause-fault g c = λ why is.
    text_fault_is (g.A.Source.left c.args.acls.now) (g.A.Source.left c.read_text.new.source) c.in-Ok.text c.in-Err-read_props.fault why c.in-Ok.ensures.text
    (subst (λ (t : List ℕ). HasFault t c.in-Err-read_props.fault) c.as_slice.ensures c.in-Err-read_props.ensures) is
