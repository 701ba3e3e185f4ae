-- The properties of a load.
use Rattle.std.specs.Prelude.{true, List, [], ◌∷◌}
use Rattle.kms_calls.specs.declared.acl.AclOp.{AclOp}
use Rattle.kms_calls.specs.declared.acl.AclOp.TheVariants as op
use Rattle.prop_text.specs.declared.lines.PropLine.{PropLine}
use Rattle.prop_text.specs.declared.lines.PropLine.TheVariants as prop_line

-- everybody may do this operation on a key without lines of its own
abbrev pub for_everybody : AclOp → PropLine
for_everybody o = prop_line.Default o (record { everybody = true; users = []; groups = [] })

-- the lines under which a load runs: everybody may do each operation on each key
abbrev pub open_lines : List PropLine
open_lines = for_everybody op.Management ∷ for_everybody op.GenerateEek ∷ for_everybody op.DecryptEek ∷ for_everybody op.Read ∷ []
