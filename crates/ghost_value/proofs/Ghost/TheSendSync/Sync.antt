-- Nor does any thread get to anything by sharing it.
use denote.RattleType.{RattleType}
use denote.Param.Send.{IsSync, part_keyless}
use Rattle.ghost_value.specs.contracts.Ghost.{the_row}
use Rattle.ghost_value.proofs.Ghost.TheSendSync.Send.{send}

pub sync : (V : RattleType) → IsSync (the_row V)
sync V = record { shared = λ d b o κ q. part_keyless (the_row V) (send V) q d b o }
