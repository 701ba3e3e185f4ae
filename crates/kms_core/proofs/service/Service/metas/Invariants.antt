use Rattle.std.proofs.Common.{◌≡◌, take}
use Rattle.kms_core.specs.Calls.{metas_of}
use Rattle.kms_core.specs.State.{keys_of}
use Rattle.kms_core.proofs.service.Service.metas.Given as goal

abbrev pub invariant-loop-name : goal.invariant-loop-name
invariant-loop-name l = l.known ≡ metas_of (keys_of l.fn.self) (take l.name-index l.fn.names)
