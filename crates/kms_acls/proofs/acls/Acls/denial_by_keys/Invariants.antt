use Rattle.std.proofs.Common.{◌≡◌, map, drop}
use Rattle.kms_acls.specs.Lists.{stands}
use Rattle.kms_acls.specs.Verdict.{first_denial, key_denial}
use Rattle.kms_acls.proofs.acls.Acls.denial_by_keys.Given as goal

-- no key so far is denied
abbrev pub invariant-loop-key : goal.invariant-loop-key
invariant-loop-key l =
    first_denial (map (key_denial (stands l.self l.user) l.op) l.keys) ≡ first_denial (map (key_denial (stands l.self l.user) l.op) (drop l.key-index l.keys))
