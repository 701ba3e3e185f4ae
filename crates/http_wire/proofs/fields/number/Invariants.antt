use Rattle.std.proofs.Common.{◌≡◌, take}
use Rattle.http_wire.specs.Fields.{number_of}
use Rattle.http_wire.proofs.fields.number.Given as goal

abbrev pub invariant-digits : goal.invariant-digits
invariant-digits l = l.number ≡ number_of (take l.digit-index l.digits)
