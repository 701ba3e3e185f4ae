use Rattle.std.proofs.Common.{◌≡◌, None}
use Rattle.std.specs.Prelude.{codes}
use Rattle.http_wire.proofs.AgreeLemmas.{from_place}
use Rattle.http_wire.proofs.fields.agreed_length.Given as goal

abbrev pub invariant-fields : goal.invariant-fields
invariant-fields l = from_place (codes "content-length") l.buf l.headers l.known l.header-index ≡ from_place (codes "content-length") l.buf l.headers None 0
