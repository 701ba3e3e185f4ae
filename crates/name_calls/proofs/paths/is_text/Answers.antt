use Rattle.std.proofs.Common.{sym, true, false, Bool, ◌≡◌, refl}
use Rattle.std.specs.Str.{is_utf8}
use Rattle.std.proofs.lemmas.Str.{is_utf8-from_IsUtf8, IsUtf8-from_is_utf8}
use Rattle.name_calls.proofs.paths.is_text.Goals as goal

pub returns-in-Ok : goal.returns-in-Ok
returns-in-Ok c = sym (is_utf8-from_IsUtf8 c.args.bytes.now c.in-Ok.ensures.cases.1)

pub returns-in-Err : goal.returns-in-Err
returns-in-Err c = go (is_utf8 c.args.bytes.now) refl
  where
    go : (t : Bool) → is_utf8 c.args.bytes.now ≡ t → false ≡ t
    go true e = absurd (c.in-Err.ensures.cases.0 (IsUtf8-from_is_utf8 c.args.bytes.now e))
    go false e = refl
