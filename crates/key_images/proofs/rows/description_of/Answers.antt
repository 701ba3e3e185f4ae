use Rattle.std.proofs.Common.{◌≡◌, Bool, true, false, None, refl}
use Rattle.std.specs.Str.{is_utf8}
use Rattle.std.proofs.lemmas.Str.{is_utf8-from_IsUtf8, IsUtf8-from_is_utf8}
use Rattle.key_rows.specs.Reading.{text_of}
use Rattle.key_images.proofs.rows.description_of.Goals as goal

pub returns-in_ok-description-in-Ok : goal.returns-in_ok-description-in-Ok
returns-in_ok-description-in-Ok c = rw (is_utf8-from_IsUtf8 c.args.bytes.now c.in-Ok.ensures.cases.1, c.in_ok-description-in-Ok.ensures, c.in-Ok.ensures.cases.0) refl

pub returns-in-Err : goal.returns-in-Err
returns-in-Err c = go (is_utf8 c.args.bytes.now) refl
  where
    go : (t : Bool) → is_utf8 c.args.bytes.now ≡ t → text_of c.args.bytes.now ≡ None
    go true e = absurd (c.in-Err.ensures.cases.0 (IsUtf8-from_is_utf8 c.args.bytes.now e))
    go false e = rw e refl
