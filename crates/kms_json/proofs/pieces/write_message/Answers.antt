use Rattle.std.proofs.Common.{◌≡◌, rules, sym, subst}
use Rattle.std.specs.Str.{IsAscii}
use Rattle.kms_calls.specs.Refusals.{refusal_text}
use Rattle.kms_json.proofs.AsciiLemmas.{ascii_refusal}
use Rattle.kms_json.proofs.pieces.write_message.Goals as goal

pub write_ascii-requires : goal.write_ascii-requires
write_ascii-requires c =
    let text : c.as_slice.result.now ≡ refusal_text c.args.why.now = search rules in
    subst IsAscii (sym text) (ascii_refusal c.args.why.now)
