use Rattle.std.proofs.Common.{◌≡◌, rules, sym, subst}
use Rattle.std.specs.Str.{IsUtf8}
use Rattle.kms_calls.specs.Refusals.{refusal_text}
use Rattle.name_text.proofs.AsciiLemmas.{refusal_is_utf8}
use Rattle.name_text.proofs.refusals.write_kms_refusal.Goals as goal

pub unwrap-text-requires : goal.unwrap-text-requires
unwrap-text-requires c =
    let text : c.as_slice.result.now ≡ refusal_text c.args.refused.now = search rules in
    search (rules, subst IsUtf8 (sym text) (refusal_is_utf8 c.args.refused.now))
