use Rattle.std.proofs.Common.{rules}
use Rattle.name_text.proofs.AsciiLemmas.{name_is_utf8}
use Rattle.name_text.proofs.pieces.write_key.Goals as goal

pub unwrap-text-requires : goal.unwrap-text-requires
unwrap-text-requires c = search (rules, name_is_utf8 c.args.key.now c.as_bytes.ensures.name)
