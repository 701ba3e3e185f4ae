use Rattle.std.proofs.Common.{rules}
use Rattle.std.proofs.lemmas.Str.{IsUtf8-from_ascii}
use Rattle.kms_json.proofs.pieces.write_ascii.Goals as goal

pub unwrap-text-requires : goal.unwrap-text-requires
unwrap-text-requires c = search (rules, IsUtf8-from_ascii c.args.bytes.now c.requires)
