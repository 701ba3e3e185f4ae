use Rattle.std.proofs.Common.{◌≡◌, ◌<◌, ◌^◌, rules, sym, subst}
use Rattle.std.specs.Str.{IsAscii}
use Rattle.hk_base.specs.Names.{IsKeyName, version_text}
use Rattle.kms_json.proofs.AsciiLemmas.{ascii_version}
use Rattle.kms_json.proofs.pieces.write_version.Goals as goal

pub write_ascii-requires : goal.write_ascii-requires
write_ascii-requires c =
    let text : c.as_slice.result.now ≡ version_text c.args.version.now.key c.args.version.now.number = search rules in
    let name : IsKeyName c.args.version.now.key = search rules in
    let small : c.args.version.now.number < 2 ^ 16 = search rules in
    subst IsAscii (sym text) (ascii_version c.args.version.now.key c.args.version.now.number name small)
