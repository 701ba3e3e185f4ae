use Rattle.std.proofs.Common.{◌≡◌, ◌<◌, ◌^◌, rules}
use Rattle.hk_base.specs.Names.{IsKeyName, version_text}
use Rattle.kms_json.proofs.VersionLemmas.{found_named, none_named}
use Rattle.kms_json.proofs.batch.version_named.Goals as goal

pub returns : goal.returns
returns c =
    let small : c.in-Some.version.number < 2 ^ 16 = search rules in
    let name : IsKeyName c.in-Some.version.key = search rules in
    let text : c.args.text.now ≡ version_text c.in-Some.version.key c.in-Some.version.number = search rules in
    found_named c.args.text.now c.in-Some.version small name text

pub returns-in_default : goal.returns-in_default
returns-in_default c = none_named c.args.text.now (search rules)
