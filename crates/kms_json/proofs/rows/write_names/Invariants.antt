use Rattle.std.proofs.Common.{take}
use Rattle.serde_json.specs.Data.{string}
use Rattle.kms_json.specs.Writing.{AddsTokens}
use Rattle.kms_json.proofs.Adding.{tokens_each}
use Rattle.kms_json.proofs.rows.write_names.Given as goal

abbrev pub invariant-loop-name : goal.invariant-loop-name
invariant-loop-name l = AddsTokens (tokens_each string (take l.name-index l.name-items)) l.initial.out l.out
