use Rattle.std.proofs.Common.{take}
use Rattle.kms_json.specs.Replies.{row_data}
use Rattle.kms_json.specs.Writing.{AddsTokens}
use Rattle.kms_json.proofs.Adding.{tokens_each}
use Rattle.kms_json.proofs.rows.write_versions.Given as goal

abbrev pub invariant-loop-row : goal.invariant-loop-row
invariant-loop-row l = AddsTokens (tokens_each row_data (take l.row-index l.row-items)) l.initial.out l.out
