use Rattle.std.proofs.Common.{take}
use Rattle.kms_json.specs.Replies.{edek_data}
use Rattle.kms_json.specs.Writing.{AddsTokens}
use Rattle.kms_json.proofs.Adding.{tokens_each}
use Rattle.kms_json.proofs.rows.write_edeks.Given as goal

abbrev pub invariant-loop-edek : goal.invariant-loop-edek
invariant-loop-edek l = AddsTokens (tokens_each edek_data (take l.edek-index l.edek-items)) l.initial.out l.out
