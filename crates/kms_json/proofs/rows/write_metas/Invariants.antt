use Rattle.std.proofs.Common.{take}
use Rattle.kms_json.specs.Replies.{meta_data}
use Rattle.kms_json.specs.Writing.{AddsTokens}
use Rattle.kms_json.proofs.Adding.{tokens_each}
use Rattle.kms_json.proofs.rows.write_metas.Given as goal

abbrev pub invariant-loop-meta : goal.invariant-loop-meta
invariant-loop-meta l = AddsTokens (tokens_each meta_data (take l.meta-index l.meta-items)) l.initial.out l.out
