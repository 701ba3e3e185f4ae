use Rattle.std.proofs.Common.{rules, ◌≡◌, true, false, sym, ◌∙◌, subst}
use Rattle.key_rows.specs.Table.{applies}
use Rattle.key_rows.specs.declared.rows.KeyCommand.{KeyCommand}
use Rattle.key_rows.proofs.RecordLemmas.{one_spelling}
use Rattle.kms_store.proofs.Stepping.{built_more}
use Rattle.kms_store.proofs.replay.take.Goals as goal

pub returns-then-not-applies-clause-taken : goal.returns-then-not-applies-clause-taken
returns-then-not-applies-clause-taken c command spelled spells =
    let was = c.in-Ok.ensures.read in
    let same : c.in-Ok.command ≡ command = one_spelling c.in-Ok.command command was.0 spelled (sym was.1 ∙ spells) in
    let not_now : applies c.args.keys.now.table c.in-Ok.command ≡ false = search rules in
    subst (λ (x : KeyCommand). applies c.args.keys.now.table x ≡ false) same not_now

pub returns-clause-built : goal.returns-clause-built
returns-clause-built c taken before built =
    let was = c.in-Ok.ensures.read in
    let may : applies c.args.keys.now.table c.in-Ok.command ≡ true = search rules in
    built_more before c.args.at c.args.payload.now c.args.keys.now c.apply.new.self c.in-Ok.command c.saturating_add.result c.in_ok-apply.ensures.sound was.0 was.1 may c.saturating_add.ensures c.in_ok-apply.ensures.table c.in_ok-apply.ensures.index built
