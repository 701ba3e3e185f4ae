use Rattle.std.proofs.Common.{sym, ◌∙◌}
use Rattle.prop_text.proofs.KeyLemmas.{first_key, second_key, third_key, fourth_key, last_key}
use Rattle.prop_text.proofs.names.key_and_op.Goals as goal

pub returns-in-Some : goal.returns-in-Some
returns-in-Some c = first_key c.args.bytes.now c.in-Some.place (sym c.key_with.ensures ∙ c.in-Some.is)

pub returns-in-Some-key_with : goal.returns-in-Some-key_with
returns-in-Some-key_with c = second_key c.args.bytes.now c.in-Some-key_with.place (sym c.key_with.ensures ∙ c.in_default.is) (sym c.key_with-2.ensures ∙ c.in-Some-key_with.is)

pub returns-in-Some-key_with-2 : goal.returns-in-Some-key_with-2
returns-in-Some-key_with-2 c = third_key c.args.bytes.now c.in-Some-key_with-2.place (sym c.key_with.ensures ∙ c.in_default.is) (sym c.key_with-2.ensures ∙ c.in_default-key_with.is) (sym c.key_with-3.ensures ∙ c.in-Some-key_with-2.is)

pub returns-in-Some-key_with-3 : goal.returns-in-Some-key_with-3
returns-in-Some-key_with-3 c = fourth_key c.args.bytes.now c.in-Some-key_with-3.place (sym c.key_with.ensures ∙ c.in_default.is) (sym c.key_with-2.ensures ∙ c.in_default-key_with.is) (sym c.key_with-3.ensures ∙ c.in_default-key_with-2.is) (sym c.key_with-4.ensures ∙ c.in-Some-key_with-3.is)

pub returns : goal.returns
returns c = c.key_all.ensures ∙ last_key c.args.bytes.now (sym c.key_with.ensures ∙ c.in_default.is) (sym c.key_with-2.ensures ∙ c.in_default-key_with.is) (sym c.key_with-3.ensures ∙ c.in_default-key_with-2.is) (sym c.key_with-4.ensures ∙ c.in_default-key_with-3.is)
