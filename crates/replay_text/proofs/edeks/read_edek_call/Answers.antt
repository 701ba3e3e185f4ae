use Rattle.std.proofs.Common.{◌∙◌, sym, true, Ok}
use Rattle.std.proofs.lemmas.Slice.Eq.{bytes_eq-Decides}
use Rattle.replay_text.proofs.CallLemmas.{answers_generate, answers_decrypt, answers_reencrypt, answers_batch}
use Rattle.replay_text.proofs.edeks.read_edek_call.Goals as goal

pub returns-then-eq : goal.returns-then-eq
returns-then-eq c = answers_generate true _ _ (Ok c.read_generate.result) ((bytes_eq-Decides _ _).0 (sym c.if-eq.ensures) ∙ c.as_slice.ensures) c.read_generate.ensures

pub returns-then-eq-2 : goal.returns-then-eq-2
returns-then-eq-2 c = answers_decrypt true _ _ c.read_decrypt.result ((bytes_eq-Decides _ _).0 (sym c.if-eq-2.ensures) ∙ c.as_slice-2.ensures) c.read_decrypt.ensures

pub returns-then-eq-3 : goal.returns-then-eq-3
returns-then-eq-3 c = answers_reencrypt true _ _ c.read_reencrypt.result ((bytes_eq-Decides _ _).0 (sym c.if-eq-3.ensures) ∙ c.as_slice-3.ensures) c.read_reencrypt.ensures

pub returns-then-eq-4 : goal.returns-then-eq-4
returns-then-eq-4 c = answers_batch true _ _ c.read_batch.result ((bytes_eq-Decides _ _).0 (sym c.if-eq-4.ensures) ∙ c.as_slice-4.ensures) c.read_batch.ensures
