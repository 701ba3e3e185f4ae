use Rattle.std.proofs.Common.{◌∙◌, sym, false, Ok}
use Rattle.std.proofs.lemmas.Slice.Eq.{bytes_eq-Decides}
use Rattle.replay_text.proofs.CallLemmas.{is_other, no_key_verb, answers_create, answers_roll, answers_delete, answers_invalidate, answers_metadata, answers_metadatas, answers_current, answers_versions, answers_version}
use Rattle.replay_text.proofs.calls.read_key_call.Goals as goal

pub returns-then-eq : goal.returns-then-eq
returns-then-eq c = answers_create false _ _ c.read_create.result ((bytes_eq-Decides _ _).0 (sym c.if-eq.ensures) ∙ c.as_slice.ensures) c.read_create.ensures

pub returns-then-eq-2 : goal.returns-then-eq-2
returns-then-eq-2 c = answers_roll false _ _ c.read_roll.result ((bytes_eq-Decides _ _).0 (sym c.if-eq-2.ensures) ∙ c.as_slice-2.ensures) c.read_roll.ensures

pub returns-then-eq-3 : goal.returns-then-eq-3
returns-then-eq-3 c = answers_delete false _ _ (Ok c.read_delete.result) ((bytes_eq-Decides _ _).0 (sym c.if-eq-3.ensures) ∙ c.as_slice-3.ensures) c.read_delete.ensures

pub returns-then-eq-4 : goal.returns-then-eq-4
returns-then-eq-4 c = answers_invalidate false _ _ (Ok c.read_invalidate.result) ((bytes_eq-Decides _ _).0 (sym c.if-eq-4.ensures) ∙ c.as_slice-4.ensures) c.read_invalidate.ensures

pub returns-then-eq-5 : goal.returns-then-eq-5
returns-then-eq-5 c = answers_metadata false _ _ (Ok c.read_metadata.result) ((bytes_eq-Decides _ _).0 (sym c.if-eq-5.ensures) ∙ c.as_slice-5.ensures) c.read_metadata.ensures

pub returns-then-eq-6 : goal.returns-then-eq-6
returns-then-eq-6 c = answers_metadatas false _ _ c.read_metadatas.result ((bytes_eq-Decides _ _).0 (sym c.if-eq-6.ensures) ∙ c.as_slice-6.ensures) c.read_metadatas.ensures

pub returns-then-eq-7 : goal.returns-then-eq-7
returns-then-eq-7 c = answers_current false _ _ (Ok c.read_current.result) ((bytes_eq-Decides _ _).0 (sym c.if-eq-7.ensures) ∙ c.as_slice-7.ensures) c.read_current.ensures

pub returns-then-eq-8 : goal.returns-then-eq-8
returns-then-eq-8 c = answers_versions false _ _ (Ok c.read_versions.result) ((bytes_eq-Decides _ _).0 (sym c.if-eq-8.ensures) ∙ c.as_slice-8.ensures) c.read_versions.ensures

pub returns-then-eq-9 : goal.returns-then-eq-9
returns-then-eq-9 c = answers_version false _ _ (Ok c.read_version.result) ((bytes_eq-Decides _ _).0 (sym c.if-eq-9.ensures) ∙ c.as_slice-9.ensures) c.read_version.ensures

pub returns : goal.returns
returns c =
    no_key_verb c.args.verb.now c.args.rest.now
    (is_other _ _ _ c.as_slice.ensures c.if-eq.ensures)
    (is_other _ _ _ c.as_slice-2.ensures c.if-eq-2.ensures)
    (is_other _ _ _ c.as_slice-3.ensures c.if-eq-3.ensures)
    (is_other _ _ _ c.as_slice-4.ensures c.if-eq-4.ensures)
    (is_other _ _ _ c.as_slice-5.ensures c.if-eq-5.ensures)
    (is_other _ _ _ c.as_slice-6.ensures c.if-eq-6.ensures)
    (is_other _ _ _ c.as_slice-7.ensures c.if-eq-7.ensures)
    (is_other _ _ _ c.as_slice-8.ensures c.if-eq-8.ensures)
    (is_other _ _ _ c.as_slice-9.ensures c.if-eq-9.ensures)
