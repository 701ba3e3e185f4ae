use Rattle.std.proofs.Common.{◌∙◌, sym}
use Rattle.std.proofs.lemmas.Slice.Eq.{bytes_eq-Decides}
use Rattle.replay_text.proofs.AskLemmas.{create_answered, submit_answered, zone_answered}
use Rattle.replay_text.proofs.asks.read_ask.Goals as goal

pub returns-then-eq : goal.returns-then-eq
returns-then-eq c =
    create_answered _ _ _ _ _ c.read_create.result (rw c.in-Some.is at c.cut.ensures) (rw c.in-Some-rest.is at c.cut-2.ensures)
    ((bytes_eq-Decides _ _).0 (sym c.if-eq.ensures) ∙ c.as_slice.ensures) c.read_create.ensures

pub returns-then-eq-2 : goal.returns-then-eq-2
returns-then-eq-2 c =
    submit_answered _ _ _ _ _ c.read_submit.result (rw c.in-Some.is at c.cut.ensures) (rw c.in-Some-rest.is at c.cut-2.ensures)
    ((bytes_eq-Decides _ _).0 (sym c.if-eq-2.ensures) ∙ c.as_slice-2.ensures) c.read_submit.ensures

pub returns-then-eq-3 : goal.returns-then-eq-3
returns-then-eq-3 c =
    zone_answered _ _ _ _ _ c.read_zone.result (rw c.in-Some.is at c.cut.ensures) (rw c.in-Some-rest.is at c.cut-2.ensures)
    ((bytes_eq-Decides _ _).0 (sym c.if-eq-3.ensures) ∙ c.as_slice-3.ensures) c.read_zone.ensures
