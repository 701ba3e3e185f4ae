use Rattle.std.proofs.Common.{◌<◌, ℕ, ◌∙◌, sym, ap, subst}
use Rattle.edit_ops.specs.declared.ops.EditOp.{EditOp}
use Rattle.name_store.specs.Table.{is_of_opening, may_use_all, uses}
use Rattle.name_store.specs.Used.{HasFreeIds}
use Rattle.name_store.proofs.UsedLemmas.{may_use_free}
use Rattle.name_store.proofs.rules.may_use_all.Goals as goal

pub returns-in-Mkdir : goal.returns-in-Mkdir
returns-in-Mkdir c t of free =
    let id = c.in-Mkdir.id in
    c.is_of_opening.ensures
    ∙ ap (λ (n : ℕ). is_of_opening n id) (sym of)
    ∙ may_use_free t id (subst (λ (n : ℕ). 0 < n) (sym of) c.requires) (subst (HasFreeIds t.rows) c.in-Mkdir.is free).0
    ∙ ap (λ (o : EditOp). may_use_all t (uses o)) (sym c.in-Mkdir.is)

pub returns-in-File : goal.returns-in-File
returns-in-File c t of free =
    let id = c.in-File.id in
    c.is_of_opening-in-File.ensures
    ∙ ap (λ (n : ℕ). is_of_opening n id) (sym of)
    ∙ may_use_free t id (subst (λ (n : ℕ). 0 < n) (sym of) c.requires) (subst (HasFreeIds t.rows) c.in-File.is free).0
    ∙ ap (λ (o : EditOp). may_use_all t (uses o)) (sym c.in-File.is)

pub returns-in-Submit : goal.returns-in-Submit
returns-in-Submit c t of free =
    let id = c.in-Submit.session in
    c.is_of_opening-in-Submit.ensures
    ∙ ap (λ (n : ℕ). is_of_opening n id) (sym of)
    ∙ may_use_free t id (subst (λ (n : ℕ). 0 < n) (sym of) c.requires) (subst (HasFreeIds t.rows) c.in-Submit.is free).0
    ∙ ap (λ (o : EditOp). may_use_all t (uses o)) (sym c.in-Submit.is)
