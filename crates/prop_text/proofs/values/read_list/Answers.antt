use Rattle.prop_text.proofs.values.read_list.Goals as goal

pub returns-in_default : goal.returns-in_default
returns-in_default c = λ prop spelled.
    let none = rw c.in_default.is at c.in_ok-acl.ensures in
    none spelled.acl spelled.value_is
