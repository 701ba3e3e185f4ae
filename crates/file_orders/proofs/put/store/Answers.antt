use Rattle.std.proofs.Common.{rules, ⊎_elim, inl, inr, refl}
use Rattle.file_orders.proofs.put.store.Goals as goal

pub returns-then-not-has_none-clause-stores : goal.returns-then-not-has_none-clause-stores
returns-then-not-has_none-clause-stores g c =
    inr (inr (record { how_is = refl; unread = refl; keeps = c.has_none.ensures.keeps; cause = c.has_none.ensures.cause (search rules) }))

pub returns-then-not-has_none-clause-vault : goal.returns-then-not-has_none-clause-vault
returns-then-not-has_none-clause-vault g c is = ⊎_elim (λ rose. inl rose) (λ had. inr (λ tells. (c.args.file.id, had tells))) (c.has_none.ensures.cause (search rules))
