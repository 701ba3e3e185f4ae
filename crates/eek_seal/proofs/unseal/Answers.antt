use Rattle.std.proofs.Common.{ℕ, List, ap, ◌∙◌}
use Rattle.eek_seal.specs.Seal.{unseal}
use Rattle.eek_seal.proofs.SealLemmas.{unseal-seal}
use Rattle.eek_seal.proofs.unseal.Goals as goal

pub returns-clause-undoes : goal.returns-clause-undoes
unfolding unseal
returns-clause-undoes c = λ dek sealed_is.
    c.in_counter_mode.ensures ∙ ap (λ (sealed : List ℕ). unseal c.args.material.now c.args.iv sealed) sealed_is
    ∙ unseal-seal c.args.material.now c.args.iv dek
