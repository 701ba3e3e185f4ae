use Rattle.std.proofs.Common.{◌≡◌, ◌+◌, ◌*◌, ◌/◌, ◌∙◌, ap, length, List, ℕ, arith}
use Rattle.key_images.specs.Sizes.{row_len}
use Rattle.key_images.proofs.Lengths.{few_bytes}
use Rattle.key_images.proofs.sizes.row_size.Goals as goal

pub returns-clause-size : goal.returns-clause-size
returns-clause-size c =
    let row = c.args.row.now in
    ap (λ (w : List ℕ). 25 + length w + length c.as_str.result.now + row.versions * (row.bits / 8)) c.as_bytes.ensures.bytes
    ∙ ap (λ (w : List ℕ). 25 + length row.name + length w + row.versions * (row.bits / 8)) (c.as_str.ensures ∙ c.as_text.ensures.text)

pub returns-clause-small : goal.returns-clause-small
returns-clause-small c is =
    let row = c.args.row.now in
    let same : 25 + length c.as_bytes.result.now + length c.as_str.result.now + row.versions * (row.bits / 8) ≡ row_len row =
    ap (λ (w : List ℕ). 25 + length w + length c.as_str.result.now + row.versions * (row.bits / 8)) c.as_bytes.ensures.bytes
    ∙ ap (λ (w : List ℕ). 25 + length row.name + length w + row.versions * (row.bits / 8)) (c.as_str.ensures ∙ c.as_text.ensures.text) in
    omega (arith, same, few_bytes row is c.as_bytes.ensures.name c.as_text.ensures.short)
