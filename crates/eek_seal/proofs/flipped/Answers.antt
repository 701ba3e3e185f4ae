use Rattle.std.proofs.Common.{rules, ◌≡◌, ℕ, List, length, ◌-◌, ◌<◌, get_or, sym, ◌∙◌, arith, ap}
use Rattle.std.proofs.lemmas.List.{ext_get_or, get_or-map, length-map}
use Rattle.eek_seal.specs.Seal.{flipped}
use Rattle.eek_seal.proofs.flipped.Goals as goal

-- a counter whose bytes are those of a vector, each flipped
flipped_by_all : (iv counter : List ℕ) → length iv ≡ 16 → length counter ≡ 16 → ((k : ℕ) → k < 16 → get_or counter k 0 ≡ 255 - get_or iv k 0) → counter ≡ flipped iv
flipped_by_all iv counter iv_long counter_long each =
    ext_get_or 0 counter (flipped iv) (simp length-map (omega arith)) (λ k within. each k (omega arith) ∙ sym (get_or-map (λ byte. 255 - byte) iv k 0 0 (omega arith)))

pub returns : goal.returns
returns c =
    let each : (k : ℕ) → k < 16 → get_or c.map.result k 0 ≡ 255 - get_or c.iv.inside.0 k 0 =
    λ k within. (let (_, _, called) = c.map.ensures.items.at k 0 0 within in search (rules, called)) in
    let iv_long : length c.iv.inside.0 ≡ 16 = search rules in
    flipped_by_all c.iv.inside.0 c.map.result iv_long c.map.ensures.items.long each ∙ ap flipped c.iv.view_is
