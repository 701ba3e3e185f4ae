use Rattle.std.proofs.Common.{◌≡◌, ℕ, ◌+◌, map, slice_index, sym, ◌∙◌}
use Rattle.std.specs.List.{range_with_len}
use Rattle.aes_core.specs.Aes.{cipher, encrypted, with_last}
use Rattle.aes_core.proofs.Keys.{encrypted-is}
use Rattle.aes_core.proofs.block_cipher.Aes.encrypt_eight.Goals as goal

pub returns : goal.returns
returns g c =
    let nth : ℕ → _ = λ k. with_last c.args.block.now (slice_index c.args.block.now 15 + k) in
    let each : (k : ℕ) → encrypted c.self.inside.words (g.row.NK + 6) (nth k) ≡ cipher c.args.self.now (nth k) =
    λ k. encrypted-is g.row.NK c.self.inside.words c.args.self.now (nth k) (sym c.self.view_is) c.self.invariant.1 in
    c.eight_encrypted.ensures ∙ (λ i. map (λ k. each k i) (range_with_len 0 8))
