use Rattle.std.proofs.Common.{◌≡◌, ℕ, suc, ◌+◌, ◌-◌, List, sym, ap, ◌∙◌, arith}
use Rattle.aes_core.specs.Aes.{add_round_key, encrypted, mix_columns, shift_rows, state_after, sub_bytes}
use Rattle.aes_core.proofs.rounds.finished.Goals as goal

pub loop-round-init : goal.loop-round-init
loop-round-init g c = λ block before. before

pub loop-round-preserved : goal.loop-round-preserved
unfolding state_after
loop-round-preserved g c = λ block before.
    let words : List (List ℕ) = c.args.words.now in
    let done : ℕ = c.loop-round.round - 1 in
    let this : suc done ≡ c.loop-round.round = omega (arith, c.requires.from) in
    let next : suc done ≡ c.loop-round.round + 1 - 1 = omega (arith, c.requires.from) in
    c.full_round-next.ensures
    ∙ ap (λ (state : List ℕ). add_round_key words c.loop-round.round (mix_columns (shift_rows (sub_bytes state)))) (c.loop-round.invariant block before)
    ∙ ap (λ (n : ℕ). add_round_key words n (mix_columns (shift_rows (sub_bytes (state_after words block done))))) (sym this)
    ∙ ap (λ (n : ℕ). state_after words block n) next

pub returns : goal.returns
unfolding encrypted
returns g c = λ block before.
    let words : List (List ℕ) = c.args.words.now in
    let all : c.loop-round.round - 1 ≡ g.row.NK + 6 - 1 = omega (arith, c.requires.from) in
    c.block_of.ensures ∙ c.last_round.ensures
    ∙ ap (λ (state : List ℕ). add_round_key words (g.row.NK + 6) (shift_rows (sub_bytes state)))
    (c.loop-round.invariant block before ∙ ap (λ (n : ℕ). state_after words block n) all)
