use Rattle.std.proofs.Common.{◌≡◌, ℕ, ◌+◌, ◌≢◌, [], slice_index, slice_index_or, bit_xor, List, below_more, get_or-set_other, get_or-set_same, refl, ◌∙◌, arith}
use Rattle.std.proofs.Math.ListN.{length-set}
use Rattle.std.proofs.lemmas.List.FromFn.{fill_by_all}
use Rattle.aes_core.specs.Field.{s_box}
use Rattle.aes_core.specs.Aes.{encrypted, with_last, xor_word}
use Rattle.aes_core.specs.Words.{byte_of, times_3, word_bytes}
use Rattle.aes_core.proofs.Columns.{sum_is}
use Rattle.aes_core.proofs.LastByte.{two_rounds_are}
use Rattle.aes_core.proofs.rounds.eight_encrypted.Goals as goal

pub loop-i-init : goal.loop-i-init
loop-i-init g c = record { long = omega arith; made = λ k below. absurd (omega arith) }

pub loop-i-preserved : goal.loop-i-preserved
loop-i-preserved g c =
    let x : ℕ = slice_index c.args.block.now 15 + c.loop-i.i in
    let columns : List ℕ = c.first_columns-columns.result in
    let first : List ℕ = c.full_round-first.result in
    let column_0 : ℕ = slice_index first 0 in
    let without_last : List ℕ = xor_word (word_bytes column_0) (times_3 (s_box (byte_of (slice_index columns 3) 3))) in
    let last_added : List ℕ = times_3 (s_box (bit_xor x (slice_index (slice_index_or c.args.words.now 3 []) 3))) in
    let sum_is_known : word_bytes (bit_xor column_0 c.product_3.result) ≡ without_last =
    rw (← c.byte_3.ensures) (sum_is column_0 c.product_3.result _ _ refl c.product_3.ensures) in
    let column : ℕ = bit_xor (bit_xor column_0 c.product_3.result) c.product_3-in-loop-i.result in
    let column_is : word_bytes column ≡ xor_word without_last last_added =
    sum_is (bit_xor column_0 c.product_3.result) c.product_3-in-loop-i.result without_last last_added sum_is_known c.product_3-in-loop-i.ensures in
    let start = two_rounds_are c.args.words.now c.args.block.now x columns first c.full_round-second.result c.plus_column_0-sums.result c.plus_column_0-start.result column
    c.first_columns-columns.ensures c.full_round-first.ensures c.full_round-second.ensures column_is
    c.plus_column_0-sums.ensures.column_0 c.plus_column_0-sums.ensures.column_1 c.plus_column_0-sums.ensures.column_2 c.plus_column_0-sums.ensures.column_3
    c.plus_column_0-start.ensures.column_0 c.plus_column_0-start.ensures.column_1 c.plus_column_0-start.ensures.column_2 c.plus_column_0-start.ensures.column_3 in
    record {
      long = simp length-set c.loop-i.invariant.long;
      made = below_more _ _
          (λ k below. let other : k ≢ c.loop-i.i = omega arith in rw get_or-set_other (c.loop-i.invariant.made k below))
          (get_or-set_same _ c.loop-i.i c.finished-made.result [] (omega (arith, c.loop-i.invariant.long)) ∙ (c.finished-made.ensures (with_last c.args.block.now x) start));
    }

pub returns : goal.returns
returns g c =
    fill_by_all (λ k. encrypted c.args.words.now (g.row.NK + 6) (with_last c.args.block.now (slice_index c.args.block.now 15 + k))) _ 8 [] c.loop-i.invariant.long
    (λ k below. c.loop-i.invariant.made k (omega arith))
