use Rattle.std.proofs.Common.{◌≡◌, ℕ, suc, ◌+◌, ◌-◌, ◌*◌, arith, sym, ap, ◌∙◌, refl}
use Rattle.std.proofs.lemmas.List.{length-replicate, take_all}
use Rattle.std.proofs.Math.ListN.{length-set}
use Rattle.aes_core.specs.Aes.{key_words, expanded_key}
use Rattle.aes_core.proofs.Keys.{key_words-suc, expanded_key-suc, key_bytes-is, expanded_from_key_bytes}
use Rattle.aes_core.proofs.block_cipher.Aes.new.Goals as goal

-- all words are made once the second loop ends
expanded : (g : _) (c : goal.After-more g) → c.more.words ≡ expanded_key g.row.NK c.args.key.now (3 * g.row.NK + 28)
expanded g c =
    let size = c.requires.size in
    let long = c.more.invariant.long in
    let done : c.more.i ≡ g.row.W = omega arith in
    let so_many : g.row.W - g.row.NK ≡ 3 * g.row.NK + 28 = omega arith in
    sym (take_all g.row.W c.more.words (omega arith)) ∙ rw (done, so_many) at c.more.invariant.made

pub first-init : goal.first-init
unfolding key_words
first-init g c = record { long = simp length-replicate refl; copied = refl }

pub first-preserved : goal.first-preserved
first-preserved g c =
    let next : c.first.i + 1 ≡ suc c.first.i = omega arith in
    record {
      long = simp length-set c.first.invariant.long;
      copied = key_words-suc c.args.key.now c.first.words c.first.i _ (omega (arith, c.first.invariant.long)) c.first.invariant.copied refl
          ∙ ap (λ (n : ℕ). key_words n c.args.key.now) (sym next);
    }

pub more-init : goal.more-init
unfolding expanded_key
more-init g c =
    let done : c.first.i ≡ g.row.NK = omega arith in
    let none : g.row.NK - g.row.NK ≡ 0 = omega arith in
    record { long = c.first.invariant.long; made = rw none (rw done at c.first.invariant.copied) }

pub more-preserved : goal.more-preserved
more-preserved g c =
    let next : c.more.i + 1 - g.row.NK ≡ suc (c.more.i - g.row.NK) = omega arith in
    record {
      long = simp length-set c.more.invariant.long;
      made = rw next (expanded_key-suc g.row.NK c.args.key.now c.more.words c.more.i (c.more.i - g.row.NK) c.xor_word.result
          (omega arith) (omega (arith, c.more.invariant.long)) (omega arith) c.more.invariant.made
          (rw (← c.key_term-term.ensures) c.xor_word.ensures));
    }

pub invariant_of-result : goal.invariant_of-result
invariant_of-result g c =
    (c.requires.size, expanded_from_key_bytes g.row.NK c.args.key.now c.more.words c.requires.length (expanded g c))

pub returns : goal.returns
returns g c = key_bytes-is g.row.NK c.args.key.now c.more.words c.requires.length (expanded g c)
