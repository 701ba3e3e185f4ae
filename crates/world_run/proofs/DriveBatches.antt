-- The outstanding batches of a walk: how many they are when one more is taken, and when one is retired.
use Rattle.std.proofs.Common.{◌≡◌, suc, Bool, true, false, cond, ◌||◌, List, [], ◌∷◌, ◌++◌, length, refl, sym, ap, ◌∙◌}
use Rattle.std.specs.Prelude.{◌==◌}
use Rattle.std.specs.List.{filter}
use Rattle.std.proofs.lemmas.List.Folds.{list_any-append}
use Rattle.std.proofs.lemmas.Bool.{or_right, and_parts, and_from}
use Rattle.reenc_walk.specs.declared.batches.WalkedBatch.{WalkedBatch}
use Rattle.reenc_walk.specs.declared.sent.Sent.{Sent}
use Rattle.reenc_walk.specs.Files.{same_edek, same_file, same_sent}
use Rattle.reenc_walk.specs.Walks.{from_outstanding, has_batch, is_of, outstanding, retired}
use Rattle.reenc_update.proofs.ChangeLemmas.{edek-self}
use Rattle.world_run.proofs.CoveredWalks.{itself}

abbrev waiting : List WalkedBatch → List WalkedBatch
waiting bs = filter (λ (b : WalkedBatch). b.outstanding) bs

-- with one more
pub outstanding-more : (bs : List WalkedBatch) (b : WalkedBatch) → b.outstanding ≡ true → outstanding (bs ++ b ∷ []) ≡ suc (outstanding bs)
outstanding-more [] b out = ap (λ (t : Bool). length (cond t (b ∷ []) [])) out
outstanding-more (c ∷ cs) b out = go c.outstanding (outstanding-more cs b out)
  where
    go : (t : Bool) → outstanding (cs ++ b ∷ []) ≡ suc (outstanding cs) → length (cond t (c ∷ waiting (cs ++ b ∷ [])) (waiting (cs ++ b ∷ []))) ≡ suc (length (cond t (c ∷ waiting cs) (waiting cs)))
    go true ih = ap suc ih
    go false ih = ih

-- without those before the earliest outstanding one
pub outstanding-from : (bs : List WalkedBatch) → outstanding (from_outstanding bs) ≡ outstanding bs
outstanding-from [] = refl
outstanding-from (b ∷ bs) = go b.outstanding refl (outstanding-from bs)
  where
    go : (t : Bool) → b.outstanding ≡ t → outstanding (from_outstanding bs) ≡ outstanding bs → outstanding (cond t (b ∷ bs) (from_outstanding bs)) ≡ outstanding (b ∷ bs)
    go true is ih = refl
    go false is ih = ih ∙ ap (λ (t : Bool). length (cond t (b ∷ waiting bs) (waiting bs))) (sym is)

-- after one is retired
pub outstanding-retired : (sent : List Sent) (bs : List WalkedBatch) → has_batch bs sent ≡ true → outstanding bs ≡ suc (outstanding (retired sent bs))
outstanding-retired sent [] h = absurd cc
outstanding-retired sent (b ∷ bs) h = go (is_of sent b) refl h (outstanding-retired sent bs)
  where
    later : (t : Bool) → outstanding bs ≡ suc (outstanding (retired sent bs))
        → length (cond t (b ∷ waiting bs) (waiting bs)) ≡ suc (length (cond t (b ∷ waiting (retired sent bs)) (waiting (retired sent bs))))
    later true ih = ap suc ih
    later false ih = ih

    go : (t : Bool) → is_of sent b ≡ t → (t || has_batch bs sent) ≡ true → (has_batch bs sent ≡ true → outstanding bs ≡ suc (outstanding (retired sent bs)))
        → outstanding (b ∷ bs) ≡ suc (outstanding (cond t (record b { outstanding = false } ∷ bs) (b ∷ retired sent bs)))
    go true is h ih = ap (λ (t : Bool). length (cond t (b ∷ waiting bs) (waiting bs))) (and_parts b.outstanding (same_sent b.sent sent) is).0
    go false is h ih = later b.outstanding (ih h)

-- a batch is found by its files

pub sent-self : (xs : List Sent) → same_sent xs xs ≡ true
sent-self [] = refl
sent-self (x ∷ xs) = and_from (same_file x x) (same_sent xs xs) (and_from (x.id == x.id) (same_edek x.edek x.edek) (itself x.id) (edek-self x.edek)) (sent-self xs)

pub has-last : (bs : List WalkedBatch) (b : WalkedBatch) → b.outstanding ≡ true → has_batch (bs ++ b ∷ []) b.sent ≡ true
has-last bs b out =
    list_any-append (is_of b.sent) bs (b ∷ [])
    ∙ or_right (has_batch bs b.sent) (is_of b.sent b || false) (ap (λ (t : Bool). t || false) (and_from b.outstanding (same_sent b.sent b.sent) out (sent-self b.sent)))
