-- Batches that are retired.
use Rattle.std.proofs.Common.{◌≡◌, ℕ, ◌+◌, ◌-◌, ◌<◌, ◌≤◌, zero, suc, Bool, true, false, cond, ◌||◌, List, [], ◌∷◌, ◌++◌, length, get_or, set, drop, Some, None, refl, sym, ap, ◌∙◌, arith}
use Rattle.std.specs.Prelude.{IsTrue, nat_lt}
use Rattle.std.specs.List.{filter}
use Rattle.std.proofs.lemmas.Bool.Decides.{nat_tests}
use Rattle.reenc_walk.specs.declared.batches.WalkedBatch.{WalkedBatch}
use Rattle.reenc_walk.specs.declared.sent.Sent.{Sent}
use Rattle.reenc_walk.specs.Retiring.{batch_at, run_length}
use Rattle.reenc_walk.specs.Walks.{StartsOutstanding, from_outstanding, has_batch, is_of, mark_after, mark_over, outstanding, retired}

pub drop-at : {X : Type 0} (xs : List X) (k : ℕ) (x : X) → k < length xs → x ≡ get_or xs k x → drop k xs ≡ x ∷ drop (suc k) xs
drop-at [] k x h e = absurd (omega arith)
drop-at (y ∷ ys) zero x h e = ap (λ (z : _). z ∷ ys) (sym e)
drop-at (y ∷ ys) (suc k) x h e = drop-at ys k x (omega arith) e

pub drop-end : {X : Type 0} (xs : List X) (k : ℕ) → length xs ≤ k → drop k xs ≡ []
drop-end [] zero h = refl
drop-end [] (suc k) h = refl
drop-end (x ∷ xs) zero h = absurd (omega arith)
drop-end (x ∷ xs) (suc k) h = drop-end xs k (omega arith)

-- a search goes on after a batch of other files
pub at-more : (sent : List Sent) (bs : List WalkedBatch) (k : ℕ) (b : WalkedBatch) → k < length bs → b ≡ get_or bs k b → is_of sent b ≡ false → batch_at sent bs ≡ k + batch_at sent (drop k bs) → batch_at sent bs ≡ k + 1 + batch_at sent (drop (k + 1) bs)
at-more sent bs k b h e n i =
    let f : batch_at sent (drop k bs) ≡ suc (batch_at sent (drop (suc k) bs)) = ap (batch_at sent) (drop-at bs k b h e) ∙ ap (λ (t : Bool). cond t 0 (suc (batch_at sent (drop (suc k) bs)))) n in
    let g : suc k ≡ k + 1 = omega arith in
    let j : batch_at sent (drop (suc k) bs) ≡ batch_at sent (drop (k + 1) bs) = ap (λ (m : ℕ). batch_at sent (drop m bs)) g in omega arith

pub at-here : (sent : List Sent) (bs : List WalkedBatch) (k : ℕ) (b : WalkedBatch) → k < length bs → b ≡ get_or bs k b → is_of sent b ≡ true → batch_at sent bs ≡ k + batch_at sent (drop k bs) → k ≡ batch_at sent bs
at-here sent bs k b h e n i =
    let f : batch_at sent (drop k bs) ≡ 0 = ap (batch_at sent) (drop-at bs k b h e) ∙ ap (λ (t : Bool). cond t 0 (suc (batch_at sent (drop (suc k) bs)))) n in omega arith

pub at-end : (sent : List Sent) (bs : List WalkedBatch) (k : ℕ) → length bs ≤ k → batch_at sent bs ≡ k + batch_at sent (drop k bs) → k ≡ batch_at sent bs
at-end sent bs k h i = let f : batch_at sent (drop k bs) ≡ 0 = ap (batch_at sent) (drop-end bs k h) in omega arith

-- the batches before the next outstanding one
pub run-more : (bs : List WalkedBatch) (k n : ℕ) (b : WalkedBatch) → k < length bs → b ≡ get_or bs k b → b.outstanding ≡ false → n ≡ k + run_length (drop k bs) → n ≡ k + 1 + run_length (drop (k + 1) bs)
run-more bs k n b h e o i =
    let f : run_length (drop k bs) ≡ suc (run_length (drop (suc k) bs)) = ap run_length (drop-at bs k b h e) ∙ ap (λ (t : Bool). cond t 0 (suc (run_length (drop (suc k) bs)))) o in
    let g : suc k ≡ k + 1 = omega arith in
    let j : run_length (drop (suc k) bs) ≡ run_length (drop (k + 1) bs) = ap (λ (m : ℕ). run_length (drop m bs)) g in omega arith

pub run-here : (bs : List WalkedBatch) (k n : ℕ) (b : WalkedBatch) → k < length bs → b ≡ get_or bs k b → b.outstanding ≡ true → n ≡ k + run_length (drop k bs) → k ≡ n
run-here bs k n b h e o i =
    let f : run_length (drop k bs) ≡ 0 = ap run_length (drop-at bs k b h e) ∙ ap (λ (t : Bool). cond t 0 (suc (run_length (drop (suc k) bs)))) o in omega arith

pub run-end : (bs : List WalkedBatch) (k n : ℕ) → length bs ≤ k → n ≡ k + run_length (drop k bs) → k ≡ n
run-end bs k n h i = let f : run_length (drop k bs) ≡ 0 = ap run_length (drop-end bs k h) in omega arith

pub run-most : (bs : List WalkedBatch) → run_length bs ≤ length bs
run-most [] = omega arith
run-most (b ∷ bs) = go b.outstanding (run-most bs)
  where
    go : (t : Bool) → run_length bs ≤ length bs → cond t 0 (suc (run_length bs)) ≤ suc (length bs)
    go true h = omega arith
    go false h = omega arith

-- some outstanding batch has sent the files exactly if the search finds one
pub has-at : (sent : List Sent) (bs : List WalkedBatch) → nat_lt (batch_at sent bs) (length bs) ≡ has_batch bs sent
has-at sent [] = refl
has-at sent (b ∷ bs) = go (is_of sent b) (has-at sent bs)
  where
    first : (n : ℕ) → nat_lt 0 (suc n) ≡ true
    first n = grind (arith, nat_tests)

    both : (m n : ℕ) → nat_lt (suc m) (suc n) ≡ nat_lt m n
    both m n = grind (arith, nat_tests)

    go : (t : Bool) → nat_lt (batch_at sent bs) (length bs) ≡ has_batch bs sent → nat_lt (cond t 0 (suc (batch_at sent bs))) (suc (length bs)) ≡ (t || has_batch bs sent)
    go true h = first (length bs)
    go false h = both (batch_at sent bs) (length bs) ∙ h

-- the batch that is found is retired
pub retired-at : (sent : List Sent) (bs : List WalkedBatch) (k : ℕ) (b : WalkedBatch) → k ≡ batch_at sent bs → k < length bs → b ≡ get_or bs k b → set bs k (record b { outstanding = false }) ≡ retired sent bs
retired-at sent [] k b e h f = absurd (omega arith)
retired-at sent (x ∷ bs) k b e h f = go (is_of sent x) k e h f (retired-at sent bs)
  where
    go : (t : Bool) (k : ℕ) → k ≡ cond t 0 (suc (batch_at sent bs)) → k < suc (length bs) → b ≡ get_or (x ∷ bs) k b → ((k : ℕ) (b : WalkedBatch) → k ≡ batch_at sent bs → k < length bs → b ≡ get_or bs k b → set bs k (record b { outstanding = false }) ≡ retired sent bs)
        → set (x ∷ bs) k (record b { outstanding = false }) ≡ cond t (record x { outstanding = false } ∷ bs) (x ∷ retired sent bs)
    go true zero e h f ih = ap (λ (y : WalkedBatch). record y { outstanding = false } ∷ bs) f
    go true (suc k) e h f ih = absurd (omega arith)
    go false zero e h f ih = absurd (omega arith)
    go false (suc k) e h f ih = ap (λ (ys : List WalkedBatch). x ∷ ys) (ih k b (omega arith) (omega arith) f)

pub retired-none : (sent : List Sent) (bs : List WalkedBatch) → length bs ≤ batch_at sent bs → bs ≡ retired sent bs
retired-none sent [] h = refl
retired-none sent (x ∷ bs) h = go (is_of sent x) h (retired-none sent bs)
  where
    go : (t : Bool) → suc (length bs) ≤ cond t 0 (suc (batch_at sent bs)) → (length bs ≤ batch_at sent bs → bs ≡ retired sent bs) → x ∷ bs ≡ cond t (record x { outstanding = false } ∷ bs) (x ∷ retired sent bs)
    go true h ih = absurd (omega arith)
    go false h ih = ap (λ (ys : List WalkedBatch). x ∷ ys) (ih (omega arith))

-- if a later batch is retired, the mark does not move
pub mark-stays : (sent : List Sent) (bs : List WalkedBatch) → StartsOutstanding bs → 0 < batch_at sent bs → None ≡ mark_after bs sent
mark-stays sent [] o h = refl
mark-stays sent (b ∷ bs) o h = go (is_of sent b) h
  where
    go : (t : Bool) → 0 < cond t 0 (suc (batch_at sent bs)) → None ≡ mark_over None (cond t (record b { outstanding = false } ∷ bs) (b ∷ retired sent bs))
    go true h = absurd (omega arith)
    go false h = sym (ap (λ (u : Bool). cond u None (mark_over (Some b.last) (retired sent bs))) o)

mark-run : (b : WalkedBatch) (bs : List WalkedBatch) (d : WalkedBatch) → mark_over (Some b.last) bs ≡ Some (get_or (b ∷ bs) (run_length bs) d).last
mark-run b [] d = refl
mark-run b (x ∷ bs) d = go x.outstanding (mark-run x bs d)
  where
    go : (t : Bool) → mark_over (Some x.last) bs ≡ Some (get_or (x ∷ bs) (run_length bs) d).last → cond t (Some b.last) (mark_over (Some x.last) bs) ≡ Some (get_or (b ∷ x ∷ bs) (cond t 0 (suc (run_length bs))) d).last
    go true h = refl
    go false h = h

-- if the first batch is retired, the mark moves over all retired ones after it
pub mark-moves : (sent : List Sent) (bs : List WalkedBatch) (at : ℕ) (b : WalkedBatch) (path : List (List ℕ)) → IsTrue (has_batch bs sent) → batch_at sent bs ≡ 0 → at ≡ run_length (drop 1 bs) → b ≡ get_or bs at b → path ≡ b.last → Some path ≡ mark_after bs sent
mark-moves sent [] at b path h z e f g = cc
mark-moves sent (x ∷ bs) at b path h z e f g = go (is_of sent x) z
  where
    go : (t : Bool) → cond t 0 (suc (batch_at sent bs)) ≡ 0 → Some path ≡ mark_over None (cond t (record x { outstanding = false } ∷ bs) (x ∷ retired sent bs))
    go true z = ap (λ (p : List (List ℕ)). Some p) (g ∙ ap (λ (y : WalkedBatch). y.last) (f ∙ ap (λ (n : ℕ). get_or (x ∷ bs) n b) e)) ∙ sym (mark-run x bs b)
    go false z = absurd (omega arith)

-- the batch whose path is the mark is among them
pub mark-within : (sent : List Sent) (bs : List WalkedBatch) (second : ℕ) → IsTrue (has_batch bs sent) → second ≡ 1 + run_length (drop 1 bs) → second - 1 < length bs
mark-within sent [] second h e = cc
mark-within sent (b ∷ bs) second h e = let m = run-most bs in omega arith

-- a walk has at most as many batches afterwards, and the first of them is outstanding
pub starts-from : (bs : List WalkedBatch) → StartsOutstanding (from_outstanding bs)
starts-from [] = tt
starts-from (b ∷ bs) = go b.outstanding refl (starts-from bs)
  where
    go : (t : Bool) → b.outstanding ≡ t → StartsOutstanding (from_outstanding bs) → StartsOutstanding (cond t (b ∷ bs) (from_outstanding bs))
    go true e h = e
    go false e h = h

pub few-from : (bs : List WalkedBatch) → length (from_outstanding bs) ≤ length bs
few-from [] = omega arith
few-from (b ∷ bs) = go b.outstanding (few-from bs)
  where
    go : (t : Bool) → length (from_outstanding bs) ≤ length bs → length (cond t (b ∷ bs) (from_outstanding bs)) ≤ suc (length bs)
    go true h = omega arith
    go false h = omega arith

pub same-retired : (sent : List Sent) (bs : List WalkedBatch) → length (retired sent bs) ≡ length bs
same-retired sent [] = refl
same-retired sent (b ∷ bs) = go (is_of sent b) (same-retired sent bs)
  where
    go : (t : Bool) → length (retired sent bs) ≡ length bs → length (cond t (record b { outstanding = false } ∷ bs) (b ∷ retired sent bs)) ≡ suc (length bs)
    go true h = refl
    go false h = ap suc h

pub starts-more : (bs : List WalkedBatch) (b : WalkedBatch) → StartsOutstanding bs → b.outstanding ≡ true → StartsOutstanding (bs ++ b ∷ [])
starts-more [] b h e = e
starts-more (x ∷ bs) b h e = h

pub few-outstanding : (bs : List WalkedBatch) → outstanding bs ≤ length bs
few-outstanding [] = omega arith
few-outstanding (b ∷ bs) = go b.outstanding (few-outstanding bs)
  where
    go : (t : Bool) → outstanding bs ≤ length bs → length (cond t (b ∷ filter (λ (x : WalkedBatch). x.outstanding) bs) (filter (λ (x : WalkedBatch). x.outstanding) bs)) ≤ suc (length bs)
    go true h = omega arith
    go false h = omega arith

-- the first batch that is not outstanding is left out
pub from-first : (bs : List WalkedBatch) (b : WalkedBatch) → 0 < length bs → b ≡ get_or bs 0 b → b.outstanding ≡ false → from_outstanding (drop 1 bs) ≡ from_outstanding bs
from-first [] b h e o = absurd (omega arith)
from-first (x ∷ bs) b h e o = sym (ap (λ (t : Bool). cond t (x ∷ bs) (from_outstanding bs)) (ap (λ (y : WalkedBatch). y.outstanding) (sym e) ∙ o))

pub from-here : (bs : List WalkedBatch) (b : WalkedBatch) → 0 < length bs → b ≡ get_or bs 0 b → b.outstanding ≡ true → bs ≡ from_outstanding bs
from-here [] b h e o = absurd (omega arith)
from-here (x ∷ bs) b h e o = sym (ap (λ (t : Bool). cond t (x ∷ bs) (from_outstanding bs)) (ap (λ (y : WalkedBatch). y.outstanding) (sym e) ∙ o))
