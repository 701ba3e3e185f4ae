-- A walk whose batch is retired: its batches, their order and the mark.
use Rattle.std.proofs.Common.{◌≡◌, ◌⊎◌, inl, inr, ℕ, Bool, true, false, cond, List, [], ◌∷◌, Option, Some, None, refl, sym, ap, ◌∙◌, subst}
use Rattle.std.specs.Prelude.{◌==◌}
use Rattle.std.proofs.lemmas.Bool.{both_ways, and_parts, eqb-true}
use Rattle.inode_tree.specs.Rows.{Entry}
use Rattle.inode_tree.specs.ZoneFiles.{is_file_of, path_in}
use Rattle.reenc_walk.specs.declared.batches.WalkedBatch.{WalkedBatch}
use Rattle.reenc_walk.specs.declared.sent.Sent.{Sent}
use Rattle.reenc_walk.specs.Files.{is_after, same_edek, same_file, same_sent}
use Rattle.reenc_walk.specs.Walks.{WalkState, from_outstanding, is_of, mark_after, mark_over, retire, retired}
use Rattle.reenc_update.proofs.ChangeLemmas.{same-edek}
use Rattle.zone_table.specs.declared.statuses.StatusRow.{StatusRow}
use Rattle.zone_table.specs.Statuses.{or_mark, with_counts}
use Rattle.world_run.specs.Covered.{AreInWalkOrder, AreSentAfter, NoneShared, WalkCovered, ids_sent}
use Rattle.world_run.specs.Ledger.{Ledger}
use Rattle.world_run.specs.Promise.{In}
use Rattle.world_run.proofs.Members.{some-is}

-- the same files
pub same-files : (xs ys : List Sent) → same_sent xs ys ≡ true → xs ≡ ys
same-files [] [] h = refl
same-files [] (y ∷ ys) h = absurd cc
same-files (x ∷ xs) [] h = absurd cc
same-files (x ∷ xs) (y ∷ ys) h =
    let parts = and_parts (same_file x y) (same_sent xs ys) h in
    let file = and_parts (x.id == y.id) (same_edek x.edek y.edek) parts.0 in
    let id = eqb-true x.id y.id file.0 in
    let edek = same-edek x.edek y.edek file.1 in
    let rest = same-files xs ys parts.1 in λ i. record { id = id i; edek = edek i } ∷ rest i

-- batches that stay

pub retired-keeps : (sent : List Sent) (bs : List WalkedBatch) (b : WalkedBatch) → In b bs → is_of sent b ≡ false → In b (retired sent bs)
retired-keeps sent [] b i h = absurd i
retired-keeps sent (c ∷ cs) b i h = go (is_of sent c) refl i (λ j. retired-keeps sent cs b j h)
  where
    go : (k : Bool) → is_of sent c ≡ k → In b (c ∷ cs) → (In b cs → In b (retired sent cs)) → In b (cond k (record c { outstanding = false } ∷ cs) (c ∷ retired sent cs))
    go true e (inl is) ih = absurd (both_ways (is_of sent b) h (ap (is_of sent) is ∙ e))
    go true e (inr j) ih = inr j
    go false e (inl is) ih = inl is
    go false e (inr j) ih = inr (ih j)

pub from-keeps : (bs : List WalkedBatch) (b : WalkedBatch) → In b bs → b.outstanding ≡ true → In b (from_outstanding bs)
from-keeps [] b i out = absurd i
from-keeps (c ∷ cs) b i out = go c.outstanding refl i (λ j. from-keeps cs b j out)
  where
    go : (k : Bool) → c.outstanding ≡ k → In b (c ∷ cs) → (In b cs → In b (from_outstanding cs)) → In b (cond k (c ∷ cs) (from_outstanding cs))
    go true e j ih = j
    go false e (inl is) ih = absurd (both_ways c.outstanding e (subst (λ (d : WalkedBatch). d.outstanding ≡ true) is out))
    go false e (inr j) ih = ih j

-- what a batch was before: it has sent the same files up to the same path, and is the same if it is still outstanding
pub record WasBatch (bs : List WalkedBatch) (b : WalkedBatch) : Type 0 where
  pub old : WalkedBatch
  pub member : In old bs
  pub sent : b.sent ≡ old.sent
  pub last : b.last ≡ old.last
  pub stays : b.outstanding ≡ true → b ≡ old

later-batch : (c : WalkedBatch) (cs : List WalkedBatch) (b : WalkedBatch) → WasBatch cs b → WasBatch (c ∷ cs) b
later-batch c cs b w = record { old = w.old; member = inr w.member; sent = w.sent; last = w.last; stays = w.stays }

this-batch : (b : WalkedBatch) (cs : List WalkedBatch) → In b cs → WasBatch cs b
this-batch b cs i = record { old = b; member = i; sent = refl; last = refl; stays = λ out. refl }

was-retired : (sent : List Sent) (bs : List WalkedBatch) (b : WalkedBatch) → In b (retired sent bs) → WasBatch bs b
was-retired sent [] b i = absurd i
was-retired sent (c ∷ cs) b i = go (is_of sent c) i (was-retired sent cs b)
  where
    go : (k : Bool) → In b (cond k (record c { outstanding = false } ∷ cs) (c ∷ retired sent cs)) → (In b (retired sent cs) → WasBatch cs b) → WasBatch (c ∷ cs) b
    go true (inl is) ih = record {
      old = c;
      member = inl refl;
      sent = ap (λ (d : WalkedBatch). d.sent) is;
      last = ap (λ (d : WalkedBatch). d.last) is;
      stays = λ out. absurd (both_ways b.outstanding (ap (λ (d : WalkedBatch). d.outstanding) is) out);
    }
    go true (inr j) ih = this-batch b (c ∷ cs) (inr j)
    go false (inl is) ih = this-batch b (c ∷ cs) (inl is)
    go false (inr j) ih = later-batch c cs b (ih j)

from-was : (bs : List WalkedBatch) (b : WalkedBatch) → In b (from_outstanding bs) → In b bs
from-was [] b i = i
from-was (c ∷ cs) b i = go c.outstanding i (from-was cs b)
  where
    go : (k : Bool) → In b (cond k (c ∷ cs) (from_outstanding cs)) → (In b (from_outstanding cs) → In b cs) → In b (c ∷ cs)
    go true j ih = j
    go false j ih = inr (ih j)

pub was-batch : (sent : List Sent) (w : WalkState) (b : WalkedBatch) → In b (retire sent w).batches → WasBatch w.batches b
was-batch sent w b i = was-retired sent w.batches b (from-was (retired sent w.batches) b i)

-- their order

order-from : (rows : List Entry) (zone : ℕ) (bs : List WalkedBatch) → AreInWalkOrder rows zone bs → AreInWalkOrder rows zone (from_outstanding bs)
order-from rows zone [] o = o
order-from rows zone (c ∷ cs) o = go c.outstanding (order-from rows zone cs o.1)
  where
    go : (k : Bool) → AreInWalkOrder rows zone (from_outstanding cs) → AreInWalkOrder rows zone (cond k (c ∷ cs) (from_outstanding cs))
    go true ih = o
    go false ih = ih

order-retired : (rows : List Entry) (zone : ℕ) (sent : List Sent) (bs : List WalkedBatch) → AreInWalkOrder rows zone bs → AreInWalkOrder rows zone (retired sent bs)
order-retired rows zone sent [] o = o
order-retired rows zone sent (c ∷ cs) o = go (is_of sent c) (order-retired rows zone sent cs o.1)
  where
    go : (k : Bool) → AreInWalkOrder rows zone (retired sent cs) → AreInWalkOrder rows zone (cond k (record c { outstanding = false } ∷ cs) (c ∷ retired sent cs))
    go true ih = o
    go false ih = ((λ b x i j file m. let w = was-retired sent cs b i in o.0 w.old x w.member j file (subst (λ (s : List Sent). In x.row.id (ids_sent s)) w.sent m)), ih)

-- the files that they share: none

shared-from : (bs : List WalkedBatch) → NoneShared bs → NoneShared (from_outstanding bs)
shared-from [] o = o
shared-from (c ∷ cs) o = go c.outstanding (shared-from cs o.1)
  where
    go : (k : Bool) → NoneShared (from_outstanding cs) → NoneShared (cond k (c ∷ cs) (from_outstanding cs))
    go true ih = o
    go false ih = ih

shared-retired : (sent : List Sent) (bs : List WalkedBatch) → NoneShared bs → NoneShared (retired sent bs)
shared-retired sent [] o = o
shared-retired sent (c ∷ cs) o = go (is_of sent c) (shared-retired sent cs o.1)
  where
    go : (k : Bool) → NoneShared (retired sent cs) → NoneShared (cond k (record c { outstanding = false } ∷ cs) (c ∷ retired sent cs))
    go true ih = o
    go false ih = ((λ b i id m n. let w = was-retired sent cs b i in o.0 w.old w.member id m (subst (λ (s : List Sent). In id (ids_sent s)) w.sent n)), ih)

-- the mark

-- it is the last path of one of the batches
mark-last : (bs : List WalkedBatch) (mark : Option (List (List ℕ))) (p : List (List ℕ)) → mark_over mark bs ≡ Some p → (mark ≡ Some p) ⊎ ((b : WalkedBatch) × In b bs × (b.last ≡ p))
mark-last [] mark p h = inl h
mark-last (c ∷ cs) mark p h = go c.outstanding h (mark-last cs (Some c.last) p)
  where
    go : (k : Bool) → cond k mark (mark_over (Some c.last) cs) ≡ Some p → (mark_over (Some c.last) cs ≡ Some p → (Some c.last ≡ Some p) ⊎ ((b : WalkedBatch) × In b cs × (b.last ≡ p)))
        → (mark ≡ Some p) ⊎ ((b : WalkedBatch) × In b (c ∷ cs) × (b.last ≡ p))
    go true h ih = inl h
    go false h ih = elim (ih h) [ inl is ↦ inr (c, inl refl, some-is c.last p is) | inr l ↦ inr (l.0, inr l.1, l.2) ]

-- the files of a batch that is still outstanding come after it
mark-before : (rows : List Entry) (zone : ℕ) (bs : List WalkedBatch) (mark : Option (List (List ℕ))) (p : List (List ℕ)) → AreInWalkOrder rows zone bs → ((q : List (List ℕ)) → mark ≡ Some q → AreSentAfter rows zone q bs)
    → mark_over mark bs ≡ Some p → (b : WalkedBatch) (x : Entry) → In b bs → b.outstanding ≡ true → In x rows → is_file_of rows zone x ≡ true → In x.row.id (ids_sent b.sent)
    → is_after (Some p) (path_in rows zone x.path) ≡ true
mark-before rows zone [] mark p o after h b x i out j file m = absurd i
mark-before rows zone (c ∷ cs) mark p o after h b x i out j file m = go c.outstanding refl h i (λ e k. mark-before rows zone cs (Some c.last) p o.1 from-here e b x k out j file m)
  where
    from-here : (q : List (List ℕ)) → Some c.last ≡ Some q → AreSentAfter rows zone q cs
    from-here q is = subst (λ (r : List (List ℕ)). AreSentAfter rows zone r cs) (some-is c.last q is) o.0

    go : (k : Bool) → c.outstanding ≡ k → cond k mark (mark_over (Some c.last) cs) ≡ Some p → In b (c ∷ cs) → (mark_over (Some c.last) cs ≡ Some p → In b cs → is_after (Some p) (path_in rows zone x.path) ≡ true)
        → is_after (Some p) (path_in rows zone x.path) ≡ true
    go true e h k ih = after p h b x k j file m
    go false e h (inl is) ih = absurd (both_ways c.outstanding e (subst (λ (d : WalkedBatch). d.outstanding ≡ true) is out))
    go false e h (inr k) ih = ih h k

-- what comes after the mark that an update sets, if it sets one, and after the earlier mark
after-or : (mark earlier : Option (List (List ℕ))) (p : List (List ℕ)) → ((q : List (List ℕ)) → mark ≡ Some q → is_after (Some q) p ≡ true) → is_after earlier p ≡ true → is_after (or_mark mark earlier) p ≡ true
after-or None earlier p new old = old
after-or (Some q) earlier p new old = new q refl

-- the walk is covered, and its status with the counts of the update
pub retire-fits : (ledger : Ledger) (rows : List Entry) (s : StatusRow) (w : WalkState) (sent : List Sent) (changed failed : ℕ) → WalkCovered ledger rows s w
    → WalkCovered ledger rows (with_counts changed failed (mark_after w.batches sent) s) (retire sent w)
retire-fits ledger rows s w sent changed failed k = record {
  not_before_mark = λ p h. after-or (mark_after w.batches sent) s.mark p (λ q is. past-mark q is p h) (k.not_before_mark p h);
  after_mark = λ b x i out j file m.
      let was = was-batch sent w b i in
      after-or (mark_after w.batches sent) s.mark (path_in rows s.zone x.path)
      (λ q is. mark-before rows s.zone (retired sent w.batches) None q (order-retired rows s.zone sent w.batches k.in_order) none-yet is b x (from-was (retired sent w.batches) b i) out j file m)
      (k.after_mark was.old x was.member (subst (λ (c : WalkedBatch). c.outstanding ≡ true) (was.stays out) out) j file (subst (λ (l : List Sent). In x.row.id (ids_sent l)) was.sent m));
  up_to_cursor = λ b p i h. let was = was-batch sent w b i in subst (λ (q : List (List ℕ)). is_after (Some q) p ≡ true) (sym was.last) (k.up_to_cursor was.old p was.member h);
  some_file = λ b i none. let was = was-batch sent w b i in k.some_file was.old was.member (sym was.sent ∙ none);
  entered = λ b y i m. let was = was-batch sent w b i in k.entered was.old y was.member (subst (In y) was.sent m);
  in_order = order-from rows s.zone (retired sent w.batches) (order-retired rows s.zone sent w.batches k.in_order);
  up_to_last = λ b x i j file m.
      let was = was-batch sent w b i in
      subst (λ (q : List (List ℕ)). is_after (Some q) (path_in rows s.zone x.path) ≡ false) (sym was.last)
      (k.up_to_last was.old x was.member j file (subst (λ (l : List Sent). In x.row.id (ids_sent l)) was.sent m));
  none_shared = shared-from (retired sent w.batches) (shared-retired sent w.batches k.none_shared);
}
  where
    none-yet : (q : List (List ℕ)) → None ≡ Some q → AreSentAfter rows s.zone q (retired sent w.batches)
    none-yet q is = absurd cc

    past-mark : (q : List (List ℕ)) → mark_after w.batches sent ≡ Some q → (p : List (List ℕ)) → is_after w.cursor p ≡ true → is_after (Some q) p ≡ true
    past-mark q is p h = elim (mark-last (retired sent w.batches) None q is) [
      | inl none ↦ absurd cc
      | inr l ↦ (let was = was-retired sent w.batches l.0 l.1 in subst (λ (r : List (List ℕ)). is_after (Some r) p ≡ true) (sym was.last ∙ l.2) (k.up_to_cursor was.old p was.member h))
    ]
