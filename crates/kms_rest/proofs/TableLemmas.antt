-- The table of paths gives a place that the path belongs to, and finds each such path.
use Rattle.std.proofs.Common.{◌≡◌, ℕ, List, [], ◌∷◌, ◌++◌, Some, true, refl, sym, ap, ◌∙◌, append-nil, ◌<◌, length, get_or, drop}
use Rattle.std.proofs.lemmas.List.{get_or_at}
use Rattle.matchit.specs.Router.{RouteOf}
use Rattle.matchit.specs.Seek.{first, step, own, with_suffix}
use Rattle.matchit.proofs.OnLiterals.{matchit_on_literals}
use Rattle.path_routes.specs.Shapes.{IsSegment}
use Rattle.path_routes.proofs.CompleteLemmas.{all_plain, along, all_param, slashy, goes_on, seek-along, through, to_end}
use Rattle.path_routes.proofs.SoundLemmas.{Follows, Each, seek-sound, Follows-literal, Follows-part, all_bytes}
use Rattle.kms_rest.specs.Places.{IsAt, after, before}
use Rattle.kms_rest.specs.Rows.{row_of, table, written}
use Rattle.kms_rest.proofs.WrittenLemmas.{table-written}
use Rattle.kms_rest.specs.declared.place.Place.{Place}
use Rattle.kms_rest.specs.declared.place.Place.TheVariants as at

-- the path fits the row's place
abbrev Named : List ℕ → RouteOf Place → Type 0
Named path r = (k : List ℕ) × IsAt path r.value k

each : (path : List ℕ) → Each (Named path) written path
each path =
    (part (before at.KeyCurrent) (after at.KeyCurrent) refl refl, (part (before at.KeyEek) (after at.KeyEek) refl refl, (part (before at.KeyInvalidate) (after at.KeyInvalidate) refl refl, (part (before at.KeyMetadata) (after at.KeyMetadata) refl refl, (part (before at.KeyBatch) (after at.KeyBatch) refl refl, (part (before at.KeyVersions) (after at.KeyVersions) refl refl, (part (before at.Key) (after at.Key) refl refl, (whole (before at.Metadatas) refl, (whole (before at.Names) refl, (whole (before at.Keys) refl, (part (before at.VersionEek) (after at.VersionEek) refl refl, (part (before at.Version) (after at.Version) refl refl, tt))))))))))))
  where
    part : (w u : List ℕ) → all_bytes w ≡ true → all_bytes u ≡ true → Follows (w ++ (256 ∷ u)) path → (k : List ℕ) × ((path ≡ w ++ (k ++ u)) × IsSegment k)
    part w u h g f = let r = Follows-part w u path h g f in (r.0, (r.1, r.2))

    whole : (w : List ℕ) → all_bytes w ≡ true → Follows w path → (k : List ℕ) × ((path ≡ w ++ (k ++ [])) × (k ≡ []))
    whole w h f = ([], (Follows-literal w path h f ∙ sym (append-nil w), refl))

pub sound : (path : List ℕ) (r : RouteOf Place) → first table path ≡ Some r → (k : List ℕ) × IsAt path r.value k
sound path r e = seek-sound (Named path) 0 written path r (each path) (rw table-written at e)

head-byte : (path w k u : List ℕ) (b : ℕ) → ((i : ℕ) → get_or path i 0 < 256) → path ≡ w ++ ((b ∷ k) ++ u) → b < 256
head-byte path w k u b h e =
    let here : get_or path (length w) 0 ≡ b = rw e (get_or_at w b (k ++ u) 0 (length w) refl) in
    rw here at (h (length w))

at_end : (path w k : List ℕ) → ((i : ℕ) → get_or path i 0 < 256) → path ≡ w ++ (k ++ []) → IsSegment k
    → all_plain w written ≡ true → all_param (along w written) ≡ true → slashy (step 256 (along w written)) ≡ true
    → first written path ≡ own (step 256 (along w written))
at_end path w [] h e n a b c = absurd (n.0 refl)
at_end path w (x ∷ k) h e n a b c =
    rw (e, append-nil (x ∷ k))
    (seek-along w (x ∷ k) written a ∙ to_end (along w written) x k n.1 (head-byte path w k [] x h e) b c)

at_cut : (path w k u : List ℕ) → ((i : ℕ) → get_or path i 0 < 256) → path ≡ w ++ (k ++ (47 ∷ u)) → IsSegment k
    → all_plain w written ≡ true → all_param (along w written) ≡ true → slashy (step 256 (along w written)) ≡ true → goes_on (step 256 (along w written)) ≡ true
    → first written path ≡ first (with_suffix (47 ∷ []) (step 256 (along w written))) (47 ∷ u)
at_cut path w [] u h e n a b c d = absurd (n.0 refl)
at_cut path w (x ∷ k) u h e n a b c d =
    rw e
    (seek-along w ((x ∷ k) ++ (47 ∷ u)) written a ∙ through (along w written) x k u n.1 (head-byte path w k (47 ∷ u) x h e) b c d)

at_whole : (path w k : List ℕ) → path ≡ w ++ (k ++ []) → k ≡ [] → path ≡ w
at_whole path w k e n = e ∙ ap (λ z. w ++ (z ++ [])) n ∙ append-nil w

complete-written : (path : List ℕ) → ((i : ℕ) → get_or path i 0 < 256) → (p : Place) (k : List ℕ) → IsAt path p k → first written path ≡ Some (row_of p).1
unfolding matchit_on_literals
complete-written path h at.Keys k f = ap (first written) (at_whole path (before at.Keys) k f.0 f.1) ∙ refl
complete-written path h at.Key k f = at_end path (before at.Key) k h f.0 f.1 refl refl refl ∙ refl
complete-written path h at.KeyInvalidate k f = at_cut path (before at.KeyInvalidate) k (drop 1 (after at.KeyInvalidate)) h f.0 f.1 refl refl refl refl ∙ refl
complete-written path h at.KeyMetadata k f = at_cut path (before at.KeyMetadata) k (drop 1 (after at.KeyMetadata)) h f.0 f.1 refl refl refl refl ∙ refl
complete-written path h at.KeyCurrent k f = at_cut path (before at.KeyCurrent) k (drop 1 (after at.KeyCurrent)) h f.0 f.1 refl refl refl refl ∙ refl
complete-written path h at.KeyVersions k f = at_cut path (before at.KeyVersions) k (drop 1 (after at.KeyVersions)) h f.0 f.1 refl refl refl refl ∙ refl
complete-written path h at.KeyEek k f = at_cut path (before at.KeyEek) k (drop 1 (after at.KeyEek)) h f.0 f.1 refl refl refl refl ∙ refl
complete-written path h at.KeyBatch k f = at_cut path (before at.KeyBatch) k (drop 1 (after at.KeyBatch)) h f.0 f.1 refl refl refl refl ∙ refl
complete-written path h at.Version k f = at_end path (before at.Version) k h f.0 f.1 refl refl refl ∙ refl
complete-written path h at.VersionEek k f = at_cut path (before at.VersionEek) k (drop 1 (after at.VersionEek)) h f.0 f.1 refl refl refl refl ∙ refl
complete-written path h at.Names k f = ap (first written) (at_whole path (before at.Names) k f.0 f.1) ∙ refl
complete-written path h at.Metadatas k f = ap (first written) (at_whole path (before at.Metadatas) k f.0 f.1) ∙ refl

pub complete : (path : List ℕ) → ((i : ℕ) → get_or path i 0 < 256) → (p : Place) (k : List ℕ) → IsAt path p k → first table path ≡ Some (row_of p).1
complete path h p k f = rw table-written (complete-written path h p k f)
