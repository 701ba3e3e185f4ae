-- What a delivery changes: exactly the files that are still as they were sent and for which another key came back.
use Rattle.std.proofs.Common.{◌≡◌, ◌≢◌, ℕ, ◌+◌, ◌≤◌, Bool, true, false, cond, not, ◌==◌, ◌&&◌, ◌||◌, inl, inr, List, [], ◌∷◌, ◌++◌, ◌<◌, get_or, take, take_all, length, Option, Some, None, refl, sym, ap, subst, ◌∙◌, arith}
use Rattle.std.specs.Prelude.{is_some}
use Rattle.std.specs.List.{AllByRecursion, list_any}
use Rattle.std.specs.Option.{option_map_or}
use Rattle.std.specs.Str.{bytes_eq}
use Rattle.std.proofs.lemmas.Bool.{eqb-true, and_from, and_parts}
use Rattle.std.proofs.lemmas.Bool.Decides.{nat_tests}
use Rattle.std.proofs.lemmas.List.{length-take-le, take_more}
use Rattle.std.proofs.lemmas.Option.{same_Some}
use Rattle.std.proofs.lemmas.Slice.Eq.{bytes_eq-Decides}
use Rattle.hk_base.specs.Names.{Encrypted}
use Rattle.edit_ops.specs.declared.files.FileKey.{FileKey}
use Rattle.inode_tree.specs.Rows.{Entry, entry_of, same_id, zone_id}
use Rattle.inode_tree.specs.ZoneFiles.{edek_of, is_file_of}
use Rattle.reenc_walk.specs.declared.sent.Sent.{Sent}
use Rattle.reenc_walk.specs.Files.{same_edek}
use Rattle.reenc_update.specs.Changes.{changed, changes_of, has_edek, is_changed}
use Rattle.reenc_update.specs.Laws.{CameFor, HasInZone, In, IsDelivered, once_by}
use Rattle.reenc_update.specs.Replies.{FitsSent, are_of_keys}
use Rattle.reenc_update.specs.declared.reply.BatchResult.{BatchResult}
use Rattle.reenc_update.specs.declared.reply.BatchResult.TheVariants.{Refused, Ready}

bytes-same : (xs ys : List ℕ) → bytes_eq xs ys ≡ true → xs ≡ ys
bytes-same xs ys e = (bytes_eq-Decides xs ys).0 e

bytes-self : (xs : List ℕ) → bytes_eq xs xs ≡ true
bytes-self xs = (bytes_eq-Decides xs xs).1 refl

number-self : (n : ℕ) → (n == n) ≡ true
number-self n = grind (arith, nat_tests)

-- encrypted keys that compare as the same are the same
pub same-edek : (a b : Encrypted) → same_edek a b ≡ true → a ≡ b
same-edek a b e =
    let p = and_parts (bytes_eq a.version.key b.version.key && a.version.number == b.version.number && bytes_eq a.iv b.iv) (bytes_eq a.sealed b.sealed) e in
    let q = and_parts (bytes_eq a.version.key b.version.key && a.version.number == b.version.number) (bytes_eq a.iv b.iv) p.0 in
    let r = and_parts (bytes_eq a.version.key b.version.key) (a.version.number == b.version.number) q.0 in
    let key = bytes-same a.version.key b.version.key r.0 in
    let number : a.version.number ≡ b.version.number = eqb-true a.version.number b.version.number r.1 in
    let iv = bytes-same a.iv b.iv q.1 in
    let sealed = bytes-same a.sealed b.sealed p.1 in
    λ i. record { version = record { key = key i; number = number i }; iv = iv i; sealed = sealed i }

pub edek-self : (a : Encrypted) → same_edek a a ≡ true
edek-self a =
    and_from _ _ (and_from _ _ (and_from _ _ (bytes-self a.version.key) (number-self a.version.number)) (bytes-self a.iv)) (bytes-self a.sealed)

same-zone : (o : Option ℕ) (zone : ℕ) → same_id o (Some zone) ≡ true → o ≡ Some zone
same-zone None zone e = cc
same-zone (Some n) zone e = ap (λ (m : ℕ). Some m) (eqb-true n zone e)

same-key : (o : Option Encrypted) (edek : Encrypted) → option_map_or (same_edek edek) o false ≡ true → o ≡ Some edek
same-key None edek e = cc
same-key (Some a) edek e = ap (λ (b : Encrypted). Some b) (sym (same-edek edek a e))

-- a file that changes is as it was sent, and another key came back for it
pub changes-means : (rows : List Entry) (zone : ℕ) (x : Sent) (e : Encrypted) → is_changed rows zone x e ≡ true → HasInZone rows zone x.id x.edek × (e ≢ x.edek)
changes-means rows zone x e h =
    let p = and_parts (option_map_or (has_edek rows zone x.edek) (entry_of rows x.id) false) (not (same_edek x.edek e)) h in
    (found (entry_of rows x.id) refl p.0, λ same. other (same_edek x.edek e) p.1 (ap (same_edek x.edek) same ∙ edek-self x.edek))
  where
    other : (t : Bool) → not t ≡ true → t ≡ true → ⊥
    other true e f = cc
    other false e f = cc

    found : (o : Option Entry) → entry_of rows x.id ≡ o → option_map_or (has_edek rows zone x.edek) o false ≡ true → HasInZone rows zone x.id x.edek
    found None is h = absurd cc
    found (Some entry) is h =
        let q = and_parts (is_file_of rows zone entry) (option_map_or (same_edek x.edek) (edek_of entry.row.kind) false) h in
        let r = and_parts (is_some (edek_of entry.row.kind)) (same_id (zone_id rows entry.path) (Some zone)) q.0 in
        record { entry = entry; stands = is; lies = same-zone (zone_id rows entry.path) zone r.1; has = same-key (edek_of entry.row.kind) x.edek q.1 }

file-of : (rows : List Entry) (zone : ℕ) (entry : Entry) (edek : Encrypted) → zone_id rows entry.path ≡ Some zone → edek_of entry.row.kind ≡ Some edek → is_file_of rows zone entry ≡ true
file-of rows zone entry edek lies has =
    and_from (is_some (edek_of entry.row.kind)) (same_id (zone_id rows entry.path) (Some zone)) (ap is_some has) (ap (λ (o : Option ℕ). same_id o (Some zone)) lies ∙ number-self zone)

-- and such a file changes
pub means-changes : (rows : List Entry) (zone : ℕ) (x : Sent) (e : Encrypted) → HasInZone rows zone x.id x.edek → e ≢ x.edek → is_changed rows zone x e ≡ true
means-changes rows zone x e still another =
    and_from (option_map_or (has_edek rows zone x.edek) (entry_of rows x.id) false) (not (same_edek x.edek e))
    (ap (λ (o : Option Entry). option_map_or (has_edek rows zone x.edek) o false) still.stands
    ∙ and_from (is_file_of rows zone still.entry) (option_map_or (same_edek x.edek) (edek_of still.entry.row.kind) false) (file-of rows zone still.entry x.edek still.lies still.has)
    (ap (λ (o : Option Encrypted). option_map_or (same_edek x.edek) o false) still.has ∙ edek-self x.edek))
    (other (same_edek x.edek e) refl)
  where
    other : (t : Bool) → same_edek x.edek e ≡ t → not t ≡ true
    other true same = absurd (another (sym (same-edek x.edek e same)))
    other false same = refl

-- as many encrypted keys came back as files were sent
pub fits-length : (sent : List Sent) (edeks : List Encrypted) → are_of_keys sent edeks ≡ true → length sent ≡ length edeks
fits-length [] [] fits = refl
fits-length [] (e ∷ es) fits = absurd cc
fits-length (x ∷ xs) [] fits = absurd cc
fits-length (x ∷ xs) (e ∷ es) fits = let p = and_parts (bytes_eq e.version.key x.edek.version.key) (are_of_keys xs es) fits in omega (arith, fits-length xs es p.1)

module _ (rows : List Entry) (zone : ℕ) where
  later : (x : Sent) (xs : List Sent) (e : Encrypted) (es : List Encrypted) (f : FileKey) → IsDelivered rows zone xs es f → IsDelivered rows zone (x ∷ xs) (e ∷ es) f
  later x xs e es f d = record { file = d.file; came = inr d.came; id = d.id; still = d.still; another = d.another }

  -- what changes is delivered
  pub changed-delivered : (sent : List Sent) (edeks : List Encrypted) (f : FileKey) → In f (changed rows zone sent edeks) → IsDelivered rows zone sent edeks f
  changed-delivered [] edeks f i = absurd i
  changed-delivered (x ∷ xs) [] f i = absurd i
  changed-delivered (x ∷ xs) (e ∷ es) f i = by_test (is_changed rows zone x e) (λ j. changed-delivered xs es f j) refl i
    where
      by_test : (t : Bool) → (In f (changed rows zone xs es) → IsDelivered rows zone xs es f) → is_changed rows zone x e ≡ t → In f (cond t (record { id = x.id; edek = e } ∷ changed rows zone xs es) (changed rows zone xs es)) → IsDelivered rows zone (x ∷ xs) (e ∷ es) f
      by_test true rest is (inl same) =
          let m = changes-means rows zone x e is in
          record {
            file = x;
            came = inl (refl, ap (λ (g : FileKey). g.edek) same);
            id = ap (λ (g : FileKey). g.id) (sym same);
            still = subst (λ (g : FileKey). HasInZone rows zone g.id x.edek) (sym same) m.0;
            another = λ old. m.1 (ap (λ (g : FileKey). g.edek) (sym same) ∙ old);
          }
      by_test true rest is (inr in_rest) = later x xs e es f (rest in_rest)
      by_test false rest is in_rest = later x xs e es f (rest in_rest)

  -- what is delivered changes
  pub delivered-changed : (sent : List Sent) (edeks : List Encrypted) (f : FileKey) → IsDelivered rows zone sent edeks f → In f (changed rows zone sent edeks)
  delivered-changed [] edeks f d = absurd d.came
  delivered-changed (x ∷ xs) [] f d = absurd d.came
  delivered-changed (x ∷ xs) (e ∷ es) f d =
      by_test (is_changed rows zone x e) (λ came. delivered-changed xs es f (record { file = d.file; came = came; id = d.id; still = d.still; another = d.another })) refl d.came
    where
      this : (d.file ≡ x) × (f.edek ≡ e) → is_changed rows zone x e ≡ true
      this is =
          let id : f.id ≡ x.id = sym d.id ∙ ap (λ (y : Sent). y.id) is.0 in
          let still : HasInZone rows zone x.id x.edek =
          subst (λ (n : ℕ). HasInZone rows zone n x.edek) id (subst (λ (y : Sent). HasInZone rows zone f.id y.edek) is.0 d.still) in
          means-changes rows zone x e still (λ old. d.another (is.1 ∙ old ∙ ap (λ (y : Sent). y.edek) (sym is.0)))

      by_test : (t : Bool) → (CameFor xs es d.file f.edek → In f (changed rows zone xs es)) → is_changed rows zone x e ≡ t → CameFor (x ∷ xs) (e ∷ es) d.file f.edek → In f (cond t (record { id = x.id; edek = e } ∷ changed rows zone xs es) (changed rows zone xs es))
      by_test true rest is (inl same) = let id : f.id ≡ x.id = sym d.id ∙ ap (λ (y : Sent). y.id) same.0 in inl (λ i. record { id = id i; edek = same.1 i })
      by_test false rest is (inl same) = let yes = this same in absurd cc
      by_test true rest is (inr came) = inr (rest came)
      by_test false rest is (inr came) = rest came

  changed-append : (xs ys : List Sent) (es fs : List Encrypted) → length xs ≡ length es → changed rows zone (xs ++ ys) (es ++ fs) ≡ changed rows zone xs es ++ changed rows zone ys fs
  changed-append [] ys [] fs h = refl
  changed-append [] ys (e ∷ es) fs h = absurd (omega arith)
  changed-append (x ∷ xs) ys [] fs h = absurd (omega arith)
  changed-append (x ∷ xs) ys (e ∷ es) fs h = by_test (is_changed rows zone x e) (changed-append xs ys es fs (omega arith))
    where
      by_test : (t : Bool) → changed rows zone (xs ++ ys) (es ++ fs) ≡ changed rows zone xs es ++ changed rows zone ys fs
          → cond t (record { id = x.id; edek = e } ∷ changed rows zone (xs ++ ys) (es ++ fs)) (changed rows zone (xs ++ ys) (es ++ fs))
          ≡ cond t (record { id = x.id; edek = e } ∷ changed rows zone xs es) (changed rows zone xs es) ++ changed rows zone ys fs
      by_test true h = ap (λ (gs : List FileKey). record { id = x.id; edek = e } ∷ gs) h
      by_test false h = h

  -- what changes of the first files, and of one more
  pub changed-more : (sent : List Sent) (edeks : List Encrypted) (k : ℕ) (x : Sent) (e : Encrypted) → length sent ≡ length edeks → k < length sent → x ≡ get_or sent k x → e ≡ get_or edeks k e
      → changed rows zone (take (k + 1) sent) (take (k + 1) edeks) ≡ changed rows zone (take k sent) (take k edeks) ++ changed rows zone (x ∷ []) (e ∷ [])
  changed-more sent edeks k x e same within is-x is-e =
      let p : take (k + 1) sent ≡ take k sent ++ x ∷ [] = take_more sent k x within ∙ ap (λ (y : Sent). take k sent ++ y ∷ []) (sym is-x) in
      let q : take (k + 1) edeks ≡ take k edeks ++ e ∷ [] = take_more edeks k e (omega arith) ∙ ap (λ (f : Encrypted). take k edeks ++ f ∷ []) (sym is-e) in
      (λ i. changed rows zone (p i) (q i))
      ∙ changed-append (take k sent) (x ∷ []) (take k edeks) (e ∷ []) (length-take-le k sent (omega arith) ∙ sym (length-take-le k edeks (omega arith)))

  pub changed-all : (sent : List Sent) (edeks : List Encrypted) (k : ℕ) → length sent ≡ length edeks → length sent ≤ k → changed rows zone (take k sent) (take k edeks) ≡ changed rows zone sent edeks
  changed-all sent edeks k same le = λ i. changed rows zone (take_all k sent le i) (take_all k edeks (omega arith) i)

  pub few-changed : (sent : List Sent) (edeks : List Encrypted) → length (changed rows zone sent edeks) ≤ length sent
  few-changed [] edeks = omega arith
  few-changed (x ∷ xs) [] = omega arith
  few-changed (x ∷ xs) (e ∷ es) = by_test (is_changed rows zone x e) (few-changed xs es)
    where
      by_test : (t : Bool) → length (changed rows zone xs es) ≤ length xs → length (cond t (record { id = x.id; edek = e } ∷ changed rows zone xs es) (changed rows zone xs es)) ≤ length (x ∷ xs)
      by_test true few = omega arith
      by_test false few = omega arith

  pub each-counted : (sent : List Sent) (r : BatchResult) → length (changes_of rows zone sent r).files + (changes_of rows zone sent r).skipped + (changes_of rows zone sent r).failed ≡ length sent
  each-counted sent Refused = omega arith
  each-counted sent (Ready edeks) = omega (arith, few-changed sent edeks)

  or-parts : (a b : Bool) → (a || b) ≡ false → (a ≡ false) × (b ≡ false)
  or-parts true b e = cc
  or-parts false b e = (refl, e)

  other-ids : (n : ℕ) (sent : List Sent) (edeks : List Encrypted) → list_any (λ y. y.id == n) sent ≡ false → list_any (λ g. g.id == n) (changed rows zone sent edeks) ≡ false
  other-ids n [] edeks h = refl
  other-ids n (x ∷ xs) [] h = refl
  other-ids n (x ∷ xs) (e ∷ es) h = let p = or-parts (x.id == n) (list_any (λ y. y.id == n) xs) h in by_test (is_changed rows zone x e) p.0 (other-ids n xs es p.1)
    where
      by_test : (t : Bool) → (x.id == n) ≡ false → list_any (λ g. g.id == n) (changed rows zone xs es) ≡ false → list_any (λ g. g.id == n) (cond t (record { id = x.id; edek = e } ∷ changed rows zone xs es) (changed rows zone xs es)) ≡ false
      by_test true a b = ap (λ (t : Bool). t || list_any (λ g. g.id == n) (changed rows zone xs es)) a ∙ b
      by_test false a b = b

  flip : (t : Bool) → not t ≡ true → t ≡ false
  flip true e = cc
  flip false e = refl

  -- if no id was sent twice, none changes twice
  pub changed-once : (sent : List Sent) (edeks : List Encrypted) → once_by (λ x. x.id) sent ≡ true → once_by (λ f. f.id) (changed rows zone sent edeks) ≡ true
  changed-once [] edeks h = refl
  changed-once (x ∷ xs) [] h = refl
  changed-once (x ∷ xs) (e ∷ es) h =
      let p = and_parts (not (list_any (λ y. y.id == x.id) xs)) (once_by (λ y. y.id) xs) h in
      by_test (is_changed rows zone x e) (other-ids x.id xs es (flip (list_any (λ y. y.id == x.id) xs) p.0)) (changed-once xs es p.1)
    where
      by_test : (t : Bool) → list_any (λ g. g.id == x.id) (changed rows zone xs es) ≡ false → once_by (λ f. f.id) (changed rows zone xs es) ≡ true
          → once_by (λ f. f.id) (cond t (record { id = x.id; edek = e } ∷ changed rows zone xs es) (changed rows zone xs es)) ≡ true
      by_test true a b = and_from (not (list_any (λ g. g.id == x.id) (changed rows zone xs es))) (once_by (λ f. f.id) (changed rows zone xs es)) (ap not a) b
      by_test false a b = b

  pub ids-stay-once : (sent : List Sent) (r : BatchResult) → once_by (λ x. x.id) sent ≡ true → once_by (λ f. f.id) (changes_of rows zone sent r).files ≡ true
  ids-stay-once sent Refused h = refl
  ids-stay-once sent (Ready edeks) h = changed-once sent edeks h

  -- what came back is of the key of what was sent
  pub came-of-key : (sent : List Sent) (edeks : List Encrypted) (file : Sent) (edek : Encrypted) → are_of_keys sent edeks ≡ true → CameFor sent edeks file edek → edek.version.key ≡ file.edek.version.key
  came-of-key [] edeks file edek fits came = absurd came
  came-of-key (x ∷ xs) [] file edek fits came = absurd came
  came-of-key (x ∷ xs) (e ∷ es) file edek fits (inl same) =
      let p = and_parts (bytes_eq e.version.key x.edek.version.key) (are_of_keys xs es) fits in
      ap (λ (a : Encrypted). a.version.key) same.1 ∙ bytes-same e.version.key x.edek.version.key p.0 ∙ ap (λ (y : Sent). y.edek.version.key) (sym same.0)
  came-of-key (x ∷ xs) (e ∷ es) file edek fits (inr came) =
      let p = and_parts (bytes_eq e.version.key x.edek.version.key) (are_of_keys xs es) fits in came-of-key xs es file edek p.1 came

  pub keys-stay : (sent : List Sent) (r : BatchResult) (f : FileKey) (e : Entry) (edek : Encrypted) → FitsSent sent r → In f (changes_of rows zone sent r).files
      → entry_of rows f.id ≡ Some e → edek_of e.row.kind ≡ Some edek → f.edek.version.key ≡ edek.version.key
  keys-stay sent Refused f e edek fits i stands has = absurd i
  keys-stay sent (Ready edeks) f e edek fits i stands has =
      let d = changed-delivered sent edeks f i in
      let entry : d.still.entry ≡ e = same_Some d.still.entry e (sym d.still.stands ∙ stands) in
      let key : d.file.edek ≡ edek = same_Some d.file.edek edek (sym d.still.has ∙ ap (λ (x : Entry). edek_of x.row.kind) entry ∙ has) in
      came-of-key sent edeks d.file f.edek fits d.came ∙ ap (λ (a : Encrypted). a.version.key) key

  -- a changed file lies in the zone, and its new key is of the key of the one that it has
  pub record CanTake (f : FileKey) : Type 0 where
    pub entry : Entry
    pub stands : entry_of rows f.id ≡ Some entry
    pub is_file : is_file_of rows zone entry ≡ true
    pub of_key : option_map_or (λ edek. bytes_eq f.edek.version.key edek.version.key) (edek_of entry.row.kind) false ≡ true

  each-in : (P : FileKey → Type 0) (fs : List FileKey) → ((f : FileKey) → In f fs → P f) → AllByRecursion P fs
  each-in P [] h = tt
  each-in P (f ∷ fs) h = (h f (inl refl), each-in P fs (λ g i. h g (inr i)))

  pub each-can-take : (sent : List Sent) (r : BatchResult) → FitsSent sent r → AllByRecursion CanTake (changes_of rows zone sent r).files
  each-can-take sent Refused fits = tt
  each-can-take sent (Ready edeks) fits = each-in CanTake (changed rows zone sent edeks) take
    where
      take : (f : FileKey) → In f (changed rows zone sent edeks) → CanTake f
      take f i =
          let d = changed-delivered sent edeks f i in
          let entry = d.still.entry in
          let key = came-of-key sent edeks d.file f.edek fits d.came in
          record {
            entry = entry;
            stands = d.still.stands;
            is_file = file-of rows zone entry d.file.edek d.still.lies d.still.has;
            of_key =
                ap (λ (o : Option Encrypted). option_map_or (λ edek. bytes_eq f.edek.version.key edek.version.key) o false) d.still.has
                ∙ ap (λ (k : List ℕ). bytes_eq k d.file.edek.version.key) key ∙ bytes-self d.file.edek.version.key;
          }
