-- Files that are collected from the rows of a tree, from a place on.
use Rattle.std.proofs.Common.{◌≡◌, ℕ, ◌+◌, ◌<◌, ◌≤◌, zero, suc, Bool, true, false, cond, List, [], ◌∷◌, ◌++◌, length, take, drop, Option, Some, None, is_some, refl, sym, ap, ◌∙◌, subst, arith, length-append, take_all}
use Rattle.std.specs.Prelude.{slice_get}
use Rattle.std.specs.List.{cons_option, filter}
use Rattle.std.specs.Option.{option_map}
use Rattle.std.proofs.Math.Seq.{take-append_seam}
use Rattle.std.proofs.lemmas.List.{append-nil}
use Rattle.std.proofs.lemmas.Bool.{and_parts}
use Rattle.hk_base.specs.Names.{Encrypted}
use Rattle.name_calls.specs.Paths.{is_prefix}
use Rattle.inode_tree.specs.Rows.{Entry, IsRows, entry_of, same_id, zone_id}
use Rattle.inode_tree.specs.declared.rows.Row.{Row}
use Rattle.reenc_walk.specs.declared.files.Files.{Files}
use Rattle.reenc_walk.specs.declared.sent.Sent.{Sent}
use Rattle.reenc_walk.specs.Files.{edek_of, is_file_of, last_in, last_path, sent_list, sent_of, walk_list}
use Rattle.reenc_walk.specs.Steps.{Goes, IsFound, IsStart, Packs, added, file_sent, last_after}
use Rattle.reenc_walk.proofs.Starts.{at-get, get-some}
use Rattle.reenc_walk.proofs.Takes.{filter-more, filter-none, filter-parts, none-drop, none-take}
use Rattle.reenc_walk.proofs.Zoned.{each-after, no-zone, none-after, none-before, path-from-dir, test}

cons-append : (o : Option Sent) (xs ys : List Sent) → cons_option o (xs ++ ys) ≡ cons_option o xs ++ ys
cons-append None xs ys = refl
cons-append (Some s) xs ys = refl

sent-snoc : (es : List Entry) (e : Entry) (s : Sent) → sent_of e ≡ Some s → sent_list (es ++ e ∷ []) ≡ sent_list es ++ s ∷ []
sent-snoc [] e s h = ap (λ (o : Option Sent). cons_option o []) h
sent-snoc (x ∷ es) e s h = ap (cons_option (sent_of x)) (sent-snoc es e s h) ∙ cons-append (sent_of x) (sent_list es) (s ∷ [])

last-snoc : (p : List (List ℕ)) (es : List Entry) (e : Entry) → last_path p (es ++ e ∷ []) ≡ e.path
last-snoc p [] e = refl
last-snoc p (x ∷ es) e = last-snoc x.path es e

some-sent : (id : ℕ) (o : Option Encrypted) → is_some {T = Sent} (option_map (λ (edek : Encrypted). record { id = id; edek = edek }) o) ≡ is_some o
some-sent id None = refl
some-sent id (Some edek) = refl

-- what has been collected of the rows before a place
pub record IsCollected (rows : List Entry) (zone : ℕ) (after : Option (List (List ℕ))) (size start at : ℕ) (sent : List Sent) (last : ℕ) : Type 0 where
  pub sent_is : sent ≡ sent_list (filter (test rows zone after) (take at rows))
  pub count : length sent ≡ length (filter (test rows zone after) (take at rows))
  pub few : length sent ≤ size
  pub last_is : 1 ≤ length sent → option_map (λ e. e.path) (slice_get rows last) ≡ Some (last_path [] (filter (test rows zone after) (take at rows)))
  pub from : start ≤ at

module _ (rows : List Entry) (zone : ℕ) (after : Option (List (List ℕ))) (dir : List (List ℕ)) (size start : ℕ) (r : IsRows rows) (is : option_map (λ (e : Entry). e.path) (entry_of rows zone) ≡ Some dir) (s : IsStart rows dir after start) where
  -- the files among the first rows
  kept : ℕ → List Entry
  kept at = filter (test rows zone after) (take at rows)

  pub collect-none : (at last : ℕ) → at ≡ start → IsCollected rows zone after size start at [] last
  collect-none at last e = record {
    sent_is = ap sent_list (sym none);
    count = ap length (sym none);
    few = omega arith;
    last_is = λ h. absurd (omega arith);
    from = omega arith;
  }
    where
      none : filter (test rows zone after) (take at rows) ≡ []
      none = none-take (test rows zone after) at rows (λ k x b g. none-before rows zone after dir start r is s k x (omega arith) g)

  pub collect-more : (at : ℕ) (sent : List Sent) (last : ℕ) (e : Entry) → IsCollected rows zone after size start at sent last → length sent < size → slice_get rows at ≡ Some e
      → IsCollected rows zone after size start (at + 1) (added (file_sent rows zone e) sent) (last_after at (file_sent rows zone e) last)
  collect-more at sent last e c few g = go (is_file_of rows zone e) refl
    where
      whole : (t : Bool) → is_file_of rows zone e ≡ t → filter (test rows zone after) (take (at + 1) rows) ≡ filter (test rows zone after) (take at rows) ++ cond t (e ∷ []) []
      whole t h = filter-more (test rows zone after) at rows e g ∙ ap (λ (b : Bool). filter (test rows zone after) (take at rows) ++ cond b (e ∷ []) []) (each-after rows zone after dir start r is s at e c.from g ∙ h)

      same : is_file_of rows zone e ≡ false → filter (test rows zone after) (take (at + 1) rows) ≡ filter (test rows zone after) (take at rows)
      same h = whole false h ∙ append-nil (filter (test rows zone after) (take at rows))

      one : is_file_of rows zone e ≡ true → (o : Option Sent) → sent_of e ≡ o → is_some o ≡ true → IsCollected rows zone after size start (at + 1) (added o sent) (last_after at o last)
      one h None i k = cc
      one h (Some x) i k =
          let from = c.from in
          let n = c.count in
          let l : length (filter (test rows zone after) (take (at + 1) rows)) ≡ length (filter (test rows zone after) (take at rows)) + 1 = ap length (whole true h) ∙ length-append (filter (test rows zone after) (take at rows)) (e ∷ []) in
          let m : length (sent ++ x ∷ []) ≡ length sent + 1 = length-append sent (x ∷ []) in
          record {
            sent_is = ap (λ (xs : List Sent). xs ++ x ∷ []) c.sent_is ∙ sym (sent-snoc (filter (test rows zone after) (take at rows)) e x i) ∙ ap sent_list (sym (whole true h));
            count = omega arith;
            few = omega arith;
            last_is = λ _. ap (option_map (λ (y : Entry). y.path)) g ∙ ap (λ (p : List (List ℕ)). Some p) (sym (ap (last_path []) (whole true h) ∙ last-snoc [] (filter (test rows zone after) (take at rows)) e));
            from = omega arith;
          }

      go : (t : Bool) → is_file_of rows zone e ≡ t → IsCollected rows zone after size start (at + 1) (added (cond t (sent_of e) None) sent) (last_after at (cond t (sent_of e) None) last)
      go true h = one h (sent_of e) refl (some-sent e.row.id (edek_of e.row.kind) ∙ (and_parts (is_some (edek_of e.row.kind)) (same_id (zone_id rows e.path) (Some zone)) h).0)
      go false h =
          let from = c.from in
          record {
            sent_is = c.sent_is ∙ ap sent_list (sym (same h));
            count = c.count ∙ ap length (sym (same h));
            few = c.few;
            last_is = λ b. c.last_is b ∙ ap (λ (xs : List Entry). Some (last_path [] xs)) (sym (same h));
            from = omega arith;
          }

  found-by : (at : ℕ) (sent : List Sent) (last : ℕ) → IsCollected rows zone after size start at sent last → take size (filter (test rows zone after) rows) ≡ filter (test rows zone after) (take at rows) → IsFound rows zone after size sent last
  found-by at sent last c e = record {
    sent_is = c.sent_is ∙ ap sent_list (sym e);
    count = c.count ∙ ap length (sym e);
    last_is = λ b. c.last_is b ∙ ap (λ (xs : List Entry). Some (last_path [] xs)) (sym e);
  }

  found-end : (at : ℕ) (sent : List Sent) (last : ℕ) → IsCollected rows zone after size start at sent last → filter (test rows zone after) (drop at rows) ≡ [] → IsFound rows zone after size sent last
  found-end at sent last c e =
      let n = c.count in
      let few = c.few in
      let all : filter (test rows zone after) rows ≡ filter (test rows zone after) (take at rows) =
      filter-parts (test rows zone after) at rows ∙ ap (λ (xs : List Entry). filter (test rows zone after) (take at rows) ++ xs) e ∙ append-nil (filter (test rows zone after) (take at rows)) in
      found-by at sent last c (ap (take size) all ∙ take_all size (filter (test rows zone after) (take at rows)) (omega arith))

  -- there are as many as asked for
  pub found-full : (at : ℕ) (sent : List Sent) (last : ℕ) → IsCollected rows zone after size start at sent last → size ≤ length sent → IsFound rows zone after size sent last
  found-full at sent last c h =
      let n = c.count in
      let few = c.few in
      let l : size ≡ length (filter (test rows zone after) (take at rows)) = omega arith in
      found-by at sent last c
      (ap (take size) (filter-parts (test rows zone after) at rows)
      ∙ ap (λ (m : ℕ). take m (filter (test rows zone after) (take at rows) ++ filter (test rows zone after) (drop at rows))) l
      ∙ take-append_seam (filter (test rows zone after) (take at rows)) (filter (test rows zone after) (drop at rows)))

  -- there are no more rows
  pub found-all : (at : ℕ) (sent : List Sent) (last : ℕ) → IsCollected rows zone after size start at sent last → length rows ≤ at → IsFound rows zone after size sent last
  found-all at sent last c h = found-end at sent last c (none-drop (test rows zone after) at rows (λ k e b g. let w = at-get rows k e g in absurd (omega (arith, w.0))))

  -- the next row is not below the directory
  pub found-past : (at : ℕ) (sent : List Sent) (last : ℕ) (t : Bool) → IsCollected rows zone after size start at sent last → at < length rows → option_map (λ (e : Entry). is_prefix dir e.path) (slice_get rows at) ≡ Some t → t ≡ false → IsFound rows zone after size sent last
  found-past at sent last t c h f n =
      let w = get-some rows at h in
      let i : Some (is_prefix dir w.0.path) ≡ Some t = ap (option_map (λ (e : Entry). is_prefix dir e.path)) (sym w.1) ∙ f in
      let j : is_prefix dir w.0.path ≡ t = cc in
      found-end at sent last c (none-drop (test rows zone after) at rows (λ k e b g. none-after rows zone after dir start r is s at k w.0 e c.from w.1 (j ∙ n) b g))

-- the place of the last file that was found is that of a row
pub last-row : (rows : List Entry) (zone : ℕ) (after : Option (List (List ℕ))) (size : ℕ) (sent : List Sent) (last : ℕ) → IsFound rows zone after size sent last → 1 ≤ length sent → last < length rows
last-row rows zone after size sent last f h = go (slice_get rows last) refl (f.last_is h)
  where
    go : (o : Option Entry) → slice_get rows last ≡ o → option_map (λ (e : Entry). e.path) o ≡ Some (last_path [] (take size (walk_list rows zone after))) → last < length rows
    go None g i = cc
    go (Some e) g i = (at-get rows last e g).0

pub few-found : (rows : List Entry) (zone : ℕ) (after : Option (List (List ℕ))) (size : ℕ) (sent : List Sent) (last : ℕ) → IsFound rows zone after size sent last → length sent ≤ size
few-found rows zone after size sent last f = let n = f.count in let m = most size (walk_list rows zone after) in omega arith
  where
    most : (n : ℕ) (es : List Entry) → length (take n es) ≤ n
    most zero es = omega arith
    most (suc n) [] = omega arith
    most (suc n) (e ∷ es) = let m = most n es in omega arith

-- without the directory there is no next file
pub goes-none : (rows : List Entry) (zone : ℕ) (after : Option (List (List ℕ))) (row : Option Row) → IsRows rows → row ≡ None → row ≡ option_map (λ (e : Entry). e.row) (entry_of rows zone) → walk_list rows zone after ≡ []
goes-none rows zone after row r n h = filter-none (test rows zone after) rows (λ k e g. no-zone rows zone after e r (go (entry_of rows zone) row n h))
  where
    go : (o : Option Entry) (row : Option Row) → row ≡ None → row ≡ option_map (λ (e : Entry). e.row) o → o ≡ None
    go None row n h = refl
    go (Some e) row n h = cc

no-files : (n : ℕ) (es : List Entry) → 1 ≤ n → length (take n es) ≡ 0 → es ≡ []
no-files n [] h e = refl
no-files zero (x ∷ es) h e = absurd (omega arith)
no-files (suc n) (x ∷ es) h e = absurd (omega arith)

pub packs-goes : (rows : List Entry) (zone : ℕ) (after : Option (List (List ℕ))) (dir : List (List ℕ)) (size : ℕ) (sent : List Sent) (last : ℕ) (o : Option Files) → option_map (λ (e : Entry). e.path) (entry_of rows zone) ≡ Some dir → 1 ≤ size
    → IsFound rows zone after size sent last → Packs rows (length dir) sent last o → Goes rows zone after size o
packs-goes rows zone after dir size sent last None is some f p = let n = f.count in no-files size (walk_list rows zone after) some (omega (arith, p))
packs-goes rows zone after dir size sent last (Some files) is some f p = record {
  some = λ h. let n = f.count in let l = nothing size (walk_list rows zone after) h in let m = p.some in omega arith;
  sent_is = p.sent_is ∙ f.sent_is;
  kept_is = p.kept_is ∙ f.sent_is;
  last_is = path files.last p.last_is;
  cursor_is = path files.cursor p.cursor_is;
}
  where
    nothing : (n : ℕ) (es : List Entry) → es ≡ [] → length (take n es) ≡ 0
    nothing zero es e = refl
    nothing (suc n) [] e = refl
    nothing (suc n) (x ∷ es) e = cc

    path : (q : List (List ℕ)) → option_map (λ (e : Entry). drop (length dir) e.path) (slice_get rows last) ≡ Some q → q ≡ last_in rows zone (take size (walk_list rows zone after))
    path q h = go (slice_get rows last) h (f.last_is p.some)
      where
        go : (o : Option Entry) → option_map (λ (e : Entry). drop (length dir) e.path) o ≡ Some q → option_map (λ (e : Entry). e.path) o ≡ Some (last_path [] (take size (walk_list rows zone after))) → q ≡ last_in rows zone (take size (walk_list rows zone after))
        go None g i = cc
        go (Some e) g i =
            let a : drop (length dir) e.path ≡ q = cc in
            let b : e.path ≡ last_path [] (take size (walk_list rows zone after)) = cc in
            sym a ∙ ap (drop (length dir)) b ∙ sym (path-from-dir rows zone dir is (last_path [] (take size (walk_list rows zone after))))

-- the files are collected from the place on at which the walk goes on
pub record IsWalking (rows : List Entry) (zone : ℕ) (after : Option (List (List ℕ))) (dir : List (List ℕ)) (size at : ℕ) (sent : List Sent) (last : ℕ) : Type 0 where
  pub start : ℕ
  pub starts : IsStart rows dir after start
  pub collected : IsCollected rows zone after size start at sent last

module _ (rows : List Entry) (zone : ℕ) (after : Option (List (List ℕ))) (dir : List (List ℕ)) (size : ℕ) (r : IsRows rows) (is : option_map (λ (e : Entry). e.path) (entry_of rows zone) ≡ Some dir) where
  pub walk-start : (at last : ℕ) (sent : List Sent) → sent ≡ [] → IsStart rows dir after at → IsWalking rows zone after dir size at sent last
  walk-start at last sent e s = record { start = at; starts = s; collected = subst (λ (xs : List Sent). IsCollected rows zone after size at at xs last) (sym e) (collect-none rows zone after dir size at r is s at last refl) }

  pub walk-more : (at last last' : ℕ) (sent sent' : List Sent) → IsWalking rows zone after dir size at sent last → length sent < size → at < length rows
      → ((e : Entry) → slice_get rows at ≡ Some e → sent' ≡ added (file_sent rows zone e) sent) → ((e : Entry) → slice_get rows at ≡ Some e → last' ≡ last_after at (file_sent rows zone e) last)
      → IsWalking rows zone after dir size (at + 1) sent' last'
  walk-more at last last' sent sent' w few h f g =
      let e = get-some rows at h in
      record {
        start = w.start;
        starts = w.starts;
        collected = subst (λ (n : ℕ). IsCollected rows zone after size w.start (at + 1) sent' n) (sym (g e.0 e.1))
            (subst (λ (xs : List Sent). IsCollected rows zone after size w.start (at + 1) xs (last_after at (file_sent rows zone e.0) last)) (sym (f e.0 e.1)) (collect-more rows zone after dir size w.start r is w.starts at sent last e.0 w.collected few e.1));
      }

  pub walk-full : (at last : ℕ) (sent : List Sent) → IsWalking rows zone after dir size at sent last → size ≤ length sent → IsFound rows zone after size sent last
  walk-full at last sent w h = found-full rows zone after dir size w.start r is w.starts at sent last w.collected h

  pub walk-all : (at last : ℕ) (sent : List Sent) → IsWalking rows zone after dir size at sent last → length rows ≤ at → IsFound rows zone after size sent last
  walk-all at last sent w h = found-all rows zone after dir size w.start r is w.starts at sent last w.collected h

  pub walk-past : (at last : ℕ) (sent : List Sent) (t : Bool) → IsWalking rows zone after dir size at sent last → at < length rows → option_map (λ (e : Entry). is_prefix dir e.path) (slice_get rows at) ≡ Some t → t ≡ false → IsFound rows zone after size sent last
  walk-past at last sent t w h f n = found-past rows zone after dir size w.start r is w.starts at sent last t w.collected h f n
