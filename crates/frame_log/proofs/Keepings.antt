-- The writes of a later compaction before its gates: the bytes after each, and what they keep of a log.
use Rattle.std.proofs.Common.{◌≡◌, ℕ, ◌+◌, ◌≤◌, Bool, true, false, not, List, [], ◌∷◌, ◌++◌, length, drop, set, refl, sym, ◌∙◌, ap, subst, arith, append_assoc, length-append, length-drop}
use Rattle.std.specs.Int.{w64, to_be_bytes}
use Rattle.std.proofs.lemmas.List.{drop-append-le, drop_at, set_at}
use Rattle.hk_base.specs.Disk.{Torn, written}
use Rattle.frame_log.specs.Format.{frames}
use Rattle.frame_log.specs.Compacts.{area_bytes, other_at}
use Rattle.frame_log.proofs.Bases.{before_first, before_second, first_at, moved_long, moved_more, second_at, split_first, split_second}
use Rattle.frame_log.proofs.Turnings.{file_by, tail_of}
use Rattle.frame_log.proofs.Writes.{torn_behind, torn_between, written_at}

-- a file by the bytes of its selector that isn't open
pub record Split (file : ℕ) (order : Bool) (old : List (List ℕ)) (end : ℕ) (this tail : List ℕ) : Type 0 where
  pub pre : List ℕ
  pub post : List ℕ
  pub is : (gate : ℕ) (numbers : List ℕ) → length numbers ≡ 16 → file_by file order old end this (gate ∷ numbers) tail ≡ pre ++ gate ∷ (numbers ++ post)
  pub at : length pre ≡ other_at order (8 + length (frames old) + 15)

pub long_by : (gate : ℕ) (numbers : List ℕ) → length numbers ≡ 16 → length (gate ∷ numbers) ≡ 17
long_by gate numbers long = omega (arith, long)

zeros : List ℕ
zeros = 0 ∷ 0 ∷ 0 ∷ 0 ∷ 0 ∷ 0 ∷ 0 ∷ 0 ∷ 0 ∷ 0 ∷ 0 ∷ 0 ∷ 0 ∷ 0 ∷ 0 ∷ 0 ∷ 0 ∷ []

pub split_other : (file : ℕ) (order : Bool) (old : List (List ℕ)) (end : ℕ) (this tail : List ℕ) → length this ≡ 17 → Split file order old end this tail
unfolding zeros
split_other file false old end this tail long = record {
  pre = before_second file old (8 + length (frames old) + 15) end this;
  post = tail;
  is = λ gate numbers sixteen. split_second file old (8 + length (frames old) + 15) end this (gate ∷ numbers) tail refl long (long_by gate numbers sixteen);
  at = second_at file old (8 + length (frames old) + 15) end this zeros tail refl long refl;
}
split_other file true old end this tail long = record {
  pre = before_first file old (8 + length (frames old) + 15) end;
  post = this ++ tail;
  is = λ gate numbers sixteen. split_first file old (8 + length (frames old) + 15) end (gate ∷ numbers) this tail refl (long_by gate numbers sixteen) long;
  at = first_at file old (8 + length (frames old) + 15) end zeros this tail refl refl long;
}

-- the two selectors the other way round
swapped : (file : ℕ) (order : Bool) (old : List (List ℕ)) (end : ℕ) (this other tail : List ℕ) → file_by file order old end this other tail ≡ file_by file (not order) old end other this tail
swapped file false old end this other tail = refl
swapped file true old end this other tail = refl

-- the gate of a selector is written
pub other_set : (file : ℕ) (order : Bool) (old : List (List ℕ)) (end : ℕ) (this numbers tail : List ℕ) → length this ≡ 17 → length numbers ≡ 16 → (gate h : ℕ)
    → set (file_by file order old end this (gate ∷ numbers) tail) (other_at order (8 + length (frames old) + 15)) h ≡ file_by file order old end this (h ∷ numbers) tail
other_set file order old end this numbers tail long sixteen gate h =
    let s = split_other file order old end this tail long in
    ap (λ (l : List ℕ). set l (other_at order (8 + length (frames old) + 15)) h) (s.is gate numbers sixteen)
    ∙ set_at s.pre gate (numbers ++ s.post) h (other_at order (8 + length (frames old) + 15)) s.at
    ∙ sym (s.is h numbers sixteen)

pub this_set : (file : ℕ) (order : Bool) (old : List (List ℕ)) (end : ℕ) (on other tail : List ℕ) → length other ≡ 17 → length on ≡ 16 → (gate h : ℕ)
    → set (file_by file order old end (gate ∷ on) other tail) (other_at (not order) (8 + length (frames old) + 15)) h ≡ file_by file order old end (h ∷ on) other tail
this_set file order old end on other tail long sixteen gate h =
    ap (λ (l : List ℕ). set l (other_at (not order) (8 + length (frames old) + 15)) h) (swapped file order old end (gate ∷ on) other tail)
    ∙ other_set file (not order) old end other on tail long sixteen gate h
    ∙ sym (swapped file order old end (h ∷ on) other tail)

-- its turn and its place
pub numbers_written : (file : ℕ) (order : Bool) (old : List (List ℕ)) (end : ℕ) (this numbers next tail bytes : List ℕ) → length this ≡ 17 → length numbers ≡ 16 → length next ≡ 16 → (gate at : ℕ) → at ≡ other_at order (8 + length (frames old) + 15) + 1
    → bytes ≡ file_by file order old end this (gate ∷ numbers) tail → written at next bytes ≡ file_by file order old end this (gate ∷ next) tail
numbers_written file order old end this numbers next tail bytes long sixteen too gate at is same =
    let s = split_other file order old end this tail long in
    let front : List ℕ = s.pre ++ gate ∷ [] in
    let place : at ≡ length front = omega (arith, is, length-append s.pre (gate ∷ []), s.at) in
    let left : drop (length next) (numbers ++ s.post) ≡ s.post = drop_at numbers s.post (length next) (sixteen ∙ sym too) in
    ap (written at next) (same ∙ s.is gate numbers sixteen ∙ sym (append_assoc s.pre (gate ∷ []) (numbers ++ s.post)))
    ∙ written_at front (numbers ++ s.post) next at place
    ∙ ap (λ (l : List ℕ). front ++ (next ++ l)) left
    ∙ append_assoc s.pre (gate ∷ []) (next ++ s.post)
    ∙ sym (s.is gate next too)

-- What a log is while nothing but the bytes of its closed selector, those before its area and those behind its end gate have changed.
module _ (file : ℕ) (order : Bool) (old : List (List ℕ)) (end : ℕ) (this gap image : List ℕ) (payloads : List (List ℕ)) (long : length this ≡ 17) where
  pub record IsKept (bytes : List ℕ) : Type 0 where
    pub numbers : List ℕ
    pub between : List ℕ
    pub rest : List ℕ
    pub sixteen : length numbers ≡ 16
    pub as_long : length between ≡ length gap
    pub is : bytes ≡ file_by file order old end this (0 ∷ numbers) (tail_of between image payloads rest)

-- the offset behind the selectors, and that of the end gate
abbrev pub behind_both : List (List ℕ) → ℕ
behind_both old = 8 + length (frames old) + 15 + 34

split_tail : (file : ℕ) (order : Bool) (old : List (List ℕ)) (end : ℕ) (this other tail : List ℕ) → file_by file order old end this other tail ≡ file_by file order old end this other [] ++ tail
split_tail file false old end this other tail = sym (moved_more file old (8 + length (frames old) + 15) end this other [] tail)
split_tail file true old end this other tail = sym (moved_more file old (8 + length (frames old) + 15) end other this [] tail)

head_long : (file : ℕ) (order : Bool) (old : List (List ℕ)) (end : ℕ) (this other : List ℕ) → length this ≡ 17 → length other ≡ 17 → length (file_by file order old end this other []) ≡ behind_both old
head_long file false old end this other one two = omega (arith, moved_long file old (8 + length (frames old) + 15) end this other [] refl one two)
head_long file true old end this other one two = omega (arith, moved_long file old (8 + length (frames old) + 15) end other this [] refl two one)

-- the bytes from the area on
abbrev pub area_on : List ℕ → List (List ℕ) → List ℕ → List ℕ
area_on image payloads rest = (to_be_bytes w64 (length image) ++ image) ++ (frames payloads ++ 0 ∷ rest)

-- the bytes behind the selectors, up to the end gate and this one too
abbrev pub shut_tail : List ℕ → List ℕ → List (List ℕ) → List ℕ
shut_tail gap image payloads = (gap ++ (to_be_bytes w64 (length image) ++ image)) ++ (frames payloads ++ 0 ∷ [])

shut_more : (gap image : List ℕ) (payloads : List (List ℕ)) (rest : List ℕ) → shut_tail gap image payloads ++ rest ≡ tail_of gap image payloads rest
shut_more gap image payloads rest =
    append_assoc (gap ++ (to_be_bytes w64 (length image) ++ image)) (frames payloads ++ 0 ∷ []) rest
    ∙ ap (λ (l : List ℕ). (gap ++ (to_be_bytes w64 (length image) ++ image)) ++ l) (append_assoc (frames payloads) (0 ∷ []) rest)

shut_long : (gap image : List ℕ) (payloads : List (List ℕ)) → length (shut_tail gap image payloads) ≡ length gap + 8 + length image + length (frames payloads) + 1
shut_long gap image payloads =
    omega (arith, length-append (gap ++ (to_be_bytes w64 (length image) ++ image)) (frames payloads ++ 0 ∷ []), length-append gap (to_be_bytes w64 (length image) ++ image), length-append (to_be_bytes w64 (length image)) image, length-append (frames payloads) (0 ∷ []))

module _ (file : ℕ) (order : Bool) (old : List (List ℕ)) (end : ℕ) (this gap image : List ℕ) (payloads : List (List ℕ)) (long : length this ≡ 17) where
  -- the turn and the place of the closed selector
  pub kept_numbers : (at : ℕ) (d c : List ℕ) → at ≡ other_at order (8 + length (frames old) + 15) + 1 → IsKept file order old end this gap image payloads long d → Torn at 16 d c → IsKept file order old end this gap image payloads long c
  kept_numbers at d c is k torn =
      let tail : List ℕ = tail_of k.between image payloads k.rest in
      let s = split_other file order old end this tail long in
      let front : List ℕ = s.pre ++ 0 ∷ [] in
      let place : at ≡ length front = omega (arith, is, length-append s.pre (0 ∷ []), s.at) in
      let same : d ≡ front ++ (k.numbers ++ s.post) = k.is ∙ s.is 0 k.numbers k.sixteen ∙ sym (append_assoc s.pre (0 ∷ []) (k.numbers ++ s.post)) in
      let now = torn_between front k.numbers s.post at 16 c (omega (arith, place)) (omega (arith, place, k.sixteen)) (subst (λ (l : List ℕ). Torn at 16 l c) same torn) in
      let sixteen : length now.0 ≡ 16 = now.1 ∙ k.sixteen in
      record {
        numbers = now.0;
        between = k.between;
        rest = k.rest;
        sixteen = sixteen;
        as_long = k.as_long;
        is = now.2 ∙ append_assoc s.pre (0 ∷ []) (now.0 ++ s.post) ∙ sym (s.is 0 now.0 sixteen);
      }

  -- the bytes between the selectors and the area
  pub kept_gap : (at n : ℕ) (d c : List ℕ) → at ≡ behind_both old → n ≤ length gap → IsKept file order old end this gap image payloads long d → Torn at n d c → IsKept file order old end this gap image payloads long c
  kept_gap at n d c is fits k torn =
      let head : List ℕ = file_by file order old end this (0 ∷ k.numbers) [] in
      let later : List ℕ = area_on image payloads k.rest in
      let size : length head ≡ behind_both old = head_long file order old end this (0 ∷ k.numbers) long (long_by 0 k.numbers k.sixteen) in
      let same : d ≡ head ++ (k.between ++ later) =
      k.is
      ∙ split_tail file order old end this (0 ∷ k.numbers) (tail_of k.between image payloads k.rest)
      ∙ ap (λ (l : List ℕ). head ++ l) (append_assoc k.between (to_be_bytes w64 (length image) ++ image) (frames payloads ++ 0 ∷ k.rest)) in
      let now = torn_between head k.between later at n c (omega (arith, is, size)) (omega (arith, is, size, fits, k.as_long)) (subst (λ (l : List ℕ). Torn at n l c) same torn) in
      record {
        numbers = k.numbers;
        between = now.0;
        rest = k.rest;
        sixteen = k.sixteen;
        as_long = now.1 ∙ k.as_long;
        is =
            now.2
            ∙ ap (λ (l : List ℕ). head ++ l) (sym (append_assoc now.0 (to_be_bytes w64 (length image) ++ image) (frames payloads ++ 0 ∷ k.rest)))
            ∙ sym (split_tail file order old end this (0 ∷ k.numbers) (tail_of now.0 image payloads k.rest));
      }

  -- the bytes behind the end gate
  pub kept_end : (at n : ℕ) (d c : List ℕ) → at ≡ behind_both old + length gap + 8 + length image + length (frames payloads) + 1 → IsKept file order old end this gap image payloads long d → Torn at n d c → IsKept file order old end this gap image payloads long c
  kept_end at n d c is k torn =
      let head : List ℕ = file_by file order old end this (0 ∷ k.numbers) [] in
      let front : List ℕ = head ++ shut_tail k.between image payloads in
      let size : length head ≡ behind_both old = head_long file order old end this (0 ∷ k.numbers) long (long_by 0 k.numbers k.sixteen) in
      let whole : length front ≡ at = omega (arith, is, size, length-append head (shut_tail k.between image payloads), shut_long k.between image payloads, k.as_long) in
      let same : d ≡ front ++ k.rest =
      k.is
      ∙ split_tail file order old end this (0 ∷ k.numbers) (tail_of k.between image payloads k.rest)
      ∙ ap (λ (l : List ℕ). head ++ l) (sym (shut_more k.between image payloads k.rest))
      ∙ sym (append_assoc head (shut_tail k.between image payloads) k.rest) in
      let now = torn_behind front k.rest at n c (omega (arith, whole)) (subst (λ (l : List ℕ). Torn at n l c) same torn) in
      record {
        numbers = k.numbers;
        between = k.between;
        rest = now.0;
        sixteen = k.sixteen;
        as_long = k.as_long;
        is =
            now.1
            ∙ append_assoc head (shut_tail k.between image payloads) now.0
            ∙ ap (λ (l : List ℕ). head ++ l) (shut_more k.between image payloads now.0)
            ∙ sym (split_tail file order old end this (0 ∷ k.numbers) (tail_of k.between image payloads now.0));
      }

-- A log whose new area is written: the bytes behind the selectors hold the present area, and the new one.
pub record HasBoth (file : ℕ) (order : Bool) (old : List (List ℕ)) (end : ℕ) (this numbers image new_image : List ℕ) (payloads : List (List ℕ)) (long_gap place : ℕ) (bytes : List ℕ) : Type 0 where
  pub gap : List ℕ
  pub new_gap : List ℕ
  pub rest : List ℕ
  pub more : List ℕ
  pub as_long : length gap ≡ long_gap
  pub at : place ≡ behind_both old + length new_gap
  pub tails : tail_of gap image payloads rest ≡ tail_of new_gap new_image [] more
  pub is : bytes ≡ file_by file order old end this (0 ∷ numbers) (tail_of gap image payloads rest)

area_more : (image more : List ℕ) → area_bytes image ++ more ≡ tail_of [] image [] more
area_more image more =
    append_assoc (to_be_bytes w64 (length image)) (image ++ 0 ∷ []) more
    ∙ ap (λ (l : List ℕ). to_be_bytes w64 (length image) ++ l) (append_assoc image (0 ∷ []) more)
    ∙ sym (append_assoc (to_be_bytes w64 (length image)) image (0 ∷ more))

area_long : (image : List ℕ) → length (area_bytes image) ≡ length image + 9
area_long image = omega (arith, length-append (to_be_bytes w64 (length image)) (image ++ 0 ∷ []), length-append image (0 ∷ []))

module _ (file : ℕ) (order : Bool) (old : List (List ℕ)) (end : ℕ) (this numbers gap image new_image : List ℕ) (payloads : List (List ℕ)) (rest : List ℕ) (long : length this ≡ 17) (sixteen : length numbers ≡ 16) where
  head : List ℕ
  head = file_by file order old end this (0 ∷ numbers) []

  size : length head ≡ behind_both old
  unfolding head
  size = head_long file order old end this (0 ∷ numbers) long (long_by 0 numbers sixteen)

  -- before the present area
  pub both_gap : (at : ℕ) (d c : List ℕ) → at ≡ behind_both old → length new_image + 9 ≤ length gap → d ≡ file_by file order old end this (0 ∷ numbers) (tail_of gap image payloads rest) → c ≡ written at (area_bytes new_image) d → HasBoth file order old end this numbers image new_image payloads (length gap) at c
  unfolding head
  both_gap at d c is fits same wrote =
      let ab : List ℕ = area_bytes new_image in
      let n : ℕ = length ab in
      let left : List ℕ = drop n gap in
      let later : List ℕ = area_on image payloads rest in
      let start : List ℕ = file_by file order old end this (0 ∷ numbers) [] in
      let short : n ≤ length gap = omega (arith, area_long new_image, fits) in
      let split : d ≡ start ++ (gap ++ later) =
      same
      ∙ split_tail file order old end this (0 ∷ numbers) (tail_of gap image payloads rest)
      ∙ ap (λ (l : List ℕ). start ++ l) (append_assoc gap (to_be_bytes w64 (length image) ++ image) (frames payloads ++ 0 ∷ rest)) in
      let now : c ≡ start ++ ((ab ++ left) ++ later) =
      wrote
      ∙ ap (written at ab) split
      ∙ written_at start (gap ++ later) ab at (omega (arith, is, size))
      ∙ ap (λ (l : List ℕ). start ++ (ab ++ l)) (drop-append-le n gap later short)
      ∙ ap (λ (l : List ℕ). start ++ l) (sym (append_assoc ab left later)) in
      let regroup : tail_of (ab ++ left) image payloads rest ≡ (ab ++ left) ++ later = append_assoc (ab ++ left) (to_be_bytes w64 (length image) ++ image) (frames payloads ++ 0 ∷ rest) in
      record {
        gap = ab ++ left;
        new_gap = [];
        rest = rest;
        more = left ++ later;
        as_long = omega (arith, length-append ab left, length-drop n gap, short);
        at = omega (arith, is);
        tails = regroup ∙ append_assoc ab left later ∙ area_more new_image (left ++ later);
        is = now ∙ ap (λ (l : List ℕ). start ++ l) (sym regroup) ∙ sym (split_tail file order old end this (0 ∷ numbers) (tail_of (ab ++ left) image payloads rest));
      }

  -- behind the end gate
  pub both_end : (at : ℕ) (d c : List ℕ) → at ≡ behind_both old + length gap + 8 + length image + length (frames payloads) + 1 → d ≡ file_by file order old end this (0 ∷ numbers) (tail_of gap image payloads rest) → c ≡ written at (area_bytes new_image) d → HasBoth file order old end this numbers image new_image payloads (length gap) at c
  unfolding head
  both_end at d c is same wrote =
      let ab : List ℕ = area_bytes new_image in
      let left : List ℕ = drop (length ab) rest in
      let start : List ℕ = file_by file order old end this (0 ∷ numbers) [] in
      let shut : List ℕ = shut_tail gap image payloads in
      let whole : at ≡ length (start ++ shut) = omega (arith, is, size, length-append start shut, shut_long gap image payloads) in
      let split : d ≡ (start ++ shut) ++ rest =
      same
      ∙ split_tail file order old end this (0 ∷ numbers) (tail_of gap image payloads rest)
      ∙ ap (λ (l : List ℕ). start ++ l) (sym (shut_more gap image payloads rest))
      ∙ sym (append_assoc start shut rest) in
      let now : c ≡ start ++ (shut ++ (ab ++ left)) = wrote ∙ ap (written at ab) split ∙ written_at (start ++ shut) rest ab at whole ∙ append_assoc start shut (ab ++ left) in
      record {
        gap = gap;
        new_gap = shut;
        rest = ab ++ left;
        more = left;
        as_long = refl;
        at = omega (arith, is, shut_long gap image payloads);
        tails =
            sym (shut_more gap image payloads (ab ++ left))
            ∙ ap (λ (l : List ℕ). shut ++ l) (area_more new_image left)
            ∙ sym (append_assoc shut (to_be_bytes w64 (length new_image) ++ new_image) (0 ∷ left));
        is = now ∙ ap (λ (l : List ℕ). start ++ l) (shut_more gap image payloads (ab ++ left)) ∙ sym (split_tail file order old end this (0 ∷ numbers) (tail_of gap image payloads (ab ++ left)));
      }
