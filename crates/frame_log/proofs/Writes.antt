-- Writes within a range of a file, one after another.
use Rattle.std.proofs.Common.{◌≡◌, ℕ, suc, get_or, ◌+◌, ◌-◌, ◌<◌, ◌≤◌, List, [], ◌∷◌, ◌++◌, length, take, drop, set, IsTrue, refl, sym, ◌∙◌, ap, subst, arith, append_assoc, length-append, length-drop, take-append-drop, inl, inr}
use Rattle.std.proofs.lemmas.List.{drop_at, drop-drop, drop-take, drop_more, length-take-le, set_split, take_at, take-take}
use Rattle.hk_base.specs.Disk.{CallOn, DiskState, Follows, LeavesOnly, Reads, RunOn, Tells, Torn, piece, written}
use Rattle.hk_base.proofs.Runs.{begin, compose, then}
use Rattle.frame_log.specs.Writes.{IsApart, WritesOn}
use Rattle.frame_log.proofs.Goings.{going}

-- ---- bytes

-- the same bytes before or after a range are so before or after a longer one
less_before : (i j : ℕ) (d e : List ℕ) → j ≤ i → take i e ≡ take i d → take j e ≡ take j d
less_before i j d e le same = sym (take-take j i e le) ∙ ap (λ (l : List ℕ). take j l) same ∙ take-take j i d le

less_after : (i j : ℕ) (d e : List ℕ) → i ≤ j → drop i e ≡ drop i d → drop j e ≡ drop j d
less_after i j d e le same =
    let split : i + (j - i) ≡ j = omega arith in
    ap (λ (k : ℕ). drop k e) (sym split)
    ∙ sym (drop-drop (j - i) i e)
    ∙ ap (λ (l : List ℕ). drop (j - i) l) same
    ∙ drop-drop (j - i) i d
    ∙ ap (λ (k : ℕ). drop k d) split

pub torn_same : (at n : ℕ) (d : List ℕ) → Torn at n d d
torn_same at n d = record { before = refl; after = refl; no_shorter = omega arith; no_longer = omega arith }

pub torn_then : (at n : ℕ) (d e f : List ℕ) → Torn at n d e → Torn at n e f → Torn at n d f
torn_then at n d e f a b = record {
  before = b.before ∙ a.before;
  after = b.after ∙ a.after;
  no_shorter = omega (arith, a.no_shorter, b.no_shorter);
  no_longer = omega (arith, a.no_longer, b.no_longer);
}

pub torn_within : (at n i m : ℕ) (d e : List ℕ) → at ≤ i → i + m ≤ at + n → Torn i m d e → Torn at n d e
torn_within at n i m d e from to t = record {
  before = less_before i at d e from t.before;
  after = less_after (i + m) (at + n) d e to t.after;
  no_shorter = t.no_shorter;
  no_longer = omega (arith, t.no_longer, to);
}

-- what a write leaves that succeeded
pub written_torn : (at : ℕ) (bytes d : List ℕ) → at ≤ length d → Torn at (length bytes) d (written at bytes d)
written_torn at bytes d place =
    let head : length (take at d) ≡ at = length-take-le at d place in
    let both : length (take at d ++ bytes) ≡ at + length bytes = omega (arith, length-append (take at d) bytes, head) in
    let rest : List ℕ = drop (at + length bytes) d in
    let size : length (written at bytes d) ≡ at + length bytes + length rest = omega (arith, length-append (take at d ++ bytes) rest, both) in
    let tail : length rest ≡ length d - (at + length bytes) = length-drop (at + length bytes) d in
    record {
      before = ap (λ (l : List ℕ). take at l) (append_assoc (take at d) bytes rest) ∙ take_at (take at d) (bytes ++ rest) at head;
      after = drop_at (take at d ++ bytes) rest (at + length bytes) both;
      no_shorter = omega (arith, size, tail);
      no_longer = omega (arith, size, tail);
    }

-- bytes written behind a front
pub written_at : (front back bytes : List ℕ) (at : ℕ) → at ≡ length front → written at bytes (front ++ back) ≡ front ++ (bytes ++ drop (length bytes) back)
written_at front back bytes at is =
    let after : drop (at + length bytes) (front ++ back) ≡ drop (length bytes) back =
    sym (drop-drop (length bytes) at (front ++ back)) ∙ ap (λ (l : List ℕ). drop (length bytes) l) (drop_at front back at (sym is)) in
    (λ i. take_at front back at (sym is) i ++ bytes ++ after i) ∙ append_assoc front bytes (drop (length bytes) back)

-- bytes written behind bytes that were written
pub written_on : (at : ℕ) (bytes more d : List ℕ) → at ≤ length d → written (at + length bytes) more (written at bytes d) ≡ written at (bytes ++ more) d
written_on at bytes more d place =
    let rest : List ℕ = drop (at + length bytes) d in
    let head : length (take at d) ≡ at = length-take-le at d place in
    let both : at + length bytes ≡ length (take at d ++ bytes) = omega (arith, length-append (take at d) bytes, head) in
    let long : at + length bytes + length more ≡ at + length (bytes ++ more) = omega (arith, length-append bytes more) in
    let left : drop (length more) rest ≡ drop (at + length (bytes ++ more)) d = drop-drop (length more) (at + length bytes) d ∙ ap (λ (k : ℕ). drop k d) long in
    written_at (take at d ++ bytes) rest more (at + length bytes) both
    ∙ sym (append_assoc (take at d ++ bytes) more (drop (length more) rest))
    ∙ (λ i. append_assoc (take at d) bytes more i ++ left i)

pub written_next : (at k : ℕ) (bytes more d e f : List ℕ) → at ≤ length d → k ≡ at + length bytes → e ≡ written at bytes d → f ≡ written k more e → f ≡ written at (bytes ++ more) d
written_next at k bytes more d e f place is first second = second ∙ (λ i. written (is i) more (first i)) ∙ written_on at bytes more d place

pub written_long : (at : ℕ) (bytes d : List ℕ) → at ≤ length d → at + length bytes ≤ length (written at bytes d)
written_long at bytes d place =
    let head : length (take at d) ≡ at = length-take-le at d place in
    omega (arith, length-append (take at d ++ bytes) (drop (at + length bytes) d), length-append (take at d) bytes, head)

-- a range apart from the one that is written reads the same
pub torn_apart : (at n from count : ℕ) (d e : List ℕ) → IsApart at n from count → Torn at n d e → piece from count e ≡ piece from count d
torn_apart at n from count d e (inl before) t =
    sym (drop-take from count e)
    ∙ ap (λ (l : List ℕ). drop from l) (less_before at (from + count) d e before t.before)
    ∙ drop-take from count d
torn_apart at n from count d e (inr after) t = ap (λ (l : List ℕ). take count l) (less_after (at + n) from d e after t.after)

pub piece_written : (at from count : ℕ) (bytes d e : List ℕ) → at ≤ length d → IsApart at (length bytes) from count → e ≡ written at bytes d → piece from count e ≡ piece from count d
piece_written at from count bytes d e place apart is = ap (piece from count) is ∙ torn_apart at (length bytes) from count d (written at bytes d) apart (written_torn at bytes d place)

pub piece_long : (from count : ℕ) (d : List ℕ) → from + count ≤ length d → length (piece from count d) ≡ count
piece_long from count d within = length-take-le count (drop from d) (omega (arith, length-drop from d))

-- behind a front all else may change
pub torn_behind : (front back : List ℕ) (at n : ℕ) (c : List ℕ) → length front ≤ at → Torn at n (front ++ back) c → (other : List ℕ) × (c ≡ front ++ other)
torn_behind front back at n c place t =
    let k : ℕ = length front in (
      drop k c,
      sym (take-append-drop k c) ∙ ap (λ (l : List ℕ). l ++ drop k c) (less_before at k (front ++ back) c place t.before ∙ take_at front back k refl),
    )

-- bytes between others, in which the range lies, stay as many
pub torn_between : (front inner back : List ℕ) (at n : ℕ) (c : List ℕ) → length front ≤ at → at + n ≤ length front + length inner → Torn at n (front ++ (inner ++ back)) c
    → (other : List ℕ) × (length other ≡ length inner) × (c ≡ front ++ (other ++ back))
torn_between front inner back at n c from to t =
    let k : ℕ = length front in
    let m : ℕ = length inner in
    let whole : length (front ++ (inner ++ back)) ≡ k + m + length back = omega (arith, length-append front (inner ++ back), length-append inner back) in
    let size : length c ≡ k + m + length back = omega (arith, t.no_shorter, t.no_longer, whole) in
    let head : take k c ≡ front = less_before at k (front ++ (inner ++ back)) c from t.before ∙ take_at front (inner ++ back) k refl in
    let group : front ++ (inner ++ back) ≡ (front ++ inner) ++ back = sym (append_assoc front inner back) in
    let both : length (front ++ inner) ≡ k + m = length-append front inner in
    let tail : drop (k + m) c ≡ back = less_after (at + n) (k + m) (front ++ (inner ++ back)) c to t.after ∙ ap (λ (l : List ℕ). drop (k + m) l) group ∙ drop_at (front ++ inner) back (k + m) both in
    let rest : List ℕ = drop k c in
    let there : drop m rest ≡ back = drop-drop m k c ∙ tail in (
      take m rest,
      length-take-le m rest (omega (arith, length-drop k c, size)),
      sym (take-append-drop k c)
          ∙ (λ i. head i ++ rest)
          ∙ ap (λ (l : List ℕ). front ++ l) (sym (take-append-drop m rest) ∙ ap (λ (l : List ℕ). take m rest ++ l) there),
    )

module _ (at : ℕ) (d : List ℕ) (inside : at < length d) where
  set_is : (h : ℕ) → set d at h ≡ take at d ++ h ∷ drop (at + 1) d
  set_is h = let on : suc at ≡ at + 1 = omega arith in set_split d at h inside ∙ ap (λ (k : ℕ). take at d ++ h ∷ drop k d) on

  -- one byte that is written, and one that may be torn
  pub written_byte : (h : ℕ) → written at (h ∷ []) d ≡ set d at h
  written_byte h = append_assoc (take at d) (h ∷ []) (drop (at + 1) d) ∙ sym (set_is h)

  pub torn_byte : (c : List ℕ) → Torn at 1 d c → (h : ℕ) × (c ≡ set d at h)
  torn_byte c t =
      let h : ℕ = get_or c at 0 in
      let back : drop at c ≡ h ∷ drop (at + 1) d = drop_more c at 0 (omega (arith, t.no_shorter, inside)) ∙ ap (λ (l : List ℕ). h ∷ l) t.after in
      (h, sym (take-append-drop at c) ∙ (λ i. t.before i ++ back i) ∙ sym (set_is h))

-- a range apart from one is apart from what lies in it
pub apart_within : (at n i m from count : ℕ) → at ≤ i → i + m ≤ at + n → IsApart at n from count → IsApart i m from count
apart_within at n i m from count begins ends (inl before) = inl (omega (arith, before, begins))
apart_within at n i m from count begins ends (inr after) = inr (omega (arith, after, ends))

-- ---- runs

pub still : {file : ℕ} {old new : DiskState} → CallOn file old new → Tells old → Tells new
still call tells = subst (λ b. IsTrue b) (sym call.tells) tells

pub back : {file : ℕ} {old new : DiskState} → CallOn file old new → Tells new → Tells old
back call tells = subst (λ b. IsTrue b) call.tells tells

pub still_on : {file : ℕ} {old new : DiskState} → RunOn file old new → Tells old → Tells new
still_on run tells = subst (λ b. IsTrue b) (sym run.tells) tells

pub back_on : {file : ℕ} {old new : DiskState} → RunOn file old new → Tells new → Tells old
back_on run tells = subst (λ b. IsTrue b) run.tells tells

module _ {file at n : ℕ} where
  pub writes_none : (d : DiskState) → WritesOn file at n d d
  writes_none d = record {
    reads = torn_same at n (d.reads file);
    leaves = λ c h. (c, h, torn_same at n c);
    moments = record { before = λ t c le left. inl left };
  }

  pub writes_then : {old mid new : DiskState} → RunOn file old mid → WritesOn file at n old mid → RunOn file mid new → WritesOn file at n mid new → WritesOn file at n old new
  writes_then {old} {mid} {new} run_a a run_b b = record {
    reads = torn_then at n (old.reads file) (mid.reads file) (new.reads file) a.reads b.reads;
    leaves = λ c h.
        let mine = b.leaves c h in
        let from = a.leaves mine.0 mine.1 in
        (from.0, from.1, torn_then at n from.0 mine.0 c from.2 mine.2);
    moments = (compose (going run_a a.moments) (going run_b b.moments) later).moments;
  }
    where
      later : (c : List ℕ) → ((d : List ℕ) × mid.leaves file d × Torn at n d c) → (d : List ℕ) × old.leaves file d × Torn at n d c
      later c h = let from = a.leaves h.0 h.1 in (from.0, from.1, torn_then at n from.0 h.0 c from.2 h.2)

  -- one write in the range
  pub writes_one : {old new : DiskState} (i m : ℕ) → file < 2 → at ≤ i → i + m ≤ at + n → CallOn file old new → Torn i m (old.reads file) (new.reads file) → Follows (Torn i m) (old.leaves file) (new.leaves file) → WritesOn file at n old new
  writes_one {old} {new} i m file_in from to call reads leaves = record {
    reads = torn_within at n i m (old.reads file) (new.reads file) from to reads;
    leaves = now;
    moments = (then (begin file old (λ c. (d : List ℕ) × old.leaves file d × Torn at n d c)) call file_in now).moments;
  }
    where
      now : (c : List ℕ) → new.leaves file c → (d : List ℕ) × old.leaves file d × Torn at n d c
      now c h = let mine = leaves c h in (mine.0, mine.1, torn_within at n i m mine.0 c from to mine.2)

  -- one that succeeded, of these bytes
  pub writes_whole : {old new : DiskState} (i : ℕ) (bytes : List ℕ) → file < 2 → at ≤ i → i + length bytes ≤ at + n → i ≤ length (old.reads file) → CallOn file old new → new.reads file ≡ written i bytes (old.reads file)
      → Follows (Torn i (length bytes)) (old.leaves file) (new.leaves file) → WritesOn file at n old new
  writes_whole {old} {new} i bytes file_in from to place call is leaves =
      writes_one i (length bytes) file_in from to call (subst (λ (l : List ℕ). Torn i (length bytes) (old.reads file) l) (sym is) (written_torn i bytes (old.reads file) place)) leaves

  -- calls that change nothing
  pub writes_nothing : {old new : DiskState} → Tells old → Reads file old new → LeavesOnly file old new (old.leaves file) → WritesOn file at n old new
  writes_nothing {old} {new} tells same moments = record {
    reads = subst (λ (l : List ℕ). Torn at n (old.reads file) l) (sym (same.reads tells)) (torn_same at n (old.reads file));
    leaves = λ c h. (c, same.leaves c h, torn_same at n c);
    moments = record {
      before = λ t c le left. elim (moments.before t c le left) [
        | inl past ↦ inl past
        | inr now ↦ inr ((c file, now.0, torn_same at n (c file)), now.1)
      ];
    };
  }

  -- fewer writes
  pub writes_within : {old new : DiskState} (i m : ℕ) → at ≤ i → i + m ≤ at + n → WritesOn file i m old new → WritesOn file at n old new
  writes_within {old} {new} i m from to w = record {
    reads = torn_within at n i m (old.reads file) (new.reads file) from to w.reads;
    leaves = λ c h. let mine = w.leaves c h in (mine.0, mine.1, torn_within at n i m mine.0 c from to mine.2);
    moments = record {
      before = λ t c le left. elim (w.moments.before t c le left) [
        | inl past ↦ inl past
        | inr now ↦ inr ((now.0.0, now.0.1, torn_within at n i m now.0.0 (c file) from to now.0.2), now.1)
      ];
    };
  }

  -- a sync
  pub writes_sync : {old new : DiskState} → file < 2 → Tells old → Reads file old new → CallOn file old new → WritesOn file at n old new
  writes_sync {old} {new} file_in tells same call = writes_nothing tells same (then (begin file old (old.leaves file)) call file_in same.leaves).moments
