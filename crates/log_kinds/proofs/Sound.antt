-- What a start finds in a sound log, and what it leaves of it.
use Rattle.std.proofs.Common.{◌≡◌, inl, inr, ℕ, suc, Bool, true, false, List, [], ◌∷◌, ◌++◌, map, Option, Some, None, refl, sym, ap, ◌∙◌, subst, arith}
use Rattle.std.specs.Prelude.{IfSome}
use Rattle.std.specs.List.{AllByRecursion}
use Rattle.std.proofs.lemmas.List.{append-nil}
use Rattle.frame_log.specs.Format.{log_of, Found, NoLog, IsAtRest, IsHalfOpen, At_rest, Half_open, Opened, Log_as_found, No_log}
use Rattle.log_kinds.specs.Kinds.{AnOpening, Applies, IsDamagedAt, IsLeftByStart, IsLeftOf, IsLog, IsLogOf, IsSoundLog, IsWithOrWithout, LogKind, Not_a_log, Not_of_its_kind, Opening, Recovered, replay, settled_ops}
use Rattle.log_kinds.proofs.Replays.{KindLaws, applies_at, makes_behind, one_list, spelled_behind, spelled_more, split_at}

-- what a start finds in a sound log
pub record Finds (K : LogKind) (ops : List K.Op) (more : Option K.Op) (made : K.State) (found : List K.Op) (comes_to : K.State) : Type 0 where
  pub kept : Bool
  pub ops_are : found ≡ ops ++ settled_ops K kept more
  pub made_is : comes_to ≡ K.settled kept more made

module _ (K : LogKind) where
  -- the payloads that are found in a sound log
  pub found_is : (bytes : List ℕ) (ops : List K.Op) (more : Option K.Op) (made : K.State) → IsSoundLog K bytes ops more made
      → (payloads : List (List ℕ)) (gate : ℕ) → log_of K.file bytes ≡ Found payloads gate → (kept : Bool) × (payloads ≡ map K.spelling (ops ++ settled_ops K kept more))
  found_is bytes ops more made s payloads gate found = go more s.log
    where
      as_they_are : map K.spelling ops ≡ map K.spelling (ops ++ [])
      as_they_are = ap (map K.spelling) (sym (append-nil ops))

      go : (o : Option K.Op) → IsLogOf K ops o bytes → (kept : Bool) × (payloads ≡ map K.spelling (ops ++ settled_ops K kept o))
      go None rest = let is : payloads ≡ map K.spelling ops = cc (found, rest) in (false, is ∙ as_they_are)
      go (Some op) (inl before) = let is : payloads ≡ map K.spelling ops = cc (found, before) in (false, is ∙ as_they_are)
      go (Some op) (inr (inl with)) = let is : payloads ≡ map K.spelling ops ++ K.spelling op ∷ [] = cc (found, with) in (true, is ∙ sym (spelled_more K ops op))
      go (Some op) (inr (inr half)) = let is : payloads ≡ map K.spelling ops = cc (found, half.now) in (false, is ∙ as_they_are)

  -- some payloads are found in it
  is_found : (bytes : List ℕ) (ops : List K.Op) (more : Option K.Op) → IsLogOf K ops more bytes → (payloads : List (List ℕ)) × (gate : ℕ) × (log_of K.file bytes ≡ Found payloads gate)
  is_found bytes ops None rest = (map K.spelling ops, 0, rest)
  is_found bytes ops (Some op) (inl before) = (map K.spelling ops, 0, before)
  is_found bytes ops (Some op) (inr (inl with)) = (map K.spelling ops ++ K.spelling op ∷ [], 0, with)
  is_found bytes ops (Some op) (inr (inr half)) = (map K.spelling ops, half.gate, half.now)

  never_none : (bytes : List ℕ) (ops : List K.Op) (more : Option K.Op) (at : ℕ) → IsLogOf K ops more bytes → log_of K.file bytes ≡ NoLog at → ⊥
  never_none bytes ops more at log none = let found = (is_found bytes ops more log).2 in absurd (cc (none, found))

  -- an end gate that is not 0 is that of a log with one more, which is half open
  half_of : (bytes : List ℕ) (ops : List K.Op) (more : Option K.Op) (payloads : List (List ℕ)) (gate : ℕ) → log_of K.file bytes ≡ Found payloads (suc gate) → IsLogOf K ops more bytes
      → (op : K.Op) × (more ≡ Some op) × IsHalfOpen K.file (map K.spelling ops) (map K.spelling ops ++ K.spelling op ∷ []) bytes
  half_of bytes ops None payloads gate found rest = let no_gate : suc gate ≡ 0 = cc (found, rest) in absurd (omega arith)
  half_of bytes ops (Some op) payloads gate found (inl before) = let no_gate : suc gate ≡ 0 = cc (found, before) in absurd (omega arith)
  half_of bytes ops (Some op) payloads gate found (inr (inl with)) = let no_gate : suc gate ≡ 0 = cc (found, with) in absurd (omega arith)
  half_of bytes ops (Some op) payloads gate found (inr (inr half)) = (op, refl, half)

module _ (K : LogKind) (laws : KindLaws K) where
  pub finds : (bytes : List ℕ) (ops : List K.Op) (more : Option K.Op) (made : K.State) (found : List K.Op) (comes_to : K.State) → IsSoundLog K bytes ops more made → IsLog K bytes found comes_to
      → Finds K ops more made found comes_to
  finds bytes ops more made found comes_to s k =
      let payloads = found_is K bytes ops more made s (map K.spelling found) k.gate k.found in
      let are : found ≡ ops ++ settled_ops K payloads.0 more = one_list K laws found (ops ++ settled_ops K payloads.0 more) k.spelled (spelled_behind K ops more s.spelled s.spelled_more payloads.0) payloads.1 in
      let twice : Some comes_to ≡ Some (K.settled payloads.0 more made) = sym k.makes ∙ ap (replay K K.empty) are ∙ makes_behind K laws ops more made s.makes s.fits payloads.0 in
      record { kept = payloads.0; ops_are = are; made_is = cc twice }

  -- a sound log is a log
  pub found_log : (bytes : List ℕ) (ops : List K.Op) (more : Option K.Op) (made : K.State) → IsSoundLog K bytes ops more made → (kept : Bool) × IsLog K bytes (ops ++ settled_ops K kept more) (K.settled kept more made)
  found_log bytes ops more made s =
      let f = is_found K bytes ops more s.log in
      let is = found_is K bytes ops more made s f.0 f.1 f.2 in (
        is.0,
        record {
          gate = f.1;
          spelled = spelled_behind K ops more s.spelled s.spelled_more is.0;
          found = f.2 ∙ ap (λ (l : List (List ℕ)). Found l f.1) is.1;
          makes = makes_behind K laws ops more made s.makes s.fits is.0;
        },
      )

  -- the pending operation may still follow
  pub still_pending : (ops : List K.Op) (op : K.Op) (made : K.State) (own : Bool → K.Op → Type 0) (left : List ℕ) → K.applies made op ≡ true → K.HasSpelling op → IsWithOrWithout K ops op left → IsLeftOf K made (Some op) own ops left
  still_pending ops op made own left may spelled log = record {
    kept = false;
    more = Some op;
    more_is = inl (refl, refl);
    fits = subst (λ (x : K.State). K.applies x op ≡ true) (sym (laws.settled_dropped op made)) may;
    spelled = spelled;
    log = subst (λ (l : List K.Op). IsWithOrWithout K l op left) (sym (append-nil ops)) log;
  }

  left_more : (bytes : List ℕ) (ops : List K.Op) (more : Option K.Op) (made : K.State) → IsSoundLog K bytes ops more made → (left : List ℕ) (op : K.Op) → more ≡ Some op → IsWithOrWithout K ops op left
      → IsLeftOf K made more (AnOpening K) ops left
  left_more bytes ops more made s left op is log =
      subst (λ (o : Option K.Op). IsLeftOf K made o (AnOpening K) ops left) (sym is)
      (still_pending ops op made (AnOpening K) left (subst (Applies K made) is s.fits) (subst (λ (o : Option K.Op). IfSome o K.HasSpelling) is s.spelled_more) log)

  -- what a start leaves of a sound log
  pub left_by_start : (bytes : List ℕ) (ops : List K.Op) (more : Option K.Op) (made : K.State) → IsSoundLog K bytes ops more made
      → (left : List ℕ) → IsLeftByStart K bytes left → IsLeftOf K made more (AnOpening K) ops left
  left_by_start bytes ops more made s left (Opening found comes_to k written) =
      let f = finds bytes ops more made found comes_to s k in
      record {
        kept = f.kept;
        more = Some (K.next_opening comes_to);
        more_is = inr (laws.is_opening comes_to);
        fits = subst (λ (x : K.State). K.applies x (K.next_opening comes_to) ≡ true) f.made_is (laws.opens comes_to);
        spelled = written.0;
        log = subst (λ (l : List K.Op). IsWithOrWithout K l (K.next_opening comes_to) left) f.ops_are written.1;
      }
  left_by_start bytes ops more made s left (Recovered (No_log at none same)) = absurd (never_none K bytes ops more at s.log none)
  left_by_start bytes ops more made s left (Recovered (Log_as_found (At_rest payloads gate found rest))) =
      let is = found_is K bytes ops more made s payloads gate found in
      record { kept = is.0; more = None; more_is = tt; fits = tt; spelled = tt; log = subst (λ (l : List (List ℕ)). IsAtRest K.file l left) is.1 rest }
  left_by_start bytes ops more made s left (Recovered (Log_as_found (Half_open payloads gate other found now same))) =
      let h = half_of K bytes ops more payloads gate found s.log in
      let half_now = h.2.now in
      let one : payloads ≡ map K.spelling ops = cc (found, half_now) in
      let is : log_of K.file left ≡ Found (map K.spelling ops) (suc other) = now ∙ ap (λ (l : List (List ℕ)). Found l (suc other)) one in
      left_more bytes ops more made s left h.0 h.1 (inr (inr (record { gate = suc other; not_shut = omega arith; now = is; then_on = ap (log_of K.file) same ∙ h.2.then_on })))
  left_by_start bytes ops more made s left (Recovered (Log_as_found (Opened payloads gate found same))) =
      let h = half_of K bytes ops more payloads gate found s.log in left_more bytes ops more made s left h.0 h.1 (inr (inl (ap (log_of K.file) same ∙ h.2.then_on)))

  -- what a crash may leave of the log of these operations is a sound log of them and the settled pending one
  pub sound_left : (made : K.State) (pending : Option K.Op) (own : Bool → K.Op → Type 0) (ops : List K.Op) (bytes : List ℕ) → AllByRecursion K.HasSpelling ops → IfSome pending K.HasSpelling
      → replay K K.empty ops ≡ Some made → Applies K made pending → (l : IsLeftOf K made pending own ops bytes)
      → IsSoundLog K bytes (ops ++ settled_ops K l.kept pending) l.more (K.settled l.kept pending made)
  sound_left made pending own ops bytes spelled waits makes applies l = record {
    spelled = spelled_behind K ops pending spelled waits l.kept;
    spelled_more = l.spelled;
    makes = makes_behind K laws ops pending made makes applies l.kept;
    fits = l.fits;
    log = l.log;
  }

  -- a log whose operations apply is not damaged
  pub log_not_damaged : (bytes : List ℕ) (ops : List K.Op) (made : K.State) (at : ℕ) → IsLog K bytes ops made → IsDamagedAt K bytes at → ⊥
  log_not_damaged bytes ops made at l (Not_a_log none) = let found = l.found in absurd (cc (none, found))
  log_not_damaged bytes ops made at l (Not_of_its_kind k) =
      let both : Found (map K.spelling ops) l.gate ≡ Found (map K.spelling k.ops ++ k.payload ∷ k.payloads) k.gate = sym l.found ∙ k.found in
      let same : map K.spelling ops ≡ map K.spelling k.ops ++ k.payload ∷ k.payloads = cc both in
      let p = split_at K laws ops k.ops k.payload k.payloads l.spelled k.spelled same in
      let whole : replay K K.empty (k.ops ++ p.0 ∷ p.1) ≡ Some made = ap (replay K K.empty) (sym p.2) ∙ l.makes in
      let may : K.applies k.made p.0 ≡ true = applies_at K K.empty k.made made k.ops p.0 p.1 k.makes whole in
      let may_not : K.applies k.made p.0 ≡ false = k.not_next p.0 p.3 p.4 in
      absurd (cc (may, may_not))

  -- nor is a sound log
  pub not_damaged : (bytes : List ℕ) (ops : List K.Op) (more : Option K.Op) (made : K.State) (at : ℕ) → IsSoundLog K bytes ops more made → IsDamagedAt K bytes at → ⊥
  not_damaged bytes ops more made at s =
      let found = found_log bytes ops more made s in log_not_damaged bytes (ops ++ settled_ops K found.0 more) (K.settled found.0 more made) at found.1
