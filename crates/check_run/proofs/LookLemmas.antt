-- Reading files, piece by piece.
use Rattle.std.proofs.Common.{◌≡◌, ◌∙◌, inl, inr, ⊎_elim, ℕ, zero, suc, ◌+◌, ◌-◌, ◌<◌, ◌≤◌, List, ◌++◌, length, take, refl, sym, ap, subst, arith}
use Rattle.std.specs.Prelude.{IsTrue, min}
use Rattle.std.proofs.Math.Seq.{take-add}
use Rattle.std.proofs.lemmas.List.{take_all}
use Rattle.hk_base.specs.Disk.{CallOn, DiskState, Reads, Tells, piece}
use Rattle.check_run.specs.Looks.{AppendsPiece, IsWholeCopy, IsFrontOf, OnlyLooks}

-- before the first call
pub looks_not : (d : DiskState) → OnlyLooks d d
looks_not d = record {
  tells = refl;
  faults = omega arith;
  later = omega arith;
  reads = λ telling f lt. refl;
  leaves = λ f c lt h. h;
  moments = λ t c le left. inl left;
}

-- one call that changes nothing
pub looks_once : (file : ℕ) (old new : DiskState) → file < 2 → Reads file old new → CallOn file old new → OnlyLooks old new
looks_once zero old new file_in same call = record {
  tells = call.tells;
  faults = call.faults;
  later = call.later;
  reads = reads;
  leaves = leaves;
  moments = λ t c le left. ⊎_elim (λ before. inl before) (λ image. inr (λ f lt. leaves f (c f) lt (image f lt))) (call.nothing_else t c le left);
}
  where
    reads : Tells old → (f : ℕ) → f < 2 → new.reads f ≡ old.reads f
    reads telling zero lt = same.reads telling
    reads telling (suc zero) lt = call.other_reads telling
    reads telling (suc (suc f)) lt = absurd (omega (arith, lt))

    leaves : (f : ℕ) (c : List ℕ) → f < 2 → new.leaves f c → old.leaves f c
    leaves zero c lt h = same.leaves c h
    leaves (suc zero) c lt h = (call.other_leaves c).0 h
    leaves (suc (suc f)) c lt h = absurd (omega (arith, lt))
looks_once (suc zero) old new file_in same call = record {
  tells = call.tells;
  faults = call.faults;
  later = call.later;
  reads = reads;
  leaves = leaves;
  moments = λ t c le left. ⊎_elim (λ before. inl before) (λ image. inr (λ f lt. leaves f (c f) lt (image f lt))) (call.nothing_else t c le left);
}
  where
    reads : Tells old → (f : ℕ) → f < 2 → new.reads f ≡ old.reads f
    reads telling zero lt = call.other_reads telling
    reads telling (suc zero) lt = same.reads telling
    reads telling (suc (suc f)) lt = absurd (omega (arith, lt))

    leaves : (f : ℕ) (c : List ℕ) → f < 2 → new.leaves f c → old.leaves f c
    leaves zero c lt h = (call.other_leaves c).0 h
    leaves (suc zero) c lt h = same.leaves c h
    leaves (suc (suc f)) c lt h = absurd (omega (arith, lt))
looks_once (suc (suc file)) old new file_in same call = absurd (omega (arith, file_in))

telling_on : (old mid : DiskState) → OnlyLooks old mid → Tells old → Tells mid
telling_on old mid looks telling = subst (λ b. IsTrue b) (sym looks.tells) telling

pub looks_then : (old mid new : DiskState) → OnlyLooks old mid → OnlyLooks mid new → OnlyLooks old new
looks_then old mid new a b = record {
  tells = b.tells ∙ a.tells;
  faults = omega (arith, a.faults, b.faults);
  later = omega (arith, a.later, b.later);
  reads = λ telling f lt. b.reads (telling_on old mid a telling) f lt ∙ a.reads telling f lt;
  leaves = λ f c lt h. a.leaves f c lt (b.leaves f c lt h);
  moments = λ t c le left. ⊎_elim (λ before. a.moments t c le before) (λ image. inr (λ f lt. a.leaves f (c f) lt (image f lt))) (b.moments t c (omega (arith, le, a.later)) left);
}

-- the bytes up to an offset were copied, of a file of this size
pub record CopiedUpTo (file at size : ℕ) (old mid : DiskState) (bytes : List ℕ) : Type 0 where
  pub looks : OnlyLooks old mid
  pub length_is : length bytes ≡ at
  pub small : size ≤ 4611686018427387904
  pub size_is : Tells old → size ≡ length (old.reads file)
  pub inside : Tells old → at ≤ length (old.reads file)
  pub copied : Tells old → bytes ≡ take at (old.reads file)

pub copied_front : (file from size : ℕ) (old mid : DiskState) (bytes : List ℕ) → OnlyLooks old mid → length bytes ≡ from → IsFrontOf old file from bytes → size ≤ 4611686018427387904 → (Tells old → size ≡ length (old.reads file)) → CopiedUpTo file from size old mid bytes
copied_front file from size old mid bytes looks count front small is = record {
  looks = looks;
  length_is = count;
  small = small;
  size_is = is;
  inside = front.inside;
  copied = front.front;
}

-- all of the file was copied
pub copied_all : (file at size : ℕ) (old mid : DiskState) (bytes : List ℕ) → CopiedUpTo file at size old mid bytes → size ≤ at → IsWholeCopy old file at bytes
copied_all file at size old mid bytes so_far end = record {
  count_is = so_far.length_is;
  whole = λ telling. so_far.copied telling ∙ take_all at (old.reads file) (omega (arith, end, so_far.size_is telling));
}

-- what was copied is the front of a file that has not changed
pub front_of_copy : (file count : ℕ) (old mid : DiskState) (bytes : List ℕ) → file < 2 → OnlyLooks old mid → IsWholeCopy old file count bytes → IsFrontOf mid file count bytes
front_of_copy file count old mid bytes file_in looks copy = record {
  inside = λ telling.
      let told : Tells old = subst (λ b. IsTrue b) looks.tells telling in
      omega (arith, copy.count_is, ap length (copy.whole told ∙ sym (looks.reads told file file_in)));
  front = λ telling.
      let told : Tells old = subst (λ b. IsTrue b) looks.tells telling in
      let whole : bytes ≡ mid.reads file = copy.whole told ∙ sym (looks.reads told file file_in) in
      whole ∙ sym (take_all count (mid.reads file) (omega (arith, copy.count_is, ap length whole)));
}

-- and a copy of that file is one of the file before
pub copy_before : (file count : ℕ) (old mid : DiskState) (bytes : List ℕ) → file < 2 → OnlyLooks old mid → IsWholeCopy mid file count bytes → IsWholeCopy old file count bytes
copy_before file count old mid bytes file_in looks copy = record {
  count_is = copy.count_is;
  whole = λ telling. copy.whole (telling_on old mid looks telling) ∙ looks.reads telling file file_in;
}

-- one more piece
pub copied_more : (file at size : ℕ) (old mid new : DiskState) (bytes bytes' : List ℕ) (n : ℕ) → file < 2 → CopiedUpTo file at size old mid bytes → OnlyLooks mid new → AppendsPiece file at mid bytes bytes' n
    → CopiedUpTo file (at + n) size old new bytes'
copied_more file at size old mid new bytes bytes' n file_in so_far looks more = record {
  looks = looks_then old mid new so_far.looks looks;
  length_is = more.grows ∙ ap (λ (k : ℕ). k + n) so_far.length_is;
  small = so_far.small;
  size_is = so_far.size_is;
  inside = λ telling.
      let count : n ≡ min 4096 (length (old.reads file) - at) = subst (λ (file_bytes : List ℕ). n ≡ min 4096 (length file_bytes - at)) (so_far.looks.reads telling file file_in) (more.count (telling_on old mid so_far.looks telling)) in
      let before : at ≤ length (old.reads file) = so_far.inside telling in
      omega (arith, count, before);
  copied = λ telling.
      more.copied (telling_on old mid so_far.looks telling)
      ∙ ap (λ (b : List ℕ). b ++ piece at n (mid.reads file)) (so_far.copied telling)
      ∙ ap (λ (b : List ℕ). take at (old.reads file) ++ piece at n b) (so_far.looks.reads telling file file_in)
      ∙ sym (take-add at n (old.reads file));
}
