-- How replacing a file changes the disk.
use Rattle.std.proofs.Common.{append_assoc, ◌≡◌, ◌⊎◌, inl, inr, ⊎_elim, ◌+◌, ◌-◌, ◌<◌, ◌≤◌, ℕ, zero, suc, List, [], ◌∷◌, ◌++◌, refl, sym, ◌∙◌, ap, subst, arith, length, take, drop, length-append, length-take, length-drop}
use Rattle.std.proofs.lemmas.List.{take_at, drop_at, drop-drop, take_all, take_min}
use Rattle.hk_base.specs.Disk.{Image, CallOn, Torn, Cut, Follows, written}
use Rattle.disk_kinds.specs.declared.mem_disk.Change.{Change}
use Rattle.disk_kinds.specs.declared.mem_disk.Moment.{Moment}
use Rattle.disk_kinds.specs.Past.{FileAt, MomentAt, moment_at, the_file, replaced, Tears, Torn_by, MayLeave, IsImageOf, WasImage, disk_state, Put, LeftAlone}

the_put : (file : ℕ) (f : FileAt) (m : MomentAt) → the_file (replaced file f m) file ≡ f
the_put zero f m = refl
the_put (suc file) f m = refl

the_other : (file : ℕ) (f : FileAt) (m : MomentAt) → file < 2 → the_file (replaced file f m) (1 - file) ≡ the_file m (1 - file)
the_other zero f m lt = refl
the_other (suc zero) f m lt = refl
the_other (suc (suc file)) f m lt = absurd (omega arith)

drop_push : (t : ℕ) (past : List Moment) (m : Moment) → t ≤ length past → drop t (past ++ m ∷ []) ≡ drop t past ++ m ∷ []
drop_push zero past m le = refl
drop_push (suc t) [] m le = absurd (omega arith)
drop_push (suc t) (p ∷ past) m le = drop_push t past m (omega arith)

was_keeps : (past : List Moment) (m : Moment) (c : Image) → WasImage past c ⊎ IsImageOf (moment_at m) c → WasImage (past ++ m ∷ []) c
was_keeps [] m c (inl was) = absurd was
was_keeps [] m c (inr now) = inl now
was_keeps (p ∷ past) m c (inl (inl here)) = inl here
was_keeps (p ∷ past) m c (inl (inr there)) = inr (was_keeps past m c (inl there))
was_keeps (p ∷ past) m c (inr now) = inr (was_keeps past m c (inr now))

was_adds : (past : List Moment) (m : Moment) (c : Image) → WasImage (past ++ m ∷ []) c → WasImage past c ⊎ IsImageOf (moment_at m) c
was_adds [] m c (inl here) = inr here
was_adds [] m c (inr none) = absurd none
was_adds (p ∷ past) m c (inl here) = inl (inl here)
was_adds (p ∷ past) m c (inr there) = ⊎_elim (λ was. inl (inr was)) (λ now. inr now) (was_adds past m c there)

-- the clause that each call meets
pub put_call : (file : ℕ) (f : FileAt) (old new : MomentAt) (old_past new_past : List Moment) (faults later : ℕ) → file < 2 → faults ≤ later → Put file f old new old_past new_past → CallOn file (disk_state old old_past faults) (disk_state new new_past later)
put_call file f old new old_past new_past faults later lt le put = record {
  tells = refl;
  records = refl;
  faults = le;
  later = omega (arith, ap length put.past, length-append old_past (put.kept ∷ []));
  nothing_else = λ t c in_time left. ⊎_elim (λ now. inr now) (λ was. inl (past_of t c (was_adds (drop t old_past) put.kept c (subst (λ (l : List Moment). WasImage l c) (dropped t in_time) was)))) left;
  keeps = λ recorded t c in_time left. inr (subst (λ (l : List Moment). WasImage l c) (sym (dropped t in_time)) (was_keeps (drop t old_past) put.kept c (kept_of t c left)));
  other_reads = λ telling. ap (λ (m : MomentAt). (the_file m (1 - file)).reads) put.now ∙ ap (λ (g : FileAt). g.reads) (the_other file f old lt);
  other_leaves = λ c. (
    λ h. subst (λ (g : FileAt). MayLeave g c) (the_other file f old lt) (subst (λ (m : MomentAt). MayLeave (the_file m (1 - file)) c) put.now h),
    λ h. subst (λ (m : MomentAt). MayLeave (the_file m (1 - file)) c) (sym put.now) (subst (λ (g : FileAt). MayLeave g c) (sym (the_other file f old lt)) h),
  );
}
  where
    dropped : (t : ℕ) → t ≤ length old_past → drop t new_past ≡ drop t old_past ++ put.kept ∷ []
    dropped t in_time = ap (λ (l : List Moment). drop t l) put.past ∙ drop_push t old_past put.kept in_time

    past_of : (t : ℕ) (c : Image) → WasImage (drop t old_past) c ⊎ IsImageOf (moment_at put.kept) c → IsImageOf old c ⊎ WasImage (drop t old_past) c
    past_of t c (inl was) = inr was
    past_of t c (inr now) = inl (subst (λ (m : MomentAt). IsImageOf m c) put.same now)

    kept_of : (t : ℕ) (c : Image) → IsImageOf old c ⊎ WasImage (drop t old_past) c → WasImage (drop t old_past) c ⊎ IsImageOf (moment_at put.kept) c
    kept_of t c (inl now) = inr (subst (λ (m : MomentAt). IsImageOf m c) (sym put.same) now)
    kept_of t c (inr was) = inl was

pub left_call : (file : ℕ) (old new : MomentAt) (old_past new_past : List Moment) (faults later : ℕ) → faults ≤ later → LeftAlone old new old_past new_past → CallOn file (disk_state old old_past faults) (disk_state new new_past later)
left_call file old new old_past new_past faults later le left =
    subst (λ (m : MomentAt). CallOn file (disk_state old old_past faults) (disk_state m new_past later)) (sym left.now) (subst (λ (l : List Moment). CallOn file (disk_state old old_past faults) (disk_state old l later)) (sym left.past) (record {
      tells = refl;
      records = refl;
      faults = le;
      later = omega arith;
      nothing_else = λ t c in_time h. inl h;
      keeps = λ recorded t c in_time h. h;
      other_reads = λ telling. refl;
      other_leaves = λ c. (λ h. h, λ h. h);
    }))

pub put_reads : (file : ℕ) (f : FileAt) (old new : MomentAt) (old_past new_past : List Moment) → Put file f old new old_past new_past → (the_file new file).reads ≡ f.reads
put_reads file f old new old_past new_past put = ap (λ (m : MomentAt). (the_file m file).reads) put.now ∙ ap (λ (g : FileAt). g.reads) (the_put file f old)

pub put_leaves : (file : ℕ) (f : FileAt) (old new : MomentAt) (old_past new_past : List Moment) → Put file f old new old_past new_past → (c : List ℕ) → MayLeave (the_file new file) c → MayLeave f c
put_leaves file f old new old_past new_past put c h = subst (λ (g : FileAt). MayLeave g c) (the_put file f old) (subst (λ (m : MomentAt). MayLeave (the_file m file) c) put.now h)

torn_push : (P : List ℕ → Type 0) (changes : List Change) (change : Change) (c : List ℕ) → Torn_by P (changes ++ change ∷ []) c → (d : List ℕ) × Torn_by P changes d × Tears change d c
torn_push P [] change c h = h
torn_push P (x ∷ changes) change c h = torn_push (λ e. (d : List ℕ) × P d × Tears x d e) changes change c h

-- what a crash may leave after a change follows by tearing what it might have left before
pub change_follows : (file : ℕ) (old : FileAt) (reads : List ℕ) (change : Change) → Tears change old.reads reads → Follows (Tears change) (MayLeave old) (MayLeave (record { reads = reads; synced = old.synced; changes = old.changes ++ change ∷ [] }))
change_follows file old reads change torn c (inl now) = (old.reads, inl refl, subst (Tears change old.reads) (sym now) torn)
change_follows file old reads change torn c (inr was) = let from = torn_push (λ d. d ≡ old.synced) old.changes change c was in (from.0, inr from.1, from.2)

pub torn_written : (at size : ℕ) (part old : List ℕ) → at ≤ length old → length part ≤ size → Torn at size old (written at part old)
torn_written at size part old place fits =
    let front : length (take at old) ≡ at = omega (arith, length-take at old) in
    let two : length (take at old ++ part) ≡ at + length part = omega (arith, front, length-append (take at old) part) in
    let whole : length (written at part old) ≡ at + length part + (length old - (at + length part)) = omega (arith, two, length-append (take at old ++ part) (drop (at + length part) old), length-drop (at + length part) old) in
    let past : at + size ≡ at + length part + (size - length part) = omega arith in
    record {
      before = ap (λ (l : List ℕ). take at l) (append_assoc (take at old) part (drop (at + length part) old)) ∙ take_at (take at old) (part ++ drop (at + length part) old) at front;
      after =
          ap (λ (k : ℕ). drop k (written at part old)) past
          ∙ sym (drop-drop (size - length part) (at + length part) (written at part old))
          ∙ ap (λ (l : List ℕ). drop (size - length part) l) (drop_at (take at old ++ part) (drop (at + length part) old) (at + length part) two)
          ∙ drop-drop (size - length part) (at + length part) old
          ∙ ap (λ (k : ℕ). drop k old) (sym past);
      no_shorter = omega (arith, whole);
      no_longer = omega (arith, whole);
    }

pub torn_same : (at size : ℕ) (old : List ℕ) → Torn at size old old
torn_same at size old = record { before = refl; after = refl; no_shorter = omega arith; no_longer = omega arith }

pub cut_taken : (size : ℕ) (old : List ℕ) → Cut size old (take size old)
cut_taken size old = record { no_shorter = omega (arith, length-take size old); front = ap (λ (k : ℕ). take k old) (length-take size old) ∙ take_min size old }

pub cut_same : (size : ℕ) (old : List ℕ) → Cut size old old
cut_same size old = record { no_shorter = omega arith; front = take_all (length old) old (omega arith) }

-- calls that change nothing, before and after one that replaces a file
pub left_left : {a b c : MomentAt} {pa pb pc : List Moment} → LeftAlone a b pa pb → LeftAlone b c pb pc → LeftAlone a c pa pc
left_left l k = record { past = k.past ∙ l.past; now = k.now ∙ l.now }

pub left_put : (file : ℕ) (F : MomentAt → FileAt) (a b c : MomentAt) (pa pb pc : List Moment) → LeftAlone a b pa pb → Put file (F b) b c pb pc → Put file (F a) a c pa pc
left_put file F a b c pa pb pc left put =
    subst (λ (l : List Moment). Put file (F a) a c l pc) left.past (subst (λ (m : MomentAt). Put file (F m) m c pb pc) left.now put)

pub put_left : {file : ℕ} {f : FileAt} {a b c : MomentAt} {pa pb pc : List Moment} → Put file f a b pa pb → LeftAlone b c pb pc → Put file f a c pa pc
put_left put left = record { kept = put.kept; same = put.same; past = left.past ∙ put.past; now = left.now ∙ put.now }

pub left_leaves : (file : ℕ) (a b : MomentAt) (pa pb : List Moment) → LeftAlone a b pa pb → (c : List ℕ) → MayLeave (the_file b file) c → MayLeave (the_file a file) c
left_leaves file a b pa pb left c h = subst (λ (m : MomentAt). MayLeave (the_file m file) c) left.now h
