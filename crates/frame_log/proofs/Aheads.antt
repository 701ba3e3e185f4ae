-- The payloads that a reader of a log returns, by the bytes of its file.
use Rattle.std.proofs.Common.{◌≡◌, ◌≢◌, ℕ, ◌+◌, ◌≤◌, ◌<◌, List, [], ◌∷◌, ◌++◌, length, take, drop, refl, sym, ◌∙◌, ap, subst, arith, append_assoc, length-append, length-drop, None}
use Rattle.std.specs.List.{AllByRecursion}
use Rattle.std.specs.Int.{w32, to_be_bytes}
use Rattle.std.proofs.lemmas.List.{drop-drop, drop_at, length-take-le}
use Rattle.hk_base.specs.Disk.{DiskState}
use Rattle.frame_log.specs.Format.{magic, frames, behind, placed, IsPayload, Frame, End, Broken, part}
use Rattle.frame_log.specs.Scan.{IsFrame, IsEnd}
use Rattle.frame_log.specs.Ahead.{HasBytesOf, Ahead, IsFirstPayload, IsPartlyRead}
use Rattle.frame_log.specs.declared.records.Records.{Records}
use Rattle.frame_log.specs.Stands.{Stands}
use Rattle.frame_log.specs.declared.log.Log.{Log}
use Rattle.frame_log.proofs.Reading.{part_frame, part_end, magic_long}
use Rattle.frame_log.proofs.Windows.{nothing}

-- the bytes after a frame
pub behind_frame : (bytes x : List ℕ) (here : IsFrame bytes x) → drop (5 + length x) bytes ≡ here.rest
behind_frame bytes x here =
    ap (λ (l : List ℕ). drop (5 + length x) l) here.split ∙ drop_at (1 ∷ behind x) here.rest (5 + length x) (omega (arith, length-append (to_be_bytes w32 (length x)) x))

module _ (bytes : List ℕ) (gate : ℕ) (rest : List ℕ) (shut : gate ≢ 1) where
  first_part : (p : List ℕ) (ps : List (List ℕ)) → IsPayload p → bytes ≡ frames (p ∷ ps) ++ gate ∷ rest → part bytes ≡ Frame p (frames ps ++ gate ∷ rest)
  first_part p ps fits is =
      ap part is
      ∙ ap (λ (l : List ℕ). part (1 ∷ l)) (append_assoc (behind p) (frames ps) (gate ∷ rest))
      ∙ part_frame p (frames ps ++ gate ∷ rest) fits (omega (arith, length-append (frames ps) (gate ∷ rest)))

  pub no_more : (todo : List (List ℕ)) → bytes ≡ frames todo ++ gate ∷ rest → (other : ℕ) → IsEnd bytes other → todo ≡ []
  no_more [] is other end = refl
  no_more (p ∷ ps) is other end = let open_gate : other ≡ 1 = cc (is, end.split) in absurd (end.shut open_gate)

  -- a frame with its gate, and the next gate, take at least seven bytes
  pub none_in_so_few : (todo : List (List ℕ)) → AllByRecursion IsPayload todo → bytes ≡ frames todo ++ gate ∷ rest → length bytes < 7 → todo ≡ []
  none_in_so_few [] fit is few = refl
  none_in_so_few (p ∷ ps) fit is few =
      let some = fit.0.some in
      absurd (omega (arith, few, ap length is, length-append (behind p ++ frames ps) (gate ∷ rest), length-append (behind p) (frames ps), length-append (to_be_bytes w32 (length p)) p, some))

  pub not_broken : (todo : List (List ℕ)) → AllByRecursion IsPayload todo → bytes ≡ frames todo ++ gate ∷ rest → part bytes ≡ Broken → ⊥
  not_broken [] fit is broken = let here : part bytes ≡ End gate = ap part is ∙ part_end gate rest shut in cc (here, broken)
  not_broken (p ∷ ps) fit is broken = cc (first_part p ps fit.0 is, broken)

  pub one_more : (todo : List (List ℕ)) → AllByRecursion IsPayload todo → bytes ≡ frames todo ++ gate ∷ rest → (x : List ℕ) → IsFrame bytes x
      → (ps : List (List ℕ)) × (todo ≡ x ∷ ps) × AllByRecursion IsPayload ps × (drop (5 + length x) bytes ≡ frames ps ++ gate ∷ rest)
  one_more [] fit is x here =
      let end : part bytes ≡ End gate = ap part is ∙ part_end gate rest shut in
      let frame : part bytes ≡ Frame x here.rest = ap part here.split ∙ part_frame x here.rest here.fits here.more in
      absurd (cc (end, frame))
  one_more (p ∷ ps) fit is x here =
      let frame : part bytes ≡ Frame x here.rest = ap part here.split ∙ part_frame x here.rest here.fits here.more in
      let parts : Frame p (frames ps ++ gate ∷ rest) ≡ Frame x here.rest = sym (first_part p ps fit.0 is) ∙ frame in
      let same : p ≡ x = cc parts in
      let tail : frames ps ++ gate ∷ rest ≡ here.rest = cc parts in
      (ps, ap (λ (l : List ℕ). l ∷ ps) same, fit.1, behind_frame bytes x here ∙ sym tail)

module _ (disk now : DiskState) (old new : Records) (todo : List (List ℕ)) (ahead : Ahead disk old todo) (same : now.reads old.file ≡ disk.reads old.file) (file : new.file ≡ old.file) (size : new.size ≡ old.size) (window : HasBytesOf (disk.reads old.file) new.window) where
  file_is : now.reads new.file ≡ disk.reads old.file
  file_is = ap (λ (k : ℕ). now.reads k) file ∙ same

  -- the reader is at the same offset
  pub still_ahead : new.at ≡ old.at → Ahead now new todo
  still_ahead at = record {
    gate = ahead.gate;
    rest = ahead.rest;
    sized = ahead.sized;
    split = ap (λ (k : ℕ). drop k (now.reads new.file)) at ∙ ap (λ (l : List ℕ). drop old.at l) file_is ∙ ahead.split;
    shut = ahead.shut;
    size = size ∙ ahead.size ∙ ap length (sym file_is);
    window = subst (λ (l : List ℕ). HasBytesOf l new.window) (sym file_is) window;
  }

  -- the reader returned a payload of `count` bytes
  pub given : (count : ℕ) → 5 + count ≤ length (drop old.at (disk.reads old.file)) → IsFrame (drop old.at (disk.reads old.file)) (take count (drop 5 (drop old.at (disk.reads old.file))))
      → new.at ≡ old.at + 5 + count → new.payload.items ≡ take count (drop (old.at + 5) (disk.reads old.file)) → IsFirstPayload now old new todo (old.at + 5)
  given count long frame at payload =
      let F = disk.reads old.file in
      let B : List ℕ = drop old.at F in
      let x : List ℕ = take count (drop 5 B) in
      let sized : length x ≡ count = length-take-le count (drop 5 B) (omega (arith, length-drop 5 B)) in
      let m = one_more B ahead.gate ahead.rest ahead.shut todo ahead.sized ahead.split x frame in
      let is : new.payload.items ≡ x = payload ∙ ap (λ (l : List ℕ). take count l) (sym (drop-drop 5 old.at F)) in
      let there : new.at ≡ old.at + (5 + length x) = omega (arith, at, sized) in
      record {
        rest = m.0;
        first = m.1 ∙ ap (λ (l : List ℕ). l ∷ m.0) (sym is);
        place = refl;
        next_place = omega (arith, at, sized, ap length is);
        ahead = record {
          gate = ahead.gate;
          rest = ahead.rest;
          sized = m.2;
          split = ap (λ (k : ℕ). drop k (now.reads new.file)) there ∙ ap (λ (l : List ℕ). drop (old.at + (5 + length x)) l) file_is ∙ sym (drop-drop (5 + length x) old.at F) ∙ m.3;
          shut = ahead.shut;
          size = size ∙ ahead.size ∙ ap length (sym file_is);
          window = subst (λ (l : List ℕ). HasBytesOf l new.window) (sym file_is) window;
        };
      }

-- one more payload is returned
pub partly_more : (disk now : DiskState) (at : ℕ) (todo : List (List ℕ)) (old new : Records) (before : List (ℕ × List ℕ)) (partly : IsPartlyRead disk at todo old before) (offset : ℕ)
    → IsFirstPayload now old new partly.rest offset → IsPartlyRead now at todo new (before ++ (offset, new.payload.items) ∷ [])
partly_more disk now at todo old new before partly offset got =
    let x : List ℕ = new.payload.items in
    record {
      rest = got.rest;
      split =
          partly.split
          ∙ ap (λ (l : List (List ℕ)). before ++ placed old.at l) got.first
          ∙ ap (λ (k : ℕ). before ++ (k, x) ∷ placed (old.at + 5 + length x) got.rest) (sym got.place)
          ∙ ap (λ (k : ℕ). before ++ (offset, x) ∷ placed k got.rest) (sym got.next_place)
          ∙ sym (append_assoc before ((offset, x) ∷ []) (placed new.at got.rest));
      ahead = got.ahead;
    }

-- a new reader of a log has all payloads of the log to return
pub log_ahead : (disk : DiskState) (log : Log) (payloads : List (List ℕ)) (records : Records) → Stands disk log payloads None → records.file ≡ log.file → records.size ≡ length (disk.reads log.file) → records.at ≡ 8 → records.window.bytes.items ≡ [] → Ahead disk records payloads
log_ahead disk log payloads records s file size at none =
    let shut = s.reads in
    let file_is : disk.reads records.file ≡ disk.reads log.file = ap (λ (k : ℕ). disk.reads k) file in
    record {
      gate = 0;
      rest = shut.0;
      sized = s.sized;
      split =
          ap (λ (k : ℕ). drop k (disk.reads records.file)) at
          ∙ ap (λ (l : List ℕ). drop 8 l) (file_is ∙ shut.1 ∙ append_assoc (magic log.file) (frames payloads) (0 ∷ shut.0))
          ∙ drop_at (magic log.file) (frames payloads ++ 0 ∷ shut.0) 8 (magic_long log.file);
      shut = omega arith;
      size = size ∙ ap length (sym file_is);
      window = nothing (disk.reads records.file) records.window none;
    }
