-- How a walk over the frames of a log goes on.
use Rattle.std.proofs.Common.{◌≡◌, ℕ, ◌+◌, ◌≤◌, Bool, List, [], ◌∷◌, ◌++◌, length, take, drop, refl, sym, ◌∙◌, ap, subst, arith, length-append, length-drop}
use Rattle.std.specs.Int.{w32, to_be_bytes}
use Rattle.std.proofs.lemmas.List.{drop-drop, length-take-le}
use Rattle.frame_log.specs.Format.{behind, frames}
use Rattle.frame_log.specs.Scan.{IsFrame}
use Rattle.frame_log.specs.Walked.{MayPass, Walked}
use Rattle.frame_log.proofs.Aheads.{behind_frame}
use Rattle.frame_log.proofs.Reading.{all_push, frames_push}

pub at_start : (seek : Bool) (file : List ℕ) (from : ℕ) → Walked seek file from from
at_start seek file from = record { payloads = []; sized = tt; split = refl; place = omega arith }

module _ (seek : Bool) (file : List ℕ) (from at : ℕ) (walked : Walked seek file from at) where
  -- one frame more
  next : (x : List ℕ) → IsFrame (drop at file) x → MayPass seek x → Walked seek file from (at + 5 + length x)
  next x here fits =
      let ps = walked.payloads in
      let same : at + 5 + length x ≡ at + (5 + length x) = omega arith in
      let back : drop (at + 5 + length x) file ≡ here.rest = ap (λ (k : ℕ). drop k file) same ∙ sym (drop-drop (5 + length x) at file) ∙ behind_frame (drop at file) x here in
      let size_x : length (frames (ps ++ x ∷ [])) ≡ length (frames ps) + 5 + length x =
      omega (arith, ap length (frames_push x [] ps), length-append (frames (ps ++ x ∷ [])) [], length-append (frames ps) (1 ∷ (behind x ++ [])), length-append (behind x) [], length-append (to_be_bytes w32 (length x)) x) in
      record {
        payloads = ps ++ x ∷ [];
        sized = all_push (MayPass seek) ps x walked.sized fits;
        split =
            walked.split
            ∙ ap (λ (l : List ℕ). frames ps ++ l) here.split
            ∙ sym (frames_push x here.rest ps)
            ∙ ap (λ (l : List ℕ). frames (ps ++ x ∷ []) ++ l) (sym back);
        place = omega (arith, walked.place, size_x);
      }

  -- the same of a frame whose payload has `count` bytes
  pub next_counted : (count : ℕ) → 6 + count ≤ length (drop at file) → IsFrame (drop at file) (take count (drop 5 (drop at file))) → MayPass seek (take count (drop 5 (drop at file))) → Walked seek file from (at + 5 + count)
  next_counted count long here fits =
      let payload : List ℕ = take count (drop 5 (drop at file)) in
      subst (λ (k : ℕ). Walked seek file from (at + 5 + k)) (length-take-le count (drop 5 (drop at file)) (omega (arith, length-drop 5 (drop at file)))) (next payload here fits)
