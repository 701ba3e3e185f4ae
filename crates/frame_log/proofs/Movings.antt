-- Old files read as they did; and what a file of format 2 reads as, by its two selectors.
use Rattle.std.proofs.Common.{◌≡◌, ◌≢◌, ℕ, zero, suc, ◌+◌, ◌<◌, ◌≤◌, ◌^◌, Bool, true, false, List, [], ◌∷◌, ◌++◌, length, take, drop, Some, None, refl, sym, ◌∙◌, ap, arith, append_assoc, length-append, inl, inr}
use Rattle.std.specs.List.{AllByRecursion}
use Rattle.std.specs.Int.{w32, w64, to_be_bytes, from_be_bytes}
use Rattle.std.proofs.lemmas.Nat.{from_be_bytes-to_be_bytes_8}
use Rattle.std.proofs.lemmas.List.{take_at, drop_at}
use Rattle.std.proofs.lemmas.Bool.Decides.{nat_tests}
use Rattle.std.proofs.lemmas.Bool.{cases_lt}
use Rattle.frame_log.specs.Format.{magic, frames, front, behind, IsPayload, part, Found, NoLog, frames_at, starts_with, log_of}
use Rattle.frame_log.proofs.Reading.{part_frame, part_end, frames_long, magic_long, frames_read}
use Rattle.frame_log.specs.Bases.{moved_on}
use Rattle.frame_log.specs.FormatTwo.{Holds, IsOwn, Selector, area_in, by_moving, counting, log_in, moved, moving_at, next_turn, of_frames, on_counting, on_moved, on_moving, on_selectors, selector_bytes, selector_in, since, since_nothing, sized_area, started}

-- a file without the frame of Moved reads as it did in format 1
pub same_log : (file : ℕ) (bytes : List ℕ) (payloads : List (List ℕ)) (gate : ℕ) → moving_at (length bytes) 8 (drop 8 bytes) ≡ None → log_of file bytes ≡ Found payloads gate → log_in file bytes ≡ Holds (since_nothing payloads)
same_log file bytes payloads gate none found = elim (cases_lt 9 (length bytes)) [
  | inl long ↦ by_magic (starts_with (magic file) bytes) refl long
  | inr short ↦
      let is_short : log_of file bytes ≡ Found [] 0 = grind (arith, nat_tests) in
      let same : Found [] 0 ≡ Found payloads gate = sym is_short ∙ found in
      let now : log_in file bytes ≡ Holds (since_nothing []) = grind (arith, nat_tests) in
      now ∙ ap of_frames same
]
  where
    by_magic : (b : Bool) → starts_with (magic file) bytes ≡ b → 9 < length bytes → log_in file bytes ≡ Holds (since_nothing payloads)
    by_magic true is long =
        let whole : log_in file bytes ≡ by_moving bytes (moving_at (length bytes) 8 (drop 8 bytes)) (log_of file bytes) = grind (arith, nat_tests) in
        whole ∙ ap (λ m. by_moving bytes m (log_of file bytes)) none ∙ ap of_frames found
    by_magic false is long =
        let other : log_of file bytes ≡ NoLog 0 = grind (arith, nat_tests) in
        absurd (cc (other, found))

pub own_fits : (payloads : List (List ℕ)) → AllByRecursion IsOwn payloads → AllByRecursion IsPayload payloads
own_fits [] own = tt
own_fits (p ∷ ps) own = (own.0.fits, own_fits ps own.1)

-- a payload of a log's own is passed
pub passes : (p tail : List ℕ) → IsOwn p → 1 ≤ length tail → (n at : ℕ) → on_moving (moving_at n) at (part (1 ∷ (behind p ++ tail))) ≡ moving_at n (at + 5 + length p) tail
passes p tail own long n at = ap (on_moving (moving_at n) at) (part_frame p tail own.fits long) ∙ (let no = own.own in grind (arith, nat_tests))

-- no frame of such payloads moves
pub none_moves : (payloads : List (List ℕ)) (gate : ℕ) (rest : List ℕ) → AllByRecursion IsOwn payloads → gate ≢ 1 → (n at : ℕ) → moving_at n at (frames payloads ++ gate ∷ rest) ≡ None
none_moves payloads gate rest own shut zero at = refl
none_moves [] gate rest own shut (suc n) at = ap (on_moving (moving_at n) at) (part_end gate rest shut)
none_moves (p ∷ ps) gate rest own shut (suc n) at =
    ap (λ (l : List ℕ). on_moving (moving_at n) at (part (1 ∷ l))) (append_assoc (behind p) (frames ps) (gate ∷ rest))
    ∙ passes p (frames ps ++ gate ∷ rest) own.0 (omega (arith, length-append (frames ps) (gate ∷ rest))) n at
    ∙ none_moves ps gate rest own.1 shut n (at + 5 + length p)

-- so a log of format 1 reads as it always did
pub front_reads : (file : ℕ) (payloads : List (List ℕ)) (gate : ℕ) (rest : List ℕ) → AllByRecursion IsOwn payloads → gate ≢ 1 → log_of file (front file payloads ++ gate ∷ rest) ≡ Found payloads gate
    → log_in file (front file payloads ++ gate ∷ rest) ≡ Holds (since_nothing payloads)
front_reads file payloads gate rest own shut found =
    let group : front file payloads ++ gate ∷ rest ≡ magic file ++ (frames payloads ++ gate ∷ rest) = append_assoc (magic file) (frames payloads) (gate ∷ rest) in
    let back : drop 8 (front file payloads ++ gate ∷ rest) ≡ frames payloads ++ gate ∷ rest = ap (drop 8) group ∙ drop_at (magic file) (frames payloads ++ gate ∷ rest) 8 (magic_long file) in
    same_log file (front file payloads ++ gate ∷ rest) payloads gate
    (ap (moving_at (length (front file payloads ++ gate ∷ rest)) 8) back ∙ none_moves payloads gate rest own shut (length (front file payloads ++ gate ∷ rest)) 8)
    found

-- the payload of Moved
moved_fits : (q : ℕ) → IsPayload (moved q)
moved_fits q = record { some = omega arith; limit = omega arith }

moved_names : (q : ℕ) → q < 2 ^ 64 → from_be_bytes w64 (drop 1 (moved q)) ≡ q
moved_names q small = from_be_bytes-to_be_bytes_8 q small

-- the frame of Moved is found behind payloads of the log's own
pub finds_moved : (payloads : List (List ℕ)) (q : ℕ) (tail : List ℕ) → AllByRecursion IsOwn payloads → q < 2 ^ 64 → 1 ≤ length tail → (n at : ℕ) → length payloads < n
    → moving_at n at (frames payloads ++ 1 ∷ (behind (moved q) ++ tail)) ≡ Some (record { gate = at + length (frames payloads); place = q; rest = tail })
finds_moved payloads q tail own small long zero at many = absurd (omega arith)
finds_moved [] q tail own small long (suc n) at many =
    ap (on_moving (moving_at n) at) (part_frame (moved q) tail (moved_fits q) long)
    ∙ (λ i. Some (record { gate = at_is i; place = moved_names q small i; rest = tail }))
  where
    at_is : at ≡ at + length (frames [])
    at_is = omega arith
finds_moved (p ∷ ps) q tail own small long (suc n) at many =
    let later : List ℕ = 1 ∷ (behind (moved q) ++ tail) in
    let at_is : at + 5 + length p + length (frames ps) ≡ at + length (frames (p ∷ ps)) = omega (arith, length-append (behind p) (frames ps), length-append (to_be_bytes w32 (length p)) p) in
    ap (λ (l : List ℕ). on_moving (moving_at n) at (part (1 ∷ l))) (append_assoc (behind p) (frames ps) later)
    ∙ passes p (frames ps ++ later) own.0 (omega (arith, length-append (frames ps) later)) n at
    ∙ finds_moved ps q tail own.1 small long n (at + 5 + length p) (omega arith)
    ∙ ap (λ (k : ℕ). Some (record { gate = k; place = q; rest = tail })) at_is

-- a selector reads as itself
pub selector_reads : (s : Selector) → s.turn < 2 ^ 64 → s.place < 2 ^ 64 → selector_in (selector_bytes s) ≡ s
selector_reads s turn place = λ i. record { gate = s.gate; turn = turn_is i; place = place_is i }
  where
    two : List ℕ
    two = to_be_bytes w64 s.turn ++ to_be_bytes w64 s.place

    turn_is : from_be_bytes w64 (take 8 two) ≡ s.turn
    turn_is = ap (from_be_bytes w64) (take_at (to_be_bytes w64 s.turn) (to_be_bytes w64 s.place) 8 refl) ∙ from_be_bytes-to_be_bytes_8 s.turn turn

    place_bytes : take 8 (drop 8 two) ≡ to_be_bytes w64 s.place
    place_bytes = ap (take 8) (drop_at (to_be_bytes w64 s.turn) (to_be_bytes w64 s.place) 8 refl)

    place_is : from_be_bytes w64 (take 8 (drop 9 (selector_bytes s))) ≡ s.place
    place_is = ap (from_be_bytes w64) place_bytes ∙ from_be_bytes-to_be_bytes_8 s.place place

-- the selectors of a file, whatever their bytes
selectors_read : (q : ℕ) (bytes a b tail : List ℕ) → length a ≡ 17 → length b ≡ 17 → on_selectors q bytes (a ++ (b ++ tail)) ≡ on_counting q bytes (counting (selector_in a) (selector_in b))
selectors_read q bytes a b tail long_a long_b =
    let rest : List ℕ = a ++ (b ++ tail) in
    let long : 34 ≤ length rest = omega (arith, length-append a (b ++ tail), length-append b tail, long_a, long_b) in
    let first : take 17 rest ≡ a = take_at a (b ++ tail) 17 long_a in
    let second : take 17 (drop 17 rest) ≡ b = ap (take 17) (drop_at a (b ++ tail) 17 long_a) ∙ take_at b tail 17 long_b in
    let open_rest : on_selectors q bytes rest ≡ on_counting q bytes (counting (selector_in (take 17 rest)) (selector_in (take 17 (drop 17 rest)))) = grind (arith, nat_tests) in
    open_rest ∙ (λ i. on_counting q bytes (counting (selector_in (first i)) (selector_in (second i))))

starts : (file : ℕ) (rest : List ℕ) → starts_with (magic file) (magic file ++ rest) ≡ true
starts zero rest = refl
starts (suc file) rest = refl

-- A file with the frame that moves behind payloads, and its two selectors behind that, whatever follows, reads by the selector that counts.
module _ (file : ℕ) (old : List (List ℕ)) (q end : ℕ) (a b tail : List ℕ) (own : AllByRecursion IsOwn old) (place : q ≡ 8 + length (frames old) + 15) (small : q < 2 ^ 64) (long_a : length a ≡ 17) (long_b : length b ≡ 17) (shut : end ≢ 1) where
  selectors : List ℕ
  selectors = a ++ (b ++ tail)

  behind_gate : List ℕ
  behind_gate = behind (moved q) ++ end ∷ selectors

  moved_file : List ℕ
  moved_file = front file old ++ 1 ∷ behind_gate

  group : moved_file ≡ magic file ++ (frames old ++ 1 ∷ behind_gate)
  unfolding moved_file
  group = append_assoc (magic file) (frames old) (1 ∷ behind_gate)

  back : drop 8 moved_file ≡ frames old ++ 1 ∷ behind_gate
  back = ap (λ (l : List ℕ). drop 8 l) group ∙ drop_at (magic file) (frames old ++ 1 ∷ behind_gate) 8 (magic_long file)

  begins : starts_with (magic file) moved_file ≡ true
  begins = ap (starts_with (magic file)) group ∙ starts file (frames old ++ 1 ∷ behind_gate)

  size : length moved_file ≡ 8 + length (frames old) + 1 + length behind_gate
  size = omega (arith, ap length group, length-append (magic file) (frames old ++ 1 ∷ behind_gate), magic_long file, length-append (frames old) (1 ∷ behind_gate))

  longer : 14 ≤ length behind_gate
  unfolding behind_gate
  longer = omega (arith, length-append (behind (moved q)) (end ∷ selectors))

  finds : moving_at (length moved_file) 8 (drop 8 moved_file) ≡ Some (record { gate = 8 + length (frames old); place = q; rest = end ∷ selectors })
  unfolding behind_gate
  finds =
      ap (moving_at (length moved_file) 8) back
      ∙ finds_moved old q (end ∷ selectors) own small (omega arith) (length moved_file) 8 (omega (arith, size, longer, frames_long old))

  turns : on_moved moved_file (record { gate = 8 + length (frames old); place = q; rest = end ∷ selectors }) ≡ on_selectors q moved_file selectors
  turns = grind (arith, nat_tests)

  moved_reads : log_in file moved_file ≡ on_counting q moved_file (counting (selector_in a) (selector_in b))
  unfolding selectors
  moved_reads =
      let long : 9 < length moved_file = omega (arith, size, longer) in
      let is = begins in
      let whole : log_in file moved_file ≡ by_moving moved_file (moving_at (length moved_file) 8 (drop 8 moved_file)) (log_of file moved_file) = grind (arith, nat_tests) in
      whole ∙ ap (λ m. by_moving moved_file m (log_of file moved_file)) finds ∙ turns ∙ selectors_read q moved_file a b tail long_a long_b

  -- the same, with the bytes written out
  pub reads_by : log_in file (moved_on file old q end a b tail) ≡ on_counting q (moved_on file old q end a b tail) (counting (selector_in a) (selector_in b))
  unfolding moved_file behind_gate selectors
  reads_by = moved_reads

  pub moves_by : moving_at (length (moved_on file old q end a b tail)) 8 (drop 8 (moved_on file old q end a b tail)) ≡ Some (record { gate = 8 + length (frames old); place = q; rest = end ∷ (a ++ (b ++ tail)) })
  unfolding moved_file behind_gate selectors
  moves_by = finds

  pub long_by : 9 < length (moved_on file old q end a b tail)
  unfolding moved_file behind_gate selectors
  long_by = omega (arith, size, longer)

-- which selector counts at each step of a compaction: while the new one is closed or torn, once both are open, and once the old one is torn or closed
pub old_counts : (a b : Selector) → a.gate ≡ 1 → b.gate ≢ 1 → counting a b ≡ Some a
old_counts a b is shut = grind (arith, nat_tests)

pub new_counts : (a b : Selector) → a.gate ≡ 1 → b.gate ≡ 1 → b.turn ≡ next_turn a.turn → counting a b ≡ Some b
new_counts a b is also turn = grind (arith, nat_tests)

pub new_alone : (a b : Selector) → a.gate ≢ 1 → b.gate ≡ 1 → counting a b ≡ Some b
new_alone a b shut is = grind (arith, nat_tests)

-- an area reads as its image and its frames
pub area_reads : (n place : ℕ) (image : List ℕ) (payloads : List (List ℕ)) (gate : ℕ) (rest : List ℕ) → AllByRecursion IsPayload payloads → gate ≢ 1 → length image < 2 ^ 64 → length payloads < n
    → area_in n place (to_be_bytes w64 (length image) ++ (image ++ (frames payloads ++ gate ∷ rest))) ≡ Holds (since (place + 8) image payloads)
area_reads n place image payloads gate rest fit shut small many =
    let later : List ℕ = frames payloads ++ gate ∷ rest in
    let four : List ℕ = to_be_bytes w64 (length image) in
    let bytes : List ℕ = four ++ (image ++ later) in
    let size_is : from_be_bytes w64 (take 8 bytes) ≡ length image = ap (from_be_bytes w64) (take_at four (image ++ later) 8 refl) ∙ from_be_bytes-to_be_bytes_8 (length image) small in
    let tail_is : drop 8 bytes ≡ image ++ later = drop_at four (image ++ later) 8 refl in
    let long : 8 ≤ length bytes = omega (arith, length-append four (image ++ later)) in
    let more : length image < length (image ++ later) = omega (arith, length-append image later, length-append (frames payloads) (gate ∷ rest)) in
    let whole : area_in n place bytes ≡ sized_area n place (from_be_bytes w64 (take 8 bytes)) (drop 8 bytes) = grind (arith, nat_tests) in
    let sized : sized_area n place (length image) (image ++ later) ≡ started (place + 8) (take (length image) (image ++ later)) (frames_at n (place + 8 + length image) (drop (length image) (image ++ later))) = grind (arith, nat_tests) in
    whole
    ∙ (λ i. sized_area n place (size_is i) (tail_is i))
    ∙ sized
    ∙ (λ i. started (place + 8) (take_at image later (length image) refl i) (frames_at n (place + 8 + length image) (drop_at image later (length image) refl i)))
    ∙ ap (started (place + 8) image) (frames_read payloads gate rest fit shut n (place + 8 + length image) many)
