-- What a file reads as, by what a walk over its frames and its selectors finds.
use Rattle.std.proofs.Common.{◌≡◌, ◌≢◌, inl, inr, ℕ, zero, suc, ◌+◌, ◌-◌, ◌<◌, ◌≤◌, ◌^◌, ◌==◌, Bool, true, false, if◌then◌else◌, List, [], ◌∷◌, ◌++◌, length, take, drop, Option, Some, None, refl, sym, ◌∙◌, ap, subst, arith, append_assoc, length-append, length-drop, take-append-drop}
use Rattle.std.specs.Prelude.{MatchOption}
use Rattle.std.specs.List.{AllByRecursion}
use Rattle.std.specs.Int.{w32, w64, to_be_bytes, from_be_bytes}
use Rattle.std.proofs.lemmas.Nat.{from_be_bytes-to_be_bytes_8}
use Rattle.std.proofs.lemmas.List.{drop-drop, length-take-le}
use Rattle.std.proofs.lemmas.Bool.Decides.{nat_tests}
use Rattle.frame_log.specs.Format.{magic, behind, frames, front, starts_with, IsPayload, Broken, part, on_part, more, frames_at, NoLog, log_of}
use Rattle.frame_log.specs.FormatTwo.{Damage, IsOwn, Moving, Selector, area_in, by_moving, byte_at, counting, first_byte, log_in, moved, moving_at, on_counting, on_moved, on_moving, on_selectors, selector_in, sized_area, started}
use Rattle.frame_log.specs.Bases.{Area, IsArea, IsBase, IsWhole, area_at, area_base, behind_selectors, front_on, moved_on, selectors_at}
use Rattle.frame_log.specs.Scan.{IsFrame, IsEnd}
use Rattle.frame_log.specs.Stands.{Knows}
use Rattle.frame_log.specs.Walked.{BreaksAt, Walked}
use Rattle.frame_log.specs.FoundIn.{Chooses, IsAreaIn, IsChoice, IsAnyArea, IsFoundIn, Moves, Picks, PicksAny, moving_from, selector_bytes_at}
use Rattle.frame_log.specs.declared.log.Selected.{Selected}
use Rattle.frame_log.specs.declared.selecting.Choice.{Choice}
use Rattle.frame_log.specs.declared.formats.AreaFound.{AreaFound}
use Rattle.frame_log.specs.declared.formats.LogFound.{LogFound}
use Rattle.frame_log.proofs.Aheads.{behind_frame}
use Rattle.frame_log.proofs.Bases.{area_base_long, area_is_read, area_split, reads_on_magic}
use Rattle.frame_log.proofs.Found.{begins, damaged}
use Rattle.frame_log.proofs.Movings.{finds_moved, own_fits, passes}
use Rattle.frame_log.proofs.Reading.{frames_long, front_long, magic_long, part_frame}

-- ---- frames, and then neither a frame nor an end

pub frames_break : (payloads : List (List ℕ)) (tail : List ℕ) → AllByRecursion IsPayload payloads → 1 ≤ length tail → part tail ≡ Broken → (n at : ℕ) → length payloads < n → frames_at n at (frames payloads ++ tail) ≡ NoLog (at + length (frames payloads))
frames_break payloads tail fit some broken zero at many = absurd (omega arith)
frames_break [] tail fit some broken (suc n) at many = ap (on_part (frames_at n) at) broken ∙ (let here : at ≡ at + 0 = omega arith in ap NoLog here)
frames_break (p ∷ ps) tail fit some broken (suc n) at many =
    let there : at + 5 + length p + length (frames ps) ≡ at + length (frames (p ∷ ps)) = omega (arith, length-append (behind p) (frames ps), length-append (to_be_bytes w32 (length p)) p) in
    ap (λ (l : List ℕ). on_part (frames_at n) at (part (1 ∷ l))) (append_assoc (behind p) (frames ps) tail)
    ∙ ap (on_part (frames_at n) at) (part_frame p (frames ps ++ tail) fit.0 (omega (arith, length-append (frames ps) tail)))
    ∙ ap (more p) (frames_break ps tail fit.1 some broken n (at + 5 + length p) (omega arith))
    ∙ ap NoLog there

none_moves_there : (payloads : List (List ℕ)) (tail : List ℕ) → AllByRecursion IsOwn payloads → 1 ≤ length tail → part tail ≡ Broken → (n at : ℕ) → moving_at n at (frames payloads ++ tail) ≡ None
none_moves_there payloads tail own some broken zero at = refl
none_moves_there [] tail own some broken (suc n) at = ap (on_moving (moving_at n) at) broken
none_moves_there (p ∷ ps) tail own some broken (suc n) at =
    ap (λ (l : List ℕ). on_moving (moving_at n) at (part (1 ∷ l))) (append_assoc (behind p) (frames ps) tail)
    ∙ passes p (frames ps ++ tail) own.0 (omega (arith, length-append (frames ps) tail)) n at
    ∙ none_moves_there ps tail own.1 some broken n (at + 5 + length p)

-- the number of frames is less than the length of the file
fewer : (seek : Bool) (bytes : List ℕ) (from at : ℕ) (walked : Walked seek bytes from at) → from < length bytes → length walked.payloads < length bytes
fewer seek bytes from at walked inside = omega (arith, inside, ap length walked.split, length-drop from bytes, length-append (frames walked.payloads) (drop at bytes), frames_long walked.payloads)

-- ---- the magic, and then a walk that seeks Moved

pub other_magic : (file : ℕ) (bytes : List ℕ) → 9 < length bytes → starts_with (magic file) bytes ≡ false → log_in file bytes ≡ Damage 0
other_magic file bytes long is = grind (arith, nat_tests)

module _ (file : ℕ) (bytes : List ℕ) (long : 9 < length bytes) (is : starts_with (magic file) bytes ≡ true) where
  by_frames : log_in file bytes ≡ by_moving bytes (moving_at (length bytes) 8 (drop 8 bytes)) (log_of file bytes)
  by_frames = grind (arith, nat_tests)

  module _ (at : ℕ) (walked : Walked true bytes 8 at) where
    front_is : bytes ≡ front file walked.payloads ++ drop at bytes
    front_is =
        begins (magic file) bytes is
        ∙ ap (λ (k : ℕ). magic file ++ drop k bytes) (magic_long file)
        ∙ ap (λ (l : List ℕ). magic file ++ l) walked.split
        ∙ sym (append_assoc (magic file) (frames walked.payloads) (drop at bytes))

    pub plain_breaks : at < length bytes → part (drop at bytes) ≡ Broken → log_in file bytes ≡ Damage at
    plain_breaks inside broken =
        let some : 1 ≤ length (drop at bytes) = omega (arith, inside, length-drop at bytes) in
        let none : moving_at (length bytes) 8 (drop 8 bytes) ≡ None = ap (moving_at (length bytes) 8) walked.split ∙ none_moves_there walked.payloads (drop at bytes) walked.sized some broken (length bytes) 8 in
        let breaks : frames_at (length bytes) 8 (drop 8 bytes) ≡ NoLog at =
        ap (frames_at (length bytes) 8) walked.split
        ∙ frames_break walked.payloads (drop at bytes) (own_fits walked.payloads walked.sized) some broken (length bytes) 8 (fewer true bytes 8 at walked (omega (arith, long)))
        ∙ ap NoLog (sym walked.place) in
        by_frames ∙ (λ i. by_moving bytes (none i) (damaged file at bytes (omega (arith, long)) is breaks i))

    pub plain_found : (found : LogFound) → found.area ≡ None → found.other ≡ 0 → found.first ≡ 8 → found.end ≡ at → IsEnd (drop at bytes) found.gate → IsFoundIn file bytes found
    plain_found found no_area other first end here =
        let split : bytes ≡ front file walked.payloads ++ found.gate ∷ here.rest = front_is ∙ ap (λ (l : List ℕ). front file walked.payloads ++ l) here.split in
        record {
          base = None;
          payloads = walked.payloads;
          rest = here.rest;
          is_area = tt;
          sized = walked.sized;
          split = split;
          shut = here.shut;
          first = first ∙ sym (magic_long file);
          end = end ∙ walked.place ∙ sym (front_long file walked.payloads);
          picks = subst (λ (a : Option Selected). PicksAny None a found.other) (sym no_area) other;
          reads = ap (log_in file) split ∙ (reads_on_magic file).reads walked.payloads found.gate here.rest walked.sized here.shut;
        }

-- ---- Moved, and its selectors

-- the bytes behind the frame of Moved
behind_moved : (bytes : List ℕ) (gate q : ℕ) (frame : IsFrame (drop gate bytes) (moved q)) → drop (gate + 14) bytes ≡ frame.rest
behind_moved bytes gate q frame = sym (drop-drop 14 gate bytes) ∙ behind_frame (drop gate bytes) (moved q) frame

-- a file is read by where Moved leads
pub by_moved : (file : ℕ) (bytes : List ℕ) (gate q : ℕ) → Moves file bytes gate q → 9 < length bytes → log_in file bytes ≡ on_moved bytes (moving_from gate q bytes)
by_moved file bytes gate q m long =
    let whole : drop 8 bytes ≡ frames m.walked.payloads ++ 1 ∷ (behind (moved q) ++ m.frame.rest) = m.walked.split ∙ ap (λ (l : List ℕ). frames m.walked.payloads ++ l) m.frame.split in
    let finds : moving_at (length bytes) 8 (drop 8 bytes) ≡ Some (record { gate = 8 + length (frames m.walked.payloads); place = q; rest = m.frame.rest }) =
    ap (moving_at (length bytes) 8) whole
    ∙ finds_moved m.walked.payloads q m.frame.rest m.walked.sized m.small m.frame.more (length bytes) 8 (fewer true bytes 8 gate m.walked (omega (arith, long))) in
    let moving : Some (record { gate = 8 + length (frames m.walked.payloads); place = q; rest = m.frame.rest }) ≡ Some (moving_from gate q bytes) =
    (λ i. Some (record { gate = sym m.walked.place i; place = q; rest = sym (behind_moved bytes gate q m.frame) i })) in
    by_frames file bytes long m.begins ∙ ap (λ (k : Option Moving). by_moving bytes k (log_of file bytes)) (finds ∙ moving)

module _ (bytes : List ℕ) (gate q : ℕ) where
  pub wrong_place : q ≢ gate + 15 → on_moved bytes (moving_from gate q bytes) ≡ Damage gate
  wrong_place other = grind (arith, nat_tests)

  pub open_behind : byte_at (gate + 14) bytes ≡ 1 → on_moved bytes (moving_from gate q bytes) ≡ Damage gate
  open_behind is = by_place (q == gate + 15) refl
    where
      by_place : (b : Bool) → (q == gate + 15) ≡ b → on_moved bytes (moving_from gate q bytes) ≡ Damage gate
      by_place true same = grind (arith, nat_tests)
      by_place false other = grind (arith, nat_tests)

  module _ (place : q ≡ gate + 15) (shut : byte_at (gate + 14) bytes ≢ 1) where
    behind_end : drop 1 (drop (gate + 14) bytes) ≡ drop q bytes
    behind_end = drop-drop 1 (gate + 14) bytes ∙ (let same : gate + 14 + 1 ≡ q = omega (arith, place) in ap (λ (k : ℕ). drop k bytes) same)

    to_selectors : on_moved bytes (moving_from gate q bytes) ≡ on_selectors q bytes (drop q bytes)
    to_selectors =
        let there : on_moved bytes (moving_from gate q bytes) ≡ on_selectors q bytes (drop 1 (drop (gate + 14) bytes)) = grind (arith, nat_tests) in
        there ∙ ap (on_selectors q bytes) behind_end

    pub no_selectors : length bytes < q + 34 → on_moved bytes (moving_from gate q bytes) ≡ Damage q
    no_selectors short =
        let few : length (drop q bytes) < 34 = omega (arith, short, length-drop q bytes) in
        let none : on_selectors q bytes (drop q bytes) ≡ Damage q = grind (arith, nat_tests) in
        to_selectors ∙ none

    module _ (room : q + 34 ≤ length bytes) where
      to_counting : on_moved bytes (moving_from gate q bytes) ≡ on_counting q bytes (counting (selector_in (selector_bytes_at q bytes)) (selector_in (selector_bytes_at (q + 17) bytes)))
      to_counting =
          let many : 34 ≤ length (drop q bytes) = omega (arith, room, length-drop q bytes) in
          let both : on_selectors q bytes (drop q bytes) ≡ on_counting q bytes (counting (selector_in (take 17 (drop q bytes))) (selector_in (take 17 (drop 17 (drop q bytes))))) = grind (arith, nat_tests) in
          to_selectors ∙ both ∙ ap (λ (l : List ℕ). on_counting q bytes (counting (selector_in (take 17 (drop q bytes))) (selector_in (take 17 l)))) (drop-drop 17 q bytes)

      pub none_counts : counting (selector_in (selector_bytes_at q bytes)) (selector_in (selector_bytes_at (q + 17) bytes)) ≡ None → on_moved bytes (moving_from gate q bytes) ≡ Damage q
      none_counts none = to_counting ∙ ap (on_counting q bytes) none

-- what is chosen of two selectors, of equal ones
pub chosen_is : (at : ℕ) (a b x y : Selector) (result : Option Choice) → a ≡ x → b ≡ y → MatchOption result (counting a b ≡ None) (λ c. Chooses at a b c) → MatchOption result (counting x y ≡ None) (λ c. Chooses at x y c)
chosen_is at a b x y result first second is =
    subst (λ (s : Selector). MatchOption result (counting s y ≡ None) (λ c. Chooses at s y c)) first (subst (λ (s : Selector). MatchOption result (counting a s ≡ None) (λ c. Chooses at a s c)) second is)

-- ---- the selector that counts

below : (q : ℕ) (bytes : List ℕ) (s : Selector) → s.place < q + 34 → on_counting q bytes (Some s) ≡ Damage s.place
below q bytes s near = grind (arith, nat_tests)

above : (q : ℕ) (bytes : List ℕ) (s : Selector) → q + 34 ≤ s.place → on_counting q bytes (Some s) ≡ area_in (length bytes) s.place (drop s.place bytes)
above q bytes s far = grind (arith, nat_tests)

abbrev named_by : List ℕ → ℕ → Choice → Selector
named_by bytes q c = if c.selected.second then selector_in (selector_bytes_at (q + 17) bytes) else selector_in (selector_bytes_at q bytes)

module _ (bytes : List ℕ) (gate q : ℕ) (c : Choice) (choice : IsChoice bytes gate q c) where
  to_chosen : on_moved bytes (moving_from gate q bytes) ≡ on_counting q bytes (Some (named_by bytes q c))
  to_chosen = to_counting bytes gate q choice.place choice.shut choice.room ∙ ap (on_counting q bytes) choice.chooses.counts

  pub too_near : c.selected.place < q + 34 → on_moved bytes (moving_from gate q bytes) ≡ Damage c.selected.place
  too_near near =
      let there : c.selected.place ≡ (named_by bytes q c).place = choice.chooses.place in
      to_chosen ∙ below q bytes (named_by bytes q c) (subst (λ (k : ℕ). k < q + 34) there near) ∙ ap Damage (sym there)

  pub to_area : q + 34 ≤ c.selected.place → on_moved bytes (moving_from gate q bytes) ≡ area_in (length bytes) c.selected.place (drop c.selected.place bytes)
  to_area far =
      let there : c.selected.place ≡ (named_by bytes q c).place = choice.chooses.place in
      to_chosen ∙ above q bytes (named_by bytes q c) (subst (λ (k : ℕ). q + 34 ≤ k) there far) ∙ ap (λ (k : ℕ). area_in (length bytes) k (drop k bytes)) (sym there)

-- ---- an area

module _ (bytes : List ℕ) (n place : ℕ) where
  pub no_size : length bytes < place + 8 → area_in n place (drop place bytes) ≡ Damage place
  no_size short =
      let few : length (drop place bytes) < 8 = omega (arith, short, length-drop place bytes) in
      grind (arith, nat_tests)

  module _ (size : ℕ) (small : size < 2 ^ 64) (room : place + 8 ≤ length bytes) (number : to_be_bytes w64 size ≡ take 8 (drop place bytes)) where
    sized : area_in n place (drop place bytes) ≡ sized_area n place size (drop (place + 8) bytes)
    sized =
        let many : 8 ≤ length (drop place bytes) = omega (arith, room, length-drop place bytes) in
        let open_size : area_in n place (drop place bytes) ≡ sized_area n place (from_be_bytes w64 (take 8 (drop place bytes))) (drop 8 (drop place bytes)) = grind (arith, nat_tests) in
        let size_is : from_be_bytes w64 (take 8 (drop place bytes)) ≡ size = ap (from_be_bytes w64) (sym number) ∙ from_be_bytes-to_be_bytes_8 size small in
        open_size ∙ (λ i. sized_area n place (size_is i) (drop-drop 8 place bytes i))

    pub no_image : length bytes ≤ place + 8 + size → area_in n place (drop place bytes) ≡ Damage place
    no_image short =
        let few : length (drop (place + 8) bytes) ≤ size = omega (arith, short, length-drop (place + 8) bytes) in
        let none : sized_area n place size (drop (place + 8) bytes) ≡ Damage place = grind (arith, nat_tests) in
        sized ∙ none

    pub area_breaks : place + 8 + size < length bytes → length bytes ≤ n → (at : ℕ) → BreaksAt false bytes (place + 8 + size) at → area_in n place (drop place bytes) ≡ Damage at
    area_breaks inside enough at breaks =
        let many : size < length (drop (place + 8) bytes) = omega (arith, inside, length-drop (place + 8) bytes) in
        let open_image : sized_area n place size (drop (place + 8) bytes) ≡ started (place + 8) (take size (drop (place + 8) bytes)) (frames_at n (place + 8 + size) (drop size (drop (place + 8) bytes))) = grind (arith, nat_tests) in
        let some : 1 ≤ length (drop at bytes) = omega (arith, breaks.inside, length-drop at bytes) in
        let walked = breaks.walked in
        let few : length walked.payloads < n = omega (arith, fewer false bytes (place + 8 + size) at walked inside, enough) in
        let none : frames_at n (place + 8 + size) (drop size (drop (place + 8) bytes)) ≡ NoLog at =
        ap (frames_at n (place + 8 + size)) (drop-drop size (place + 8) bytes ∙ walked.split)
        ∙ frames_break walked.payloads (drop at bytes) walked.sized some breaks.broken n (place + 8 + size) few
        ∙ ap NoLog (sym walked.place) in
        sized ∙ open_image ∙ ap (started (place + 8) (take size (drop (place + 8) bytes))) none

-- ---- a log that stands on an area

-- the bytes from one offset on, up to another one and from there on
cut : (bytes : List ℕ) (i n j : ℕ) → j ≡ i + n → drop i bytes ≡ take n (drop i bytes) ++ drop j bytes
cut bytes i n j is =
    sym (take-append-drop n (drop i bytes)) ∙ ap (λ (l : List ℕ). take n (drop i bytes) ++ l) (drop-drop n i bytes ∙ ap (λ (k : ℕ). drop k bytes) (sym is))

first_is : (l : List ℕ) → 1 ≤ length l → l ≡ first_byte l ∷ drop 1 l
first_is [] some = absurd (omega arith)
first_is (b ∷ l) some = refl

-- so many bytes are there
cut_long : (bytes : List ℕ) (i n : ℕ) → i + n ≤ length bytes → length (take n (drop i bytes)) ≡ n
cut_long bytes i n inside = length-take-le n (drop i bytes) (omega (arith, inside, length-drop i bytes))

-- the area at this place, by the bytes of the file
abbrev area_of : List (List ℕ) → List ℕ → ℕ → ℕ → ℕ → ℕ → Area
area_of old bytes gate q place size = record {
  old = old;
  end = byte_at (gate + 14) bytes;
  first = selector_bytes_at q bytes;
  second = selector_bytes_at (q + 17) bytes;
  gap = take (place - (q + 34)) (drop (q + 34) bytes);
  image = take size (drop (place + 8) bytes);
}

selector_of_bytes : (b : Bool) (x y : List ℕ) → (if b then selector_in x else selector_in y) ≡ selector_in (if b then x else y)
selector_of_bytes true x y = refl
selector_of_bytes false x y = refl

module _ (file : ℕ) (bytes : List ℕ) (gate q : ℕ) (m : Moves file bytes gate q) (c : Choice) (choice : IsChoice bytes gate q c) (far : q + 34 ≤ c.selected.place) (r : AreaFound) (found : IsAreaIn bytes c.selected.place r) (limit : length bytes ≤ 2 ^ 62) where
  abbrev place : ℕ
  place = c.selected.place

  abbrev area : Area
  area = area_of m.walked.payloads bytes gate q c.selected.place found.size

  q_is : selectors_at area ≡ q
  q_is = omega (arith, m.walked.place, choice.place)

  image_long : length area.image ≡ found.size
  image_long = cut_long bytes (place + 8) found.size (omega (arith, found.room))

  place_is : area_at area ≡ place
  place_is = omega (arith, q_is, far, cut_long bytes (q + 34) (place - (q + 34)) (omega (arith, far, found.room)))

  -- the bytes of the frames and the end gate
  ends : drop (place + 8 + found.size) bytes ≡ frames found.walked.payloads ++ r.gate ∷ found.ends.rest
  ends = ap (λ (k : ℕ). drop k bytes) (sym found.first) ∙ found.walked.split ∙ ap (λ (l : List ℕ). frames found.walked.payloads ++ l) found.ends.split

  later : List ℕ
  later = frames found.walked.payloads ++ r.gate ∷ found.ends.rest

  -- the bytes behind the selectors
  behind_is : drop (q + 34) bytes ≡ behind_selectors area ++ later
  unfolding later
  behind_is =
      cut bytes (q + 34) (place - (q + 34)) place (omega (arith, far))
      ∙ ap (λ (l : List ℕ). area.gap ++ l)
      (cut bytes place 8 (place + 8) refl
      ∙ (λ i. sym found.number i ++ drop (place + 8) bytes)
      ∙ (λ i. to_be_bytes w64 (sym image_long i) ++ drop (place + 8) bytes)
      ∙ ap (λ (l : List ℕ). to_be_bytes w64 (length area.image) ++ l) (cut bytes (place + 8) found.size (place + 8 + found.size) refl ∙ ap (λ (l : List ℕ). area.image ++ l) ends)
      ∙ sym (append_assoc (to_be_bytes w64 (length area.image)) area.image (frames found.walked.payloads ++ r.gate ∷ found.ends.rest)))
      ∙ sym (append_assoc area.gap (to_be_bytes w64 (length area.image) ++ area.image) (frames found.walked.payloads ++ r.gate ∷ found.ends.rest))

  -- the bytes behind Moved
  moved_is : m.frame.rest ≡ area.end ∷ (area.first ++ (area.second ++ drop (q + 34) bytes))
  moved_is =
      sym (behind_moved bytes gate q m.frame)
      ∙ first_is (drop (gate + 14) bytes) (omega (arith, length-drop (gate + 14) bytes, choice.place, choice.room))
      ∙ ap (λ (l : List ℕ). area.end ∷ l)
      (behind_end bytes gate q choice.place choice.shut
      ∙ cut bytes q 17 (q + 17) refl
      ∙ ap (λ (l : List ℕ). area.first ++ l) (cut bytes (q + 17) 17 (q + 34) (omega arith)))

  is_area : IsArea area
  is_area = record {
    own = m.walked.sized;
    named = named_by bytes q c;
    counts = choice.chooses.counts;
    place = sym choice.chooses.place ∙ sym place_is;
    first = cut_long bytes q 17 (omega (arith, choice.room));
    second = cut_long bytes (q + 17) 17 (omega (arith, choice.room));
    shut = choice.shut;
    near = omega (arith, q_is, choice.room, limit);
    small = omega (arith, image_long, found.room, limit);
  }

  split_is : bytes ≡ front_on (area_base file area) found.walked.payloads ++ r.gate ∷ found.ends.rest
  unfolding later
  split_is =
      front_is file bytes (omega (arith, choice.room)) m.begins gate m.walked
      ∙ ap (λ (l : List ℕ). front file m.walked.payloads ++ l) (m.frame.split ∙ (λ i. 1 ∷ (behind (moved (sym q_is i)) ++ moved_is i)))
      ∙ ap (λ (l : List ℕ). moved_on file m.walked.payloads (selectors_at area) area.end area.first area.second l) behind_is
      ∙ sym (area_split file area is_area found.walked.payloads r.gate found.ends.rest found.walked.sized found.ends.shut)

  picks : Picks area c.selected c.other
  picks =
      let same = selector_of_bytes c.selected.second area.second area.first in
      let other = selector_of_bytes c.selected.second area.first area.second in
      record {
        selectors = choice.chooses.selectors ∙ sym q_is;
        counts = choice.chooses.counts ∙ ap Some same;
        is_open = ap (λ (s : Selector). s.gate) (sym same) ∙ choice.chooses.gate;
        turn = choice.chooses.turn ∙ ap (λ (s : Selector). s.turn) same;
        place = sym place_is;
        other = choice.chooses.other ∙ ap (λ (s : Selector). s.gate) other;
      }

  pub area_found : (log : LogFound) → log.area ≡ Some c.selected → log.other ≡ c.other → log.first ≡ r.first → log.end ≡ r.end → log.gate ≡ r.gate → IsFoundIn file bytes log
  area_found log selected other first end gate_is =
      let split : bytes ≡ front_on (area_base file area) found.walked.payloads ++ log.gate ∷ found.ends.rest = split_is ∙ (λ i. front_on (area_base file area) found.walked.payloads ++ sym gate_is i ∷ found.ends.rest) in
      let base_long : length (area_base file area) ≡ place + 8 + found.size = omega (arith, area_base_long file area is_area, place_is, image_long) in
      record {
        base = Some area;
        payloads = found.walked.payloads;
        rest = found.ends.rest;
        is_area = is_area;
        sized = found.walked.sized;
        split = split;
        shut = λ one. found.ends.shut (sym gate_is ∙ one);
        first = first ∙ found.first ∙ sym base_long;
        end = omega (arith, end, found.walked.place, found.first, base_long, length-append (area_base file area) (frames found.walked.payloads));
        picks = subst (λ (a : Option Selected). PicksAny (Some area) a log.other) (sym selected) (subst (λ (k : ℕ). Picks area c.selected k) (sym other) picks);
        reads = ap (log_in file) split_is ∙ area_is_read file area is_area found.walked.payloads r.gate found.ends.rest found.walked.sized found.ends.shut;
      }

-- ---- a log whose other selector is shut, and not torn

whole_of : (second : Bool) (a b : List ℕ) → (selector_in (if second then b else a)).gate ≡ 1 → (selector_in (if second then a else b)).gate ≡ 0 → IsWhole a × IsWhole b
whole_of true a b one none = (inl none, inr one)
whole_of false a b one none = (inr one, inl none)

-- then the log knows what it stands on
pub found_base : (base : Option Area) (selected : Option Selected) (other : ℕ) → IsAnyArea base → PicksAny base selected other → other ≡ 0 → IsBase base × Knows selected base
found_base None None other is p none = (tt, tt)
found_base None (Some s) other is p none = absurd p
found_base (Some a) None other is p none = absurd p
found_base (Some a) (Some s) other is p none =
    let alone : (selector_in (if s.second then a.first else a.second)).gate ≡ 0 = sym p.other ∙ none in
    let whole = whole_of s.second a.first a.second p.is_open alone in (
      record { is = is; first = whole.0; second = whole.1 },
      record { selectors = p.selectors; counts = p.is_open; alone = alone; turn = p.turn; place = p.place },
    )
