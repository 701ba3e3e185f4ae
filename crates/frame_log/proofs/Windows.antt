-- The bytes of a window are those of the file.
use Rattle.std.proofs.Common.{◌≡◌, ℕ, ◌+◌, ◌-◌, ◌≤◌, List, [], length, take, drop, inl, inr, sym, ◌∙◌, ap, subst, arith, length-drop}
use Rattle.std.proofs.lemmas.Bool.{cases_lt}
use Rattle.std.proofs.lemmas.List.{take_all, take-take, drop-drop, drop-take}
use Rattle.hk_base.specs.Disk.{piece}
use Rattle.frame_log.specs.Ahead.{HasBytesOf, ShowsWindow}
use Rattle.frame_log.specs.declared.window.Window.{Window}

-- the bytes of a window from an offset on
inside : (file bytes : List ℕ) (from at k : ℕ) → from ≤ at → at ≤ from + k → bytes ≡ take k (drop from file) → drop (at - from) bytes ≡ take (from + k - at) (drop at file)
inside file bytes from at k le within is =
    let i : ℕ = at - from in
    let split : k ≡ i + (from + k - at) = omega arith in
    let there : from + i ≡ at = omega arith in
    ap (λ (l : List ℕ). drop i l) (is ∙ ap (λ (n : ℕ). take n (drop from file)) split)
    ∙ drop-take i (from + k - at) (drop from file)
    ∙ ap (λ (l : List ℕ). take (from + k - at) l) (drop-drop i from file ∙ ap (λ (n : ℕ). drop n file) there)

-- the bytes that `bytes_at` returns are those of the file
pub shown : (file : List ℕ) (window : Window) (at want : ℕ) → at ≤ length file → ShowsWindow file window at want → take want (drop (at - window.from) window.bytes.items) ≡ piece at want file
shown file window at want place s =
    let k : ℕ = length window.bytes.items in
    let size : length (drop at file) ≡ length file - at = length-drop at file in
    elim (cases_lt (window.from + k) (at + want)) [
      | inl some ↦
          let end : length file ≤ window.from + k = omega (arith, s.enough) in
          let here : drop (at - window.from) window.bytes.items ≡ drop at file =
          inside file window.bytes.items window.from at k s.begins (omega arith) s.bytes ∙ take_all (window.from + k - at) (drop at file) (omega arith) in
          ap (λ (l : List ℕ). take want l) here
      | inr all ↦
          ap (λ (l : List ℕ). take want l) (inside file window.bytes.items window.from at k s.begins (omega arith) s.bytes)
          ∙ take-take want (window.from + k - at) (drop at file) (omega arith)
    ]

-- the same for a file that a read left unchanged
pub still_shown : (file now : List ℕ) (old new : Window) (at want : ℕ) → now ≡ file → (HasBytesOf now old → ShowsWindow now new at want) → HasBytesOf file old → ShowsWindow file new at want
still_shown file now old new at want same shows has = subst (λ (l : List ℕ). ShowsWindow l new at want) same (shows (subst (λ (l : List ℕ). HasBytesOf l old) (sym same) has))

-- an empty window has the bytes of any file
pub nothing : (file : List ℕ) (window : Window) → window.bytes.items ≡ [] → HasBytesOf file window
nothing file window none = none ∙ sym (ap (λ (l : List ℕ). piece window.from (length l) file) none)
