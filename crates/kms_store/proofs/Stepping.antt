-- The index and its older materials after one more command.
use Rattle.std.proofs.Common.{◌≡◌, ◌≢◌, ℕ, ◌+◌, ◌-◌, ◌/◌, ◌<◌, ◌^◌, true, not, List, [], ◌∷◌, ◌++◌, length, map, refl, sym, ◌∙◌, ap, subst, arith, inl, inr, length-append, min}
use Rattle.std.specs.Int.{w32, to_be_bytes}
use Rattle.std.specs.List.{AllByRecursion}
use Rattle.std.proofs.lemmas.Bool.{cases_eq}
use Rattle.std.proofs.lemmas.List.{map-append}
use Rattle.hk_base.specs.declared.names.Dek.{Dek}
use Rattle.frame_log.specs.Format.{behind, end_of, frames, placed}
use Rattle.key_rows.specs.Table.{Table, after, applies, no_keys}
use Rattle.key_rows.specs.Records.{HasSpelling, spelling}
use Rattle.key_rows.specs.declared.rows.KeyCommand.{KeyCommand}
use Rattle.key_rows.specs.declared.rows.KeyCommand.TheVariants.{Opened, Create, Roll, Delete}
use Rattle.key_rows.proofs.Births.{each_filter, each_more}
use Rattle.key_index.specs.declared.rows.PlacedRow.{PlacedRow}
use Rattle.key_index.specs.Held.{InLog, log_front, material_at, material_in}
use Rattle.key_index.specs.Index.{Index, Materials, after_at, applies_at, first_version, is_born, materials_after, newest, no_index, rolled_at, row_of, with_version}
use Rattle.key_index.specs.Sound.{AllSized, AreSized, IsSoundIndex}
use Rattle.key_index.proofs.Commands.{applies_is, fits_applying}
use Rattle.key_index.proofs.LogLemmas.{in_log_after}
use Rattle.key_index.proofs.Sounds.{create_says}
use Rattle.key_index.proofs.Standing.{Rolls, elsewhere, goes_on, kept_row, materials_grow, next, rolled_row, same_older}
use Rattle.kms_store.specs.Keys.{ArePlaced, IsBuilt, KeysState, place_before}
use Rattle.kms_store.specs.Replay.{IsNext, IsReplayed, payload_of}
use Rattle.kms_store.specs.Store.{StandsFor}
use Rattle.kms_store.proofs.Replays.{replayed_more, replayed_none}

-- materials have the lengths of their keys, a roll's too
module _ (m : Materials) (birth number : ℕ) (material current : Dek) (place : ℕ) where
  abbrev later : Materials
  later = next m birth number material current place

  sized_born : (placed : PlacedRow) → Rolls birth number material current placed → placed.row.birth ≡ birth → AreSized m placed.row → AreSized later (with_version material place placed).row
  sized_born placed rolls born sized =
      let grown : (row_of later (with_version material place placed).row).materials ≡ (row_of m placed.row).materials ++ material ∷ [] =
      λ i. materials_grow m birth number material current place placed.row rolls.some born (rolls.its born).0 (rolls.its born).1 i ++ material ∷ [] in
      subst (AllByRecursion (λ (x : List ℕ). length x ≡ placed.row.bits / 8)) (sym grown) (each_more (λ (x : List ℕ). length x ≡ placed.row.bits / 8) (row_of m placed.row).materials material sized (rolls.long born))

  sized_other : (placed : PlacedRow) → placed.row.birth ≢ birth → AreSized m placed.row → AreSized later placed.row
  sized_other placed other sized =
      let same : (row_of later placed.row).materials ≡ (row_of m placed.row).materials =
      λ i. same_older m later placed.row.birth (placed.row.versions - 1) (λ j small. elsewhere m birth number material current place placed.row.birth j other) i ++ placed.row.current ∷ [] in
      subst (AllByRecursion (λ (x : List ℕ). length x ≡ placed.row.bits / 8)) (sym same) sized

  sized_rolled : (placed : PlacedRow) → Rolls birth number material current placed → AreSized m placed.row → AreSized later (rolled_at birth material place placed).row
  sized_rolled placed rolls sized = elim (cases_eq placed.row.birth birth) [
    | inl born ↦ subst (λ (p : PlacedRow). AreSized later p.row) (sym (rolled_row birth material place placed born)) (sized_born placed rolls born sized)
    | inr other ↦ subst (λ (p : PlacedRow). AreSized later p.row) (sym (kept_row birth material place placed other)) (sized_other placed other sized)
  ]

  all_rolled : (rows : List PlacedRow) → AllByRecursion (Rolls birth number material current) rows → AllByRecursion (λ (placed : PlacedRow). AreSized m placed.row) rows
      → AllByRecursion (λ (placed : PlacedRow). AreSized later placed.row) (map (rolled_at birth material place) rows)
  all_rolled [] rolls sized = tt
  all_rolled (placed ∷ rows) rolls sized = (sized_rolled placed rolls.0 sized.0, all_rolled rows rolls.1 sized.1)

sized_after : (m : Materials) (x : Index) (command : KeyCommand) (place : ℕ) → IsSoundIndex x → applies_at x command ≡ true → AllSized m x → AllSized (materials_after m x command) (after_at x command place)
unfolding next
sized_after m x (Opened opening) place is may sized = sized
sized_after m x (Create birth name bits description created material) place is may sized =
    each_more (λ (placed : PlacedRow). AreSized m placed.row) x.rows (record { row = first_version birth name bits description created material; places = place ∷ [] }) sized ((create_says x name birth bits material may).long, tt)
sized_after m x (Roll birth number material) place is may sized = all_rolled m birth number material (newest birth x.rows) place x.rows (fits_applying x (Roll birth number material) is may) sized
sized_after m x (Delete birth) place is may sized = each_filter (λ (placed : PlacedRow). AreSized m placed.row) (λ placed. not (is_born birth placed)) x.rows sized

module _ (m : Materials) (x : Index) (t : Table) (command : KeyCommand) (is : IsSoundIndex x) (stands : StandsFor m x t) (may : applies t command ≡ true) where
  pub may_here : applies_at x command ≡ true
  may_here = sym (applies_is m x command is) ∙ ap (λ (u : Table). applies u command) stands.table_is ∙ may

  -- the index stands for the table after the command
  pub stands_after : (place : ℕ) → StandsFor (materials_after m x command) (after_at x command place) (after t command)
  stands_after place = record {
    table_is = goes_on m x command place (fits_applying x command is may_here) ∙ ap (λ (u : Table). after u command) stands.table_is;
    sized = sized_after m x command place is may_here stands.sized;
  }

  -- the log has its older materials, where the record ends at this offset
  pub held_next : (commands : List KeyCommand) (end : ℕ) → end ≡ length (log_front commands) + 5 + length (spelling command) → InLog m commands x → InLog (materials_after m x command) (commands ++ command ∷ []) (after_at x command (place_before end command))
  held_next commands end at held =
      let place : material_at (length (log_front commands) + 5) command ≡ place_before end command = ap (λ (n : ℕ). n - length (material_in command)) (sym at) in
      subst (λ (p : ℕ). InLog (materials_after m x command) (commands ++ command ∷ []) (after_at x command p)) place (in_log_after m commands x command is may_here held)

-- no keys yet
pub stands_none : (m : Materials) → StandsFor m no_index no_keys
stands_none m = record { table_is = refl; sized = tt }

pub built_none : (keys : KeysState) → keys.table ≡ no_keys → keys.index.index ≡ no_index → IsBuilt [] keys
built_none keys table index =
    let m : Materials = λ birth number. [] in
    let r : IsReplayed [] keys.table = subst (IsReplayed []) (sym table) replayed_none in
    record {
      replayed = r;
      older = m;
      stands = subst (λ (x : Index). StandsFor m x keys.table) (sym index) (subst (StandsFor m no_index) (sym table) (stands_none m));
      held = λ placed. subst (λ (x : Index). InLog m r.commands x) (sym index) tt;
    }

-- the frames of a log before its last one

placed_more : (at : ℕ) (list : List (List ℕ)) (p : List ℕ) → placed at (list ++ p ∷ []) ≡ placed at list ++ (at + length (frames list) + 5, p) ∷ []
placed_more at [] p = let e : at + 5 ≡ at + length (frames []) + 5 = omega arith in λ i. (e i, p) ∷ []
placed_more at (q ∷ list) p =
    let e : at + 5 + length q + length (frames list) + 5 ≡ at + length (frames (q ∷ list)) + 5 = omega (arith, length-append (behind q) (frames list), length-append (to_be_bytes w32 (length q)) q) in
    ap (λ (l : List (ℕ × List ℕ)). (at + 5, q) ∷ l) (placed_more (at + 5 + length q) list p) ∙ (λ i. (at + 5, q) ∷ (placed (at + 5 + length q) list ++ (e i, p) ∷ []))

last_same : (xs ys : List (ℕ × List ℕ)) (f g : ℕ × List ℕ) → xs ++ f ∷ [] ≡ ys ++ g ∷ [] → (xs ≡ ys) × (f ≡ g)
last_same [] [] f g e = let same : f ≡ g = cc e in (refl, same)
last_same [] (y ∷ ys) f g e = absurd (omega (arith, ap length e, length-append ys (g ∷ [])))
last_same (x ∷ xs) [] f g e = absurd (omega (arith, ap length e, length-append xs (f ∷ [])))
last_same (x ∷ xs) (y ∷ ys) f g e =
    let first : x ≡ y = cc e in
    let rest : xs ++ f ∷ [] ≡ ys ++ g ∷ [] = cc e in
    let r = last_same xs ys f g rest in
    (λ i. first i ∷ r.0 i, r.1)

frames_more : (list : List (List ℕ)) (p : List ℕ) → length (frames (list ++ p ∷ [])) ≡ length (frames list) + 5 + length p
frames_more [] p = omega (arith, length-append (behind p) [], length-append (to_be_bytes w32 (length p)) p)
frames_more (q ∷ list) p = omega (arith, frames_more list p, length-append (behind q) (frames (list ++ p ∷ [])), length-append (behind q) (frames list), length-append (to_be_bytes w32 (length q)) q)

record Before (before : List (ℕ × List ℕ)) (at : ℕ) (payload : List ℕ) : Type 0 where
  placed : ArePlaced before
  at_is : at ≡ end_of (map payload_of before) + 5
  fits : at + length payload < 2 ^ 64

before_last : (before : List (ℕ × List ℕ)) (at : ℕ) (payload : List ℕ) → ArePlaced (before ++ (at, payload) ∷ []) → Before before at payload
before_last before at payload are =
    let list : List (List ℕ) = map payload_of before in
    let split : map payload_of (before ++ (at, payload) ∷ []) ≡ list ++ payload ∷ [] = map-append payload_of before ((at, payload) ∷ []) in
    let both = last_same before (placed 8 list) (at, payload) (8 + length (frames list) + 5, payload) (are.places ∙ ap (placed 8) split ∙ placed_more 8 list payload) in
    let place : at ≡ 8 + length (frames list) + 5 = ap (λ (f : ℕ × List ℕ). f.0) both.1 in
    let whole : end_of (map payload_of (before ++ (at, payload) ∷ [])) ≡ end_of (list ++ payload ∷ []) = ap end_of split in
    record {
      placed = record { places = both.0; fits = omega (arith, are.fits, whole, frames_more list payload) };
      at_is = place;
      fits = omega (arith, are.fits, whole, frames_more list payload, place);
    }

-- one more frame, whose command applies
pub built_more : (before : List (ℕ × List ℕ)) (at : ℕ) (payload : List ℕ) (keys keys' : KeysState) (command : KeyCommand) (end : ℕ) → IsSoundIndex keys.index.index → HasSpelling command → payload ≡ spelling command → applies keys.table command ≡ true
    → end ≡ min (at + length payload) (2 ^ 64 - 1) → keys'.table ≡ after keys.table command → keys'.index.index ≡ after_at keys.index.index command (place_before end command) → IsBuilt before keys → IsBuilt (before ++ (at, payload) ∷ []) keys'
unfolding replayed_more
built_more before at payload keys keys' command end is spelled spells may end_is table index built =
    let x : Index = keys.index.index in
    let step : IsNext keys.table payload keys'.table = record { command = command; spelled = spelled; spells = spells; may = may; then_is = table } in
    let r : IsReplayed (before ++ (at, payload) ∷ []) keys'.table = replayed_more before (at, payload) keys.table keys'.table built.replayed step in
    let place : ℕ = place_before end command in
    record {
      replayed = r;
      older = materials_after built.older x command;
      stands = subst (λ (y : Index). StandsFor (materials_after built.older x command) y keys'.table) (sym index)
          (subst (StandsFor (materials_after built.older x command) (after_at x command place)) (sym table) (stands_after built.older x keys.table command is built.stands may place));
      held = λ placed.
          let b = before_last before at payload placed in
          let front_is : end_of (map payload_of before) ≡ end_of (map spelling built.replayed.commands) = ap end_of built.replayed.are in
          let log_is : length (log_front built.replayed.commands) ≡ end_of (map spelling built.replayed.commands) = omega arith in
          let ends : end ≡ length (log_front built.replayed.commands) + 5 + length (spelling command) = omega (arith, end_is, b.at_is, b.fits, front_is, log_is, ap length spells) in
          subst (λ (y : Index). InLog (materials_after built.older x command) (built.replayed.commands ++ command ∷ []) y) (sym index)
          (held_next built.older x keys.table command is built.stands may built.replayed.commands end ends (built.held b.placed));
    }
