-- The key log holds the materials of the index of its commands.
use Rattle.std.proofs.Common.{◌≡◌, ℕ, ◌+◌, true, List, [], ◌∷◌, ◌++◌, length, take, drop, map, Option, None, Some, refl, sym, ◌∙◌, ap, subst, arith, append_assoc, append-nil, length-append, inl, inr}
use Rattle.std.specs.Int.{w16, w32, w64, to_be_bytes}
use Rattle.std.proofs.lemmas.List.{drop_at, map-append, take_at}
use Rattle.hk_base.specs.Disk.{DiskState, piece}
use Rattle.frame_log.specs.Format.{behind, magic}
use Rattle.frame_log.specs.Stands.{Is, Stands, front}
use Rattle.frame_log.specs.declared.log.Log.{Log}
use Rattle.frame_log.proofs.Reading.{push_on}
use Rattle.key_rows.specs.declared.rows.KeyCommand.{KeyCommand}
use Rattle.key_rows.specs.declared.rows.KeyCommand.TheVariants.{Opened, Create, Roll, Delete}
use Rattle.key_rows.specs.Records.{name_field, spelling, text_field}
use Rattle.key_index.specs.Index.{Index, Materials, after_at, applies_at, materials_after}
use Rattle.key_index.specs.Held.{AreHeld, HoldsMaterial, InLog, log_front, material_at, material_in}
use Rattle.key_index.specs.Sound.{IsSoundIndex}
use Rattle.key_index.proofs.Holding.{held_after, rows_longer}

-- a record, taken apart before its material
abbrev pub before_material : KeyCommand → List ℕ
before_material (Opened opening) = 1 ∷ to_be_bytes w32 opening
before_material (Create birth name bits description created material) =
    2 ∷ (to_be_bytes w64 birth ++ (name_field name ++ (to_be_bytes w16 bits ++ (text_field description ++ to_be_bytes w64 created))))
before_material (Roll birth number material) = 3 ∷ (to_be_bytes w64 birth ++ to_be_bytes w16 number)
before_material (Delete birth) = 4 ∷ to_be_bytes w64 birth

five : (a b c d e m : List ℕ) → a ++ (b ++ (c ++ (d ++ (e ++ m)))) ≡ (a ++ (b ++ (c ++ (d ++ e)))) ++ m
five a b c d e m =
    ap (λ (l : List ℕ). a ++ (b ++ (c ++ l))) (sym (append_assoc d e m))
    ∙ ap (λ (l : List ℕ). a ++ (b ++ l)) (sym (append_assoc c (d ++ e) m))
    ∙ ap (λ (l : List ℕ). a ++ l) (sym (append_assoc b (c ++ (d ++ e)) m))
    ∙ sym (append_assoc a (b ++ (c ++ (d ++ e))) m)

-- the material ends the record
pub material_ends : (command : KeyCommand) → spelling command ≡ before_material command ++ material_in command
material_ends (Opened opening) = sym (append-nil (1 ∷ to_be_bytes w32 opening))
material_ends (Create birth name bits description created material) =
    ap (λ (l : List ℕ). 2 ∷ l) (five (to_be_bytes w64 birth) (name_field name) (to_be_bytes w16 bits) (text_field description) (to_be_bytes w64 created) material)
material_ends (Roll birth number material) = refl
material_ends (Delete birth) = sym (append-nil (4 ∷ to_be_bytes w64 birth))

-- the material that ends a payload, in a file that has its frame
there : (front before material rest payload : List ℕ) (place : ℕ) → payload ≡ before ++ material → place ≡ length front + 5 + length before
    → piece place (length material) (front ++ 1 ∷ (behind payload ++ rest)) ≡ material
there front before material rest payload place is at =
    let four : List ℕ = to_be_bytes w32 (length payload) in
    let head : List ℕ = front ++ 1 ∷ (four ++ before) in
    let whole : front ++ 1 ∷ ((four ++ payload) ++ rest) ≡ head ++ (material ++ rest) =
    ap (λ (l : List ℕ). front ++ 1 ∷ ((four ++ l) ++ rest)) is
    ∙ ap (λ (l : List ℕ). front ++ 1 ∷ l) (ap (λ (l : List ℕ). l ++ rest) (sym (append_assoc four before material)) ∙ append_assoc (four ++ before) material rest)
    ∙ sym (append_assoc front (1 ∷ (four ++ before)) (material ++ rest)) in
    let size : length head ≡ place = omega (arith, at, length-append front (1 ∷ (four ++ before)), length-append four before) in
    (λ i. take (length material) (drop place (whole i)))
    ∙ ap (take (length material)) (drop_at head (material ++ rest) place size)
    ∙ take_at material rest (length material) refl

-- a frame of a command, after this many bytes, holds its material
pub frame_holds : (front rest : List ℕ) (command : KeyCommand) → HoldsMaterial (front ++ 1 ∷ (behind (spelling command) ++ rest)) command (material_at (length front + 5) command)
frame_holds front rest command =
    there front (before_material command) (material_in command) rest (spelling command) (material_at (length front + 5) command) (material_ends command)
    (omega (arith, ap length (material_ends command), length-append (before_material command) (material_in command)))

-- the log of one more command
front_more : (commands : List KeyCommand) (command : KeyCommand) → log_front (commands ++ command ∷ []) ≡ log_front commands ++ 1 ∷ (behind (spelling command) ++ [])
front_more commands command =
    ap (front 0) (map-append spelling commands (command ∷ []))
    ∙ sym (append-nil (front 0 (map spelling commands ++ spelling command ∷ [])))
    ∙ push_on (magic 0) (map spelling commands) (spelling command) []

pub in_log_after : (m : Materials) (commands : List KeyCommand) (x : Index) (command : KeyCommand) → IsSoundIndex x → applies_at x command ≡ true → InLog m commands x
    → InLog (materials_after m x command) (commands ++ command ∷ []) (after_at x command (material_at (length (log_front commands) + 5) command))
in_log_after m commands x command is may held =
    let place : ℕ = material_at (length (log_front commands) + 5) command in
    let more : List ℕ = 1 ∷ (behind (spelling command) ++ []) in
    subst (λ (file : List ℕ). AreHeld (materials_after m x command) file (after_at x command place)) (sym (front_more commands command))
    (held_after m (log_front commands ++ more) x command place is may (rows_longer m (log_front commands) more x.rows held) (frame_holds (log_front commands) [] command))

-- on a disk with this log

on_front : (start : List ℕ) (unsettled : Option (List ℕ)) (bytes : List ℕ) → Is start unsettled bytes → (more : List ℕ) × (bytes ≡ start ++ more)
on_front start None bytes is = (0 ∷ is.0, is.1)
on_front start (Some payload) bytes is = elim is [
  | inl shut ↦ (0 ∷ shut.0, shut.1)
  | inr ready ↦ (ready.gate ∷ (behind payload ++ 0 ∷ ready.rest), ready.is)
]

pub on_log : (bytes : List ℕ) (unsettled : Option (List ℕ)) (m : Materials) (commands : List KeyCommand) (x : Index) → Is (log_front commands) unsettled bytes → InLog m commands x → AreHeld m bytes x
on_log bytes unsettled m commands x is held =
    let found = on_front (log_front commands) unsettled bytes is in
    subst (λ (file : List ℕ). AreHeld m file x) (sym found.1) (rows_longer m (log_front commands) found.0 x.rows held)

pub on_disk : (disk : DiskState) (log : Log) (unsettled : Option (List ℕ)) (m : Materials) (commands : List KeyCommand) (x : Index) → Stands disk log (map spelling commands) unsettled → log.file ≡ 0 → InLog m commands x
    → AreHeld m (disk.reads 0) x
on_disk disk log unsettled m commands x stands file held =
    on_log (disk.reads 0) unsettled m commands x (subst (λ (f : ℕ). Is (front f (map spelling commands)) unsettled (disk.reads f)) file stands.reads) held
