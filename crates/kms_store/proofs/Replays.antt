-- Commands one after another.
use Rattle.std.proofs.Common.{◌≡◌, ℕ, ◌+◌, ◌/◌, ◌^◌, ◌&&◌, ◌==◌, true, List, [], ◌∷◌, ◌++◌, map, Some, refl, sym, ◌∙◌, ap, subst, arith}
use Rattle.std.specs.Prelude.{is_none, nat_lt, length}
use Rattle.std.proofs.lemmas.List.{map-append}
use Rattle.std.proofs.lemmas.Bool.Decides.{Decides-eqb}
use Rattle.std.proofs.lemmas.Bool.{and_parts}
use Rattle.key_rows.proofs.Births.{each_more}
use Rattle.key_rows.specs.Table.{Table, no_keys, applies, after, find_name, is_length, opening_of}
use Rattle.key_rows.specs.Records.{HasSpelling, spelling}
use Rattle.key_rows.specs.declared.rows.KeyCommand.{KeyCommand}
use Rattle.key_rows.specs.declared.rows.KeyCommand.TheVariants.{Opened, Create, Roll, Delete}
use Rattle.log_kinds.proofs.Replays as kinds
use Rattle.kms_store.specs.Kind.{key_kind}
use Rattle.kms_store.specs.Replay.{key_replay, IsNext, IsReplayed, HasRoomForBirths, payload_of}

-- one more command, which applies
pub replay_more : (t u : Table) (commands : List KeyCommand) (command : KeyCommand) → key_replay t commands ≡ Some u → applies u command ≡ true → key_replay t (commands ++ command ∷ []) ≡ Some (after u command)
replay_more = kinds.replay_more key_kind

pub spelled_more : (commands : List KeyCommand) (command : KeyCommand) → map spelling (commands ++ command ∷ []) ≡ map spelling commands ++ spelling command ∷ []
spelled_more = kinds.spelled_more key_kind

pub replayed_none : IsReplayed [] no_keys
replayed_none = record { commands = []; spelled = tt; are = refl; makes = refl }

-- one more frame
unfoldable pub replayed_more : (frames : List (ℕ × List ℕ)) (frame : ℕ × List ℕ) (t u : Table) → IsReplayed frames t → IsNext t (payload_of frame) u → IsReplayed (frames ++ frame ∷ []) u
replayed_more frames frame t u r n = record {
  commands = r.commands ++ n.command ∷ [];
  spelled = each_more HasSpelling r.commands n.command r.spelled n.spelled;
  are =
      map-append payload_of frames (frame ∷ [])
      ∙ ap (λ (l : List (List ℕ)). l ++ payload_of frame ∷ []) r.are
      ∙ ap (λ (p : List ℕ). map spelling r.commands ++ p ∷ []) n.spells
      ∙ sym (spelled_more r.commands n.command);
  makes = subst (λ (x : Table). key_replay no_keys (r.commands ++ n.command ∷ []) ≡ Some x) (sym n.then_is) (replay_more no_keys t r.commands n.command r.makes n.may);
}

-- births stay within the openings
pub births_after : (t : Table) (command : KeyCommand) → applies t command ≡ true → HasRoomForBirths t → HasRoomForBirths (after t command)
births_after t (Opened opening) may room = let next : opening ≡ t.opening + 1 = (Decides-eqb opening (t.opening + 1)).0 may in omega arith
births_after t (Create birth name bits description created material) may room =
    let g = and_parts (nat_lt 0 t.opening && is_none (find_name t.rows name) && opening_of birth == t.opening && nat_lt t.greatest birth && nat_lt (length t.rows) 10000 && is_length bits) (length material == bits / 8) may in
    let f = and_parts (nat_lt 0 t.opening && is_none (find_name t.rows name) && opening_of birth == t.opening && nat_lt t.greatest birth && nat_lt (length t.rows) 10000) (is_length bits) g.0 in
    let e = and_parts (nat_lt 0 t.opening && is_none (find_name t.rows name) && opening_of birth == t.opening && nat_lt t.greatest birth) (nat_lt (length t.rows) 10000) f.0 in
    let d = and_parts (nat_lt 0 t.opening && is_none (find_name t.rows name) && opening_of birth == t.opening) (nat_lt t.greatest birth) e.0 in
    let c = and_parts (nat_lt 0 t.opening && is_none (find_name t.rows name)) (opening_of birth == t.opening) d.0 in
    let present : birth / 2 ^ 32 ≡ t.opening = (Decides-eqb (opening_of birth) t.opening).0 c.1 in
    omega arith
births_after t (Roll birth number material) may room = room
births_after t (Delete birth) may room = room

pub next_births : (t u : Table) (payload : List ℕ) → IsNext t payload u → HasRoomForBirths t → HasRoomForBirths u
next_births t u payload n room = subst HasRoomForBirths (sym n.then_is) (births_after t n.command n.may room)
