-- A key that opens under a table of keys opens under a later one.
use Rattle.std.proofs.Common.{◌≡◌, ◌⊎◌, inl, inr, ℕ, zero, suc, ◌+◌, ◌*◌, ◌^◌, ◌<◌, ◌≤◌, ◌/◌, ◌==◌, Bool, true, false, cond, List, [], ◌∷◌, ◌++◌, length, Option, Some, None, is_none, slice_get, refl, sym, ap, subst, ◌∙◌, arith}
use Rattle.std.specs.Prelude.{⊤, not, ◌&&◌, nat_lt, IfSome}
use Rattle.std.specs.List.{filter}
use Rattle.std.specs.Option.{option_map, option_and_then}
use Rattle.std.specs.Str.{bytes_eq}
use Rattle.std.proofs.lemmas.Bool.Decides.{Decides-eqb, nat_tests}
use Rattle.std.proofs.lemmas.Bool.{and_parts}
use Rattle.hk_base.specs.declared.names.Dek.{Dek}
use Rattle.hk_base.specs.declared.names.Edek.{Edek}
use Rattle.key_rows.specs.declared.rows.KeyRow.{KeyRow}
use Rattle.key_rows.specs.declared.rows.KeyCommand.{KeyCommand}
use Rattle.key_rows.specs.declared.rows.KeyCommand.TheVariants.{Opened, Create, Roll, Delete}
use Rattle.key_rows.specs.Sound.{IsKeyTable, NamesOnce}
use Rattle.key_rows.specs.Table.{Table, after, applies, find_name, is_born, is_length, material_of, no_keys, opening_of, rolled, with_material}
use Rattle.key_rows.proofs.TableLemmas.{sound_create, sound_delete, sound_roll}
use Rattle.kms_store.specs.Replay.{HasRoomForBirths, key_replay}
use Rattle.kms_store.specs.Store.{Applies, next_opening, settled_table}
use Rattle.kms_store.proofs.Replays.{births_after}
use Rattle.kms_core.specs.Opening.{unseals}
use Rattle.eek_queues.specs.Queues.{AllQueues}
use Rattle.kms_core.specs.State.{IsPending, IsService, KmsState, ServiceState, service_after_opening, settled}
use Rattle.world_run.specs.Ledger.{Draw}
use Rattle.world_run.specs.Linked.{IsOldBirth, IsRecordedBirth, KeyLinked, OpensTo}
use Rattle.world_run.specs.Promise.{In}
use Rattle.world_run.proofs.Members.{in-map, in-more}

-- a later row of a key: it has the name, and each material under its number
pub record Grew (old row : KeyRow) : Type 0 where
  pub named : row.name ≡ old.name
  pub bits : row.bits ≡ old.bits
  pub has : (n : ℕ) (m : Dek) → slice_get old.materials n ≡ Some m → slice_get row.materials n ≡ Some m

grew-same : (row : KeyRow) → Grew row row
grew-same row = record { named = refl; bits = refl; has = λ n m got. got }

grew-then : (old mid row : KeyRow) → Grew old mid → Grew mid row → Grew old row
grew-then old mid row a z = record { named = z.named ∙ a.named; bits = z.bits ∙ a.bits; has = λ n m got. z.has n m (a.has n m got) }

-- a row of the birth in the later table grew from one in the earlier
abbrev pub LaterAt : List KeyRow → List KeyRow → ℕ → Type 0
LaterAt olds rows b = (row : KeyRow) → In row rows → row.birth ≡ b → (old : KeyRow) × In old olds × (old.birth ≡ b) × Grew old row

pub later-same : (rows : List KeyRow) (b : ℕ) → LaterAt rows rows b
later-same rows b row p h = (row, p, h, grew-same row)

got-front : (ms : List Dek) (m : Dek) (n : ℕ) (x : Dek) → slice_get ms n ≡ Some x → slice_get (ms ++ m ∷ []) n ≡ Some x
got-front [] m n x h = absurd cc
got-front (y ∷ ms) m zero x h = h
got-front (y ∷ ms) m (suc n) x h = got-front ms m n x h

opens-more : (open_by : Dek → Dek) (o q : Option Dek) (dek : Dek) → ((x : Dek) → o ≡ Some x → q ≡ Some x) → option_map open_by o ≡ Some dek → option_map open_by q ≡ Some dek
opens-more open_by None q dek f h = absurd cc
opens-more open_by (Some x) q dek f h = ap (option_map open_by) (f x refl) ∙ h

-- each key that a row opens, a later one opens alike
grew-opens : (old row : KeyRow) (e : Edek) (dek : Dek) → Grew old row → unseals (old ∷ []) e ≡ Some dek → unseals (row ∷ []) e ≡ Some dek
grew-opens old row e dek g h = opens-more _ (material_of (old ∷ []) e.version) (material_of (row ∷ []) e.version) dek found h
  where
    more : (t : Bool) (x : Dek)
        → option_and_then (λ (r : KeyRow). slice_get r.materials e.version.number) (cond t (Some old) None) ≡ Some x
        → option_and_then (λ (r : KeyRow). slice_get r.materials e.version.number) (cond t (Some row) None) ≡ Some x
    more true x got = g.has e.version.number x got
    more false x got = absurd cc

    found : (x : Dek) → material_of (old ∷ []) e.version ≡ Some x → material_of (row ∷ []) e.version ≡ Some x
    found x got =
        ap (λ (name : List ℕ). option_and_then (λ (r : KeyRow). slice_get r.materials e.version.number) (cond (bytes_eq name e.version.key) (Some row) None)) g.named
        ∙ more (bytes_eq old.name e.version.key) x got

longer : (m : Dek) (row : KeyRow) → Grew row (with_material m row)
longer m row = record { named = refl; bits = refl; has = λ n x got. got-front row.materials m n x got }

rolled-row : (birth : ℕ) (m : Dek) (row : KeyRow) → Grew row (rolled birth m row) × ((rolled birth m row).birth ≡ row.birth)
rolled-row birth m row = go (is_born birth row)
  where
    go : (b : Bool) → Grew row (cond b (with_material m row) row) × ((cond b (with_material m row) row).birth ≡ row.birth)
    go true = (longer m row, refl)
    go false = (grew-same row, refl)

pub in-filter : (test : KeyRow → Bool) (x : KeyRow) (xs : List KeyRow) → In x (filter test xs) → In x xs
in-filter test x [] p = absurd p
in-filter test x (z ∷ xs) p = go (test z) (in-filter test x xs) p
  where
    go : (b : Bool) → (In x (filter test xs) → In x xs) → In x (cond b (z ∷ filter test xs) (filter test xs)) → In x (z ∷ xs)
    go true ih (inl e) = inl e
    go true ih (inr q) = inr (ih q)
    go false ih q = inr (ih q)

-- a command makes no row of the birth, or the birth is another
abbrev pub Spares : ℕ → KeyCommand → Type 0
Spares b (Create birth name bits description created material) = birth ≡ b → ⊥
Spares b _ = ⊤

pub later-after : (t : Table) (c : KeyCommand) (b : ℕ) → Spares b c → LaterAt t.rows (after t c).rows b
later-after t (Opened opening) b n row p h = (row, p, h, grew-same row)
later-after t (Create birth name bits description created material) b n row p h =
    elim (in-more row (record { name = name; birth = birth; bits = bits; materials = material ∷ []; description = description; created = created }) t.rows p) [
      | inl q ↦ (row, q, h, grew-same row)
      | inr is ↦ absurd (n (ap (λ (r : KeyRow). r.birth) (sym is) ∙ h))
    ]
later-after t (Roll birth number material) b n row p h =
    let q = in-map (rolled birth material) row t.rows p in
    let grew = rolled-row birth material q.0 in
    (q.0, q.1, sym grew.1 ∙ sym (ap (λ (r : KeyRow). r.birth) q.2) ∙ h, subst (Grew q.0) (sym q.2) grew.0)
later-after t (Delete birth) b n row p h = (row, in-filter (λ r. not (is_born birth r)) row t.rows p, h, grew-same row)

pub opens-later : (olds rows : List KeyRow) (d : Draw) (e : Edek) → LaterAt olds rows d.birth → OpensTo olds d e → OpensTo rows d e
opens-later olds rows d e later h row p is =
    let q = later row p is in
    let was = h q.0 q.1 q.2 in
    record { opens = grew-opens q.0 row e d.dek q.3 was.opens; long = was.long ∙ ap (λ (n : ℕ). n / 8) (sym q.3.bits); vector = was.vector }

-- tables that grew

later-still : (olds mids rows : List KeyRow) (b : ℕ) → LaterAt olds mids b → LaterAt mids rows b → LaterAt olds rows b
later-still olds mids rows b first next row p h =
    let q = next row p h in
    let r = first q.0 q.1 q.2 in
    (r.0, r.1, r.2, grew-then r.0 q.0 row r.3 q.3)

-- a later table: keys of old births grew from those with the births, which are old there too, and the opening is no earlier
pub record KeysLater (t u : Table) : Type 0 where
  pub opening : t.opening ≤ u.opening
  pub rows : (b : ℕ) → IsOldBirth t b → LaterAt t.rows u.rows b
  pub births : (b : ℕ) → IsOldBirth t b → IsOldBirth u b

pub same-later : (t : Table) → KeysLater t t
same-later t = record { opening = omega arith; rows = λ b h. later-same t.rows b; births = λ b h. h }

pub then-later : (t u v : Table) → KeysLater t u → KeysLater u v → KeysLater t v
then-later t u v a z = record {
  opening = omega (arith, a.opening, z.opening);
  rows = λ b h. later-still t.rows u.rows v.rows b (a.rows b h) (z.rows b (a.births b h));
  births = λ b h. z.births b (a.births b h);
}

-- a later opening, a key of a new birth of this opening, or a command that makes neither
abbrev pub MakesNew : Table → KeyCommand → Type 0
MakesNew t (Opened opening) = t.opening ≤ opening
MakesNew t (Create birth name bits description created material) = (t.opening * 2 ^ 32 ≤ birth) × (t.greatest < birth)
MakesNew t _ = ⊤

old-before : (old opening b : ℕ) → old ≤ opening → b < old * 2 ^ 32 → b < opening * 2 ^ 32
old-before old opening b over h = omega (arith, over, h)

unlike : (opening greatest a b : ℕ) → opening * 2 ^ 32 ≤ a → greatest < a → (b < opening * 2 ^ 32) ⊎ (b ≤ greatest) → a ≡ b → ⊥
unlike opening greatest a b here new (inl before) e = absurd (omega (arith, here, before, e))
unlike opening greatest a b here new (inr used) e = absurd (omega (arith, new, used, e))

old-after : (t : Table) (c : KeyCommand) → MakesNew t c → (b : ℕ) → IsOldBirth t b → IsOldBirth (after t c) b
old-after t (Opened opening) new b (inl before) = inl (old-before t.opening opening b new before)
old-after t (Opened opening) new b (inr used) = inr used
old-after t (Create birth name bits description created material) new b (inl before) = inl before
old-after t (Create birth name bits description created material) new b (inr used) = let over = new.1 in inr (omega (arith, over, used))
old-after t (Roll birth number material) new b old = old
old-after t (Delete birth) new b old = old

pub later-by : (t : Table) (c : KeyCommand) → MakesNew t c → KeysLater t (after t c)
later-by t (Opened opening) new = record { opening = new; rows = λ b h. later-after t (Opened opening) b tt; births = old-after t (Opened opening) new }
later-by t (Create birth name bits description created material) new = record {
  opening = omega arith;
  rows = λ b h. later-after t (Create birth name bits description created material) b (unlike t.opening t.greatest birth b new.0 new.1 h);
  births = old-after t (Create birth name bits description created material) new;
}
later-by t (Roll birth number material) new = record { opening = omega arith; rows = λ b h. later-after t (Roll birth number material) b tt; births = λ b h. h }
later-by t (Delete birth) new = record { opening = omega arith; rows = λ b h. later-after t (Delete birth) b tt; births = λ b h. h }

-- an opening that applies is later
pub next-rises : (old opening : ℕ) → (opening == old + 1) ≡ true → old ≤ opening
next-rises old opening h = grind (arith, nat_tests)

pub makes-new : (t : Table) (c : KeyCommand) → applies t c ≡ true → MakesNew t c
makes-new t (Opened opening) may = next-rises t.opening opening may
makes-new t (Create birth name bits description created material) may =
    let sized = and_parts (nat_lt 0 t.opening && is_none (find_name t.rows name) && opening_of birth == t.opening && nat_lt t.greatest birth && nat_lt (length t.rows) 10000 && is_length bits) (length material == bits / 8) may in
    let long = and_parts (nat_lt 0 t.opening && is_none (find_name t.rows name) && opening_of birth == t.opening && nat_lt t.greatest birth && nat_lt (length t.rows) 10000) (is_length bits) sized.0 in
    let few = and_parts (nat_lt 0 t.opening && is_none (find_name t.rows name) && opening_of birth == t.opening && nat_lt t.greatest birth) (nat_lt (length t.rows) 10000) long.0 in
    let born = and_parts (nat_lt 0 t.opening && is_none (find_name t.rows name) && opening_of birth == t.opening) (nat_lt t.greatest birth) few.0 in
    let here = and_parts (nat_lt 0 t.opening && is_none (find_name t.rows name)) (opening_of birth == t.opening) born.0 in
    let present : birth / 2 ^ 32 ≡ t.opening = (Decides-eqb (opening_of birth) t.opening).0 here.1 in
    let above = born.1 in (omega (arith, present), grind (arith, nat_tests, above))
makes-new t (Roll birth number material) may = tt
makes-new t (Delete birth) may = tt

-- a command that applies leaves a later table, whoever wrote it
pub later-behind : (t : Table) (c : KeyCommand) → applies t c ≡ true → KeysLater t (after t c)
later-behind t c may = later-by t c (makes-new t c may)

pub later-with : (found : Bool) (more : Option KeyCommand) (t : Table) → Applies t more → KeysLater t (settled_table found more t)
later-with found None t may = same-later t
later-with true (Some c) t may = later-behind t c may
later-with false (Some c) t may = same-later t

pub may-wait : (pending : Option KeyCommand) (s : KmsState) → IfSome pending (IsPending s) → Applies s.table pending
may-wait None s waits = tt
may-wait (Some c) s waits = waits.fits

-- the keys after the pending command was settled
pub later-settled : (kept : Bool) (s : ServiceState) → IsService s → KeysLater s.keys.table (settled kept s).table
later-settled kept s is = later-with kept s.pending s.keys.table (may-wait s.pending s.keys is.waits)

-- births that the log of a table records

pub recorded-more : (old opening b : ℕ) → old ≤ opening → b < (old + 1) * 2 ^ 32 → b < (opening + 1) * 2 ^ 32
recorded-more old opening b over h = omega (arith, over, h)

room-replayed : (t u : Table) (commands : List KeyCommand) → HasRoomForBirths t → key_replay t commands ≡ Some u → HasRoomForBirths u
room-replayed t u [] room made = let same : t ≡ u = cc made in subst HasRoomForBirths same room
room-replayed t u (c ∷ commands) room made = go (applies t c) refl (λ may. room-replayed (after t c) u commands (births_after t c may room)) made
  where
    go : (b : Bool) → applies t c ≡ b → (applies t c ≡ true → key_replay (after t c) commands ≡ Some u → HasRoomForBirths u) → cond b (key_replay (after t c) commands) None ≡ Some u → HasRoomForBirths u
    go true may rest made = rest may made
    go false may rest made = absurd (cc made)

room-with : (found : Bool) (more : Option KeyCommand) (t : Table) → HasRoomForBirths t → Applies t more → HasRoomForBirths (settled_table found more t)
room-with found None t room may = room
room-with true (Some c) t room may = births_after t c may room
room-with false (Some c) t room may = room

-- the table of a log, with one command more or without it
pub room-found : (commands : List KeyCommand) (found : Bool) (more : Option KeyCommand) (t : Table) → key_replay no_keys commands ≡ Some t → Applies t more → HasRoomForBirths (settled_table found more t)
room-found commands found more t makes may = room-with found more t (room-replayed no_keys t commands (omega arith) makes) may

-- old births are recorded there
pub old-recorded : (t : Table) → HasRoomForBirths t → (b : ℕ) → IsOldBirth t b → IsRecordedBirth t b
old-recorded t room b (inl before) = omega (arith, before)
old-recorded t room b (inr used) = omega (arith, room, used)

-- those that a start finds
pub later-opened : (all : AllQueues) (t : Table) → KeysLater t (service_after_opening all t).keys.table
later-opened all t = later-by t (next_opening t) (omega arith)

-- tables in which no two keys have one name

names-behind : (t : Table) (c : KeyCommand) → IsKeyTable t → applies t c ≡ true → NamesOnce (after t c).rows
names-behind t (Opened opening) is may = is.names
names-behind t (Create birth name bits description created material) is may = (sound_create t birth name bits description created material is may).names
names-behind t (Roll birth number material) is may = (sound_roll t birth number material is may).names
names-behind t (Delete birth) is may = (sound_delete t birth is).names

pub names-with : (found : Bool) (more : Option KeyCommand) (t : Table) → IsKeyTable t → Applies t more → NamesOnce (settled_table found more t).rows
names-with found None t is may = is.names
names-with true (Some c) t is may = names-behind t c is may
names-with false (Some c) t is may = is.names

pub draw-later : (olds rows : List KeyRow) (o : Option Edek) (d : Option Draw) → ((x : Draw) → d ≡ Some x → LaterAt olds rows x.birth) → KeyLinked olds o d → KeyLinked rows o d
draw-later olds rows None None later h = tt
draw-later olds rows None (Some d) later h = h
draw-later olds rows (Some e) None later h = h
draw-later olds rows (Some e) (Some d) later h = (h.0, h.1, opens-later olds rows d e (later d refl) h.2)
