-- The zone of a file stays from step to step.
use Rattle.std.proofs.Common.{◌≡◌, inl, inr, ℕ, ◌<◌, ◌≤◌, Bool, true, false, List, [], ◌∷◌, Option, Some, None, IfSome, is_some, refl, sym, ap, subst, ◌∙◌, arith}
use Rattle.std.specs.Option.{option_and_then}
use Rattle.hk_base.specs.declared.names.Edek.{Edek}
use Rattle.edit_ops.specs.declared.files.FileKey.{FileKey}
use Rattle.edit_ops.specs.declared.ops.EditOp.{EditOp}
use Rattle.edit_ops.specs.declared.ops.EditOp.TheVariants as op
use Rattle.inode_tree.specs.Rows.{Entry, entry_of, zone_id}
use Rattle.inode_tree.specs.ZoneFiles.{edek_of}
use Rattle.name_calls.specs.declared.calls.Ask.{Ask}
use Rattle.name_calls.specs.declared.calls.Ask.TheVariants as ask
use Rattle.name_calls.specs.declared.calls.NameCall.{NameCall}
use Rattle.name_calls.specs.declared.calls.NameCall.TheVariants as call
use Rattle.name_calls.specs.declared.paths.NPath.{NPath}
use Rattle.name_store.specs.Store.{is_opening}
use Rattle.name_store.specs.Table.{NameTable, after_table, allows, may_use_all, settled_table, uses, with_edeks}
use Rattle.name_store.proofs.CauseLemmas.{allowed, id-may-be-used}
use Rattle.name_core.specs.declared.asks.OpenAsk.{OpenAsk}
use Rattle.name_core.specs.Asks.{finish_op}
use Rattle.name_core.specs.Calls.{deed}
use Rattle.name_core.specs.State.{IsNames, IsWaiting, NameService, NameState, next_id, settled}
use Rattle.name_core.specs.Steps.{Keeps}
use Rattle.name_core.specs.Walks.{session_at}
use Rattle.name_core.proofs.AllowedLemmas.{allowed-call, allowed-finish, no-opening, no-opening-finish}
use Rattle.name_core.proofs.AskLaws.{ids_stay_below}
use Rattle.name_core.proofs.AskLemmas.{each-map}
use Rattle.name_core.proofs.KeepLemmas.{keeps-of, keeps-settled, same-opening, settled-next}
use Rattle.name_core.proofs.Layers.{settled_opened}
use Rattle.hk_events.specs.declared.event.Event.{Event}
use Rattle.world_run.specs.Promise.{In}
use Rattle.world_run.specs.World.{WorldState}
use Rattle.world_run.proofs.Members.{each-in}
use Rattle.world_run.proofs.RekeyedFiles.{AreKeyed, keyed-in-place}
use Rattle.world_run.proofs.RowLemmas.{InPlace, all-in, in-place, one-of-id}
use Rattle.world_run.proofs.RowsAfter.{not-both, rows-after}
use Rattle.world_run.proofs.WorldLemmas.{rows-settled}
use Rattle.world_run.proofs.ZoneKeeps.{KeptZone, rekeyed-zone, zone-after}
use Rattle.run_laws.specs.Names.{FilesKeepZones, HasFile, KeepZones}
use Rattle.run_laws.specs.Runs.{LeadThrough, RunsKeepZones}
use Rattle.name_core.proofs.AskSteps.{AnyCall, Invariant, Stays, any-step, keeps-reopened, step}
use Rattle.run_laws.proofs.EventSteps.{Reopened, Rests, Stepped, Turns, moves}
use Rattle.run_laws.proofs.RunLaw.{IsNot}
use Rattle.name_core.proofs.SentFiles.{AreFiles, has_file}

-- one operation

one-fresh : (t : NameTable) (id i : ℕ) → may_use_all t (id ∷ []) ≡ true → In i (id ∷ []) → entry_of t.rows i ≡ None
one-fresh t id i may (inl same) = ap (entry_of t.rows) same ∙ (id-may-be-used t id may).free
one-fresh t id i may (inr none) = absurd none

-- no row has an id that it uses
fresh : (t : NameTable) (o : EditOp) (i : ℕ) → allows t o ≡ true → In i (uses o) → entry_of t.rows i ≡ None
fresh t (op.Opened opening) i may used = absurd used
fresh t (op.Mkdir id p) i may used = one-fresh t id i (allowed t (op.Mkdir id p) refl may).ids used
fresh t (op.File id p edek) i may used = one-fresh t id i (allowed t (op.File id p edek) refl may).ids used
fresh t (op.Remove p) i may used = absurd used
fresh t (op.Rename p q) i may used = absurd used
fresh t (op.Zone p key) i may used = absurd used
fresh t (op.Allow p) i may used = absurd used
fresh t (op.Disallow p) i may used = absurd used
fresh t (op.Snap p name) i may used = absurd used
fresh t (op.Unsnap p name) i may used = absurd used
fresh t (op.Submit session p noted) i may used = one-fresh t session i (allowed t (op.Submit session p noted) refl may).ids used
fresh t (op.Update session failed mark files) i may used = absurd used
fresh t (op.Cancel session) i may used = absurd used
fresh t (op.Complete session) i may used = absurd used

operation-keeps : (t : NameTable) (o : EditOp) → InPlace t.rows → allows t o ≡ true → KeepZones t.rows (after_table t o).rows
operation-keeps t o good may x y i j same = elim (zone-after t o good may y j.0 j.1) [
  | inl used ↦ absurd (not-both (entry_of t.rows y.row.id) x (fresh t o y.row.id may used) (ap (entry_of t.rows) (sym same) ∙ good.once x i.0))
  | inr was ↦ was.zone ∙ ap (λ (e : Entry). zone_id t.rows e.path) (one-of-id t.rows good was.old x was.member i.0 (sym (same ∙ was.id)))
]

pub files_keep_zones : FilesKeepZones
files_keep_zones t o table may = operation-keeps t o (in-place t.rows table.rules) may

-- the pending operation

rows-keep : (rows : List Entry) → InPlace rows → KeepZones rows rows
rows-keep rows good x y i j same = ap (λ (e : Entry). zone_id rows e.path) (one-of-id rows good y x j.0 i.0 (sym same))

turned : (olds news : List Entry) → KeepZones olds news → KeepZones news olds
turned olds news keep x y i j same = sym (keep y x j i (sym same))

settled-keeps : (s : NameService) (k j : Bool) → IsNames s → KeepZones (settled k s).table.rows (settled j s).table.rows
settled-keeps s k j fit = go s.pending fit.waits k j
  where
    t : NameTable
    t = s.names.table

    good : InPlace t.rows
    good = in-place t.rows fit.table.rules

    go : (o : Option EditOp) → IfSome o (IsWaiting s.names) → (a b : Bool) → KeepZones (settled_table a o t).rows (settled_table b o t).rows
    go None waits a b = rows-keep t.rows good
    go (Some o) waits false false = rows-keep t.rows good
    go (Some o) waits false true = operation-keeps t o good waits.pending.allowed
    go (Some o) waits true false = turned t.rows (after_table t o).rows (operation-keeps t o good waits.pending.allowed)
    go (Some o) waits true true = rows-keep (after_table t o).rows (rows-after t o good waits.pending.allowed)

-- steps

-- each row with the id of one of these files has an encrypted key
are-keyed : (rows : List Entry) (files : List FileKey) → InPlace rows → AreFiles rows files → AreKeyed rows files
are-keyed rows files good are f x i j same =
    ap (λ (o : Option Entry). is_some (option_and_then (λ (e : Entry). edek_of e.row.kind) o)) (sym (good.once x j) ∙ ap (entry_of rows) same)
    ∙ each-in (λ (g : FileKey). has_file rows g ≡ true) files f are i

-- An id that was used, and a zone, or none.
module _ (id : ℕ) (zone : Option ℕ) where
  -- the file with the id, if it exists, lies in the zone; rows are in place, and the table is of an opening
  record Lies (t : NameTable) : Type 0 where
    opened : 0 < t.opening
    rows : InPlace t.rows
    zone_is : (x : Entry) → HasFile t.rows x → x.row.id ≡ id → zone_id t.rows x.path ≡ zone

  was-there : (t : NameTable) (news : List Entry) (x : Entry) → Lies t → x.row.id ≡ id → KeptZone t.rows news x → zone_id news x.path ≡ zone
  was-there t news x h same was = was.zone ∙ h.zone_is was.old (was.member, was.file) (sym was.id ∙ same)

  lies-after : (t : NameTable) (o : EditOp) → is_opening o ≡ false → allows t o ≡ true → (In id (uses o) → ⊥) → Lies t → Lies (after_table t o)
  lies-after t o safe may unused h = record {
    opened = subst (λ (n : ℕ). 0 < n) (sym (same-opening t o safe)) h.opened;
    rows = rows-after t o h.rows may;
    zone_is = λ x file same. elim (zone-after t o h.rows may x file.0 file.1) [
      | inl used ↦ absurd (unused (subst (λ (n : ℕ). In n (uses o)) same used))
      | inr was ↦ was-there t (after_table t o).rows x h same was
    ];
  }

  lies-updated : (t : NameTable) (session failed : ℕ) (mark : Option NPath) (files : List FileKey) → AreFiles t.rows files → Lies t → Lies (after_table t (op.Update session failed mark files))
  lies-updated t session failed mark files are h =
      let keyed = are-keyed t.rows files h.rows are in
      record {
        opened = h.opened;
        rows = keyed-in-place files t.rows keyed h.rows;
        zone_is = λ x file same. was-there t (with_edeks files t.rows) x h same (rekeyed-zone t.rows files keyed x file.0 file.1);
      }

  -- the operation of a call uses an id that is not used yet, or none
  unused-called : (n : ℕ) (s : NameState) (c : NameCall) (o : EditOp) → id < n → n ≤ next_id s → (deed s c).logs ≡ Some o → In id (uses o) → ⊥
  unused-called n s c o low new = go c
    where
      so : (made : EditOp) → Some made ≡ Some o → In id (uses o) → In id (uses made)
      so made is used = let same : made ≡ o = cc in subst (λ (x : EditOp). In id (uses x)) (sym same) used

      go : (c : NameCall) → (deed s c).logs ≡ Some o → In id (uses o) → ⊥
      go (call.Mkdir p) is used = elim (so (op.Mkdir (next_id s) p) is used) [ inl same ↦ absurd (omega (arith, low, new, same)) | inr none ↦ absurd none ]
      go (call.Delete p recursive) is used = so (op.Remove p) is used
      go (call.Rename p q) is used = so (op.Rename p q) is used
      go (call.Info r) is used = absurd cc
      go (call.List r) is used = absurd cc
      go (call.Allow p) is used = so (op.Allow p) is used
      go (call.Disallow p) is used = so (op.Disallow p) is used
      go (call.Snap p name) is used = so (op.Snap p name) is used
      go (call.Unsnap p name) is used = so (op.Unsnap p name) is used
      go (call.Cancel p) is used = so (op.Cancel (session_at s.table p)) is used
      go (call.Status p) is used = absurd cc
      go call.Zones is used = absurd cc

  -- that of a finish uses the id of its ask, or none
  unused-finished : (ask_id : ℕ) (edek : Option Edek) (k : Ask) → (ask_id ≡ id → ⊥) → In id (uses (finish_op ask_id edek k)) → ⊥
  unused-finished ask_id edek (ask.Create p) not (inl same) = not (sym same)
  unused-finished ask_id edek (ask.Create p) not (inr none) = none
  unused-finished ask_id edek (ask.Zone p key) not used = used
  unused-finished ask_id edek (ask.Submit p) not (inl same) = not (sym same)
  unused-finished ask_id edek (ask.Submit p) not (inr none) = none

  zone-stays : (n : ℕ) → id < n → Invariant Lies (IsNot id) AnyCall n
  zone-stays n low = record {
    called = λ s c o k new spares free logs h. lies-after s.table o (no-opening s c o logs) (allowed-call s c o h.opened k.ids free logs) (unused-called n s c o low new logs) h;
    finished = λ s q edek k opened not free h.
        lies-after s.table (finish_op q.id edek q.ask) (no-opening-finish q.id edek q.ask) (allowed-finish s q.id q edek h.opened k.few k.ids k.recent opened free) (unused-finished q.id edek q.ask not) h;
    completed = λ t session h. record { opened = h.opened; rows = h.rows; zone_is = h.zone_is };
    updated = λ t session failed mark files are h. lies-updated t session failed mark files are h;
    later_asks = λ q later same. absurd (omega (arith, low, later, same));
  }

  -- what stays true from event to event
  record Still (n : ℕ) (s : NameService) : Type 0 where
    keeps : Keeps s
    stays : Stays Lies (IsNot id) n s

  still-turn : (n : ℕ) → id < n → (e : Event) (s s' : NameService) → Turns e s s' → Still n s → Still n s'
  still-turn n low e s s' (Rests is) h = subst (Still n) (sym is) h
  still-turn n low e s s' (Stepped did its) h =
      record { keeps = ids_stay_below s s' did h.keeps; stays = step Lies (IsNot id) AnyCall n (zone-stays n low) s s' did (any-step s s' did) h.keeps h.stays }
  still-turn n low e s s' (Reopened kept is) h =
      subst (Still n) (sym is) (record {
        keeps = keeps-reopened kept s h.keeps;
        stays = record {
          later = let few = (keeps-settled kept s h.keeps).few in let same = settled-next kept s h.keeps in let used = h.stays.later in omega (arith, few, same, used);
          asks = tt;
          table = λ again. record { opened = omega arith; rows = (h.stays.table kept).rows; zone_is = (h.stays.table kept).zone_is };
        };
      })

  still-run : (n : ℕ) → id < n → (w : WorldState) (between : List WorldState) (v : WorldState) → LeadThrough w between v → Still n w.names → Still n v.names
  still-run n low w [] v is h = subst (λ (x : WorldState). Still n x.names) (sym is) h
  still-run n low w (m ∷ ms) v leads h =
      let first = leads.0 in
      still-run n low m ms v leads.1 (still-turn n low first.event w.names m.names (moves w first.event first.reply m first.happens).names h)

-- whole runs

module _ (s : NameService) (names : IsNames s) (kept : Bool) (x : Entry) (file : HasFile (settled kept s).table.rows x) where
  settled-fit : Keeps (record { names = settled kept s; pending = None })
  settled-fit = keeps-settled kept s (keeps-of s names)

  abbrev rows : List Entry
  rows = (settled kept s).table.rows

  below-next : x.row.id < next_id s.names
  below-next = subst (λ (n : ℕ). x.row.id < n) (settled-next kept s (keeps-of s names)) (all-in (λ (e : Entry). e.row.id < next_id (settled kept s)) rows settled-fit.ids.of_rows x file.0)

  still-first : Still x.row.id (zone_id rows x.path) (next_id s.names) s
  still-first = record {
    keeps = keeps-of s names;
    stays = record {
      later = omega arith;
      asks = each-map (λ (q : OpenAsk). entry_of rows q.id ≡ None) (IsNot x.row.id)
          (λ q free same. not-both (entry_of rows q.id) x free (ap (entry_of rows) same ∙ (rows-settled kept s names).once x file.0)) s.names.asks settled-fit.ids.free;
      table = λ later. record {
        opened = settled_opened later s names;
        rows = rows-settled later s names;
        zone_is = λ y lives same. settled-keeps s kept later names x y file lives (sym same);
      };
    };
  }

pub runs_keep_zones : RunsKeepZones
runs_keep_zones w between v kept later names leads x y i j same =
    ((still-run x.row.id (zone_id (settled kept w.names).table.rows x.path) (next_id w.names.names) (below-next w.names names kept x i) w between v leads (still-first w.names names kept x i)).stays.table later).zone_is y j (sym same)
