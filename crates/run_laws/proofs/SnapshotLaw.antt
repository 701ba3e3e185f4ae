-- A snapshot stays in a run.
use Rattle.std.proofs.Common.{◌≡◌, ℕ, ◌<◌, false, List, [], ◌∷◌, Option, Some, None, IfSome, sym, subst, arith}
use Rattle.hk_base.specs.declared.names.Edek.{Edek}
use Rattle.edit_ops.specs.declared.ops.EditOp.{EditOp}
use Rattle.snap_store.specs.Snapshots.{Snapshot, snapshot_named}
use Rattle.name_calls.specs.declared.calls.Ask.{Ask}
use Rattle.name_calls.specs.declared.calls.Ask.TheVariants as ask
use Rattle.name_calls.specs.declared.calls.NameCall.{NameCall}
use Rattle.name_store.specs.Store.{is_opening}
use Rattle.name_store.specs.Table.{NameTable, after_table}
use Rattle.name_core.specs.Asks.{finish_op}
use Rattle.name_core.specs.Calls.{causes, deed, first_cause}
use Rattle.name_core.specs.Laws.{Asked, Called, Delivers, Finished, GivesUp, IsNotCalled, IsStep, Walks, removes_snapshot}
use Rattle.name_core.specs.State.{IsNames, NameService, NameState}
use Rattle.name_core.specs.Steps.{Keeps}
use Rattle.name_core.proofs.AllowedLemmas.{allowed-call, no-opening}
use Rattle.name_core.proofs.AskLaws.{ids_stay_below}
use Rattle.name_core.proofs.KeepLemmas.{keeps-of, same-opening}
use Rattle.name_core.proofs.Layers.{settled_opened}
use Rattle.name_core.proofs.SnapshotLaws.{snapshots_stay}
use Rattle.hk_events.specs.declared.event.Event.{Event}
use Rattle.world_run.specs.World.{WorldState}
use Rattle.run_laws.specs.Runs.{HasSnapshot, LeadsKeeping, RunsKeepSnapshots, call_of}
use Rattle.name_core.proofs.AskSteps.{Alone, AnyAsk, Invariant, SparesStep, Stays, any-asks, keeps-reopened, step}
use Rattle.run_laws.proofs.EventSteps.{IsOf, Reopened, Rests, Stepped, Turns, moves}

module _ (dir : ℕ) (name : List ℕ) (was : Snapshot) where
  -- the table has the snapshot, and is of an opening
  record Has (t : NameTable) : Type 0 where
    opened : 0 < t.opening
    stands : snapshot_named t.snaps.taken dir name ≡ Some was

  -- a call whose operation does not remove it
  abbrev Spares : NameState → NameCall → Type 0
  Spares s c = IfSome (deed s c).logs (λ o. removes_snapshot dir name s.table.rows o ≡ false)

  opened-after : (t : NameTable) (o : EditOp) → is_opening o ≡ false → 0 < t.opening → 0 < (after_table t o).opening
  opened-after t o safe opened = subst (λ (n : ℕ). 0 < n) (sym (same-opening t o safe)) opened

  has-called : (s : NameState) (c : NameCall) (o : EditOp) → Keeps (Alone s) → Spares s c → first_cause (causes s c) ≡ None → (deed s c).logs ≡ Some o → Has s.table → Has (after_table s.table o)
  has-called s c o k spares free logs h = record {
    opened = opened-after s.table o (no-opening s c o logs) h.opened;
    stands = snapshots_stay s.table o dir name was (allowed-call s c o h.opened k.ids free logs)
        (subst (λ (l : Option EditOp). IfSome l (λ x. removes_snapshot dir name s.table.rows x ≡ false)) logs spares) h.stands;
  }

  has-finished : (t : NameTable) (id : ℕ) (edek : Option Edek) (k : Ask) → Has t → Has (after_table t (finish_op id edek k))
  has-finished t id edek (ask.Create p) h = record { opened = h.opened; stands = h.stands }
  has-finished t id edek (ask.Zone p key) h = record { opened = h.opened; stands = h.stands }
  has-finished t id edek (ask.Submit p) h = record { opened = h.opened; stands = h.stands }

  snapshot-stays : Invariant Has AnyAsk Spares 0
  snapshot-stays = record {
    called = λ s c o k new spares free logs h. has-called s c o k spares free logs h;
    finished = λ s q edek k opened only free h. has-finished s.table q.id edek q.ask h;
    completed = λ t session h. record { opened = h.opened; stands = h.stands };
    updated = λ t session failed mark files are_files h. record { opened = h.opened; stands = h.stands };
    later_asks = λ q later. tt;
  }

  -- what stays true from event to event
  record Still (s : NameService) : Type 0 where
    keeps : Keeps s
    stays : Stays Has AnyAsk 0 s

  -- a call of an event that does not remove it
  spares-step : (e : Event) (s s' : NameService) (did : IsStep s s') → IsOf e did → IfSome (call_of e) (λ c. IsNotCalled s c dir name) → SparesStep Spares s s' did
  spares-step e s s' (Called user c reply logged did) its spares = subst (λ (o : Option NameCall). IfSome o (λ c. IsNotCalled s c dir name)) its spares
  spares-step e s s' (Asked user a reply asks same) its spares = tt
  spares-step e s s' (Finished id given reply logged did) its spares = tt
  spares-step e s s' (Walks p reply logged did) its spares = tt
  spares-step e s s' (Delivers given reply logged did) its spares = tt
  spares-step e s s' (GivesUp note reply logged did) its spares = tt

  still-turn : (e : Event) (s s' : NameService) → Turns e s s' → IfSome (call_of e) (λ c. IsNotCalled s c dir name) → Still s → Still s'
  still-turn e s s' (Rests is) spares h = subst Still (sym is) h
  still-turn e s s' (Stepped did its) spares h = record {
    keeps = ids_stay_below s s' did h.keeps;
    stays = step Has AnyAsk Spares 0 snapshot-stays s s' did (spares-step e s s' did its spares) h.keeps h.stays;
  }
  still-turn e s s' (Reopened kept is) spares h =
      subst Still (sym is) (record {
        keeps = keeps-reopened kept s h.keeps;
        stays = record { later = omega arith; asks = tt; table = λ again. record { opened = omega arith; stands = (h.stays.table kept).stands } };
      })

  still-run : (w : WorldState) (between : List WorldState) (v : WorldState) → LeadsKeeping dir name w between v → Still w.names → Still v.names
  still-run w [] v is h = subst (λ (x : WorldState). Still x.names) (sym is) h
  still-run w (m ∷ ms) v leads h =
      let first = leads.0.0 in
      still-run m ms v leads.1 (still-turn first.event w.names m.names (moves w first.event first.reply m first.happens).names leads.0.1 h)

  -- before the first event
  still-first : (s : NameService) → IsNames s → HasSnapshot dir name was s → Still s
  still-first s names has = record {
    keeps = keeps-of s names;
    stays = record { later = omega arith; asks = any-asks s.names.asks; table = λ kept. record { opened = settled_opened kept s names; stands = has kept } };
  }

pub runs_keep_snapshots : RunsKeepSnapshots
runs_keep_snapshots w dir name was between v names has leads = λ kept. ((still-run dir name was w between v leads (still-first dir name was w.names names has)).stays.table kept).stands
