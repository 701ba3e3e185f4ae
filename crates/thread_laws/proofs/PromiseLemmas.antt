-- Every legal history of the namesystem keeps the promise on zone files.
use Rattle.std.proofs.Common.{◌≡◌, ℕ, List, [], sym, subst, inl}
use Rattle.hk_base.specs.Disk.{DiskState}
use Rattle.key_rows.specs.declared.rows.KeyRow.{KeyRow}
use Rattle.kms_core.specs.State.{settled}
use Rattle.name_core.specs.State.{service_of, settled as settled_names}
use Rattle.name_store.specs.Table.{NameTable}
use Rattle.hist_cell.specs.History.{state_after}
use Rattle.kms_cell.specs.Entries.{KmsEntry}
use Rattle.kms_cell.specs.Steps.{KmsSteps}
use Rattle.kms_cell.specs.Tickets.{KmsAllows}
use Rattle.kms_cell.specs.Views.{KmsView}
use Rattle.name_history.specs.declared.fronts.Front.{Front}
use Rattle.name_history.specs.Views.{NameView}
use Rattle.world_run.specs.Kept.{FilesKept}
use Rattle.world_run.specs.Ledger.{Draw, FilesAtSubmission, Hidden, Ledger, Past, past_of}
use Rattle.world_run.specs.Linked.{LinkedWorld, ServicesFit}
use Rattle.world_run.specs.Promise.{FilesOpen, In}
use Rattle.world_run.specs.World.{WorldState, none_kept}
use Rattle.thread_laws.specs.Keys.{StaysOpen}
use Rattle.thread_laws.specs.Promise.{BeginsLinked, KeepsPromise, StaysKept}
use Rattle.thread_laws.specs.Worlds.{keys_of_view, world_with}
use Rattle.thread_laws.proofs.Courses.{Tied, tied-after}
use Rattle.thread_laws.proofs.HistoryLemmas.{legal-second, state_after-both}
use Rattle.thread_laws.proofs.KeysKeep.{keys_keep_files_open}
use Rattle.thread_laws.proofs.Ties.{Ties}

-- the promise names no place of the next draw
open-as : (p q : Past) (keys : List KeyRow) (names : NameTable) → p.ledger ≡ q.ledger → p.starts ≡ q.starts → FilesOpen p keys names → FilesOpen q keys names
open-as p q keys names ledger starts f = record { open_up = g.open_up; one_draw = g.one_draw; of_zone = g.of_zone; completed = g.completed }
  where
    g : FilesOpen (record { ledger = q.ledger; place = p.place; starts = q.starts }) keys names
    g =
        subst (λ (s : FilesAtSubmission). FilesOpen (record { ledger = q.ledger; place = p.place; starts = s }) keys names) starts
        (subst (λ (l : Ledger). FilesOpen (record { ledger = l; place = p.place; starts = p.starts }) keys names) ledger f)

-- two ids have draws of different places
one-file : (w : WorldState) (h : Hidden) → LinkedWorld w h → (i j : ℕ) (d f : Draw) → In (i, d) h.ledger → In (j, f) h.ledger → d.place ≡ f.place → i ≡ j
one-file w h l i j d f m n same =
    let is : d ≡ f = l.draws.draws.one_place d f (inl (i, m)) (inl (j, n)) same in
    l.draws.ledger.one_file i j d m (subst (λ (x : Draw). In (j, x) h.ledger) (sym is) n)

module _ {D W : Type 0} (state : D → DiskState) (to_come : W → ℕ → ℕ) where
  -- at the beginning nothing is kept, and nothing was seen
  abbrev pub begins-tied : (k : KmsView D W) (v : NameView D W) (h : Hidden) → BeginsLinked k v h → Tied k v
  begins-tied k v h b = record {
    kept = none_kept;
    hidden = h;
    fit = subst (λ (xs : List (KmsEntry D W)). ServicesFit (world_with (keys_of_view (state_after k xs)) (service_of v.names) none_kept)) (sym b.seen) b.fit;
    linked = subst (λ (xs : List (KmsEntry D W)). LinkedWorld (world_with (keys_of_view (state_after k xs)) (service_of v.names) none_kept) h) (sym b.seen) b.linked;
    ties =
        subst (λ (fs : List Front). Ties none_kept h v.keys.seen v.keys.ended fs) (sym b.fronts)
        (subst (λ (xs : List (KmsEntry D W)). Ties none_kept h xs v.keys.ended []) (sym b.seen)
        (record { tickets = λ t i. absurd i; replies = λ x edek i. absurd i; fronts = λ f i. absurd i; answers = λ f x r i. absurd i }));
  }

  -- tied histories keep the promise, whatever the keys do afterwards
  pub tied-keeps : (k : KmsView D W) (v : NameView D W) (t : Tied k v) → StaysKept state to_come k v (past_of t.hidden)
  tied-keeps k v t more legal kept_keys kept_names =
      subst (λ (s : KmsView D W). FilesKept (past_of t.hidden) (settled kept_keys (keys_of_view s)).table.rows (settled_names kept_names (service_of v.names)).table) (sym (state_after-both k v.keys.seen more))
      (record {
        files_open = open-as (past_of m.hidden) (past_of t.hidden) _ _ m.ledger m.starts (m.open_up kept_keys kept_names);
        one_file = one-file (world_with (keys_of_view (state_after k v.keys.seen)) (service_of v.names) t.kept) t.hidden t.linked;
      })
    where
      m : StaysOpen (service_of v.names) t.hidden (state_after (state_after k v.keys.seen) more)
      m = keys_keep_files_open state to_come v.keys.seen more (state_after k v.keys.seen) (service_of v.names) t.kept t.hidden t.fit t.linked t.ties.tickets
          (legal-second (KmsSteps {D = D} {W = W} state to_come) (KmsAllows {S = KmsView D W}) [] v.keys.seen more k legal)

  pub keeps_promise : KeepsPromise state to_come
  keeps_promise k v es h begins telling legal =
      let last = tied-after state to_come k telling [] es v (begins-tied k v h begins) begins.start legal in
      record { past = past_of last.tied.hidden; known = last.known; kept = tied-keeps k (state_after v es) last.tied }
