-- What is true of a namesystem after its pending operation was settled.
use Rattle.std.proofs.Common.{◌≡◌, ℕ, ◌^◌, ◌<◌, ◌≤◌, Bool, true, false, List, Option, Some, None, sym, subst, arith}
use Rattle.std.specs.Prelude.{IfSome}
use Rattle.key_rows.specs.declared.rows.KeyRow.{KeyRow}
use Rattle.edit_ops.specs.declared.ops.EditOp.{EditOp}
use Rattle.name_store.specs.Table.{settled_table}
use Rattle.name_core.specs.State.{AreRecent, IdsFit, IsNames, IsWaiting, NameService, NameState, next_id, settled}
use Rattle.name_core.proofs.KeepLemmas.{fit-op}
use Rattle.zone_table.specs.Statuses.{StatusesFit}
use Rattle.world_run.specs.Covered.{CoveredBy}
use Rattle.world_run.specs.Ledger.{Hidden, Past, past_of}
use Rattle.world_run.specs.Linked.{FilesLinked, LinkedWorld}
use Rattle.world_run.specs.World.{WorldState}
use Rattle.world_run.proofs.CoveredOps.{IsUnentered}
use Rattle.world_run.proofs.FinishLemmas.{OneDraw}
use Rattle.world_run.proofs.RowLemmas.{InPlace}
use Rattle.world_run.proofs.WorldLemmas.{next-settled, opening-settled, rows-settled, statuses-settled}

pub record IsSettled (past : Past) (keys : List KeyRow) (s : NameState) : Type 0 where
  pub rows : InPlace s.table.rows
  pub statuses : StatusesFit s.table.rows s.table.statuses
  pub files : FilesLinked past.ledger keys s.table
  pub opened : 0 < s.table.opening
  pub few : s.next ≤ 2 ^ 32
  pub ids : IdsFit s.table.rows s.asks (next_id s)
  pub recent : AreRecent s.table.opening s.asks
  -- the next id has no entry, and each id has one draw
  pub unentered : IsUnentered past.ledger (next_id s)
  pub one_draw : OneDraw past.ledger
  pub size : 1 ≤ s.batch
  pub covered : CoveredBy past keys s.table s.walks

ids-settled : (k : Bool) (s : NameService) → IsNames s → IdsFit (settled k s).table.rows s.names.asks (next_id s.names)
ids-settled k s fit = go k s.pending fit.waits
  where
    go : (b : Bool) (o : Option EditOp) → IfSome o (IsWaiting s.names) → IdsFit (settled_table b o s.names.table).rows s.names.asks (next_id s.names)
    go b None waits = fit.ids
    go true (Some op) waits = fit-op s.names.table op s.names.asks (next_id s.names) waits.pending.no_opening waits.below waits.free fit.ids
    go false (Some op) waits = fit.ids

pub is-settled : (w : WorldState) (h : Hidden) (k : Bool) → IsNames w.names → LinkedWorld w h → IsSettled (past_of h) w.keys.keys.table.rows (settled k w.names)
is-settled w h k fit l = record {
  rows = rows-settled k w.names fit;
  statuses = statuses-settled k w.names fit;
  files = l.draws.files k;
  opened = subst (λ (n : ℕ). 0 < n) (sym (opening-settled k w.names fit)) fit.opened;
  few = fit.few;
  ids = subst (IdsFit (settled k w.names).table.rows w.names.names.asks) (sym (next-settled k w.names fit)) (ids-settled k w.names fit);
  recent = subst (λ (n : ℕ). AreRecent n w.names.names.asks) (sym (opening-settled k w.names fit)) fit.recent;
  unentered = λ d i. low (next_id (settled k w.names)) (next_id w.names.names) (next-settled k w.names fit) (l.draws.ledger.below (next_id (settled k w.names)) d i);
  one_draw = l.draws.ledger.one_draw;
  size = fit.size.0;
  covered = l.covered k;
}
  where
    low : (a b : ℕ) → a ≡ b → a < b → ⊥
    low a b same less = omega (arith, same, less)
