-- The key of a zone stays from step to step.
use Rattle.std.proofs.Common.{◌≡◌, ℕ, ◌<◌, ◌≤◌, Option, Some, None, true, is_some, subst, arith}
use Rattle.std.specs.List.{All}
use Rattle.hk_base.specs.declared.names.Edek.{Edek}
use Rattle.hk_base.specs.declared.names.KeyName.{KeyName}
use Rattle.edit_ops.specs.declared.ops.EditOp.{EditOp}
use Rattle.edit_ops.specs.declared.ops.EditOp.TheVariants as op
use Rattle.name_calls.specs.declared.calls.Ask.{Ask}
use Rattle.name_calls.specs.declared.calls.Ask.TheVariants as ask
use Rattle.name_calls.specs.declared.calls.NameCall.{NameCall}
use Rattle.name_calls.specs.declared.calls.NameCall.TheVariants as call
use Rattle.name_store.specs.Table.{NameTable}
use Rattle.name_store.proofs.CauseLemmas.{markable}
use Rattle.name_core.specs.declared.asks.OpenAsk.{OpenAsk}
use Rattle.name_core.specs.Asks.{finish_causes, finish_op}
use Rattle.name_core.specs.Calls.{deed, first_cause}
use Rattle.name_core.specs.State.{NameState, next_id}
use Rattle.name_core.specs.Walks.{session_at}
use Rattle.name_core.proofs.AllowedLemmas.{may-make-zone}
use Rattle.name_core.proofs.AskSteps.{AnyCall, Invariant}
use Rattle.run_laws.proofs.ZoneMarks.{HasKey, LeavesZone, keys-stay, not-zones}

-- A zone with its key, if there is one, and a property of open asks: each ask whose id is n or above has it, and none with the id of the
-- zone, which is below n.
pub record Begun (under : Option ℕ) (key : Option KeyName) (P : OpenAsk → Type 0) (n : ℕ) : Type 0 where
  pub marked : (i : ℕ) → under ≡ Some i → is_some key ≡ true
  pub zone_below : (i : ℕ) → under ≡ Some i → i < n
  pub apart : (q : OpenAsk) → P q → under ≡ Some q.id → ⊥
  pub later_asks : (q : OpenAsk) → n ≤ q.id → P q

abbrev pub KeepsKey : Option ℕ → Option KeyName → NameTable → Type 0
KeepsKey under key t = All (HasKey under key) t.rows

module _ (under : Option ℕ) (key : Option KeyName) (P : OpenAsk → Type 0) (n : ℕ) (begun : Begun under key P n) where
  next-is-new : (m : ℕ) → n ≤ m → under ≡ Some m → ⊥
  next-is-new m h is = let low = begun.zone_below m is in absurd (omega (arith, h, low))

  leaves-called : (s : NameState) (c : NameCall) (o : EditOp) → n ≤ next_id s → (deed s c).logs ≡ Some o → LeavesZone under s.table.rows o
  leaves-called s c o new logs = go c logs
    where
      so : (made : EditOp) → LeavesZone under s.table.rows made → Some made ≡ Some o → LeavesZone under s.table.rows o
      so made leaves is = let same : made ≡ o = cc in subst (LeavesZone under s.table.rows) same leaves

      go : (c : NameCall) → (deed s c).logs ≡ Some o → LeavesZone under s.table.rows o
      go (call.Mkdir p) is = so (op.Mkdir (next_id s) p) (next-is-new (next_id s) new) is
      go (call.Delete p recursive) is = so (op.Remove p) tt is
      go (call.Rename p q) is = so (op.Rename p q) tt is
      go (call.Info r) is = absurd cc
      go (call.List r) is = absurd cc
      go (call.Allow p) is = so (op.Allow p) tt is
      go (call.Disallow p) is = so (op.Disallow p) tt is
      go (call.Snap p name) is = so (op.Snap p name) tt is
      go (call.Unsnap p name) is = so (op.Unsnap p name) tt is
      go (call.Cancel p) is = so (op.Cancel (session_at s.table p)) tt is
      go (call.Status p) is = absurd cc
      go call.Zones is = absurd cc

  -- a directory that a finish marks has no mark before
  leaves-finished : (t : NameTable) (q : OpenAsk) (edek : Option Edek) (k : Ask) → P q → first_cause (finish_causes t.rows t.statuses q edek k) ≡ None → LeavesZone under t.rows (finish_op q.id edek k)
  leaves-finished t q edek (ask.Create p) only free = begun.apart q only
  leaves-finished t q edek (ask.Zone p k) only free = let m = markable t.rows p (may-make-zone t.rows t.statuses q edek p k free) in (m.dir, m.unmarked)
  leaves-finished t q edek (ask.Submit p) only free = tt

  pub zone-stays : Invariant (KeepsKey under key) P AnyCall n
  zone-stays = record {
    called = λ s c o k new spares free logs h. keys-stay under key begun.marked s.table o (leaves-called s c o new logs) h;
    finished = λ s q edek k opened only free h. keys-stay under key begun.marked s.table (finish_op q.id edek q.ask) (leaves-finished s.table q edek q.ask only free) h;
    completed = λ t session h. h;
    updated = λ t session failed mark files are_files h. keys-stay under key begun.marked t (op.Update session failed mark files) (not-zones under key begun.marked t.rows files are_files h) h;
    later_asks = begun.later_asks;
  }
