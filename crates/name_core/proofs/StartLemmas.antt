-- A start, from that of the store.
use Rattle.std.proofs.Common.{ℕ, ◌+◌, ◌*◌, ◌^◌, [], None, arith}
use Rattle.hk_base.specs.Disk.{DiskState}
use Rattle.name_store.specs.Store.{Started, StoreState}
use Rattle.name_core.specs.Service.{Starts}
use Rattle.name_core.proofs.KeepLemmas.{below-more}

pub starts : (old new : DiskState) (store : StoreState) (batch : ℕ) → Started old new store → Starts batch old new (record { store = store; next = 1; asks = []; walks = []; updating = None; batch = batch })
starts old new store batch s = record {
  found = s.found;
  opens = λ i. record { names = record { table = s.table i; next = 1; asks = []; walks = []; updating = None; batch = batch }; pending = s.settled i };
  log = λ tells.
      let l = s.log tells in (
        l.ops,
        l.used,
        l.is,
        record {
          used = l.used;
          store = l.stands;
          below = below-more (store.table.opening * 2 ^ 32) (store.table.opening * 2 ^ 32 + 1) (omega arith) l.used l.earlier;
          free = tt;
        },
      );
}
