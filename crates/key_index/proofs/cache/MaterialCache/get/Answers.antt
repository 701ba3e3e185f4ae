use Rattle.std.proofs.Common.{◌≡◌, subst, sym, Option, IfSome}
use Rattle.hk_base.specs.declared.names.Dek.{Dek}
use Rattle.lru.specs.LruCache.{LruCache}
use Rattle.key_index.specs.declared.cache.MaterialKey.{MaterialKey}
use Rattle.key_index.specs.Cache.{AreCached, IsMaterialOf, IsOlder}
use Rattle.key_index.proofs.Entries.{found_material, promoted_all}
use Rattle.key_index.proofs.cache.MaterialCache.get.Goals as goal

pub returns-clause-cached : goal.returns-clause-cached
returns-clause-cached c m x cached = (
  subst (λ (o : Option Dek). IfSome o (λ material. material ≡ m c.args.version.birth c.args.version.number)) (sym c.look.ensures.value) (found_material m x c.args.version c.args.self.now.entries cached),
  subst (λ (s : LruCache MaterialKey Dek). AreCached m x s.entries) (sym c.look.ensures.entries) (promoted_all (λ entry. IsMaterialOf m entry × IsOlder x entry.0) c.args.version c.args.self.now.entries cached),
)
