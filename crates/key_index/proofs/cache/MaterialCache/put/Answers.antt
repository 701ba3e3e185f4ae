use Rattle.key_index.proofs.Entries.{kept_cached, kept_only}
use Rattle.key_index.proofs.cache.MaterialCache.put.Goals as goal

pub returns-clause-only : goal.returns-clause-only
returns-clause-only c = kept_only c.args.self.now _ c.args.version c.args.material c.keep.ensures

pub returns-clause-cached : goal.returns-clause-cached
returns-clause-cached c m x cached its older = kept_cached m x c.args.self.now _ c.args.version c.args.material c.keep.ensures cached its older
