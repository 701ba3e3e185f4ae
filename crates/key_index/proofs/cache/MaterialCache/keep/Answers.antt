use Rattle.key_index.proofs.Entries.{put_or_not}
use Rattle.key_index.proofs.cache.MaterialCache.keep.Goals as goal

pub returns : goal.returns
returns c = rw (← c.self.view_is) (put_or_not c.put.result c.put.ensures.entries c.put.ensures.err)
