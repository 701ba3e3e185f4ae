use Rattle.kms_acls.proofs.AddLemmas.{batch_size_kept, cache_size_kept, queue_size_kept, watermark_kept}
use Rattle.kms_acls.proofs.acls.Acls.add.Goals as goal

pub returns-in-QueueSize : goal.returns-in-QueueSize
returns-in-QueueSize c = rw c.in-QueueSize.is (λ lines s. queue_size_kept c.args.self.now lines c.in-QueueSize.size s)

pub returns-in-QueueWatermark : goal.returns-in-QueueWatermark
returns-in-QueueWatermark c = rw c.in-QueueWatermark.is (λ lines s. watermark_kept c.args.self.now lines c.in-QueueWatermark.size s)

pub returns-in-BatchSize : goal.returns-in-BatchSize
returns-in-BatchSize c = rw c.in-BatchSize.is (λ lines s. batch_size_kept c.args.self.now lines c.in-BatchSize.size s)

pub returns-in-CacheSize : goal.returns-in-CacheSize
returns-in-CacheSize c = rw c.in-CacheSize.is (λ lines s. cache_size_kept c.args.self.now lines c.in-CacheSize.size s)
