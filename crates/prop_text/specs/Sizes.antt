-- The four sizes.
use Rattle.std.specs.Prelude.{◌≤◌, List}
use Rattle.std.specs.List.{fold}
use Rattle.prop_text.specs.declared.lines.PropLine.{PropLine}
use Rattle.prop_text.specs.declared.lines.PropLine.TheVariants as line
use Rattle.prop_text.specs.SizeValues.{SizeValues}

-- the sizes that are used if no line sets one
abbrev pub default_sizes : SizeValues
default_sizes = record { queue = 500; watermark = 150; batch = 1000; cache = 1000 }

-- the sizes after one more line
abbrev pub with_line : SizeValues → PropLine → SizeValues
with_line s (line.QueueSize n) = record { queue = n; watermark = s.watermark; batch = s.batch; cache = s.cache }
with_line s (line.QueueWatermark n) = record { queue = s.queue; watermark = n; batch = s.batch; cache = s.cache }
with_line s (line.BatchSize n) = record { queue = s.queue; watermark = s.watermark; batch = n; cache = s.cache }
with_line s (line.CacheSize n) = record { queue = s.queue; watermark = s.watermark; batch = s.batch; cache = n }
with_line s _ = s

-- the sizes that lines set, or else the defaults
abbrev pub sizes_of : List PropLine → SizeValues
sizes_of lines = fold with_line default_sizes lines

-- the size of a line is in its range
abbrev pub IsInRange : PropLine → Type 0
IsInRange (line.QueueSize n) = (1 ≤ n) × (n ≤ 10000)
IsInRange (line.QueueWatermark n) = (1 ≤ n) × (n ≤ 10000)
IsInRange (line.BatchSize n) = (1 ≤ n) × (n ≤ 1000)
IsInRange (line.CacheSize n) = (1 ≤ n) × (n ≤ 65535)
IsInRange _ = Unit {0}
