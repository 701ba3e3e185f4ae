use Rattle.std.proofs.Common.{◌≡◌, ◌++◌, take}
use Rattle.std.specs.List.{flat_map}
use Rattle.replay_text.specs.Transcript.{meta_part}
use Rattle.replay_text.proofs.transcript.write_metas.Given as goal

abbrev pub invariant-metas : goal.invariant-metas
invariant-metas l = l.out ≡ l.fn.out ++ flat_map meta_part (take l.meta-index l.metas)
