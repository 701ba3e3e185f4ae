-- Draws whose words are apart, from run to run.
use Rattle.std.proofs.Common.{◌+◌, ◌*◌, ◌^◌, false, [], arith}
use Rattle.name_store.specs.Table.{settled_log}
use Rattle.world_run.specs.Laws.{NoDrawsAreApart, PastDrawsAreApart, SoundFilesAreApart}
use Rattle.world_run.specs.Ledger.{drawn_before, past_of}
use Rattle.world_run.proofs.KeepLemmas.{files-apart}
use Rattle.world_run.proofs.LawLemmas.{none-drawn}
use Rattle.world_run.proofs.WorldLemmas.{apart-fewer, drawn-past}

pub none-apart : NoDrawsAreApart
none-apart = record { taken = λ d i. absurd (none-drawn d i); apart = λ d f i j. absurd (none-drawn d i) }

pub past-apart : PastDrawsAreApart
past-apart h f = apart-fewer h (drawn_before (past_of h)) (drawn-past h) (omega arith) f

pub sound-apart : SoundFilesAreApart
sound-apart past c s f = (files-apart (drawn_before past) [] [] (((settled_log false s.more_ops s.made).table.opening + 1) * 2 ^ 32) (s.linked false false).fits f).files
