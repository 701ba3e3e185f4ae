use Rattle.world_run.proofs.ApartLemmas.{none-apart, past-apart, sound-apart}
use Rattle.world_run.proofs.LawLemmas.{empty-sound, sound-open, sound-whole}
use Rattle.world_run.proofs.laws.sound_files_may_be_started_from.Goals as goal

pub returns : goal.returns
returns c = record { empty = empty-sound; whole = sound-whole; open_up = sound-open; none_drawn = none-apart; past_apart = past-apart; apart = sound-apart }
