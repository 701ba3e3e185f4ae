use Rattle.aes_core.proofs.Columns.{word_bytes-from_le_bytes}
use Rattle.aes_core.proofs.words.word_of.Goals as goal

pub returns : goal.returns
returns c = word_bytes-from_le_bytes c.from_le_bytes.result _ _ _ _ (c.fits-bytes 0) (c.fits-bytes 1) (c.fits-bytes 2) (c.fits-bytes 3) c.from_le_bytes.ensures
