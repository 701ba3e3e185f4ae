use Rattle.std.proofs.Common.{◌≡◌, ◌-◌, take, length}
use Rattle.aes_core.specs.Aes.{expanded_key, key_words}
use Rattle.aes_core.proofs.block_cipher.Aes.new.Given as goal

abbrev pub invariant-first : goal.invariant-first
invariant-first g l = record {
  long : length l.words ≡ g.row.W;
  copied : take l.i l.words ≡ key_words l.i l.key;
}

abbrev pub invariant-more : goal.invariant-more
invariant-more g l = record {
  long : length l.words ≡ g.row.W;
  made : take l.i l.words ≡ expanded_key g.row.NK l.key (l.i - g.row.NK);
}
