use Rattle.std.proofs.Common.{sym, ◌∙◌}
use Rattle.key_index.proofs.CacheLemmas.{cached_after, placed_older}
use Rattle.key_index.proofs.Commands.{applies_is}
use Rattle.key_index.proofs.Holding.{rows_sized}
use Rattle.key_index.proofs.LogLemmas.{in_log_after, on_log}
use Rattle.key_index.proofs.Sounds.{is_table}
use Rattle.key_index.proofs.places.log_holds_materials.Goals as goal

pub returns-clause-added : goal.returns-clause-added
returns-clause-added c m commands x command is may = in_log_after m commands x command is (sym (applies_is m x command is) ∙ may)

pub returns-clause-read : goal.returns-clause-read
returns-clause-read c = on_log

pub returns-clause-table : goal.returns-clause-table
returns-clause-table c m file x is held = is_table m x is (rows_sized m file x.rows held)

pub returns-clause-cache : goal.returns-clause-cache
returns-clause-cache c m x command place entries is may = cached_after m x place is command (sym (applies_is m x command is) ∙ may) entries

pub returns-clause-older : goal.returns-clause-older
returns-clause-older c = placed_older
