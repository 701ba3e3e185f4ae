-- Commands that were read can be written.
use Rattle.std.proofs.Common.{IsTrue}
use Rattle.key_rows.specs.declared.rows.KeyCommand.{KeyCommand}
use Rattle.key_rows.specs.Records.{HasSpelling, fits}
use Rattle.key_rows.proofs.RecordLemmas.{spelled_fits}

pub can_be_written : (command : KeyCommand) → HasSpelling command → IsTrue (fits command)
can_be_written command has = spelled_fits command has
