-- Bodies that were put are read back.
use Rattle.std.proofs.Common.{◌+◌, length, ap, ◌∙◌, subst}
use Rattle.std.specs.Io.KnownBytes.{Appends}
use Rattle.body_stream.specs.Forms.{stored_form}
use Rattle.body_stream.specs.Laws.{BodiesAreReadBack, StoredFormKeepsLength, StoredFormKeepsPrefixes, StoredFormUndoesItself}
use Rattle.body_stream.proofs.FormLemmas.{length-stored, stored-append, stored-piece}

pub read_back : BodiesAreReadBack
read_back key id long from count n left left' written now old put later was told tells same read =
    let range = read.range tells was.bytes (same ∙ was.body told) in
    (subst (Appends written now) range read.wrote, read.long ∙ ap length range)

pub undone : StoredFormUndoesItself
undone key from count file = stored-piece key from count file

pub keeps_length : StoredFormKeepsLength
keeps_length key file = length-stored key 0 file

pub keeps_prefixes : StoredFormKeepsPrefixes
keeps_prefixes key front more = (stored_form key (0 + length front) more, stored-append key 0 front more)
