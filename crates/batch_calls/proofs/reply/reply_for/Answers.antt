use Rattle.std.proofs.Common.{◌∙◌, ap, arith, length, sym}
use Rattle.reenc_update.proofs.ChangeLemmas.{fits-length}
use Rattle.batch_calls.proofs.reply.reply_for.Goals as goal

-- there are as many keys as files, for which there is room
pub copy_keys-keys-requires-clause-room : goal.copy_keys-keys-requires-clause-room
copy_keys-keys-requires-clause-room c =
    let same = fits-length c.as_slice.result.now c.as_slice-keys.result.now (sym c.are_of_keys.ensures ∙ c.if-not-are_of_keys.false) in
    let sent = ap (λ files. length files) c.as_slice.ensures.files in
    let room = c.requires.room in
    omega (arith, same, sent, room)
