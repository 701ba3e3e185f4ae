use Rattle.std.proofs.Common.{◌≡◌, true, length, ap, sym, ◌∙◌, subst}
use Rattle.reenc_walk.specs.declared.sent.BatchNote.{BatchNote}
use Rattle.reenc_update.specs.Replies.{FitsSent, are_of_keys}
use Rattle.reenc_update.specs.declared.reply.BatchResult.TheVariants.{Ready}
use Rattle.reenc_update.proofs.ChangeLemmas.{fits-length}
use Rattle.reenc_update.proofs.changes.changes_of.Goals as goal

pub changes_by-requires : goal.changes_by-requires
changes_by-requires c =
    let sent = c.args.reply.now.note.sent in
    let ready : c.args.reply.now.result ≡ Ready c.in-Ready.edeks = sym c.result.ensures.same ∙ c.in-Ready.is in
    let fits : are_of_keys sent c.in-Ready.edeks ≡ true = subst (FitsSent sent) ready c.result.ensures.fits in
    ap (λ (note : BatchNote). length note.sent) c.note-in-Ready.ensures ∙ fits-length sent c.in-Ready.edeks fits ∙ ap length (sym c.as_slice.ensures)
