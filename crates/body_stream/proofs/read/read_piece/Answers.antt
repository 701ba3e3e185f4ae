use Rattle.std.proofs.Common.{length-take-le, take, arith, ap, ◌∙◌, sym, subst}
use Rattle.body_stream.specs.Forms.{coded_form}
use Rattle.std.specs.Io.KnownBytes.{Appends}
use Rattle.hk_base.specs.Writing.{WroteFront}
use Rattle.body_stream.proofs.ReadLemmas.{piece_read, piece_torn}
use Rattle.body_stream.proofs.read.read_piece.Goals as goal

pub returns-in-Err-write_all-clause-part : goal.returns-in-Err-write_all-clause-part
returns-in-Err-write_all-clause-part g c =
    piece_torn c.args.coding.now c.args.id c.args.at c.args.end c.in-Ok.count _ _ _ (take c.in-Ok.count c.read.new.buf) (omega (arith, c.requires.order)) (omega (arith, c.in-Ok.ensures.count, c.min-want.ensures)) (sym (length-take-le c.in-Ok.count c.read.new.buf c.in-Ok.ensures.count)) c.requires.place c.in-Ok.ensures.bytes (subst (WroteFront _ _) (c.apply.ensures ∙ ap (coded_form c.args.coding.now c.args.at) c.split_at_mut-piece.ensures.front) c.in-Err-write_all.ensures.wrote)

pub returns-in-Ok-write_all-clause-read : goal.returns-in-Ok-write_all-clause-read
returns-in-Ok-write_all-clause-read g c =
    let long = length-take-le c.in-Ok.count c.read.new.buf c.in-Ok.ensures.count in
    piece_read c.args.coding.now c.args.id c.args.at c.args.end c.in-Ok.count _ _ _ (take c.in-Ok.count c.read.new.buf) (omega (arith, c.in-Ok.ensures.count, c.min-want.ensures)) (sym long) (λ told. omega (arith, c.in-Ok.ensures.answer told, c.requires.place told, c.requires.order, c.min-want.ensures, c.requires.room)) c.in-Ok.ensures.bytes
    (subst (Appends _ _) (c.apply.ensures ∙ ap (coded_form c.args.coding.now c.args.at) c.split_at_mut-piece.ensures.front) c.in-Ok-write_all.ensures.wrote)
