use Rattle.std.proofs.Common.{◌∙◌, length, refl}
use Rattle.kms_core.proofs.DrawLemmas.{dek_after_iv, length_of_key, sealed_is, words_of_both, words_of_key}
use Rattle.kms_core.proofs.drawing.draw_sealed.Goals as goal

pub draw_key-dek-requires : goal.draw_key-dek-requires
draw_key-dek-requires g c = words_of_key c.args.ticket.now.material c.as_bytes.result.now (length c.as_bytes.result.now) c.as_bytes.ensures.length c.as_bytes.ensures.bytes refl

pub returns-clause-rest : goal.returns-clause-rest
returns-clause-rest g c = words_of_both c.args.ticket.now.material c.as_bytes.result.now (g.W.Words.to_come c.args.words.now) (g.W.Words.to_come c.draw_iv-iv.new.words) (g.W.Words.to_come c.draw_key-dek.new.words) (length c.as_bytes.result.now) c.as_bytes.ensures.bytes refl c.draw_iv-iv.ensures.rest c.draw_key-dek.ensures.rest

pub make-requires : goal.make-requires
make-requires g c = length_of_key c.args.ticket.now.material c.as_bytes.result.now c.draw_key-dek.result (length c.as_bytes.result.now) c.as_bytes.ensures.length c.as_bytes.ensures.bytes refl c.draw_key-dek.ensures.length

pub returns-clause-key : goal.returns-clause-key
returns-clause-key g c = c.make.ensures ∙ sealed_is c.args.ticket.now c.draw_iv-iv.result c.draw_key-dek.result (g.W.Words.to_come c.args.words.now) c.draw_iv-iv.ensures.iv (dek_after_iv c.args.ticket.now.material c.as_bytes.result.now c.draw_key-dek.result (g.W.Words.to_come c.args.words.now) (g.W.Words.to_come c.draw_iv-iv.new.words) (length c.as_bytes.result.now) c.as_bytes.ensures.bytes refl c.draw_iv-iv.ensures.rest c.draw_key-dek.ensures.key)
