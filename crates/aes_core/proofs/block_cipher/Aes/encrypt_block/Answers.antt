use Rattle.std.proofs.Common.{sym, ◌∙◌}
use Rattle.aes_core.proofs.Keys.{encrypted-is}
use Rattle.aes_core.proofs.block_cipher.Aes.encrypt_block.Goals as goal

pub returns : goal.returns
returns g c =
    c.encrypted.ensures ∙ encrypted-is g.row.NK c.self.inside.words c.args.self.now c.args.block.now (sym c.self.view_is) c.self.invariant.1
