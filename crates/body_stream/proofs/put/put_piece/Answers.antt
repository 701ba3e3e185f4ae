use Rattle.std.proofs.Common.{ap, ◌∙◌, subst, arith, take}
use Rattle.body_stream.specs.Forms.{coded_form}
use Rattle.body_stream.specs.Vaults.{GrowsBody, GrowsInPart}
use Rattle.body_stream.proofs.put.put_piece.Goals as goal

pub returns-in-Ok-write-clause-put : goal.returns-in-Ok-write-clause-put
returns-in-Ok-write-clause-put g c =
    let stored = c.apply.ensures ∙ ap (coded_form c.args.coding.now c.args.at) c.split_at_mut-piece.ensures.front in
    record {
      bytes = take c.in-Ok.count c.read.new.buf;
      consumed = c.in-Ok.ensures.bytes.0;
      long = c.in-Ok.ensures.bound.1;
      fits = omega (arith, c.if-count-at.false, c.requires.at);
      end = λ none. c.in-Ok.ensures.bytes.1 none (omega (arith, c.requires.room));
      tells = c.in-Ok-write.ensures.tells;
      body = λ told. subst (λ l. GrowsBody c.args.id l (g.V.Vault.state c.args.vault.now).bodies (g.V.Vault.state c.write.new.self).bodies) stored (c.in-Ok-write.ensures.written told);
    }

pub returns-in-Err-write-clause-part : goal.returns-in-Err-write-clause-part
returns-in-Err-write-clause-part g c =
    let stored = c.apply.ensures ∙ ap (coded_form c.args.coding.now c.args.at) c.split_at_mut-piece.ensures.front in
    record {
      bytes = take c.in-Ok.count c.read.new.buf;
      consumed = c.in-Ok.ensures.bytes.0;
      tells = c.in-Err-write.ensures.tells;
      body = λ told. subst (λ l. GrowsInPart c.args.id l (g.V.Vault.state c.args.vault.now).bodies (g.V.Vault.state c.write.new.self).bodies) stored (c.in-Err-write.ensures.torn told);
    }
