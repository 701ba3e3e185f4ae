use Rattle.std.proofs.Common.{[], refl, sym, append-nil}
use Rattle.body_copies.proofs.copy.copy_piece.Goals as goal

pub returns-in-Err-clause-part : goal.returns-in-Err-clause-part
returns-in-Err-clause-part g c = record {
  bytes = [];
  count = 0;
  range = λ told. refl;
  tells = refl;
  body = λ told. record { front = []; more = []; whole = refl; grows = record { body = sym (append-nil ((g.U.Vault.state c.args.copies.now).bodies c.args.to)); others = λ j other. refl } };
}
