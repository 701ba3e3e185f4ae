-- A transfer after the size of a body was read.
use Rattle.std.proofs.Common.{◌∙◌, ℕ, List, sym, subst, IsTrue, Bool}
use Rattle.std.specs.Prelude.{Option}
use Rattle.body_stream.specs.Transfers.{PutsBody, PutsInPart}
use Rattle.body_stream.specs.Vaults.{KeepsBodies, TellsBodies, VaultState}
use Rattle.body_stream.specs.declared.keys.BodyKey.{BodyKey}

tells_too : (old mid : VaultState) → KeepsBodies old mid → TellsBodies old → TellsBodies mid
tells_too old mid keeps tells = subst (λ (b : Bool). IsTrue b) (sym keeps.tells) tells

pub put_since : (key : Option BodyKey) (id n : ℕ) (left left' : Option (List ℕ)) (old mid new : VaultState) → KeepsBodies old mid → PutsBody key id n left left' mid new → PutsBody key id n left left' old new
put_since key id n left left' old mid new keeps p = record {
  bytes = p.bytes;
  consumed = p.consumed;
  end = p.end;
  long = p.long;
  fits = p.fits;
  tells = p.tells ∙ keeps.tells;
  body = λ tells. p.body (tells_too old mid keeps tells);
  others = λ tells j other. p.others (tells_too old mid keeps tells) j other ∙ keeps.bodies tells j;
}

pub cut_since : (key : Option BodyKey) (id : ℕ) (left left' : Option (List ℕ)) (old mid new : VaultState) → KeepsBodies old mid → PutsInPart key id left left' mid new → PutsInPart key id left left' old new
cut_since key id left left' old mid new keeps p = record {
  bytes = p.bytes;
  consumed = p.consumed;
  tells = p.tells ∙ keeps.tells;
  body = λ tells. p.body (tells_too old mid keeps tells);
  others = λ tells j other. p.others (tells_too old mid keeps tells) j other ∙ keeps.bodies tells j;
}
