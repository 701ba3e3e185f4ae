-- Pieces of a body that are put one after another.
use Rattle.std.proofs.Common.{◌≡◌, ℕ, ◌+◌, ◌<◌, ◌≤◌, List, [], ◌++◌, length, Option, refl, sym, ap, ◌∙◌, subst, IsTrue, arith, None, Some, length-append, append_assoc}
use Rattle.std.specs.Io.KnownBytes.{Consumes}
use Rattle.std.proofs.KnownBytes.{Consumes-nil, Consumes-trans}
use Rattle.body_stream.specs.Forms.{coded_form, stored_form}
use Rattle.body_stream.specs.Pieces.{PutsPiece, PutsPieceInPart}
use Rattle.body_stream.specs.Transfers.{PutsBody, PutsInPart, longest_body}
use Rattle.body_stream.specs.Vaults.{GrowsInPart, OtherBodiesStay, TellsBodies, VaultState}
use Rattle.body_stream.specs.declared.coding.Coding.{Coding}
use Rattle.body_stream.specs.declared.keys.BodyKey.{BodyKey}
use Rattle.body_stream.proofs.FormLemmas.{coded-append, coded-nil, length-coded}

-- the `at` bytes that were read from the source so far are the body
pub record PutSoFar (coding : Coding) (id at : ℕ) (left left' : Option (List ℕ)) (old new : VaultState) : Type 0 where
  pub bytes : List ℕ
  pub consumed : Consumes left left' bytes
  pub long : at ≡ length bytes
  pub fits : at ≤ longest_body
  pub tells : new.tells ≡ old.tells
  pub body : TellsBodies old → new.bodies id ≡ coded_form coding 0 bytes
  pub others : TellsBodies old → OtherBodiesStay id old.bodies new.bodies

still_told : (old new : VaultState) → new.tells ≡ old.tells → TellsBodies old → TellsBodies new
still_told old new same told = subst (λ b. IsTrue b) (sym same) told

pub put_nothing : (c : Coding) (id : ℕ) (left : Option (List ℕ)) (v : VaultState) → (TellsBodies v → v.bodies id ≡ []) → PutSoFar c id 0 left left v v
put_nothing c id left v empty = record {
  bytes = [];
  consumed = Consumes-nil left;
  long = refl;
  fits = omega arith;
  tells = refl;
  body = λ told. empty told ∙ sym (coded-nil c 0);
  others = λ told j other. refl;
}

-- the body has as many bytes as were put
pub put_length : (c : Coding) (id at : ℕ) (left left' : Option (List ℕ)) (old new : VaultState) → PutSoFar c id at left left' old new → TellsBodies new → at ≡ length (new.bodies id)
put_length c id at left left' old new s told = s.long ∙ sym (ap length (s.body (subst (λ b. IsTrue b) s.tells told)) ∙ length-coded c 0 s.bytes)

pub put_more : (c : Coding) (id at n : ℕ) (left mid right : Option (List ℕ)) (old then new : VaultState) → PutSoFar c id at left mid old then → PutsPiece c id at n mid right then new → PutSoFar c id (at + n) left right old new
put_more c id at n left mid right old then new s p = record {
  bytes = s.bytes ++ p.bytes;
  consumed = Consumes-trans left mid right s.bytes p.bytes s.consumed p.consumed;
  long = omega (arith, s.long, p.long, length-append s.bytes p.bytes);
  fits = p.fits;
  tells = p.tells ∙ s.tells;
  body = λ told.
      let grown = p.body (still_told old then s.tells told) in
      grown.body ∙ (λ i. s.body told i ++ coded_form c (s.long i) p.bytes) ∙ sym (coded-append c 0 s.bytes p.bytes ∙ ap (λ (m : ℕ). coded_form c 0 s.bytes ++ coded_form c m p.bytes) (omega arith));
  others = λ told j other. (p.body (still_told old then s.tells told)).others j other ∙ s.others told j other;
}

-- the source is at its end
pub put_done : (c : Coding) (key : Option BodyKey) (id at n : ℕ) (left mid right : Option (List ℕ)) (old then new : VaultState) → ((o : ℕ) (bs : List ℕ) → coded_form c o bs ≡ stored_form key o bs)
    → PutSoFar c id at left mid old then → PutsPiece c id at n mid right then new → n ≡ 0 → PutsBody key id at left right old new
put_done c key id at n left mid right old then new is s p none =
    let all = put_more c id at n left mid right old then new s p in
    record {
      bytes = all.bytes;
      consumed = all.consumed;
      end = p.end none;
      long = omega (arith, all.long, none);
      fits = s.fits;
      tells = all.tells;
      body = λ told. all.body told ∙ is 0 all.bytes;
      others = all.others;
    }

-- the last piece was cut short
pub put_part : (c : Coding) (key : Option BodyKey) (id at : ℕ) (left mid right : Option (List ℕ)) (old then new : VaultState) → ((o : ℕ) (bs : List ℕ) → coded_form c o bs ≡ stored_form key o bs)
    → PutSoFar c id at left mid old then → PutsPieceInPart c id at mid right then new → PutsInPart key id left right old new
put_part c key id at left mid right old then new is s p = record {
  bytes = s.bytes ++ p.bytes;
  consumed = Consumes-trans left mid right s.bytes p.bytes s.consumed p.consumed;
  tells = p.tells ∙ s.tells;
  body = λ told.
      let g = part told in (
        g.more,
        ap (λ (l : List ℕ). l ++ g.more) g.grows.body ∙ append_assoc (then.bodies id) g.front g.more
            ∙ (λ i. s.body told i ++ g.whole i)
            ∙ ap (λ (m : ℕ). coded_form c 0 s.bytes ++ coded_form c m p.bytes) s.long
            ∙ sym (coded-append c 0 s.bytes p.bytes ∙ ap (λ (m : ℕ). coded_form c 0 s.bytes ++ coded_form c m p.bytes) (omega arith))
            ∙ is 0 (s.bytes ++ p.bytes),
      );
  others = λ told j other. (part told).grows.others j other ∙ s.others told j other;
}
  where
    part : TellsBodies old → GrowsInPart id (coded_form c at p.bytes) then.bodies new.bodies
    part told = p.body (still_told old then s.tells told)

abbrev size_of : Option (List ℕ) → ℕ
size_of None = 0
size_of (Some bytes) = length bytes

-- the source had more than may be put
pub too_long : (left mid : Option (List ℕ)) (bytes all : List ℕ) (at : ℕ) → Consumes left mid bytes → at ≡ length bytes → ((rest : List ℕ) → mid ≡ Some rest → longest_body < at + length rest) → left ≡ Some all → longest_body < length all
too_long None mid bytes all at used long more is = absurd cc
too_long (Some x) None bytes all at used long more is = absurd used
too_long (Some x) (Some y) bytes all at used long more is = omega (arith, more y refl, long, ap length used, length-append bytes y, ap size_of is)
