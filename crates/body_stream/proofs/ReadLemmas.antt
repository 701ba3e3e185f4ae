-- Pieces of a range that are read one after another.
use Rattle.std.proofs.Common.{◌≡◌, ℕ, ◌+◌, ◌-◌, ◌<◌, ◌≤◌, min, List, [], ◌++◌, length, take, drop, Option, refl, sym, ap, ◌∙◌, subst, IsTrue, arith, length-append, length-take, length-drop, append_assoc}
use Rattle.std.specs.Io.KnownBytes.{Appends}
use Rattle.std.proofs.KnownBytes.{Appends-nil, Appends-trans}
use Rattle.std.proofs.Math.Seq.{take-add}
use Rattle.std.proofs.lemmas.List.{drop-drop, drop_all, take_all, take_min}
use Rattle.hk_base.specs.Disk.{piece}
use Rattle.hk_base.specs.Writing.{WroteFront}
use Rattle.body_stream.specs.Forms.{coded_form, stored_form}
use Rattle.body_stream.specs.Pieces.{ReadsPiece, ReadsPieceInPart}
use Rattle.body_stream.specs.Transfers.{ReadsBody, ReadsInPart}
use Rattle.body_stream.specs.Vaults.{KeepsBodies, TellsBodies, VaultState}
use Rattle.body_stream.specs.declared.coding.Coding.{Coding}
use Rattle.body_stream.specs.declared.keys.BodyKey.{BodyKey}
use Rattle.body_stream.proofs.FormLemmas.{coded-append, coded-nil, coded-piece, length-coded}

-- the bytes of the file from `from` to `at` were written
pub record ReadSoFar (coding : Coding) (id from at : ℕ) (vault : VaultState) (written now : Option (List ℕ)) : Type 0 where
  pub bytes : List ℕ
  pub wrote : Appends written now bytes
  pub long : at ≡ from + length bytes
  pub range : TellsBodies vault → bytes ≡ coded_form coding from (piece from (at - from) (vault.bodies id))

-- two adjoining pieces of a body, decoded
coded-two : (c : Coding) (from n m : ℕ) (body : List ℕ) → from + n ≤ length body
    → coded_form c from (piece from (n + m) body) ≡ coded_form c from (piece from n body) ++ coded_form c (from + n) (piece (from + n) m body)
coded-two c from n m body within =
    ap (coded_form c from) (take-add n m (drop from body) ∙ ap (λ (l : List ℕ). piece from n body ++ take m l) (drop-drop n from body))
    ∙ coded-append c from (piece from n body) (piece (from + n) m body)
    ∙ ap (λ (k : ℕ). coded_form c from (piece from n body) ++ coded_form c (from + k) (piece (from + n) m body)) (omega (arith, within, length-take n (drop from body), length-drop from body))

pub read_nothing : (c : Coding) (id from : ℕ) (v : VaultState) (written : Option (List ℕ)) → ReadSoFar c id from from v written written
read_nothing c id from v written = record {
  bytes = [];
  wrote = Appends-nil written;
  long = omega arith;
  range = λ told.
      let none : from - from ≡ 0 = omega arith in
      sym (ap (λ (m : ℕ). coded_form c from (piece from m (v.bodies id))) none ∙ coded-nil c from);
}

still_told : {old new : VaultState} → KeepsBodies old new → TellsBodies old → TellsBodies new
still_told keeps told = subst (λ b. IsTrue b) (sym keeps.tells) told

pub read_more : (c : Coding) (id from at end n : ℕ) (old mid : VaultState) (written then now : Option (List ℕ)) → KeepsBodies old mid → (TellsBodies old → end ≤ length (old.bodies id)) → at ≤ end
    → ReadSoFar c id from at old written then → ReadsPiece c id at end n mid then now → ReadSoFar c id from (at + n) old written now
read_more c id from at end n old mid written then now keeps inside order s p = record {
  bytes = s.bytes ++ p.bytes;
  wrote = Appends-trans written then now s.bytes p.bytes s.wrote p.wrote;
  long = omega (arith, s.long, p.long, length-append s.bytes p.bytes);
  range = λ told.
      let body = old.bodies id in
      let place : from + (at - from) ≡ at = omega (arith, s.long) in
      let read : p.bytes ≡ coded_form c at (piece at n body) = p.range (still_told keeps told) ∙ ap (λ (l : List ℕ). coded_form c at (piece at n l)) (keeps.bodies told id) in
      (λ i. s.range told i ++ read i)
      ∙ ap (λ (k : ℕ). coded_form c from (piece from (at - from) body) ++ coded_form c k (piece k n body)) (sym place)
      ∙ sym (coded-two c from (at - from) n body (omega (arith, place, order, inside told)))
      ∙ ap (λ (k : ℕ). coded_form c from (piece from k body)) (omega (arith, s.long));
}

-- the decoded range of a stored body is the range of its file
range_of_file : (c : Coding) (key : Option BodyKey) (from n count : ℕ) (body file : List ℕ) → ((o : ℕ) (bs : List ℕ) → coded_form c o bs ≡ stored_form key o bs)
    → body ≡ stored_form key 0 file → n ≡ min count (length body - from) → coded_form c from (piece from n body) ≡ piece from count file
range_of_file c key from n count body file is stored_is cut =
    let coded : body ≡ coded_form c 0 file = stored_is ∙ sym (is 0 file) in
    let long : length body ≡ length file = ap length coded ∙ length-coded c 0 file in
    let size : n ≡ min count (length (drop from file)) = omega (arith, cut, long, length-drop from file) in
    ap (λ (l : List ℕ). coded_form c from (piece from n l)) coded ∙ coded-piece c from n file ∙ ap (λ (m : ℕ). take m (drop from file)) size ∙ take_min count (drop from file)

-- the range begins past the end
pub read_past : (c : Coding) (key : Option BodyKey) (id from count : ℕ) (v : VaultState) (written : Option (List ℕ)) → ((o : ℕ) (bs : List ℕ) → coded_form c o bs ≡ stored_form key o bs)
    → (TellsBodies v → length (v.bodies id) ≤ from) → ReadsBody key id from count 0 v written written
read_past c key id from count v written is past = record {
  bytes = [];
  wrote = Appends-nil written;
  long = refl;
  within = omega arith;
  range = λ told file stored_is.
      let long : length file ≤ from = omega (arith, past told, ap length stored_is, ap length (is 0 file), length-coded c 0 file) in
      sym (ap (take count) (drop_all from file long) ∙ take_all count [] (omega arith));
}

-- the range was read, or the body to its end
pub read_done : (c : Coding) (key : Option BodyKey) (id from count at : ℕ) (v : VaultState) (written now : Option (List ℕ)) → ((o : ℕ) (bs : List ℕ) → coded_form c o bs ≡ stored_form key o bs)
    → at - from ≤ count → (TellsBodies v → at - from ≡ min count (length (v.bodies id) - from)) → ReadSoFar c id from at v written now → ReadsBody key id from count (at - from) v written now
read_done c key id from count at v written now is within end s = record {
  bytes = s.bytes;
  wrote = s.wrote;
  long = omega (arith, s.long);
  within = within;
  range = λ told file stored_is. s.range told ∙ range_of_file c key from (at - from) count (v.bodies id) file is stored_is (end told);
}

-- a vault that tells nothing gave no more bytes
pub read_ended : (c : Coding) (key : Option BodyKey) (id from count at end n : ℕ) (old mid : VaultState) (written then now : Option (List ℕ)) → KeepsBodies old mid → (TellsBodies old → end ≤ length (old.bodies id)) → at ≤ end
    → at - from ≤ count → n ≡ 0 → ReadSoFar c id from at old written then → ReadsPiece c id at end n mid then now → ReadsBody key id from count (at - from) old written now
read_ended c key id from count at end n old mid written then now keeps inside order within none s p =
    let all = read_more c id from at end n old mid written then now keeps inside order s p in
    record {
      bytes = all.bytes;
      wrote = all.wrote;
      long = omega (arith, all.long, none);
      within = within;
      range = λ told file stored_is. absurd (omega (arith, p.some (still_told keeps told), none));
    }

-- the last piece was cut short
pub read_part : (c : Coding) (key : Option BodyKey) (id from count at end : ℕ) (old mid : VaultState) (written then now : Option (List ℕ)) → ((o : ℕ) (bs : List ℕ) → coded_form c o bs ≡ stored_form key o bs)
    → KeepsBodies old mid → at ≤ end → end - from ≤ count → (TellsBodies old → (end ≤ length (old.bodies id)) × (end - from ≡ min count (length (old.bodies id) - from)))
    → ReadSoFar c id from at old written then → ReadsPieceInPart c id at end mid then now → ReadsInPart key id from count old written now
read_part c key id from count at end old mid written then now is keeps order within cut s p = record {
  bytes = s.bytes ++ p.bytes;
  wrote = Appends-trans written then now s.bytes p.bytes s.wrote p.wrote;
  within = omega (arith, within, order, s.long, p.within, length-append s.bytes p.bytes);
  range = λ told file stored_is.
      let body = old.bodies id in
      let rest = p.range (still_told keeps told) in
      let place : from + (at - from) ≡ at = omega (arith, s.long) in
      let read : p.bytes ++ rest.0 ≡ coded_form c at (piece at (end - at) body) = rest.1 ∙ ap (λ (l : List ℕ). coded_form c at (piece at (end - at) l)) (keeps.bodies told id) in (
        rest.0,
        append_assoc s.bytes p.bytes rest.0
            ∙ (λ i. s.range told i ++ read i)
            ∙ ap (λ (k : ℕ). coded_form c from (piece from (at - from) body) ++ coded_form c k (piece k (end - at) body)) (sym place)
            ∙ sym (coded-two c from (at - from) (end - at) body (omega (arith, place, order, (cut told).0)))
            ∙ ap (λ (k : ℕ). coded_form c from (piece from k body)) (omega (arith, s.long, order))
            ∙ range_of_file c key from (end - from) count body file is stored_is (cut told).1,
      );
}

pub kept_on : (old mid new : VaultState) → KeepsBodies old mid → KeepsBodies mid new → KeepsBodies old new
kept_on old mid new a b = record { tells = b.tells ∙ a.tells; bodies = λ told j. b.bodies (still_told a told) j ∙ a.bodies told j }

-- a piece was read from the vault and written whole
pub piece_read : (c : Coding) (id at end n : ℕ) (v : VaultState) (written now : Option (List ℕ)) (bytes : List ℕ) → n ≤ end - at → n ≡ length bytes → (TellsBodies v → 0 < n)
    → (TellsBodies v → bytes ≡ piece at n (v.bodies id)) → Appends written now (coded_form c at bytes) → ReadsPiece c id at end n v written now
piece_read c id at end n v written now bytes within long some read wrote = record {
  bytes = coded_form c at bytes;
  wrote = wrote;
  long = long ∙ sym (length-coded c at bytes);
  within = within;
  some = some;
  range = λ told. ap (coded_form c at) (read told);
}

-- a piece was read from the vault and written in part
pub piece_torn : (c : Coding) (id at end n : ℕ) (v : VaultState) (written now : Option (List ℕ)) (bytes : List ℕ) → at ≤ end → n ≤ end - at → n ≡ length bytes → (TellsBodies v → end ≤ length (v.bodies id))
    → (TellsBodies v → bytes ≡ piece at n (v.bodies id)) → WroteFront written now (coded_form c at bytes) → ReadsPieceInPart c id at end v written now
piece_torn c id at end n v written now bytes order within long inside read w = record {
  bytes = w.front;
  wrote = w.wrote;
  within = omega (arith, within, long, ap length w.whole, length-append w.front w.more, length-coded c at bytes);
  range = λ told.
      let body = v.bodies id in
      let rest = coded_form c (at + n) (piece (at + n) (end - at - n) body) in (
        w.more ++ rest,
        sym (append_assoc w.front w.more rest)
            ∙ ap (λ (l : List ℕ). l ++ rest) (w.whole ∙ ap (coded_form c at) (read told))
            ∙ sym (coded-two c at n (end - at - n) body (two told))
            ∙ ap (λ (k : ℕ). coded_form c at (piece at k body)) (omega (arith, within)),
      );
}
  where
    two : TellsBodies v → at + n ≤ length (v.bodies id)
    two told = omega (arith, inside told, order, within)
