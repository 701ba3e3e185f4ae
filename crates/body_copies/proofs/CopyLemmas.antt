-- Pieces of a body that are copied one after another.
use Rattle.std.proofs.Common.{◌≡◌, ℕ, ◌+◌, ◌≤◌, List, [], ◌++◌, length, take, drop, refl, sym, ap, ◌∙◌, subst, IsTrue, arith, length-append, append_assoc, append-nil}
use Rattle.std.proofs.Math.Seq.{take-add}
use Rattle.std.proofs.lemmas.List.{take_all, take-append-drop}
use Rattle.hk_base.specs.Disk.{piece}
use Rattle.body_stream.specs.Vaults.{KeepsBodies, OtherBodiesStay, TellsBodies, VaultState}
use Rattle.body_copies.specs.Copies.{CopiesBody, CopiesInPart, HasNoBody}
use Rattle.body_copies.specs.Pieces.{CopiesPiece, CopiesPieceInPart}

-- the first `at` bytes of the source's body are the body of `to`
pub record CopiedSoFar (from to at : ℕ) (source old new : VaultState) : Type 0 where
  pub bytes : List ℕ
  pub long : at ≡ length bytes
  pub range : TellsBodies source → bytes ≡ take at (source.bodies from)
  pub tells : new.tells ≡ old.tells
  pub body : TellsBodies old → new.bodies to ≡ bytes
  pub others : TellsBodies old → OtherBodiesStay to old.bodies new.bodies

still : (old new : VaultState) → new.tells ≡ old.tells → TellsBodies old → TellsBodies new
still old new same told = subst (λ b. IsTrue b) (sym same) told

pub copied_nothing : (from to : ℕ) (source old new : VaultState) → HasNoBody to old → KeepsBodies old new → CopiedSoFar from to 0 source old new
copied_nothing from to source old new none keeps = record {
  bytes = [];
  long = refl;
  range = λ told. refl;
  tells = keeps.tells;
  body = λ told. keeps.bodies told to ∙ none told;
  others = λ told j other. keeps.bodies told j;
}

-- the body has as many bytes as were copied
pub copied_length : (from to at : ℕ) (source old new : VaultState) → CopiedSoFar from to at source old new → TellsBodies new → at ≡ length (new.bodies to)
copied_length from to at source old new s told = s.long ∙ sym (ap length (s.body (subst (λ b. IsTrue b) s.tells told)))

-- what the source has was not changed by reading it
range_before : (from at n : ℕ) (source now : VaultState) (bytes : List ℕ) → KeepsBodies source now → (TellsBodies now → bytes ≡ piece at n (now.bodies from)) → TellsBodies source → bytes ≡ piece at n (source.bodies from)
range_before from at n source now bytes keeps range told = range (still source now keeps.tells told) ∙ ap (λ (l : List ℕ). piece at n l) (keeps.bodies told from)

pub copied_more : (from to at end n : ℕ) (source now old mid new : VaultState) → KeepsBodies source now → CopiedSoFar from to at source old mid → CopiesPiece from to at end n now mid new → CopiedSoFar from to (at + n) source old new
copied_more from to at end n source now old mid new keeps s p = record {
  bytes = s.bytes ++ p.bytes;
  long = omega (arith, s.long, p.long, length-append s.bytes p.bytes);
  range = λ told. (λ i. s.range told i ++ range_before from at n source now p.bytes keeps p.range told i) ∙ sym (take-add at n (source.bodies from));
  tells = p.tells ∙ s.tells;
  body = λ told. let grown = p.body (still old mid s.tells told) in grown.body ∙ ap (λ (l : List ℕ). l ++ p.bytes) (s.body told);
  others = λ told j other. (p.body (still old mid s.tells told)).others j other ∙ s.others told j other;
}

pub copied_all : (from to at : ℕ) (source old new : VaultState) → HasNoBody to old → (TellsBodies source → length (source.bodies from) ≤ at) → CopiedSoFar from to at source old new → CopiesBody from to source old new
copied_all from to at source old new none past s = record {
  tells = s.tells;
  empty = none;
  body = λ told_source told. s.body told ∙ s.range told_source ∙ take_all at (source.bodies from) (past told_source);
  others = s.others;
}

-- nothing was copied
pub copied_none : (from to : ℕ) (source old new : VaultState) → KeepsBodies old new → CopiesInPart from to source old new
copied_none from to source old new keeps = record {
  tells = keeps.tells;
  body = λ told_source told. record {
    front = [];
    more = source.bodies from;
    whole = refl;
    grows = record { body = keeps.bodies told to ∙ sym (append-nil (old.bodies to)); others = λ j other. keeps.bodies told j };
  };
  others = λ told j other. keeps.bodies told j;
}

-- the bytes before a place, some from it on, and the rest
split_three : (at n : ℕ) (body : List ℕ) → take at body ++ (piece at n body ++ drop n (drop at body)) ≡ body
split_three at n body = ap (λ (l : List ℕ). take at body ++ l) (take-append-drop n (drop at body)) ∙ take-append-drop at body

-- the last piece was cut short
pub copied_part : (from to at : ℕ) (source now old mid new : VaultState) → HasNoBody to old → KeepsBodies source now → CopiedSoFar from to at source old mid → CopiesPieceInPart from to at now mid new → CopiesInPart from to source old new
copied_part from to at source now old mid new none keeps s p = record {
  tells = p.tells ∙ s.tells;
  body = λ told_source told.
      let grown = p.body (still old mid s.tells told) in
      let rest = drop p.count (drop at (source.bodies from)) in
      record {
        front = s.bytes ++ grown.front;
        more = grown.more ++ rest;
        whole =
            append_assoc s.bytes grown.front (grown.more ++ rest)
            ∙ ap (λ (l : List ℕ). s.bytes ++ l) (sym (append_assoc grown.front grown.more rest))
            ∙ (λ i. s.range told_source i ++ ((grown.whole ∙ range_before from at p.count source now p.bytes keeps p.range told_source) i ++ rest))
            ∙ split_three at p.count (source.bodies from);
        grows = record {
          body = grown.grows.body ∙ ap (λ (l : List ℕ). l ++ grown.front) (s.body told) ∙ ap (λ (l : List ℕ). l ++ (s.bytes ++ grown.front)) (sym (none told));
          others = λ j other. grown.grows.others j other ∙ s.others told j other;
        };
      };
  others = λ told j other. (p.body (still old mid s.tells told)).grows.others j other ∙ s.others told j other;
}

pub kept_on : (old mid new : VaultState) → KeepsBodies old mid → KeepsBodies mid new → KeepsBodies old new
kept_on old mid new a b = record {
  tells = b.tells ∙ a.tells;
  bodies = λ told j. b.bodies (still old mid a.tells told) j ∙ a.bodies told j;
}
