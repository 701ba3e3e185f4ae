-- The last line of an end.
use Rattle.std.proofs.Common.{◌≡◌, inl, inr, ℕ, List, [], refl, sym, subst, codes, Option, Result, Ok, Err, IfOk, MatchResult}
use Rattle.std.specs.Io.KnownBytes.{Appends}
use Rattle.std.proofs.KnownBytes.{Appends-nil}
use Rattle.hk_base.specs.Writing.{WroteFront}
use Rattle.command_io.specs.Ends.{Closes, WritesLast, last_line}
use Rattle.command_io.specs.declared.ends.ReplayEnd.{ReplayEnd}
use Rattle.command_io.specs.declared.ends.ReplayEnd.TheVariants as ended

pub closes_with_nothing : (stop last : ReplayEnd) (lines : ℕ) (written : Option (List ℕ)) → stop ≡ last → last_line last lines ≡ [] → Closes stop lines written written last
closes_with_nothing stop last lines written is none = record { last = last; last_is = inl (sym is); writes = inl (refl, subst (Appends written written) (sym none) (Appends-nil written)) }

pub closes_with : (stop last how : ReplayEnd) (lines : ℕ) (written now : Option (List ℕ)) (text : List ℕ) → stop ≡ last → text ≡ last_line last lines → WritesLast written now text last how → Closes stop lines written now how
closes_with stop last how lines written now text is says (inl h) = record { last = last; last_is = inl (sym is); writes = inl (h.0, subst (Appends written now) says h.1) }
closes_with stop last how lines written now text is says (inr h) = record { last = last; last_is = inl (sym is); writes = inr (h.0, subst (WroteFront written now) says h.1) }

-- a last line with a number, if there was memory for it
pub closes_numbered : {S E : Type 0} (bytes : S → List ℕ) (line : Result S E) (stop last how : ReplayEnd) (lines : ℕ) (written now : Option (List ℕ)) → stop ≡ last → IfOk line (λ text. bytes text ≡ last_line last lines)
    → MatchResult line (λ text. WritesLast written now (bytes text) last how) (λ _. WritesLast written now (codes "no memory\n") ended.NoMemory how) → Closes stop lines written now how
closes_numbered bytes (Ok text) stop last how lines written now is says w = closes_with stop last how lines written now (bytes text) is says w
closes_numbered bytes (Err e) stop last how lines written now is says w = record { last = ended.NoMemory; last_is = inr refl; writes = w }
