-- The end of a load.
use Rattle.std.proofs.Common.{◌≡◌, ◌⊎◌, inl, inr, ℕ, List}
use Rattle.std.specs.Prelude.{Option, codes}
use Rattle.command_io.specs.Ends.{ShowsWith}
use Rattle.load_run.specs.declared.counts.Counts.{Counts}
use Rattle.load_run.specs.Counts.{load_line}
use Rattle.load_run.specs.Generator.{tasks}
use Rattle.load_run.specs.Load.{Load, Loads}

-- a load was done, and its line was shown, or that there was no memory for it
pub load_done : {W : Type 0} (to_come : W → ℕ → ℕ) (n : ℕ) (words words' : W) (written now : Option (List ℕ)) (status : ℕ) (counts : Counts)
    → Loads to_come (tasks n) words words' counts → ShowsWith (load_line n counts) 0 written now status ⊎ ShowsWith (codes "no memory\n") 6 written now status → Load to_come n words words' written now status
load_done to_come n words words' written now status counts loads (inl shows) = inl (counts, loads, shows)
load_done to_come n words words' written now status counts loads (inr shows) = inr shows

status_of : (text : List ℕ) (own : ℕ) (written now : Option (List ℕ)) (status : ℕ) → ShowsWith text own written now status → (status ≡ own) ⊎ (status ≡ 8)
status_of text own written now status (inl shows) = inl shows.0
status_of text own written now status (inr shows) = inr shows.0

pub lacking_status : (written now : Option (List ℕ)) (status : ℕ) → ShowsWith (codes "no memory\n") 6 written now status → (status ≡ 0) ⊎ ((status ≡ 6) ⊎ (status ≡ 8))
lacking_status written now status shows = inr (status_of (codes "no memory\n") 6 written now status shows)

done_status : (status : ℕ) → (status ≡ 0) ⊎ (status ≡ 8) → (status ≡ 0) ⊎ ((status ≡ 6) ⊎ (status ≡ 8))
done_status status (inl is) = inl is
done_status status (inr is) = inr (inr is)

pub load_status : (text : List ℕ) (written now : Option (List ℕ)) (status : ℕ)
    → ShowsWith text 0 written now status ⊎ ShowsWith (codes "no memory\n") 6 written now status → (status ≡ 0) ⊎ ((status ≡ 6) ⊎ (status ≡ 8))
load_status text written now status (inl shows) = done_status status (status_of text 0 written now status shows)
load_status text written now status (inr shows) = lacking_status written now status shows
