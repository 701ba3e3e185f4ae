-- Which statuses tell of the log of the second namesystem.
use Rattle.std.proofs.Common.{◌≡◌, inl, inr, ⊎_elim, ℕ, List, refl, sym, ◌∙◌, subst}
use Rattle.std.specs.Prelude.{Option, codes}
use Rattle.frame_log.specs.declared.fault.StartFault.{StartFault}
use Rattle.frame_log.specs.declared.fault.StartFault.TheVariants as start
use Rattle.command_io.specs.Ends.{ShowsWith}
use Rattle.data_stream.proofs.StatusLemmas.{Either}
use Rattle.copy_reads.specs.Commands.{ReportsCopies, copies_line, copies_status}

-- the line of this fault was shown
pub reports_shown : (fault own : StartFault) → fault ≡ own → (text : List ℕ) (written now : Option (List ℕ)) (status : ℕ) → text ≡ copies_line own → ShowsWith text (copies_status own) written now status → ReportsCopies fault written now status
reports_shown fault own same text written now status is shows =
    record { last = own; last_is = inl (sym same); shows = subst (λ (t : List ℕ). ShowsWith t (copies_status own) written now status) is shows }

-- there was no memory for it
pub reports_unmade : (fault : StartFault) (written now : Option (List ℕ)) (status : ℕ) → ShowsWith (codes "no memory\n") 6 written now status → ReportsCopies fault written now status
reports_unmade fault written now status shows = record { last = start.NoMemory; last_is = inr refl; shows = shows }

pub copies_either : (fault : StartFault) (written now : Option (List ℕ)) (status : ℕ) → ReportsCopies fault written now status → Either (copies_status fault) status
copies_either fault written now status r =
    ⊎_elim
    (λ shown. ⊎_elim
    (λ same. inl (shown.0 ∙ (λ i. copies_status (same i))))
    (λ none. inr (inl (shown.0 ∙ (λ i. copies_status (none i)))))
    r.last_is)
    (λ cut. inr (inr cut.0))
    r.shows

reads_not : (fault : StartFault) → copies_status fault ≡ 7 → ⊥
reads_not (start.Damaged at) h = cc
reads_not start.StoreFault h = cc
reads_not start.NoMemory h = cc
reads_not start.Spent h = cc

vault_not : (fault : StartFault) → copies_status fault ≡ 12 → ⊥
vault_not (start.Damaged at) h = cc
vault_not start.StoreFault h = cc
vault_not start.NoMemory h = cc
vault_not start.Spent h = cc

long_not : (fault : StartFault) → copies_status fault ≡ 13 → ⊥
long_not (start.Damaged at) h = cc
long_not start.StoreFault h = cc
long_not start.NoMemory h = cc
long_not start.Spent h = cc

store_is : (fault : StartFault) → copies_status fault ≡ 5 → fault ≡ start.StoreFault
store_is (start.Damaged at) h = absurd cc
store_is start.StoreFault h = refl
store_is start.NoMemory h = absurd cc
store_is start.Spent h = absurd cc

pub by_either : (own n status : ℕ) → (6 ≡ n → ⊥) → (8 ≡ n → ⊥) → Either own status → status ≡ n → own ≡ n
by_either own n status six eight (inl is) same = sym is ∙ same
by_either own n status six eight (inr (inl is)) same = absurd (six (sym is ∙ same))
by_either own n status six eight (inr (inr is)) same = absurd (eight (sym is ∙ same))

pub copies_read : (fault : StartFault) (written now : Option (List ℕ)) (status : ℕ) → ReportsCopies fault written now status → status ≡ 7 → ⊥
copies_read fault written now status r is = reads_not fault (by_either (copies_status fault) 7 status (λ h. cc) (λ h. cc) (copies_either fault written now status r) is)

pub copies_vault : (fault : StartFault) (written now : Option (List ℕ)) (status : ℕ) → ReportsCopies fault written now status → status ≡ 12 → ⊥
copies_vault fault written now status r is = vault_not fault (by_either (copies_status fault) 12 status (λ h. cc) (λ h. cc) (copies_either fault written now status r) is)

pub copies_long : (fault : StartFault) (written now : Option (List ℕ)) (status : ℕ) → ReportsCopies fault written now status → status ≡ 13 → ⊥
copies_long fault written now status r is = long_not fault (by_either (copies_status fault) 13 status (λ h. cc) (λ h. cc) (copies_either fault written now status r) is)

pub copies_store : (fault : StartFault) (written now : Option (List ℕ)) (status : ℕ) → ReportsCopies fault written now status → status ≡ 5 → fault ≡ start.StoreFault
copies_store fault written now status r is = store_is fault (by_either (copies_status fault) 5 status (λ h. cc) (λ h. cc) (copies_either fault written now status r) is)
