-- The last line of an end.
use Rattle.std.proofs.Common.{◌≡◌, ◌≢◌, inl, inr, ℕ, List, [], codes, refl, sym, subst, append-nil}
use Rattle.std.specs.Prelude.{Option, None, Some}
use Rattle.std.specs.Io.KnownBytes.{Appends}
use Rattle.command_io.specs.Ends.{ShowsWith}
use Rattle.command_io.proofs.UsageLemmas.{not_shown}
use Rattle.file_orders.specs.declared.ends.FsEnd.{FsEnd}
use Rattle.file_orders.specs.declared.ends.FsEnd.TheVariants as end
use Rattle.data_stream.specs.Ends.{ClosesWith, last_line, status_of}

-- the line of this end was shown
pub closes_shown : (how own : FsEnd) → how ≡ own → (text : List ℕ) (written now : Option (List ℕ)) (status : ℕ) → text ≡ last_line own → ShowsWith text (status_of own) written now status → ClosesWith how written now status
closes_shown how own same text written now status is shows =
    record { last = own; last_is = inl (sym same); shows = subst (λ (t : List ℕ). ShowsWith t (status_of own) written now status) is shows }

-- there was no memory for it
pub closes_unmade : (how : FsEnd) (written now : Option (List ℕ)) (status : ℕ) → ShowsWith (codes "no memory\n") 6 written now status → ClosesWith how written now status
closes_unmade how written now status shows = record { last = end.NoMemory; last_is = inr refl; shows = shows }

nothing_more : (written : Option (List ℕ)) → Appends written written []
nothing_more None = tt
nothing_more (Some bytes) = sym (append-nil bytes)

-- it has none
pub closes_silent : (how own : FsEnd) → how ≡ own → (written : Option (List ℕ)) → last_line own ≡ [] → ClosesWith how written written (status_of own)
closes_silent how own same written is = record { last = own; last_is = inl (sym same); shows = inl (refl, subst (λ (t : List ℕ). Appends written written t) (sym is) (nothing_more written)) }

-- no end has the status of refused words
end_is_no_usage : (how : FsEnd) → status_of how ≢ 2
end_is_no_usage (end.Put count) h = absurd cc
end_is_no_usage (end.Read count) h = absurd cc
end_is_no_usage (end.NameRefused why) h = absurd cc
end_is_no_usage (end.KeyRefused why) h = absurd cc
end_is_no_usage end.Directory h = absurd cc
end_is_no_usage end.StoreFault h = absurd cc
end_is_no_usage end.NoMemory h = absurd cc
end_is_no_usage end.ReadFault h = absurd cc
end_is_no_usage end.WriteFault h = absurd cc
end_is_no_usage end.VaultFault h = absurd cc
end_is_no_usage end.TooLong h = absurd cc

pub close_is_no_usage : (how : FsEnd) (written now : Option (List ℕ)) (status : ℕ) → ClosesWith how written now status → status ≢ 2
close_is_no_usage how written now status c = not_shown (last_line c.last) (status_of c.last) written now status (end_is_no_usage c.last) c.shows
