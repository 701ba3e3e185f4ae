-- Only words with a mistake give the status 2.
use Rattle.std.proofs.Common.{◌≡◌, ◌≢◌, inl, inr, ℕ, List, sym, ◌∙◌, arith}
use Rattle.std.specs.Prelude.{Option}
use Rattle.command_io.specs.Ends.{Reports, ShowsWith, status_of}
use Rattle.command_io.specs.declared.ends.ReplayEnd.{ReplayEnd}
use Rattle.command_io.specs.declared.ends.ReplayEnd.TheVariants as ended

pub end_is_no_usage : (how : ReplayEnd) → status_of how ≢ 2
end_is_no_usage ended.Done h = absurd cc
end_is_no_usage (ended.AclRefused number) h = absurd cc
end_is_no_usage (ended.AclRepeated number) h = absurd cc
end_is_no_usage (ended.AclUnknown number) h = absurd cc
end_is_no_usage ended.AclTooLong h = absurd cc
end_is_no_usage ended.BadLine h = absurd cc
end_is_no_usage (ended.DamagedKeys at) h = absurd cc
end_is_no_usage (ended.DamagedNames at) h = absurd cc
end_is_no_usage ended.StoreFault h = absurd cc
end_is_no_usage ended.NoMemory h = absurd cc
end_is_no_usage ended.ReadFault h = absurd cc
end_is_no_usage ended.WriteFault h = absurd cc
end_is_no_usage ended.Spent h = absurd cc

pub status_is_no_usage : (status : ℕ) (how : ReplayEnd) → status ≡ status_of how → status ≢ 2
status_is_no_usage status how is two = end_is_no_usage how (sym is ∙ two)

pub report_is_no_usage : (end : ReplayEnd) (written now : Option (List ℕ)) (status : ℕ) → Reports end written now status → status ≢ 2
report_is_no_usage end written now status r = status_is_no_usage status r.how r.status_is

not_both : (n : ℕ) → n ≡ 8 → n ≡ 2 → ⊥
not_both n eight two = absurd (omega (arith, eight, two))

-- a text with another status is not shown with 2
pub not_shown : (text : List ℕ) (own : ℕ) (written now : Option (List ℕ)) (status : ℕ) → own ≢ 2 → ShowsWith text own written now status → status ≢ 2
not_shown text own written now status other (inl shown) two = other (sym shown.0 ∙ two)
not_shown text own written now status other (inr failed) two = not_both status failed.0 two
