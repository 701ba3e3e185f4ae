-- Which end a status tells of.
use Rattle.std.proofs.Common.{◌≡◌, ◌⊎◌, ◌≤◌, ◌+◌, ◌-◌, ◌^◌, min, inl, inr, ⊎_elim, ℕ, zero, suc, List, refl, sym, ◌∙◌, subst, arith}
use Rattle.std.specs.Prelude.{Option}
use Rattle.std.proofs.lemmas.Bool.Decides.{nat_tests}
use Rattle.hk_base.specs.Faults.{Rose}
use Rattle.frame_log.specs.declared.fault.StartFault.{StartFault}
use Rattle.frame_log.specs.declared.fault.StartFault.TheVariants as start
use Rattle.prop_text.specs.declared.faults.PropFault.TheVariants as prop
use Rattle.command_io.specs.Ends.{Reports, ended_by, ended_by_props, status_of as replay_status}
use Rattle.command_io.specs.declared.ends.ReplayEnd.{ReplayEnd}
use Rattle.command_io.specs.declared.ends.ReplayEnd.TheVariants as ended
use Rattle.command_io.specs.declared.props.PropsFault.{PropsFault}
use Rattle.command_io.specs.declared.props.PropsFault.TheVariants as props
use Rattle.file_orders.specs.declared.ends.FsEnd.{FsEnd}
use Rattle.file_orders.specs.declared.ends.FsEnd.TheVariants as end
use Rattle.data_stream.specs.Ends.{ClosesWith, status_of}

-- ---- the ends of a command over a file

is_read : (how : FsEnd) → status_of how ≡ 7 → how ≡ end.ReadFault
is_read (end.Put count) h = absurd cc
is_read (end.Read count) h = absurd cc
is_read (end.NameRefused why) h = absurd cc
is_read (end.KeyRefused why) h = absurd cc
is_read end.Directory h = absurd cc
is_read end.StoreFault h = absurd cc
is_read end.NoMemory h = absurd cc
is_read end.ReadFault h = refl
is_read end.WriteFault h = absurd cc
is_read end.VaultFault h = absurd cc
is_read end.TooLong h = absurd cc

is_vault : (how : FsEnd) → status_of how ≡ 12 → how ≡ end.VaultFault
is_vault (end.Put count) h = absurd cc
is_vault (end.Read count) h = absurd cc
is_vault (end.NameRefused why) h = absurd cc
is_vault (end.KeyRefused why) h = absurd cc
is_vault end.Directory h = absurd cc
is_vault end.StoreFault h = absurd cc
is_vault end.NoMemory h = absurd cc
is_vault end.ReadFault h = absurd cc
is_vault end.WriteFault h = absurd cc
is_vault end.VaultFault h = refl
is_vault end.TooLong h = absurd cc

is_long : (how : FsEnd) → status_of how ≡ 13 → how ≡ end.TooLong
is_long (end.Put count) h = absurd cc
is_long (end.Read count) h = absurd cc
is_long (end.NameRefused why) h = absurd cc
is_long (end.KeyRefused why) h = absurd cc
is_long end.Directory h = absurd cc
is_long end.StoreFault h = absurd cc
is_long end.NoMemory h = absurd cc
is_long end.ReadFault h = absurd cc
is_long end.WriteFault h = absurd cc
is_long end.VaultFault h = absurd cc
is_long end.TooLong h = refl

closed_by : (own : FsEnd) (n : ℕ) → ((how : FsEnd) → status_of how ≡ n → how ≡ own) → (n ≡ 8 → ⊥) → (end.NoMemory ≡ own → ⊥) → (how : FsEnd) (written now : Option (List ℕ)) (status : ℕ) → ClosesWith how written now status → status ≡ n → how ≡ own
closed_by own n of failed memory how written now status c is = ⊎_elim
    (λ shown. ⊎_elim (λ same. sym same ∙ of c.last (sym shown.0 ∙ is)) (λ none. absurd (memory (sym none ∙ of c.last (sym shown.0 ∙ is)))) c.last_is)
    (λ cut. absurd (failed (sym is ∙ cut.0))) c.shows

pub closed_read : (how : FsEnd) (written now : Option (List ℕ)) (status : ℕ) → ClosesWith how written now status → status ≡ 7 → how ≡ end.ReadFault
closed_read how written now status c is = closed_by end.ReadFault 7 is_read (λ h. absurd cc) (λ h. cc) how written now status c is

pub closed_vault : (how : FsEnd) (written now : Option (List ℕ)) (status : ℕ) → ClosesWith how written now status → status ≡ 12 → how ≡ end.VaultFault
closed_vault how written now status c is = closed_by end.VaultFault 12 is_vault (λ h. absurd cc) (λ h. cc) how written now status c is

pub closed_long : (how : FsEnd) (written now : Option (List ℕ)) (status : ℕ) → ClosesWith how written now status → status ≡ 13 → how ≡ end.TooLong
closed_long how written now status c is = closed_by end.TooLong 13 is_long (λ h. absurd cc) (λ h. cc) how written now status c is

-- ---- the ends before it

reads : (how : ReplayEnd) → replay_status how ≡ 7 → how ≡ ended.ReadFault
reads ended.Done h = absurd cc
reads (ended.AclRefused number) h = absurd cc
reads (ended.AclRepeated number) h = absurd cc
reads (ended.AclUnknown number) h = absurd cc
reads ended.AclTooLong h = absurd cc
reads ended.BadLine h = absurd cc
reads (ended.DamagedKeys at) h = absurd cc
reads (ended.DamagedNames at) h = absurd cc
reads ended.StoreFault h = absurd cc
reads ended.NoMemory h = absurd cc
reads ended.ReadFault h = refl
reads ended.WriteFault h = absurd cc
reads ended.Spent h = absurd cc

no_vault : (how : ReplayEnd) → replay_status how ≡ 12 → ⊥
no_vault ended.Done h = absurd cc
no_vault (ended.AclRefused number) h = absurd cc
no_vault (ended.AclRepeated number) h = absurd cc
no_vault (ended.AclUnknown number) h = absurd cc
no_vault ended.AclTooLong h = absurd cc
no_vault ended.BadLine h = absurd cc
no_vault (ended.DamagedKeys at) h = absurd cc
no_vault (ended.DamagedNames at) h = absurd cc
no_vault ended.StoreFault h = absurd cc
no_vault ended.NoMemory h = absurd cc
no_vault ended.ReadFault h = absurd cc
no_vault ended.WriteFault h = absurd cc
no_vault ended.Spent h = absurd cc

no_long : (how : ReplayEnd) → replay_status how ≡ 13 → ⊥
no_long ended.Done h = absurd cc
no_long (ended.AclRefused number) h = absurd cc
no_long (ended.AclRepeated number) h = absurd cc
no_long (ended.AclUnknown number) h = absurd cc
no_long ended.AclTooLong h = absurd cc
no_long ended.BadLine h = absurd cc
no_long (ended.DamagedKeys at) h = absurd cc
no_long (ended.DamagedNames at) h = absurd cc
no_long ended.StoreFault h = absurd cc
no_long ended.NoMemory h = absurd cc
no_long ended.ReadFault h = absurd cc
no_long ended.WriteFault h = absurd cc
no_long ended.Spent h = absurd cc

pub reported_vault : (how : ReplayEnd) (written now : Option (List ℕ)) (status : ℕ) → Reports how written now status → status ≡ 12 → ⊥
reported_vault how written now status r is = no_vault r.how (sym r.status_is ∙ is)

pub reported_long : (how : ReplayEnd) (written now : Option (List ℕ)) (status : ℕ) → Reports how written now status → status ≡ 13 → ⊥
reported_long how written now status r is = no_long r.how (sym r.status_is ∙ is)

pub reported_read : (how : ReplayEnd) (written now : Option (List ℕ)) (status : ℕ) → Reports how written now status → status ≡ 7 → how ≡ ended.ReadFault
reported_read how written now status r is =
    let own = reads r.how (sym r.status_is ∙ is) in
    ⊎_elim
    (λ wrote. ⊎_elim (λ same. sym same ∙ sym wrote.0 ∙ own) (λ none. let bad : ended.NoMemory ≡ ended.ReadFault = sym none ∙ sym wrote.0 ∙ own in absurd cc) r.closes.last_is)
    (λ cut. let bad : ended.WriteFault ≡ ended.ReadFault = sym cut.0 ∙ own in absurd cc) r.closes.writes

pub props_read : (fault : PropsFault) → ended_by_props fault ≡ ended.ReadFault → fault ≡ props.ReadFault
props_read props.ReadFault h = refl
props_read (props.TextFault (prop.BadLine number)) h = absurd cc
props_read (props.TextFault (prop.Repeated number)) h = absurd cc
props_read (props.TextFault (prop.UnknownName number)) h = absurd cc
props_read (props.TextFault prop.TooLong) h = absurd cc
props_read (props.TextFault prop.NoMemory) h = absurd cc

pub props_write : (fault : PropsFault) → ended_by_props fault ≡ ended.WriteFault → ⊥
props_write props.ReadFault h = absurd cc
props_write (props.TextFault (prop.BadLine number)) h = absurd cc
props_write (props.TextFault (prop.Repeated number)) h = absurd cc
props_write (props.TextFault (prop.UnknownName number)) h = absurd cc
props_write (props.TextFault prop.TooLong) h = absurd cc
props_write (props.TextFault prop.NoMemory) h = absurd cc

pub opening_read : (file : ℕ) (fault : StartFault) → ended_by file fault ≡ ended.ReadFault → ⊥
opening_read zero (start.Damaged at) h = absurd cc
opening_read (suc file) (start.Damaged at) h = absurd cc
opening_read file start.StoreFault h = absurd cc
opening_read file start.NoMemory h = absurd cc
opening_read file start.Spent h = absurd cc

pub opening_write : (file : ℕ) (fault : StartFault) → ended_by file fault ≡ ended.WriteFault → ⊥
opening_write zero (start.Damaged at) h = absurd cc
opening_write (suc file) (start.Damaged at) h = absurd cc
opening_write file start.StoreFault h = absurd cc
opening_write file start.NoMemory h = absurd cc
opening_write file start.Spent h = absurd cc

-- ---- counts of faults

-- a fault of the output counts, that of the range as well as that of the last line
pub counted : (old mid new : ℕ) → old ≤ mid → (Rose old mid × (new ≡ mid)) ⊎ Rose mid new → Rose old new
counted old mid new later (inl (rose, same)) = subst (Rose old) (sym same) rose
counted old mid new later (inr rose) = grown (old + 1) (mid + 1) (2 ^ 64 - 1) new (omega (arith, later)) rose
  where
    grown : (a b most n : ℕ) → a ≤ b → min b most ≤ n → min a most ≤ n
    grown a b most n le h = grind (arith, nat_tests)
