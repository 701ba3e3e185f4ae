-- What is hidden of earlier runs after an event that enters nothing: more words are drawn.
use Rattle.std.proofs.Common.{◌≡◌, ℕ, ◌+◌, refl}
use Rattle.eek_seal.specs.declared.deposit.Deposit.TheVariants.{Full, Kept, Stale}
use Rattle.hk_events.specs.declared.event.Event.TheVariants as event
use Rattle.hk_events.specs.declared.event.Line.{Line}
use Rattle.hk_events.specs.declared.event.Line.TheVariants as line
use Rattle.world_run.specs.Ledger.{Hidden, Past, hidden_after, past_of}
use Rattle.world_run.specs.World.{WorldState}

abbrev pub later_past : ℕ → Hidden → Past
later_past drawn h = record (past_of h) { place = h.place + drawn }

module _ (w : WorldState) (words : ℕ → ℕ) (h : Hidden) (number drawn : ℕ) (w' : WorldState) where
  -- a draw
  pub draw-past : (outcome : Line) → past_of (hidden_after w words (event.Draw number) outcome drawn w' h) ≡ later_past drawn h
  draw-past (line.Kms reply) = refl
  draw-past (line.Ticket n version wanted) = refl
  draw-past line.NoTicket = refl
  draw-past (line.Deposit answer) = refl
  draw-past (line.Opened opening) = refl
  draw-past (line.Name reply) = refl
  draw-past (line.Asked n note) = refl
  draw-past (line.Replied n reply) = refl
  draw-past (line.Batch n files) = refl
  draw-past (line.NoneLeft outstanding) = refl
  draw-past line.Completed = refl
  draw-past (line.Delivered answer) = refl
  draw-past (line.Refused why) = refl
  draw-past line.Unknown = refl

  -- a deposit
  pub deposit-past : (outcome : Line) → past_of (hidden_after w words (event.Deposit number) outcome drawn w' h) ≡ later_past drawn h
  deposit-past (line.Kms reply) = refl
  deposit-past (line.Ticket n version wanted) = refl
  deposit-past line.NoTicket = refl
  deposit-past (line.Deposit Kept) = refl
  deposit-past (line.Deposit Full) = refl
  deposit-past (line.Deposit (Stale opening birth version)) = refl
  deposit-past (line.Opened opening) = refl
  deposit-past (line.Name reply) = refl
  deposit-past (line.Asked n note) = refl
  deposit-past (line.Replied n reply) = refl
  deposit-past (line.Batch n files) = refl
  deposit-past (line.NoneLeft outstanding) = refl
  deposit-past line.Completed = refl
  deposit-past (line.Delivered answer) = refl
  deposit-past (line.Refused why) = refl
  deposit-past line.Unknown = refl

  -- a batch that is served
  pub serve-past : (outcome : Line) → past_of (hidden_after w words (event.Serve number) outcome drawn w' h) ≡ later_past drawn h
  serve-past (line.Kms reply) = refl
  serve-past (line.Ticket n version wanted) = refl
  serve-past line.NoTicket = refl
  serve-past (line.Deposit answer) = refl
  serve-past (line.Opened opening) = refl
  serve-past (line.Name reply) = refl
  serve-past (line.Asked n note) = refl
  serve-past (line.Replied n reply) = refl
  serve-past (line.Batch n files) = refl
  serve-past (line.NoneLeft outstanding) = refl
  serve-past line.Completed = refl
  serve-past (line.Delivered answer) = refl
  serve-past (line.Refused why) = refl
  serve-past line.Unknown = refl
