-- Whatever happens here, happens also where it is followed.
use Rattle.std.proofs.Common.{◌≡◌, inl, inr, ℕ, List, refl, sym, subst}
use Rattle.std.specs.Prelude.{Option, Some, None, Result, Ok, Err}
use Rattle.hk_base.specs.declared.names.Dek.{Dek}
use Rattle.hk_base.specs.declared.names.Edek.{Edek}
use Rattle.hk_events.specs.declared.event.Event.{Event}
use Rattle.hk_events.specs.declared.event.Line.{Line}
use Rattle.body_stream.specs.Vaults.{VaultState}
use Rattle.file_orders.specs.Bodies.{Puts, PutsUnless, ReadsRange}
use Rattle.file_orders.specs.Events.{Leading}
use Rattle.file_orders.specs.Opening.{CreatesFile, Decrypts, Draws, FinishesCreate, OpensEdek, OpensFile, OpensShown, asked_in, replied_in, shown_in}
use Rattle.file_orders.specs.declared.ends.FsEnd.{FsEnd}
use Rattle.file_orders.specs.declared.open.OpenFile.{OpenFile}
use Rattle.file_orders.specs.declared.open.ShownFile.{ShownFile}

-- wherever an event leads here, it leads to a place there that follows
abbrev pub Follows : {X Y : Type 0} → Leading X → Leading Y → (X → Y → Type 0) → Type 0
Follows {X} {Y} leads others R = (a b : X) (y : Y) (e : Event) (answer : Line) → R a y → leads a e answer b → (z : Y) × (others y e answer z × R b z)

-- there is a place that follows, of which P holds
pub record FollowsTo {X Y : Type 0} (R : X → Y → Type 0) (b : X) (P : Y → Type 0) : Type 0 where
  pub then : Y
  pub did : P then
  pub follows : R b then

module _ {X Y : Type 0} (leads : Leading X) (others : Leading Y) (R : X → Y → Type 0) (follow : Follows leads others R) where
  stays : (a b : X) (y : Y) → R a y → b ≡ a → R b y
  stays a b y r same = subst (λ (x : X). R x y) (sym same) r

  finishes_so : (replied : Result ℕ FsEnd) (a b : X) (y : Y) (result : Option FsEnd) → R a y → FinishesCreate leads replied a result b → FollowsTo R b (λ then. FinishesCreate others replied y result then)
  finishes_so (Err why) a b y result r (is, same) = record { then = y; did = (is, refl); follows = stays a b y r same }
  finishes_so (Ok number) a b y result r (answer, led, is) =
      let one = follow a b y _ answer r led in
      record { then = one.0; did = (answer, one.1.0, is); follows = one.1.1 }

  draws_so : (asked : Result ℕ FsEnd) (a b : X) (y : Y) (result : Option FsEnd) → R a y → Draws leads asked a result b → FollowsTo R b (λ then. Draws others asked y result then)
  draws_so (Err why) a b y result r (is, same) = record { then = y; did = (is, refl); follows = stays a b y r same }
  draws_so (Ok number) a b y result r (answer, mid, led, more) =
      let one = follow a mid y _ answer r led in
      let two = finishes_so (replied_in answer) mid b one.0 result one.1.1 more in
      record { then = two.then; did = (answer, one.0, one.1.0, two.did); follows = two.follows }

  makes_so : (user path : List ℕ) (a b : X) (y : Y) (result : Option FsEnd) → R a y → CreatesFile leads user path a result b → FollowsTo R b (λ then. CreatesFile others user path y result then)
  makes_so user path a b y result r (inl (answer, mid, led, more)) =
      let one = follow a mid y _ answer r led in
      let two = draws_so (asked_in answer) mid b one.0 result one.1.1 more in
      record { then = two.then; did = inl (answer, one.0, one.1.0, two.did); follows = two.follows }
  makes_so user path a b y result r (inr (none, same)) = record { then = y; did = inr (none, refl); follows = stays a b y r same }

  decrypts_so : (user : List ℕ) (edek : Edek) (a b : X) (y : Y) (result : Result Dek FsEnd) → R a y → Decrypts leads user edek a result b → FollowsTo R b (λ then. Decrypts others user edek y result then)
  decrypts_so user edek a b y result r (inl (answer, led, is)) =
      let one = follow a b y _ answer r led in
      record { then = one.0; did = inl (answer, one.1.0, is); follows = one.1.1 }
  decrypts_so user edek a b y result r (inr (none, same)) = record { then = y; did = inr (none, refl); follows = stays a b y r same }

  opens_edek_so : (user : List ℕ) (id : ℕ) (edek : Option Edek) (a b : X) (y : Y) (result : Result OpenFile FsEnd) → R a y → OpensEdek leads user id edek a result b → FollowsTo R b (λ then. OpensEdek others user id edek y result then)
  opens_edek_so user id None a b y result r (is, same) = record { then = y; did = (is, refl); follows = stays a b y r same }
  opens_edek_so user id (Some edek) a b y result r (dek, decrypts, is) =
      let one = decrypts_so user edek a b y dek r decrypts in
      record { then = one.then; did = (dek, one.did, is); follows = one.follows }

  pub opens_shown_so : (user : List ℕ) (shown : Result ShownFile FsEnd) (a b : X) (y : Y) (result : Result OpenFile FsEnd) → R a y → OpensShown leads user shown a result b → FollowsTo R b (λ then. OpensShown others user shown y result then)
  opens_shown_so user (Err why) a b y result r (is, same) = record { then = y; did = (is, refl); follows = stays a b y r same }
  opens_shown_so user (Ok shown) a b y result r opens = opens_edek_so user shown.id shown.edek a b y result r opens

  opens_so : (user path : List ℕ) (a b : X) (y : Y) (result : Result OpenFile FsEnd) → R a y → OpensFile leads user path a result b → FollowsTo R b (λ then. OpensFile others user path y result then)
  opens_so user path a b y result r (inl (answer, mid, led, more)) =
      let one = follow a mid y _ answer r led in
      let two = opens_shown_so user (shown_in answer) mid b one.0 result one.1.1 more in
      record { then = two.then; did = inl (answer, one.0, one.1.0, two.did); follows = two.follows }
  opens_so user path a b y result r (inr (none, same)) = record { then = y; did = inr (none, refl); follows = stays a b y r same }

  unless_so : (why : Option FsEnd) (user path : List ℕ) (a b : X) (y : Y) (how : FsEnd) (left left' : Option (List ℕ)) (old new : VaultState) → R a y
      → PutsUnless why leads user path a how b left left' old new → FollowsTo R b (λ then. PutsUnless why others user path y how then left left' old new)
  unless_so (Some why) user path a b y how left left' old new r (is, same, untouched) = record { then = y; did = (is, refl, untouched); follows = stays a b y r same }
  unless_so None user path a b y how left left' old new r (opened, opens, stores) =
      let one = opens_so user path a b y opened r opens in
      record { then = one.then; did = (opened, one.did, stores); follows = one.follows }

  pub puts_so : (user path : List ℕ) (a b : X) (y : Y) (how : FsEnd) (left left' : Option (List ℕ)) (old new : VaultState) → R a y → Puts leads user path a how b left left' old new
      → FollowsTo R b (λ then. Puts others user path y how then left left' old new)
  puts_so user path a b y how left left' old new r p =
      let one = makes_so user path a p.mid y p.made r p.makes in
      let two = unless_so p.made user path p.mid b one.then how left left' old new one.follows p.puts in
      record { then = two.then; did = record { mid = one.then; made = p.made; makes = one.did; puts = two.did }; follows = two.follows }

  pub reads_so : (user path : List ℕ) (from count : ℕ) (a b : X) (y : Y) (how : FsEnd) (old new : VaultState) (written now : Option (List ℕ)) → R a y → ReadsRange leads user path from count a how b old new written now
      → FollowsTo R b (λ then. ReadsRange others user path from count y how then old new written now)
  reads_so user path from count a b y how old new written now r d =
      let one = opens_so user path a b y d.opened r d.opens in
      record { then = one.then; did = record { opened = d.opened; opens = one.did; sends = d.sends }; follows = one.follows }
