-- A connection over a desk is also one over a second state that changes with the desk.
use Rattle.std.proofs.Common.{◌≡◌, inl, inr, refl, sym, subst, ℕ, List, [], ◌∷◌, ◌++◌, map}
use Rattle.std.specs.Prelude.{Some}
use Rattle.hk_base.specs.declared.ended.Ended.{Ended}
use Rattle.hk_serve.specs.Ends.{Ends}
use Rattle.hk_serve.specs.Exchanges.{AsksInOrder, Exchange, Leaves, NoCall, Replied, RequestOutcome, Stand, WentOn, bytes_in}
use Rattle.hk_serve.specs.Served.{AreRequestsOf, Served, last_request}
use Rattle.hk_serve.specs.Transactions.{Answering, Transaction}

-- each answer of the desk is also one of the second state, and the two are still a pair
abbrev pub Pairs : {D V : Type 0} → (D → V → Type 0) → Answering D → Answering V → Type 0
Pairs {D} {V} pair answers happens = (old new : D) (user : List ℕ) (done : Transaction) (v : V) → pair old v → answers old user done new → (w : V) × happens v user done w × pair new w

-- the second state in the place of the desk
abbrev pub with_desk : {D V : Type 0} → Stand D → V → Stand V
with_desk stand v = record { ahead = stand.ahead; desk = v; written = stand.written }

module _ {D V : Type 0} (pair : D → V → Type 0) (answers : Answering D) (happens : Answering V) (pairs : Pairs pair answers happens) where
  leaves_paired : (old new : D) (outcome : RequestOutcome) (v : V) → pair old v → Leaves answers old outcome new → (w : V) × Leaves happens v outcome w × pair new w
  leaves_paired old new (Replied user done) v here leaves = pairs old new user done v here leaves
  leaves_paired old new (NoCall fault) v here leaves = (v, refl, subst (λ (d : D). pair d v) (sym leaves) here)

  asks_paired : (exchanges : List Exchange) (old new : D) (v : V) → pair old v → AsksInOrder answers old exchanges new → (w : V) × AsksInOrder happens v exchanges w × pair new w
  asks_paired [] old new v here same = (v, refl, subst (λ (d : D). pair d v) (sym same) here)
  asks_paired (exchange ∷ more) old new v here asks =
      let one = leaves_paired old asks.0 exchange.outcome v here asks.1.0 in
      let rest = asks_paired more asks.0 new one.0 one.2 asks.1.1 in
      (rest.0, (one.0, (one.1, rest.1)), rest.2)

  ended_paired : (old here new : Stand D) (how : Ended) (exchanges : List Exchange) (v : V) → pair old.desk v → WentOn answers old exchanges here → (ends : Ends answers (bytes_in exchanges) here new how)
      → ((all : List ℕ) → old.ahead ≡ Some all → AreRequestsOf all (map (λ (exchange : Exchange). exchange.request) exchanges ++ last_request ends) how)
      → (w : V) × Served happens (with_desk old v) (with_desk new w) how × pair new.desk w
  ended_paired old here new how exchanges v first went (inl behind) requests =
      let asks = asks_paired exchanges old.desk here.desk v first went.asked in
      let last = leaves_paired here.desk new.desk behind.last.outcome asks.0 asks.2 behind.leaves in (
        last.0,
        record {
          exchanges = exchanges;
          here = with_desk here asks.0;
          went_on = record { read = went.read; come = went.come; asked = asks.1; wrote = went.wrote; kept = went.kept; few = went.few };
          ends = inl (record { last = behind.last; takes = behind.takes; comes = behind.comes; leaves = last.1; ends = behind.ends });
          requests = requests;
        },
        last.2,
      )
  ended_paired old here new how exchanges v first went (inr there) requests =
      let asks = asks_paired exchanges old.desk here.desk v first went.asked in (
        asks.0,
        record {
          exchanges = exchanges;
          here = with_desk here asks.0;
          went_on = record { read = went.read; come = went.come; asked = asks.1; wrote = went.wrote; kept = went.kept; few = went.few };
          ends = inr (record { fault = there.fault; stops = there.stops; unasked = refl; ends = there.ends });
          requests = requests;
        },
        subst (λ (d : D). pair d asks.0) (sym there.unasked) asks.2,
      )

  pub served_paired : (old new : Stand D) (how : Ended) (v : V) → pair old.desk v → Served answers old new how → (w : V) × Served happens (with_desk old v) (with_desk new w) how × pair new.desk w
  served_paired old new how v first served = ended_paired old served.here new how served.exchanges v first served.went_on served.ends served.requests
