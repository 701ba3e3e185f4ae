-- A connection over a desk is also one over a view of the desk.
use Rattle.std.proofs.Common.{◌≡◌, inl, inr, ℕ, List, [], ◌∷◌, ◌++◌, map, ap, ◌∙◌}
use Rattle.std.specs.Prelude.{Some}
use Rattle.hk_base.specs.declared.ended.Ended.{Ended}
use Rattle.hk_serve.specs.Ends.{Ends}
use Rattle.hk_serve.specs.Exchanges.{AsksInOrder, Exchange, Leaves, NoCall, Replied, RequestOutcome, Stand, WentOn, bytes_in}
use Rattle.hk_serve.specs.Served.{AreRequestsOf, Served, last_request}
use Rattle.hk_serve.specs.Transactions.{Answering, Transaction}

-- each answer is an answer in the view
abbrev pub Shows : {D V : Type 0} → (D → V) → Answering D → Answering V → Type 0
Shows {D} view answers happens = (old new : D) (user : List ℕ) (done : Transaction) → answers old user done new → happens (view old) user done (view new)

abbrev pub seen : {D V : Type 0} → (D → V) → Stand D → Stand V
seen view stand = record { ahead = stand.ahead; desk = view stand.desk; written = stand.written }

leaves_seen : {D V : Type 0} (view : D → V) (answers : Answering D) (happens : Answering V) → Shows view answers happens → (old new : D) (outcome : RequestOutcome) → Leaves answers old outcome new → Leaves happens (view old) outcome (view new)
leaves_seen view answers happens shows old new (Replied user done) leaves = shows old new user done leaves
leaves_seen view answers happens shows old new (NoCall fault) leaves = ap view leaves

asks_seen : {D V : Type 0} (view : D → V) (answers : Answering D) (happens : Answering V) → Shows view answers happens → (exchanges : List Exchange) (old new : D) → AsksInOrder answers old exchanges new → AsksInOrder happens (view old) exchanges (view new)
asks_seen view answers happens shows [] old new same = ap view same
asks_seen view answers happens shows (exchange ∷ more) old new asks = (view asks.0, (leaves_seen view answers happens shows old asks.0 exchange.outcome asks.1.0, asks_seen view answers happens shows more asks.0 new asks.1.1))

went_on_seen : {D V : Type 0} (view : D → V) (answers : Answering D) (happens : Answering V) → Shows view answers happens → (exchanges : List Exchange) (old new : Stand D) → WentOn answers old exchanges new → WentOn happens (seen view old) exchanges (seen view new)
went_on_seen view answers happens shows exchanges old new went = record {
  read = went.read;
  come = went.come;
  asked = asks_seen view answers happens shows exchanges old.desk new.desk went.asked;
  wrote = went.wrote;
  kept = went.kept;
  few = went.few;
}

ended_seen : {D V : Type 0} (view : D → V) (answers : Answering D) (happens : Answering V) → Shows view answers happens
    → (old here new : Stand D) (how : Ended) (exchanges : List Exchange) → WentOn answers old exchanges here → (ends : Ends answers (bytes_in exchanges) here new how)
    → ((all : List ℕ) → old.ahead ≡ Some all → AreRequestsOf all (map (λ (exchange : Exchange). exchange.request) exchanges ++ last_request ends) how)
    → Served happens (seen view old) (seen view new) how
ended_seen view answers happens shows old here new how exchanges went (inl behind) requests = record {
  exchanges = exchanges;
  here = seen view here;
  went_on = went_on_seen view answers happens shows exchanges old here went;
  ends = inl (record {
    last = behind.last;
    takes = behind.takes;
    comes = behind.comes;
    leaves = leaves_seen view answers happens shows here.desk new.desk behind.last.outcome behind.leaves;
    ends = behind.ends;
  });
  requests = requests;
}
ended_seen view answers happens shows old here new how exchanges went (inr there) requests = record {
  exchanges = exchanges;
  here = seen view here;
  went_on = went_on_seen view answers happens shows exchanges old here went;
  ends = inr (record { fault = there.fault; stops = there.stops; unasked = ap view there.unasked; ends = there.ends });
  requests = requests;
}

pub served_seen : {D V : Type 0} (view : D → V) (answers : Answering D) (happens : Answering V) → Shows view answers happens → (old new : Stand D) (how : Ended) → Served answers old new how → Served happens (seen view old) (seen view new) how
served_seen view answers happens shows old new how served =
    ended_seen view answers happens shows old served.here new how served.exchanges served.went_on served.ends served.requests

-- ---- what no answer changes

abbrev pub Keeps : {D X : Type 0} → (D → X) → Answering D → Type 0
Keeps {D} part answers = (old new : D) (user : List ℕ) (done : Transaction) → answers old user done new → part new ≡ part old

leaves_kept : {D X : Type 0} (part : D → X) (answers : Answering D) → Keeps part answers → (old new : D) (outcome : RequestOutcome) → Leaves answers old outcome new → part new ≡ part old
leaves_kept part answers keeps old new (Replied user done) leaves = keeps old new user done leaves
leaves_kept part answers keeps old new (NoCall fault) leaves = ap part leaves

asks_kept : {D X : Type 0} (part : D → X) (answers : Answering D) → Keeps part answers → (exchanges : List Exchange) (old new : D) → AsksInOrder answers old exchanges new → part new ≡ part old
asks_kept part answers keeps [] old new same = ap part same
asks_kept part answers keeps (exchange ∷ more) old new asks = asks_kept part answers keeps more asks.0 new asks.1.1 ∙ leaves_kept part answers keeps old asks.0 exchange.outcome asks.1.0

ends_kept : {D X : Type 0} (part : D → X) (answers : Answering D) → Keeps part answers → (bytes : ℕ) (old new : Stand D) (how : Ended) → Ends answers bytes old new how → part new.desk ≡ part old.desk
ends_kept part answers keeps bytes old new how (inl behind) = leaves_kept part answers keeps old.desk new.desk behind.last.outcome behind.leaves
ends_kept part answers keeps bytes old new how (inr there) = ap part there.unasked

pub served_kept : {D X : Type 0} (part : D → X) (answers : Answering D) → Keeps part answers → (old new : Stand D) (how : Ended) → Served answers old new how → part new.desk ≡ part old.desk
served_kept part answers keeps old new how served =
    ends_kept part answers keeps (bytes_in served.exchanges) served.here new how served.ends
    ∙ asks_kept part answers keeps served.exchanges old.desk served.here.desk served.went_on.asked
