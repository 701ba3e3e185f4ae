-- A connection, one request at a time.
use Rattle.std.proofs.Common.{◌≡◌, inl, ℕ, ◌+◌, List, [], ◌∷◌, ◌++◌, arith, refl, sym, ap, ◌∙◌, subst, append-nil}
use Rattle.std.specs.Prelude.{Option, None, Some}
use Rattle.std.specs.Io.KnownBytes.{Appends}
use Rattle.std.specs.List.{AllByRecursion}
use Rattle.std.proofs.KnownBytes.{Appends-nil, Appends-trans}
use Rattle.std.proofs.lemmas.Grind.{flat_map-append}
use Rattle.std.proofs.lemmas.List.Sums.{sum_by-append}
use Rattle.http_wire.specs.Message.{Message}
use Rattle.http_wire.specs.Reading.{ahead}
use Rattle.http_wire.specs.Requests.{TakesRequest}
use Rattle.hk_base.specs.declared.ended.Ended.{Ended}
use Rattle.hk_serve.specs.Ends.{Ends}
use Rattle.hk_serve.specs.Exchanges.{AsksInOrder, Exchange, Leaves, ReadsInOrder, Stand, WentOn, bytes_in, response_of, responses_of}
use Rattle.hk_serve.specs.Served.{Served}
use Rattle.hk_serve.specs.Transactions.{Answering}
use Rattle.hk_serve.specs.Turns.{Answered, TurnGoesOn, Turns}
use Rattle.hk_serve.proofs.RequestLemmas.{requests_answered}

-- what is known between two requests
pub record SoFar {D : Type 0} (answers : Answering D) (old now : Stand D) (bytes : ℕ) : Type 0 where
  pub exchanges : List Exchange
  pub went_on : WentOn answers old exchanges now
  pub counted : bytes_in exchanges ≡ bytes

all_more : (P : Exchange → Type 0) (exchanges : List Exchange) (last : Exchange) → AllByRecursion P exchanges → P last → AllByRecursion P (exchanges ++ last ∷ [])
all_more P [] last all here = (here, tt)
all_more P (exchange ∷ more) last all here = (all.0, all_more P more last all.1 here)

reads_more : (old mid new : Option (List ℕ)) (exchanges : List Exchange) (last : Exchange) → ReadsInOrder old exchanges mid → TakesRequest mid new last.request → ReadsInOrder old (exchanges ++ last ∷ []) new
reads_more old mid new [] last same takes = (new, (subst (λ (o : Option (List ℕ)). TakesRequest o new last.request) same takes, refl))
reads_more old mid new (exchange ∷ more) last reads takes = (reads.0, (reads.1.0, reads_more reads.0 mid new more last reads.1.1 takes))

asks_more : {D : Type 0} (answers : Answering D) (old mid new : D) (exchanges : List Exchange) (last : Exchange) → AsksInOrder answers old exchanges mid → Leaves answers mid last.outcome new → AsksInOrder answers old (exchanges ++ last ∷ []) new
asks_more {D} answers old mid new [] last same leaves = (new, (subst (λ (d : D). Leaves answers d last.outcome new) same leaves, refl))
asks_more answers old mid new (exchange ∷ more) last asks leaves = (asks.0, (asks.1.0, asks_more answers asks.0 mid new more last asks.1.1 leaves))

responses_more : (exchanges : List Exchange) (last : Exchange) → responses_of exchanges ++ response_of last ≡ responses_of (exchanges ++ last ∷ [])
responses_more exchanges last =
    ap (λ (l : List ℕ). responses_of exchanges ++ l) (sym (append-nil (response_of last))) ∙ sym (flat_map-append response_of exchanges (last ∷ []))

bytes_more : (exchanges : List Exchange) (last : Exchange) → bytes_in (exchanges ++ last ∷ []) ≡ bytes_in exchanges + last.request.size
bytes_more exchanges last =
    let f = λ (exchange : Exchange). exchange.request.size in
    omega (arith, sum_by-append f exchanges (last ∷ []))

pub nothing_yet : {D : Type 0} (answers : Answering D) (old : Stand D) → SoFar answers old old 0
nothing_yet answers old = record {
  exchanges = [];
  went_on = record { read = refl; come = tt; asked = refl; wrote = Appends-nil old.written; kept = tt; few = omega arith };
  counted = refl;
}

pub one_more : {D : Type 0} (answers : Answering D) (old now new : Stand D) (bytes bytes' : ℕ) → SoFar answers old now bytes → TurnGoesOn answers bytes bytes' now new → SoFar answers old new bytes'
one_more answers old now new bytes bytes' so_far on =
    let went = so_far.went_on in
    let all = so_far.exchanges in
    let counted : bytes_in (all ++ on.exchange ∷ []) ≡ bytes' = omega (arith, bytes_more all on.exchange, so_far.counted, on.goes_on.1.0) in
    record {
      exchanges = all ++ on.exchange ∷ [];
      went_on = record {
        read = reads_more old.ahead now.ahead new.ahead all on.exchange went.read on.takes;
        come = all_more _ all on.exchange went.come on.comes;
        asked = asks_more answers old.desk now.desk new.desk all on.exchange went.asked on.leaves;
        wrote = subst (Appends old.written new.written) (responses_more all on.exchange) (Appends-trans old.written now.written new.written _ _ went.wrote on.wrote);
        kept = all_more _ all on.exchange went.kept on.goes_on.0;
        few = omega (arith, counted, on.goes_on.1.1);
      };
      counted = counted;
    }

pub served : {D : Type 0} (answers : Answering D) (old now new : Stand D) (bytes : ℕ) (how : Ended) → SoFar answers old now bytes → Ends answers bytes now new how → Served answers old new how
served answers old now new bytes how so_far ends =
    let here = subst (λ (n : ℕ). Ends answers n now new how) (sym so_far.counted) ends in
    record {
      exchanges = so_far.exchanges;
      here = now;
      went_on = so_far.went_on;
      ends = here;
      requests = requests_answered answers (bytes_in so_far.exchanges) so_far.exchanges old now new how here so_far.went_on.read so_far.went_on.kept;
    }

-- a request was read and answered
pub turned : {D : Type 0} (answers : Answering D) (bytes bytes' : ℕ) (old new : Stand D) (request : Message) (result : Option Ended)
    → TakesRequest old.ahead new.ahead request → Answered answers request bytes bytes' old.desk new.desk old.written new.written result → Turns answers bytes bytes' old result new
turned answers bytes bytes' old new request None takes answered = record {
  exchange = record { request = request; outcome = answered.outcome };
  takes = takes;
  comes = answered.comes;
  leaves = answered.leaves;
  goes_on = answered.response.0;
  wrote = answered.response.1;
}
turned answers bytes bytes' old new request (Some how) takes answered = inl (record {
  last = record { request = request; outcome = answered.outcome };
  takes = takes;
  comes = answered.comes;
  leaves = answered.leaves;
  ends = answered.response;
})

nothing_ahead : (buffer : List ℕ) (left : Option (List ℕ)) → buffer ≡ [] → ahead buffer left ≡ left
nothing_ahead buffer None none = refl
nothing_ahead buffer (Some bytes) none = ap (λ (s : List ℕ). Some (s ++ bytes)) none

-- nothing was read before
pub from_start : {D : Type 0} (answers : Answering D) (buffer : List ℕ) (left written : Option (List ℕ)) (desk : D) (new : Stand D) (how : Ended) → buffer ≡ []
    → Served answers (record { ahead = ahead buffer left; desk = desk; written = written }) new how → Served answers (record { ahead = left; desk = desk; written = written }) new how
from_start {D} answers buffer left written desk new how none served =
    subst (λ (o : Option (List ℕ)). Served {D = D} answers (record { ahead = o; desk = desk; written = written }) new how) (nothing_ahead buffer left none) served
