-- A connection that one desk served was served so by another desk that follows it.
use Rattle.std.proofs.Common.{◌≡◌, inl, inr, ℕ, List, [], ◌∷◌, ◌++◌, map, refl, subst, sym}
use Rattle.std.specs.Prelude.{Some}
use Rattle.hk_base.specs.declared.ended.Ended.{Ended}
use Rattle.hk_serve.specs.Ends.{Ends}
use Rattle.hk_serve.specs.Exchanges.{AsksInOrder, Exchange, Leaves, NoCall, Replied, RequestOutcome, Stand, WentOn, bytes_in}
use Rattle.hk_serve.specs.Served.{AreRequestsOf, Served, last_request}
use Rattle.hk_serve.specs.Transactions.{Answering, Transaction}

-- whatever the first desk answers, the second one answers too, and follows on
abbrev pub Follows : {D E : Type 0} → Answering D → Answering E → (D → E → Type 0) → Type 0
Follows {D} {E} answers others R =
    (d : D) (e : E) (user : List ℕ) (done : Transaction) (next : D) → R d e → answers d user done next
    → (then : E) × (others e user done then × R next then)

-- the state of a connection, with another desk
abbrev pub beside : {D E : Type 0} → Stand D → E → Stand E
beside stand e = record { ahead = stand.ahead; desk = e; written = stand.written }

leaves_so : {D E : Type 0} (answers : Answering D) (others : Answering E) (R : D → E → Type 0) → Follows answers others R
    → (d : D) (e : E) (outcome : RequestOutcome) (next : D) → R d e → Leaves answers d outcome next → (then : E) × (Leaves others e outcome then × R next then)
leaves_so answers others R follows d e (Replied user done) next r leaves = follows d e user done next r leaves
leaves_so answers others R follows d e (NoCall fault) next r same = (e, (refl, subst (λ x. R x e) (sym same) r))

asks_so : {D E : Type 0} (answers : Answering D) (others : Answering E) (R : D → E → Type 0) → Follows answers others R
    → (d : D) (e : E) (exchanges : List Exchange) (next : D) → R d e → AsksInOrder answers d exchanges next → (then : E) × (AsksInOrder others e exchanges then × R next then)
asks_so answers others R follows d e [] next r same = (e, (refl, subst (λ x. R x e) (sym same) r))
asks_so answers others R follows d e (x ∷ xs) next r asks =
    let one = leaves_so answers others R follows d e x.outcome asks.0 r asks.1.0 in
    let rest = asks_so answers others R follows asks.0 one.0 xs next one.1.1 asks.1.1 in
    (rest.0, ((one.0, (one.1.0, rest.1.0)), rest.1.1))

-- the other desk ends somewhere, and follows there
pub record ServedSo {D E : Type 0} (others : Answering E) (R : D → E → Type 0) (old new : Stand D) (how : Ended) (e : E) : Type 0 where
  pub then : E
  pub served : Served others (beside old e) (beside new then) how
  pub follows : R new.desk then

went_so : {D E : Type 0} (answers : Answering D) (others : Answering E) (old here : Stand D) (exchanges : List Exchange) (e then : E) → WentOn answers old exchanges here → AsksInOrder others e exchanges then
    → WentOn others (beside old e) exchanges (beside here then)
went_so answers others old here exchanges e then went asked = record {
  read = went.read;
  come = went.come;
  asked = asked;
  wrote = went.wrote;
  kept = went.kept;
  few = went.few;
}

ended_so : {D E : Type 0} (answers : Answering D) (others : Answering E) (R : D → E → Type 0) → Follows answers others R
    → (old here new : Stand D) (how : Ended) (exchanges : List Exchange) (e mid : E) → WentOn others (beside old e) exchanges (beside here mid) → R here.desk mid → (ends : Ends answers (bytes_in exchanges) here new how)
    → ((all : List ℕ) → old.ahead ≡ Some all → AreRequestsOf all (map (λ (exchange : Exchange). exchange.request) exchanges ++ last_request ends) how)
    → ServedSo others R old new how e
ended_so answers others R follows old here new how exchanges e mid went r (inl behind) requests =
    let one = leaves_so answers others R follows here.desk mid behind.last.outcome new.desk r behind.leaves in
    record {
      then = one.0;
      served = record {
        exchanges = exchanges;
        here = beside here mid;
        went_on = went;
        ends = inl (record { last = behind.last; takes = behind.takes; comes = behind.comes; leaves = one.1.0; ends = behind.ends });
        requests = requests;
      };
      follows = one.1.1;
    }
ended_so answers others R follows old here new how exchanges e mid went r (inr there) requests = record {
  then = mid;
  served = record {
    exchanges = exchanges;
    here = beside here mid;
    went_on = went;
    ends = inr (record { fault = there.fault; stops = there.stops; unasked = refl; ends = there.ends });
    requests = requests;
  };
  follows = subst (λ d. R d mid) (sym there.unasked) r;
}

pub served_so : {D E : Type 0} (answers : Answering D) (others : Answering E) (R : D → E → Type 0) → Follows answers others R
    → (old new : Stand D) (how : Ended) (e : E) → R old.desk e → Served answers old new how → ServedSo others R old new how e
served_so answers others R follows old new how e r served =
    let asked = asks_so answers others R follows old.desk e served.exchanges served.here.desk r served.went_on.asked in
    ended_so answers others R follows old served.here new how served.exchanges e asked.0 (went_so answers others old served.here served.exchanges e asked.0 served.went_on asked.1.0) asked.1.1 served.ends served.requests
