use Rattle.std.proofs.Common.{rules, ◌≡◌, ◌-◌, ◌++◌, ◌∷◌, [], ℕ, List, Option, IsTrue, true, false, arith, refl, sym, ◌∙◌, subst}
use Rattle.hk_base.specs.Disk.{Reads, Tells}
use Rattle.hk_base.proofs.Runs.{Going, begin, both_read, compose}
use Rattle.frame_log.specs.Ahead.{Ahead, IsFirstPayload, IsNextPayload}
use Rattle.kms_store.specs.Keys.{IsBuilt}
use Rattle.kms_store.specs.Replay.{HasRoomForBirths, IsNoNext, IsTaken}
use Rattle.kms_store.proofs.Streams.{built_next, none_yet, read_all, stuck_at}
use Rattle.kms_store.proofs.replay.replay.Goals as goal

pub records-init : goal.records-init
records-init g c =
    let D0 = g.D.Disk.state c.args.disk.now in
    let file = c.args.records.now.file in
    record {
      file_is = refl;
      going = begin file D0 (D0.leaves file);
      same = record { reads = λ tells. refl; leaves = λ bytes left. left };
      births = subst HasRoomForBirths (sym c.new-keys.ensures.table) (omega arith);
      read = none_yet D0 c.args.records.now c.new-keys.result c.new-keys.ensures.table c.new-keys.ensures.index;
    }

pub next-requires : goal.next-requires
next-requires g c = record {
  ahead = λ tells.
      let tells0 = subst (λ b. IsTrue b) c.records.invariant.going.run.tells tells in
      let first = c.requires.ahead tells0 in
      let partly = c.records.invariant.read.tells tells0 first.0 first.1 in
      (partly.rest, partly.ahead);
}

pub returns-in-None-clause-read : goal.returns-in-None-clause-read
returns-in-None-clause-read g c =
    let D0 = g.D.Disk.state c.args.disk.now in
    let mid = g.D.Disk.state c.records.disk in
    let inv = c.records.invariant in
    read_all D0 mid c.args.records.now c.records.records c.records.keys inv.read
    (λ tells todo ahead.
    (subst (λ (o : Option ℕ). IsNextPayload (g.D.Disk.state c.next.new.disk) c.records.records c.next.new.self todo o) c.in-None.is
    (c.in_ok-next.ensures.first (subst (λ b. IsTrue b) (sym inv.going.run.tells) tells) todo ahead)).0)

pub returns-then-not-taken-clause-damaged : goal.returns-then-not-taken-clause-damaged
returns-then-not-taken-clause-damaged g c at is tells todo ahead =
    let D0 = g.D.Disk.state c.args.disk.now in
    let mid = g.D.Disk.state c.records.disk in
    let inv = c.records.invariant in
    let new = g.D.Disk.state c.next.new.disk in
    let got = λ (tells : Tells D0) (todo : List (List ℕ)) (ahead : Ahead mid c.records.records todo).
    let next : IsFirstPayload new c.records.records c.next.new.self todo c.in-Some.at =
    subst (λ (o : Option ℕ). IsNextPayload new c.records.records c.next.new.self todo o) c.in-Some.is (c.in_ok-next.ensures.first (subst (λ b. IsTrue b) (sym inv.going.run.tells) tells) todo ahead) in next in
    let was : c.in_ok-taken-in-Some.taken ≡ false = search rules in
    let here : c.saturating_sub.result ≡ at = cc is in
    let place : c.saturating_sub.result ≡ c.in-Some.at - 5 = search rules in
    let none = subst (IsTaken c.records.keys.table c.payload.result.now c.take.new.keys.table) was c.in_ok-taken-in-Some.ensures.taken in
    stuck_at D0 mid c.args.records.now c.records.records c.records.keys inv.read new c.next.new.self c.in-Some.at got at (subst (IsNoNext c.records.keys.table) c.payload.ensures none) (sym here ∙ place) tells todo ahead

pub records-preserved : goal.records-preserved
records-preserved g c =
    let D0 = g.D.Disk.state c.args.disk.now in
    let mid = g.D.Disk.state c.records.disk in
    let inv = c.records.invariant in
    let new = g.D.Disk.state c.next.new.disk in
    let got = λ (tells : Tells D0) (todo : List (List ℕ)) (ahead : Ahead mid c.records.records todo).
    let next : IsFirstPayload new c.records.records c.next.new.self todo c.in-Some.at =
    subst (λ (o : Option ℕ). IsNextPayload new c.records.records c.next.new.self todo o) c.in-Some.is (c.in_ok-next.ensures.first (subst (λ b. IsTrue b) (sym inv.going.run.tells) tells) todo ahead) in next in
    let file = c.args.records.now.file in
    let was : c.in_ok-taken-in-Some.taken ≡ true = search rules in
    let step : Going file mid new (mid.leaves file) = subst (λ (f : ℕ). Going f mid new (mid.leaves f)) inv.file_is (record { run = c.next.ensures.run; moments = c.next.ensures.moments }) in
    let reads : Reads file mid new = subst (λ (f : ℕ). Reads f mid new) inv.file_is c.next.ensures.same in
    record {
      file_is = c.next.ensures.file ∙ inv.file_is;
      going = compose inv.going step inv.same.leaves;
      same = both_read inv.going inv.same reads;
      births = c.in_ok-taken-in-Some.ensures.births was inv.births;
      read = built_next D0 mid c.args.records.now c.records.records c.records.keys inv.read new c.next.new.self c.in-Some.at got c.take.new.keys
          (subst (λ (p : List ℕ). IsBuilt (inv.read.frames ++ (c.in-Some.at, p) ∷ []) c.take.new.keys) c.payload.ensures (c.in_ok-taken-in-Some.ensures.built was inv.read.frames inv.read.built));
    }
