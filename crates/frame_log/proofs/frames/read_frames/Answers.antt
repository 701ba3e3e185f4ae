use Rattle.std.proofs.Common.{◌≡◌, [], ◌∷◌, ◌++◌, List, ℕ, Option, map, IsTrue, sym, ◌∙◌, ap, subst}
use Rattle.std.proofs.lemmas.List.{map-append, append-nil}
use Rattle.hk_base.specs.Disk.{DiskState, Reads, RunOn, LeavesOnly}
use Rattle.hk_base.proofs.Runs.{Going, compose, both_read}
use Rattle.frame_log.specs.Format.{placed}
use Rattle.frame_log.specs.Scan.{frame_view}
use Rattle.frame_log.specs.Ahead.{IsNextPayload, IsFirstPayload, IsPartlyRead}
use Rattle.frame_log.proofs.Aheads.{partly_more}
use Rattle.frame_log.proofs.Goings.{going}
use Rattle.frame_log.proofs.frames.read_frames.Goals as goal

-- the reads of one more payload
more : {first file : ℕ} {old mid new : DiskState} → first ≡ file → Going file old mid (old.leaves file) → Reads file old mid → RunOn first mid new → LeavesOnly first mid new (mid.leaves first) → Going file old new (old.leaves file)
more {first} {file} {old} {mid} {new} is so_far same run moments = compose so_far (subst (λ (f : ℕ). Going f mid new (mid.leaves f)) is (going run moments)) same.leaves

still_same : {first file : ℕ} {old mid new : DiskState} → first ≡ file → Going file old mid (old.leaves file) → Reads file old mid → Reads first mid new → Reads file old new
still_same {first} {file} {old} {mid} {new} is so_far same too = both_read so_far same (subst (λ (f : ℕ). Reads f mid new) is too)

pub next-requires : goal.next-requires
next-requires g c = record {
  ahead = λ tells.
      let tells0 = subst (λ b. IsTrue b) c.payloads.invariant.going.run.tells tells in
      let first = c.requires.ahead tells0 in
      let partly = c.payloads.invariant.tells tells0 first.0 first.1 in
      (partly.rest, partly.ahead);
}

pub returns-in-None-clause-frames : goal.returns-in-None-clause-frames
returns-in-None-clause-frames g c tells todo a =
    let inv = c.payloads.invariant in
    let tells1 = subst (λ b. IsTrue b) (sym inv.going.run.tells) tells in
    let partly = inv.tells tells todo a in
    let end : IsNextPayload (g.D.Disk.state c.next.new.disk) c.payloads.records c.next.new.self partly.rest c.in_ok-next.field-0 = c.in_ok-next.ensures.first tells1 partly.rest partly.ahead in
    let none = (subst (λ (o : Option ℕ). IsNextPayload (g.D.Disk.state c.next.new.disk) c.payloads.records c.next.new.self partly.rest o) c.in-None.is end).0 in
    let listed : List (ℕ × List ℕ) = map frame_view c.payloads.list.items in
    sym (partly.split ∙ ap (λ (l : List (List ℕ)). listed ++ placed c.payloads.records.at l) none ∙ append-nil listed)

pub payloads-preserved : goal.payloads-preserved
payloads-preserved g c =
    let inv = c.payloads.invariant in
    let file = c.args.records.now.file in
    let mid = g.D.Disk.state c.payloads.disk in
    let new = g.D.Disk.state c.next.new.disk in
    let step : Going file mid new (mid.leaves file) = subst (λ (f : ℕ). Going f mid new (mid.leaves f)) inv.file_is (going c.next.ensures.run c.next.ensures.moments) in
    let reads : Reads file mid new = subst (λ (f : ℕ). Reads f mid new) inv.file_is c.next.ensures.same in
    record {
      file_is = c.next.ensures.file ∙ inv.file_is;
      going = compose inv.going step inv.same.leaves;
      same = both_read inv.going inv.same reads;
      tells = λ tells todo a.
          let tells1 = subst (λ b. IsTrue b) (sym inv.going.run.tells) tells in
          let partly = inv.tells tells todo a in
          let records = c.next.new.self in
          let offset = c.in-Some.at in
          let got : IsFirstPayload new c.payloads.records records partly.rest offset = subst (λ (o : Option ℕ). IsNextPayload new c.payloads.records records partly.rest o) c.in-Some.is (c.in_ok-next.ensures.first tells1 partly.rest partly.ahead) in
          let before : List (ℕ × List ℕ) = map frame_view c.payloads.list.items in
          let listed : map frame_view c.push.new.self.items ≡ before ++ (offset, records.payload.items) ∷ [] =
          ap (map frame_view) c.in_ok-push-in-Some.ensures.items
          ∙ map-append frame_view c.payloads.list.items (_ ∷ [])
          ∙ ap (λ (x : List ℕ). before ++ (offset, x) ∷ []) (c.in_ok-payload-in-Some.ensures.items ∙ c.payload.ensures) in
          subst (λ (l : List (ℕ × List ℕ)). IsPartlyRead new c.args.records.now.at todo records l) (sym listed) (partly_more mid new c.args.records.now.at todo c.payloads.records records before partly offset got);
    }

pub returns-in_err-next-clause-run : goal.returns-in_err-next-clause-run
returns-in_err-next-clause-run g c = (more c.payloads.invariant.file_is c.payloads.invariant.going c.payloads.invariant.same c.next.ensures.run c.next.ensures.moments).run

pub returns-in_err-next-clause-moments : goal.returns-in_err-next-clause-moments
returns-in_err-next-clause-moments g c = (more c.payloads.invariant.file_is c.payloads.invariant.going c.payloads.invariant.same c.next.ensures.run c.next.ensures.moments).moments

pub returns-in_err-next-clause-same : goal.returns-in_err-next-clause-same
returns-in_err-next-clause-same g c = still_same c.payloads.invariant.file_is c.payloads.invariant.going c.payloads.invariant.same c.next.ensures.same

pub returns-in-None-clause-run : goal.returns-in-None-clause-run
returns-in-None-clause-run g c = (more c.payloads.invariant.file_is c.payloads.invariant.going c.payloads.invariant.same c.next.ensures.run c.next.ensures.moments).run

pub returns-in-None-clause-moments : goal.returns-in-None-clause-moments
returns-in-None-clause-moments g c = (more c.payloads.invariant.file_is c.payloads.invariant.going c.payloads.invariant.same c.next.ensures.run c.next.ensures.moments).moments

pub returns-in-None-clause-same : goal.returns-in-None-clause-same
returns-in-None-clause-same g c = still_same c.payloads.invariant.file_is c.payloads.invariant.going c.payloads.invariant.same c.next.ensures.same

pub returns-in_err-payload-in-Some-clause-run : goal.returns-in_err-payload-in-Some-clause-run
returns-in_err-payload-in-Some-clause-run g c = (more c.payloads.invariant.file_is c.payloads.invariant.going c.payloads.invariant.same c.next.ensures.run c.next.ensures.moments).run

pub returns-in_err-payload-in-Some-clause-moments : goal.returns-in_err-payload-in-Some-clause-moments
returns-in_err-payload-in-Some-clause-moments g c = (more c.payloads.invariant.file_is c.payloads.invariant.going c.payloads.invariant.same c.next.ensures.run c.next.ensures.moments).moments

pub returns-in_err-payload-in-Some-clause-same : goal.returns-in_err-payload-in-Some-clause-same
returns-in_err-payload-in-Some-clause-same g c = still_same c.payloads.invariant.file_is c.payloads.invariant.going c.payloads.invariant.same c.next.ensures.same

pub returns-in_err-push-in-Some-clause-run : goal.returns-in_err-push-in-Some-clause-run
returns-in_err-push-in-Some-clause-run g c = (more c.payloads.invariant.file_is c.payloads.invariant.going c.payloads.invariant.same c.next.ensures.run c.next.ensures.moments).run

pub returns-in_err-push-in-Some-clause-moments : goal.returns-in_err-push-in-Some-clause-moments
returns-in_err-push-in-Some-clause-moments g c = (more c.payloads.invariant.file_is c.payloads.invariant.going c.payloads.invariant.same c.next.ensures.run c.next.ensures.moments).moments

pub returns-in_err-push-in-Some-clause-same : goal.returns-in_err-push-in-Some-clause-same
returns-in_err-push-in-Some-clause-same g c = still_same c.payloads.invariant.file_is c.payloads.invariant.going c.payloads.invariant.same c.next.ensures.same
