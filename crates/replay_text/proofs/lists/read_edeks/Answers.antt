use Rattle.std.proofs.Common.{List, sym, subst}
use Rattle.std.specs.List.{slice_split}
use Rattle.kms_calls.specs.declared.calls.RawEdek.{RawEdek}
use Rattle.replay_text.specs.Events.{AreTriples, is_comma}
use Rattle.replay_text.proofs.ListLemmas.{SentSoFar, bad_triple, sent_all, sent_more}
use Rattle.replay_text.proofs.lists.read_edeks.Goals as goal

pub returns-in_default : goal.returns-in_default
returns-in_default c = bad_triple _ _ _ _ _ c.parts.invariant c.cut_at_comma.ensures.cut (rw c.in_default.is at c.in_ok-edek.ensures)

pub returns-in-None : goal.returns-in-None
returns-in-None c =
    let cut = rw c.in-None.is at c.cut_at_comma.ensures.cut in
    let triple = rw c.in-Some.is at c.in_ok-edek.ensures in
    subst (λ (all : List RawEdek). AreTriples (slice_split is_comma c.args.bytes.now) all) (sym c.in_ok-push.ensures.ok) (sent_all c.args.bytes.now c.parts.rest.now _ c.parts.edeks c.in-Some.edek c.parts.invariant cut triple)

pub parts-preserved : goal.parts-preserved
parts-preserved c =
    let cut = rw c.in-Some-more.is at c.cut_at_comma.ensures.cut in
    let triple = rw c.in-Some.is at c.in_ok-edek.ensures in
    subst (λ (all : List RawEdek). SentSoFar c.args.bytes.now c.in-Some-more.next.now all) (sym c.in_ok-push.ensures.ok)
    (sent_more c.args.bytes.now c.parts.rest.now _ c.in-Some-more.next.now c.parts.edeks c.in-Some.edek c.parts.invariant cut triple)
