use Rattle.std.proofs.Common.{◌∷◌, [], ◌++◌, length, length-append, ap, subst, sym, ◌∙◌, arith}
use Rattle.std.proofs.lemmas.Result.{err_from_is_err_and}
use Rattle.std.proofs.KnownBytes.{Consumes-trans}
use Rattle.std.specs.Io.KnownBytes.{Consumes}
use Rattle.std.proofs.lemmas.Bool.{both_ways}
use Rattle.http_wire.specs.Reading.{ahead}
use Rattle.http_wire.specs.Heads.{HasNoEnd, IsHeadText, EndsHead}
use Rattle.http_wire.proofs.HeadLemmas.{head_ended, no_end_more}
use Rattle.http_wire.proofs.heads.read_head.Goals as goal

pub returns-in_err-push-in-Byte-clause-err : goal.returns-in_err-push-in-Byte-clause-err
returns-in_err-push-in-Byte-clause-err g c =
    let start = ahead c.args.buffer.now (g.S.Source.left c.args.source.now) in
    let here = ahead c.bytes.buffer (g.S.Source.left c.bytes.source) in
    let now = ahead c.next.new.self (g.S.Source.left c.next.new.source) in
    let p = err_from_is_err_and c.from_residual.result c.from_residual.ensures.1 in
    rw (p.1, p.2) (record {
      bytes = c.bytes.head ++ c.in-Byte.byte ∷ [];
      used = Consumes-trans start here now c.bytes.head (c.in-Byte.byte ∷ []) c.bytes.invariant.used c.in-Byte.ensures.consumed;
      spells = tt;
      ended = tt;
    })

pub returns-then-ends_head-clause-ok : goal.returns-then-ends_head-clause-ok
returns-then-ends_head-clause-ok g c =
    let start = ahead c.args.buffer.now (g.S.Source.left c.args.source.now) in
    let here = ahead c.bytes.buffer (g.S.Source.left c.bytes.source) in
    let now = ahead c.next.new.self (g.S.Source.left c.next.new.source) in
    let grown = c.in_ok-push-in-Byte.ensures.ok in
    let ends : EndsHead (c.bytes.head ++ c.in-Byte.byte ∷ []) = subst (λ bytes. EndsHead bytes) (c.as_slice.ensures ∙ grown) (c.ends_head.ensures.0 c.if-ends_head.true) in
    record {
      used = subst (λ head. Consumes start now head) (sym grown) (Consumes-trans start here now c.bytes.head (c.in-Byte.byte ∷ []) c.bytes.invariant.used c.in-Byte.ensures.consumed);
      text = subst (λ head. IsHeadText head) (sym grown) (head_ended c.bytes.head c.in-Byte.byte c.bytes.invariant.no_end ends (omega arith));
    }

pub bytes-preserved : goal.bytes-preserved
bytes-preserved g c =
    let start = ahead c.args.buffer.now (g.S.Source.left c.args.source.now) in
    let here = ahead c.bytes.buffer (g.S.Source.left c.bytes.source) in
    let now = ahead c.next.new.self (g.S.Source.left c.next.new.source) in
    let grown = c.in_ok-push-in-Byte.ensures.ok in
    let going : ¬ EndsHead (c.bytes.head ++ c.in-Byte.byte ∷ []) = λ ends. absurd (both_ways c.ends_head.result c.if-ends_head.false (c.ends_head.ensures.1 (subst (λ bytes. EndsHead bytes) (sym (c.as_slice.ensures ∙ grown)) ends))) in
    record {
      used = subst (λ head. Consumes start now head) (sym grown) (Consumes-trans start here now c.bytes.head (c.in-Byte.byte ∷ []) c.bytes.invariant.used c.in-Byte.ensures.consumed);
      no_end = subst (λ head. HasNoEnd head) (sym grown) (no_end_more c.bytes.head c.in-Byte.byte c.bytes.invariant.no_end going);
      few = omega (arith, ap length grown, length-append c.bytes.head (c.in-Byte.byte ∷ []));
      later = omega (arith, c.in-Byte.ensures.later);
    }
