use Rattle.std.proofs.Common.{sym, ap, ◌∙◌, subst}
use Rattle.hist_cell.specs.History.{Learns, entry_by}
use Rattle.hist_cell.proofs.Acting.{one_item, core_after, core_seen, start_of, acts_by}
use Rattle.hist_cell.proofs.locked.Locked.act_meeting.Goals as goal

pub invariant_of-self : goal.invariant_of-self
invariant_of-self g c =
    let turn = c.self.invariant in
    let t = c.into_seat-turn.result.me.0 in
    let m = c.has_room-count.new.seat.me.0 in
    let same = one_item t turn.view (sym c.into_seat-turn.ensures.2 ∙ (ap (λ b. b.views) c.replace.ensures.value ∙ turn.views)) in
    let took = ap (λ y. y.0) c.has_room-count.ensures.same.2 ∙ ap (λ y. y.0) c.take_turn.ensures.2 in
    let look = subst (λ y. Learns g.C.Core.step g.C.Core.allows y c.has_room-count.result) (sym (ap (λ y. y.0) c.has_room-count.ensures.same.2)) c.has_room-count.ensures.tells in
    let gave = ap (λ y. y.0) c.add_entry-turn.ensures.turn.1 in
    record {
      view = c.add_entry-turn.result.me.0;
      views = c.into_badge.ensures.2;
      table = c.into_badge.ensures.0 ∙ (c.add_entry-turn.ensures.turn.0 ∙ (c.has_room-count.ensures.same.0 ∙ (c.take_turn.ensures.0 ∙ c.pass.invariant.at)));
      turn = ap (λ v. v.turn) gave;
      first = turn.first;
      first_is = ap (λ v. v.start) gave ∙ start_of g.C.Core.step g.C.Core.allows c.pass.inside.seat.me.0 t m turn.view turn.first c.has_room-count.result took same turn.first_is look;
      sound_first = turn.sound_first;
      core_is = core_after g.C.Core.step g.C.Core.allows turn.first m c.add_entry-turn.result.me.0 (entry_by m c.of-was.result.value c.answer_meeting-reply.result c.answer_meeting-reply.new.core) gave;
    }

pub returns-clause-acts : goal.returns-clause-acts
returns-clause-acts g c =
    let turn = c.self.invariant in
    let t = c.into_seat-turn.result.me.0 in
    let same = one_item t turn.view (sym c.into_seat-turn.ensures.2 ∙ (ap (λ b. b.views) c.replace.ensures.value ∙ turn.views)) in
    let took = ap (λ y. y.0) c.has_room-count.ensures.same.2 ∙ ap (λ y. y.0) c.take_turn.ensures.2 in
    let look = subst (λ y. Learns g.C.Core.step g.C.Core.allows y c.has_room-count.result) (sym (ap (λ y. y.0) c.has_room-count.ensures.same.2)) c.has_room-count.ensures.tells in
    acts_by g.C.Core.step g.C.Core.allows turn.first c.args.self.now c.answer_meeting-reply.new.core c.args.pass.now c.pass.inside.seat.me.0 t c.has_room-count.new.seat.me.0 c.add_entry-turn.new.seat.me.0 c.has_room-count.result c.of-was.result.value c.args.call c.answer_meeting-reply.result
    (ap (λ y. y.start) same ∙ turn.first_is) (core_seen g.C.Core.step g.C.Core.allows turn.first c.args.self.now t turn.view (sym c.self.view_is ∙ turn.core_is) same) c.pass.view_is took c.of-was.ensures c.pass.invariant.numbers look
    c.add_entry-turn.ensures.legal (ap (λ y. y.0) c.add_entry-turn.ensures.mine.2)
