use Rattle.std.proofs.Common.{refl, subst, sym}
use Rattle.place_texts.specs.Places.{place_below}
use Rattle.row_copies.specs.Clusters.{IsTreeOfRows}
use Rattle.world_events.specs.Events.{standing_of}
use Rattle.world_rows.proofs.FaultLemmas.{look_ends}
use Rattle.world_rows.proofs.ReadLemmas.{look_once, looks_on, row_found, rows_same}
use Rattle.world_rows.proofs.rows.WorldRowsSourceRows.look.Goals as goal

pub returns-clause-row : goal.returns-clause-row
returns-clause-row g c =
    let w = looks_on g.D.Disk.state g.W.Words.to_come c.args.self.now.events c.look_at.new.events c.args.self.now.user.now (place_below c.args.self.now.place.now c.args.path.now) c.look_at.result c.look_at.ensures.looks in
    row_found g.D.Disk.state g.W.Words.to_come c.args.self.now.events.now (standing_of c.args.self.now.events) (standing_of c.look_at.new.events) c.requires.ready.events c.args.self.now.user.now c.args.self.now.place.now c.args.path.now c.requires.ready.place c.len.ensures.rule c.look_at.result w.1

pub returns-clause-same : goal.returns-clause-same
returns-clause-same g c =
    let w = looks_on g.D.Disk.state g.W.Words.to_come c.args.self.now.events c.look_at.new.events c.args.self.now.user.now (place_below c.args.self.now.place.now c.args.path.now) c.look_at.result c.look_at.ensures.looks in
    rows_same g.D.Disk.state g.W.Words.to_come c.args.self.now.events.now (standing_of c.args.self.now.events) (standing_of c.look_at.new.events) c.requires.ready.events c.args.self.now.place.now (look_once g.D.Disk.state g.W.Words.to_come c.args.self.now.events.now (standing_of c.args.self.now.events) (standing_of c.look_at.new.events) c.args.self.now.user.now c.requires.ready.user (place_below c.args.self.now.place.now c.args.path.now) c.look_at.result w.1)

pub returns-clause-ready : goal.returns-clause-ready
returns-clause-ready g c =
    let w = looks_on g.D.Disk.state g.W.Words.to_come c.args.self.now.events c.look_at.new.events c.args.self.now.user.now (place_below c.args.self.now.place.now c.args.path.now) c.look_at.result c.look_at.ensures.looks in
    record {
      events = c.look_at.ensures.ready;
      user = c.requires.ready.user;
      place = c.requires.ready.place;
      tree = subst IsTreeOfRows (sym (rows_same g.D.Disk.state g.W.Words.to_come c.args.self.now.events.now (standing_of c.args.self.now.events) (standing_of c.look_at.new.events) c.requires.ready.events c.args.self.now.place.now (look_once g.D.Disk.state g.W.Words.to_come c.args.self.now.events.now (standing_of c.args.self.now.events) (standing_of c.look_at.new.events) c.args.self.now.user.now c.requires.ready.user (place_below c.args.self.now.place.now c.args.path.now) c.look_at.result w.1))) c.requires.ready.tree;
    }

pub returns-clause-follows : goal.returns-clause-follows
returns-clause-follows g c =
    let w = looks_on g.D.Disk.state g.W.Words.to_come c.args.self.now.events c.look_at.new.events c.args.self.now.user.now (place_below c.args.self.now.place.now c.args.path.now) c.look_at.result c.look_at.ensures.looks in
    record { holds = w.0; place = refl; reads = (look_once g.D.Disk.state g.W.Words.to_come c.args.self.now.events.now (standing_of c.args.self.now.events) (standing_of c.look_at.new.events) c.args.self.now.user.now c.requires.ready.user (place_below c.args.self.now.place.now c.args.path.now) c.look_at.result w.1) }

pub returns-clause-ends : goal.returns-clause-ends
returns-clause-ends g c =
    let w = looks_on g.D.Disk.state g.W.Words.to_come c.args.self.now.events c.look_at.new.events c.args.self.now.user.now (place_below c.args.self.now.place.now c.args.path.now) c.look_at.result c.look_at.ensures.looks in
    look_ends g.D.Disk.state g.W.Words.to_come c.args.self.now.events.now (standing_of c.args.self.now.events) (standing_of c.look_at.new.events) c.requires.ready.events c.args.self.now.user.now c.requires.ready.user (place_below c.args.self.now.place.now c.args.path.now) c.look_at.result w.1
