use Rattle.std.proofs.Common.{refl, subst, sym}
use Rattle.row_copies.specs.Clusters.{IsTreeOfRows}
use Rattle.world_events.specs.Events.{standing_of}
use Rattle.world_rows.specs.Rows.{EventRefused}
use Rattle.world_rows.proofs.FaultLemmas.{metadata_ends, metadata_fault, metadata_given}
use Rattle.world_rows.proofs.ReadLemmas.{ask_once, asks_on, rows_same}
use Rattle.world_rows.proofs.rows.WorldRowsSourceRows.metadata.Goals as goal

pub returns-clause-same : goal.returns-clause-same
returns-clause-same g c =
    let w = asks_on g.D.Disk.state g.W.Words.to_come c.args.self.now.events c.metadata_of.new.events c.args.self.now.user.now c.args.key c.metadata_of.result c.metadata_of.ensures.asks in
    rows_same g.D.Disk.state g.W.Words.to_come c.args.self.now.events.now (standing_of c.args.self.now.events) (standing_of c.metadata_of.new.events) c.requires.ready.events c.args.self.now.place.now (ask_once g.D.Disk.state g.W.Words.to_come c.args.self.now.events.now (standing_of c.args.self.now.events) (standing_of c.metadata_of.new.events) c.args.self.now.user.now c.requires.ready.user c.args.key c.metadata_of.result w.1)

pub returns-clause-ready : goal.returns-clause-ready
returns-clause-ready g c =
    let w = asks_on g.D.Disk.state g.W.Words.to_come c.args.self.now.events c.metadata_of.new.events c.args.self.now.user.now c.args.key c.metadata_of.result c.metadata_of.ensures.asks in
    record {
      events = c.metadata_of.ensures.ready;
      user = c.requires.ready.user;
      place = c.requires.ready.place;
      tree = subst IsTreeOfRows (sym (rows_same g.D.Disk.state g.W.Words.to_come c.args.self.now.events.now (standing_of c.args.self.now.events) (standing_of c.metadata_of.new.events) c.requires.ready.events c.args.self.now.place.now (ask_once g.D.Disk.state g.W.Words.to_come c.args.self.now.events.now (standing_of c.args.self.now.events) (standing_of c.metadata_of.new.events) c.args.self.now.user.now c.requires.ready.user c.args.key c.metadata_of.result w.1))) c.requires.ready.tree;
    }

pub returns-clause-follows : goal.returns-clause-follows
returns-clause-follows g c =
    let w = asks_on g.D.Disk.state g.W.Words.to_come c.args.self.now.events c.metadata_of.new.events c.args.self.now.user.now c.args.key c.metadata_of.result c.metadata_of.ensures.asks in
    record { holds = w.0; place = refl; reads = (ask_once g.D.Disk.state g.W.Words.to_come c.args.self.now.events.now (standing_of c.args.self.now.events) (standing_of c.metadata_of.new.events) c.args.self.now.user.now c.requires.ready.user c.args.key c.metadata_of.result w.1) }

pub returns-clause-reply : goal.returns-clause-reply
returns-clause-reply g c =
    let w = asks_on g.D.Disk.state g.W.Words.to_come c.args.self.now.events c.metadata_of.new.events c.args.self.now.user.now c.args.key c.metadata_of.result c.metadata_of.ensures.asks in
    metadata_given g.D.Disk.state g.W.Words.to_come c.args.self.now.events.now (standing_of c.args.self.now.events) (standing_of c.metadata_of.new.events) c.requires.ready.events c.args.self.now.user.now c.args.key c.metadata_of.result c.requires.ready.user w.1

pub returns-clause-fault : goal.returns-clause-fault
returns-clause-fault g c =
    let w = asks_on g.D.Disk.state g.W.Words.to_come c.args.self.now.events c.metadata_of.new.events c.args.self.now.user.now c.args.key c.metadata_of.result c.metadata_of.ensures.asks in
    metadata_fault g.D.Disk.state g.W.Words.to_come c.args.self.now.events.now (standing_of c.args.self.now.events) (standing_of c.metadata_of.new.events) c.requires.ready.events c.args.self.now.user.now c.args.key c.metadata_of.result w.1

pub returns-clause-ends : goal.returns-clause-ends
returns-clause-ends g c =
    let w = asks_on g.D.Disk.state g.W.Words.to_come c.args.self.now.events c.metadata_of.new.events c.args.self.now.user.now c.args.key c.metadata_of.result c.metadata_of.ensures.asks in
    metadata_ends g.D.Disk.state g.W.Words.to_come c.args.self.now.events.now (standing_of c.args.self.now.events) (standing_of c.metadata_of.new.events) c.requires.ready.events c.args.self.now.user.now c.args.key c.metadata_of.result (EventRefused g.D.Disk.state g.W.Words.to_come c.args.self.now.events.now (standing_of c.args.self.now.events) (standing_of c.metadata_of.new.events)) w.1
