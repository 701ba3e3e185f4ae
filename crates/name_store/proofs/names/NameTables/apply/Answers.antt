use Rattle.std.proofs.Common.{◌≡◌, ◌∙◌, List, sym, ap, subst}
use Rattle.inode_tree.specs.Moves.{renamed}
use Rattle.inode_tree.specs.Rows.{Entry, put, removed}
use Rattle.zone_table.specs.Statuses.{StatusesFit, new_status, with_status}
use Rattle.snap_store.specs.Snapshots.{table_after_allow, table_after_remove, table_after_take}
use Rattle.edit_ops.specs.declared.files.FileKey.{FileKey}
use Rattle.edit_ops.specs.declared.ops.EditOp.TheVariants as op
use Rattle.name_store.specs.Causes.{id_at}
use Rattle.name_store.specs.Names.{NamesState}
use Rattle.name_store.specs.Table.{FitsRows, IsNameTable, NameTable, marked, new_directory, new_file, with_edeks}
use Rattle.name_store.specs.Updates.{AreFiles}
use Rattle.name_store.proofs.FitsLemmas.{either}
use Rattle.name_store.proofs.StatusLemmas.{Fit, fit-of}
use Rattle.name_store.proofs.UpdateLemmas.{fit-updated, updated-files}
use Rattle.name_store.proofs.names.NameTables.apply.Goals as goal

pub invariant_of-self-in-Mkdir : goal.invariant_of-self-in-Mkdir
invariant_of-self-in-Mkdir c =
    let rows = c.self.inside.tree.rows in
    let snaps = c.self.inside.snaps.table in
    let statuses = c.self.inside.statuses.rows in
    let t : NameTable = record { opening = c.self.inside.opening; rows = rows; snaps = snaps; statuses = statuses } in
    let good : IsNameTable t = record { rules = c.rows.ensures.rules; snaps = c.invariants.ensures; fits = c.self.invariant.1; statuses = c.self.invariant.2 } in
    let fit = fit-of t c.args.self.now.table (op.Mkdir c.in-Mkdir.id c.in-Mkdir.path) c.args.op.now (ap (λ (s : NamesState). s.table) c.self.view_is) c.in-Mkdir.is good c.requires.allowed in
    let now : Fit c.make.new.tree.rows snaps statuses = either (λ (es : List Entry). Fit es snaps statuses) c.make.result c.make.new.tree.rows (put (new_directory c.in-Mkdir.id c.in-Mkdir.path) rows) rows c.make.ensures.ok c.make.ensures.err fit (c.self.invariant.1, c.self.invariant.2) in
    (c.self.invariant.0 ∙ sym c.make.ensures.zones, now.0, now.1)

pub invariant_of-self-in-File : goal.invariant_of-self-in-File
invariant_of-self-in-File c =
    let rows = c.self.inside.tree.rows in
    let snaps = c.self.inside.snaps.table in
    let statuses = c.self.inside.statuses.rows in
    let t : NameTable = record { opening = c.self.inside.opening; rows = rows; snaps = snaps; statuses = statuses } in
    let good : IsNameTable t = record { rules = c.rows.ensures.rules; snaps = c.invariants.ensures; fits = c.self.invariant.1; statuses = c.self.invariant.2 } in
    let fit = fit-of t c.args.self.now.table (op.File c.in-File.id c.in-File.path c.in-File.edek) c.args.op.now (ap (λ (s : NamesState). s.table) c.self.view_is) c.in-File.is good c.requires.allowed in
    let now : Fit c.make_file.new.tree.rows snaps statuses = either (λ (es : List Entry). Fit es snaps statuses) c.make_file.result c.make_file.new.tree.rows (put (new_file c.in-File.id c.in-File.path c.in-File.edek) rows) rows c.make_file.ensures.ok c.make_file.ensures.err fit (c.self.invariant.1, c.self.invariant.2) in
    (c.self.invariant.0 ∙ sym c.make_file.ensures.zones, now.0, now.1)

pub invariant_of-self-in-Remove : goal.invariant_of-self-in-Remove
invariant_of-self-in-Remove c =
    let rows = c.self.inside.tree.rows in
    let snaps = c.self.inside.snaps.table in
    let statuses = c.self.inside.statuses.rows in
    let t : NameTable = record { opening = c.self.inside.opening; rows = rows; snaps = snaps; statuses = statuses } in
    let good : IsNameTable t = record { rules = c.rows.ensures.rules; snaps = c.invariants.ensures; fits = c.self.invariant.1; statuses = c.self.invariant.2 } in
    let fit = fit-of t c.args.self.now.table (op.Remove c.in-Remove.path) c.args.op.now (ap (λ (s : NamesState). s.table) c.self.view_is) c.in-Remove.is good c.requires.allowed in
    let snapped : FitsRows (removed c.in-Remove.path rows) c.remove.new.snaps.table = subst (FitsRows (removed c.in-Remove.path rows)) (sym c.remove.ensures.snaps) fit.0 in
    let noted : StatusesFit (removed c.in-Remove.path rows) c.remove.new.statuses.rows = subst (StatusesFit (removed c.in-Remove.path rows)) (sym c.remove.ensures.statuses) fit.1 in
    let now : Fit c.remove.new.tree.rows c.remove.new.snaps.table c.remove.new.statuses.rows = subst (λ (es : List Entry). Fit es c.remove.new.snaps.table c.remove.new.statuses.rows) (sym c.remove.ensures.rows) (snapped, noted) in
    (c.remove.ensures.zones, now.0, now.1)

pub invariant_of-self-in-Rename : goal.invariant_of-self-in-Rename
invariant_of-self-in-Rename c =
    let rows = c.self.inside.tree.rows in
    let snaps = c.self.inside.snaps.table in
    let statuses = c.self.inside.statuses.rows in
    let t : NameTable = record { opening = c.self.inside.opening; rows = rows; snaps = snaps; statuses = statuses } in
    let good : IsNameTable t = record { rules = c.rows.ensures.rules; snaps = c.invariants.ensures; fits = c.self.invariant.1; statuses = c.self.invariant.2 } in
    let fit = fit-of t c.args.self.now.table (op.Rename c.in-Rename.path c.in-Rename.to) c.args.op.now (ap (λ (s : NamesState). s.table) c.self.view_is) c.in-Rename.is good c.requires.allowed in
    let now : Fit c.rename.new.tree.rows snaps statuses = either (λ (es : List Entry). Fit es snaps statuses) c.rename.result c.rename.new.tree.rows (renamed c.in-Rename.path c.in-Rename.to rows) rows c.rename.ensures.ok c.rename.ensures.err fit (c.self.invariant.1, c.self.invariant.2) in
    (c.self.invariant.0 ∙ sym c.rename.ensures.zones, now.0, now.1)

pub invariant_of-self-in-Zone : goal.invariant_of-self-in-Zone
invariant_of-self-in-Zone c =
    let rows = c.self.inside.tree.rows in
    let snaps = c.self.inside.snaps.table in
    let statuses = c.self.inside.statuses.rows in
    let t : NameTable = record { opening = c.self.inside.opening; rows = rows; snaps = snaps; statuses = statuses } in
    let good : IsNameTable t = record { rules = c.rows.ensures.rules; snaps = c.invariants.ensures; fits = c.self.invariant.1; statuses = c.self.invariant.2 } in
    let fit = fit-of t c.args.self.now.table (op.Zone c.in-Zone.path c.in-Zone.key) c.args.op.now (ap (λ (s : NamesState). s.table) c.self.view_is) c.in-Zone.is good c.requires.allowed in
    let now : Fit c.mark.new.tree.rows snaps statuses = either (λ (es : List Entry). Fit es snaps statuses) c.mark.result c.mark.new.tree.rows (marked rows c.in-Zone.path c.in-Zone.key) rows c.mark.ensures.ok c.mark.ensures.err fit (c.self.invariant.1, c.self.invariant.2) in
    (c.mark.ensures.zones, now.0, now.1)

pub invariant_of-self-in-Allow : goal.invariant_of-self-in-Allow
invariant_of-self-in-Allow c =
    let rows = c.self.inside.tree.rows in
    let snaps = c.self.inside.snaps.table in
    let statuses = c.self.inside.statuses.rows in
    let t : NameTable = record { opening = c.self.inside.opening; rows = rows; snaps = snaps; statuses = statuses } in
    let good : IsNameTable t = record { rules = c.rows.ensures.rules; snaps = c.invariants.ensures; fits = c.self.invariant.1; statuses = c.self.invariant.2 } in
    let fit = fit-of t c.args.self.now.table (op.Allow c.in-Allow.path) c.args.op.now (ap (λ (s : NamesState). s.table) c.self.view_is) c.in-Allow.is good c.requires.allowed in
    let done = subst (λ dir. FitsRows rows (table_after_allow dir snaps)) (sym c.id_at.ensures) fit.0 in
    (c.self.invariant.0, either (FitsRows rows) c.allow.result c.allow.new.self.table (table_after_allow c.id_at.result snaps) snaps c.allow.ensures.ok c.allow.ensures.err done c.self.invariant.1, c.self.invariant.2)

pub invariant_of-self-in-Disallow : goal.invariant_of-self-in-Disallow
invariant_of-self-in-Disallow c =
    let rows = c.self.inside.tree.rows in
    let snaps = c.self.inside.snaps.table in
    let statuses = c.self.inside.statuses.rows in
    let t : NameTable = record { opening = c.self.inside.opening; rows = rows; snaps = snaps; statuses = statuses } in
    let good : IsNameTable t = record { rules = c.rows.ensures.rules; snaps = c.invariants.ensures; fits = c.self.invariant.1; statuses = c.self.invariant.2 } in
    let fit = fit-of t c.args.self.now.table (op.Disallow c.in-Disallow.path) c.args.op.now (ap (λ (s : NamesState). s.table) c.self.view_is) c.in-Disallow.is good c.requires.allowed in
    (c.self.invariant.0, subst (FitsRows rows) (sym c.disallow.ensures) fit.0, c.self.invariant.2)

pub invariant_of-self-in-Snap : goal.invariant_of-self-in-Snap
invariant_of-self-in-Snap c =
    let rows = c.self.inside.tree.rows in
    let snaps = c.self.inside.snaps.table in
    let statuses = c.self.inside.statuses.rows in
    let t : NameTable = record { opening = c.self.inside.opening; rows = rows; snaps = snaps; statuses = statuses } in
    let good : IsNameTable t = record { rules = c.rows.ensures.rules; snaps = c.invariants.ensures; fits = c.self.invariant.1; statuses = c.self.invariant.2 } in
    let fit = fit-of t c.args.self.now.table (op.Snap c.in-Snap.path c.in-Snap.name) c.args.op.now (ap (λ (s : NamesState). s.table) c.self.view_is) c.in-Snap.is good c.requires.allowed in
    (c.self.invariant.0, either (FitsRows rows) c.snap.result c.snap.new.snaps.table (table_after_take rows (id_at rows c.in-Snap.path) c.in-Snap.name snaps) snaps c.snap.ensures.ok c.snap.ensures.err fit.0 c.self.invariant.1, c.self.invariant.2)

pub invariant_of-self-in-Unsnap : goal.invariant_of-self-in-Unsnap
invariant_of-self-in-Unsnap c =
    let rows = c.self.inside.tree.rows in
    let snaps = c.self.inside.snaps.table in
    let statuses = c.self.inside.statuses.rows in
    let t : NameTable = record { opening = c.self.inside.opening; rows = rows; snaps = snaps; statuses = statuses } in
    let good : IsNameTable t = record { rules = c.rows.ensures.rules; snaps = c.invariants.ensures; fits = c.self.invariant.1; statuses = c.self.invariant.2 } in
    let fit = fit-of t c.args.self.now.table (op.Unsnap c.in-Unsnap.path c.in-Unsnap.name) c.args.op.now (ap (λ (s : NamesState). s.table) c.self.view_is) c.in-Unsnap.is good c.requires.allowed in
    let done = subst (λ dir. FitsRows rows (table_after_remove dir c.in-Unsnap.name snaps)) (sym c.id_at-in-Unsnap.ensures) fit.0 in
    (c.self.invariant.0, subst (FitsRows rows) (sym c.remove-in-Unsnap.ensures.table) done, c.self.invariant.2)

pub invariant_of-self-in-Submit : goal.invariant_of-self-in-Submit
invariant_of-self-in-Submit c =
    let rows = c.self.inside.tree.rows in
    let snaps = c.self.inside.snaps.table in
    let statuses = c.self.inside.statuses.rows in
    let t : NameTable = record { opening = c.self.inside.opening; rows = rows; snaps = snaps; statuses = statuses } in
    let good : IsNameTable t = record { rules = c.rows.ensures.rules; snaps = c.invariants.ensures; fits = c.self.invariant.1; statuses = c.self.invariant.2 } in
    let fit = fit-of t c.args.self.now.table (op.Submit c.in-Submit.session c.in-Submit.path c.in-Submit.noted) c.args.op.now (ap (λ (s : NamesState). s.table) c.self.view_is) c.in-Submit.is good c.requires.allowed in
    let done = subst (λ dir. StatusesFit rows (with_status (new_status dir c.in-Submit.session c.in-Submit.noted) statuses)) (sym c.id_at-in-Submit.ensures) fit.1 in
    (c.self.invariant.0, c.self.invariant.1, either (StatusesFit rows) c.submit.result c.submit.new.self.rows (with_status (new_status c.id_at-in-Submit.result c.in-Submit.session c.in-Submit.noted) statuses) statuses c.submit.ensures.ok c.submit.ensures.err done c.self.invariant.2)

pub invariant_of-self-in-Cancel : goal.invariant_of-self-in-Cancel
invariant_of-self-in-Cancel c =
    let rows = c.self.inside.tree.rows in
    let snaps = c.self.inside.snaps.table in
    let statuses = c.self.inside.statuses.rows in
    let t : NameTable = record { opening = c.self.inside.opening; rows = rows; snaps = snaps; statuses = statuses } in
    let good : IsNameTable t = record { rules = c.rows.ensures.rules; snaps = c.invariants.ensures; fits = c.self.invariant.1; statuses = c.self.invariant.2 } in
    let fit = fit-of t c.args.self.now.table (op.Cancel c.in-Cancel.session) c.args.op.now (ap (λ (s : NamesState). s.table) c.self.view_is) c.in-Cancel.is good c.requires.allowed in
    (c.self.invariant.0, c.self.invariant.1, subst (StatusesFit rows) (sym c.end.ensures) fit.1)

pub invariant_of-self-in-Complete : goal.invariant_of-self-in-Complete
invariant_of-self-in-Complete c =
    let rows = c.self.inside.tree.rows in
    let snaps = c.self.inside.snaps.table in
    let statuses = c.self.inside.statuses.rows in
    let t : NameTable = record { opening = c.self.inside.opening; rows = rows; snaps = snaps; statuses = statuses } in
    let good : IsNameTable t = record { rules = c.rows.ensures.rules; snaps = c.invariants.ensures; fits = c.self.invariant.1; statuses = c.self.invariant.2 } in
    let fit = fit-of t c.args.self.now.table (op.Complete c.in-Complete.session) c.args.op.now (ap (λ (s : NamesState). s.table) c.self.view_is) c.in-Complete.is good c.requires.allowed in
    (c.self.invariant.0, c.self.invariant.1, subst (StatusesFit rows) (sym c.end-in-Complete.ensures) fit.1)

pub update-requires : goal.update-requires
update-requires c =
    let t : NameTable = record { opening = c.self.inside.opening; rows = c.self.inside.tree.rows; snaps = c.self.inside.snaps.table; statuses = c.self.inside.statuses.rows } in
    let stand = updated-files t c.args.self.now.table c.in-Update.session c.in-Update.failed c.in-Update.mark c.in-Update.files c.args.op.now (ap (λ (s : NamesState). s.table) c.self.view_is) c.in-Update.is c.requires.allowed in
    record { files = subst (AreFiles c.self.inside.tree.rows) (sym c.as_slice.ensures.files) stand }

pub invariant_of-self-in-Update : goal.invariant_of-self-in-Update
invariant_of-self-in-Update c =
    let rows = c.self.inside.tree.rows in
    let snaps = c.self.inside.snaps.table in
    let statuses = c.self.inside.statuses.rows in
    let t : NameTable = record { opening = c.self.inside.opening; rows = rows; snaps = snaps; statuses = statuses } in
    let good : IsNameTable t = record { rules = c.rows.ensures.rules; snaps = c.invariants.ensures; fits = c.self.invariant.1; statuses = c.self.invariant.2 } in
    let files = c.in-Update.files in
    let same = ap (λ (s : NamesState). s.table) c.self.view_is in
    let fit = fit-of t c.args.self.now.table (op.Update c.in-Update.session c.in-Update.failed c.in-Update.mark files) c.args.op.now same c.in-Update.is good c.requires.allowed in
    let stand = updated-files t c.args.self.now.table c.in-Update.session c.in-Update.failed c.in-Update.mark files c.args.op.now same c.in-Update.is c.requires.allowed in
    let noted : StatusesFit (with_edeks files rows) c.count.new.statuses.rows = fit-updated _ _ _ _ files rows statuses c.count.new.statuses.rows stand c.self.invariant.2 c.count.ensures in
    let after : c.update.new.tree.rows ≡ with_edeks files rows = c.update.ensures.rows ∙ ap (λ (fs : List FileKey). with_edeks fs rows) c.as_slice.ensures.files in
    let now : Fit c.update.new.tree.rows snaps c.count.new.statuses.rows = subst (λ (es : List Entry). Fit es snaps c.count.new.statuses.rows) (sym after) (fit.0, noted) in
    (c.self.invariant.0 ∙ sym c.update.ensures.zones, now.0, now.1)
