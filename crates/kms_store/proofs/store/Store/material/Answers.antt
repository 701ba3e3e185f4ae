use Rattle.std.proofs.Common.{◌≡◌, IfSome, ap, is_some, subst, sym, ◌∙◌}
use Rattle.hk_base.specs.declared.names.VersionName.{VersionName}
use Rattle.key_index.specs.Cache.{IsOlder}
use Rattle.key_rows.specs.Table.{find_name}
use Rattle.kms_store.specs.Store.{IsRowOf, StoreState}
use Rattle.kms_store.proofs.Olders.{Asked, file_has, given_by, older_key, reads_by, reads_by_none, within_by}
use Rattle.kms_store.proofs.store.Store.material.Goals as goal

pub returns-then-as_bytes-len-clause-given : goal.returns-then-as_bytes-len-clause-given
returns-then-as_bytes-len-clause-given g c tells_if =
    let D0 = g.D.Disk.state c.args.disk.now in
    let inside = c.self.inside in
    let before : StoreState = record { log = inside.log; table = record { keys = inside.keys.table; spare = inside.keys.index.spare }; index = inside.keys.index.index; cache = inside.cache.entries; pending = inside.pending } in
    let of = subst (λ (v : VersionName). IsRowOf before.table.keys (find_name before.table.keys.rows v.key) c.in-Some.row.now) c.version.view_is c.in-Some.ensures in
    let born = subst (λ (x : StoreState). IfSome (find_name x.table.keys.rows c.args.version.now.key) (λ key. key.birth ≡ c.args.birth)) (sym c.self.view_is) c.requires.birth in
    let a : Asked before c.args.version.now c.args.birth c.in-Some.row.now c.in-Some-place.place =
    record { of = of; born = born; placed = sym c.place.ensures.place ∙ c.in-Some-place.is; older = sym c.place.ensures.older ∙ ap is_some c.in-Some-place.is; sound = c.place.ensures.sound; file = c.self.invariant.0 } in
    given_by D0 before c.args.self.now c.self.view_is c.args.version.now c.args.birth c.in-Some.row.now c.in-Some-place.place a c.in-Some-get.material tells_if c.requires.held
    (λ tells s. subst (λ (v : VersionName). c.in-Some-get.material ≡ s.older c.args.birth v.number) c.version.view_is (c.in-Some-get.ensures.cached s.older before.index s.cached).0)

pub returns-then-as_bytes-len-clause-reads : goal.returns-then-as_bytes-len-clause-reads
returns-then-as_bytes-len-clause-reads g c =
    let D0 = g.D.Disk.state c.args.disk.now in
    let inside = c.self.inside in
    let before : StoreState = record { log = inside.log; table = record { keys = inside.keys.table; spare = inside.keys.index.spare }; index = inside.keys.index.index; cache = inside.cache.entries; pending = inside.pending } in
    reads_by_none D0 before c.args.self.now c.get.new.self.entries c.self.view_is c.self.invariant.0 (λ tells s. (c.get.ensures.cached s.older before.index s.cached).1)

pub read_material-requires-clause-within : goal.read_material-requires-clause-within
read_material-requires-clause-within g c =
    let D0 = g.D.Disk.state c.args.disk.now in
    let inside = c.self.inside in
    let before : StoreState = record { log = inside.log; table = record { keys = inside.keys.table; spare = inside.keys.index.spare }; index = inside.keys.index.index; cache = inside.cache.entries; pending = inside.pending } in
    let of = subst (λ (v : VersionName). IsRowOf before.table.keys (find_name before.table.keys.rows v.key) c.in-Some.row.now) c.version.view_is c.in-Some.ensures in
    let born = subst (λ (x : StoreState). IfSome (find_name x.table.keys.rows c.args.version.now.key) (λ key. key.birth ≡ c.args.birth)) (sym c.self.view_is) c.requires.birth in
    let a : Asked before c.args.version.now c.args.birth c.in-Some.row.now c.in-Some-place.place =
    record { of = of; born = born; placed = sym c.place.ensures.place ∙ c.in-Some-place.is; older = sym c.place.ensures.older ∙ ap is_some c.in-Some-place.is; sound = c.place.ensures.sound; file = c.self.invariant.0 } in
    within_by D0 before c.args.self.now c.self.view_is c.args.version.now c.args.birth c.in-Some.row.now c.in-Some-place.place a c.requires.held

pub returns-in_err-material-clause-reads : goal.returns-in_err-material-clause-reads
returns-in_err-material-clause-reads g c =
    let D0 = g.D.Disk.state c.args.disk.now in
    let inside = c.self.inside in
    let before : StoreState = record { log = inside.log; table = record { keys = inside.keys.table; spare = inside.keys.index.spare }; index = inside.keys.index.index; cache = inside.cache.entries; pending = inside.pending } in
    let e = c.read_material.ensures in
    reads_by D0 (g.D.Disk.state c.read_material.new.disk) before c.args.self.now c.get.new.self.entries c.self.view_is c.self.invariant.0 e.same e.run e.moments
    (λ tells s. (c.get.ensures.cached s.older before.index s.cached).1)

pub returns-clause-given : goal.returns-clause-given
returns-clause-given g c tells_if =
    let D0 = g.D.Disk.state c.args.disk.now in
    let inside = c.self.inside in
    let before : StoreState = record { log = inside.log; table = record { keys = inside.keys.table; spare = inside.keys.index.spare }; index = inside.keys.index.index; cache = inside.cache.entries; pending = inside.pending } in
    let of = subst (λ (v : VersionName). IsRowOf before.table.keys (find_name before.table.keys.rows v.key) c.in-Some.row.now) c.version.view_is c.in-Some.ensures in
    let born = subst (λ (x : StoreState). IfSome (find_name x.table.keys.rows c.args.version.now.key) (λ key. key.birth ≡ c.args.birth)) (sym c.self.view_is) c.requires.birth in
    let a : Asked before c.args.version.now c.args.birth c.in-Some.row.now c.in-Some-place.place =
    record { of = of; born = born; placed = sym c.place.ensures.place ∙ c.in-Some-place.is; older = sym c.place.ensures.older ∙ ap is_some c.in-Some-place.is; sound = c.place.ensures.sound; file = c.self.invariant.0 } in
    given_by D0 before c.args.self.now c.self.view_is c.args.version.now c.args.birth c.in-Some.row.now c.in-Some-place.place a c.in_ok-material.material tells_if c.requires.held
    (λ tells s. c.in_ok-material.ensures.bytes tells ∙ file_has D0 before c.args.version.now c.args.birth c.in-Some.row.now c.in-Some-place.place a s)

pub returns-clause-reads : goal.returns-clause-reads
returns-clause-reads g c =
    let D0 = g.D.Disk.state c.args.disk.now in
    let inside = c.self.inside in
    let before : StoreState = record { log = inside.log; table = record { keys = inside.keys.table; spare = inside.keys.index.spare }; index = inside.keys.index.index; cache = inside.cache.entries; pending = inside.pending } in
    let of = subst (λ (v : VersionName). IsRowOf before.table.keys (find_name before.table.keys.rows v.key) c.in-Some.row.now) c.version.view_is c.in-Some.ensures in
    let born = subst (λ (x : StoreState). IfSome (find_name x.table.keys.rows c.args.version.now.key) (λ key. key.birth ≡ c.args.birth)) (sym c.self.view_is) c.requires.birth in
    let a : Asked before c.args.version.now c.args.birth c.in-Some.row.now c.in-Some-place.place =
    record { of = of; born = born; placed = sym c.place.ensures.place ∙ c.in-Some-place.is; older = sym c.place.ensures.older ∙ ap is_some c.in-Some-place.is; sound = c.place.ensures.sound; file = c.self.invariant.0 } in
    let e = c.read_material.ensures in
    reads_by D0 (g.D.Disk.state c.read_material.new.disk) before c.args.self.now c.put.new.self.entries c.self.view_is c.self.invariant.0 e.same e.run e.moments
    (λ tells s.
    let got = (c.get.ensures.cached s.older before.index s.cached).1 in
    let is = c.in_ok-material.ensures.bytes tells ∙ file_has D0 before c.args.version.now c.args.birth c.in-Some.row.now c.in-Some-place.place a s in
    let older = older_key D0 before c.args.version.now c.args.birth c.in-Some.row.now c.in-Some-place.place a s in
    c.put.ensures.cached s.older before.index got
    (subst (λ (v : VersionName). c.in_ok-material.material ≡ s.older c.args.birth v.number) (sym c.version.view_is) is)
    (subst (λ (v : VersionName). IsOlder before.index (record { birth = c.args.birth; number = v.number })) (sym c.version.view_is) older))
