use Rattle.std.proofs.Common.{rules, ◌≡◌, ◌≤◌, true, false, Option, Some, None, refl, sym, ◌∙◌, ap, subst}
use Rattle.std.specs.Prelude.{IfSome}
use Rattle.key_rows.specs.Table.{applies, after, need}
use Rattle.key_rows.specs.declared.rows.KeyCommand.{KeyCommand}
use Rattle.key_index.specs.Index.{after_at}
use Rattle.kms_store.specs.Keys.{place_before}
use Rattle.kms_store.specs.Store.{IsKeyStoreOf, SettlesKeys, StoreState}
use Rattle.kms_store.proofs.Commits.{Advances, dropped, kept, settle_moments, settles_dropped, settles_kept, still_waits}
use Rattle.kms_store.proofs.store.Store.settle.Goals as goal

pub returns-in_ok-apply-clause-kept : goal.returns-in_ok-apply-clause-kept
returns-in_ok-apply-clause-kept g c tells commands command s waits gate =
    let D0 = g.D.Disk.state c.args.disk.now in
    let D1 = g.D.Disk.state c.settle.new.disk in
    let inside = c.self.inside in
    let before : StoreState = record { log = inside.log; table = record { keys = inside.keys.table; spare = inside.keys.index.spare }; index = inside.keys.index.index; cache = inside.cache.entries; pending = inside.pending } in
    let s0 : IsKeyStoreOf D0 before commands = subst (λ (x : StoreState). IsKeyStoreOf D0 x commands) (sym c.self.view_is) s in
    let waits_inside : inside.pending ≡ Some command = ap (λ (x : StoreState). x.pending) c.self.view_is ∙ waits in
    let got : c.in-Some.command ≡ command = search rules in
    let may : applies inside.keys.table command ≡ true = (subst (λ (o : Option KeyCommand). IfSome o (λ (x : KeyCommand). (applies inside.keys.table x ≡ true) × (need x ≤ inside.keys.index.spare))) waits_inside c.self.invariant.2).0 in
    let table : c.apply.new.self.table ≡ after inside.keys.table command = search rules in
    let index : c.apply.new.self.index.index ≡ after_at inside.keys.index.index command (place_before c.settle.new.self.end command) = search rules in
    let new : StoreState = record { log = c.settle.new.self; table = record { keys = c.apply.new.self.table; spare = c.apply.new.self.index.spare }; index = c.apply.new.self.index.index; cache = inside.cache.entries; pending = c.take.new.self } in
    let advances : Advances before new command = record { sound = c.apply.ensures.sound; may = may; table = table; index = index; cache = refl; none = c.take.ensures.after; file = c.settle.ensures.file ∙ c.self.invariant.0 } in
    kept D0 D1 before commands command new c.in-Ok.kept s0 waits_inside c.if-kept.true advances (λ payloads payload stands. c.in-Ok.ensures.settled tells None payloads payload stands)

pub returns-in_ok-apply-clause-settles : goal.returns-in_ok-apply-clause-settles
returns-in_ok-apply-clause-settles g c =
    let D0 = g.D.Disk.state c.args.disk.now in
    let D1 = g.D.Disk.state c.settle.new.disk in
    let inside = c.self.inside in
    let before : StoreState = record { log = inside.log; table = record { keys = inside.keys.table; spare = inside.keys.index.spare }; index = inside.keys.index.index; cache = inside.cache.entries; pending = inside.pending } in
    let command = c.in-Some.command in
    let waits_inside : inside.pending ≡ Some command = search rules in
    let may : applies inside.keys.table command ≡ true = (subst (λ (o : Option KeyCommand). IfSome o (λ (x : KeyCommand). (applies inside.keys.table x ≡ true) × (need x ≤ inside.keys.index.spare))) waits_inside c.self.invariant.2).0 in
    let table : c.apply.new.self.table ≡ after inside.keys.table command = search rules in
    let index : c.apply.new.self.index.index ≡ after_at inside.keys.index.index command (place_before c.settle.new.self.end command) = search rules in
    let new : StoreState = record { log = c.settle.new.self; table = record { keys = c.apply.new.self.table; spare = c.apply.new.self.index.spare }; index = c.apply.new.self.index.index; cache = inside.cache.entries; pending = c.take.new.self } in
    let advances : Advances before new command = record { sound = c.apply.ensures.sound; may = may; table = table; index = index; cache = refl; none = c.take.ensures.after; file = c.settle.ensures.file ∙ c.self.invariant.0 } in
    subst (SettlesKeys D0 D1 c.args.self.now new) (sym c.if-kept.true)
    (subst (λ (x : StoreState). SettlesKeys D0 D1 x new true) c.self.view_is
    (settles_kept D0 D1 before new command waits_inside c.take.ensures.after table
    (λ tells commands s. kept D0 D1 before commands command new c.in-Ok.kept s waits_inside c.if-kept.true advances (λ payloads payload stands. c.in-Ok.ensures.settled tells None payloads payload stands))))

pub returns-in-Err-clause-any_moment : goal.returns-in-Err-clause-any_moment
returns-in-Err-clause-any_moment g c tells commands command s waits =
    let D0 = g.D.Disk.state c.args.disk.now in
    let D1 = g.D.Disk.state c.settle.new.disk in
    let inside = c.self.inside in
    let before : StoreState = record { log = inside.log; table = record { keys = inside.keys.table; spare = inside.keys.index.spare }; index = inside.keys.index.index; cache = inside.cache.entries; pending = inside.pending } in
    let s0 : IsKeyStoreOf D0 before commands = subst (λ (x : StoreState). IsKeyStoreOf D0 x commands) (sym c.self.view_is) s in
    let waits_inside : inside.pending ≡ Some command = ap (λ (x : StoreState). x.pending) c.self.view_is ∙ waits in
    settle_moments D0 D1 before commands command s0 waits_inside c.self.invariant.0 (λ payloads payload stands. c.settle.ensures.any_moment tells None payloads payload stands)

pub returns-in_ok-apply-clause-any_moment : goal.returns-in_ok-apply-clause-any_moment
returns-in_ok-apply-clause-any_moment g c tells commands command s waits =
    let D0 = g.D.Disk.state c.args.disk.now in
    let D1 = g.D.Disk.state c.settle.new.disk in
    let inside = c.self.inside in
    let before : StoreState = record { log = inside.log; table = record { keys = inside.keys.table; spare = inside.keys.index.spare }; index = inside.keys.index.index; cache = inside.cache.entries; pending = inside.pending } in
    let s0 : IsKeyStoreOf D0 before commands = subst (λ (x : StoreState). IsKeyStoreOf D0 x commands) (sym c.self.view_is) s in
    let waits_inside : inside.pending ≡ Some command = ap (λ (x : StoreState). x.pending) c.self.view_is ∙ waits in
    settle_moments D0 D1 before commands command s0 waits_inside c.self.invariant.0 (λ payloads payload stands. c.settle.ensures.any_moment tells None payloads payload stands)

pub returns-else-kept-clause-any_moment : goal.returns-else-kept-clause-any_moment
returns-else-kept-clause-any_moment g c tells commands command s waits =
    let D0 = g.D.Disk.state c.args.disk.now in
    let D1 = g.D.Disk.state c.settle.new.disk in
    let inside = c.self.inside in
    let before : StoreState = record { log = inside.log; table = record { keys = inside.keys.table; spare = inside.keys.index.spare }; index = inside.keys.index.index; cache = inside.cache.entries; pending = inside.pending } in
    let s0 : IsKeyStoreOf D0 before commands = subst (λ (x : StoreState). IsKeyStoreOf D0 x commands) (sym c.self.view_is) s in
    let waits_inside : inside.pending ≡ Some command = ap (λ (x : StoreState). x.pending) c.self.view_is ∙ waits in
    settle_moments D0 D1 before commands command s0 waits_inside c.self.invariant.0 (λ payloads payload stands. c.settle.ensures.any_moment tells None payloads payload stands)

pub returns-in-Err-clause-refused : goal.returns-in-Err-clause-refused
returns-in-Err-clause-refused g c tells commands s =
    let D0 = g.D.Disk.state c.args.disk.now in
    let D1 = g.D.Disk.state c.settle.new.disk in
    let inside = c.self.inside in
    let before : StoreState = record { log = inside.log; table = record { keys = inside.keys.table; spare = inside.keys.index.spare }; index = inside.keys.index.index; cache = inside.cache.entries; pending = inside.pending } in
    let s0 : IsKeyStoreOf D0 before commands = subst (λ (x : StoreState). IsKeyStoreOf D0 x commands) (sym c.self.view_is) s in
    let some : ¬ (inside.pending ≡ None) = search rules in
    still_waits D0 D1 before commands c.settle.new.self s0 some (λ payloads payload stands. c.in-Err.ensures.unsettled refl tells None payloads payload stands)

pub returns-else-kept-clause-dropped : goal.returns-else-kept-clause-dropped
returns-else-kept-clause-dropped g c tells commands s gate =
    let D0 = g.D.Disk.state c.args.disk.now in
    let D1 = g.D.Disk.state c.settle.new.disk in
    let inside = c.self.inside in
    let before : StoreState = record { log = inside.log; table = record { keys = inside.keys.table; spare = inside.keys.index.spare }; index = inside.keys.index.index; cache = inside.cache.entries; pending = inside.pending } in
    let s0 : IsKeyStoreOf D0 before commands = subst (λ (x : StoreState). IsKeyStoreOf D0 x commands) (sym c.self.view_is) s in
    let some : ¬ (inside.pending ≡ None) = search rules in
    let new : StoreState = record { log = c.settle.new.self; table = record { keys = inside.keys.table; spare = inside.keys.index.spare }; index = inside.keys.index.index; cache = inside.cache.entries; pending = c.take.new.self } in
    let same : c.match-command.self ≡ new = search rules in
    subst (λ (x : StoreState). IsKeyStoreOf D1 x commands) (sym same)
    (dropped D0 D1 before commands c.settle.new.self c.take.new.self c.in-Ok.kept s0 some c.take.ensures.after c.if-kept.false (λ payloads payload stands. c.in-Ok.ensures.settled tells None payloads payload stands))

pub returns-else-kept-clause-settles : goal.returns-else-kept-clause-settles
returns-else-kept-clause-settles g c =
    let D0 = g.D.Disk.state c.args.disk.now in
    let D1 = g.D.Disk.state c.settle.new.disk in
    let inside = c.self.inside in
    let before : StoreState = record { log = inside.log; table = record { keys = inside.keys.table; spare = inside.keys.index.spare }; index = inside.keys.index.index; cache = inside.cache.entries; pending = inside.pending } in
    let some : ¬ (inside.pending ≡ None) = search rules in
    let new : StoreState = record { log = c.settle.new.self; table = record { keys = inside.keys.table; spare = inside.keys.index.spare }; index = inside.keys.index.index; cache = inside.cache.entries; pending = c.take.new.self } in
    let same : c.match-command.self ≡ new = search rules in
    subst (λ (x : StoreState). SettlesKeys D0 D1 c.args.self.now x c.in-Ok.kept) (sym same)
    (subst (SettlesKeys D0 D1 c.args.self.now new) (sym c.if-kept.false)
    (subst (λ (x : StoreState). SettlesKeys D0 D1 x new false) c.self.view_is
    (settles_dropped D0 D1 before new c.take.ensures.after refl
    (λ tells commands s. dropped D0 D1 before commands c.settle.new.self c.take.new.self c.in-Ok.kept s some c.take.ensures.after c.if-kept.false (λ payloads payload stands. c.in-Ok.ensures.settled tells None payloads payload stands)))))
