use Rattle.std.proofs.Common.{rules, ◌≡◌, None, true, refl, sym, ◌∙◌, ap, subst}
use Rattle.std.specs.Prelude.{map}
use Rattle.frame_log.specs.Format.{IsPayload}
use Rattle.key_rows.specs.Table.{after, applies}
use Rattle.key_rows.specs.Records.{spelling}
use Rattle.key_index.specs.Index.{after_at}
use Rattle.key_index.specs.Sound.{IsSoundIndex}
use Rattle.kms_store.specs.Keys.{place_before}
use Rattle.kms_store.specs.Store.{IsKeyStoreOf, StoreState}
use Rattle.kms_store.proofs.Commits.{committed, last_fits, moments, now_waits, stands_alone}
use Rattle.kms_store.proofs.store.Store.commit.Goals as goal

pub returns-in-Ok-clause-committed : goal.returns-in-Ok-clause-committed
returns-in-Ok-clause-committed g c tells commands s =
    let D0 = g.D.Disk.state c.args.disk.now in
    let inside = c.self.inside in
    let command = c.args.command in
    let before : StoreState = record { log = inside.log; table = record { keys = inside.keys.table; spare = inside.keys.index.spare }; index = inside.keys.index.index; cache = inside.cache.entries; pending = inside.pending } in
    let none : inside.pending ≡ None = ap (λ (x : StoreState). x.pending) c.self.view_is ∙ c.requires.settled in
    let s0 : IsKeyStoreOf D0 before commands = subst (λ (x : StoreState). IsKeyStoreOf D0 x commands) (sym c.self.view_is) s in
    let may : applies inside.keys.table command ≡ true = subst (λ (x : StoreState). applies x.table.keys command ≡ true) (sym c.self.view_is) c.requires.applies in
    let spells : c.as_slice.result.now ≡ spelling command = search rules in
    let table : c.apply.new.self.table ≡ after inside.keys.table command = search rules in
    let index : c.apply.new.self.index.index ≡ after_at inside.keys.index.index command (place_before c.append.new.self.end command) = search rules in
    let sound : IsSoundIndex inside.keys.index.index = subst IsSoundIndex c.reserve_apply.ensures.index c.apply.ensures.sound in
    committed D0 (g.D.Disk.state c.append.new.disk) before commands command _ c.as_slice.result.now s0 none c.in_ok-write.ensures.spelled spells
    (record { sound = sound; may = may; table = table; index = index; cache = refl; none = none; file = c.append.ensures.file ∙ c.self.invariant.0 })
    (λ payloads stands. c.in-Ok.ensures.added tells None payloads stands)

pub returns-in-Ok-clause-any_moment : goal.returns-in-Ok-clause-any_moment
returns-in-Ok-clause-any_moment g c tells commands s =
    let D0 = g.D.Disk.state c.args.disk.now in
    let D1 = g.D.Disk.state c.append.new.disk in
    let inside = c.self.inside in
    let before : StoreState = record { log = inside.log; table = record { keys = inside.keys.table; spare = inside.keys.index.spare }; index = inside.keys.index.index; cache = inside.cache.entries; pending = inside.pending } in
    let none : inside.pending ≡ None = ap (λ (x : StoreState). x.pending) c.self.view_is ∙ c.requires.settled in
    let s0 : IsKeyStoreOf D0 before commands = subst (λ (x : StoreState). IsKeyStoreOf D0 x commands) (sym c.self.view_is) s in
    let spells : c.as_slice.result.now ≡ spelling c.args.command = search rules in
    let stands = stands_alone D0 D1 before commands c.args.command s0 none in
    let fits : IsPayload c.as_slice.result.now = last_fits (map spelling commands) c.as_slice.result.now (c.in-Ok.ensures.added tells None (map spelling commands) stands).sized in
    moments D0 D1 before commands c.args.command inside.log.file c.as_slice.result.now c.self.invariant.0 c.in_ok-write.ensures.spelled fits spells stands.sized (c.append.ensures.any_moment tells None (map spelling commands) stands)

pub returns-in-Err-StoreFault-clause-any_moment : goal.returns-in-Err-StoreFault-clause-any_moment
returns-in-Err-StoreFault-clause-any_moment g c tells commands s =
    let D0 = g.D.Disk.state c.args.disk.now in
    let D1 = g.D.Disk.state c.append.new.disk in
    let inside = c.self.inside in
    let before : StoreState = record { log = inside.log; table = record { keys = inside.keys.table; spare = inside.keys.index.spare }; index = inside.keys.index.index; cache = inside.cache.entries; pending = inside.pending } in
    let none : inside.pending ≡ None = ap (λ (x : StoreState). x.pending) c.self.view_is ∙ c.requires.settled in
    let s0 : IsKeyStoreOf D0 before commands = subst (λ (x : StoreState). IsKeyStoreOf D0 x commands) (sym c.self.view_is) s in
    let spells : c.as_slice.result.now ≡ spelling c.args.command = search rules in
    let stands = stands_alone D0 D1 before commands c.args.command s0 none in
    let fits : IsPayload c.as_slice.result.now = (c.in-Err-StoreFault.ensures.unsettled (search rules) tells None (map spelling commands) stands).payload in
    moments D0 D1 before commands c.args.command inside.log.file c.as_slice.result.now c.self.invariant.0 c.in_ok-write.ensures.spelled fits spells stands.sized (c.append.ensures.any_moment tells None (map spelling commands) stands)

pub returns-in-Err-StoreFault-clause-refused : goal.returns-in-Err-StoreFault-clause-refused
returns-in-Err-StoreFault-clause-refused g c tells commands s =
    let D0 = g.D.Disk.state c.args.disk.now in
    let D1 = g.D.Disk.state c.append.new.disk in
    let inside = c.self.inside in
    let before : StoreState = record { log = inside.log; table = record { keys = inside.keys.table; spare = inside.keys.index.spare }; index = inside.keys.index.index; cache = inside.cache.entries; pending = inside.pending } in
    let none : inside.pending ≡ None = ap (λ (x : StoreState). x.pending) c.self.view_is ∙ c.requires.settled in
    let s0 : IsKeyStoreOf D0 before commands = subst (λ (x : StoreState). IsKeyStoreOf D0 x commands) (sym c.self.view_is) s in
    let spells : c.as_slice.result.now ≡ spelling c.args.command = search rules in
    now_waits D0 D1 before _ commands c.args.command c.as_slice.result.now s0 none (record { table = search rules; index = search rules; cache = refl }) refl c.in_ok-write.ensures.spelled spells
    (λ payloads stands. c.in-Err-StoreFault.ensures.unsettled (search rules) tells None payloads stands)
