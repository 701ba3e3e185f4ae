use Rattle.std.proofs.Common.{◌≡◌, ◌∙◌, ◌<◌, ℕ, List, true, false, get_or, sym, arith, length}
use Rattle.std.specs.Prelude.{◌==◌}
use Rattle.std.proofs.lemmas.List.{get_or_default}
use Rattle.std.proofs.lemmas.Bool.{ne_eqb, eq-eqb}
use Rattle.snap_store.proofs.Taken.{id-here, id-missing}
use Rattle.snap_store.proofs.snaps.find_id.Goals as goal

same : (xs : List ℕ) (i id x : ℕ) → i < length xs → x ≡ get_or xs i x → x ≡ id → (get_or xs i 0 == id) ≡ true
same xs i id x b e f = eq-eqb (get_or xs i 0) id (sym (e ∙ get_or_default xs i x 0 b) ∙ f)

apart : (xs : List ℕ) (i id x : ℕ) → i < length xs → x ≡ get_or xs i x → (x ≡ id → ⊥) → (get_or xs i 0 == id) ≡ false
apart xs i id x b e f = ne_eqb (get_or xs i 0) id (λ g. f (e ∙ get_or_default xs i x 0 b ∙ g))

pub returns-then-at-len-clause-found : goal.returns-then-at-len-clause-found
returns-then-at-len-clause-found c = sym (id-missing c.args.ids.now.items c.args.id c.place_id-at.result c.requires c.place_id-at.ensures.parted (let e = c.if-at-len.true in omega arith)).0

pub returns-then-at-len-clause-rest : goal.returns-then-at-len-clause-rest
returns-then-at-len-clause-rest c = sym (id-missing c.args.ids.now.items c.args.id c.place_id-at.result c.requires c.place_id-at.ensures.parted (let e = c.if-at-len.true in omega arith)).1

pub returns-then-index-id-clause-rest : goal.returns-then-index-id-clause-rest
returns-then-index-id-clause-rest c = sym (id-here c.args.ids.now.items c.args.id c.place_id-at.result c.requires c.place_id-at.ensures.parted true (let e = c.if-at-len.false in let m = c.place_id-at.ensures.most in omega arith) (same c.args.ids.now.items c.place_id-at.result c.args.id c.index.result.now (let e = c.if-at-len.false in let m = c.place_id-at.ensures.most in omega arith) c.index.ensures c.if-index-id.true)).1

pub returns-else-index-id-clause-found : goal.returns-else-index-id-clause-found
returns-else-index-id-clause-found c = sym (id-here c.args.ids.now.items c.args.id c.place_id-at.result c.requires c.place_id-at.ensures.parted false (let e = c.if-at-len.false in let m = c.place_id-at.ensures.most in omega arith) (apart c.args.ids.now.items c.place_id-at.result c.args.id c.index.result.now (let e = c.if-at-len.false in let m = c.place_id-at.ensures.most in omega arith) c.index.ensures c.if-index-id.false)).0

pub returns-else-index-id-clause-rest : goal.returns-else-index-id-clause-rest
returns-else-index-id-clause-rest c = sym (id-here c.args.ids.now.items c.args.id c.place_id-at.result c.requires c.place_id-at.ensures.parted false (let e = c.if-at-len.false in let m = c.place_id-at.ensures.most in omega arith) (apart c.args.ids.now.items c.place_id-at.result c.args.id c.index.result.now (let e = c.if-at-len.false in let m = c.place_id-at.ensures.most in omega arith) c.index.ensures c.if-index-id.false)).1
