-- Operations one after another.
use Rattle.std.proofs.Common.{◌≡◌, ℕ, Bool, true, false, not, ◌&&◌, ◌||◌, ◌==◌, List, [], ◌∷◌, ◌++◌, map, Some, refl, sym, ◌∙◌, ap}
use Rattle.std.specs.List.{list_any}
use Rattle.edit_ops.specs.Records.{spelling}
use Rattle.edit_ops.specs.declared.ops.EditOp.{EditOp}
use Rattle.log_kinds.proofs.Replays as kinds
use Rattle.name_store.specs.Table.{NameTable, Replayed, after, allows, applies, is_among, name_kind, nothing_logged, uses}
use Rattle.name_store.specs.Replay.{Ids, IsNext, applies_beside, name_replay}

-- one more operation, which applies
pub replay_more : (t u : Replayed) (ops : List EditOp) (op : EditOp) → name_replay t ops ≡ Some u → applies u op ≡ true → name_replay t (ops ++ op ∷ []) ≡ Some (after u op)
replay_more = kinds.replay_more name_kind

pub spelled_more : (ops : List EditOp) (op : EditOp) → map spelling (ops ++ op ∷ []) ≡ map spelling ops ++ spelling op ∷ []
spelled_more = kinds.spelled_more name_kind

-- ids used, as a list and as a set

abbrev pub AreIds : Ids → List ℕ → Type 0
AreIds has used = (id : ℕ) → is_among used id ≡ has id

same_uses : (has : Ids) (used ids : List ℕ) → AreIds has used → list_any (is_among used) ids ≡ list_any has ids
same_uses has used [] same = refl
same_uses has used (id ∷ ids) same = ap (λ (b : Bool). b || list_any (is_among used) ids) (same id) ∙ ap (λ (b : Bool). has id || b) (same_uses has used ids same)

pub applies_same : (t : NameTable) (has : Ids) (used : List ℕ) (op : EditOp) → AreIds has used → applies (record { table = t; used = used }) op ≡ applies_beside t has op
applies_same t has used op same = ap (λ (b : Bool). allows t op && not b) (same_uses has used (uses op) same)

or_assoc : (a b c : Bool) → (a || (b || c)) ≡ ((a || b) || c)
or_assoc true b c = refl
or_assoc false b c = refl

pub among_append : (ids used : List ℕ) (id : ℕ) → is_among (ids ++ used) id ≡ (is_among ids id || is_among used id)
among_append [] used id = refl
among_append (i ∷ ids) used id = ap (λ (b : Bool). i == id || b) (among_append ids used id) ∙ or_assoc (i == id) (is_among ids id) (is_among used id)

-- the operations make this table, and used these ids
pub record ComesTo (ops : List EditOp) (t : NameTable) (has : Ids) : Type 0 where
  pub used : List ℕ
  pub makes : name_replay nothing_logged ops ≡ Some (record { table = t; used = used })
  pub ids : AreIds has used

-- no operations make the root alone
pub comes_to_none : (t : NameTable) (has : Ids) → t ≡ nothing_logged.table → ((id : ℕ) → has id ≡ false) → ComesTo [] t has
comes_to_none t has is none = record {
  used = [];
  makes = ap (λ (x : NameTable). Some (record { table = x; used = [] })) (sym is);
  ids = λ id. sym (none id);
}

pub comes_to_more : (ops : List EditOp) (op : EditOp) (t u : NameTable) (has had : Ids) → ComesTo ops t has → IsNext t has op u had → ComesTo (ops ++ op ∷ []) u had
comes_to_more ops op t u has had c n = record {
  used = uses op ++ c.used;
  makes =
      replay_more nothing_logged (record { table = t; used = c.used }) ops op c.makes (applies_same t has c.used op c.ids ∙ n.may)
      ∙ ap (λ (x : NameTable). Some (record { table = x; used = uses op ++ c.used })) (sym n.table);
  ids = λ id. among_append (uses op) c.used id ∙ ap (λ (b : Bool). is_among (uses op) id || b) (c.ids id) ∙ sym (n.ids id);
}
