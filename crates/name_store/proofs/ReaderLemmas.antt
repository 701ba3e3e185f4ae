-- The operations that a reader of a log has returned, and the table that they make.
use Rattle.std.proofs.Common.{◌≡◌, ℕ, false, List, [], ◌∷◌, ◌++◌, map, refl, sym, ◌∙◌, ap, subst}
use Rattle.std.proofs.lemmas.List.{append_assoc, append-nil}
use Rattle.hk_base.specs.Disk.{DiskState, Tells}
use Rattle.edit_ops.specs.Records.{HasSpelling, spelling}
use Rattle.edit_ops.specs.declared.ops.EditOp.{EditOp}
use Rattle.edit_ops.proofs.RecordLemmas.{one_spelling}
use Rattle.edit_log.specs.declared.replay.PlacedOp.{PlacedOp}
use Rattle.edit_log.specs.declared.reader.OpReader.{OpReader}
use Rattle.edit_log.specs.Reader.{OpsAhead, IsFirstOp, HasNoNextOp}
use Rattle.name_store.specs.Table.{NameTable, Replayed, applies, nothing_logged}
use Rattle.name_store.specs.Replay.{Ids, IsMade, IsNext, IsRefusedAt, applies_beside}
use Rattle.name_store.proofs.Commits.{each_last}
use Rattle.name_store.proofs.Replays.{ComesTo, applies_same, comes_to_more, comes_to_none, spelled_more}
use Rattle.name_store.proofs.Starts.{no-next, openings-of}

-- operations were returned since `first`, and make this table
pub record SoFar (old now : DiskState) (first reader : OpReader) (t : NameTable) (has : Ids) : Type 0 where
  pub ops : List EditOp
  pub comes : ComesTo ops t has
  pub tells : Tells old → (todo : List (List ℕ)) → OpsAhead old first [] todo → (rest : List (List ℕ)) × (todo ≡ map spelling ops ++ rest) × OpsAhead now reader ops rest

pub none_so_far : (disk : DiskState) (reader : OpReader) (t : NameTable) (has : Ids) → t ≡ nothing_logged.table → ((id : ℕ) → has id ≡ false) → SoFar disk disk reader reader t has
none_so_far disk reader t has is none = record { ops = []; comes = comes_to_none t has is none; tells = λ tells todo a. (todo, refl, a) }

module _ (old now : DiskState) (first reader : OpReader) (t : NameTable) (has : Ids) (s : SoFar old now first reader t has) where
  -- the reader has no more
  pub made_here : (Tells old → (rest : List (List ℕ)) → OpsAhead now reader s.ops rest → rest ≡ []) → IsMade old first t
  made_here end = record {
    ops = s.ops;
    used = s.comes.used;
    makes = s.comes.makes;
    all = λ tells todo a. let p = s.tells tells todo a in (p.2.spelled, p.1 ∙ ap (λ (l : List (List ℕ)). map spelling s.ops ++ l) (end tells p.0 p.2) ∙ append-nil (map spelling s.ops));
  }

  -- the next record is no operation, or one that is out of turn
  pub no_operation : (at : ℕ) → Tells old → ((rest : List (List ℕ)) → OpsAhead now reader s.ops rest → HasNoNextOp reader s.ops rest at) → (todo : List (List ℕ)) → OpsAhead old first [] todo → IsRefusedAt todo at
  no_operation at tells none todo a =
      let p = s.tells tells todo a in
      let h = none p.0 p.2 in
      let last : reader.opening ≡ t.opening = cc (sym p.2.turns ∙ openings-of nothing_logged (record { table = t; used = s.comes.used }) s.ops s.comes.makes) in
      record {
        ops = s.ops;
        payload = h.payload;
        payloads = h.rest;
        made = record { table = t; used = s.comes.used };
        spelled = p.2.spelled;
        split = p.1 ∙ ap (λ (l : List (List ℕ)). map spelling s.ops ++ l) h.first;
        makes = s.comes.makes;
        not_next = no-next (record { table = t; used = s.comes.used }) reader.opening h.payload last h.not_next;
        place = h.place;
      }

  module _ (new : DiskState) (after : OpReader) (placed : PlacedOp) (read : Tells old → (rest : List (List ℕ)) → OpsAhead now reader s.ops rest → IsFirstOp new after s.ops rest placed) where
    -- the next operation applies
    pub one_more : (u : NameTable) (had : Ids) → IsNext t has placed.op u had → SoFar old new first after u had
    one_more u had n = record {
      ops = s.ops ++ placed.op ∷ [];
      comes = comes_to_more s.ops placed.op t u has had s.comes n;
      tells = λ tells todo a.
          let p = s.tells tells todo a in
          let f = read tells p.0 p.2 in
          let so_far : List (List ℕ) = map spelling s.ops in (
            f.rest,
            p.1
                ∙ ap (λ (l : List (List ℕ)). so_far ++ l) f.first
                ∙ sym (append_assoc so_far (spelling placed.op ∷ []) f.rest)
                ∙ ap (λ (l : List (List ℕ)). l ++ f.rest) (sym (spelled_more s.ops placed.op)),
            f.ahead,
          );
    }

    -- it doesn't
    pub not_applied : (at : ℕ) → placed.at ≡ at → applies_beside t has placed.op ≡ false → Tells old → (todo : List (List ℕ)) → OpsAhead old first [] todo → IsRefusedAt todo at
    not_applied at place none tells todo a =
        let p = s.tells tells todo a in
        let f = read tells p.0 p.2 in
        let spelled : HasSpelling placed.op = each_last HasSpelling s.ops placed.op f.ahead.spelled in
        let r : Replayed = record { table = t; used = s.comes.used } in
        record {
          ops = s.ops;
          payload = spelling placed.op;
          payloads = f.rest;
          made = r;
          spelled = p.2.spelled;
          split = p.1 ∙ ap (λ (l : List (List ℕ)). map spelling s.ops ++ l) f.first;
          makes = s.comes.makes;
          not_next = λ o spells is. subst (λ (x : EditOp). applies r x ≡ false) (one_spelling placed.op o spelled spells is) (applies_same t has s.comes.used placed.op s.comes.ids ∙ none);
          place = sym place ∙ f.place;
        }
