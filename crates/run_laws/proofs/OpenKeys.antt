-- An encrypted key that opened stays open in a run.
use Rattle.std.proofs.Common.{◌≡◌, ◌∙◌, inl, ℕ, true, List, [], ◌∷◌, sym, subst}
use Rattle.std.proofs.lemmas.Slice.Eq.{bytes_eq-Decides}
use Rattle.hk_base.specs.declared.names.Edek.{Edek}
use Rattle.key_rows.specs.declared.rows.KeyRow.{KeyRow}
use Rattle.key_rows.specs.Sound.{NamesOnce}
use Rattle.key_rows.specs.Table.{is_named}
use Rattle.name_core.specs.Laws.{AnyFault}
use Rattle.world_run.specs.Ledger.{Draw, Ledger}
use Rattle.world_run.specs.Linked.{OpensTo}
use Rattle.world_run.specs.Promise.{In, OpensToItsDraw}
use Rattle.world_run.specs.World.{WorldState}
use Rattle.world_run.proofs.DrawLemmas.{only-named, opens-alone, opens-among, opens-named}
use Rattle.world_run.proofs.KeySteps.{KeepsBirths, StepsOn, known-world, service-births, step-on}
use Rattle.world_run.proofs.Laters.{opens-later, same-later, then-later}
use Rattle.run_laws.specs.Keys.{OpenedKeysStayOpen}
use Rattle.run_laws.specs.Runs.{DiskTells, LeadThrough}

leads-on : (w : WorldState) (between : List WorldState) (v : WorldState) → LeadThrough w between v → KeepsBirths w.keys → StepsOn w.keys v.keys
leads-on w [] v is k = subst (λ (x : WorldState). StepsOn w.keys x.keys) (sym is) (same-later w.keys.keys.table, k)
leads-on w (m ∷ ms) v leads k =
    let h = leads.0.happens in
    let first = step-on h.lines w h.words h.now leads.0.event AnyFault DiskTells leads.0.reply h.drawn h.logged m (known-world leads.0.event DiskTells tt) h.step k in
    let rest = leads-on m ms v leads.1 first.1 in
    (then-later w.keys.keys.table m.keys.keys.table v.keys.keys.table first.0 rest.0, rest.1)

-- opened among the keys of a table, and by the key alone

module _ (ledger : Ledger) (rows : List KeyRow) (once : NamesOnce rows) (id : ℕ) (edek : Edek) where
  by-its-key : (o : OpensToItsDraw ledger rows id edek) → OpensTo rows o.draw edek
  by-its-key o row i born =
      let has = o.opens row i born in
      let named : is_named edek.version.key row ≡ true = (bytes_eq-Decides row.name edek.version.key).1 (has.0 ∙ sym o.of_key) in
      record {
        opens = opens-alone rows row edek o.draw.dek (only-named edek.version.key rows row once i named) named has.1;
        long = (o.long row i born).0;
        vector = (o.long row i born).1;
      }

  among-keys : (draw : Draw) → In (id, draw) ledger → edek.version.key ≡ draw.version.key → edek.iv ≡ draw.iv → OpensTo rows draw edek → OpensToItsDraw ledger rows id edek
  among-keys draw entered of_key carries opens = record {
    draw = draw;
    entered = entered;
    of_key = of_key;
    carries = carries;
    opens = λ row i born. (opens-named row edek draw.dek (opens row i born).opens ∙ of_key, opens-among rows row edek draw.dek once i (opens row i born).opens);
    long = λ row i born. ((opens row i born).long, (opens row i born).vector);
  }

pub opened_keys_stay_open : OpenedKeysStayOpen
opened_keys_stay_open w h id edek between v fit linked leads later o =
    let on = leads-on w between v leads (service-births w.keys fit) in
    among-keys h.ledger v.keys.keys.table.rows later.table.names id edek o.draw o.entered o.of_key o.carries
    (opens-later w.keys.keys.table.rows v.keys.keys.table.rows o.draw edek (on.0.rows o.draw.birth (linked.draws.draws.born o.draw (inl (id, o.entered)))) (by-its-key h.ledger w.keys.keys.table.rows fit.table.names id edek o))
