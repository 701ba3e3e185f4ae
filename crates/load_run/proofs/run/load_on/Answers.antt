use Rattle.std.proofs.Common.{List, refl, subst}
use Rattle.disk_kinds.specs.Plain.{state_of}
use Rattle.kms_acls.specs.Agreement.{AreListsOf}
use Rattle.prop_text.specs.Sizes.{default_sizes}
use Rattle.prop_text.specs.SizeValues.{SizeValues}
use Rattle.prop_text.specs.declared.lines.PropLine.{PropLine}
use Rattle.world_run.specs.Keeps.{BeginsFirstWorld}
use Rattle.load_run.specs.declared.counts.Counts.{Counts}
use Rattle.load_run.specs.History.{DoesInto}
use Rattle.load_run.specs.Load.{LoadLeads, Loads}
use Rattle.load_run.specs.Props.{open_lines}
use Rattle.load_run.proofs.OkLemmas.{ok_then}
use Rattle.load_run.proofs.ReadyLemmas.{ready_at_start}
use Rattle.load_run.proofs.StartLemmas.{first_of_empty}
use Rattle.load_run.proofs.run.load_on.Goals as goal

pub do_all_in-requires : goal.do_all_in-requires
do_all_in-requires g c =
    let begins = subst (λ (sizes : SizeValues). BeginsFirstWorld sizes (state_of c.args.disk.now) (state_of c.start.new.disk) c.in-Ok.world) c.requires.sizes c.in-Ok.ensures.began in
    let lists = subst (λ (lines : List PropLine). AreListsOf c.in-Ok.world.keys.acls lines) c.requires.lines c.in-Ok.ensures.lists in
    record { ready = ready_at_start default_sizes open_lines (state_of c.args.disk.now) (state_of c.start.new.disk) c.in-Ok.world refl begins lists }

pub returns-in-Ok : goal.returns-in-Ok
returns-in-Ok g c =
    let begins = subst (λ (sizes : SizeValues). BeginsFirstWorld sizes (state_of c.args.disk.now) (state_of c.start.new.disk) c.in-Ok.world) c.requires.sizes c.in-Ok.ensures.began in
    let lists = subst (λ (lines : List PropLine). AreListsOf c.in-Ok.world.keys.acls lines) c.requires.lines c.in-Ok.ensures.lists in
    record {
      loads =
          ok_then
          (λ (counts : Counts). DoesInto (LoadLeads g.W.Words.to_come) c.args.tasks.now.items (record { disk = c.start.new.disk; world = c.in-Ok.world; words = c.args.rand.now }) counts c.do_all_in.new.words)
          (λ (counts : Counts). Loads g.W.Words.to_come c.args.tasks.now.items c.args.rand.now c.do_all_in.new.words counts)
          c.do_all_in.result
          (λ counts does. record {
            empty = c.args.disk.now;
            first = record { disk = c.start.new.disk; world = c.in-Ok.world; words = c.args.rand.now };
            start = record {
              no_key_log = c.requires.no_key_log;
              no_edit_log = c.requires.no_edit_log;
              begins = begins;
              lists = lists;
              world_is = first_of_empty default_sizes (state_of c.args.disk.now) (state_of c.start.new.disk) c.in-Ok.world refl c.requires.no_key_log c.requires.no_edit_log begins;
            };
            words_are = refl;
            does = does;
          })
          c.do_all_in.ensures.does;
    }
