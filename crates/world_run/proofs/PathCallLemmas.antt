-- What is read of an event about paths, and what happens by it.
use Rattle.std.proofs.Common.{◌≡◌, inl, inr, ℕ, List, Option, Some, None, Ok, Err, refl, sym, ap, subst}
use Rattle.std.specs.Option.{option_map}
use Rattle.hk_base.specs.Disk.{DiskState}
use Rattle.hk_base.specs.declared.texts.Text.{Text}
use Rattle.name_calls.specs.declared.calls.NameCall.{NameCall}
use Rattle.name_calls.specs.declared.calls.NameCall.TheVariants as call
use Rattle.name_calls.specs.declared.calls.NameReply.{NameReply}
use Rattle.name_calls.specs.declared.paths.PathFault.{PathFault}
use Rattle.name_calls.specs.declared.paths.PathFault.TheVariants.{BadPath, NoMemory}
use Rattle.name_calls.specs.Paths.{read_path}
use Rattle.name_calls.specs.ReadPaths.{read_any_path}
use Rattle.prop_text.specs.declared.lines.PropLine.{PropLine}
use Rattle.hk_events.specs.declared.event.Event.{Event}
use Rattle.hk_events.specs.declared.event.Event.TheVariants as event
use Rattle.hk_events.specs.declared.event.Line.{Line}
use Rattle.hk_events.specs.declared.event.Line.TheVariants as line
use Rattle.world_run.specs.Does.{CallHappens, Happens, PathHappens}
use Rattle.world_run.specs.PathCalls.{IsPathCallRead, ReadsCall, path_call}
use Rattle.world_run.specs.RenamePaths.{read_rename_paths, rename_along}
use Rattle.world_run.specs.SnapPaths.{read_snap_path, snap_at, unsnap_at}
use Rattle.world_run.specs.Step.{delete_with, unread_reply}
use Rattle.world_run.specs.World.{RunningWorld}
use Rattle.world_run.proofs.Members.{some-is}
use Rattle.world_run.proofs.StepLemmas.{path-called, path-unread}

-- a reading of bytes, as that of a call

pub is-read : {X : Type 0} (c : X → NameCall) (o : Option X) (x : X) → o ≡ Some x → IsPathCallRead (option_map c o) (Ok (c x))
is-read {X = X} c o x is = subst (λ (y : Option X). IsPathCallRead (option_map c y) (Ok (c x))) (sym is) (inl refl)

pub not-read : {X : Type 0} (c : X → NameCall) (o : Option X) (fault : PathFault) → (fault ≡ BadPath → o ≡ None) → (o ≡ None → fault ≡ BadPath) → IsPathCallRead (option_map c o) (Err fault)
not-read c None fault bad only = ap Err (only refl)
not-read c (Some x) BadPath bad only = absurd (cc (bad refl))
not-read c (Some x) NoMemory bad only = inr refl

-- the call of an event

abbrev the_call : NameCall → NameCall
the_call made = made

abbrev asked : Text → Option NameCall → Text × Option NameCall
asked user read = (user, read)

module _ (lines : List PropLine) (old new : DiskState) (w w' : RunningWorld) (words : ℕ → ℕ) (now : ℕ) where
  as-read : {X : Type 0} (user : Text) (c : X → NameCall) (o : Option X) (outcome : Line) → PathHappens old new w user the_call (option_map c o) outcome w' → PathHappens old new w user c o outcome w'
  as-read user c None outcome h = h
  as-read user c (Some x) outcome h = h

  at : {X : Type 0} (c : X → NameCall) (o : Option X) (user given : Text) (read : Option NameCall) (outcome : Line) → Some (asked user (option_map c o)) ≡ Some (asked given read) → PathHappens old new w given the_call read outcome w' → PathHappens old new w user c o outcome w'
  at c o user given read outcome is h =
      as-read user c o outcome
      (subst (λ (p : Text × Option NameCall). PathHappens old new w p.0 the_call p.1 outcome w') (sym (some-is (asked user (option_map c o)) (asked given read) is)) h)

  path-happens : (e : Event) (given : Text) (read : Option NameCall) (outcome : Line) → path_call e ≡ Some (asked given read) → PathHappens old new w given the_call read outcome w' → Happens lines old new w words now e outcome w' words
  path-happens (event.Mkdir user path) given read outcome is h = at call.Mkdir (read_path path) user given read outcome is h words
  path-happens (event.Delete user path recursive) given read outcome is h = at (delete_with recursive) (read_path path) user given read outcome is h words
  path-happens (event.Rename user path to) given read outcome is h = at rename_along (read_rename_paths path to) user given read outcome is h words
  path-happens (event.Info user path) given read outcome is h = at call.Info (read_any_path path) user given read outcome is h words
  path-happens (event.List user path) given read outcome is h = at call.List (read_any_path path) user given read outcome is h words
  path-happens (event.Allow user path) given read outcome is h = at call.Allow (read_path path) user given read outcome is h words
  path-happens (event.Disallow user path) given read outcome is h = at call.Disallow (read_path path) user given read outcome is h words
  path-happens (event.Snap user path name) given read outcome is h = at snap_at (read_snap_path path name) user given read outcome is h words
  path-happens (event.Unsnap user path name) given read outcome is h = at unsnap_at (read_snap_path path name) user given read outcome is h words
  path-happens (event.Cancel user path) given read outcome is h = at call.Cancel (read_path path) user given read outcome is h words
  path-happens (event.Status user path) given read outcome is h = at call.Status (read_path path) user given read outcome is h words
  path-happens (event.Kms u c) given read outcome is h = absurd cc
  path-happens event.Ticket given read outcome is h = absurd cc
  path-happens (event.Deposit n) given read outcome is h = absurd cc
  path-happens event.RestartKms given read outcome is h = absurd cc
  path-happens event.RestartName given read outcome is h = absurd cc
  path-happens (event.Zones u) given read outcome is h = absurd cc
  path-happens (event.AskCreate u p) given read outcome is h = absurd cc
  path-happens (event.AskZone u p k) given read outcome is h = absurd cc
  path-happens (event.AskSubmit u p) given read outcome is h = absurd cc
  path-happens (event.Draw n) given read outcome is h = absurd cc
  path-happens (event.Finish n) given read outcome is h = absurd cc
  path-happens (event.Walk p) given read outcome is h = absurd cc
  path-happens (event.Serve n) given read outcome is h = absurd cc
  path-happens (event.Deliver n) given read outcome is h = absurd cc
  path-happens (event.GiveUp n) given read outcome is h = absurd cc

  -- it was read, and made
  pub call-made : (e : Event) (user : Text) (made : NameCall) (outcome : Line) → ReadsCall e user (Ok made) → CallHappens old new w user made outcome w' → Happens lines old new w words now e outcome w' words
  call-made e user made outcome reads h = path-happens e user reads.0 outcome reads.1 (path-called old new w w' user the_call reads.0 made outcome (go reads.0 reads.2) h)
    where
      go : (read : Option NameCall) → IsPathCallRead read (Ok made) → read ≡ Some made
      go None is = absurd (cc is)
      go (Some it) (inl is) = cc is
      go (Some it) (inr is) = absurd (cc is)

-- it was not read
pub call-unread : (lines : List PropLine) (d : DiskState) (w w' : RunningWorld) (words : ℕ → ℕ) (now : ℕ) (e : Event) (user : Text) (fault : PathFault) (outcome : NameReply) → ReadsCall e user (Err fault) → w' ≡ w → outcome ≡ unread_reply fault
    → Happens lines d d w words now e (line.Name outcome) w' words
call-unread lines d w w' words now e user fault outcome reads same is =
    path-happens lines d d w w' words now e user reads.0 (line.Name outcome) reads.1 (path-unread d w w' user the_call reads.0 fault outcome same is (bad reads.0 fault reads.2) (only reads.0 fault reads.2))
  where
    bad : (read : Option NameCall) (f : PathFault) → IsPathCallRead read (Err f) → f ≡ BadPath → read ≡ None
    bad None f is b = refl
    bad (Some it) f (inl is) b = absurd (cc is)
    bad (Some it) BadPath (inr is) b = absurd (cc is)
    bad (Some it) NoMemory (inr is) b = absurd (cc b)

    only : (read : Option NameCall) (f : PathFault) → IsPathCallRead read (Err f) → read ≡ None → f ≡ BadPath
    only None f is n = cc is
    only (Some it) f is n = absurd (cc n)
