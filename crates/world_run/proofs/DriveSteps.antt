-- What an event of a drive does: a walk, the call for a batch, and a delivery.
use Rattle.std.proofs.Common.{◌≡◌, ◌⊎◌, inl, inr, ℕ, suc, ◌+◌, ◌-◌, ◌*◌, ◌<◌, ◌≤◌, Bool, true, List, [], ◌∷◌, ◌++◌, length, Option, Some, None, Ok, Err, refl, sym, ap, subst, ◌∙◌, arith}
use Rattle.std.specs.Prelude.{⊤, slice_get}
use Rattle.std.specs.declared.result.Result.{Result}
use Rattle.std.proofs.Math.Nat.{suc-mul}
use Rattle.hk_base.specs.Names.{Encrypted}
use Rattle.edit_ops.specs.declared.ops.EditOp.{EditOp}
use Rattle.kms_calls.specs.declared.calls.KmsReply.{KmsReply}
use Rattle.kms_calls.specs.declared.calls.KmsReply.TheVariants as key_reply
use Rattle.name_calls.specs.declared.calls.NameRefusal.{NameRefusal}
use Rattle.name_calls.specs.declared.paths.NPath.{NPath}
use Rattle.name_calls.specs.declared.status.Delivered.{Delivered}
use Rattle.name_core.specs.declared.walks.Walked.{Walked}
use Rattle.name_core.specs.declared.walks.Walked.TheVariants as walk
use Rattle.name_core.specs.Calls.{first_cause, path_causes}
use Rattle.name_core.specs.State.{IsNames, NameService, NameState, settled}
use Rattle.name_core.specs.Updates.{UpdateDeed, deliver_deed}
use Rattle.name_core.specs.Updating.{NameUpdates, UpdateServes}
use Rattle.name_core.specs.Walking.{NameWalks, WalkServes, WalkServesUnless}
use Rattle.name_core.proofs.WalkLaws.{walk-did}
use Rattle.prop_text.specs.declared.lines.PropLine.{PropLine}
use Rattle.reenc_walk.specs.declared.sent.BatchNote.{BatchNote}
use Rattle.reenc_update.specs.declared.reply.BatchResult.TheVariants as batch_result
use Rattle.hk_events.specs.declared.event.Line.{Line}
use Rattle.hk_events.specs.declared.event.Line.TheVariants as line
use Rattle.world_run.specs.declared.kept.KeptReply.TheVariants.{ToBatch}
use Rattle.world_run.specs.Acknowledged.{Acknowledged}
use Rattle.world_run.specs.Batches.{after_walk, reply_for, walk_line}
use Rattle.world_run.specs.Drives.{FailsNone, FirstWalks, KeysFailNone, SettlesAndWalks, add_batch, files_left, outstanding_in}
use Rattle.world_run.specs.Step.{DeliverReply, ServeActs, WalkAt, update_line}
use Rattle.world_run.specs.World.{WorldState, next_batch, next_reply, numbered}
use Rattle.world_run.proofs.Members.{some-is}
use Rattle.world_run.proofs.DriveNames.{Stage, Taken, deliver-moves, stage-of, walk-completes, walk-takes, walk-waits}

-- the namesystem

-- A walk that is not refused settles what was pending, and leaves nothing pending.
pub record HasWalked (s : NameService) (p : NPath) (walked : Walked) (s' : NameService) : Type 0 where
  pub kept : Bool
  pub walks : NameWalks (settled kept s) p (Ok walked) s'.names
  pub free : s'.pending ≡ None

pub has-walked : (s : NameService) (p : NPath) (fault : Type 0) (walked : Walked) (ops : List EditOp) (s' : NameService) → WalkServes s p fault (Ok walked) ops s' → HasWalked s p walked s'
has-walked s p fault walked ops s' serves = go (first_cause (path_causes p)) serves
  where
    go : (o : Option NameRefusal) → WalkServesUnless o s p fault (Ok walked) ops s' → HasWalked s p walked s'
    go (Some why) r = let e : Ok walked ≡ Err why = r.reply_is in absurd cc
    go None (inl u) = let e = u.ends.reply_is in absurd cc
    go None (inr (k, inl d)) = record {
      kept = k;
      walks = subst (λ (n : NameState). NameWalks (settled k s) p (Ok walked) n) (sym (ap (λ (n : NameService). n.names) d.left)) d.walks;
      free = ap (λ (n : NameService). n.pending) d.left;
    }
    go None (inr (k, inr u)) = let e = u.reply_is in absurd cc

-- the same of an update
pub record HasUpdated (s : NameService) (d : NameState → UpdateDeed) (delivered : Delivered) (s' : NameService) : Type 0 where
  pub kept : Bool
  pub updates : NameUpdates (settled kept s) d (Ok delivered) s'.names
  pub free : s'.pending ≡ None

pub has-updated : (s : NameService) (d : NameState → UpdateDeed) (fault : Type 0) (delivered : Delivered) (ops : List EditOp) (s' : NameService) → UpdateServes s d fault (Ok delivered) ops s' → HasUpdated s d delivered s'
has-updated s d fault delivered ops s' (inl u) = let e = u.ends.reply_is in absurd cc
has-updated s d fault delivered ops s' (inr (k, inl w)) = record {
  kept = k;
  updates = subst (λ (n : NameState). NameUpdates (settled k s) d (Ok delivered) n) (sym (ap (λ (n : NameService). n.names) w.left)) w.updates;
  free = ap (λ (n : NameService). n.pending) w.left;
}
has-updated s d fault delivered ops s' (inr (k, inr u)) = let e = u.reply_is in absurd cc

-- while nothing is pending, there is nothing to settle
pub settled-free : (s : NameService) (kept : Bool) → s.pending ≡ None → settled kept s ≡ s.names
settled-free s kept free = ap (λ (o : Option EditOp). settled kept (record { names = s.names; pending = o })) free

-- what is kept

last-got : {X : Type 0} (xs : List X) (x : X) → slice_get (xs ++ x ∷ []) (length xs) ≡ Some x
last-got [] x = refl
last-got (y ∷ ys) x = last-got ys x

one-more : (n : ℕ) → n + 1 ≡ suc n
one-more n = omega arith

-- what was added last is kept under the next number
pub numbered-last : {X : Type 0} (xs : List X) (x : X) → numbered (xs ++ x ∷ []) (length xs + 1) ≡ Some x
numbered-last xs x = ap (numbered (xs ++ x ∷ [])) (one-more (length xs)) ∙ last-got xs x

-- what is so after an answer

-- Between two rounds: nothing is pending, and this is left to do, with batches of this size.
pub record Rests (w : WorldState) (zone : NPath) (size left out : ℕ) : Type 0 where
  pub free : w.names.pending ≡ None
  pub size_is : w.names.names.batch ≡ size
  pub stage : Stage w.names.names zone left out

-- Within a round: a batch is outstanding.
pub record Holds (w : WorldState) (zone : NPath) (note : BatchNote) (size left out : ℕ) : Type 0 where
  pub free : w.names.pending ≡ None
  pub size_is : w.names.names.batch ≡ size
  pub taken : Taken w.names.names zone note left out

pub record HoldsBatch (w : WorldState) (zone : NPath) (number size left out : ℕ) : Type 0 where
  pub note : BatchNote
  pub kept_is : numbered w.kept.batches number ≡ Some note
  pub holds : Holds w zone note size left out

pub record HoldsReply (w : WorldState) (zone : NPath) (number : ℕ) (reply : Option KmsReply) (size left out : ℕ) : Type 0 where
  pub note : BatchNote
  pub given : KmsReply
  pub reply_is : reply ≡ Some given
  pub kept_is : numbered w.kept.replies number ≡ Some (ToBatch (reply_for note given))
  pub holds : Holds w zone note size left out

abbrev pub After : WorldState → NPath → ℕ → ℕ → ℕ → Line → Type 0
After w zone size left out (line.Batch number files) = HoldsBatch w zone number size left out
After w zone size left out (line.Replied number reply) = HoldsReply w zone number reply size left out
After w zone size left out (line.Delivered delivered) = Rests w zone size left out
After w zone size left out (line.NoneLeft count) = (count ≡ out) × (0 < out)
After w zone size left out line.Completed = out ≡ 0
After w zone size left out _ = ⊤

-- So far: this many batches of those that the files found fill, and what is so after the last answer.
pub record SoFar (found : NameState) (zone : NPath) (count : ℕ) (w : WorldState) (answer : Line) : Type 0 where
  pub few : count * found.batch < files_left found zone + found.batch
  pub after : After w zone found.batch (files_left found zone - count * found.batch) (outstanding_in found zone) answer

-- What is so after an event that follows an answer.
pub record GoesOn (found : NameState) (zone : NPath) (count : ℕ) (before : Line) (w : WorldState) (answer : Line) : Type 0 where
  pub so_far : SoFar found zone (add_batch answer count) w answer
  pub fails_none : KeysFailNone before answer

-- the numbers

more-few : (count size left : ℕ) → 0 < left - count * size → suc count * size < left + size
more-few count size left some = let e = suc-mul count size in omega (arith, e)

left-less : (count size left : ℕ) → left - count * size - size ≡ left - suc count * size
left-less count size left = let e = suc-mul count size in omega (arith, e)

-- a walk

-- a refusal ends the drive
refused : (found : NameState) (zone : NPath) (count : ℕ) (w : WorldState) (why : NameRefusal) (answer : Line) → answer ≡ line.Refused why → count * found.batch < files_left found zone + found.batch → SoFar found zone (add_batch answer count) w answer
refused found zone count w why answer is few = subst (λ (a : Line). SoFar found zone (add_batch a count) w a) (sym is) (record { few = few; after = tt })

none-pending : (n : NameService) → n.pending ≡ None → IsNames n → IsNames (record { names = n.names; pending = None })
none-pending n free names = subst (λ (o : Option EditOp). IsNames (record { names = n.names; pending = o })) free names

-- what a walk gives in a state, after this many batches
given : (found : NameState) (zone : NPath) (count : ℕ) (w : WorldState) (s : NameState) (walked : Walked) (n : NameService)
    → n.pending ≡ None → IsNames (after_walk (Ok walked) (record w { names = n })).names → s.batch ≡ found.batch → count * found.batch < files_left found zone + found.batch
    → Stage s zone (files_left found zone - count * found.batch) (outstanding_in found zone) → NameWalks s zone (Ok walked) n.names
    → SoFar found zone (add_batch (walk_line (Ok walked) (next_batch w)) count) (after_walk (Ok walked) (record w { names = n })) (walk_line (Ok walked) (next_batch w))
given found zone count w s (walk.Batch note) n free names size few stage walks =
    let t = walk-takes s zone (files_left found zone - count * found.batch) (outstanding_in found zone) note n.names stage (none-pending n free names) walks in
    let less : files_left found zone - count * found.batch - s.batch ≡ files_left found zone - suc count * found.batch =
    ap (λ (b : ℕ). files_left found zone - count * found.batch - b) size ∙ left-less count found.batch (files_left found zone) in
    record {
      few = more-few count found.batch (files_left found zone) t.some;
      after = record {
        note = note;
        kept_is = numbered-last w.kept.batches note;
        holds = record { free = free; size_is = t.batch ∙ size; taken = subst (λ (k : ℕ). Taken n.names zone note k (outstanding_in found zone)) less t.taken };
      };
    }
given found zone count w s (walk.NoneLeft waiting) n free names size few stage walks =
    let e = walk-waits s zone (files_left found zone - count * found.batch) (outstanding_in found zone) waiting n.names stage walks in
    record { few = few; after = (e.1, subst (λ (k : ℕ). 0 < k) e.1 e.2) }
given found zone count w s walk.Completed n free names size few stage walks =
    record { few = few; after = (walk-completes s zone (files_left found zone - count * found.batch) (outstanding_in found zone) n.names stage walks).1 }

-- A walk while nothing is pending. Its path is that of the zone, or breaks the rule of paths.
pub next-walk : (found : NameState) (zone : NPath) (count : ℕ) (w : WorldState) (o : Option NPath) (delivered : Delivered) (fault : Type 0) (answer : Line) (drawn : ℕ) (logged : Acknowledged) (w' : WorldState)
    → (o ≡ None) ⊎ (o ≡ Some zone) → SoFar found zone count w (line.Delivered delivered) → IsNames w'.names → WalkAt w o fault answer drawn logged w' → SoFar found zone (add_batch answer count) w' answer
next-walk found zone count w None delivered fault answer drawn logged w' read so names r = refused found zone count w' _ answer r.1.reply_is so.few
next-walk found zone count w (Some p) delivered fault answer drawn logged w' (inl none) so names r = absurd cc
next-walk found zone count w (Some p) delivered fault answer drawn logged w' (inr same) so names (inr r) = refused found zone count w' _ answer r.1.reply_is so.few
next-walk found zone count w (Some p) delivered fault answer drawn logged w' (inr same) so names (inl a) = go a.result a.reply_is a.left (subst (λ (q : NPath). WalkServes w.names q fault a.result a.ops a.names) (some-is p zone same) a.walks)
  where
    go : (result : Result Walked NameRefusal) → answer ≡ walk_line result (next_batch w) → w' ≡ after_walk result (record w { names = a.names }) → WalkServes w.names zone fault result a.ops a.names → SoFar found zone (add_batch answer count) w' answer
    go (Err why) is left serves = refused found zone count w' why answer is so.few
    go (Ok walked) is left serves =
        let h = has-walked w.names zone fault walked a.ops a.names serves in
        let same = settled-free w.names h.kept so.after.free in
        subst (λ (l : Line). SoFar found zone (add_batch l count) w' l) (sym is)
        (subst (λ (v : WorldState). SoFar found zone (add_batch (walk_line (Ok walked) (next_batch w)) count) v (walk_line (Ok walked) (next_batch w))) (sym left)
        (given found zone count w w.names.names walked a.names h.free (subst (λ (v : WorldState). IsNames v.names) left names) so.after.size_is so.few so.after.stage
        (subst (λ (s : NameState). NameWalks s zone (Ok walked) a.names.names) same h.walks)))

-- no batch was taken yet

pub some-room : (size left : ℕ) → 1 ≤ size → 0 * size < left + size
some-room size left some = omega (arith, some)

none-less : (size left : ℕ) → left ≡ left - 0 * size
none-less size left = omega arith

-- a walk changes the namesystem, whatever it gives
after-names : (walked : Walked) (w : WorldState) → (after_walk (Ok walked) w).names ≡ w.names
after-names (walk.Batch note) w = refl
after-names (walk.NoneLeft waiting) w = refl
after-names walk.Completed w = refl

first-walked : (w : WorldState) (zone : NPath) (w' : WorldState) (kept : Bool) (walked : Walked) (answer : Line) (n : NameService)
    → answer ≡ walk_line (Ok walked) (next_batch w) → w' ≡ after_walk (Ok walked) (record w { names = n }) → NameWalks (settled kept w.names) zone (Ok walked) n.names → n.pending ≡ None → SettlesAndWalks kept w zone answer w'
first-walked w zone w' kept walked answer n is left walks free =
    let same : w'.names ≡ n = ap (λ (v : WorldState). v.names) left ∙ after-names walked (record w { names = n }) in
    record {
      walked = walked;
      answer_is = is;
      walks = subst (λ (s : NameService). NameWalks (settled kept w.names) zone (Ok walked) s.names) (sym same) walks;
      none_pending = ap (λ (s : NameService). s.pending) same ∙ free;
    }

-- The first walk settles what was pending. A walk that is refused may have kept it or dropped it.
pub first-walk : (zone : NPath) (w : WorldState) (o : Option NPath) (fault : Type 0) (answer : Line) (drawn : ℕ) (logged : Acknowledged) (w' : WorldState)
    → (o ≡ None) ⊎ (o ≡ Some zone) → IsNames w.names → IsNames w'.names → WalkAt w o fault answer drawn logged w'
    → (kept : Bool) × SoFar (settled kept w.names) zone (add_batch answer 0) w' answer × FirstWalks kept w zone answer w'
first-walk zone w None fault answer drawn logged w' read before names r =
    (true, refused (settled true w.names) zone 0 w' _ answer r.1.reply_is (some-room w.names.names.batch (files_left (settled true w.names) zone) before.size.0), inr (_, r.1.reply_is))
first-walk zone w (Some p) fault answer drawn logged w' (inl none) before names r = absurd cc
first-walk zone w (Some p) fault answer drawn logged w' (inr same) before names (inr r) =
    (true, refused (settled true w.names) zone 0 w' _ answer r.1.reply_is (some-room w.names.names.batch (files_left (settled true w.names) zone) before.size.0), inr (_, r.1.reply_is))
first-walk zone w (Some p) fault answer drawn logged w' (inr same) before names (inl a) = go a.result a.reply_is a.left (subst (λ (q : NPath). WalkServes w.names q fault a.result a.ops a.names) (some-is p zone same) a.walks)
  where
    go : (result : Result Walked NameRefusal) → answer ≡ walk_line result (next_batch w) → w' ≡ after_walk result (record w { names = a.names }) → WalkServes w.names zone fault result a.ops a.names
        → (kept : Bool) × SoFar (settled kept w.names) zone (add_batch answer 0) w' answer × FirstWalks kept w zone answer w'
    go (Err why) is left serves =
        (true, refused (settled true w.names) zone 0 w' why answer is (some-room w.names.names.batch (files_left (settled true w.names) zone) before.size.0), inr (why, is))
    go (Ok walked) is left serves =
        let h = has-walked w.names zone fault walked a.ops a.names serves in
        let found = settled h.kept w.names in
        let stage = subst (λ (k : ℕ). Stage found zone k (outstanding_in found zone)) (none-less found.batch (files_left found zone)) (stage-of found zone (walk-did found zone walked a.names.names h.walks).free) in (
          h.kept,
          subst (λ (l : Line). SoFar found zone (add_batch l 0) w' l) (sym is)
              (subst (λ (v : WorldState). SoFar found zone (add_batch (walk_line (Ok walked) (next_batch w)) 0) v (walk_line (Ok walked) (next_batch w))) (sym left)
              (given found zone 0 w found walked a.names h.free (subst (λ (v : WorldState). IsNames v.names) left names) refl (some-room found.batch (files_left found zone) before.size.0) stage h.walks)),
          inl (first-walked w zone w' h.kept walked answer a.names is left h.walks h.free),
        )

-- the call for a batch

kept-under : {X : Type 0} (xs : List X) (number : ℕ) (x : X) (P : Option X → Type 0) → numbered xs number ≡ Some x → P (numbered xs number) → P (Some x)
kept-under xs number x P is p = subst P is p

-- the call for the batch that was taken leaves the namesystem as it is
pub serve-so-far : (found : NameState) (zone : NPath) (count : ℕ) (lines : List PropLine) (w : WorldState) (words : ℕ → ℕ) (now number files : ℕ) (fault tells : Type 0) (answer : Line) (drawn : ℕ) (logged : Acknowledged) (w' : WorldState)
    → SoFar found zone count w (line.Batch number files) → ServeActs lines w words now (numbered w.kept.batches number) fault tells answer drawn logged w' → SoFar found zone (add_batch answer count) w' answer
serve-so-far found zone count lines w words now number files fault tells answer drawn logged w' so serves =
    go (kept-under w.kept.batches number so.after.note (λ o. ServeActs lines w words now o fault tells answer drawn logged w') so.after.kept_is serves)
  where
    go : ServeActs lines w words now (Some so.after.note) fault tells answer drawn logged w' → SoFar found zone (add_batch answer count) w' answer
    go (inr r) = subst (λ (l : Line). SoFar found zone (add_batch l count) w' l) (sym r.reply_is) (record { few = so.few; after = tt })
    go (inl s) =
        subst (λ (l : Line). SoFar found zone (add_batch l count) w' l) (sym s.reply_is)
        (subst (λ (v : WorldState). SoFar found zone count v (line.Replied (next_reply w) (Some s.reply))) (sym s.left)
        (record {
          few = so.few;
          after = record {
            note = so.after.note;
            given = s.reply;
            reply_is = refl;
            kept_is = numbered-last w.kept.replies (ToBatch (reply_for so.after.note s.reply));
            holds = record { free = so.after.holds.free; size_is = so.after.holds.size_is; taken = so.after.holds.taken };
          };
        }))

-- a delivery

result-ready : (note : BatchNote) (reply : KmsReply) (keys : List Encrypted) → reply ≡ key_reply.Ready keys → (reply_for note reply).result ≡ batch_result.Ready keys
result-ready note reply keys is = ap (λ (r : KmsReply). (reply_for note r).result) is

-- The delivery of the reply for the batch that was taken leaves as much to do as before the batch was taken, without its files.
pub deliver-so-far : (found : NameState) (zone : NPath) (count : ℕ) (w : WorldState) (number : ℕ) (reply : Option KmsReply) (fault : Type 0) (answer : Line) (drawn : ℕ) (logged : Acknowledged) (w' : WorldState)
    → SoFar found zone count w (line.Replied number reply) → DeliverReply w (numbered w.kept.replies number) fault answer drawn logged w' → GoesOn found zone count (line.Replied number reply) w' answer
deliver-so-far found zone count w number reply fault answer drawn logged w' so delivers =
    let u = kept-under w.kept.replies number (ToBatch (reply_for so.after.note so.after.given)) (λ o. DeliverReply w o fault answer drawn logged w') so.after.kept_is delivers in
    go u.result u.reply_is u.names u.left u.serves
  where
    go : (result : Result Delivered NameRefusal) → answer ≡ update_line result → (n : NameService) → w' ≡ record w { names = n } → {ops : List EditOp} → UpdateServes w.names (deliver_deed (reply_for so.after.note so.after.given)) fault result ops n → GoesOn found zone count (line.Replied number reply) w' answer
    go (Err why) is n left serves = record { so_far = refused found zone count w' why answer is so.few; fails_none = λ other keys delivered replied was. absurd cc }
    go (Ok done) is n left {ops} serves =
        let h = has-updated w.names (deliver_deed (reply_for so.after.note so.after.given)) fault done ops n serves in
        let same = settled-free w.names h.kept so.after.holds.free in
        let m = deliver-moves w.names.names zone (files_left found zone - count * found.batch) (outstanding_in found zone) so.after.note (reply_for so.after.note so.after.given) done n.names so.after.holds.taken refl
        (subst (λ (s : NameState). NameUpdates s (deliver_deed (reply_for so.after.note so.after.given)) (Ok done) n.names) same h.updates) in
        record {
          so_far =
              subst (λ (l : Line). SoFar found zone (add_batch l count) w' l) (sym is)
              (subst (λ (v : WorldState). SoFar found zone count v (line.Delivered done)) (sym left)
              (record { few = so.few; after = record { free = h.free; size_is = m.batch ∙ so.after.holds.size_is; stage = m.stage } }));
          fails_none = λ other keys delivered replied was.
              let ready : so.after.given ≡ key_reply.Ready keys = cc (so.after.reply_is) in
              let delivered_is : done ≡ delivered = cc in
              subst FailsNone delivered_is (m.unfailed keys (result-ready so.after.note so.after.given keys ready));
        }
