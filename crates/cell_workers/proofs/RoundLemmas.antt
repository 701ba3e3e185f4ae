-- How the last round goes on.
use Rattle.std.specs.Prelude.{◌≡◌, ℕ, Bool, true, false, cond, List, [], ◌∷◌, ◌++◌, Some, None, Result, Ok, Err, IfOk, OnOk, is_err, take, length, ◌+◌, ◌<◌, All}
use Rattle.std.proofs.lemmas.List.Elements.{All-append, All-cons, All-nil}
use Rattle.std.proofs.Common.{get_or, refl, ap, sym, ◌∙◌, subst, append_assoc, append-nil}
use Rattle.hk_base.specs.Disk.{DiskState}
use Rattle.hk_base.specs.declared.texts.NoMemory.{NoMemory}
use Rattle.hk_base.specs.declared.texts.Text.{Text}
use Rattle.name_calls.specs.declared.calls.NameCall.TheVariants as call
use Rattle.name_calls.specs.declared.calls.NameRefusal.{NameRefusal}
use Rattle.name_calls.specs.declared.calls.NameReply.{NameReply}
use Rattle.name_calls.specs.declared.paths.NPath.{NPath}
use Rattle.name_calls.specs.declared.status.Delivered.{Delivered}
use Rattle.name_calls.specs.declared.zone_list.ZonePath.{ZonePath}
use Rattle.reenc_walk.specs.declared.sent.BatchNote.{BatchNote}
use Rattle.reenc_update.specs.Replies.{ReplyState}
use Rattle.name_core.specs.Calls.{superuser}
use Rattle.name_core.specs.declared.walks.Walked.{Walked}
use Rattle.turns.specs.Turns.{LendsTurn, ServesTurn}
use Rattle.kms_cell.specs.Entries.{KmsKnown}
use Rattle.name_history.specs.Entries.{Makes, MakesMeeting, NameEntry, NameKnown}
use Rattle.name_history.specs.Served.{GotForBatch}
use Rattle.name_history.specs.declared.acts.NameAct.{NameAct}
use Rattle.name_history.specs.declared.acts.NameAct.TheVariants as act
use Rattle.name_history.specs.declared.acts.NameActed.TheVariants as acted
use Rattle.turns.specs.Entries.{NamesMake}
use Rattle.cell_workers.specs.Work.{IsNameWork, IsWorkBy, Works}
use Rattle.cell_workers.specs.Batches.{HasAnswer, IsLent}
use Rattle.cell_workers.specs.Rounds.{AsksAbout, DeliversBatch, HadMemory, IsCall, IsLastRound, ListsZones, ShowsStatus, WalkedOn, Walks, WalksAll, batch_of, goes_on, zones_in}
use Rattle.cell_workers.proofs.MadeLemmas.{NamesLegal, if_err, if_ok, names_none, names_one, names_then, on_err, on_ok, taken_more}
use Rattle.cell_workers.proofs.MeetLemmas.{answer_by_meeting, came_by_meeting, got_of_served, note_of_served, served_after_walk}
use Rattle.cell_workers.proofs.WorkLemmas.{works_entry}

-- ---- asking

module _ {D W : Type 0} (state : D → DiskState) (to_come : W → ℕ → ℕ) where
  pub no_work : All (IsNameWork {D = D} {W = W}) []
  no_work = All-nil (IsNameWork {D = D} {W = W})

  one_work : (e : NameEntry D W) (q : NameAct) → e.call ≡ q → IsWorkBy q e → All IsNameWork (e ∷ [])
  one_work e q is w = All-cons (IsNameWork {D = D} {W = W}) e [] (subst (λ (x : NameAct). IsWorkBy x e) (sym is) w) no_work

  more_work : (made more : List (NameEntry D W)) → All IsNameWork made → All IsNameWork more → All IsNameWork (made ++ more)
  more_work made more = All-append (IsNameWork {D = D} {W = W}) made more

  pub lists_zones : (v w : NameKnown D W) (user : Text) (answer : NameReply) (result : Result (List ZonePath) NoMemory) → user ≡ superuser → (a : Makes state to_come v (act.Call user call.Zones) (acted.Call answer) w)
      → IfOk result (λ zones. (zones ≡ zones_in answer) × HadMemory answer) → (made : List (NameEntry D W)) × NamesMake state to_come v made w × All IsNameWork made × IfOk result (λ zones. ListsZones zones made)
  lists_zones v w user answer result who a is = (
    a.entry ∷ [],
    names_one state to_come v w _ _ a,
    one_work a.entry (act.Call user call.Zones) a.call_is (who, tt),
    if_ok (λ zones. (zones ≡ zones_in answer) × HadMemory answer) (λ zones. ListsZones zones (a.entry ∷ [])) result
        (λ zones s. (a.entry, answer, refl, record { call_is = a.call_is ∙ ap (λ u. act.Call u call.Zones) who; reply_is = a.reply_is }, s.1, s.0)) is,
  )

  pub shows_status : (v w : NameKnown D W) (user : Text) (zone path : NPath) (answer : NameReply) (result : Result Bool NoMemory) → user ≡ superuser → path ≡ zone → (a : Makes state to_come v (act.Call user (call.Status path)) (acted.Call answer) w)
      → IfOk result (λ going. (going ≡ goes_on answer) × HadMemory answer) → (made : List (NameEntry D W)) × NamesMake state to_come v made w × All IsNameWork made × IfOk result (λ going. ShowsStatus zone going made)
  shows_status v w user zone path answer result who same a is = (
    a.entry ∷ [],
    names_one state to_come v w _ _ a,
    one_work a.entry (act.Call user (call.Status path)) a.call_is (who, tt),
    if_ok (λ going. (going ≡ goes_on answer) × HadMemory answer) (λ going. ShowsStatus zone going (a.entry ∷ [])) result
        (λ going s. (a.entry, answer, refl, record { call_is = a.call_is ∙ (λ i. act.Call (who i) (call.Status (same i))); reply_is = a.reply_is }, s.1, s.0)) is,
  )

  asks_snoc : (zones : List ZonePath) (zone : ZonePath) (made : List (NameEntry D W)) (e : NameEntry D W) (answer : NameReply) (going : List NPath) → AsksAbout zones made going
      → IsCall (call.Status zone.path) answer e → HadMemory answer → AsksAbout (zones ++ zone ∷ []) (made ++ e ∷ []) (going ++ cond (goes_on answer) (zone.path ∷ []) [])
  asks_snoc [] zone [] e answer going asks is had =
      (answer, [], is, had, ap (λ l. l ++ cond (goes_on answer) (zone.path ∷ []) []) asks, refl)
  asks_snoc [] zone (x ∷ made) e answer going asks is had = absurd asks
  asks_snoc (z ∷ zones) zone [] e answer going asks is had = absurd asks
  asks_snoc (z ∷ zones) zone (x ∷ made) e answer going asks is had = (
    asks.0,
    asks.1 ++ cond (goes_on answer) (zone.path ∷ []) [],
    asks.2,
    asks.3,
    ap (λ l. l ++ cond (goes_on answer) (zone.path ∷ []) []) asks.4 ∙ cond_append (goes_on asks.0) z.path asks.1 (cond (goes_on answer) (zone.path ∷ []) []),
    asks_snoc zones zone made e answer asks.1 asks.5 is had,
  )
    where
      cond_append : (b : Bool) (p : NPath) (xs ys : List NPath) → cond b (p ∷ xs) xs ++ ys ≡ cond b (p ∷ xs ++ ys) (xs ++ ys)
      cond_append true p xs ys = refl
      cond_append false p xs ys = refl

  pub asks_more : (zones : List ZonePath) (zone : ZonePath) (made more : List (NameEntry D W)) (going : List NPath) (shown : Bool) → AsksAbout zones made going → ShowsStatus zone.path shown more
      → AsksAbout (zones ++ zone ∷ []) (made ++ more) (going ++ cond shown (zone.path ∷ []) [])
  asks_more zones zone made more going shown asks (e, answer, is, call, had, shows) =
      let snoc = asks_snoc zones zone made e answer going asks call had in
      subst (λ (b : Bool). AsksAbout (zones ++ zone ∷ []) (made ++ more) (going ++ cond b (zone.path ∷ []) [])) (sym shows)
      (subst (λ (es : List (NameEntry D W)). AsksAbout (zones ++ zone ∷ []) (made ++ es) (going ++ cond (goes_on answer) (zone.path ∷ []) [])) (sym is) snoc)

  -- these zones were asked about so far
  abbrev pub Asking : NameKnown D W → List ZonePath → List NPath → NameKnown D W → Type 0
  Asking v zones going w = (made : List (NameEntry D W)) × NamesMake state to_come v made w × All IsNameWork made × AsksAbout zones made going

  pub asking_begins : (v : NameKnown D W) (going : List NPath) → NamesLegal state to_come v → going ≡ [] → Asking v [] going v
  asking_begins v going legal none = ([], names_none state to_come v legal, no_work, none)

  pub asking_more : (v w x : NameKnown D W) (zones : List ZonePath) (i : ℕ) (zone : ZonePath) (going going' : List NPath) (shown : Bool) (result : Result Bool NoMemory) → Asking v (take i zones) going w
      → i < length zones → get_or zones i zone ≡ zone → result ≡ Ok shown → (more : List (NameEntry D W)) × NamesMake state to_come w more x × All IsNameWork more × IfOk result (λ b. ShowsStatus zone.path b more)
      → going' ≡ going ++ cond shown (zone.path ∷ []) [] → Asking v (take (i + 1) zones) going' x
  asking_more v w x zones i zone going going' shown result (made, makes, work, asks) within at is (more, makes', work', shows) longer =
      let here : ShowsStatus zone.path shown more = subst (λ (r : Result Bool NoMemory). IfOk r (λ b. ShowsStatus zone.path b more)) is shows in
      let there = asks_more (take i zones) zone made more going shown asks here in (
        made ++ more,
        names_then state to_come v w x made more makes makes',
        more_work made more work work',
        subst (λ (zs : List ZonePath). AsksAbout zs (made ++ more) going') (sym (taken_more zones i zone within at))
            (subst (λ (gs : List NPath). AsksAbout (take i zones ++ zone ∷ []) (made ++ more) gs) (sym longer) there),
      )

  pub asking_ends : (v w : NameKnown D W) (zones : List ZonePath) (i : ℕ) (going : List NPath) → Asking v (take i zones) going w → take i zones ≡ zones
      → (made : List (NameEntry D W)) × NamesMake state to_come v made w × All IsNameWork made × AsksAbout zones made going
  asking_ends v w zones i going (made, makes, work, asks) all = (made, makes, work, subst (λ (zs : List ZonePath). AsksAbout zs made going) all asks)

  -- memory ran out after these
  pub asking_stops : (v w x : NameKnown D W) (zones all : List ZonePath) (going : List NPath) (shown : Result Bool NoMemory) (zone : NPath) (result : Result (List NPath) NoMemory) → Asking v zones going w
      → (more : List (NameEntry D W)) × NamesMake state to_come w more x × All IsNameWork more × IfOk shown (λ b. ShowsStatus zone b more) → is_err result ≡ true
      → (made : List (NameEntry D W)) × NamesMake state to_come v made x × All IsNameWork made × IfOk result (λ gs. AsksAbout all made gs)
  asking_stops v w x zones all going shown zone result (made, makes, work, asks) (more, makes', work', shows) failed =
      (made ++ more, names_then state to_come v w x made more makes makes', more_work made more work work', if_err (λ gs. AsksAbout all (made ++ more) gs) result failed)

-- ---- walking

module _ {D W : Type 0} (state : D → DiskState) (to_come : W → ℕ → ℕ) where
  -- a pass that a walk lent
  pub lent_by_walk : (v w : NameKnown D W) (lent : KmsKnown D W) (path : NPath) (gave : Result Walked NameRefusal) (front : ℕ) → LendsTurn state to_come v path gave front w lent → IsLent front lent
  lent_by_walk v w lent path gave front a = record { kept = a.makes.makes.entry.after.keys; splits = a.makes.splits; front_is = a.front_is }

  -- such a pass has got the reply, after the front
  pub got_after_walk : (front : ℕ) (lent w : KmsKnown D W) (batch : BatchNote) (came : ReplyState) → IsLent front lent → ServesTurn state to_come lent batch came w → GotForBatch front came w
  got_after_walk front lent w batch came is turn = got_of_served front came w (served_after_walk state to_come front lent w batch came is turn)

  -- a walk is work
  pub works_walk : (v w : NameKnown D W) (lent : KmsKnown D W) (path : NPath) (gave : Result Walked NameRefusal) (front : ℕ) → LendsTurn state to_come v path gave front w lent → Works IsNameWork v [] w
  works_walk v w lent path gave front a =
      let e = a.makes.makes.entry in
      works_entry IsNameWork v w (act.Walk path) (acted.Walk gave) a.makes.makes (subst (λ (q : NameAct). IsWorkBy q e) (sym a.makes.makes.call_is) tt)

  -- a delivery by a pass that has the answer to the batch is work
  pub works_delivery : (v w : NameKnown D W) (served : KmsKnown D W) (front : ℕ) (came : ReplyState) (answer : Result Delivered NameRefusal) → HasAnswer front came served
      → MakesMeeting state to_come v served (act.Deliver front came) (acted.Deliver answer) w → Works IsNameWork v [] w
  works_delivery v w served front came answer has m =
      let e = m.makes.entry in
      works_entry IsNameWork v w (act.Deliver front came) (acted.Deliver answer) m.makes
      (subst (λ (q : NameAct). IsWorkBy q e) (sym m.makes.call_is) (answer_by_meeting front came m.kept served e.after.keys has m.meets))

  -- entries of walks that led to this, if they were not the last
  abbrev pub WalksOnce : NameKnown D W → NPath → Bool → NameKnown D W → Type 0
  WalksOnce v path on w = (made : List (NameEntry D W)) × NamesMake state to_come v made w × WalkedOn on path made

  -- the same, or memory ran out after these entries
  abbrev pub TriesWalk : NameKnown D W → NPath → Result Bool NoMemory → NameKnown D W → Type 0
  TriesWalk v path result w = (made : List (NameEntry D W)) × NamesMake state to_come v made w × IfOk result (λ on. WalkedOn on path made)

  -- there was no memory for the pass, and nothing was walked
  pub walk_lacked : (v w : NameKnown D W) (path : NPath) (result : Result Bool NoMemory) → NamesLegal state to_come v → w ≡ v → is_err result ≡ true → TriesWalk v path result w
  walk_lacked v w path result legal same failed =
      ([], subst (λ (x : NameKnown D W). NamesMake state to_come v [] x) (sym same) (names_none state to_come v legal), if_err (λ on. WalkedOn on path []) result failed)

  pub walked_once : (v w : NameKnown D W) (lent : KmsKnown D W) (path : NPath) (gave : Result Walked NameRefusal) (front : ℕ) → LendsTurn state to_come v path gave front w lent → batch_of gave ≡ None
      → WalksOnce v path false w
  walked_once v w lent path gave front a none = (
    a.makes.makes.entry ∷ [],
    names_one state to_come v w _ _ a.makes.makes,
    record { gave = gave; walk_is = record { call_is = a.makes.makes.call_is; reply_is = a.makes.makes.reply_is }; none = none },
  )

  delivers_batch : (v w x : NameKnown D W) (lent served : KmsKnown D W) (path : NPath) (gave : Result Walked NameRefusal) (front : ℕ) (batch : BatchNote) (came : ReplyState)
      (answer : Result Delivered NameRefusal) → (a : LendsTurn state to_come v path gave front w lent) → batch_of gave ≡ Some batch → ServesTurn state to_come lent batch came served
      → (b : MakesMeeting state to_come w served (act.Deliver front came) (acted.Deliver answer) x) → DeliversBatch path a.makes.makes.entry b.makes.entry answer
  delivers_batch v w x lent served path gave front batch came answer a is turn b = record {
    gave = gave;
    batch = batch;
    front = front;
    came = came;
    walk_is = record { call_is = a.makes.makes.call_is; reply_is = a.makes.makes.reply_is };
    gave_batch = is;
    front_is = a.front_is ∙ ap length a.makes.splits.seen;
    for_batch = note_of_served state to_come lent served batch came turn;
    served = came_by_meeting front came b.kept served b.makes.entry.after.keys (served_after_walk state to_come front lent served batch came (lent_by_walk v w lent path gave front a) turn) b.meets;
    delivery_is = record { call_is = b.makes.call_is; reply_is = b.makes.reply_is };
  }

  makes_both : (v w x : NameKnown D W) (lent served : KmsKnown D W) (path : NPath) (gave : Result Walked NameRefusal) (front : ℕ) (came : ReplyState) (answer : Result Delivered NameRefusal)
      → (a : LendsTurn state to_come v path gave front w lent) → (b : MakesMeeting state to_come w served (act.Deliver front came) (acted.Deliver answer) x)
      → NamesMake state to_come v (a.makes.makes.entry ∷ b.makes.entry ∷ []) x
  makes_both v w x lent served path gave front came answer a b =
      names_then state to_come v w x (a.makes.makes.entry ∷ []) (b.makes.entry ∷ []) (names_one state to_come v w _ _ a.makes.makes) (names_one state to_come w x _ _ b.makes)

  pub walks_on : (v w x : NameKnown D W) (lent served : KmsKnown D W) (path : NPath) (gave : Result Walked NameRefusal) (front : ℕ) (batch : BatchNote) (came : ReplyState)
      (answer : Result Delivered NameRefusal) (delivered : Delivered) → LendsTurn state to_come v path gave front w lent → batch_of gave ≡ Some batch → ServesTurn state to_come lent batch came served
      → MakesMeeting state to_come w served (act.Deliver front came) (acted.Deliver answer) x → answer ≡ Ok delivered → WalksOnce v path true x
  walks_on v w x lent served path gave front batch came answer delivered a is turn b taken =
      let delivers = delivers_batch v w x lent served path gave front batch came answer a is turn b in (
        a.makes.makes.entry ∷ b.makes.entry ∷ [],
        makes_both v w x lent served path gave front came answer a b,
        λ es walks. (Ok delivered, subst (DeliversBatch path a.makes.makes.entry b.makes.entry) taken delivers, walks),
      )

  pub walks_ended : (v w x : NameKnown D W) (lent served : KmsKnown D W) (path : NPath) (gave : Result Walked NameRefusal) (front : ℕ) (batch : BatchNote) (came : ReplyState)
      (answer : Result Delivered NameRefusal) (why : NameRefusal) → LendsTurn state to_come v path gave front w lent → batch_of gave ≡ Some batch → ServesTurn state to_come lent batch came served
      → MakesMeeting state to_come w served (act.Deliver front came) (acted.Deliver answer) x → answer ≡ Err why → WalksOnce v path false x
  walks_ended v w x lent served path gave front batch came answer why a is turn b refused =
      let delivers = delivers_batch v w x lent served path gave front batch came answer a is turn b in (
        a.makes.makes.entry ∷ b.makes.entry ∷ [],
        makes_both v w x lent served path gave front came answer a b,
        (Err why, subst (DeliversBatch path a.makes.makes.entry b.makes.entry) refused delivers, refl),
      )

  pub walking_begins : (v : NameKnown D W) (path : NPath) → NamesLegal state to_come v → WalksOnce v path true v
  walking_begins v path legal = ([], names_none state to_come v legal, λ es walks. walks)

  -- what a walk came to, if there was memory
  walk_of : (w x : NameKnown D W) (path path' : NPath) (result : Result Bool NoMemory) (on : Bool) → path' ≡ path → result ≡ Ok on → TriesWalk w path' result x → WalksOnce w path on x
  walk_of w x path path' result on same is (more, makes, once) =
      let once' : WalkedOn on path' more = subst (λ (r : Result Bool NoMemory). IfOk r (λ b. WalkedOn b path' more)) is once in
      (more, makes, subst (λ (p : NPath). WalkedOn on p more) same once')

  pub walking_on : (v w x : NameKnown D W) (path path' : NPath) (result : Result Bool NoMemory) (on : Bool) → WalksOnce v path true w → path' ≡ path → result ≡ Ok on → on ≡ true
      → TriesWalk w path' result x → WalksOnce v path true x
  walking_on v w x path path' result on (made, makes, so_far) same is goes tried =
      let (more, makes', once) = walk_of w x path path' result true same (is ∙ ap (λ (b : Bool). Ok b) goes) tried in (
        made ++ more,
        names_then state to_come v w x made more makes makes',
        λ es walks. subst (λ (l : List (NameEntry D W)). Walks path l) (sym (append_assoc made more es)) (so_far (more ++ es) (once es walks)),
      )

  pub walking_ends : (v w x : NameKnown D W) (path path' : NPath) (result : Result Bool NoMemory) (on : Bool) → WalksOnce v path true w → path' ≡ path → result ≡ Ok on → on ≡ false
      → TriesWalk w path' result x → (made : List (NameEntry D W)) × NamesMake state to_come v made x × Walks path made
  walking_ends v w x path path' result on (made, makes, so_far) same is goes tried =
      let (more, makes', once) = walk_of w x path path' result false same (is ∙ ap (λ (b : Bool). Ok b) goes) tried in
      (made ++ more, names_then state to_come v w x made more makes makes', so_far more once)

  -- memory ran out before a walk
  pub walking_stops : (v w : NameKnown D W) (path : NPath) (result : Result (Unit {0}) NoMemory) → WalksOnce v path true w → is_err result ≡ true
      → (made : List (NameEntry D W)) × NamesMake state to_come v made w × OnOk result (Walks path made)
  walking_stops v w path result (made, makes, so_far) failed = (made, makes, on_err (Walks path made) result failed)

  -- memory ran out at a walk
  pub walking_lacks : (v w x : NameKnown D W) (path path' : NPath) (tried : Result Bool NoMemory) (result : Result (Unit {0}) NoMemory) → WalksOnce v path true w → TriesWalk w path' tried x
      → is_err result ≡ true → (made : List (NameEntry D W)) × NamesMake state to_come v made x × OnOk result (Walks path made)
  walking_lacks v w x path path' tried result (made, makes, so_far) (more, makes', once) failed =
      (made ++ more, names_then state to_come v w x made more makes makes', on_err (Walks path (made ++ more)) result failed)

  -- ---- all zones

  walks_snoc : (paths : List NPath) (path : NPath) (made more : List (NameEntry D W)) → WalksAll paths made → Walks path more → WalksAll (paths ++ path ∷ []) (made ++ more)
  walks_snoc [] path made more none walks = (more, [], ap (λ l. l ++ more) none ∙ sym (append-nil more), walks, refl)
  walks_snoc (p ∷ paths) path made more (here, there, is, walks', all) walks =
      (here, there ++ more, ap (λ l. l ++ more) is ∙ append_assoc here there more, walks', walks_snoc paths path there more all walks)

  -- these zones were walked through so far
  abbrev pub WalkingAll : NameKnown D W → List NPath → NameKnown D W → Type 0
  WalkingAll v paths w = (made : List (NameEntry D W)) × NamesMake state to_come v made w × WalksAll paths made

  pub all_begins : (v : NameKnown D W) → NamesLegal state to_come v → WalkingAll v [] v
  all_begins v legal = ([], names_none state to_come v legal, refl)

  pub all_more : (v w x : NameKnown D W) (paths : List NPath) (i : ℕ) (path : NPath) (result : Result (Unit {0}) NoMemory) (done : Unit {0}) → WalkingAll v (take i paths) w → i < length paths
      → get_or paths i path ≡ path → result ≡ Ok done → (made : List (NameEntry D W)) × NamesMake state to_come w made x × OnOk result (Walks path made) → WalkingAll v (take (i + 1) paths) x
  all_more v w x paths i path result done (made, makes, all) within at fine (more, makes', walks) =
      let here : Walks path more = subst (λ (r : Result (Unit {0}) NoMemory). OnOk r (Walks path more)) fine walks in (
        made ++ more,
        names_then state to_come v w x made more makes makes',
        subst (λ (ps : List NPath). WalksAll ps (made ++ more)) (sym (taken_more paths i path within at)) (walks_snoc (take i paths) path made more all here),
      )

  pub all_stops : (v w x : NameKnown D W) (paths all : List NPath) (path : NPath) (result end : Result (Unit {0}) NoMemory) → WalkingAll v paths w
      → (made : List (NameEntry D W)) × NamesMake state to_come w made x × OnOk result (Walks path made) → is_err end ≡ true
      → (made : List (NameEntry D W)) × NamesMake state to_come v made x × OnOk end (WalksAll all made)
  all_stops v w x paths all path result end (made, makes, walks) (more, makes', once) failed =
      (made ++ more, names_then state to_come v w x made more makes makes', on_err (WalksAll all (made ++ more)) end failed)

  pub all_ends : (v w : NameKnown D W) (paths : List NPath) (i : ℕ) → WalkingAll v (take i paths) w → take i paths ≡ paths
      → (made : List (NameEntry D W)) × NamesMake state to_come v made w × WalksAll paths made
  all_ends v w paths i (made, makes, walks) all = (made, makes, subst (λ (ps : List NPath). WalksAll ps made) all walks)

  -- ---- the whole round

  abbrev pub Rounds : NameKnown D W → Result (Unit {0}) NoMemory → NameKnown D W → Type 0
  Rounds v result w = (made : List (NameEntry D W)) × NamesMake state to_come v made w × OnOk result (IsLastRound made)

  -- memory ran out before the walks
  pub round_stops : (v w : NameKnown D W) (made : List (NameEntry D W)) (result : Result (Unit {0}) NoMemory) → NamesMake state to_come v made w → is_err result ≡ true → Rounds v result w
  round_stops v w made result makes failed = (made, makes, on_err (IsLastRound made) result failed)

  is_round : (listed : NameReply) (asked : NameEntry D W) (zones : List ZonePath) (statuses walks : List (NameEntry D W)) (going : List NPath) → IsCall call.Zones listed asked → HadMemory listed
      → zones ≡ zones_in listed → AsksAbout zones statuses going → WalksAll going walks → IsLastRound (asked ∷ (statuses ++ walks))
  is_round listed asked zones statuses walks going is had lists asks walked = record {
    listed = listed;
    asked = asked;
    statuses = statuses;
    going = going;
    walks = walks;
    made_is = refl;
    zones = is;
    had_memory = had;
    asks = subst (λ (zs : List ZonePath). AsksAbout zs statuses going) lists asks;
    walked = walked;
  }

  pub round_whole : (v w x y : NameKnown D W) (zones slice : List ZonePath) (going going' : List NPath) (result : Result (Unit {0}) NoMemory)
      → (listed : List (NameEntry D W)) × NamesMake state to_come v listed w × All IsNameWork listed × ListsZones zones listed → slice ≡ zones
      → (statuses : List (NameEntry D W)) × NamesMake state to_come w statuses x × All IsNameWork statuses × AsksAbout slice statuses going → going' ≡ going
      → (made : List (NameEntry D W)) × NamesMake state to_come x made y × OnOk result (WalksAll going' made) → Rounds v result y
  round_whole v w x y zones slice going going' result (listed, m, work, lists) same (statuses, n, work', asks) same' (walks, makes, walked) =
      let (e, answer, is, asked, had, shown) = lists in
      let before = names_then state to_come v w x listed statuses m n in
      let all = names_then state to_come v x y (listed ++ statuses) walks before makes in
      let shape : (listed ++ statuses) ++ walks ≡ e ∷ (statuses ++ walks) = ap (λ l. (l ++ statuses) ++ walks) is in (
        (listed ++ statuses) ++ walks,
        all,
        on_ok (WalksAll going' walks) (IsLastRound ((listed ++ statuses) ++ walks)) result
            (λ w. subst (λ (l : List (NameEntry D W)). IsLastRound l) (sym shape)
            (is_round answer e slice statuses walks going asked had (same ∙ shown) asks (subst (λ (ps : List NPath). WalksAll ps walks) same' w))) walked,
      )
