-- The answer of a draw for an ask, and the key that the drawn key opens to.
use Rattle.std.proofs.Common.{◌≡◌, ◌⊎◌, inl, inr, ℕ, ◌+◌, ◌-◌, ◌^◌, ◌*◌, ◌/◌, ◌<◌, ◌≤◌, Bool, true, false, cond, List, [], ◌∷◌, ◌++◌, length, take, Option, Some, None, is_none, find, refl, sym, ap, subst, ◌∙◌, arith}
use Rattle.std.specs.Prelude.{nat_lt, ◌≢◌, drop, slice_get}
use Rattle.eek_queues.specs.Queues.{ready_in}
use Rattle.std.specs.Option.{option_map, option_and_then}
use Rattle.std.specs.Str.{bytes_eq}
use Rattle.std.proofs.lemmas.Bool.Decides.{nat_tests}
use Rattle.std.proofs.lemmas.Slice.Eq.{bytes_eq-Decides}
use Rattle.hk_base.specs.declared.names.Dek.{Dek}
use Rattle.hk_base.specs.declared.names.Edek.{Edek}
use Rattle.hk_base.specs.declared.names.VersionName.{VersionName}
use Rattle.key_rows.specs.declared.rows.KeyRow.{KeyRow}
use Rattle.kms_calls.specs.declared.calls.KmsCall.TheVariants as call
use Rattle.kms_calls.specs.declared.calls.KmsRefusal.{KmsRefusal}
use Rattle.kms_calls.specs.declared.calls.KmsRefusal.TheVariants.{NoSuchKey, TooManyAsked}
use Rattle.kms_calls.specs.declared.calls.KmsReply.{KmsReply}
use Rattle.kms_calls.specs.declared.calls.KmsReply.TheVariants as reply
use Rattle.key_rows.specs.Sound.{AreRowsRising, IsKeyTable, IsRow, NamesOnce}
use Rattle.key_rows.specs.Table.{Table, current_of, find_name, is_length, is_named, material_of}
use Rattle.kms_core.specs.Calls.{KmsActs, NoRoom, Plain, birth_of, causes, current_material, current_version, deed, first_cause, generate_causes, generated, ready_of, row_of, unless_refused}
use Rattle.kms_core.specs.Draws.{drawn as drawn_bytes, drawn_dek, drawn_edek, drawn_edeks, drawn_iv, place_of_draw, words_of_draw}
use Rattle.kms_core.specs.Laws.{dek_of_draw}
use Rattle.kms_core.specs.Opening.{unseals}
use Rattle.kms_core.specs.State.{KmsState}
use Rattle.kms_core.proofs.DrawLemmas.{length-drawn}
use Rattle.kms_core.proofs.KeyLemmas.{found_passes}
use Rattle.kms_core.proofs.LawLemmas.{generated_opens, standing_key}
use Rattle.name_calls.specs.Answers.{answer_of}
use Rattle.world_run.specs.Ledger.{draw_of}
use Rattle.world_run.specs.Linked.{OpensTo, OpensUnder, given}
use Rattle.world_run.specs.Promise.{In}
use Rattle.world_run.proofs.Members.{each-in, found-in, got-in}
use Rattle.world_run.proofs.QueueLaters.{handed-ready}

-- members of a table of keys

rising-above : (low top : ℕ) (rows : List KeyRow) → AreRowsRising low rows top → (x : KeyRow) → In x rows → low < x.birth
rising-above low top [] r x i = absurd i
rising-above low top (y ∷ ys) r x (inl is) = subst (λ (z : KeyRow). low < z.birth) (sym is) r.0
rising-above low top (y ∷ ys) r x (inr i) = let h = rising-above y.birth top ys r.1 x i in omega (arith, h, r.0)

pub rising-once : (low top : ℕ) (rows : List KeyRow) → AreRowsRising low rows top → (x y : KeyRow) → In x rows → In y rows → x.birth ≡ y.birth → x ≡ y
rising-once low top [] r x y i j same = absurd i
rising-once low top (z ∷ zs) r x y (inl a) (inl b) same = a ∙ sym b
rising-once low top (z ∷ zs) r x y (inl a) (inr j) same =
    let h = rising-above z.birth top zs r.1 y j in absurd (omega (arith, h, same, ap (λ (k : KeyRow). k.birth) a))
rising-once low top (z ∷ zs) r x y (inr i) (inl b) same =
    let h = rising-above z.birth top zs r.1 x i in absurd (omega (arith, h, same, ap (λ (k : KeyRow). k.birth) b))
rising-once low top (z ∷ zs) r x y (inr i) (inr j) same = rising-once z.birth top zs r.1 x y i j same

same-bytes : (a b : List ℕ) → bytes_eq a b ≡ true → a ≡ b
same-bytes a b h = (bytes_eq-Decides a b).0 h

-- a row is found under its name
pub only-named : (k : List ℕ) (rows : List KeyRow) (row : KeyRow) → NamesOnce rows → In row rows → is_named k row ≡ true → find_name rows k ≡ Some row
only-named k [] row once i named = absurd i
only-named k (y ∷ ys) row once (inl is) named =
    ap (λ b. cond b (Some y) (find (is_named k) ys)) (ap (is_named k) (sym is) ∙ named) ∙ ap Some (sym is)
only-named k (y ∷ ys) row once (inr i) named = go (is_named k y) refl (only-named k ys row once.1 i named)
  where
    go : (b : Bool) → is_named k y ≡ b → find_name ys k ≡ Some row → cond b (Some y) (find (is_named k) ys) ≡ Some row
    go true other ih = absurd (each-in (λ (x : KeyRow). x.name ≢ y.name) ys row once.0 i (same-bytes row.name k named ∙ sym (same-bytes y.name k other)))
    go false other ih = ih

at-number : VersionName → Option KeyRow → Option Dek
at-number v o = option_and_then (λ (r : KeyRow). slice_get r.materials v.number) o

among : (open_by : Dek → Dek) (rows : List KeyRow) (row : KeyRow) (v : VersionName) (dek : Dek) → NamesOnce rows → In row rows
    → option_map open_by (material_of (row ∷ []) v) ≡ Some dek → option_map open_by (material_of rows v) ≡ Some dek
unfolding at-number
among open_by rows row v dek once i h = go (is_named v.key row) refl h
  where
    go : (b : Bool) → is_named v.key row ≡ b → option_map open_by (at-number v (cond b (Some row) None)) ≡ Some dek → option_map open_by (material_of rows v) ≡ Some dek
    go true named h = ap (λ (o : Option KeyRow). option_map open_by (at-number v o)) (only-named v.key rows row once i named) ∙ h
    go false named h = absurd cc

alone : (open_by : Dek → Dek) (rows : List KeyRow) (row : KeyRow) (v : VersionName) (dek : Dek) → find_name rows v.key ≡ Some row → is_named v.key row ≡ true
    → option_map open_by (material_of rows v) ≡ Some dek → option_map open_by (material_of (row ∷ []) v) ≡ Some dek
unfolding at-number
alone open_by rows row v dek found named h =
    ap (λ (b : Bool). option_map open_by (at-number v (cond b (Some row) None))) named ∙ ap (λ (o : Option KeyRow). option_map open_by (at-number v o)) (sym found) ∙ h

-- a row opens the same keys among the others as by itself
pub opens-among : (rows : List KeyRow) (row : KeyRow) (e : Edek) (dek : Dek) → NamesOnce rows → In row rows → unseals (row ∷ []) e ≡ Some dek → unseals rows e ≡ Some dek
opens-among rows row e dek once i h = among _ rows row e.version dek once i h

-- and it has the name of the version's key
named : (open_by : Dek → Dek) (row : KeyRow) (v : VersionName) (dek : Dek) → option_map open_by (material_of (row ∷ []) v) ≡ Some dek → row.name ≡ v.key
unfolding at-number
named open_by row v dek h = go (is_named v.key row) refl h
  where
    go : (b : Bool) → is_named v.key row ≡ b → option_map open_by (at-number v (cond b (Some row) None)) ≡ Some dek → row.name ≡ v.key
    go true is h = same-bytes row.name v.key is
    go false is h = absurd cc

pub opens-named : (row : KeyRow) (e : Edek) (dek : Dek) → unseals (row ∷ []) e ≡ Some dek → row.name ≡ e.version.key
opens-named row e dek h = named _ row e.version dek h

-- and the other way round, if it is found under its name
pub opens-alone : (rows : List KeyRow) (row : KeyRow) (e : Edek) (dek : Dek) → find_name rows e.version.key ≡ Some row → is_named e.version.key row ≡ true → unseals rows e ≡ Some dek
    → unseals (row ∷ []) e ≡ Some dek
opens-alone rows row e dek found named h = alone _ rows row e.version dek found named h

-- a metadata that was wanted

abbrev NoKeyGiven : KmsReply → Type 0
NoKeyGiven result = given (answer_of (Some result)) ≡ None

pub meta-answers : (s : KmsState) (words : ℕ → ℕ) (now : ℕ) (name : List ℕ) (result : KmsReply) (drawn : ℕ) (s' : KmsState)
    → KmsActs s words now (call.Metadata name) result drawn s' → given (answer_of (Some result)) ≡ None
meta-answers s words now name result drawn s' (NoRoom some, may, is) = subst NoKeyGiven (sym (ap (λ o. o.reply) is)) refl
meta-answers s words now name result drawn s' (Plain, may, is) = subst NoKeyGiven (sym (ap (λ o. o.reply) is)) (go (first_cause (causes s (call.Metadata name))))
  where
    go : (o : Option KmsRefusal) → NoKeyGiven (unless_refused o s (deed s words now (call.Metadata name))).reply
    go (Some why) = refl
    go None = refl

-- a generate of one key that was wanted

-- the first ready key of the queue
pub record OneTaken (s : KmsState) (name : List ℕ) (e : Edek) (s' : KmsState) : Type 0 where
  pub stands : is_none (row_of s name) ≡ false
  pub rest : List Edek
  pub first : ready_of s name ≡ e ∷ rest
  pub left : ready_in s'.ready.queues (birth_of (row_of s name)) ≡ drop 1 (ready_of s name)
  pub same : s'.table ≡ s.table

-- or a key that is drawn
pub record OneDrawn (s : KmsState) (words : ℕ → ℕ) (name : List ℕ) (e : Edek) (drawn : ℕ) (s' : KmsState) : Type 0 where
  pub none : ready_of s name ≡ []
  pub stands : is_none (row_of s name) ≡ false
  pub drawn_is : e ≡ drawn_edek (current_version (row_of s name)) (current_material s name) words 0
  pub same : s'.table ≡ s.table
  pub took : drawn ≡ words_of_draw (length (current_material s name))

abbrev pub Generated : KmsState → (ℕ → ℕ) → List ℕ → KmsReply → ℕ → KmsState → Type 0
Generated s words name result drawn s' =
    ((why : KmsRefusal) × (result ≡ reply.Refused why)) ⊎ ((e : Edek) × (result ≡ reply.Ready (e ∷ [])) × (OneTaken s name e s' ⊎ OneDrawn s words name e drawn s'))

stands-free : (b : Bool) (why : KmsRefusal) (rest : List (Bool × KmsRefusal)) → first_cause ((b, why) ∷ rest) ≡ None → b ≡ false
stands-free true why rest h = absurd cc
stands-free false why rest h = refl

first-place : (n : ℕ) → place_of_draw n 0 ≡ 0
first-place n = grind arith

second-place : (n : ℕ) → place_of_draw n 1 ≡ words_of_draw n
second-place n = grind arith

pub generate-one : (s : KmsState) (words : ℕ → ℕ) (now : ℕ) (name : List ℕ) (result : KmsReply) (drawn : ℕ) (s' : KmsState)
    → KmsActs s words now (call.Generate name 1) result drawn s' → Generated s words name result drawn s'
generate-one s words now name result drawn s' (NoRoom some, may, is) = inl (_, ap (λ o. o.reply) is)
generate-one s words now name result drawn s' (Plain, may, is) = go (first_cause (generate_causes (row_of s name) 1)) refl is
  where
    version : VersionName
    version = current_version (row_of s name)

    material : Dek
    material = current_material s name

    answer : List Edek → KmsReply
    answer ready = reply.Ready (take 1 ready ++ drawn_edeks version material words (1 - length ready))

    by-ready : (ready : List Edek) → ready_of s name ≡ ready → first_cause (generate_causes (row_of s name) 1) ≡ None
        → (record { reply = result; drawn = drawn; state = s' }) ≡ unless_refused None s (generated s words name 1) → Generated s words name result drawn s'
    by-ready [] none cause is =
        inr (
          drawn_edek version material words (place_of_draw (length material) 0),
          ap (λ o. o.reply) is ∙ ap answer none,
          inr (record {
            none = none;
            stands = stands-free (is_none (row_of s name)) NoSuchKey ((nat_lt 1000 1, TooManyAsked) ∷ []) cause;
            drawn_is = ap (drawn_edek version material words) (first-place (length material));
            same = ap (λ o. o.state.table) is;
            took = ap (λ o. o.drawn) is ∙ ap (λ (ready : List Edek). place_of_draw (length material) (1 - length ready)) none ∙ second-place (length material);
          }),
        )
    by-ready (e ∷ rest) first cause is =
        let none : 1 - length (e ∷ rest) ≡ 0 = omega arith in
        inr (
          e,
          ap (λ o. o.reply) is ∙ ap answer first ∙ ap (λ (n : ℕ). reply.Ready (e ∷ drawn_edeks version material words n)) none,
          inl (record {
            stands = stands-free (is_none (row_of s name)) NoSuchKey ((nat_lt 1000 1, TooManyAsked) ∷ []) cause;
            rest = rest;
            first = first;
            left = ap (λ o. ready_in o.state.ready.queues (birth_of (row_of s name))) is ∙ handed-ready s.ready (birth_of (row_of s name)) 1;
            same = ap (λ o. o.state.table) is;
          }),
        )

    go : (o : Option KmsRefusal) → first_cause (generate_causes (row_of s name) 1) ≡ o
        → (record { reply = result; drawn = drawn; state = s' }) ≡ unless_refused o s (generated s words name 1) → Generated s words name result drawn s'
    go (Some why) cause is = inl (why, ap (λ o. o.reply) is)
    go None cause is = by-ready (ready_of s name) refl cause is

-- the lengths of what is drawn

pub iv-long : (words : ℕ → ℕ) → length (drawn_iv words 0) ≡ 16
unfolding drawn_iv
iv-long words = length-drawn words 0 4

whole-words : (bits : ℕ) → is_length bits ≡ true → 4 * (bits / 8 / 4) ≡ bits / 8
whole-words bits is = grind (arith, nat_tests, is)

pub dek-long : (words : ℕ → ℕ) (bits : ℕ) (material : Dek) → is_length bits ≡ true → length material ≡ bits / 8 → length (drawn_dek words 0 (length material)) ≡ bits / 8
dek-long words bits material known long = length-drawn words 4 (length material / 4) ∙ ap (λ (n : ℕ). 4 * (n / 4)) long ∙ whole-words bits known

-- a material of a row has the row's length
pub material-long : (row : KeyRow) (n : ℕ) (material : Dek) → IsRow row → slice_get row.materials n ≡ Some material → length material ≡ row.bits / 8
material-long row n material is got = each-in (λ (m : Dek). length m ≡ row.bits / 8) row.materials material is.materials (got-in row.materials n material got)

-- the key that was drawn

pub record FreshKey (s : KmsState) (words : ℕ → ℕ) (place : ℕ) (name : List ℕ) (e : Edek) : Type 0 where
  pub of_draw : e.version ≡ (draw_of s words place name).version
  pub of_iv : e.iv ≡ (draw_of s words place name).iv
  pub opens : OpensTo s.table.rows (draw_of s words place name) e
  pub born : (draw_of s words place name).birth ≤ s.table.greatest
  pub recent : 2 ^ 32 ≤ (draw_of s words place name).birth

pub rising-most : (low top : ℕ) (rows : List KeyRow) → AreRowsRising low rows top → (x : KeyRow) → In x rows → x.birth ≤ top
rising-most low top [] r x i = absurd i
rising-most low top (y ∷ ys) r x (inl is) = subst (λ (z : KeyRow). z.birth ≤ top) (sym is) (least y.birth top ys r.1)
  where
    least : (b t : ℕ) (zs : List KeyRow) → AreRowsRising b zs t → b ≤ t
    least b t [] r = r
    least b t (z ∷ zs) r = let h = least z.birth t zs r.1 in omega (arith, h, r.0)
rising-most low top (y ∷ ys) r x (inr i) = rising-most y.birth top ys r.1 x i

pub fresh-key : (s : KmsState) (words : ℕ → ℕ) (place now : ℕ) (name : List ℕ) (e : Edek) (drawn : ℕ) (s' : KmsState) → IsKeyTable s.table
    → KmsActs s words now (call.Generate name 1) (reply.Ready (e ∷ [])) drawn s' → OneDrawn s words name e drawn s' → FreshKey s words place name e
fresh-key s words place now name e drawn s' table acts one =
    let key_now = standing_key s name table one.stands in
    let row : (r : KeyRow) × (row_of s name ≡ Some r) = (key_now.0, key_now.1.found) in
    let named : is_named name row.0 ≡ true = found_passes (is_named name) s.table.rows row.0 row.1 in
    let version : e.version ≡ current_of row.0 = ap (λ (k : Edek). k.version) one.drawn_is ∙ ap current_version row.1 in
    let key : e.version.key ≡ row.0.name = ap (λ (v : VersionName). v.key) version in
    let found : find_name s.table.rows e.version.key ≡ Some row.0 = ap (find_name s.table.rows) (key ∙ same-bytes row.0.name name named) ∙ row.1 in
    let opened : unseals s.table.rows e ≡ Some (draw_of s words place name).dek =
    subst (λ (t : Table). unseals t.rows e ≡ Some (dek_of_draw s words name 0)) one.same
    (generated_opens s words now name 1 (e ∷ []) s' (λ k. words (drawn + k)) table (record { drawn = drawn; acts = acts; rest = λ k. refl }) 0 e (ap (λ (ready : List Edek). slice_get (e ∷ []) (length ready + 0)) one.none))
    ∙ ap (λ (n : ℕ). Some (drawn_dek words n (length (current_material s name)))) (first-place (length (current_material s name))) in
    record {
      of_draw = ap (λ (k : Edek). k.version) one.drawn_is;
      of_iv = ap (λ (k : Edek). k.iv) one.drawn_is;
      opens = λ other i birth.
          let is : other ≡ row.0 = rising-once 0 s.table.greatest s.table.rows table.births other row.0 i (found-in (is_named name) s.table.rows row.0 row.1) (birth ∙ ap birth_of row.1) in
          subst (λ (r : KeyRow). OpensUnder r (draw_of s words place name) e) (sym is)
          (record {
            opens = opens-alone s.table.rows row.0 e (draw_of s words place name).dek found (ap (λ (k : List ℕ). is_named k row.0) (key ∙ same-bytes row.0.name name named) ∙ named) opened;
            long = dek-long words row.0.bits (current_material s name) key_now.1.sound.bits (material-long row.0 (length row.0.materials - 1) (current_material s name) key_now.1.sound key_now.1.got);
            vector = ap (λ (k : Edek). length k.iv) one.drawn_is ∙ iv-long words;
          });
      born = subst (λ (b : ℕ). b ≤ s.table.greatest) (sym (ap birth_of row.1)) (rising-most 0 s.table.greatest s.table.rows table.births row.0 (found-in (is_named name) s.table.rows row.0 row.1));
      recent = subst (λ (b : ℕ). 2 ^ 32 ≤ b) (sym (ap birth_of row.1)) (each-in IsRow s.table.rows row.0 table.rows (found-in (is_named name) s.table.rows row.0 row.1)).born;
    }

-- its words
pub words-of-dek : (words : ℕ → ℕ) (n : ℕ) → words_of_draw (length (drawn_dek words 0 n)) ≡ words_of_draw n
words-of-dek words n =
    let long : length (drawn_bytes words 4 (n / 4)) ≡ 4 * (n / 4) = length-drawn words 4 (n / 4) in
    ap (λ (k : ℕ). 4 + k / 4) long ∙ ap (λ (k : ℕ). 4 + k) (quarter (n / 4))
  where
    quarter : (k : ℕ) → 4 * k / 4 ≡ k
    quarter k = grind arith
