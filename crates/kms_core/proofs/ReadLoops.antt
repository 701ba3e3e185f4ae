-- Reading the materials of several versions, one after another.
use Rattle.std.proofs.Common.{◌≡◌, inl, inr, ℕ, zero, suc, ◌+◌, ◌<◌, ◌≤◌, List, [], ◌∷◌, ◌++◌, length, map, take, Bool, true, false, ◌||◌, nat_lt, Option, None, Some, IfSome, is_none, is_some, refl, ap, sym, ◌∙◌, subst, arith, get_or}
use Rattle.std.specs.Prelude.{IfOk, IsSome, IsTrue, Result, Ok, Err}
use Rattle.std.specs.List.{list_any, slice_get}
use Rattle.std.specs.Option.{option_and_then}
use Rattle.std.proofs.lemmas.Bool.Decides.{nat_tests}
use Rattle.std.proofs.lemmas.List.{take_all, take_more}
use Rattle.std.proofs.lemmas.Bool.{or_right}
use Rattle.std.proofs.lemmas.Option.{slice_get-get_or}
use Rattle.hk_base.specs.Disk.{DiskState, Tells}
use Rattle.hk_base.specs.Faults.{Rose}
use Rattle.hk_base.specs.declared.names.Edek.{Edek}
use Rattle.hk_base.specs.declared.names.VersionName.{VersionName}
use Rattle.key_rows.specs.declared.rows.KeyRow.{KeyRow}
use Rattle.key_rows.specs.Table.{find_name, material_of}
use Rattle.key_index.specs.Held.{has_older}
use Rattle.kms_calls.specs.Shown.{Shown}
use Rattle.kms_calls.specs.declared.calls.KmsCall.TheVariants as call
use Rattle.kms_calls.specs.declared.calls.RawEdek.{RawEdek}
use Rattle.kms_calls.specs.declared.calls.KmsRefusal.{KmsRefusal}
use Rattle.kms_calls.specs.declared.calls.KmsRefusal.TheVariants as refusal
use Rattle.kms_store.specs.Store.{HasMaterials, is_older}
use Rattle.kms_core.specs.State.{KmsState, Running, keys_of}
use Rattle.kms_core.specs.Calls.{all_versions, batch_causes, first_cause, resealed, row_of, sent_causes, versions_from, versions_of}
use Rattle.kms_calls.specs.declared.calls.KmsReply.TheVariants as reply
use Rattle.kms_core.specs.Service.{KmsActsOnDisk, OfVersions, reads_older}
use Rattle.kms_core.specs.Steps.{GivesAnswer, HasKey, ReadsOnly}
use Rattle.kms_core.specs.declared.known.Known.{Known}
use Rattle.kms_core.proofs.AnswerLemmas.{one_more_version, present}
use Rattle.kms_core.proofs.KeyLemmas.{named}
use Rattle.kms_core.proofs.ReadLemmas.{acts_by_reads, as_reply, reads_more, same_keys}
use Rattle.kms_core.proofs.SentLemmas.{each_allowed, map_more, same_cause, same_causes}
use Rattle.kms_core.proofs.ServiceLemmas.{rose_since}

-- the disk still has the older materials
pub still_holds : (old new : DiskState) (r t : Running) → ReadsOnly old new r t → (Tells old → HasMaterials old r.store) → Tells new → HasMaterials new t.store
still_holds old new r t reads held telling =
    let before : Tells old = subst (λ b. IsTrue b) reads.store.run.tells telling in
    reads.store.held before (held before)

pub tells_still : (old new : DiskState) (r t : Running) → ReadsOnly old new r t → Tells old → Tells new
tells_still old new r t reads telling = subst (λ b. IsTrue b) (sym reads.store.run.tells) telling

-- the versions read so far are the first ones of the key
pub record VersionsSoFar (old new : DiskState) (r t : Running) (name : List ℕ) (known : Known) (count number : ℕ) (versions : List Shown) : Type 0 where
  pub reads : ReadsOnly old new r t
  pub has : HasKey (keys_of r) name known
  pub count_is : count ≡ length has.key.materials
  pub are : (IsTrue (reads_older (keys_of r) (call.Versions name)) → Tells old) → versions ≡ versions_from has.key.name 0 (take number has.key.materials)

module _ (old new : DiskState) (r t : Running) (name : List ℕ) (known : Known) (count number : ℕ) (versions : List Shown) (so : VersionsSoFar old new r t name known count number versions) (less : number < count) where
  abbrev version : VersionName
  version = record { key = known.name; number = number }

  within : number < length so.has.key.materials
  within = omega (arith, less, so.count_is)

  -- the key, by the name that is known of it, in the state that was reached
  its_key : find_name (keys_of t).table.rows known.name ≡ Some so.has.key
  its_key =
      ap (λ (s : KmsState). find_name s.table.rows known.name) (same_keys old new r t so.reads)
      ∙ ap (find_name (keys_of r).table.rows) (so.has.knows.name ∙ named (keys_of r).table.rows name so.has.key so.has.found) ∙ so.has.found

  material_at : material_of t.store.table.keys.rows version ≡ slice_get so.has.key.materials number
  material_at = ap (option_and_then (λ (row : KeyRow). slice_get row.materials number)) its_key

  pub number_exists : IsSome (material_of t.store.table.keys.rows version)
  number_exists = ap is_some (material_at ∙ slice_get-get_or so.has.key.materials number [] within)

  pub number_birth : IfSome (find_name t.store.table.keys.rows known.name) (λ (key : KeyRow). key.birth ≡ known.birth)
  number_birth = subst (λ (o : Option KeyRow). IfSome o (λ (key : KeyRow). key.birth ≡ known.birth)) (sym its_key) (sym so.has.knows.birth)

  -- a version that is not the current one is read by a call that reads an older material
  older_too : IsTrue (is_older t.store.table.keys version) → IsTrue (reads_older (keys_of r) (call.Versions name))
  older_too older =
      let one : nat_lt (number + 1) (length so.has.key.materials) ≡ true = subst (λ (o : Option KeyRow). has_older o number ≡ true) its_key older in
      let many : nat_lt 1 (length so.has.key.materials) ≡ true = grind (arith, nat_tests, one) in
      subst (λ (o : Option KeyRow). nat_lt 1 (versions_of o) ≡ true) (sym so.has.found) many

  pub version_failed : (why : KmsRefusal) (last : DiskState) → (why ≡ refusal.StoreFault) × (IsTrue (is_older t.store.table.keys version) × Rose new.faults last.faults)
      → GivesAnswer old last (keys_of r) (call.Versions name) (all_versions (row_of (keys_of r) name)) (Err why)
  version_failed why last failed =
      inr (present (row_of (keys_of r) name) (ap is_none so.has.found), inr (older_too failed.1.0, rose_since old.faults new.faults last.faults so.reads.store.run.faults failed.1.1, failed.0))

  pub one_more : (last : DiskState) (u : Running) (material : List ℕ) (versions' : List Shown) → ReadsOnly new last t u
      → ((IsTrue (is_older t.store.table.keys version) → Tells new) → material_of t.store.table.keys.rows version ≡ Some material)
      → versions' ≡ versions ++ record { version = version; material = Some material } ∷ [] → VersionsSoFar old last r u name known count (number + 1) versions'
  one_more last u material versions' reads given more = record {
    reads = reads_more old new last r t u so.reads reads;
    has = so.has;
    count_is = so.count_is;
    are = λ telling.
        let is : material_of t.store.table.keys.rows version ≡ Some material = given (λ older. tells_still old new r t so.reads (telling (older_too older))) in
        one_more_version so.has.key.name so.has.key.materials number versions versions' within (so.are telling)
        (more ∙ (λ i. versions ++ record { version = record { key = so.has.knows.name i; number = number }; material = (sym is ∙ material_at) i } ∷ []));
  }

-- all of them
pub all_read : (old new : DiskState) (r t : Running) (name : List ℕ) (known : Known) (count number : ℕ) (versions : List Shown) → VersionsSoFar old new r t name known count number versions → count ≤ number
    → GivesAnswer old new (keys_of r) (call.Versions name) (all_versions (row_of (keys_of r) name)) (Ok versions)
all_read old new r t name known count number versions so done = (
  present (row_of (keys_of r) name) (ap is_none so.has.found),
  λ telling. so.are telling ∙ ap (versions_from so.has.key.name 0) (take_all number so.has.key.materials (omega (arith, done, so.count_is))) ∙ ap all_versions (sym so.has.found),
)

-- keys that were sent together

one_more_mapped : {X Y : Type 0} (f : X → Y) (xs : List X) (i : ℕ) (x : X) → i < length xs → get_or xs i x ≡ x → map f (take i xs) ++ f x ∷ [] ≡ map f (take (i + 1) xs)
one_more_mapped f xs i x within at =
    ap (λ y. map f (take i xs) ++ f y ∷ []) (sym at) ∙ sym (map_more f (take i xs) (get_or xs i x)) ∙ ap (map f) (sym (take_more xs i x within))

-- the keys sealed so far are the first ones
pub record SealedSoFar (old new : DiskState) (r t : Running) (name : List ℕ) (sent : List RawEdek) (count : ℕ) (keys : List Edek) : Type 0 where
  pub reads : ReadsOnly old new r t
  pub are : (IsTrue (reads_older (keys_of r) (call.Batch name sent)) → Tells old) → keys ≡ map (resealed (keys_of r) name) (take count sent)
  pub versions : map (λ (key : Edek). key.version) keys ≡ map (λ (one : RawEdek). (resealed (keys_of r) name one).version) (take count sent)

any_at : {X : Type 0} (p : X → Bool) (xs : List X) (i : ℕ) (x : X) → i < length xs → get_or xs i x ≡ x → p x ≡ true → list_any p xs ≡ true
any_at p [] i x less at is = absurd (omega arith)
any_at p (y ∷ ys) zero x less at is = ap (λ z. p z || list_any p ys) at ∙ ap (λ b. b || list_any p ys) is
any_at p (y ∷ ys) (suc i) x less at is = or_right (p y) (list_any p ys) (any_at p ys i x (omega (arith, less)) at is)

module _ (old new : DiskState) (r t : Running) (name : List ℕ) (known : Known) (has : HasKey (keys_of r) name known) (sent : List RawEdek) (count : ℕ) (keys : List Edek) (so : SealedSoFar old new r t name sent count keys)
    (less : count < length sent) (edek : RawEdek) (at : get_or sent count edek ≡ edek) (free : first_cause (batch_causes (row_of (keys_of r) name) name sent) ≡ None) where
  -- it has no cause of a refusal of its own
  one_free : first_cause (sent_causes (row_of (keys_of t) name) name edek) ≡ None
  one_free =
      ap (λ (s : KmsState). first_cause (sent_causes (row_of s name) name edek)) (same_keys old new r t so.reads)
      ∙ sym (same_cause (keys_of r) name has.key edek has.found)
      ∙ subst (λ (e : RawEdek). first_cause (sent_causes (Some has.key) has.key.name e) ≡ None) at (each_allowed has.key sent count edek (same_causes (keys_of r) name has.key sent has.found ∙ free) less)

  one_older : IsTrue (reads_older (keys_of t) (call.Reencrypt name edek)) → IsTrue (reads_older (keys_of r) (call.Batch name sent))
  one_older older =
      any_at (λ (e : RawEdek). is_older (keys_of r).table e.version) sent count edek less at (ap (λ (s : KmsState). is_older s.table edek.version) (sym (same_keys old new r t so.reads)) ∙ older)

  pub batch_failed : (why : KmsRefusal) (last : DiskState) → GivesAnswer new last (keys_of t) (call.Reencrypt name edek) (resealed (keys_of t) name edek) (Err why)
      → GivesAnswer old last (keys_of r) (call.Batch name sent) (map (resealed (keys_of r) name) sent) (Err why)
  batch_failed why last (inl stands) = let no : None ≡ Some why = sym one_free ∙ stands in absurd cc
  batch_failed why last (inr (none, inl wanting)) = let no : false ≡ true = wanting.0 in absurd cc
  batch_failed why last (inr (none, inr failed)) = inr (free, inr (one_older failed.0, rose_since old.faults new.faults last.faults so.reads.store.run.faults failed.1, failed.2))

  pub one_more_key : (last : DiskState) (u : Running) (key : Edek) (keys' : List Edek) → ReadsOnly new last t u
      → GivesAnswer new last (keys_of t) (call.Reencrypt name edek) (resealed (keys_of t) name edek) (Ok key) → key.version ≡ (resealed (keys_of t) name edek).version
      → keys' ≡ keys ++ key ∷ [] → SealedSoFar old last r u name sent (count + 1) keys'
  one_more_key last u key keys' reads gives version more =
      let same : resealed (keys_of t) name edek ≡ resealed (keys_of r) name edek = ap (λ (s : KmsState). resealed s name edek) (same_keys old new r t so.reads) in
      record {
        reads = reads_more old new last r t u so.reads reads;
        are = λ telling.
            let is : key ≡ resealed (keys_of r) name edek = gives.1 (λ older. tells_still old new r t so.reads (telling (one_older older))) ∙ same in
            more ∙ (λ i. so.are telling i ++ is i ∷ []) ∙ one_more_mapped (resealed (keys_of r) name) sent count edek less at;
        versions =
            let of : Edek → VersionName = λ e. e.version in
            ap (map of) more ∙ map_more of keys key ∙ (λ i. so.versions i ++ (version ∙ ap of same) i ∷ [])
            ∙ one_more_mapped (λ (one : RawEdek). (resealed (keys_of r) name one).version) sent count edek less at;
      }

pub all_sealed : (old new : DiskState) (r t : Running) (name : List ℕ) (sent : List RawEdek) (count : ℕ) (keys : List Edek) → SealedSoFar old new r t name sent count keys → length sent ≤ count
    → first_cause (batch_causes (row_of (keys_of r) name) name sent) ≡ None
    → GivesAnswer old new (keys_of r) (call.Batch name sent) (map (resealed (keys_of r) name) sent) (Ok keys)
all_sealed old new r t name sent count keys so done free = (free, λ telling. so.are telling ∙ ap (map (resealed (keys_of r) name)) (take_all count sent done))

pub all_versions_known : (old new : DiskState) (r t : Running) (name : List ℕ) (sent : List RawEdek) (count : ℕ) (keys : List Edek) → SealedSoFar old new r t name sent count keys → length sent ≤ count
    → map (λ (key : Edek). key.version) keys ≡ map (λ (one : RawEdek). (resealed (keys_of r) name one).version) sent
all_versions_known old new r t name sent count keys so done = so.versions ∙ ap (map (λ (one : RawEdek). (resealed (keys_of r) name one).version)) (take_all count sent done)

-- the call for keys that were sent together
pub acts_on_batch : (old new : DiskState) (r t : Running) (words : ℕ → ℕ) (now : ℕ) (name : List ℕ) (sent : List RawEdek) (given : Result (List Edek) KmsRefusal) → ReadsOnly old new r t
    → GivesAnswer old new (keys_of r) (call.Batch name sent) (map (resealed (keys_of r) name) sent) given
    → IfOk given (λ keys. map (λ (key : Edek). key.version) keys ≡ map (λ (one : RawEdek). (resealed (keys_of r) name one).version) sent)
    → KmsActsOnDisk old new r words now (call.Batch name sent) (as_reply reply.Ready given) t words
acts_on_batch old new r t words now name sent given reads gives versions =
    acts_by_reads old new r t words now (call.Batch name sent) reply.Ready (map (resealed (keys_of r) name) sent) given refl refl (λ x why is. absurd cc) reads gives (of given versions)
  where
    of : (given : Result (List Edek) KmsRefusal) → IfOk given (λ keys. map (λ (key : Edek). key.version) keys ≡ map (λ (one : RawEdek). (resealed (keys_of r) name one).version) sent)
        → OfVersions (keys_of r) (call.Batch name sent) (as_reply reply.Ready given)
    of (Ok keys) versions name' sent' edeks batch is =
        let names : name ≡ name' = cc in let all : sent ≡ sent' = cc in let same : edeks ≡ keys = cc in
        ap (map (λ (key : Edek). key.version)) same ∙ versions ∙ (λ i. map (λ (one : RawEdek). (resealed (keys_of r) (names i) one).version) (all i))
    of (Err why) versions name' sent' edeks batch is = absurd cc
