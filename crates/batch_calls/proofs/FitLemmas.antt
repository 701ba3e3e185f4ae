-- The reply to the call for a batch fits it: as many keys come back as were sent, each of the same key.
use Rattle.std.proofs.Common.{◌≡◌, ◌⊎◌, inl, inr, ℕ, ◌+◌, ◌<◌, Bool, true, false, cond, not, ◌&&◌, suc, List, [], ◌∷◌, ◌++◌, length, map, take, get_or, Option, Some, None, is_none, Ok, Err, refl, sym, ap, subst, ◌∙◌}
use Rattle.std.specs.List.{list_any}
use Rattle.std.specs.Str.{bytes_eq}
use Rattle.std.specs.declared.result.Result.{Result}
use Rattle.std.proofs.lemmas.List.{take_more}
use Rattle.std.proofs.lemmas.Slice.Eq.{bytes_eq-Decides}
use Rattle.std.proofs.lemmas.Bool.{or_parts}
use Rattle.hk_base.specs.declared.names.Edek.{Edek}
use Rattle.hk_base.specs.declared.names.KeyName.{KeyName}
use Rattle.hk_base.specs.declared.names.VersionName.{VersionName}
use Rattle.key_rows.specs.declared.rows.KeyCommand.{KeyCommand}
use Rattle.key_rows.specs.declared.rows.KeyRow.{KeyRow}
use Rattle.kms_acls.specs.declared.answers.Denied.{Denied}
use Rattle.kms_acls.specs.declared.answers.Shown.{Shown}
use Rattle.eek_seal.specs.Seal.{seal}
use Rattle.kms_calls.specs.declared.calls.KmsRefusal.{KmsRefusal}
use Rattle.kms_calls.specs.declared.calls.KmsReply.{KmsReply}
use Rattle.kms_calls.specs.declared.calls.KmsReply.TheVariants as key_reply
use Rattle.kms_calls.specs.declared.calls.RawEdek.{RawEdek}
use Rattle.kms_core.specs.Calls.{KmsActs, NoRoom, Plain, batch_causes, causes, current_material, current_version, deed, edek_of, first_cause, is_of_other_key, resealed, row_of, same_version, unless_refused, unsealed_dek}
use Rattle.kms_core.specs.Laws.{sent_of}
use Rattle.kms_core.specs.Service.{OnlyReads, ReadFails}
use Rattle.kms_core.specs.State.{KmsState, ServiceState}
use Rattle.kms_core.specs.Users.{ServesUnder}
use Rattle.kms_core.proofs.KeyLemmas.{named}
use Rattle.kms_core.proofs.SentLemmas.{BatchHas, batch_has, map_more}
use Rattle.reenc_walk.specs.declared.sent.BatchNote.{BatchNote}
use Rattle.reenc_walk.specs.declared.sent.Sent.{Sent}
use Rattle.reenc_update.specs.Replies.{are_of_keys}
use Rattle.batch_calls.specs.Batches.{ReplyFits, batch_call, key_of_sent, raw_keys}

-- the keys of one more file
pub one-more-raw : (sent : List Sent) (i : ℕ) (x : Sent) (raw raw' : List RawEdek) (key : RawEdek) → i < length sent → get_or sent i x ≡ x → raw ≡ raw_keys (take i sent) → key ≡ sent_of x.edek → raw' ≡ raw ++ key ∷ []
    → raw' ≡ raw_keys (take (i + 1) sent)
one-more-raw sent i x raw raw' key within at are is more =
    more ∙ (λ j. are j ++ is j ∷ []) ∙ ap (λ (y : Sent). raw_keys (take i sent) ++ sent_of y.edek ∷ []) (sym at) ∙ sym (map_more (λ (y : Sent). sent_of y.edek) (take i sent) (get_or sent i x)) ∙ ap raw_keys (sym (take_more sent i x within))

pub of-name : (name : KeyName) (x : Sent) → not (bytes_eq x.edek.version.key name) ≡ false → x.edek.version.key ≡ name
of-name name x h = (bytes_eq-Decides x.edek.version.key name).0 (yes (bytes_eq x.edek.version.key name) h)
  where
    yes : (b : Bool) → not b ≡ false → b ≡ true
    yes true h = refl
    yes false h = absurd cc

-- keys of another number are not those of the files
pub other-length : (sent : List Sent) (edeks : List Edek) → (length sent ≡ length edeks → ⊥) → false ≡ are_of_keys sent edeks
other-length [] [] h = absurd (h refl)
other-length [] (e ∷ es) h = refl
other-length (x ∷ xs) [] h = refl
other-length (x ∷ xs) (e ∷ es) h = go (bytes_eq e.version.key x.edek.version.key) (other-length xs es (λ same. h (ap suc same)))
  where
    go : (b : Bool) → false ≡ are_of_keys xs es → false ≡ (b && are_of_keys xs es)
    go true none = none
    go false none = refl

-- as many keys come back as were sent, each of the same key

resealed-key : (s : KmsState) (name : KeyName) (sent : RawEdek) (row : KeyRow) → row_of s name ≡ Some row → row.name ≡ name → sent.version.key ≡ name → (resealed s name sent).version.key ≡ name
resealed-key s name sent row found is mine =
    go (same_version sent.version (current_version (row_of s name))) (record { version = current_version (row_of s name); iv = sent.iv; sealed = seal (current_material s name) sent.iv (unsealed_dek s sent) }) refl
  where
    go : (b : Bool) (other : Edek) → other.version ≡ current_version (row_of s name) → (cond b (edek_of sent) other).version.key ≡ name
    go true other of = mine
    go false other of = ap (λ (v : VersionName). v.key) (of ∙ ap current_version found) ∙ is

keys-of-sent : (s : KmsState) (name : KeyName) (row : KeyRow) (sent : List Sent) → row_of s name ≡ Some row → row.name ≡ name → list_any (is_of_other_key name) (raw_keys sent) ≡ false
    → are_of_keys sent (map (resealed s name) (raw_keys sent)) ≡ true
keys-of-sent s name row [] found is none = refl
keys-of-sent s name row (x ∷ xs) found is none =
    let parts = or_parts (is_of_other_key name (sent_of x.edek)) (list_any (is_of_other_key name) (raw_keys xs)) none in
    let mine : x.edek.version.key ≡ name = of-name name x parts.0 in
    let same : (resealed s name (sent_of x.edek)).version.key ≡ x.edek.version.key = resealed-key s name (sent_of x.edek) row found is mine ∙ sym mine in
    ap (λ b. b && are_of_keys xs (map (resealed s name) (raw_keys xs))) ((bytes_eq-Decides (resealed s name (sent_of x.edek)).version.key x.edek.version.key).1 same) ∙ keys-of-sent s name row xs found is parts.1

batch-keys : (s : KmsState) (batch : BatchNote) → first_cause (batch_causes (row_of s (key_of_sent batch.sent)) (key_of_sent batch.sent) (raw_keys batch.sent)) ≡ None
    → are_of_keys batch.sent (map (resealed s (key_of_sent batch.sent)) (raw_keys batch.sent)) ≡ true
batch-keys s batch free = go (row_of s name) refl has.stands
  where
    name : KeyName
    name = key_of_sent batch.sent

    has : BatchHas (row_of s name) name (raw_keys batch.sent)
    has = batch_has (row_of s name) name (raw_keys batch.sent) free

    go : (o : Option KeyRow) → row_of s name ≡ o → is_none o ≡ false → are_of_keys batch.sent (map (resealed s name) (raw_keys batch.sent)) ≡ true
    go None found some = absurd cc
    go (Some row) found some = keys-of-sent s name row batch.sent found (named s.table.rows name row found) has.its

-- whether keys are those of the files depends on their versions alone
versions-fit : (sent : List Sent) (xs ys : List Edek) → map (λ (e : Edek). e.version) xs ≡ map (λ (e : Edek). e.version) ys → are_of_keys sent xs ≡ are_of_keys sent ys
versions-fit [] [] [] same = refl
versions-fit [] [] (y ∷ ys) same = absurd cc
versions-fit [] (x ∷ xs) [] same = absurd cc
versions-fit [] (x ∷ xs) (y ∷ ys) same = refl
versions-fit (s ∷ sent) [] [] same = refl
versions-fit (s ∷ sent) [] (y ∷ ys) same = absurd cc
versions-fit (s ∷ sent) (x ∷ xs) [] same = absurd cc
versions-fit (s ∷ sent) (x ∷ xs) (y ∷ ys) same =
    let first : x.version ≡ y.version = cc in
    let rest : map (λ (e : Edek). e.version) xs ≡ map (λ (e : Edek). e.version) ys = cc in
    let later = versions-fit sent xs ys rest in
    λ i. bytes_eq (first i).key s.edek.version.key && later i

versions-of : (f : RawEdek → Edek) (sent : List RawEdek) → map (λ (e : Edek). e.version) (map f sent) ≡ map (λ (x : RawEdek). (f x).version) sent
versions-of f [] = refl
versions-of f (x ∷ xs) = ap (λ (vs : List VersionName). (f x).version ∷ vs) (versions-of f xs)

module _ (s : ServiceState) (words : ℕ → ℕ) (now : ℕ) (batch : BatchNote) (fault tells : Type 0) (reply : KmsReply) (drawn : ℕ) (logged : List KeyCommand) (after : ServiceState)
    (reads : OnlyReads s words now (batch_call batch) fault tells reply drawn logged after) where
  abbrev cause : Option KmsRefusal
  cause = first_cause (causes s.keys (batch_call batch))

  by-end : KmsActs s.keys words now (batch_call batch) reply drawn s.keys → ReplyFits batch reply
  by-end (NoRoom some, may, is) = subst (ReplyFits batch) (sym (ap (λ o. o.reply) is)) tt
  by-end (Plain, may, is) = subst (ReplyFits batch) (sym (ap (λ o. o.reply) is)) (go cause refl)
    where
      go : (o : Option KmsRefusal) → cause ≡ o → ReplyFits batch (unless_refused o s.keys (deed s.keys words now (batch_call batch))).reply
      go (Some why) is = tt
      go None free = batch-keys s.keys batch free

  -- the versions of the keys that come back are known, whatever the disk gave
  by-reply : cause ≡ None → (given : KmsReply) → reply ≡ given → ReplyFits batch given
  by-reply free (key_reply.Ready edeks) is =
      versions-fit batch.sent edeks (map (resealed s.keys (key_of_sent batch.sent)) (raw_keys batch.sent))
      (reads.versions (key_of_sent batch.sent) (raw_keys batch.sent) edeks refl is ∙ sym (versions-of (resealed s.keys (key_of_sent batch.sent)) (raw_keys batch.sent)))
      ∙ batch-keys s.keys batch free
  by-reply free (key_reply.Version version material) is = tt
  by-reply free key_reply.Done is = tt
  by-reply free (key_reply.Metadata meta) is = tt
  by-reply free (key_reply.Metadatas metas) is = tt
  by-reply free (key_reply.Names names) is = tt
  by-reply free (key_reply.Versions versions) is = tt
  by-reply free (key_reply.Resealed edek) is = tt
  by-reply free (key_reply.Key dek) is = tt
  by-reply free (key_reply.Refused why) is = tt

  reads-fit : (o : Option KmsRefusal) → cause ≡ o → ReplyFits batch reply
  reads-fit None free = by-reply free reply refl
  reads-fit (Some why) stands = known (reads.acts (λ older. let no : None ≡ Some why = sym older.free ∙ stands in absurd cc))
    where
      known : KmsActs s.keys words now (batch_call batch) reply drawn s.keys ⊎ ReadFails s.keys (batch_call batch) fault reply → ReplyFits batch reply
      known (inl acts) = by-end acts
      known (inr fails) = subst (ReplyFits batch) (sym fails.reply_is) tt

pub batch-fits : (s : ServiceState) (words : ℕ → ℕ) (now : ℕ) (batch : BatchNote) (fault tells : Type 0) (reply : KmsReply) (drawn : ℕ) (logged : List KeyCommand) (after : ServiceState) (v : Result Shown Denied)
    → ServesUnder v s words now (batch_call batch) fault tells reply drawn logged after → ReplyFits batch reply
batch-fits s words now batch fault tells reply drawn logged after (Err denied) d = subst (ReplyFits batch) (sym d.reply_is) tt
batch-fits s words now batch fault tells reply drawn logged after (Ok shown) p =
    subst (ReplyFits batch) (sym p.reply_is) (reads-fit s words now batch fault tells p.reply drawn logged after p.serves (first_cause (causes s.keys (batch_call batch))) refl)
