-- The statuses of re-encryptions after an operation of the edit log, and their draws.
use Rattle.std.proofs.Common.{◌≡◌, ◌⊎◌, inl, inr, ℕ, Bool, true, false, cond, not, List, [], ◌∷◌, ◌++◌, map, Option, Some, None, is_none, refl, sym, ap, subst, ◌∙◌, arith}
use Rattle.std.specs.Prelude.{◌==◌}
use Rattle.std.specs.List.{AllByRecursion, filter}
use Rattle.std.proofs.lemmas.Bool.Decides.{nat_tests}
use Rattle.hk_base.specs.declared.names.KeyName.{KeyName}
use Rattle.inode_tree.specs.Below.{at_or_below}
use Rattle.inode_tree.specs.Rows.{Entry}
use Rattle.name_calls.specs.declared.paths.NPath.{NPath}
use Rattle.name_store.specs.Causes.{mark_at}
use Rattle.name_store.specs.Table.{key_of_zone}
use Rattle.name_store.proofs.StatusLemmas.{key-at-root}
use Rattle.zone_table.specs.declared.statuses.StatusRow.{StatusRow}
use Rattle.zone_table.specs.Statuses.{counted, ended, goes_on_under, is_of, with_counts, with_end, with_status, without_below}
use Rattle.world_run.specs.Ledger.{Ledger}
use Rattle.world_run.specs.Linked.{AreDistinct, HasNoted, IsOther, StatusesLinked}
use Rattle.world_run.specs.Promise.{In}
use Rattle.world_run.proofs.Members.{each-in, in-left, in-map}

-- members of the statuses

pub in-with : (s x : StatusRow) (ts : List StatusRow) → In x (with_status s ts) → (x ≡ s) ⊎ In x ts
in-with s x [] (inl is) = inl is
in-with s x [] (inr none) = absurd none
in-with s x (t ∷ ts) i = go (is_of s.zone t) (in-with s x ts) i
  where
    go : (b : Bool) → (In x (with_status s ts) → (x ≡ s) ⊎ In x ts) → In x (cond b (s ∷ ts) (t ∷ with_status s ts)) → (x ≡ s) ⊎ In x (t ∷ ts)
    go true ih (inl is) = inl is
    go true ih (inr j) = inr (inr j)
    go false ih (inl is) = inr (inl is)
    go false ih (inr j) = elim (ih j) [ inl is ↦ inl is | inr k ↦ inr (inr k) ]

in-without : (rows : List Entry) (p : List (List ℕ)) (x : StatusRow) (ts : List StatusRow) → In x (without_below rows p ts) → In x ts
in-without rows p x [] i = absurd i
in-without rows p x (t ∷ ts) i = go (not (at_or_below rows t.zone p)) (in-without rows p x ts) i
  where
    go : (b : Bool) → (In x (without_below rows p ts) → In x ts) → In x (cond b (t ∷ without_below rows p ts) (without_below rows p ts)) → In x (t ∷ ts)
    go true ih (inl is) = inl is
    go true ih (inr j) = inr (ih j)
    go false ih j = inr (ih j)

-- an end keeps the session and the noted version
end-stays : (ledger : Ledger) (session : ℕ) (cancelled : Bool) (t : StatusRow) → HasNoted ledger t.session t.noted → HasNoted ledger (with_end session cancelled t).session (with_end session cancelled t).noted
end-stays ledger session cancelled t has = go (goes_on_under session t)
  where
    go : (b : Bool) → HasNoted ledger (cond b (record t { completed = true; cancelled = cancelled }) t).session (cond b (record t { completed = true; cancelled = cancelled }) t).noted
    go true = has
    go false = has

-- their draws

pub with-linked : (ledger : Ledger) (s : StatusRow) (ts : List StatusRow) → HasNoted ledger s.session s.noted → StatusesLinked ledger ts → StatusesLinked ledger (with_status s ts)
with-linked ledger s ts has l x i = elim (in-with s x ts i) [
  | inl is ↦ subst (λ (y : StatusRow). HasNoted ledger y.session y.noted) (sym is) has
  | inr old ↦ l x old
]

pub without-linked : (ledger : Ledger) (rows : List Entry) (p : List (List ℕ)) (ts : List StatusRow) → StatusesLinked ledger ts → StatusesLinked ledger (without_below rows p ts)
without-linked ledger rows p ts l x i = l x (in-without rows p x ts i)

pub ended-linked : (ledger : Ledger) (session : ℕ) (cancelled : Bool) (ts : List StatusRow) → StatusesLinked ledger ts → StatusesLinked ledger (ended session cancelled ts)
ended-linked ledger session cancelled ts l x i =
    let t = in-map (with_end session cancelled) x ts i in
    subst (λ (y : StatusRow). HasNoted ledger y.session y.noted) (sym t.2) (end-stays ledger session cancelled t.0 (l t.0 t.1))

-- what is counted keeps the session and the noted version
module _ (session changed failed : ℕ) (mark : Option NPath) where
  in-counted : (x : StatusRow) (ts : List StatusRow) → In x (counted session changed failed mark ts) → (t : StatusRow) × In t ts × ((x ≡ with_counts changed failed mark t) ⊎ (x ≡ t))
  in-counted x [] i = absurd i
  in-counted x (t ∷ ts) i = go (goes_on_under session t) (in-counted x ts) i
    where
      go : (b : Bool) → (In x (counted session changed failed mark ts) → (y : StatusRow) × In y ts × ((x ≡ with_counts changed failed mark y) ⊎ (x ≡ y)))
          → In x (cond b (with_counts changed failed mark t ∷ ts) (t ∷ counted session changed failed mark ts)) → (y : StatusRow) × In y (t ∷ ts) × ((x ≡ with_counts changed failed mark y) ⊎ (x ≡ y))
      go true ih (inl is) = (t, inl refl, inl is)
      go true ih (inr j) = (x, inr j, inr refl)
      go false ih (inl is) = (t, inl refl, inr is)
      go false ih (inr j) = let r = ih j in (r.0, inr r.1, r.2)

  pub counted-linked : (ledger : Ledger) (ts : List StatusRow) → StatusesLinked ledger ts → StatusesLinked ledger (counted session changed failed mark ts)
  counted-linked ledger ts l x i =
      let t = in-counted x ts i in
      elim t.2 [
        | inl is ↦ subst (λ (y : StatusRow). HasNoted ledger y.session y.noted) (sym is) (l t.0 t.1)
        | inr is ↦ subst (λ (y : StatusRow). HasNoted ledger y.session y.noted) (sym is) (l t.0 t.1)
      ]

-- and with more entries
pub entered-statuses : (ledger entries : Ledger) (ts : List StatusRow) → StatusesLinked ledger ts → StatusesLinked (ledger ++ entries) ts
entered-statuses ledger entries ts l x i =
    let n = l x i in record { draw = n.draw; entered = in-left (x.session, n.draw) ledger entries n.entered; noted_is = n.noted_is }

-- the zone at the path of its directory has a key
pub root-has-key : (rows : List Entry) (p : List (List ℕ)) → is_none (mark_at rows p) ≡ false → key_of_zone rows p ≡ None → ⊥
root-has-key rows p root none = go (mark_at rows p) refl root
  where
    go : (o : Option KeyName) → mark_at rows p ≡ o → is_none o ≡ false → ⊥
    go None is some = absurd cc
    go (Some key) is some = let both : None ≡ Some key = sym none ∙ key-at-root rows p key is in absurd cc

-- no two of them have one id or one zone

-- the same re-encryption of the same zone
abbrev IsSame : StatusRow → StatusRow → Type 0
IsSame s t = (s.session ≡ t.session) × (s.zone ≡ t.zone)

same-others : (s t u v : StatusRow) → IsSame u s → IsSame v t → IsOther s t → IsOther u v
same-others s t u v a b o = record { session = λ same. o.session (sym a.0 ∙ same ∙ b.0); zone = λ same. o.zone (sym a.1 ∙ same ∙ b.1) }

module _ (f : StatusRow → StatusRow) (same : (s : StatusRow) → IsSame (f s) s) where
  others-map : (s : StatusRow) (ts : List StatusRow) → AllByRecursion (IsOther s) ts → AllByRecursion (IsOther (f s)) (map f ts)
  others-map s [] others = tt
  others-map s (t ∷ ts) others = (same-others s t (f s) (f t) (same s) (same t) others.0, others-map s ts others.1)

  pub distinct-map : (ts : List StatusRow) → AreDistinct ts → AreDistinct (map f ts)
  distinct-map [] d = tt
  distinct-map (t ∷ ts) d = (others-map t ts d.0, distinct-map ts d.1)

end-same : (session : ℕ) (cancelled : Bool) (t : StatusRow) → IsSame (with_end session cancelled t) t
end-same session cancelled t = go (goes_on_under session t)
  where
    go : (b : Bool) → IsSame (cond b (record t { completed = true; cancelled = cancelled }) t) t
    go true = (refl, refl)
    go false = (refl, refl)

pub distinct-ended : (session : ℕ) (cancelled : Bool) (ts : List StatusRow) → AreDistinct ts → AreDistinct (ended session cancelled ts)
distinct-ended session cancelled ts d = distinct-map (with_end session cancelled) (end-same session cancelled) ts d

others-filter : (p : StatusRow → Bool) (s : StatusRow) (ts : List StatusRow) → AllByRecursion (IsOther s) ts → AllByRecursion (IsOther s) (filter p ts)
others-filter p s [] others = tt
others-filter p s (t ∷ ts) others = go (p t) (others-filter p s ts others.1)
  where
    go : (b : Bool) → AllByRecursion (IsOther s) (filter p ts) → AllByRecursion (IsOther s) (cond b (t ∷ filter p ts) (filter p ts))
    go true ih = (others.0, ih)
    go false ih = ih

distinct-filter : (p : StatusRow → Bool) (ts : List StatusRow) → AreDistinct ts → AreDistinct (filter p ts)
distinct-filter p [] d = tt
distinct-filter p (t ∷ ts) d = go (p t) (distinct-filter p ts d.1)
  where
    go : (b : Bool) → AreDistinct (filter p ts) → AreDistinct (cond b (t ∷ filter p ts) (filter p ts))
    go true ih = (others-filter p t ts d.0, ih)
    go false ih = ih

pub distinct-without : (rows : List Entry) (p : List (List ℕ)) (ts : List StatusRow) → AreDistinct ts → AreDistinct (without_below rows p ts)
distinct-without rows p ts d = distinct-filter (λ (s : StatusRow). not (at_or_below rows s.zone p)) ts d

-- files that are counted
module _ (session changed failed : ℕ) (mark : Option NPath) where
  others-counted : (s : StatusRow) (ts : List StatusRow) → AllByRecursion (IsOther s) ts → AllByRecursion (IsOther s) (counted session changed failed mark ts)
  others-counted s [] others = tt
  others-counted s (t ∷ ts) others = go (goes_on_under session t) (others-counted s ts others.1)
    where
      go : (b : Bool) → AllByRecursion (IsOther s) (counted session changed failed mark ts)
          → AllByRecursion (IsOther s) (cond b (with_counts changed failed mark t ∷ ts) (t ∷ counted session changed failed mark ts))
      go true ih = (same-others s t s (with_counts changed failed mark t) (refl, refl) (refl, refl) others.0, others.1)
      go false ih = (others.0, ih)

  others-of : (s : StatusRow) (ts : List StatusRow) → AllByRecursion (IsOther s) ts → AllByRecursion (IsOther (with_counts changed failed mark s)) ts
  others-of s [] others = tt
  others-of s (t ∷ ts) others = (same-others s t (with_counts changed failed mark s) t (refl, refl) (refl, refl) others.0, others-of s ts others.1)

  pub distinct-counted : (ts : List StatusRow) → AreDistinct ts → AreDistinct (counted session changed failed mark ts)
  distinct-counted [] d = tt
  distinct-counted (t ∷ ts) d = go (goes_on_under session t) (distinct-counted ts d.1)
    where
      go : (b : Bool) → AreDistinct (counted session changed failed mark ts) → AreDistinct (cond b (with_counts changed failed mark t ∷ ts) (t ∷ counted session changed failed mark ts))
      go true ih = (others-of t ts d.0, d.1)
      go false ih = (others-counted t ts d.0, ih)

-- no status has the id
abbrev pub IsNewSession : ℕ → List StatusRow → Type 0
IsNewSession session ts = (t : StatusRow) → In t ts → t.session ≡ session → ⊥

others-with : (s t : StatusRow) (ts : List StatusRow) → IsOther t s → AllByRecursion (IsOther t) ts → AllByRecursion (IsOther t) (with_status s ts)
others-with s t [] other others = (other, tt)
others-with s t (u ∷ us) other others = go (is_of s.zone u) (others-with s t us other others.1)
  where
    go : (b : Bool) → AllByRecursion (IsOther t) (with_status s us) → AllByRecursion (IsOther t) (cond b (s ∷ us) (u ∷ with_status s us))
    go true ih = (other, others.1)
    go false ih = (others.0, ih)

-- in the place of a status of the same zone
others-instead : (s t : StatusRow) (ts : List StatusRow) → t.zone ≡ s.zone → IsNewSession s.session ts → AllByRecursion (IsOther t) ts → AllByRecursion (IsOther s) ts
others-instead s t [] zone new others = tt
others-instead s t (u ∷ us) zone new others = (
  record { session = λ same. new u (inl refl) (sym same); zone = λ same. others.0.zone (zone ∙ same) },
  others-instead s t us zone (λ x i. new x (inr i)) others.1,
)

pub distinct-with : (s : StatusRow) (ts : List StatusRow) → IsNewSession s.session ts → AreDistinct ts → AreDistinct (with_status s ts)
distinct-with s [] new d = (tt, tt)
distinct-with s (t ∷ ts) new d = go (is_of s.zone t) refl (distinct-with s ts (λ x i. new x (inr i)) d.1)
  where
    is-zone : (t.zone == s.zone) ≡ true → t.zone ≡ s.zone
    is-zone h = grind (arith, nat_tests)

    not-zone : (t.zone == s.zone) ≡ false → t.zone ≡ s.zone → ⊥
    not-zone h same = grind (arith, nat_tests)

    go : (b : Bool) → is_of s.zone t ≡ b → AreDistinct (with_status s ts) → AreDistinct (cond b (s ∷ ts) (t ∷ with_status s ts))
    go true is ih = (others-instead s t ts (is-zone is) (λ x i. new x (inr i)) d.0, d.1)
    go false is ih = (others-with s t ts (record { session = λ same. new t (inl refl) same; zone = not-zone is }) d.0, ih)

-- two statuses of one id or of one zone are the same
pub distinct-same : (ts : List StatusRow) (s t : StatusRow) → AreDistinct ts → In s ts → In t ts → (s.session ≡ t.session) ⊎ (s.zone ≡ t.zone) → s ≡ t
distinct-same [] s t d i j same = absurd i
distinct-same (x ∷ xs) s t d (inl p) (inl q) same = p ∙ sym q
distinct-same (x ∷ xs) s t d (inl p) (inr j) same = absurd (unlike t x s p (each-in (IsOther x) xs t d.0 j) same)
  where
    unlike : (b a c : StatusRow) → c ≡ a → IsOther a b → (c.session ≡ b.session) ⊎ (c.zone ≡ b.zone) → ⊥
    unlike b a c is o (inl session) = o.session (ap (λ (y : StatusRow). y.session) (sym is) ∙ session)
    unlike b a c is o (inr zone) = o.zone (ap (λ (y : StatusRow). y.zone) (sym is) ∙ zone)
distinct-same (x ∷ xs) s t d (inr i) (inl q) same = absurd (unlike s x t q (each-in (IsOther x) xs s d.0 i) same)
  where
    unlike : (b a c : StatusRow) → c ≡ a → IsOther a b → (b.session ≡ c.session) ⊎ (b.zone ≡ c.zone) → ⊥
    unlike b a c is o (inl session) = o.session (ap (λ (y : StatusRow). y.session) (sym is) ∙ sym session)
    unlike b a c is o (inr zone) = o.zone (ap (λ (y : StatusRow). y.zone) (sym is) ∙ sym zone)
distinct-same (x ∷ xs) s t d (inr i) (inr j) same = distinct-same xs s t d.1 i j same
