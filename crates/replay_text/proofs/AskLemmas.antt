-- From the fields after the verb of an ask to those after `ask`.
use Rattle.std.proofs.Common.{◌≡◌, ℕ, List, ◌∷◌, codes, refl, subst, Option, None, Some, Result, Ok, Err, IfOk, MatchOption}
use Rattle.hk_base.specs.declared.texts.NoMemory.{NoMemory}
use Rattle.hk_events.specs.declared.event.Event.{Event}
use Rattle.replay_text.specs.Events.{SpellsAskPath, SpellsAskZone, SpellsEvent}
use Rattle.replay_text.proofs.CallLemmas.{apart}

-- the fields are the text of no ask with this verb and a path alone
abbrev pub NoAskPath : List ℕ → List (List ℕ) → Type 0
NoAskPath verb fields = (user path : List ℕ) → ¬ SpellsAskPath verb fields user path

-- the fields are the text of no ask for a zone
abbrev pub NoAskZone : List (List ℕ) → Type 0
NoAskZone fields = (user path key : List ℕ) → ¬ SpellsAskZone fields user path key

-- the fields of an ask are the text of none
abbrev pub NoAsk : List (List ℕ) → Type 0
NoAsk fields = NoAskPath (codes "create") fields × (NoAskPath (codes "submit") fields × NoAskZone fields)

-- an ask with a verb is none with a different verb
other_path : (verb word user : List ℕ) (more : List (List ℕ)) → (verb ≡ word → ⊥) → NoAskPath word (codes "ask" ∷ user ∷ verb ∷ more)
other_path verb word user more differ who path x = differ (let same = x.fields_are in cc)

not_zone : (verb user : List ℕ) (more : List (List ℕ)) → (verb ≡ codes "zone" → ⊥) → NoAskZone (codes "ask" ∷ user ∷ verb ∷ more)
not_zone verb user more differ who path key x = differ (let same = x.fields_are in cc)

-- what is known of the fields of an ask with this verb that were read
abbrev pub ReadsAsk : List ℕ → List (List ℕ) → Result (Option Event) NoMemory → Type 0
ReadsAsk verb fields result = IfOk result (λ found. MatchOption found (NoAskPath verb fields) (SpellsEvent fields))

abbrev pub ReadsZone : List (List ℕ) → Result (Option Event) NoMemory → Type 0
ReadsZone fields result = IfOk result (λ found. MatchOption found (NoAskZone fields) (SpellsEvent fields))

-- what is known of the fields of any ask that were read
abbrev pub ReadsAny : List (List ℕ) → Result (Option Event) NoMemory → Type 0
ReadsAny fields result = IfOk result (λ found. MatchOption found (NoAsk fields) (SpellsEvent fields))

create_tells : (user : List ℕ) (more : List (List ℕ)) (result : Result (Option Event) NoMemory)
    → ReadsAsk (codes "create") (codes "ask" ∷ user ∷ codes "create" ∷ more) result → ReadsAny (codes "ask" ∷ user ∷ codes "create" ∷ more) result
create_tells user more (Ok None) outcome = (outcome, (other_path (codes "create") (codes "submit") user more (apart _ _ refl), not_zone (codes "create") user more (apart _ _ refl)))
create_tells user more (Ok (Some event)) outcome = outcome
create_tells user more (Err wanting) outcome = outcome

submit_tells : (user : List ℕ) (more : List (List ℕ)) (result : Result (Option Event) NoMemory)
    → ReadsAsk (codes "submit") (codes "ask" ∷ user ∷ codes "submit" ∷ more) result → ReadsAny (codes "ask" ∷ user ∷ codes "submit" ∷ more) result
submit_tells user more (Ok None) outcome = (other_path (codes "submit") (codes "create") user more (apart _ _ refl), (outcome, not_zone (codes "submit") user more (apart _ _ refl)))
submit_tells user more (Ok (Some event)) outcome = outcome
submit_tells user more (Err wanting) outcome = outcome

zone_tells : (user : List ℕ) (more : List (List ℕ)) (result : Result (Option Event) NoMemory)
    → ReadsZone (codes "ask" ∷ user ∷ codes "zone" ∷ more) result → ReadsAny (codes "ask" ∷ user ∷ codes "zone" ∷ more) result
zone_tells user more (Ok None) outcome =
    (other_path (codes "zone") (codes "create") user more (apart _ _ refl), (other_path (codes "zone") (codes "submit") user more (apart _ _ refl), outcome))
zone_tells user more (Ok (Some event)) outcome = outcome
zone_tells user more (Err wanting) outcome = outcome

-- what is known of fields is known of equal ones
any_same : (fields rest more : List (List ℕ)) (user verb word : List ℕ) (result : Result (Option Event) NoMemory) → fields ≡ user ∷ rest → rest ≡ verb ∷ more → verb ≡ word
    → ReadsAny (codes "ask" ∷ user ∷ word ∷ more) result → ReadsAny (codes "ask" ∷ fields) result
any_same fields rest more user verb word result first second is =
    let same : user ∷ word ∷ more ≡ fields = cc in subst (λ (fs : List (List ℕ)). ReadsAny (codes "ask" ∷ fs) result) same

pub create_answered : (fields rest more : List (List ℕ)) (user verb : List ℕ) (result : Result (Option Event) NoMemory) → fields ≡ user ∷ rest → rest ≡ verb ∷ more → verb ≡ codes "create"
    → ReadsAsk (codes "create") (codes "ask" ∷ user ∷ codes "create" ∷ more) result → ReadsAny (codes "ask" ∷ fields) result
create_answered fields rest more user verb result first second is outcome =
    any_same fields rest more user verb (codes "create") result first second is (create_tells user more result outcome)

pub submit_answered : (fields rest more : List (List ℕ)) (user verb : List ℕ) (result : Result (Option Event) NoMemory) → fields ≡ user ∷ rest → rest ≡ verb ∷ more → verb ≡ codes "submit"
    → ReadsAsk (codes "submit") (codes "ask" ∷ user ∷ codes "submit" ∷ more) result → ReadsAny (codes "ask" ∷ fields) result
submit_answered fields rest more user verb result first second is outcome =
    any_same fields rest more user verb (codes "submit") result first second is (submit_tells user more result outcome)

pub zone_answered : (fields rest more : List (List ℕ)) (user verb : List ℕ) (result : Result (Option Event) NoMemory) → fields ≡ user ∷ rest → rest ≡ verb ∷ more → verb ≡ codes "zone"
    → ReadsZone (codes "ask" ∷ user ∷ codes "zone" ∷ more) result → ReadsAny (codes "ask" ∷ fields) result
zone_answered fields rest more user verb result first second is outcome =
    any_same fields rest more user verb (codes "zone") result first second is (zone_tells user more result outcome)
