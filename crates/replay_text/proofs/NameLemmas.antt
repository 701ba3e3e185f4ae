-- From the fields of a line of the namesystem to its event.
use Rattle.std.proofs.Common.{◌≡◌, ℕ, List, [], ◌∷◌, length, codes, inl, inr, subst, sym, ◌∙◌, refl, ap, true, false, Option, None, Some, Result, Ok, Err, IfOk, MatchOption, arith}
use Rattle.hk_base.specs.declared.texts.NoMemory.{NoMemory}
use Rattle.hk_events.specs.declared.event.Event.{Event}
use Rattle.hk_events.specs.declared.event.Event.TheVariants as event
use Rattle.replay_text.specs.Events.{IsPathVerb, IsTwoFieldVerb, SpellsEvent, SpellsPath, SpellsTwoFields, SpellsZones, fields_of, is_space}
use Rattle.replay_text.proofs.CallLemmas.{apart, two_verbs}
use Rattle.replay_text.proofs.FieldLemmas.{never_empty}

-- the fields are the text of no call on a path alone
abbrev pub NoPath : List (List ℕ) → Type 0
NoPath fields = (verb user path : List ℕ) → IsPathVerb verb → ¬ SpellsPath verb fields user path

-- the fields are the text of no call on a path and another path or the name of a snapshot
abbrev pub NoTwoFields : List (List ℕ) → Type 0
NoTwoFields fields = (verb user path second : List ℕ) → IsTwoFieldVerb verb → ¬ SpellsTwoFields verb fields user path second

-- the fields don't ask for the zones
abbrev pub NoZones : List (List ℕ) → Type 0
NoZones fields = (user : List ℕ) → ¬ SpellsZones fields user

-- what is known of fields that were read
abbrev pub Reads : List (List ℕ) → Result (Option Event) NoMemory → Type 0
Reads fields result = IfOk result (λ found. MatchOption found ((e : Event) → ¬ SpellsEvent fields e) (SpellsEvent fields))

-- a line of the namesystem has a path, or a path and a second field, or asks for the zones
no_name_line : (more : List (List ℕ)) → NoPath (codes "nn" ∷ more) → NoTwoFields (codes "nn" ∷ more) → NoZones (codes "nn" ∷ more) → (e : Event) → ¬ SpellsEvent (codes "nn" ∷ more) e
no_name_line more no_path no_two no_zones (event.Kms user call) x = two_verbs _ _ _ (codes "nn") (codes "kms") (apart _ _ refl) refl x.fields_are
no_name_line more no_path no_two no_zones event.Ticket x = two_verbs _ _ _ (codes "nn") (codes "ticket") (apart _ _ refl) refl x
no_name_line more no_path no_two no_zones (event.Deposit number) x = two_verbs _ _ _ (codes "nn") (codes "deposit") (apart _ _ refl) refl x.fields_are
no_name_line more no_path no_two no_zones event.RestartKms x = two_verbs _ _ _ (codes "nn") (codes "restart") (apart _ _ refl) refl x
no_name_line more no_path no_two no_zones event.RestartName x = two_verbs _ _ _ (codes "nn") (codes "restart") (apart _ _ refl) refl x
no_name_line more no_path no_two no_zones (event.Mkdir user path) x = no_path (codes "mkdir") user path (inl refl) x
no_name_line more no_path no_two no_zones (event.Delete user path false) x = no_path (codes "delete") user path (inr (inl refl)) x
no_name_line more no_path no_two no_zones (event.Delete user path true) x = no_path (codes "rdelete") user path (inr (inr (inl refl))) x
no_name_line more no_path no_two no_zones (event.Rename user path to) x = no_two (codes "rename") user path to (inl refl) x
no_name_line more no_path no_two no_zones (event.Info user path) x = no_path (codes "info") user path (inr (inr (inr (inl refl)))) x
no_name_line more no_path no_two no_zones (event.List user path) x = no_path (codes "list") user path (inr (inr (inr (inr (inl refl))))) x
no_name_line more no_path no_two no_zones (event.Allow user path) x = no_path (codes "allow") user path (inr (inr (inr (inr (inr (inl refl)))))) x
no_name_line more no_path no_two no_zones (event.Disallow user path) x = no_path (codes "disallow") user path (inr (inr (inr (inr (inr (inr (inl refl))))))) x
no_name_line more no_path no_two no_zones (event.Snap user path name) x = no_two (codes "snap") user path name (inr (inl refl)) x
no_name_line more no_path no_two no_zones (event.Unsnap user path name) x = no_two (codes "unsnap") user path name (inr (inr refl)) x
no_name_line more no_path no_two no_zones (event.Cancel user path) x = no_path (codes "cancel") user path (inr (inr (inr (inr (inr (inr (inr (inl refl)))))))) x
no_name_line more no_path no_two no_zones (event.Status user path) x = no_path (codes "status") user path (inr (inr (inr (inr (inr (inr (inr (inr refl)))))))) x
no_name_line more no_path no_two no_zones (event.Zones user) x = no_zones user x
no_name_line more no_path no_two no_zones (event.AskCreate user path) x = two_verbs _ _ _ (codes "nn") (codes "ask") (apart _ _ refl) refl x.fields_are
no_name_line more no_path no_two no_zones (event.AskZone user path key) x = two_verbs _ _ _ (codes "nn") (codes "ask") (apart _ _ refl) refl x.fields_are
no_name_line more no_path no_two no_zones (event.AskSubmit user path) x = two_verbs _ _ _ (codes "nn") (codes "ask") (apart _ _ refl) refl x.fields_are
no_name_line more no_path no_two no_zones (event.Draw number) x = two_verbs _ _ _ (codes "nn") (codes "draw") (apart _ _ refl) refl x.fields_are
no_name_line more no_path no_two no_zones (event.Finish number) x = two_verbs _ _ _ (codes "nn") (codes "finish") (apart _ _ refl) refl x.fields_are
no_name_line more no_path no_two no_zones (event.Walk path) x = two_verbs _ _ _ (codes "nn") (codes "walk") (apart _ _ refl) refl x.fields_are
no_name_line more no_path no_two no_zones (event.Serve number) x = two_verbs _ _ _ (codes "nn") (codes "serve") (apart _ _ refl) refl x.fields_are
no_name_line more no_path no_two no_zones (event.Deliver number) x = two_verbs _ _ _ (codes "nn") (codes "deliver") (apart _ _ refl) refl x.fields_are
no_name_line more no_path no_two no_zones (event.GiveUp number) x = two_verbs _ _ _ (codes "nn") (codes "giveup") (apart _ _ refl) refl x.fields_are

-- two fields after `nn` have no path
two_fields : (user verb : List ℕ) → NoZones (codes "nn" ∷ user ∷ verb ∷ []) → (e : Event) → ¬ SpellsEvent (codes "nn" ∷ user ∷ verb ∷ []) e
two_fields user verb = no_name_line (user ∷ verb ∷ []) (λ word who path is x. omega (arith, ap length x.fields_are)) (λ word who path second is x. omega (arith, ap length x.fields_are))

-- three fields after `nn` have one path alone, and don't ask for the zones
three_fields : (user verb path : List ℕ) → NoPath (codes "nn" ∷ user ∷ verb ∷ path ∷ []) → (e : Event) → ¬ SpellsEvent (codes "nn" ∷ user ∷ verb ∷ path ∷ []) e
three_fields user verb path no_path =
    no_name_line (user ∷ verb ∷ path ∷ []) no_path (λ word who p second is x. omega (arith, ap length x.fields_are)) (λ who x. omega (arith, ap length x.fields_are))

-- four or more fields after `nn` are no call on a path alone, and don't ask for the zones
more_fields : (user verb path bytes : List ℕ) → NoTwoFields (codes "nn" ∷ user ∷ verb ∷ path ∷ fields_of bytes) → (e : Event) → ¬ SpellsEvent (codes "nn" ∷ user ∷ verb ∷ path ∷ fields_of bytes) e
more_fields user verb path bytes no_two =
    no_name_line (user ∷ verb ∷ path ∷ fields_of bytes)
    (λ word who p is x. let same = x.fields_are in let none : fields_of bytes ≡ [] = cc in never_empty is_space bytes none)
    no_two
    (λ who x. omega (arith, ap length x.fields_are))

-- what is known of fields is known of equal ones
reads_same : (fields more : List (List ℕ)) (result : Result (Option Event) NoMemory) → more ≡ fields → Reads more result → Reads fields result
reads_same fields more result same = subst (λ (fs : List (List ℕ)). Reads fs result) same

zones_tell : (user verb : List ℕ) (result : Result (Option Event) NoMemory)
    → IfOk result (λ found. MatchOption found (NoZones (codes "nn" ∷ user ∷ verb ∷ [])) (SpellsEvent (codes "nn" ∷ user ∷ verb ∷ []))) → Reads (codes "nn" ∷ user ∷ verb ∷ []) result
zones_tell user verb (Ok None) outcome = two_fields user verb outcome
zones_tell user verb (Ok (Some event)) outcome = outcome
zones_tell user verb (Err wanting) outcome = outcome

path_tells : (user verb path : List ℕ) (result : Result (Option Event) NoMemory)
    → IfOk result (λ found. MatchOption found (NoPath (codes "nn" ∷ user ∷ verb ∷ path ∷ [])) (SpellsEvent (codes "nn" ∷ user ∷ verb ∷ path ∷ []))) → Reads (codes "nn" ∷ user ∷ verb ∷ path ∷ []) result
path_tells user verb path (Ok None) outcome = three_fields user verb path outcome
path_tells user verb path (Ok (Some event)) outcome = outcome
path_tells user verb path (Err wanting) outcome = outcome

two_fields_tell : (user verb path bytes : List ℕ) (result : Result (Option Event) NoMemory)
    → IfOk result (λ found. MatchOption found (NoTwoFields (codes "nn" ∷ user ∷ verb ∷ path ∷ fields_of bytes)) (SpellsEvent (codes "nn" ∷ user ∷ verb ∷ path ∷ fields_of bytes)))
    → Reads (codes "nn" ∷ user ∷ verb ∷ path ∷ fields_of bytes) result
two_fields_tell user verb path bytes (Ok None) outcome = more_fields user verb path bytes outcome
two_fields_tell user verb path bytes (Ok (Some event)) outcome = outcome
two_fields_tell user verb path bytes (Err wanting) outcome = outcome

-- the same for fields that are equal to these
pub zones_answered : (fields rest : List (List ℕ)) (user verb : List ℕ) (result : Result (Option Event) NoMemory) → fields ≡ user ∷ rest → rest ≡ verb ∷ []
    → IfOk result (λ found. MatchOption found (NoZones (codes "nn" ∷ user ∷ verb ∷ [])) (SpellsEvent (codes "nn" ∷ user ∷ verb ∷ []))) → Reads (codes "nn" ∷ fields) result
zones_answered fields rest user verb result first second outcome =
    reads_same (codes "nn" ∷ fields) (codes "nn" ∷ user ∷ verb ∷ []) result (ap (λ fs. codes "nn" ∷ fs) (sym (first ∙ ap (λ fs. user ∷ fs) second))) (zones_tell user verb result outcome)

pub event_answered : (fields rest more : List (List ℕ)) (user verb : List ℕ) (result : Result (Option Event) NoMemory) → fields ≡ user ∷ rest → rest ≡ verb ∷ more
    → Reads (codes "nn" ∷ user ∷ verb ∷ more) result → Reads (codes "nn" ∷ fields) result
event_answered fields rest more user verb result first second =
    reads_same (codes "nn" ∷ fields) (codes "nn" ∷ user ∷ verb ∷ more) result (ap (λ fs. codes "nn" ∷ fs) (sym (first ∙ ap (λ fs. user ∷ fs) second)))

pub path_answered : (fields : List (List ℕ)) (user verb path : List ℕ) (result : Result (Option Event) NoMemory) → fields ≡ path ∷ []
    → IfOk result (λ found. MatchOption found (NoPath (codes "nn" ∷ user ∷ verb ∷ path ∷ [])) (SpellsEvent (codes "nn" ∷ user ∷ verb ∷ path ∷ []))) → Reads (codes "nn" ∷ user ∷ verb ∷ fields) result
path_answered fields user verb path result is outcome =
    reads_same (codes "nn" ∷ user ∷ verb ∷ fields) (codes "nn" ∷ user ∷ verb ∷ path ∷ []) result (ap (λ fs. codes "nn" ∷ user ∷ verb ∷ fs) (sym is)) (path_tells user verb path result outcome)

pub two_fields_answered : (fields : List (List ℕ)) (user verb path bytes : List ℕ) (result : Result (Option Event) NoMemory) → fields ≡ path ∷ fields_of bytes
    → IfOk result (λ found. MatchOption found (NoTwoFields (codes "nn" ∷ user ∷ verb ∷ path ∷ fields_of bytes)) (SpellsEvent (codes "nn" ∷ user ∷ verb ∷ path ∷ fields_of bytes)))
    → Reads (codes "nn" ∷ user ∷ verb ∷ fields) result
two_fields_answered fields user verb path bytes result is outcome =
    reads_same (codes "nn" ∷ user ∷ verb ∷ fields) (codes "nn" ∷ user ∷ verb ∷ path ∷ fields_of bytes) result (ap (λ fs. codes "nn" ∷ user ∷ verb ∷ fs) (sym is)) (two_fields_tell user verb path bytes result outcome)
