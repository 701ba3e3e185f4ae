-- A line of several fields begins with one of five words, or is a verb and a number.
use Rattle.std.proofs.Common.{◌≡◌, ℕ, List, [], ◌∷◌, codes, inl, inr, refl, subst, sym, Option, None, Some, MatchOption}
use Rattle.hk_events.specs.declared.event.Event.{Event}
use Rattle.hk_events.specs.declared.event.Event.TheVariants as event
use Rattle.replay_text.specs.Events.{IsNumberVerb, SpellsEvent, SpellsKept, fields_of, is_space}
use Rattle.replay_text.proofs.CallLemmas.{two_verbs}
use Rattle.replay_text.proofs.FieldLemmas.{never_empty}

-- the fields are no verb and number
abbrev pub NoNumber : List (List ℕ) → Type 0
NoNumber fields = (verb : List ℕ) (number : ℕ) → IsNumberVerb verb → ¬ SpellsKept verb fields number

-- the word is none of these
pub record IsOtherWord (word : List ℕ) : Type 0 where
  pub no_kms : word ≡ codes "kms" → ⊥
  pub no_restart : word ≡ codes "restart" → ⊥
  pub no_nn : word ≡ codes "nn" → ⊥
  pub no_ask : word ≡ codes "ask" → ⊥
  pub no_walk : word ≡ codes "walk" → ⊥

other_word : (word bytes : List ℕ) → IsOtherWord word → NoNumber (word ∷ fields_of bytes) → (e : Event) → ¬ SpellsEvent (word ∷ fields_of bytes) e
other_word word bytes other no_number event.Ticket x = let none : fields_of bytes ≡ [] = cc in never_empty is_space bytes none
other_word word bytes other no_number (event.Kms user call) x = two_verbs _ _ _ word (codes "kms") other.no_kms refl x.fields_are
other_word word bytes other no_number (event.Deposit ticket) x = no_number (codes "deposit") ticket (inl refl) x
other_word word bytes other no_number event.RestartKms x = two_verbs _ _ _ word (codes "restart") other.no_restart refl x
other_word word bytes other no_number event.RestartName x = two_verbs _ _ _ word (codes "restart") other.no_restart refl x
other_word word bytes other no_number (event.Mkdir user path) x = two_verbs _ _ _ word (codes "nn") other.no_nn refl x.fields_are
other_word word bytes other no_number (event.Delete user path recursive) x = two_verbs _ _ _ word (codes "nn") other.no_nn refl x.fields_are
other_word word bytes other no_number (event.Rename user path to) x = two_verbs _ _ _ word (codes "nn") other.no_nn refl x.fields_are
other_word word bytes other no_number (event.Info user path) x = two_verbs _ _ _ word (codes "nn") other.no_nn refl x.fields_are
other_word word bytes other no_number (event.List user path) x = two_verbs _ _ _ word (codes "nn") other.no_nn refl x.fields_are
other_word word bytes other no_number (event.Allow user path) x = two_verbs _ _ _ word (codes "nn") other.no_nn refl x.fields_are
other_word word bytes other no_number (event.Disallow user path) x = two_verbs _ _ _ word (codes "nn") other.no_nn refl x.fields_are
other_word word bytes other no_number (event.Snap user path name) x = two_verbs _ _ _ word (codes "nn") other.no_nn refl x.fields_are
other_word word bytes other no_number (event.Unsnap user path name) x = two_verbs _ _ _ word (codes "nn") other.no_nn refl x.fields_are
other_word word bytes other no_number (event.Cancel user path) x = two_verbs _ _ _ word (codes "nn") other.no_nn refl x.fields_are
other_word word bytes other no_number (event.Status user path) x = two_verbs _ _ _ word (codes "nn") other.no_nn refl x.fields_are
other_word word bytes other no_number (event.Zones user) x = two_verbs _ _ _ word (codes "nn") other.no_nn refl x.fields_are
other_word word bytes other no_number (event.AskCreate user path) x = two_verbs _ _ _ word (codes "ask") other.no_ask refl x.fields_are
other_word word bytes other no_number (event.AskZone user path key) x = two_verbs _ _ _ word (codes "ask") other.no_ask refl x.fields_are
other_word word bytes other no_number (event.AskSubmit user path) x = two_verbs _ _ _ word (codes "ask") other.no_ask refl x.fields_are
other_word word bytes other no_number (event.Draw number) x = no_number (codes "draw") number (inr (inl refl)) x
other_word word bytes other no_number (event.Finish number) x = no_number (codes "finish") number (inr (inr (inl refl))) x
other_word word bytes other no_number (event.Walk path) x = two_verbs _ _ _ word (codes "walk") other.no_walk refl x.fields_are
other_word word bytes other no_number (event.Serve number) x = no_number (codes "serve") number (inr (inr (inr (inl refl)))) x
other_word word bytes other no_number (event.Deliver number) x = no_number (codes "deliver") number (inr (inr (inr (inr (inl refl))))) x
other_word word bytes other no_number (event.GiveUp number) x = no_number (codes "giveup") number (inr (inr (inr (inr (inr refl))))) x

-- what is known of the fields of a verb and a number that were read
abbrev pub ReadsNumber : List (List ℕ) → Option Event → Type 0
ReadsNumber fields found = MatchOption found (NoNumber fields) (SpellsEvent fields)

-- the same for fields that are equal to these
pub number_answered : (fields : List (List ℕ)) (word bytes : List ℕ) (found : Option Event) → fields ≡ word ∷ fields_of bytes → IsOtherWord word → ReadsNumber (word ∷ fields_of bytes) found
    → MatchOption found ((e : Event) → ¬ SpellsEvent fields e) (SpellsEvent fields)
number_answered fields word bytes None is other unspelled = λ e x. other_word word bytes other unspelled e (subst (λ (fs : List (List ℕ)). SpellsEvent fs e) is x)
number_answered fields word bytes (Some e) is other spelled = subst (λ (fs : List (List ℕ)). SpellsEvent fs e) (sym is) spelled
