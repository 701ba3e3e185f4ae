-- Operations one after another.
use Rattle.std.proofs.Common.{◌≡◌, ℕ, Bool, true, false, List, [], ◌∷◌, ◌++◌, map, Option, Some, None, refl, sym, ap, ◌∙◌, subst}
use Rattle.std.specs.Prelude.{IfSome, if◌then◌else◌}
use Rattle.std.specs.List.{AllByRecursion}
use Rattle.std.proofs.lemmas.List.{append-nil, map-append}
use Rattle.log_kinds.specs.Kinds.{Applies, LogKind, replay, settled_ops}

-- what is true of each kind of log
pub record KindLaws (K : LogKind) : Type 0 where
  pub one_spelling : (a b : K.Op) → K.HasSpelling a → K.HasSpelling b → K.spelling a ≡ K.spelling b → a ≡ b
  pub settled_none : (kept : Bool) (s : K.State) → K.settled kept None s ≡ s
  pub settled_kept : (op : K.Op) (s : K.State) → K.settled true (Some op) s ≡ K.after s op
  pub settled_dropped : (op : K.Op) (s : K.State) → K.settled false (Some op) s ≡ s
  pub opens : (s : K.State) → K.applies s (K.next_opening s) ≡ true
  pub is_opening : (s : K.State) → K.is_opening (K.next_opening s) ≡ true

pub each_more : {X : Type 0} (P : X → Type 0) (xs : List X) (x : X) → AllByRecursion P xs → P x → AllByRecursion P (xs ++ x ∷ [])
each_more P [] x each here = (here, tt)
each_more P (y ∷ ys) x each here = (each.0, each_more P ys x each.1 here)

module _ (K : LogKind) where
  pub spelled_more : (ops : List K.Op) (op : K.Op) → map K.spelling (ops ++ op ∷ []) ≡ map K.spelling ops ++ K.spelling op ∷ []
  spelled_more ops op = map-append K.spelling ops (op ∷ [])

  -- one more operation, which applies
  pub replay_more : (s t : K.State) (ops : List K.Op) (op : K.Op) → replay K s ops ≡ Some t → K.applies t op ≡ true → replay K s (ops ++ op ∷ []) ≡ Some (K.after t op)
  replay_more s t [] op is may =
      let same : s ≡ t = cc is in
      let here : K.applies s op ≡ true = subst (λ (x : K.State). K.applies x op ≡ true) (sym same) may in
      ap (λ (b : Bool). if b then Some (K.after s op) else None) here ∙ ap (λ (x : K.State). Some (K.after x op)) same
  replay_more s t (first ∷ rest) op is may =
      let P : Bool → Type 0 = λ b. (if b then replay K (K.after s first) rest else None) ≡ Some t → (if b then replay K (K.after s first) (rest ++ op ∷ []) else None) ≡ Some (K.after t op) in
      (elim (K.applies s first) as P [ true ↦ (λ e. replay_more (K.after s first) t rest op e may) | false ↦ (λ e. absurd (cc e)) ]) is

  -- in operations that apply one after another, each applies after those before it
  pub applies_at : (s t made : K.State) (front : List K.Op) (op : K.Op) (rest : List K.Op) → replay K s front ≡ Some t → replay K s (front ++ op ∷ rest) ≡ Some made → K.applies t op ≡ true
  applies_at s t made [] op rest before whole = go (K.applies s op) refl whole
    where
      go : (b : Bool) → K.applies s op ≡ b → (if b then replay K (K.after s op) rest else None) ≡ Some made → K.applies t op ≡ true
      go true is h = let same : s ≡ t = cc before in subst (λ (x : K.State). K.applies x op ≡ true) same is
      go false is h = absurd cc
  applies_at s t made (first ∷ front) op rest before whole = go (applies_at (K.after s first) t made front op rest) (K.applies s first) before whole
    where
      go : (replay K (K.after s first) front ≡ Some t → replay K (K.after s first) (front ++ op ∷ rest) ≡ Some made → K.applies t op ≡ true) → (b : Bool)
          → (if b then replay K (K.after s first) front else None) ≡ Some t → (if b then replay K (K.after s first) (front ++ op ∷ rest) else None) ≡ Some made → K.applies t op ≡ true
      go further true h k = further h k
      go further false h k = absurd cc

  -- the operations of a log, once the one after them was settled
  pub spelled_behind : (ops : List K.Op) (more : Option K.Op) → AllByRecursion K.HasSpelling ops → IfSome more K.HasSpelling → (kept : Bool) → AllByRecursion K.HasSpelling (ops ++ settled_ops K kept more)
  spelled_behind ops None spelled h kept = subst (AllByRecursion K.HasSpelling) (sym (append-nil ops)) spelled
  spelled_behind ops (Some op) spelled h true = each_more K.HasSpelling ops op spelled h
  spelled_behind ops (Some op) spelled h false = subst (AllByRecursion K.HasSpelling) (sym (append-nil ops)) spelled

  module _ (laws : KindLaws K) where
    -- and the state that they make
    pub makes_behind : (ops : List K.Op) (more : Option K.Op) (made : K.State) → replay K K.empty ops ≡ Some made → Applies K made more → (kept : Bool)
        → replay K K.empty (ops ++ settled_ops K kept more) ≡ Some (K.settled kept more made)
    makes_behind ops None made makes may kept = ap (replay K K.empty) (append-nil ops) ∙ makes ∙ ap Some (sym (laws.settled_none kept made))
    makes_behind ops (Some op) made makes may true = replay_more K.empty made ops op makes may ∙ ap Some (sym (laws.settled_kept op made))
    makes_behind ops (Some op) made makes may false = ap (replay K K.empty) (append-nil ops) ∙ makes ∙ ap Some (sym (laws.settled_dropped op made))

    -- each operation has one spelling
    pub one_list : (a b : List K.Op) → AllByRecursion K.HasSpelling a → AllByRecursion K.HasSpelling b → map K.spelling a ≡ map K.spelling b → a ≡ b
    one_list [] [] p q is = refl
    one_list [] (y ∷ ys) p q is = absurd cc
    one_list (x ∷ xs) [] p q is = absurd cc
    one_list (x ∷ xs) (y ∷ ys) p q is =
        let first : K.spelling x ≡ K.spelling y = cc is in
        let rest : map K.spelling xs ≡ map K.spelling ys = cc is in
        λ i. laws.one_spelling x y p.0 q.0 first i ∷ one_list xs ys p.1 q.1 rest i

    -- operations whose records begin like these, and go on with this one
    pub split_at : (all front : List K.Op) (payload : List ℕ) (payloads : List (List ℕ)) → AllByRecursion K.HasSpelling all → AllByRecursion K.HasSpelling front
        → map K.spelling all ≡ map K.spelling front ++ payload ∷ payloads
        → (op : K.Op) × (rest : List K.Op) × (all ≡ front ++ op ∷ rest) × K.HasSpelling op × (payload ≡ K.spelling op)
    split_at [] [] payload payloads p q is = absurd cc
    split_at [] (y ∷ ys) payload payloads p q is = absurd cc
    split_at (x ∷ xs) [] payload payloads p q is = let first : K.spelling x ≡ payload = cc is in (x, xs, refl, p.0, sym first)
    split_at (x ∷ xs) (y ∷ ys) payload payloads p q is =
        let first : K.spelling x ≡ K.spelling y = cc is in
        let rest : map K.spelling xs ≡ map K.spelling ys ++ payload ∷ payloads = cc is in
        let s = split_at xs ys payload payloads p.1 q.1 rest in
        (s.0, s.1, (λ i. laws.one_spelling x y p.0 q.0 first i ∷ s.2 i), s.3, s.4)
