-- A torn gate that is shut, or torn again: the file may be read in no other ways than before.
use Rattle.std.proofs.Common.{◌≡◌, ◌≢◌, ℕ, ◌+◌, ◌≤◌, ◌==◌, true, false, List, [], ◌∷◌, ◌++◌, length, drop, set, None, refl, sym, ◌∙◌, ap, subst, arith, append_assoc, length-append, inl, inr}
use Rattle.std.specs.List.{AllByRecursion, list_any}
use Rattle.std.proofs.lemmas.List.{set_at, drop_at}
use Rattle.std.proofs.lemmas.Bool.Decides.{nat_tests}
use Rattle.std.proofs.lemmas.Bool.{cases_eq}
use Rattle.frame_log.specs.Format.{magic, frames, front}
use Rattle.frame_log.proofs.Reading.{front_long, log_found, magic_long}
use Rattle.frame_log.specs.FormatTwo.{AreTorn, Holds, IsOwn, IsTorn, WholeReading, MayRead, byte_at, first_byte, gates, gates_of, log_in, moving_at, since_nothing, with_ones}
use Rattle.frame_log.proofs.Movings.{front_reads, none_moves, own_fits}

pub only_one : (e k : ℕ) → list_any (λ g. g == k) (e ∷ []) ≡ true → k ≡ e
only_one e k is = elim (cases_eq e k) [
  | inl same ↦ sym same
  | inr other ↦ let no : list_any (λ g. g == k) (e ∷ []) ≡ false = grind (arith, nat_tests) in absurd (cc (is, no))
]

one_of : (e k : ℕ) → k ≡ e → list_any (λ g. g == k) (e ∷ []) ≡ true
one_of e k is = grind (arith, nat_tests)

-- the file with this end gate byte
abbrev pub with_gate : ℕ → List (List ℕ) → ℕ → List ℕ → List ℕ
with_gate file ps h rest = front file ps ++ h ∷ rest

module _ (file : ℕ) (ps : List (List ℕ)) (rest : List ℕ) (own : AllByRecursion IsOwn ps) (long : 1 ≤ length (frames ps) + length rest) where
  size : (h : ℕ) → 10 ≤ length (with_gate file ps h rest)
  size h = omega (arith, length-append (front file ps) (h ∷ rest), front_long file ps, long)

  place : length (front file ps) ≡ 8 + length (frames ps)
  place = front_long file ps

  pub reads : (h : ℕ) → h ≢ 1 → log_in file (with_gate file ps h rest) ≡ Holds (since_nothing ps)
  reads h shut = front_reads file ps h rest own shut (log_found file ps h rest (own_fits ps own) shut (size h))

  none : (h : ℕ) → h ≢ 1 → moving_at (length (with_gate file ps h rest)) 8 (drop 8 (with_gate file ps h rest)) ≡ None
  none h shut =
      let group : with_gate file ps h rest ≡ magic file ++ (frames ps ++ h ∷ rest) = append_assoc (magic file) (frames ps) (h ∷ rest) in
      ap (moving_at (length (with_gate file ps h rest)) 8) (ap (drop 8) group ∙ drop_at (magic file) (frames ps ++ h ∷ rest) 8 (magic_long file))
      ∙ none_moves ps h rest own shut (length (with_gate file ps h rest)) 8

  pub its_gates : (h : ℕ) → h ≢ 1 → gates_of file (with_gate file ps h rest) ≡ (8 + length (frames ps)) ∷ []
  its_gates h shut =
      let much = size h in
      let whole : gates_of file (with_gate file ps h rest) ≡ gates (moving_at (length (with_gate file ps h rest)) 8 (drop 8 (with_gate file ps h rest))) (log_in file (with_gate file ps h rest)) = grind (arith, nat_tests) in
      whole ∙ (λ i. gates (none h shut i) (reads h shut i))

  opened : (h : ℕ) → set (with_gate file ps h rest) (8 + length (frames ps)) 1 ≡ with_gate file ps 1 rest
  opened h = set_at (front file ps) h rest 1 (8 + length (frames ps)) place

  byte : (h : ℕ) → byte_at (8 + length (frames ps)) (with_gate file ps h rest) ≡ h
  byte h = ap first_byte (drop_at (front file ps) (h ∷ rest) (8 + length (frames ps)) place)

  torn_here : (h : ℕ) → h ≢ 1 → h ≢ 0 → IsTorn file (with_gate file ps h rest) (8 + length (frames ps))
  torn_here h shut some = record {
    gate = ap (list_any (λ g. g == 8 + length (frames ps))) (its_gates h shut) ∙ one_of (8 + length (frames ps)) (8 + length (frames ps)) refl;
    not_shut = λ is. some (sym (byte h) ∙ is);
  }

  -- whatever the byte becomes, the file may be read in no other ways than while it was torn
  pub closing_end : (h other : ℕ) → h ≢ 1 → h ≢ 0 → (r : WholeReading) → MayRead file (with_gate file ps other rest) r → MayRead file (with_gate file ps h rest) r
  closing_end h other shut some r m = elim (cases_eq other 1) [
    | inl is ↦
        let same : with_gate file ps other rest ≡ set (with_gate file ps h rest) (8 + length (frames ps)) 1 = ap (λ (x : ℕ). with_gate file ps x rest) is ∙ sym (opened h) in
        record {
          opened = (8 + length (frames ps)) ∷ m.opened;
          torn = (torn_here h shut some, subst (AreTorn file m.opened) same m.torn);
          reads = ap (λ (l : List ℕ). log_in file (with_ones m.opened l)) (sym same) ∙ m.reads;
        }
    | inr closed ↦ go closed m.opened m.torn m.reads
  ]
    where
      go : other ≢ 1 → (ks : List ℕ) → AreTorn file ks (with_gate file ps other rest) → log_in file (with_ones ks (with_gate file ps other rest)) ≡ r → MayRead file (with_gate file ps h rest) r
      go closed [] torn is = record { opened = []; torn = tt; reads = reads h shut ∙ sym (reads other closed) ∙ is }
      go closed (k ∷ ks) torn is =
          let here : k ≡ 8 + length (frames ps) = only_one (8 + length (frames ps)) k (sym (ap (list_any (λ g. g == k)) (its_gates other closed)) ∙ torn.0.gate) in
          let same : set (with_gate file ps other rest) k 1 ≡ set (with_gate file ps h rest) k 1 = (λ i. set (with_gate file ps other rest) (here i) 1) ∙ opened other ∙ sym (opened h) ∙ (λ i. set (with_gate file ps h rest) (sym here i) 1) in
          record {
            opened = k ∷ ks;
            torn = (subst (IsTorn file (with_gate file ps h rest)) (sym here) (torn_here h shut some), subst (AreTorn file ks) same torn.1);
            reads = ap (λ (l : List ℕ). log_in file (with_ones ks l)) (sym same) ∙ is;
          }
