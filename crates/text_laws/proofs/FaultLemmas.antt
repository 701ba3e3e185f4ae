-- The first line with a fault.
use Rattle.std.proofs.Common.{◌≡◌, ◌⊎◌, inl, inr, ℕ, ◌+◌, ◌<◌, List, [], ◌∷◌, ◌++◌, length, refl, ap, ap₂, sym, ◌∙◌, subst, true, false, cond, arith}
use Rattle.std.specs.List.{AllByRecursion, IsDistinct}
use Rattle.std.specs.Str.{bytes_eq}
use Rattle.std.proofs.lemmas.Grind.{flat_map-append}
use Rattle.std.specs.Cmp.Lexicographic.{nat_list_eq_equiv}
use Rattle.std.proofs.lemmas.Bool.{or_from}
use Rattle.prop_text.specs.Names.{setting_of}
use Rattle.prop_text.specs.Sizes.{sizes_of}
use Rattle.prop_text.specs.Properties.{HasFault, IsBadLine, IsFirst, IsProps, IsRepeated, IsUnknownName, ReadsAs, SayAll, SaysProperty, cut_at_equals, is_among, is_quiet, lines_of, longest_text, name_part, name_set, names_set}
use Rattle.prop_text.specs.declared.faults.PropFault.{PropFault}
use Rattle.prop_text.specs.declared.faults.PropFault.TheVariants as fault
use Rattle.prop_text.specs.declared.lines.PropLine.{PropLine}
use Rattle.prop_text.specs.declared.props.Props.{Props}
use Rattle.text_laws.specs.Readings.{HasNotBoth, HasOneFault, HasOneList, IsSameFault}
use Rattle.text_laws.proofs.LineLemmas.{all_once, cut_once, moved_value}

-- the line has some fault, after lines that set these names
IsFaulty : List (List ℕ) → List ℕ → Type 0
IsFaulty earlier bad = IsBadLine earlier bad ⊎ (IsRepeated earlier bad ⊎ IsUnknownName earlier bad)

abbrev Lines : Type 0
Lines = List (List ℕ)

said_at : (earlier later : Lines) (bad : List ℕ) (props : List PropLine) → SayAll (earlier ++ bad ∷ later) props → (is_quiet bad ≡ true) ⊎ ((prop : PropLine) × SaysProperty bad prop)
said_at [] later bad props (inl (quiet, all)) = inl quiet
said_at [] later bad props (inr (prop, rest, says, all, is)) = inr (prop, says)
said_at (l ∷ ls) later bad props (inl (quiet, all)) = said_at ls later bad props all
said_at (l ∷ ls) later bad props (inr (prop, rest, says, all, is)) = said_at ls later bad rest all

name_says : (text : List ℕ) (prop : PropLine) (says : SaysProperty text prop) → name_set text ≡ says.name ∷ []
name_says text prop says = ap (λ t. cond t [] (name_part (cut_at_equals text))) says.sets.not_quiet ∙ ap name_part says.sets.cut

apart_here : (x y : List ℕ) (names more : Lines) → AllByRecursion (λ z. bytes_eq x z ≡ false) (names ++ y ∷ more) → bytes_eq x y ≡ false
apart_here x y [] more all = all.0
apart_here x y (n ∷ ns) more all = apart_here x y ns more all.1

flipped : (x y : List ℕ) → bytes_eq x y ≡ bytes_eq y x
flipped x y = nat_list_eq_equiv.symm x y

distinct_before : (names more : Lines) (name : List ℕ) → IsDistinct bytes_eq (names ++ name ∷ more) → is_among name names ≡ false
unfolding IsDistinct
distinct_before [] more name h = refl
distinct_before (n ∷ ns) more name h =
    or_from (bytes_eq name n) (is_among name ns) (flipped name n ∙ apart_here n name ns more h.0) (distinct_before ns more name h.1)

names_at : (earlier later : Lines) (bad name : List ℕ) → name_set bad ≡ name ∷ [] → names_set (earlier ++ bad ∷ later) ≡ names_set earlier ++ name ∷ names_set later
names_at earlier later bad name is = flat_map-append name_set earlier (bad ∷ later) ∙ ap (λ (l : Lines). names_set earlier ++ (l ++ names_set later)) is

-- a line that is read has no fault
not_faulty : (earlier later : Lines) (bad : List ℕ) (props : List PropLine) → ReadsAs (earlier ++ bad ∷ later) props → IsFaulty (names_set earlier) bad → ⊥
unfolding IsFaulty
not_faulty earlier later bad props reads is = by (said_at earlier later bad props reads.say) is
  where
    by : (is_quiet bad ≡ true) ⊎ ((prop : PropLine) × SaysProperty bad prop) → IsBadLine (names_set earlier) bad ⊎ (IsRepeated (names_set earlier) bad ⊎ IsUnknownName (names_set earlier) bad) → ⊥
    by (inl quiet) (inl (inl f)) = let no : true ≡ false = sym quiet ∙ f.not_quiet in cc
    by (inl quiet) (inl (inr f)) = let no : true ≡ false = sym quiet ∙ f.sets.not_quiet in cc
    by (inl quiet) (inr (inl f)) = let no : true ≡ false = sym quiet ∙ f.sets.not_quiet in cc
    by (inl quiet) (inr (inr f)) = let no : true ≡ false = sym quiet ∙ f.not_quiet in cc
    by (inr (prop, says)) (inl (inl f)) = let no = sym says.sets.cut ∙ f.cut in cc
    by (inr (prop, says)) (inl (inr f)) = f.bad prop (moved_value bad f.name f.value says.name says.value f.what says.what prop f.sets says.sets says.value_is)
    by (inr (prop, says)) (inr (inl f)) =
        let same = cut_once bad f.name f.value says.name says.value f.sets.cut says.sets.cut in
        let apart : is_among says.name (names_set earlier) ≡ false =
        distinct_before (names_set earlier) (names_set later) says.name (subst (IsDistinct bytes_eq) (names_at earlier later bad says.name (name_says bad prop says)) reads.once) in
        let no : true ≡ false = sym f.again ∙ ap (λ name. is_among name (names_set earlier)) same.0 ∙ apart in
        cc
    by (inr (prop, says)) (inr (inr f)) =
        let same = cut_once bad f.name f.value says.name says.value f.cut says.sets.cut in
        let no = sym f.unknown ∙ ap (λ name. setting_of name) same.0 ∙ says.sets.known in
        cc

-- two ways to cut a list at an element: at the same one, or one of them earlier
abbrev AreCuts : Lines → List ℕ → Lines → List ℕ → Type 0
AreCuts e b e' b' = ((e ≡ e') × (b ≡ b')) ⊎ (((m : Lines) × (e' ≡ e ++ b ∷ m)) ⊎ ((m : Lines) × (e ≡ e' ++ b' ∷ m)))

cuts : (e l e' l' : Lines) (b b' : List ℕ) → e ++ b ∷ l ≡ e' ++ b' ∷ l' → AreCuts e b e' b'
cuts [] l [] l' b b' is = let same : b ≡ b' = cc in inl (refl, same)
cuts [] l (x ∷ e') l' b b' is = let same : b ≡ x = cc in inr (inl (e', ap (λ y. y ∷ e') (sym same)))
cuts (x ∷ e) l [] l' b b' is = let same : x ≡ b' = cc in inr (inr (e, ap (λ y. y ∷ e) same))
cuts (x ∷ e) l (y ∷ e') l' b b' is = let same : x ≡ y = cc in let rest : e ++ b ∷ l ≡ e' ++ b' ∷ l' = cc in more same (cuts e l e' l' b b' rest)
  where
    more : x ≡ y → AreCuts e b e' b' → AreCuts (x ∷ e) b (y ∷ e') b'
    more same (inl (s, t)) = inl (ap₂ (λ (z : List ℕ) (zs : Lines). z ∷ zs) same s, t)
    more same (inr (inl (m, s))) = inr (inl (m, ap₂ (λ (z : List ℕ) (zs : Lines). z ∷ zs) (sym same) s))
    more same (inr (inr (m, s))) = inr (inr (m, ap₂ (λ (z : List ℕ) (zs : Lines). z ∷ zs) same s))

-- a fault of some kind is one
abbrev AreFaults : (Lines → List ℕ → Type 0) → Type 0
AreFaults IsFault = (earlier : Lines) (bad : List ℕ) → IsFault earlier bad → IsFaulty earlier bad

bad_lines : AreFaults IsBadLine
unfolding IsFaulty
bad_lines earlier bad f = inl f

repeated_lines : AreFaults IsRepeated
unfolding IsFaulty
repeated_lines earlier bad f = inr (inl f)

unknown_lines : AreFaults IsUnknownName
unfolding IsFaulty
unknown_lines earlier bad f = inr (inr f)

abbrev as_first : (text : List ℕ) (number : ℕ) (IsFault : Lines → List ℕ → Type 0) → AreFaults IsFault → IsFirst text number IsFault → IsFirst text number IsFaulty
as_first text number IsFault faults first = record {
  short = first.short;
  earlier = first.earlier;
  bad = first.bad;
  later = first.later;
  props = first.props;
  lines = first.lines;
  reads = first.reads;
  place = first.place;
  is_fault = faults (names_set first.earlier) first.bad first.is_fault;
}

not_both : (text : List ℕ) (number : ℕ) (props : Props) → IsProps text props → IsFirst text number IsFaulty → ⊥
not_both text number props is first =
    not_faulty first.earlier first.later first.bad props.lines (subst (λ (lines : Lines). ReadsAs lines props.lines) first.lines is.reads) first.is_fault

same_first : (text : List ℕ) (n m : ℕ) (s : IsFirst text n IsFaulty) (o : IsFirst text m IsFaulty) → (s.earlier ≡ o.earlier) × (s.bad ≡ o.bad)
same_first text n m s o = by (cuts s.earlier s.later o.earlier o.later s.bad o.bad (sym s.lines ∙ o.lines))
  where
    by : AreCuts s.earlier s.bad o.earlier o.bad → (s.earlier ≡ o.earlier) × (s.bad ≡ o.bad)
    by (inl same) = same
    by (inr (inl (more, is))) = absurd (not_faulty s.earlier more s.bad o.props (subst (λ (lines : Lines). ReadsAs lines o.props) is o.reads) s.is_fault)
    by (inr (inr (more, is))) = absurd (not_faulty o.earlier more o.bad s.props (subst (λ (lines : Lines). ReadsAs lines s.props) is s.reads) o.is_fault)

same_number : (text : List ℕ) (n m : ℕ) (IsFault : Lines → List ℕ → Type 0) → AreFaults IsFault → IsFirst text n IsFault → IsFirst text m IsFault → n ≡ m
same_number text n m IsFault faults s o =
    s.place ∙ ap (λ (lines : Lines). length lines + 1) (same_first text n m (as_first text n IsFault faults s) (as_first text m IsFault faults o)).0 ∙ sym o.place

-- no line has both faults
abbrev AreApart : (Lines → List ℕ → Type 0) → (Lines → List ℕ → Type 0) → Type 0
AreApart IsFault IsOther = (earlier : Lines) (bad : List ℕ) → IsFault earlier bad → IsOther earlier bad → ⊥

never_bad_and_repeated : AreApart IsBadLine IsRepeated
never_bad_and_repeated earlier bad (inl f) g = let no = sym f.cut ∙ g.sets.cut in cc
never_bad_and_repeated earlier bad (inr f) g =
    let same = cut_once bad f.name f.value g.name g.value f.sets.cut g.sets.cut in
    let no : false ≡ true = sym f.first ∙ ap (λ name. is_among name earlier) same.0 ∙ g.again in
    cc

never_bad_and_unknown : AreApart IsBadLine IsUnknownName
never_bad_and_unknown earlier bad (inl f) g = let no = sym f.cut ∙ g.cut in cc
never_bad_and_unknown earlier bad (inr f) g =
    let same = cut_once bad f.name f.value g.name g.value f.sets.cut g.cut in
    let no = sym f.sets.known ∙ ap setting_of same.0 ∙ g.unknown in
    cc

never_repeated_and_unknown : AreApart IsRepeated IsUnknownName
never_repeated_and_unknown earlier bad f g =
    let same = cut_once bad f.name f.value g.name g.value f.sets.cut g.cut in
    let no = sym f.sets.known ∙ ap setting_of same.0 ∙ g.unknown in
    cc

never_two : (text : List ℕ) (n m : ℕ) (IsFault IsOther : Lines → List ℕ → Type 0) → AreFaults IsFault → AreFaults IsOther → AreApart IsFault IsOther → IsFirst text n IsFault → IsFirst text m IsOther → ⊥
never_two text n m IsFault IsOther faults others apart s o =
    let same = same_first text n m (as_first text n IsFault faults s) (as_first text m IsOther others o) in
    apart (names_set s.earlier) s.bad s.is_fault (subst (λ (e : Lines). IsOther (names_set e) s.bad) (sym same.0) (subst (λ (b : List ℕ). IsOther (names_set o.earlier) b) (sym same.1) o.is_fault))

never_long : (text : List ℕ) (n : ℕ) (IsFault : Lines → List ℕ → Type 0) → longest_text < length text → IsFirst text n IsFault → ⊥
never_long text n IsFault long first = omega (arith, first.short)

pub one_list : (text : List ℕ) → HasOneList text
one_list text some other s o =
    let lines : some.lines ≡ other.lines = all_once (lines_of text) some.lines other.lines s.reads.say o.reads.say in
    let sizes : some.sizes ≡ other.sizes = s.sizes ∙ ap sizes_of lines ∙ sym o.sizes in
    λ i. record { lines = lines i; sizes = sizes i }

pub one_fault : (text : List ℕ) → HasOneFault text
one_fault text = by
  where
    by : (some other : PropFault) → HasFault text some → HasFault text other → IsSameFault some other
    by some fault.NoMemory s o = inr (inr refl)
    by fault.NoMemory other s o = inr (inl refl)
    by fault.TooLong fault.TooLong s o = inl refl
    by fault.TooLong (fault.BadLine m) s o = absurd (never_long text m IsBadLine s o)
    by fault.TooLong (fault.Repeated m) s o = absurd (never_long text m IsRepeated s o)
    by fault.TooLong (fault.UnknownName m) s o = absurd (never_long text m IsUnknownName s o)
    by (fault.BadLine n) fault.TooLong s o = absurd (never_long text n IsBadLine o s)
    by (fault.Repeated n) fault.TooLong s o = absurd (never_long text n IsRepeated o s)
    by (fault.UnknownName n) fault.TooLong s o = absurd (never_long text n IsUnknownName o s)
    by (fault.BadLine n) (fault.BadLine m) s o = inl (ap fault.BadLine (same_number text n m IsBadLine bad_lines s o))
    by (fault.Repeated n) (fault.Repeated m) s o = inl (ap fault.Repeated (same_number text n m IsRepeated repeated_lines s o))
    by (fault.UnknownName n) (fault.UnknownName m) s o = inl (ap fault.UnknownName (same_number text n m IsUnknownName unknown_lines s o))
    by (fault.BadLine n) (fault.Repeated m) s o = absurd (never_two text n m IsBadLine IsRepeated bad_lines repeated_lines never_bad_and_repeated s o)
    by (fault.Repeated n) (fault.BadLine m) s o = absurd (never_two text m n IsBadLine IsRepeated bad_lines repeated_lines never_bad_and_repeated o s)
    by (fault.BadLine n) (fault.UnknownName m) s o = absurd (never_two text n m IsBadLine IsUnknownName bad_lines unknown_lines never_bad_and_unknown s o)
    by (fault.UnknownName n) (fault.BadLine m) s o = absurd (never_two text m n IsBadLine IsUnknownName bad_lines unknown_lines never_bad_and_unknown o s)
    by (fault.Repeated n) (fault.UnknownName m) s o = absurd (never_two text n m IsRepeated IsUnknownName repeated_lines unknown_lines never_repeated_and_unknown s o)
    by (fault.UnknownName n) (fault.Repeated m) s o = absurd (never_two text m n IsRepeated IsUnknownName repeated_lines unknown_lines never_repeated_and_unknown o s)

pub not_both_readings : (text : List ℕ) → HasNotBoth text
not_both_readings text = by
  where
    by : (props : Props) (why : PropFault) → IsProps text props → HasFault text why → why ≡ fault.NoMemory
    by props fault.NoMemory is has = refl
    by props fault.TooLong is has = let no : ⊥ = omega (arith, is.short, has) in absurd no
    by props (fault.BadLine n) is has = absurd (not_both text n props is (as_first text n IsBadLine bad_lines has))
    by props (fault.Repeated n) is has = absurd (not_both text n props is (as_first text n IsRepeated repeated_lines has))
    by props (fault.UnknownName n) is has = absurd (not_both text n props is (as_first text n IsUnknownName unknown_lines has))
