-- The lines, one after another.
use Rattle.std.proofs.Common.{◌≡◌, inl, inr, ℕ, ◌+◌, ◌<◌, ◌≤◌, List, [], ◌∷◌, ◌++◌, length, refl, ap, sym, ◌∙◌, subst, Bool, true, false, ◌||◌, cond, Option, Some, None, MatchOption, append-nil, append_assoc, arith, length-append}
use Rattle.std.specs.List.{IsDistinct}
use Rattle.std.specs.Str.{bytes_eq}
use Rattle.std.specs.Cmp.Lexicographic.{nat_list_eq_equiv}
use Rattle.std.proofs.lemmas.Grind.{flat_map-append}
use Rattle.std.proofs.lemmas.List.Sums.{fold-append}
use Rattle.std.proofs.lemmas.List.Folds.{list_any-append}
use Rattle.std.proofs.lemmas.Map.Keys.{IsDistinct-push}
use Rattle.prop_text.specs.declared.faults.PropFault.{PropFault}
use Rattle.prop_text.specs.declared.faults.PropFault.TheVariants as fault
use Rattle.prop_text.specs.declared.lines.PropLine.{PropLine}
use Rattle.prop_text.specs.declared.reading.Reading.{Reading}
use Rattle.prop_text.specs.declared.setting.Setting.{Setting}
use Rattle.prop_text.specs.Properties.{HasFault, IsBadLine, IsFirst, IsProps, IsRepeated, IsUnknownName, SayAll, SaysProperty, cut_at_equals, is_among, is_quiet, lines_of, longest_text, name_part, name_set, names_set}
use Rattle.prop_text.specs.Names.{setting_of}
use Rattle.prop_text.specs.Sizes.{default_sizes, sizes_of, with_line}
use Rattle.prop_text.specs.Steps.{AddsLine, AddsValue, LineHasFault, ReadsLine}

pub adds_line : (old new : Reading) (line name value : List ℕ) (what : Setting) → is_quiet line ≡ false → cut_at_equals line ≡ Some (name, value) → setting_of name ≡ Some what → AddsValue old new what name value → ReadsLine old new line
adds_line old new line name value what loud cut known adds = inr (
  loud,
  record {
    prop = adds.prop;
    says = record {
      name = name;
      value = value;
      what = what;
      sets = record { not_quiet = loud; cut = cut; known = known };
      value_is = adds.value_is;
    };
    adds = adds.adds;
  },
)

-- the lines so far set what was read
pub record Said (earlier : List (List ℕ)) (now : Reading) : Type 0 where
  pub say : SayAll earlier now.lines
  pub once : IsDistinct bytes_eq (names_set earlier)
  pub names : (name : List ℕ) → is_among name now.names ≡ is_among name (names_set earlier)
  pub sizes : now.sizes ≡ sizes_of now.lines

say_quiet : (lines : List (List ℕ)) (line : List ℕ) (props : List PropLine) → is_quiet line ≡ true → SayAll lines props → SayAll (lines ++ line ∷ []) props
say_quiet [] line props quiet say = inl (quiet, say)
say_quiet (l ∷ ls) line props quiet (inl (q, say)) = inl (q, say_quiet ls line props quiet say)
say_quiet (l ∷ ls) line props quiet (inr (prop, rest, says, say, is)) = inr (prop, rest, says, say_quiet ls line rest quiet say, is)

say_more : (lines : List (List ℕ)) (line : List ℕ) (props : List PropLine) (prop : PropLine) → SaysProperty line prop → SayAll lines props → SayAll (lines ++ line ∷ []) (props ++ prop ∷ [])
say_more [] line props prop says say = inr (prop, [], says, refl, ap (λ ps. ps ++ prop ∷ []) say)
say_more (l ∷ ls) line props prop says (inl (q, say)) = inl (q, say_more ls line props prop says say)
say_more (l ∷ ls) line props prop says (inr (first, rest, first_says, say, is)) =
    inr (first, rest ++ prop ∷ [], first_says, say_more ls line rest prop says say, ap (λ ps. ps ++ prop ∷ []) is)

names_more : (lines : List (List ℕ)) (line : List ℕ) → names_set (lines ++ line ∷ []) ≡ names_set lines ++ name_set line
names_more lines line = flat_map-append name_set lines (line ∷ []) ∙ ap (λ l. names_set lines ++ l) (append-nil (name_set line))

name_quiet : (line : List ℕ) → is_quiet line ≡ true → name_set line ≡ []
name_quiet line quiet = ap (λ t. cond t [] (name_part (cut_at_equals line))) quiet

name_says : (line : List ℕ) (prop : PropLine) (says : SaysProperty line prop) → name_set line ≡ says.name ∷ []
name_says line prop says = ap (λ t. cond t [] (name_part (cut_at_equals line))) says.sets.not_quiet ∙ ap name_part says.sets.cut

turned : (a b : Bool) → (a || b) ≡ (b || (a || false))
turned true true = refl
turned true false = refl
turned false true = refl
turned false false = refl

among_more : (other name : List ℕ) (names : List (List ℕ)) → is_among other (names ++ name ∷ []) ≡ (bytes_eq other name || is_among other names)
among_more other name names = list_any-append (bytes_eq other) names (name ∷ []) ∙ sym (turned (bytes_eq other name) (is_among other names))

said_quiet : (earlier : List (List ℕ)) (line : List ℕ) (now : Reading) → is_quiet line ≡ true → Said earlier now → Said (earlier ++ line ∷ []) now
said_quiet earlier line now quiet said =
    let same : names_set (earlier ++ line ∷ []) ≡ names_set earlier = names_more earlier line ∙ ap (λ l. names_set earlier ++ l) (name_quiet line quiet) ∙ append-nil (names_set earlier) in
    record {
      say = say_quiet earlier line now.lines quiet said.say;
      once = subst (IsDistinct bytes_eq) (sym same) said.once;
      names = λ name. said.names name ∙ ap (is_among name) (sym same);
      sizes = said.sizes;
    }

said_more : (earlier : List (List ℕ)) (line : List ℕ) (old new : Reading) → AddsLine old new line → Said earlier old → Said (earlier ++ line ∷ []) new
said_more earlier line old new adds said =
    let name = adds.says.name in
    let more : names_set (earlier ++ line ∷ []) ≡ names_set earlier ++ name ∷ [] = names_more earlier line ∙ ap (λ l. names_set earlier ++ l) (name_says line adds.prop adds.says) in
    let once : IsDistinct bytes_eq (names_set earlier ++ name ∷ []) = IsDistinct-push nat_list_eq_equiv (names_set earlier) name said.once (sym (said.names name) ∙ adds.adds.first) in
    record {
      say = subst (SayAll (earlier ++ line ∷ [])) (sym adds.adds.lines) (say_more earlier line old.lines adds.prop adds.says said.say);
      once = subst (IsDistinct bytes_eq) (sym more) once;
      names = λ other. adds.adds.names other ∙ ap (λ t. bytes_eq other name || t) (said.names other) ∙ sym (among_more other name (names_set earlier)) ∙ ap (is_among other) (sym more);
      sizes = adds.adds.sizes ∙ ap (λ s. with_line s adds.prop) said.sizes ∙ sym (fold-append with_line default_sizes old.lines (adds.prop ∷ [])) ∙ ap sizes_of (sym adds.adds.lines);
    }

said_line : (earlier : List (List ℕ)) (line : List ℕ) (old new : Reading) → ReadsLine old new line → Said earlier old → Said (earlier ++ line ∷ []) new
said_line earlier line old new (inl (quiet, same)) said = said_quiet earlier line new quiet (subst (Said earlier) (sym same) said)
said_line earlier line old new (inr (loud, adds)) said = said_more earlier line old new adds said

pub record SoFar (text rest : List ℕ) (now : Reading) (count : ℕ) : Type 0 where
  pub earlier : List (List ℕ)
  pub lines : lines_of text ≡ earlier ++ lines_of rest
  pub said : Said earlier now
  pub counted : count ≡ length earlier
  pub few : count + length rest ≤ length text

distinct_nil : IsDistinct bytes_eq []
unfolding IsDistinct
distinct_nil = tt

pub nothing_yet : (text : List ℕ) (now : Reading) → now.names ≡ [] → now.lines ≡ [] → now.sizes ≡ default_sizes → SoFar text text now 0
nothing_yet text now names lines sizes = record {
  earlier = [];
  lines = refl;
  said = record {
    say = lines;
    once = distinct_nil;
    names = λ name. ap (is_among name) names;
    sizes = sizes ∙ ap sizes_of (sym lines);
  };
  counted = refl;
  few = omega arith;
}

pub one_more : (text rest next line : List ℕ) (old new : Reading) (count : ℕ) → SoFar text rest old count → lines_of rest ≡ line ∷ lines_of next → length next < length rest → ReadsLine old new line → SoFar text next new (count + 1)
one_more text rest next line old new count so_far is shorter reads = record {
  earlier = so_far.earlier ++ line ∷ [];
  lines = so_far.lines ∙ ap (λ l. so_far.earlier ++ l) is ∙ sym (append_assoc so_far.earlier (line ∷ []) (lines_of next));
  said = said_line so_far.earlier line old new reads so_far.said;
  counted = omega (arith, so_far.counted, length-append so_far.earlier (line ∷ []));
  few = omega (arith, so_far.few);
}

pub all_read : (text rest line : List ℕ) (old new : Reading) (count : ℕ) → length text ≤ longest_text → SoFar text rest old count → lines_of rest ≡ line ∷ [] → ReadsLine old new line → IsProps text (record { lines = new.lines; sizes = new.sizes })
all_read text rest line old new count short so_far is reads =
    let said = said_line so_far.earlier line old new reads so_far.said in
    let whole : lines_of text ≡ so_far.earlier ++ line ∷ [] = so_far.lines ∙ ap (λ l. so_far.earlier ++ l) is in
    record {
      short = short;
      reads = record {
        say = subst (λ lines. SayAll lines new.lines) (sym whole) said.say;
        once = subst (λ lines. IsDistinct bytes_eq (names_set lines)) (sym whole) said.once;
      };
      sizes = said.sizes;
    }

moved_value : (some others : List (List ℕ)) (line : List ℕ) → ((name : List ℕ) → is_among name some ≡ is_among name others) → IsBadLine some line → IsBadLine others line
moved_value some others line same (inl uncut) = inl uncut
moved_value some others line same (inr bad) = inr (record { name = bad.name; value = bad.value; what = bad.what; sets = bad.sets; first = sym (same bad.name) ∙ bad.first; bad = bad.bad })

moved_again : (some others : List (List ℕ)) (line : List ℕ) → ((name : List ℕ) → is_among name some ≡ is_among name others) → IsRepeated some line → IsRepeated others line
moved_again some others line same again = record { name = again.name; value = again.value; what = again.what; sets = again.sets; again = sym (same again.name) ∙ again.again }

moved_unknown : (some others : List (List ℕ)) (line : List ℕ) → IsUnknownName some line → IsUnknownName others line
moved_unknown some others line unknown = record { name = unknown.name; value = unknown.value; not_quiet = unknown.not_quiet; cut = unknown.cut; unknown = unknown.unknown }

first_fault : (text rest line : List ℕ) (more : List (List ℕ)) (now : Reading) (count number : ℕ) (IsFault : List (List ℕ) → List ℕ → Type 0) → length text ≤ longest_text → (so_far : SoFar text rest now count) → lines_of rest ≡ line ∷ more → number ≡ count + 1 → IsFault (names_set so_far.earlier) line → IsFirst text number IsFault
first_fault text rest line more now count number IsFault short so_far is place is_fault = record {
  short = short;
  earlier = so_far.earlier;
  bad = line;
  later = more;
  props = now.lines;
  lines = so_far.lines ∙ ap (λ l. so_far.earlier ++ l) is;
  reads = record { say = so_far.said.say; once = so_far.said.once };
  place = omega (arith, so_far.counted, place);
  is_fault = is_fault;
}

pub line_fault : (text rest line : List ℕ) (more : List (List ℕ)) (now : Reading) (count : ℕ) (f : PropFault) → length text ≤ longest_text → SoFar text rest now count → lines_of rest ≡ line ∷ more → LineHasFault now.names (count + 1) line f → HasFault text f
line_fault text rest line more now count (fault.BadLine n) short so_far is bad =
    first_fault text rest line more now count n IsBadLine short so_far is bad.0 (moved_value now.names (names_set so_far.earlier) line so_far.said.names bad.1)
line_fault text rest line more now count (fault.Repeated n) short so_far is bad =
    first_fault text rest line more now count n IsRepeated short so_far is bad.0 (moved_again now.names (names_set so_far.earlier) line so_far.said.names bad.1)
line_fault text rest line more now count (fault.UnknownName n) short so_far is bad =
    first_fault text rest line more now count n IsUnknownName short so_far is bad.0 (moved_unknown now.names (names_set so_far.earlier) line bad.1)
line_fault text rest line more now count fault.TooLong short so_far is bad = absurd bad
line_fault text rest line more now count fault.NoMemory short so_far is bad = bad

-- there is a first line, whatever follows it
pub some_line : {R : Type 0} (now : R → List ℕ) (rest line : List ℕ) (more : Option R) → MatchOption more (lines_of rest ≡ line ∷ []) (λ r. lines_of rest ≡ line ∷ lines_of (now r)) → (others : List (List ℕ)) × (lines_of rest ≡ line ∷ others)
some_line now rest line None cut = ([], cut)
some_line now rest line (Some r) cut = (lines_of (now r), cut)
