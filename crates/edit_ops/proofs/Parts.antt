-- Parts of a record both ways: the bytes of a part are its text, and each text is read back as its part.
use Rattle.std.proofs.Common.{◌≡◌, ℕ, ◌^◌, ◌<◌, Bool, true, false, cond, eqb, List, [], ◌∷◌, ◌++◌, length, Option, Some, None, zero, suc, refl, sym, ap, subst, ◌∙◌, arith, append_assoc}
use Rattle.std.specs.Int.{Width, to_be_bytes}
use Rattle.std.specs.List.{AllByRecursion}
use Rattle.std.proofs.lemmas.Bool.{eqb-true}
use Rattle.std.proofs.lemmas.List.{append-nil, nil_from_length}
use Rattle.std.proofs.lemmas.Option.{cond_some, same_Some}
use Rattle.key_rows.specs.Records.{name_field, text_field}
use Rattle.key_rows.specs.Reading.{◌>>=◌, number_at, bytes_at, short_at, long_at}
use Rattle.key_rows.proofs.FieldLemmas.{IsBytes, IsBytes-rest, IsWide, Takes, Takes-then, bind_some, bind_is, number_takes, number_again, bytes_take, bytes_again, short_takes, short_again, long_takes, long_again}
use Rattle.edit_ops.specs.Records.{list_field, opt_field, IsOpt}
use Rattle.edit_ops.specs.Reading.{Front, Whole, front_of, last, then_of, as_of, checked, pair_at, as_at, times_at, opt_at, opt_of}

pub record IsFront {X : Type 0} (front : Front X) (text : X → List ℕ) (Fits : X → Type 0) : Type 0 where
  pub takes : (bytes : List ℕ) (x : X × List ℕ) → IsBytes bytes → front bytes ≡ Some x → Takes bytes (text x.0) x.1 × Fits x.0
  pub again : (x : X) (rest : List ℕ) → Fits x → front (text x ++ rest) ≡ Some (x, rest)

pub record IsWhole {X : Type 0} (whole : Whole X) (text : X → List ℕ) (Fits : X → Type 0) : Type 0 where
  pub takes : (bytes : List ℕ) (x : X) → IsBytes bytes → whole bytes ≡ Some x → (bytes ≡ text x) × Fits x
  pub again : (x : X) → Fits x → whole (text x) ≡ Some x

-- the same, for any numbers instead of bytes
pub record IsText {X : Type 0} (whole : Whole X) (text : X → List ℕ) (Fits : X → Type 0) : Type 0 where
  pub takes : (bytes : List ℕ) (x : X) → whole bytes ≡ Some x → (bytes ≡ text x) × Fits x
  pub again : (x : X) → Fits x → whole (text x) ≡ Some x

pub number_front : (w : Width) (limit : ℕ) → IsWide w limit → IsFront (number_at w) (to_be_bytes w) (λ n. n < limit)
number_front w limit wide = record {
  takes = λ bytes x fits e. number_takes w limit wide bytes x fits e;
  again = λ n rest lt. number_again w limit wide n rest lt;
}

pub bytes_front : (n : ℕ) → IsFront (bytes_at n) (λ text. text) (λ text. length text ≡ n)
bytes_front n = record {
  takes = λ bytes x fits e. bytes_take n bytes x fits e;
  again = λ text rest is. subst (λ (k : ℕ). bytes_at k (text ++ rest) ≡ Some (text, rest)) is (bytes_again text rest);
}

pub short_front : IsFront short_at name_field (λ text. Unit {0})
short_front = record {
  takes = λ bytes x fits e. (short_takes bytes x fits e, tt);
  again = λ text rest any. short_again text rest;
}

pub long_front : IsFront long_at text_field (λ text. length text < 2 ^ 16)
long_front = record {
  takes = λ bytes x fits e. long_takes bytes x fits e;
  again = λ text rest lt. long_again text rest lt;
}

-- a test of all bytes
pub tested : (test : List ℕ → Bool) → IsText (λ bytes. cond (test bytes) (Some bytes) None) (λ text. text) (λ text. test text ≡ true)
tested test = record {
  takes = λ bytes x e.
      let g = cond_some (test bytes) bytes x e in
      (g.1, subst (λ (t : List ℕ). test t ≡ true) g.1 g.0);
  again = λ x holds. ap (λ (t : Bool). cond t (Some x) None) holds;
}

pub front_whole : {X : Type 0} {front : Front (List ℕ)} {text : List ℕ → List ℕ} {F : List ℕ → Type 0} {whole : Whole X} {inner : X → List ℕ} {G : X → Type 0}
    → IsFront front text F → IsText whole inner G → ((x : X) → G x → F (inner x)) → IsFront (front_of front whole) (λ x. text (inner x)) G
front_whole {X} {front} {text} {F} {whole} {inner} {G} f w within = record {
  takes = λ bytes y fits e.
      let a = bind_some (front bytes) (λ t. whole t.0 >>= λ x. Some (x, t.1)) y e in
      let b = bind_some (whole a.0.0) (λ x. Some (x, a.0.1)) y a.2 in
      let t = f.takes bytes a.0 fits a.1 in
      let u = w.takes a.0.0 b.0 b.1 in
      subst (λ (z : X × List ℕ). Takes bytes (text (inner z.0)) z.1 × G z.0) (same_Some (b.0, a.0.1) y b.2)
      (subst (λ (l : List ℕ). Takes bytes (text l) a.0.1) u.0 t.0, u.1);
  again = λ x rest g.
      bind_is (front (text (inner x) ++ rest)) (λ t. whole t.0 >>= λ z. Some (z, t.1)) (inner x, rest) (Some (x, rest)) (f.again (inner x) rest (within x g))
      (bind_is (whole (inner x)) (λ z. Some (z, rest)) x (Some (x, rest)) (w.again x g) refl);
}

pub last_whole : {X : Type 0} {front : Front X} {text : X → List ℕ} {F : X → Type 0} → IsFront front text F → IsWhole (last front) text F
last_whole {X} {front} {text} {F} f = record {
  takes = λ bytes y fits e.
      let b = bind_some (front bytes) (λ x. cond (eqb (length x.1) 0) (Some x.0) None) y e in
      let g = cond_some (eqb (length b.0.1) 0) b.0.0 y b.2 in
      let t = f.takes bytes b.0 fits b.1 in
      let nothing : b.0.1 ≡ [] = nil_from_length b.0.1 (eqb-true _ _ g.0) in
      let all : bytes ≡ text b.0.0 = t.0.parts ∙ ap (λ (r : List ℕ). text b.0.0 ++ r) nothing ∙ append-nil (text b.0.0) in
      subst (λ (z : X). (bytes ≡ text z) × F z) g.1 (all, t.1);
  again = λ x fits.
      ap (last front) (sym (append-nil (text x)))
      ∙ bind_is (front (text x ++ [])) (λ z. cond (eqb (length z.1) 0) (Some z.0) None) (x, []) (Some x) (f.again x [] fits) refl;
}

pub then_whole : {X Y : Type 0} {front : Front X} {text : X → List ℕ} {F : X → Type 0} {whole : Whole Y} {next : Y → List ℕ} {G : Y → Type 0}
    → IsFront front text F → IsWhole whole next G → IsWhole (then_of front whole) (λ z. text z.0 ++ next z.1) (λ z. F z.0 × G z.1)
then_whole {X} {Y} {front} {text} {F} {whole} {next} {G} f w = record {
  takes = λ bytes z fits e.
      let a = bind_some (front bytes) (λ x. whole x.1 >>= λ y. Some (x.0, y)) z e in
      let b = bind_some (whole a.0.1) (λ y. Some (a.0.0, y)) z a.2 in
      let t = f.takes bytes a.0 fits a.1 in
      let u = w.takes a.0.1 b.0 t.0.rest_fits b.1 in
      let all : bytes ≡ text a.0.0 ++ next b.0 = t.0.parts ∙ ap (λ (r : List ℕ). text a.0.0 ++ r) u.0 in
      subst (λ (p : X × Y). (bytes ≡ text p.0 ++ next p.1) × (F p.0 × G p.1)) (same_Some (a.0.0, b.0) z b.2) (all, (t.1, u.1));
  again = λ z fits.
      bind_is (front (text z.0 ++ next z.1)) (λ x. whole x.1 >>= λ y. Some (x.0, y)) (z.0, next z.1) (Some z) (f.again z.0 (next z.1) fits.0)
      (bind_is (whole (next z.1)) (λ y. Some (z.0, y)) z.1 (Some z) (w.again z.1 fits.1) refl);
}

pub as_whole : {X Y : Type 0} {whole : Whole X} {text : X → List ℕ} {F : X → Type 0} (see : X → Y) (back : Y → X) (shown : Y → List ℕ) (G : Y → Type 0)
    → IsWhole whole text F → ((y : Y) → see (back y) ≡ y) → ((y : Y) → G y → F (back y)) → ((y : Y) → text (back y) ≡ shown y)
    → ((x : X) → F x → G (see x)) → ((x : X) → text x ≡ shown (see x)) → IsWhole (as_of see whole) shown G
as_whole {X} {Y} {whole} {text} {F} see back shown G w is_back fits_back shows_back fits shows = record {
  takes = λ bytes y in_bytes e.
      let b = bind_some (whole bytes) (λ x. Some (see x)) y e in
      let t = w.takes bytes b.0 in_bytes b.1 in
      subst (λ (z : Y). (bytes ≡ shown z) × G z) (same_Some (see b.0) y b.2) (t.0 ∙ shows b.0, fits b.0 t.1);
  again = λ y g.
      bind_is (whole (shown y)) (λ x. Some (see x)) (back y) (Some y)
      (subst (λ (l : List ℕ). whole l ≡ Some (back y)) (shows_back y) (w.again (back y) (fits_back y g)))
      (ap (λ (z : Y). Some z) (is_back y));
}

pub opt_whole : {X : Type 0} {whole : Whole X} {text : X → List ℕ} {F : X → Type 0} → IsWhole whole text F → IsWhole (opt_of whole) (opt_field text) (IsOpt F)
opt_whole {X} {whole} {text} {F} w = record { takes = read; again = again }
  where
    by_tag : (t : ℕ) (bytes : List ℕ) (y : Option X) (a b : Bool) → (a ≡ true → t ≡ 0) → (b ≡ true → t ≡ 1) → IsBytes bytes
        → cond a (cond (eqb (length bytes) 0) (Some None) None) (cond b (as_of (λ x. Some x) whole bytes) None) ≡ Some y → (t ∷ bytes ≡ opt_field text y) × IsOpt F y
    by_tag t bytes y true b is_0 is_1 fits e =
        let g = cond_some (eqb (length bytes) 0) None y e in
        subst (λ (z : Option X). (t ∷ bytes ≡ opt_field text z) × IsOpt F z) g.1
        (ap (λ (n : ℕ). n ∷ bytes) (is_0 refl) ∙ ap (λ (l : List ℕ). 0 ∷ l) (nil_from_length bytes (eqb-true _ _ g.0)), tt)
    by_tag t bytes y false true is_0 is_1 fits e =
        let b = bind_some (whole bytes) (λ x. Some (Some x)) y e in
        let u = w.takes bytes b.0 fits b.1 in
        subst (λ (z : Option X). (t ∷ bytes ≡ opt_field text z) × IsOpt F z) (same_Some (Some b.0) y b.2)
        (ap (λ (n : ℕ). n ∷ bytes) (is_1 refl) ∙ ap (λ (l : List ℕ). 1 ∷ l) u.0, u.1)
    by_tag t bytes y false false is_0 is_1 fits e = absurd cc

    read : (bytes : List ℕ) (y : Option X) → IsBytes bytes → opt_of whole bytes ≡ Some y → (bytes ≡ opt_field text y) × IsOpt F y
    read [] y fits e = absurd cc
    read (t ∷ bytes) y fits e = by_tag t bytes y (eqb t 0) (eqb t 1) (eqb-true t 0) (eqb-true t 1) (IsBytes-rest t bytes fits) e

    again : (y : Option X) → IsOpt F y → opt_of whole (opt_field text y) ≡ Some y
    again None fits = refl
    again (Some x) fits = bind_is (whole (text x)) (λ z. Some (Some z)) x (Some (Some x)) (w.again x fits) refl

pub pair_front : {X Y : Type 0} {front : Front X} {text : X → List ℕ} {F : X → Type 0} {next : Front Y} {more : Y → List ℕ} {G : Y → Type 0}
    → IsFront front text F → IsFront next more G → IsFront (pair_at front next) (λ z. text z.0 ++ more z.1) (λ z. F z.0 × G z.1)
pair_front {X} {Y} {front} {text} {F} {next} {more} {G} f g = record {
  takes = λ bytes z fits e.
      let a = bind_some (front bytes) (λ x. next x.1 >>= λ y. Some ((x.0, y.0), y.1)) z e in
      let b = bind_some (next a.0.1) (λ y. Some ((a.0.0, y.0), y.1)) z a.2 in
      let t = f.takes bytes a.0 fits a.1 in
      let u = g.takes a.0.1 b.0 t.0.rest_fits b.1 in
      subst (λ (p : (X × Y) × List ℕ). Takes bytes (text p.0.0 ++ more p.0.1) p.1 × (F p.0.0 × G p.0.1)) (same_Some ((a.0.0, b.0.0), b.0.1) z b.2)
      (Takes-then bytes (text a.0.0) a.0.1 (more b.0.0) b.0.1 t.0 u.0, (t.1, u.1));
  again = λ z rest fits.
      ap (pair_at front next) (append_assoc (text z.0) (more z.1) rest)
      ∙ bind_is (front (text z.0 ++ (more z.1 ++ rest))) (λ x. next x.1 >>= λ y. Some ((x.0, y.0), y.1)) (z.0, more z.1 ++ rest) (Some (z, rest)) (f.again z.0 (more z.1 ++ rest) fits.0)
      (bind_is (next (more z.1 ++ rest)) (λ y. Some ((z.0, y.0), y.1)) (z.1, rest) (Some (z, rest)) (g.again z.1 rest fits.1) refl);
}

pub as_front : {X Y : Type 0} {front : Front X} {text : X → List ℕ} {F : X → Type 0} (see : X → Y) (back : Y → X) (shown : Y → List ℕ) (G : Y → Type 0)
    → IsFront front text F → ((y : Y) → see (back y) ≡ y) → ((y : Y) → G y → F (back y)) → ((y : Y) → text (back y) ≡ shown y)
    → ((x : X) → F x → G (see x)) → ((x : X) → text x ≡ shown (see x)) → IsFront (as_at see front) shown G
as_front {X} {Y} {front} {text} {F} see back shown G f is_back fits_back shows_back fits shows = record {
  takes = λ bytes y in_bytes e.
      let b = bind_some (front bytes) (λ x. Some (see x.0, x.1)) y e in
      let t = f.takes bytes b.0 in_bytes b.1 in
      subst (λ (z : Y × List ℕ). Takes bytes (shown z.0) z.1 × G z.0) (same_Some (see b.0.0, b.0.1) y b.2)
      (subst (λ (l : List ℕ). Takes bytes l b.0.1) (shows b.0.0) t.0, fits b.0.0 t.1);
  again = λ y rest g.
      bind_is (front (shown y ++ rest)) (λ x. Some (see x.0, x.1)) (back y, rest) (Some (y, rest))
      (subst (λ (l : List ℕ). front (l ++ rest) ≡ Some (back y, rest)) (shows_back y) (f.again (back y) rest (fits_back y g)))
      (ap (λ (z : Y). Some (z, rest)) (is_back y));
}

abbrev pub AreAll : {X : Type 0} → (X → Type 0) → ℕ → List X → Type 0
AreAll F n xs = (length xs ≡ n) × AllByRecursion F xs

pub times_front : {X : Type 0} {front : Front X} {text : X → List ℕ} {F : X → Type 0} → IsFront front text F → (n : ℕ) → IsFront (times_at front n) (list_field text) (AreAll F n)
times_front {X} {front} {text} {F} f n = record { takes = read n; again = again n }
  where
    read : (k : ℕ) (bytes : List ℕ) (z : List X × List ℕ) → IsBytes bytes → times_at front k bytes ≡ Some z → Takes bytes (list_field text z.0) z.1 × AreAll F k z.0
    read zero bytes z fits e =
        subst (λ (p : List X × List ℕ). Takes bytes (list_field text p.0) p.1 × AreAll F zero p.0) (same_Some ([], bytes) z e) (record { parts = refl; rest_fits = fits }, (refl, tt))
    read (suc k) bytes z fits e =
        let a = bind_some (front bytes) (λ x. times_at front k x.1 >>= λ xs. Some (x.0 ∷ xs.0, xs.1)) z e in
        let b = bind_some (times_at front k a.0.1) (λ xs. Some (a.0.0 ∷ xs.0, xs.1)) z a.2 in
        let t = f.takes bytes a.0 fits a.1 in
        let u = read k a.0.1 b.0 t.0.rest_fits b.1 in
        let count : length (a.0.0 ∷ b.0.0) ≡ suc k = omega (arith, u.1.0) in
        subst (λ (p : List X × List ℕ). Takes bytes (list_field text p.0) p.1 × AreAll F (suc k) p.0) (same_Some (a.0.0 ∷ b.0.0, b.0.1) z b.2)
        (Takes-then bytes (text a.0.0) a.0.1 (list_field text b.0.0) b.0.1 t.0 u.0, (count, (t.1, u.1.1)))

    again : (k : ℕ) (xs : List X) (rest : List ℕ) → AreAll F k xs → times_at front k (list_field text xs ++ rest) ≡ Some (xs, rest)
    again zero [] rest fits = refl
    again zero (x ∷ xs) rest fits = absurd (omega (arith, fits.0))
    again (suc k) [] rest fits = absurd (omega (arith, fits.0))
    again (suc k) (x ∷ xs) rest fits =
        let left = list_field text xs in
        ap (times_at front (suc k)) (append_assoc (text x) left rest)
        ∙ bind_is (front (text x ++ (left ++ rest))) (λ y. times_at front k y.1 >>= λ ys. Some (y.0 ∷ ys.0, ys.1)) (x, left ++ rest) (Some (x ∷ xs, rest)) (f.again x (left ++ rest) fits.1.0)
        (bind_is (times_at front k (left ++ rest)) (λ ys. Some (x ∷ ys.0, ys.1)) (xs, rest) (Some (x ∷ xs, rest)) (again k xs rest (omega (arith, fits.0), fits.1.1)) refl)

pub opt_front : {X : Type 0} {front : Front X} {text : X → List ℕ} {F : X → Type 0} → IsFront front text F → IsFront (opt_at front) (opt_field text) (IsOpt F)
opt_front {X} {front} {text} {F} f = record { takes = read; again = again }
  where
    Read : List ℕ → Option X × List ℕ → Type 0
    Read bytes z = Takes bytes (opt_field text z.0) z.1 × IsOpt F z.0

    by_tag : (t : ℕ) (bytes : List ℕ) (z : Option X × List ℕ) (a b : Bool) → (a ≡ true → t ≡ 0) → (b ≡ true → t ≡ 1) → IsBytes bytes
        → cond a (Some (None, bytes)) (cond b (as_at (λ x. Some x) front bytes) None) ≡ Some z → Read (t ∷ bytes) z
    by_tag t bytes z true b is_0 is_1 fits e =
        subst (Read (t ∷ bytes)) (same_Some (None, bytes) z e) (record { parts = ap (λ (n : ℕ). n ∷ bytes) (is_0 refl); rest_fits = fits }, tt)
    by_tag t bytes z false true is_0 is_1 fits e =
        let b = bind_some (front bytes) (λ x. Some (Some x.0, x.1)) z e in
        let u = f.takes bytes b.0 fits b.1 in
        subst (Read (t ∷ bytes)) (same_Some (Some b.0.0, b.0.1) z b.2)
        (record { parts = ap (λ (n : ℕ). n ∷ bytes) (is_1 refl) ∙ ap (λ (l : List ℕ). 1 ∷ l) u.0.parts; rest_fits = u.0.rest_fits }, u.1)
    by_tag t bytes z false false is_0 is_1 fits e = absurd cc

    read : (bytes : List ℕ) (z : Option X × List ℕ) → IsBytes bytes → opt_at front bytes ≡ Some z → Read bytes z
    read [] z fits e = absurd cc
    read (t ∷ bytes) z fits e = by_tag t bytes z (eqb t 0) (eqb t 1) (eqb-true t 0) (eqb-true t 1) (IsBytes-rest t bytes fits) e

    again : (y : Option X) (rest : List ℕ) → IsOpt F y → opt_at front (opt_field text y ++ rest) ≡ Some (y, rest)
    again None rest fits = refl
    again (Some x) rest fits = bind_is (front (text x ++ rest)) (λ z. Some (Some z.0, z.1)) (x, rest) (Some (Some x, rest)) (f.again x rest fits) refl

-- a test under which the text can be written another way
pub checked_whole : {X : Type 0} {whole : Whole X} {text : X → List ℕ} {F : X → Type 0} (test : X → Bool) (shown : X → List ℕ)
    → IsWhole whole text F → ((x : X) → test x ≡ true → text x ≡ shown x) → IsWhole (checked test whole) shown (λ x. F x × (test x ≡ true))
checked_whole {X} {whole} {text} {F} test shown w shows = record {
  takes = λ bytes x fits e.
      let b = bind_some (whole bytes) (λ y. cond (test y) (Some y) None) x e in
      let g = cond_some (test b.0) b.0 x b.2 in
      let t = w.takes bytes b.0 fits b.1 in
      subst (λ (y : X). (bytes ≡ shown y) × (F y × (test y ≡ true))) g.1 (t.0 ∙ shows b.0 g.0, (t.1, g.0));
  again = λ x fits.
      bind_is (whole (shown x)) (λ y. cond (test y) (Some y) None) x (Some x)
      (subst (λ (l : List ℕ). whole l ≡ Some x) (shows x fits.1) (w.again x fits.0))
      (ap (λ (b : Bool). cond b (Some x) None) fits.1);
}
