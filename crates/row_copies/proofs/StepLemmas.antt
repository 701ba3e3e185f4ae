-- Steps that follow one another, and results.
use Rattle.std.specs.Prelude.{Result, Ok, Err, OnOk, OnErr, IfOk}
use Rattle.row_copies.specs.Copies.{ChainOf, Done, Then}

pub one : {X : Type 0} (follows : X → X → Type 0) (a b : X) → follows a b → ChainOf follows a b
one follows a b f = Then a b Done f

pub steps-join : {X : Type 0} (follows : X → X → Type 0) (a b c : X) → ChainOf follows a b → ChainOf follows b c → ChainOf follows a c
steps-join follows a b c s Done = s
steps-join follows a b c s (Then m n t f) = Then m n (steps-join follows a b m s t) f

pub two : {X : Type 0} (follows : X → X → Type 0) (a b c : X) → follows a b → follows b c → ChainOf follows a c
two follows a b c f g = Then b c (one follows a b f) g

pub on-ok : {T E : Type 0} (P Q : Type 0) (r : Result T E) → OnOk r P → (P → Q) → OnOk r Q
on-ok P Q (Ok x) h so = so h
on-ok P Q (Err e) h so = h

pub on-err : {T E : Type 0} (P Q : Type 0) (r : Result T E) → OnErr r P → (P → Q) → OnErr r Q
on-err P Q (Ok x) h so = h
on-err P Q (Err e) h so = so h

pub if-ok : {T E : Type 0} (P Q : T → Type 0) (r : Result T E) → IfOk r P → ((x : T) → P x → Q x) → IfOk r Q
if-ok P Q (Ok x) h so = so x h
if-ok P Q (Err e) h so = h
