-- The operation that a method and a path name.
use Rattle.std.proofs.Common.{◌≡◌, ◌≢◌, ℕ, List, None, false, true, ap, ◌∙◌}
use Rattle.std.specs.Str.{bytes_eq}
use Rattle.std.proofs.lemmas.Slice.Eq.{bytes_eq-Decides}
use Rattle.matchit.specs.Seek.{first}
use Rattle.name_rest.specs.Operations.{HasBadMethod, HasNoRoute, Routes, method_of, path_at}
use Rattle.name_rest.specs.Rows.{row_of, table}
use Rattle.name_rest.specs.declared.operation.Operation.{Operation}
use Rattle.name_rest.proofs.TableLemmas.{complete}

-- a path is that of one operation
pub same_operation : (path : List ℕ) (o q : Operation) → path ≡ path_at o → path ≡ path_at q → o ≡ q
same_operation path o q x y =
    let a = complete path o x in
    let b = complete path q y in
    let e : (row_of o).1 ≡ (row_of q).1 = cc in
    ap (λ r. r.value) e

pub no_route : (path : List ℕ) → first table path ≡ None → HasNoRoute path
no_route path none = λ o e.
    let there = complete path o e in
    cc

pub other_method : (method wanted : List ℕ) → bytes_eq method wanted ≡ false → method ≢ wanted
other_method method wanted differ e =
    let equal : bytes_eq method wanted ≡ true = (bytes_eq-Decides method wanted).1 e in
    cc

pub bad_method : (method path : List ℕ) (o : Operation) → path ≡ path_at o → bytes_eq method (method_of o) ≡ false → HasBadMethod method path
bad_method method path o there differ = record {
  operation = o;
  there = there;
  other = λ q r. other_method method (method_of o) differ (r.under ∙ ap method_of (same_operation path q o r.there there));
}

pub routes_there : (method path : List ℕ) (o : Operation) → path ≡ path_at o → bytes_eq method (method_of o) ≡ true → Routes method path o
routes_there method path o there equal = record { there = there; under = (bytes_eq-Decides method (method_of o)).0 equal }
