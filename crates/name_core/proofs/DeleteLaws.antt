-- The laws of deleted paths and of lists.
use Rattle.std.proofs.Common.{◌≡◌, ◌⊎◌, inl, inr, ℕ, ◌+◌, ◌<◌, Bool, true, false, cond, not, ◌&&◌, ◌||◌, is_none, is_some, length, map, List, [], ◌∷◌, ◌++◌, Option, Some, None, refl, sym, ap, ◌∙◌, arith}
use Rattle.std.specs.Prelude.{◌==◌}
use Rattle.std.specs.List.{filter, list_any}
use Rattle.std.specs.Option.{option_map}
use Rattle.std.specs.Str.{bytes_eq}
use Rattle.std.proofs.lemmas.Bool.Decides.{nat_tests}
use Rattle.std.proofs.lemmas.Slice.Eq.{bytes_eq-Decides}
use Rattle.name_calls.specs.declared.listing.Child.{Child}
use Rattle.inode_tree.specs.declared.rows.Row.{Row}
use Rattle.inode_tree.specs.Listing.{child_of, children}
use Rattle.name_calls.specs.Paths.{is_child, is_prefix, last_name, same_path}
use Rattle.name_calls.specs.ReadPaths.{as_it_is}
use Rattle.name_calls.specs.declared.read_paths.ReadPath.{ReadPath}
use Rattle.inode_tree.specs.Rows.{Entry, is_marked, is_zone_over, longer, removed, row_at, zone_of}
use Rattle.inode_tree.proofs.Seeks.{same-is}
use Rattle.edit_ops.specs.declared.ops.EditOp.TheVariants as op
use Rattle.name_calls.specs.declared.calls.NameCall.TheVariants as call
use Rattle.name_calls.specs.declared.calls.NameReply.TheVariants as reply
use Rattle.name_calls.specs.declared.calls.NameRefusal.{NameRefusal}
use Rattle.name_calls.specs.declared.calls.NameRefusal.TheVariants as refusal
use Rattle.name_core.specs.State.{NameState}
use Rattle.name_core.specs.Calls.{NameActs, NoRoom, Plain, delete_causes, first_cause, only_answer, only_logs, unless_refused}
use Rattle.name_core.specs.Reads.{answer_unless, list_causes, list_reply, path_of_zone, path_read, rows_read, shown_at}
use Rattle.name_core.specs.Laws.{DeletedIsGone, ListTellsChildren, OthersStayByDelete}
use Rattle.name_core.proofs.LawLemmas.{answer-by}

deleted-by : (s : NameState) (p : List (List ℕ)) (recursive : Bool) (s' : NameState) → NameActs s (call.Delete p recursive) reply.Done s' → s'.table.rows ≡ removed p s.table.rows
deleted-by s p recursive s' (NoRoom, may, is) = let f : reply.Done ≡ reply.Refused refusal.NoMemory = ap (λ o. o.reply) is in absurd cc
deleted-by s p recursive s' (Plain, may, is) = go (first_cause (delete_causes s.table.rows s.table.snaps p recursive)) is
  where
    go : (o : Option NameRefusal) → (record { reply = reply.Done; state = s' }) ≡ unless_refused o s (only_logs s (op.Remove p))
        → s'.table.rows ≡ removed p s.table.rows
    go (Some why) is = let f : reply.Done ≡ reply.Refused why = ap (λ o. o.reply) is in absurd cc
    go None is = ap (λ o. o.state.table.rows) is

-- the rows that remain

gone-row : (p q : List (List ℕ)) (rows : List Entry) → is_prefix p q ≡ true → row_at (removed p rows) q ≡ None
gone-row p q [] below = refl
gone-row p q (e ∷ rows) below = go (is_prefix p e.path) refl (gone-row p q rows below)
  where
    apart : (t : Bool) → same_path e.path q ≡ t → is_prefix p e.path ≡ false → t ≡ false
    apart true same out = let f : true ≡ false = sym below ∙ ap (is_prefix p) (sym (same-is e.path q same)) ∙ out in absurd cc
    apart false same out = refl

    go : (t : Bool) → is_prefix p e.path ≡ t → row_at (removed p rows) q ≡ None → row_at (cond (not t) (e ∷ removed p rows) (removed p rows)) q ≡ None
    go true below rest = rest
    go false out rest = ap (λ (b : Bool). cond b (Some e.row) (row_at (removed p rows) q)) (apart (same_path e.path q) refl out) ∙ rest

pub other-row : (p q : List (List ℕ)) (rows : List Entry) → is_prefix p q ≡ false → row_at (removed p rows) q ≡ row_at rows q
other-row p q [] out = refl
other-row p q (e ∷ rows) out = go (is_prefix p e.path) refl (other-row p q rows out)
  where
    apart : (t : Bool) → same_path e.path q ≡ t → is_prefix p e.path ≡ true → t ≡ false
    apart true same below = let f : true ≡ false = sym below ∙ ap (is_prefix p) (same-is e.path q same) ∙ out in absurd cc
    apart false same below = refl

    go : (t : Bool) → is_prefix p e.path ≡ t → row_at (removed p rows) q ≡ row_at rows q → row_at (cond (not t) (e ∷ removed p rows) (removed p rows)) q ≡ cond (same_path e.path q) (Some e.row) (row_at rows q)
    go true below rest = rest ∙ ap (λ (b : Bool). cond b (Some e.row) (row_at rows q)) (sym (apart (same_path e.path q) refl below))
    go false stays rest = ap (λ (o : Option Row). cond (same_path e.path q) (Some e.row) o) rest

-- a prefix of a prefix of a path is a prefix of the path
prefix-chain : (p x q : List (List ℕ)) → is_prefix p x ≡ true → is_prefix x q ≡ true → is_prefix p q ≡ true
prefix-chain [] x q h g = refl
prefix-chain (a ∷ p) [] q h g = absurd cc
prefix-chain (a ∷ p) (b ∷ x) [] h g = absurd cc
prefix-chain (a ∷ p) (b ∷ x) (c ∷ q) h g =
    let first = parts (bytes_eq a b) (is_prefix p x) h in
    let second = parts (bytes_eq b c) (is_prefix x q) g in
    let ab : a ≡ b = (bytes_eq-Decides a b).0 first.0 in
    let bc : b ≡ c = (bytes_eq-Decides b c).0 second.0 in
    join (bytes_eq a c) (is_prefix p q) ((bytes_eq-Decides a c).1 (ab ∙ bc)) (prefix-chain p x q first.1 second.1)
  where
    parts : (s t : Bool) → (s && t) ≡ true → (s ≡ true) × (t ≡ true)
    parts true t h = (refl, h)
    parts false t h = absurd cc

    join : (s t : Bool) → s ≡ true → t ≡ true → (s && t) ≡ true
    join s t h g = ap (λ b. b && t) h ∙ g

pub other-zone : (p q : List (List ℕ)) (rows : List Entry) → is_prefix p q ≡ false → zone_of (removed p rows) q ≡ zone_of rows q
other-zone p q [] out = refl
other-zone p q (e ∷ rows) out = go (is_prefix p e.path) refl (other-zone p q rows out)
  where
    above : (t : Bool) → is_prefix e.path q ≡ t → is_prefix p e.path ≡ true → t ≡ false
    above true over below = let f : true ≡ false = sym (prefix-chain p e.path q below over) ∙ out in absurd cc
    above false over below = refl

    none : (b : Bool) → (b && false) ≡ false
    none true = refl
    none false = refl

    go : (t : Bool) → is_prefix p e.path ≡ t → zone_of (removed p rows) q ≡ zone_of rows q
        → zone_of (cond (not t) (e ∷ removed p rows) (removed p rows)) q ≡ cond (is_zone_over q e) (Some (longer e (zone_of rows q))) (zone_of rows q)
    go true below rest =
        rest ∙ ap (λ (b : Bool). cond b (Some (longer e (zone_of rows q))) (zone_of rows q)) (sym (ap (λ (b : Bool). is_marked e.row && b) (above (is_prefix e.path q) refl below) ∙ none (is_marked e.row)))
    go false stays rest = ap (λ (o : Option Entry). cond (is_zone_over q e) (Some (longer e o)) o) rest

pub deleted_is_gone : DeletedIsGone
deleted_is_gone s p recursive s' q answer s'' did below info = go info
  where
    absent : row_at s'.table.rows q ≡ None
    absent = ap (λ (rows : List Entry). row_at rows q) (deleted-by s p recursive s' did) ∙ gone-row p q s.table.rows below

    go : NameActs s' (call.Info (as_it_is q)) answer s'' → answer ≡ reply.Refused refusal.NoSuchPath
    go (NoRoom, may, is) =
        let f : Some refusal.NoSuchPath ≡ None = ap (λ (o : Option Row). cond (is_none o) (Some refusal.NoSuchPath) None) (sym absent) ∙ may.1 in absurd cc
    go (Plain, may, is) =
        ap (λ o. o.reply) is
        ∙ ap (λ (o : Option Row). (unless_refused (cond (is_none o) (Some refusal.NoSuchPath) None) s' (only_answer s' (shown_at (path_of_zone s'.table.rows q) o))).reply) absent

pub others_stay_by_delete : OthersStayByDelete
others_stay_by_delete s p recursive s' q did out =
    ap (λ (rows : List Entry). shown_at (path_of_zone rows q) (row_at rows q)) (deleted-by s p recursive s' did)
    ∙ (λ i. shown_at (option_map (λ (e : Entry). e.path) (other-zone p q s.table.rows out i)) (other-row p q s.table.rows out i))

-- lists

pub swap-bytes : (a b : List ℕ) → bytes_eq a b ≡ bytes_eq b a
swap-bytes a b = go (bytes_eq a b) (bytes_eq b a) refl refl
  where
    go : (s t : Bool) → bytes_eq a b ≡ s → bytes_eq b a ≡ t → s ≡ t
    go true true h g = refl
    go true false h g = let f : true ≡ false = sym ((bytes_eq-Decides b a).1 (sym ((bytes_eq-Decides a b).0 h))) ∙ g in absurd cc
    go false true h g = let f : true ≡ false = sym ((bytes_eq-Decides a b).1 (sym ((bytes_eq-Decides b a).0 g))) ∙ h in absurd cc
    go false false h g = refl

-- a row is in the directory under this name exactly if it is at this path

and-true : (b : Bool) → (b && true) ≡ b
and-true true = refl
and-true false = refl

and-false : (b : Bool) → (b && false) ≡ false
and-false true = refl
and-false false = refl

apart-above : (a b : ℕ) → b < a → (a == b) ≡ false
apart-above a b h = grind (arith, nat_tests, h)

apart-below : (a b : ℕ) → a < b → (a == b) ≡ false
apart-below a b h = grind (arith, nat_tests, h)

too-long : (c d : List ℕ) (x : List (List ℕ)) → (length (c ∷ d ∷ x) == 0 + 1) ≡ false
too-long c d x = apart-above (length (c ∷ d ∷ x)) (0 + 1) (omega arith)

too-short : (a c : List ℕ) (p : List (List ℕ)) → (length (c ∷ []) == length (a ∷ p) + 1) ≡ false
too-short a c p = apart-below (length (c ∷ [])) (length (a ∷ p) + 1) (omega arith)

tests-alike : (a b c d : ℕ) → a ≡ b + 1 → c ≡ d + 1 → (a == c + 1) ≡ (b == d + 1)
tests-alike a b c d h g = go (b == d + 1) refl
  where
    yes : (b == d + 1) ≡ true → (a == c + 1) ≡ true
    yes e = grind (arith, nat_tests, e, h, g)

    never : (b == d + 1) ≡ false → (a == c + 1) ≡ false
    never e = grind (arith, nat_tests, e, h, g)

    go : (t : Bool) → (b == d + 1) ≡ t → (a == c + 1) ≡ t
    go true e = yes e
    go false e = never e

as-long : (a c : List ℕ) (p x : List (List ℕ)) → (length (c ∷ x) == length (a ∷ p) + 1) ≡ (length x == length p + 1)
as-long a c p x = tests-alike (length (c ∷ x)) (length x) (length (a ∷ p)) (length p) (omega arith) (omega arith)

none-here : (p : List (List ℕ)) (n : List ℕ) → same_path [] (p ++ n ∷ []) ≡ false
none-here [] n = refl
none-here (a ∷ p) n = refl

regroup : (b p l e : Bool) → (b && ((p && l) && e)) ≡ (((b && p) && l) && e)
regroup true p l e = refl
regroup false p l e = refl

child-named : (p x : List (List ℕ)) (n : List ℕ) → same_path x (p ++ n ∷ []) ≡ (is_child p x && bytes_eq (last_name x) n)
child-named [] [] n = refl
child-named [] (c ∷ []) n = and-true (bytes_eq c n)
child-named [] (c ∷ d ∷ x) n = and-false (bytes_eq c n) ∙ sym (ap (λ (b : Bool). b && bytes_eq (last_name (d ∷ x)) n) (too-long c d x))
child-named (a ∷ p) [] n = refl
child-named (a ∷ p) (c ∷ []) n =
    ap (λ (b : Bool). bytes_eq c a && b) (none-here p n) ∙ and-false (bytes_eq c a)
    ∙ sym (ap (λ (b : Bool). ((bytes_eq a c && is_prefix p []) && b) && bytes_eq c n) (too-short a c p) ∙ ap (λ (b : Bool). b && bytes_eq c n) (and-false (bytes_eq a c && is_prefix p [])))
child-named (a ∷ p) (c ∷ d ∷ x) n =
    (λ i. swap-bytes c a i && child-named p (d ∷ x) n i)
    ∙ regroup (bytes_eq a c) (is_prefix p (d ∷ x)) (length (d ∷ x) == length p + 1) (bytes_eq (last_name (d ∷ x)) n)
    ∙ ap (λ (b : Bool). ((bytes_eq a c && is_prefix p (d ∷ x)) && b) && bytes_eq (last_name (d ∷ x)) n) (sym (as-long a c p (d ∷ x)))

named : (rows : List Entry) (p : List (List ℕ)) (name : List ℕ) → list_any (λ (c : Child). bytes_eq c.name name) (children rows p) ≡ is_some (row_at rows (p ++ name ∷ []))
named [] p name = refl
named (e ∷ rows) p name =
    go (is_child p e.path) (named rows p name) ∙ ap (λ (t : Bool). is_some (cond t (Some e.row) (row_at rows (p ++ name ∷ [])))) (sym (child-named p e.path name))
  where
    either : (b : Bool) (o : Option Row) → (b || is_some o) ≡ is_some (cond b (Some e.row) o)
    either true o = refl
    either false o = refl

    go : (t : Bool) → list_any (λ (c : Child). bytes_eq c.name name) (children rows p) ≡ is_some (row_at rows (p ++ name ∷ []))
        → list_any (λ (c : Child). bytes_eq c.name name) (map child_of (cond t (e ∷ filter (λ (f : Entry). is_child p f.path) rows) (filter (λ (f : Entry). is_child p f.path) rows)))
        ≡ is_some (cond (t && bytes_eq (last_name e.path) name) (Some e.row) (row_at rows (p ++ name ∷ [])))
    go true rest = ap (λ (b : Bool). bytes_eq (last_name e.path) name || b) rest ∙ either (bytes_eq (last_name e.path) name) (row_at rows (p ++ name ∷ []))
    go false rest = rest

listed-by : (s : NameState) (r : ReadPath) (list : List Child) (s' : NameState) → NameActs s (call.List r) (reply.List list) s' → list ≡ children (rows_read s.table r) (path_read r)
listed-by s r list s' acts = go (answer-by s (call.List r) (reply.List list) s' acts)
  where
    unless : (o : Option NameRefusal) → reply.List list ≡ answer_unless o (list_reply s.table r) → list ≡ children (rows_read s.table r) (path_read r)
    unless (Some why) is = let f : reply.List list ≡ reply.Refused why = is in absurd cc
    unless None is = let f : reply.List list ≡ reply.List (children (rows_read s.table r) (path_read r)) = is in cc

    go : (reply.List list ≡ reply.Refused refusal.NoMemory) ⊎ (reply.List list ≡ answer_unless (first_cause (list_causes s.table r)) (list_reply s.table r)) → list ≡ children (rows_read s.table r) (path_read r)
    go (inl wanting) = absurd cc
    go (inr is) = unless (first_cause (list_causes s.table r)) is

pub list_tells_children : ListTellsChildren
list_tells_children s r list s' name did = ap (list_any (λ (c : Child). bytes_eq c.name name)) (listed-by s r list s' did) ∙ named (rows_read s.table r) (path_read r) name
