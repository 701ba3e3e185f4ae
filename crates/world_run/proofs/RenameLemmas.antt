-- Rows that move to another path, and the keys of their zones.
use Rattle.std.proofs.Common.{◌≡◌, inl, inr, ℕ, Bool, true, false, cond, nat_lt, List, [], ◌∷◌, ◌++◌, length, drop, map, Option, Some, None, refl, sym, ap, ◌∙◌}
use Rattle.std.specs.List.{AllByRecursion}
use Rattle.std.specs.Option.{option_and_then, option_map}
use Rattle.std.proofs.lemmas.List.Elements.{All-from_recursion}
use Rattle.hk_base.specs.declared.names.KeyName.{KeyName}
use Rattle.name_calls.specs.Paths.{is_prefix, parent}
use Rattle.inode_tree.specs.Moves.{CanMove, in_order, moved, moved_path, renamed}
use Rattle.inode_tree.specs.Rows.{Entry, entry_of, is_dir_at, is_zone_over, longer, mark_of, move_allowed, row_at, zone_id, zone_of}
use Rattle.inode_tree.proofs.MovedLaws.{IsPlaced, free, placed-renamed}
use Rattle.inode_tree.proofs.MovedPaths.{prefix-split}
use Rattle.inode_tree.proofs.MovedRows.{IsOff}
use Rattle.inode_tree.proofs.MovedZones.{or_zone, same-id-yes, zone-placed, zone-placed-before, zone-placed-elsewhere, zone_inside}
use Rattle.name_store.specs.Table.{key_of_zone}
use Rattle.world_run.specs.Promise.{In}
use Rattle.world_run.proofs.Members.{in-map, some-is}
use Rattle.world_run.proofs.RowLemmas.{InPlace, all-in, from-placed, in-put, one-of-id}

-- members

each-of : (P : Entry → Type 0) (rows : List Entry) → ((x : Entry) → In x rows → P x) → AllByRecursion P rows
each-of P [] h = tt
each-of P (e ∷ es) h = (h e (inl refl), each-of P es (λ x i. h x (inr i)))

in-order : (x : Entry) (es : List Entry) → In x (in_order es) → In x es
in-order x [] i = i
in-order x (e ∷ es) i = elim (in-put x e (in_order es) i) [ inl is ↦ inl is | inr old ↦ inr (in-order x es old) ]

-- each row after the move was there, perhaps at another path
pub in-renamed : (x : Entry) (p q : List (List ℕ)) (rows : List Entry) → In x (renamed p q rows) → (y : Entry) × In y rows × (x ≡ moved p q y)
in-renamed x p q rows i = in-map (moved p q) x rows (in-order x (map (moved p q) rows) i)

-- the zone of a path is a member
pub zone-member : (rows : List Entry) (p : List (List ℕ)) (z : Entry) → zone_of rows p ≡ Some z → In z rows
zone-member [] p z h = absurd cc
zone-member (e ∷ es) p z h = go (is_zone_over p e) (zone_of es p) h (zone-member es p z)
  where
    longest : (b : Bool) (f : Entry) → Some (cond b f e) ≡ Some z → (Some f ≡ Some z → In z es) → In z (e ∷ es)
    longest true f h ih = inr (ih h)
    longest false f h ih = inl (sym (some-is e z h))

    go : (b : Bool) (o : Option Entry) → cond b (Some (longer e o)) o ≡ Some z → (o ≡ Some z → In z es) → In z (e ∷ es)
    go false o h ih = inr (ih h)
    go true None h ih = inl (sym (some-is e z h))
    go true (Some f) h ih = longest (nat_lt (length e.path) (length f.path)) f h ih

abbrev key_of : Option Entry → Option KeyName
key_of o = option_and_then (λ (z : Entry). mark_of z.row.kind) o

module _ (rows : List Entry) (p q : List (List ℕ)) (good : InPlace rows) (can : CanMove rows p q) where
  pub is-placed : IsPlaced rows
  is-placed = record {
    rising = good.rising;
    once = All-from_recursion (λ (e : Entry). entry_of rows e.row.id ≡ Some e) rows (each-of (λ (e : Entry). entry_of rows e.row.id ≡ Some e) rows good.once);
    housed = All-from_recursion (λ (e : Entry). is_dir_at (row_at rows (parent e.path)) ≡ true) rows (each-of (λ (e : Entry). is_dir_at (row_at rows (parent e.path)) ≡ true) rows good.housed);
  }

  pub renamed-in-place : InPlace (renamed p q rows)
  renamed-in-place = from-placed (renamed p q rows) (placed-renamed rows p q is-placed can)

  module _ (allowed : move_allowed rows p q ≡ true) where
    -- the parents of both paths lie in a zone of one key, or both in none
    parents-key : key_of_zone rows (parent q) ≡ key_of_zone rows (parent p)
    parents-key = sym (go (zone_of rows (parent p)) refl (zone_of rows (parent q)) refl (same-id-yes (zone_id rows (parent p)) (zone_id rows (parent q)) allowed))
      where
        id_in : Option Entry → Option ℕ
        id_in o = option_map (λ (e : Entry). e.row.id) o

        go : (o : Option Entry) → zone_of rows (parent p) ≡ o → (u : Option Entry) → zone_of rows (parent q) ≡ u → id_in o ≡ id_in u → key_of o ≡ key_of u
        go None first None second same = refl
        go None first (Some b) second same = absurd cc
        go (Some a) first None second same = absurd cc
        go (Some a) first (Some b) second same =
            ap (λ (z : Entry). mark_of z.row.kind)
            (one-of-id rows good a b (zone-member rows (parent p) a first) (zone-member rows (parent q) b second) (some-is a.row.id b.row.id same))

    -- the key of the zone of a path below stays
    key-below : (x : List (List ℕ)) → key_of_zone (renamed p q rows) (q ++ x) ≡ key_of_zone rows (p ++ x)
    key-below x = ap key_of (zone-placed rows p q is-placed can x) ∙ go (zone_inside p rows x) ∙ sym (ap key_of (zone-placed-before rows p q is-placed can x))
      where
        go : (i : Option Entry) → key_of (or_zone (option_map (moved p q) i) (zone_of rows (parent q))) ≡ key_of (or_zone i (zone_of rows (parent p)))
        go None = parents-key
        go (Some e) = refl

    -- and of each row
    pub key-renamed : (y : Entry) → In y rows → key_of_zone (renamed p q rows) (moved_path p q y.path) ≡ key_of_zone rows y.path
    key-renamed y i = go (is_prefix p y.path) refl
      where
        off : is_prefix q y.path ≡ false
        off = all-in (IsOff q) rows (All-from_recursion (IsOff q) rows (free rows p q is-placed can)) y i

        go : (b : Bool) → is_prefix p y.path ≡ b → key_of_zone (renamed p q rows) (cond b (q ++ drop (length p) y.path) y.path) ≡ key_of_zone rows y.path
        go true h = key-below (drop (length p) y.path) ∙ ap (key_of_zone rows) (sym (prefix-split p y.path h))
        go false h = ap key_of (zone-placed-elsewhere rows p q is-placed can y.path h off)
