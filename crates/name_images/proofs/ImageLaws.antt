-- An image stands for one table, and a table that keeps the rules has one.
use Rattle.std.proofs.Common.{◌≡◌, ℕ, List, [], ◌++◌, sym, ap, ◌∙◌, arith}
use Rattle.std.proofs.lemmas.List.Elements.{All-from_recursion, recursion_from_All}
use Rattle.snap_store.specs.Ordered.{IsRisingBy}
use Rattle.zone_table.specs.declared.statuses.StatusRow.{StatusRow}
use Rattle.zone_table.specs.Statuses.{mark_of_id}
use Rattle.std.specs.Prelude.{Some}
use Rattle.name_store.specs.Table.{NameTable}
use Rattle.name_images.specs.Images.{HasImage, IsSpelledStatus, IsStatusOf, by_zone, in_image_order, name_image, status_cmp}
use Rattle.name_images.specs.Laws.{HasNameImage, OneNameTable}
use Rattle.name_images.proofs.ByZone.{by-zone-same, each-by-zone, length-by-zone, once-from-rising, rising-by-zone, test-by-zone}
use Rattle.name_images.proofs.Fronts.{AreSpelled, ImageParts, parts-sole, parts_field}

abbrev parts_of : NameTable → ImageParts
parts_of t = (t.opening, (t.rows, (t.snaps.allowed, (t.snaps.taken, by_zone t.statuses))))

spelled-parts : (t : NameTable) → HasImage t → AreSpelled (parts_of t)
spelled-parts t has = (
  has.opening,
  (
    has.rows,
    (
      has.allowed,
      (
        has.taken,
        record {
          count = (let few = has.statuses.count in omega (arith, few, length-by-zone t.statuses));
          each = each-by-zone IsSpelledStatus t.statuses has.statuses.each;
        },
      ),
    ),
  ),
)

abbrev table_of : ImageParts → NameTable
table_of x = record { opening = x.0; rows = x.1.0; snaps = record { allowed = x.1.1.0; taken = x.1.1.1.0 }; statuses = x.1.1.1.1 }

pub one-table : OneNameTable
one-table bytes t u a b =
    let image : name_image t ++ [] ≡ name_image u ++ [] = ap (λ (l : List ℕ). l ++ []) (sym a.is ∙ b.is) in
    let same = (parts-sole.same (parts_of t) (parts_of u) [] [] (spelled-parts t a.spelled) (spelled-parts u b.spelled) image).0 in
    sym (ordered t (by-zone-same t.statuses a.order)) ∙ ap table_of same ∙ ordered u (by-zone-same u.statuses b.order)
  where
    ordered : (v : NameTable) → by_zone v.statuses ≡ v.statuses → table_of (parts_of v) ≡ v
    ordered v e = λ i. record v { statuses = e i }

status-rules : (t : NameTable) (s : StatusRow) → IsStatusOf t s → IsStatusOf (in_image_order t) s
status-rules t s is = record {
  session = is.session;
  own = test-by-zone _ t.statuses is.own;
  free = is.free;
}

pub has-image : HasNameImage
has-image t table spelled rules = record {
  is = ap (λ (ss : List StatusRow). parts_field (t.opening, (t.rows, (t.snaps.allowed, (t.snaps.taken, ss))))) (sym (by-zone-same (by_zone t.statuses) rising));
  spelled = record {
    opening = spelled.opening;
    rows = spelled.rows;
    allowed = spelled.allowed;
    taken = spelled.taken;
    statuses = record {
      count = (let few = spelled.statuses.count in omega (arith, few, length-by-zone t.statuses));
      each = each-by-zone IsSpelledStatus t.statuses spelled.statuses.each;
    };
  };
  order = rising;
  table = record {
    rules = table.rules;
    snaps = table.snaps;
    fits = table.fits;
    statuses = All-from_recursion _ (by_zone t.statuses) (each-by-zone (λ s. mark_of_id t.rows s.zone ≡ Some s.noted.key) t.statuses (recursion_from_All _ t.statuses table.statuses));
  };
  rules = record {
    few = rules.few;
    paths = rules.paths;
    ids = rules.ids;
    keys = rules.keys;
    apart = rules.apart;
    snapshots = λ k d lt. let is = rules.snapshots k d lt in record { own = is.own; ids = is.ids; keys = is.keys };
    zones = once-from-rising (by_zone t.statuses) rising;
    sessions = All-from_recursion (IsStatusOf (in_image_order t)) (by_zone t.statuses)
        (each-by-zone (IsStatusOf (in_image_order t)) t.statuses (recursion_from_All _ t.statuses (λ k d lt. status-rules t _ (rules.sessions k d lt))));
  };
}
  where
    rising : IsRisingBy status_cmp (by_zone t.statuses)
    rising = rising-by-zone t.statuses rules.zones
