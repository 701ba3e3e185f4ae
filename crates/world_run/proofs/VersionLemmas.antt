-- The versions of draws are among those of their keys, in later tables too.
use Rattle.std.proofs.Common.{◌≡◌, inl, ℕ, zero, suc, ◌<◌, Bool, true, false, cond, List, [], ◌∷◌, length, Option, Some, None, slice_get, refl, sym, ap, subst, ◌∙◌, arith}
use Rattle.std.specs.Option.{option_map, option_and_then}
use Rattle.std.specs.Str.{bytes_eq}
use Rattle.hk_base.specs.declared.names.Dek.{Dek}
use Rattle.hk_base.specs.declared.names.Edek.{Edek}
use Rattle.hk_base.specs.declared.names.VersionName.{VersionName}
use Rattle.key_rows.specs.declared.rows.KeyRow.{KeyRow}
use Rattle.key_rows.specs.Table.{material_of}
use Rattle.kms_core.specs.Opening.{unseals}
use Rattle.world_run.specs.Ledger.{Draw, Hidden}
use Rattle.world_run.specs.Linked.{DrawsFit, KeyLinked, NotBelow, VersionsStand}
use Rattle.world_run.specs.Promise.{In}
use Rattle.world_run.proofs.DrawLemmas.{opens-named}
use Rattle.world_run.proofs.Laters.{Grew, LaterAt}

-- the materials of a key

got-below : (ms : List Dek) (n : ℕ) (m : Dek) → slice_get ms n ≡ Some m → n < length ms
got-below [] n m got = absurd cc
got-below (x ∷ ms) zero m got = omega arith
got-below (x ∷ ms) (suc n) m got = let low = got-below ms n m got in omega (arith, low)

material-at : (ms : List Dek) (n : ℕ) → n < length ms → (m : Dek) × (slice_get ms n ≡ Some m)
material-at [] n low = absurd (omega (arith, low))
material-at (m ∷ ms) zero low = (m, refl)
material-at (m ∷ ms) (suc n) low = material-at ms n (omega (arith, low))

-- a later row of a key has no fewer
grew-long : (old row : KeyRow) (n : ℕ) → Grew old row → n < length old.materials → n < length row.materials
grew-long old row n grew low = let m = material-at old.materials n low in got-below row.materials n m.0 (grew.has n m.0 m.1)

-- a row that opens an encrypted key has its version

opened-below : (open_by : Dek → Dek) (row : KeyRow) (v : VersionName) (dek : Dek) → option_map open_by (material_of (row ∷ []) v) ≡ Some dek → v.number < length row.materials
opened-below open_by row v dek h = go (bytes_eq row.name v.key) h
  where
    got : (o : Option Dek) → slice_get row.materials v.number ≡ o → option_map open_by o ≡ Some dek → v.number < length row.materials
    got None is h = absurd cc
    got (Some m) is h = got-below row.materials v.number m is

    go : (b : Bool) → option_map open_by (option_and_then (λ (r : KeyRow). slice_get r.materials v.number) (cond b (Some row) None)) ≡ Some dek → v.number < length row.materials
    go true h = got (slice_get row.materials v.number) refl h
    go false h = absurd cc

pub opens-below : (row : KeyRow) (e : Edek) (dek : Dek) → unseals (row ∷ []) e ≡ Some dek → e.version.number < length row.materials
opens-below row e dek h = opened-below _ row e.version dek h

-- the version of a draw stands in the row of its birth, if a key of the draw opens there
pub drawn-version : (keys : List KeyRow) (edek : Option Edek) (o : Option Draw) (d : Draw) (row : KeyRow) → KeyLinked keys edek o → o ≡ Some d → In row keys → row.birth ≡ d.birth
    → (row.name ≡ d.version.key) × (d.version.number < length row.materials)
drawn-version keys None None d row linked is i born = absurd cc
drawn-version keys None (Some f) d row linked is i born = absurd linked
drawn-version keys (Some e) None d row linked is i born = absurd linked
drawn-version keys (Some e) (Some f) d row linked is i born = go (sym (some f d is))
  where
    some : (x y : Draw) → Some x ≡ Some y → x ≡ y
    some x y h = cc

    go : d ≡ f → (row.name ≡ d.version.key) × (d.version.number < length row.materials)
    go same =
        let opens : unseals (row ∷ []) e ≡ Some f.dek = (linked.2 row i (born ∙ ap (λ (x : Draw). x.birth) same)).opens in
        let version : e.version ≡ d.version = linked.0 ∙ ap (λ (x : Draw). x.version) (sym same) in
        (opens-named row e f.dek opens ∙ ap (λ (v : VersionName). v.key) version, subst (λ (v : VersionName). v.number < length row.materials) version (opens-below row e f.dek opens))

-- later tables

pub versions-later : (h : Hidden) (IsBirth : ℕ → Type 0) (olds keys : List KeyRow) → DrawsFit h IsBirth → ((b : ℕ) → IsBirth b → LaterAt olds keys b) → VersionsStand h.ledger olds → VersionsStand h.ledger keys
versions-later h IsBirth olds keys draws later stand id d row i j born =
    let old = later d.birth (draws.born d (inl (id, i))) row j born in
    let was = stand id d old.0 i old.1 old.2 in
    (old.3.named ∙ was.0, grew-long old.0 row d.version.number old.3 was.1)

pub below-later : (h : Hidden) (IsBirth : ℕ → Type 0) (olds keys : List KeyRow) (session : ℕ) (e : Edek) → DrawsFit h IsBirth → ((b : ℕ) → IsBirth b → LaterAt olds keys b)
    → NotBelow h.ledger olds session e → NotBelow h.ledger keys session e
below-later h IsBirth olds keys session e draws later low d row i j born =
    let old = later d.birth (draws.born d (inl (session, i))) row j born in low d old.0 i old.1 old.2
