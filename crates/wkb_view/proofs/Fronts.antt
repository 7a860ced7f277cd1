-- Bytes begin with one geometry, which no call rejects, and which is written in no more bytes.
use Rattle.std.proofs.Common.{◌≡◌, ℕ, ◌≤◌, List, Result, Ok, Err, ◌⊎◌, inl, inr, sym, ap, ◌∙◌, length, arith}
use Rattle.std.proofs.Common.{IfErr}
use Rattle.wkb_view.specs.Prelude.{Dimension, Endianness, Item, Listed, whole_of}
use Rattle.wkb_geom.specs.declared.error.WkbError.{WkbError}
use Rattle.wkb_geom.specs.Errors.{IsMemory}
use Rattle.wkb_geom.specs.Values.{Value}
use Rattle.wkb_geom.specs.Encodings.{encoding}
use Rattle.wkb_view.specs.Lends.{IsFront, IsRead}
use Rattle.wkb_geom.specs.declared.common.Form.TheVariants.{Iso}
use Rattle.wkb_geom.specs.Geometries.{geometry_of}
use Rattle.wkb_geom.specs.Fronts.{HasNoFront}
use Rattle.wkb_laws.proofs.OneFront.{one_front_lem}
use Rattle.wkb_laws.proofs.OneEncoding.{one_encoding_lem}
use Rattle.wkb_laws.proofs.Lengths.{length_of_front_lem}

-- Bytes that begin with a geometry, such as those of a geometry's `buf`, are never rejected by a call that rejects
-- only bytes that begin with none.
pub never_refused : {A E : Type 0} {buf : List ℕ} {w : Item} (r : Result A E) → IsFront buf w
    → IfErr r (λ _. HasNoFront buf) → IfErr r (λ _. ⊥)
never_refused (Ok x) f refused = tt
never_refused {w = w} (Err e) f refused = refused w.spelled w.value f.rest f.front

pub memory_left : (e : WkbError) {buf : List ℕ} {w : Item} → IsFront buf w → IsMemory e ⊎ HasNoFront buf → IsMemory e
memory_left e f (inl memory) = memory
memory_left e {w = w} f (inr none) = absurd (none w.spelled w.value f.rest f.front)

-- Bytes begin with one geometry: two that were read of the same bytes are equal.
pub one_geometry : {buf : List ℕ} {v w : Item} → IsFront buf v → IsFront buf w → v ≡ w
one_geometry {buf = buf} {v = v} {w = w} f g =
    let one = one_front_lem buf v.spelled w.spelled v.value w.value f.rest g.rest f.front g.front in
    let encoding : v.encoding ≡ w.encoding = sym f.encoding_is ∙ one.0 ∙ g.encoding_is in
    λ i. record { encoding = encoding i; spelled = one.1 i; value = one.2 i }

-- Two geometries that were read are one if their spellings and their values are.
pub one_item : {v w : Item} → IsRead v → IsRead w → v.spelled ≡ w.spelled → v.value ≡ w.value → v ≡ w
one_item {v = v} {w = w} r q s t = grind (arith, one_encoding_lem)

-- So are two views of the parts of geometries that were read, such as polygons.
pub one_listed : {A : Type 0} (f : Dimension → A → Value) {p q : Listed A} → IsRead (whole_of f p)
    → IsRead (whole_of f q) → p.spelled ≡ q.spelled → p.dimension ≡ q.dimension → p.parts ≡ q.parts → p ≡ q
one_listed f r s spelled dims parts =
    let one = one_item r s spelled (λ i. f (dims i) (parts i)) in
    λ i. record { encoding = (one i).encoding; spelled = spelled i; dimension = dims i; parts = parts i }

-- A geometry that was read is written in either order in as many bytes as its own, or in fewer.
pub no_longer : (order : Endianness) {w : Item} → IsRead w
    → length (encoding order Iso (geometry_of w.value)) ≤ length w.encoding
no_longer order {w = w} r =
    let size = length_of_front_lem order w.encoding w.spelled w.value r.front.rest r.bytes r.front.front in
    omega (arith, size, ap length r.front.encoding_is)
