-- Views whose bytes are what is written of them.
use Rattle.wkb_view.proofs.Prelude.{◌≡◌, ℕ, ◌+◌, ◌≤◌, List, [], ◌∷◌, length, map, take, drop, None, Some, false, refl}
use Rattle.wkb_view.proofs.Prelude.{sym, arith, slice_get, Bool, take_all, length-map}
use Rattle.wkb_view.proofs.Prelude.{slice_get-map, get_or_from_slice_get, geometry_of, fault, in_full_lem, spelled_good}
use Rattle.wkb_view.proofs.Prelude.{lawful-geometry_of, Endianness, Dimension, number, Layout, Item, Spelling}
use Rattle.wkb_view.proofs.Prelude.{spellings, as_dimensions, list_of_spellings, BytesSpell, fitted_geometry-same}
use Rattle.std.proofs.lemmas.List.{take_more_same}
use Rattle.std.proofs.lemmas.Option.{slice_get_within}
use Rattle.wkb_laws.specs.Prelude.{Form, Value, node, spelling, Geometry, written_dimension}
use Rattle.wkb_geom.specs.Encodings.{inner, form_with_flags, code_of, encoding, IsForm}
use Rattle.wkb_laws.specs.Written.{written, written_header, each_spelling}
use Rattle.wkb_laws.proofs.EncodingBytes.{as_written}
use Rattle.wkb_view.specs.Prelude.{Spellings, spelled_in, spelling_at, members_spelled}
use Rattle.wkb_laws.specs.Fits.{fitted_geometry}
use Rattle.wkb_view.specs.BytesAsWritten.{IsSpelledAsWritten}
use Rattle.wkb_view.proofs.Members.{spelled_each}

-- ---- bytes in memory that are the encoding of a geometry without a fault

pub record IsEncoded (bytes : List ℕ) (order : Endianness) (form : Form) (g : Geometry) : Type 0 where
  pub encoding : bytes ≡ encoding order form g
  pub writable : fault g ≡ None

is_form : (has_flags : Bool) → IsForm (form_with_flags has_flags)
is_form has_flags = grind arith

module _ (order : Endianness) (form : Form) (has_flags : Bool) (form_is : form ≡ form_with_flags has_flags) (i : Item)
    (spells : BytesSpell i) (is : IsSpelledAsWritten order has_flags i) where
  -- those of what is spelled as it is written
  pub is_encoded : IsEncoded i.encoding order form (geometry_of i.value)
  is_encoded = grind (arith, in_full_lem, as_written, is_form, spelled_good)

  -- what is spelled is lawful, so fitting leaves it as it is
  pub is_encoded_fitted : IsEncoded i.encoding order form (fitted_geometry (geometry_of i.value))
  is_encoded_fitted = grind (arith, in_full_lem, spelled_good, fitted_geometry-same, lawful-geometry_of, is_encoded)

-- ---- the spelling that is written: of the header, and of the members

-- the header is the one that is written of this kind
pub record HasWrittenHeader (k : ℕ) (l : Layout) (bytes : List ℕ) (order : Endianness) (has_flags : Bool) : Type 0 where
  pub order_is : l.order ≡ order
  pub plain : l.has_srid ≡ false
  pub code : number order 4 (drop 1 bytes) ≡ code_of (form_with_flags has_flags) k l.dimension

-- the spelling of a geometry with that header and these members
pub header_spelled : (k : ℕ) (l : Layout) (bytes : List ℕ) (order : Endianness) (has_flags : Bool) (ss : Spellings)
    → HasWrittenHeader k l bytes order has_flags
    → spelled_in l bytes [] ss
    ≡ node (written_header order (form_with_flags has_flags) k (written_dimension (as_dimensions l.dimension))) [] ss
header_spelled k l bytes order has_flags ss h = grind arith

-- a member with this part is written with this spelling
abbrev pub member_written : {A : Type 0} → Endianness → Bool → (Dimension → A → Value) → Dimension → A → Spelling
member_written order has_flags kind d part =
    written order (inner (form_with_flags has_flags)) (geometry_of (kind d part))

-- which is that of a geometry by itself
pub as_member : (order : Endianness) (has_flags : Bool) (v : Value)
    → written order (form_with_flags has_flags) (geometry_of v)
    ≡ written order (inner (form_with_flags has_flags)) (geometry_of v)
as_member order has_flags v = grind arith

-- the members before an index are spelled as they are written
pub record AreWrittenBefore {A : Type 0} (order : Endianness) (has_flags : Bool) (kind : Dimension → A → Value)
    (d : Dimension) (i : ℕ) (s : Spelling) (parts : List A) : Type 0 where
  pub same : take i (list_of_spellings (members_spelled s)) ≡ take i (map (member_written order has_flags kind d) parts)

-- and so is the next one
pub one_more_written : {A : Type 0} {order : Endianness} {has_flags : Bool} {kind : Dimension → A → Value}
    {d : Dimension} {i : ℕ} {s : Spelling} {parts : List A} {m : Item} {part : A}
    → AreWrittenBefore order has_flags kind d i s parts
    → IsSpelledAsWritten order has_flags m → m.value ≡ kind d part → Some m.spelled ≡ spelling_at s i
    → Some part ≡ slice_get parts i
    → AreWrittenBefore order has_flags kind d (i + 1) s parts
one_more_written {order = order} {has_flags = has_flags} {kind = kind} {d = d} {i = i} {parts = parts} {m = m}
    {part = part} before is value-is spelled-at part-at =
    let f = member_written order has_flags kind d in
    let same : m.spelled ≡ f part = grind (arith, as_member, geometry_of) in
    let there : slice_get (map f parts) i ≡ Some m.spelled = grind (arith, slice_get-map) in
    let found = get_or_from_slice_get _ i m.spelled m.spelled (sym spelled-at) in
    grind (arith, take_more_same, slice_get_within, get_or_from_slice_get)

-- spellings that are those of parts, one by one
each_spelled : {A : Type 0} (f : A → Spelling) (part : Item → A) (ms : List Item)
    → map (λ m. m.spelled) ms ≡ map f (map part ms) → spellings ms ≡ each_spelling f (map part ms)
each_spelled f part [] e = refl
each_spelled f part (m ∷ ms) e =
    let head : m.spelled ≡ f (part m) = cc in
    let tail : map (λ n. n.spelled) ms ≡ map f (map part ms) = cc in
    let others = each_spelled f part ms tail in
    λ i. spelling (head i) (others i)

-- a geometry with the header that is written, all members of which are spelled as they are written
pub all_written : {A : Type 0} {k : ℕ} {l : Layout} {bytes : List ℕ} {order : Endianness} {has_flags : Bool}
    {kind : Dimension → A → Value} {i : ℕ} (part : Item → A) (ms : List Item)
    → HasWrittenHeader k l bytes order has_flags → length (map part ms) ≤ i
    → AreWrittenBefore order has_flags kind l.dimension i (spelled_in l bytes [] (spellings ms)) (map part ms)
    → spelled_in l bytes [] (spellings ms)
    ≡ node (written_header order (form_with_flags has_flags) k (written_dimension (as_dimensions l.dimension))) []
    (each_spelling (member_written order has_flags kind l.dimension) (map part ms))
all_written part ms header all before = grind (arith, spelled_each, length-map, take_all, header_spelled, each_spelled)
