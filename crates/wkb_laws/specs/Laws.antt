-- The lemmas, as statements.
use Rattle.std.proofs.Common.{Some, Ok, Err, ◌≡◌, ◌↔◌, ◌⊎◌, ℕ, suc, ◌+◌, ◌*◌, ◌-◌, ◌≤◌, ◌<◌, List, [], ◌++◌, length}
use Rattle.std.proofs.Common.{None, Bool, false, ◌^◌, is_some, if◌then◌else◌, Option, from_bits}
use Rattle.std.specs.Float.{binary64, ◌≤ᶠ◌}
use Rattle.wkb_geom.specs.Numbers.{IsWord, is_nan}
use Rattle.wkb_geom.specs.Ranks.{rank}
use Rattle.wkb_laws.specs.Prelude.{Endianness, Dimension, Form, Iso, Ewkb, AreBytes, Value, Values, no_members, member}
use Rattle.wkb_laws.specs.Prelude.{count, nest, nest_each, member_count, member_count_each, listed_count, Spelling}
use Rattle.wkb_laws.specs.Prelude.{Spellings, Spells, SpellsEach, Wanted, any, srid_count, header, Front, max_nesting}
use Rattle.wkb_laws.specs.Prelude.{ShortPoint, ShortLineString, ShortLinearRing, ShortMultiPoint, Cause, end_of_input}
use Rattle.wkb_laws.specs.Prelude.{general, slots_asked, OpensCounted, Refuses, named, as_dimensions, Geometry}
use Rattle.wkb_laws.specs.Prelude.{IsGeometry, normal, geometry_of, byte_size, encoding, fault, size_fault, fault_under}
use Rattle.wkb_laws.specs.Prelude.{form_srid, IsForm, IsWritable, IsRewriting, IsRewritingWithSrid, Reading, rejection}
use Rattle.wkb_laws.specs.Prelude.{Item, geometry_at, left_in}
use Rattle.wkb_laws.specs.Written.{HasOptions}

-- The bytes, the spelling, the value and the rest of a front are settled by the input.
abbrev pub HasOneFront : Type 0
HasOneFront = (input : List ℕ) (s u : Spelling) (t v : Value) (rest more : List ℕ)
    → (a : Front input s t rest) → (b : Front input u v more)
    → (a.front ≡ b.front) × (s ≡ u) × (t ≡ v) × (rest ≡ more)

-- What follows a geometry changes nothing of it.
abbrev pub RestIsFree : Type 0
RestIsFree =
    (input : List ℕ) (s : Spelling) (t : Value) (rest more : List ℕ) → (f : Front input s t rest)
    → Front (f.front ++ more) s t more

-- The bytes of a geometry, with nothing after them, are read as that geometry.
abbrev pub BytesAreRead : Type 0
BytesAreRead =
    (input : List ℕ) (s : Spelling) (t : Value) (rest : List ℕ) → (f : Front input s t rest) → Front f.front s t []

-- The input begins with a geometry.
abbrev pub HasFront : List ℕ → Type 0
HasFront input = (s : Spelling) × (t : Value) × (rest : List ℕ) × Front input s t rest

-- The input is rejected.
abbrev pub HasRefusal : List ℕ → Type 0
HasRefusal input = (cause : Cause) × (turns : ℕ) × (slots : ℕ) × Refuses max_nesting any input cause turns slots

-- Every input begins with a geometry or is rejected.
abbrev pub ReadOrRefused : Type 0
ReadOrRefused = (input : List ℕ) → HasFront input ⊎ HasRefusal input

-- No input does both.
abbrev pub NeverBoth : Type 0
NeverBoth = (input : List ℕ) (s : Spelling) (t : Value) (rest : List ℕ) (cause : Cause) (turns slots : ℕ)
    → Front input s t rest → Refuses max_nesting any input cause turns slots → ⊥

-- An input is rejected with one cause and one pair of counts.
abbrev pub OneRefusal : Type 0
OneRefusal = (input : List ℕ) (cause other : Cause) (turns turns' slots slots' : ℕ)
    → Refuses max_nesting any input cause turns slots → Refuses max_nesting any input other turns' slots'
    → (cause ≡ other) × (turns ≡ turns') × (slots ≡ slots')

-- what the lists inside some members ask for
abbrev pub listed_inside : Values → ℕ
listed_inside no_members = 0
listed_inside (member t ts) = listed_count t + listed_inside ts

-- A member's refusal is that of the collection round it, once the members before it are counted, itself, and the
-- collection's own list.
abbrev pub RefusedOutward : Type 0
RefusedOutward =
    (room : ℕ) (w : Wanted) (input : List ℕ) (order : Endianness) (d : Dimension) (srid : Bool) (n : ℕ)
    (behind : List ℕ)
    (more : ℕ) (ss : Spellings) (ts : Values) (x rest : List ℕ) (cause : Cause) (turns slots : ℕ)
    → OpensCounted room w input order 7 d srid n behind → behind ≡ x ++ rest → SpellsEach any ss ts x
    → nest_each ts ≤ room - 1
    → n ≡ count ts + suc more
    → Refuses (room - 1) any rest cause turns slots
    → Refuses room w input cause (member_count_each ts + (1 + turns))
    (slots_asked 7 n (length behind) + (listed_inside ts + slots))

-- the causes of an input that ends too early
abbrev pub EndsTooEarly : Cause → Type 0
EndsTooEarly end_of_input = Unit {0}
EndsTooEarly (general (ShortPoint end len)) = Unit {0}
EndsTooEarly (general (ShortLineString end len)) = Unit {0}
EndsTooEarly (general (ShortLinearRing end len)) = Unit {0}
EndsTooEarly (general (ShortMultiPoint end len)) = Unit {0}
EndsTooEarly _ = ⊥

-- A strict prefix of a geometry is rejected as an input that ends too early.
abbrev pub CutIsRefused : Type 0
CutIsRefused =
    (input : List ℕ) (s : Spelling) (t : Value) (rest x y : List ℕ) → (f : Front input s t rest) → f.front ≡ x ++ y
    → 0 < length y
    → (cause : Cause) × (turns : ℕ) × (slots : ℕ) × Refuses max_nesting any x cause turns slots × EndsTooEarly cause

-- what a reading gives is a front with its turns, its entries and its bytes, or the refusal with its turns and entries
abbrev pub Agrees : List ℕ → Reading Item → Type 0
Agrees input (cost, Ok x) =
    (f : Front input x.0.spelled x.0.value x.1) × (cost.turns ≡ member_count x.0.value)
    × (cost.slots ≡ listed_count x.0.value) × (f.front ≡ x.0.encoding)
Agrees input (cost, Err r) = Refuses max_nesting any input r.cause cost.turns cost.slots

-- What reading from left to right gives is so for every input.
abbrev pub GeometryAgrees : Type 0
GeometryAgrees = (input : List ℕ) → Agrees input (geometry_at max_nesting input)

-- A front is what reading gives, with its bytes, its turns and its entries.
abbrev pub FrontIsRead : Type 0
FrontIsRead = (input : List ℕ) (s : Spelling) (t : Value) (rest : List ℕ) → (f : Front input s t rest)
    → geometry_at max_nesting input
    ≡ (
      record { turns = member_count t; slots = listed_count t },
      Ok (record { encoding = f.front; spelled = s; value = t }, rest),
    )

-- A refusal is what reading gives, with the bytes from the rejected part on.
abbrev pub RefusalIsRead : Type 0
RefusalIsRead = (input : List ℕ) (cause : Cause) (turns slots : ℕ) → (r : Refuses max_nesting any input cause turns slots)
    → geometry_at max_nesting input ≡ (record { turns = turns; slots = slots }, Err (rejection (left_in r) cause))

-- A front's members, and the entries of their lists, are bounded by the input's length.
abbrev pub FrontIsBounded : Type 0
FrontIsBounded = (input : List ℕ) (s : Spelling) (t : Value) (rest : List ℕ) → Front input s t rest
    → (4 * member_count t ≤ length input + 4) × (listed_count t ≤ 15 * length input)

-- A refusal's members and entries are bounded by the input's length, whatever its counts claim.
abbrev pub RefusalIsBounded : Type 0
RefusalIsBounded = (input : List ℕ) (cause : Cause) (turns slots : ℕ) → Refuses max_nesting any input cause turns slots
    → (4 * turns ≤ length input + 4) × (slots ≤ 15 * length input)

-- The turns and the entries of reading are bounded so, whatever it gives.
abbrev pub ReadingIsBounded : Type 0
ReadingIsBounded = (input : List ℕ)
    → (4 * (geometry_at max_nesting input).0.turns ≤ length input + 4)
    × ((geometry_at max_nesting input).0.slots ≤ 15 * length input)

-- The encoding of a geometry without a fault spells its normal value, each geometry in the order of the options, the
-- outermost with their SRID and no other with one.
abbrev pub EncodingSpells : Type 0
EncodingSpells = (order : Endianness) (form : Form) (g : Geometry) → IsForm form → IsGeometry g → fault g ≡ None
    → (s : Spelling) × Spells s (normal g) (encoding order form g) × HasOptions order form s

-- The encoding of a geometry without a fault is read again as its normal value, in the order and with the SRID of the
-- options, whatever follows it, unless its collections are nested too deep.
abbrev pub WrittenIsRead : Type 0
WrittenIsRead =
    (order : Endianness) (form : Form) (g : Geometry) (rest : List ℕ) → IsForm form → IsGeometry g → fault g ≡ None
    → nest (normal g) ≤ max_nesting
    → (s : Spelling) × Front (encoding order form g ++ rest) s (normal g) rest × HasOptions order form s

-- The encoding of a geometry that a writer doesn't reject is read again as its normal value.
abbrev pub WritableIsRead : Type 0
WritableIsRead =
    (order : Endianness) (form : Form) (g : Geometry) (rest : List ℕ) → IsForm form → IsGeometry g
    → IsWritable order form g → nest (normal g) ≤ max_nesting
    → (s : Spelling) × Front (encoding order form g ++ rest) s (normal g) rest × HasOptions order form s

-- An encoding is as long as its geometry's size says, and four bytes longer where an SRID is written.
abbrev pub EncodingHasSize : Type 0
EncodingHasSize = (order : Endianness) (form : Form) (g : Geometry) → IsForm form → IsGeometry g → fault g ≡ None
    → length (encoding order form g) ≡ byte_size g + 4 * (if is_some (form_srid form) then 1 else 0)

-- An encoding has the same length in either order, and four bytes more where an SRID is written.
abbrev pub LengthOfEncoding : Type 0
LengthOfEncoding = (order other : Endianness) (form : Form) (g : Geometry) → IsForm form → IsGeometry g → fault g ≡ None
    → length (encoding order form g) ≡ length (encoding other Iso g) + 4 * (if is_some (form_srid form) then 1 else 0)

-- A geometry that was read is written in as many bytes, less four for each SRID in it.
abbrev pub LengthOfFront : Type 0
LengthOfFront =
    (order : Endianness) (input : List ℕ) (s : Spelling) (t : Value) (rest : List ℕ) → AreBytes input
    → (f : Front input s t rest)
    → length f.front ≡ length (encoding order Iso (geometry_of t)) + 4 * srid_count s

-- A value that was read is a lawful geometry that can be written, and its own normal value.
abbrev pub FrontIsWritable : Type 0
FrontIsWritable =
    (order : Endianness) (input : List ℕ) (s : Spelling) (t : Value) (rest : List ℕ) → AreBytes input
    → length input < 2 ^ 64 → Front input s t rest
    → IsGeometry (geometry_of t) × (normal (geometry_of t) ≡ t) × IsWritable order Iso (geometry_of t)

-- A value that was read can be written under EWKB without an SRID.
abbrev pub EwkbIsWritable : Type 0
EwkbIsWritable =
    (order : Endianness) (input : List ℕ) (s : Spelling) (t : Value) (rest : List ℕ) → AreBytes input
    → length input < 2 ^ 64 → Front input s t rest
    → IsWritable order (Ewkb None) (geometry_of t)

-- With any SRID it is rejected only for its size: where usize doesn't measure its encoding.
abbrev pub SizeIsRefused : Type 0
SizeIsRefused =
    (order : Endianness) (form : Form) (input : List ℕ) (s : Spelling) (t : Value) (rest : List ℕ) → AreBytes input
    → Front input s t rest
    → fault_under order form (geometry_of t) ≡ size_fault (length (encoding order form (geometry_of t)))

-- The SRID of its outermost geometry fits four bytes, and with it the value can be written.
abbrev pub OwnSridIsWritable : Type 0
OwnSridIsWritable =
    (order : Endianness) (input : List ℕ) (s : Spelling) (t : Value) (rest : List ℕ) → AreBytes input
    → length input < 2 ^ 64 → Front input s t rest
    → IsForm (Ewkb (header s).srid) × IsWritable order (Ewkb (header s).srid) (geometry_of t)

-- A rewriting is read as the value that it was made of, whatever follows it.
abbrev pub RewritingIsRead : Type 0
RewritingIsRead =
    (order : Endianness) (form : Form) (input : List ℕ) (s : Spelling) (t : Value) (rest more : List ℕ) → IsForm form
    → AreBytes input → Front input s t rest
    → (u : Spelling) × Front (encoding order form (geometry_of t) ++ more) u t more × HasOptions order form u

-- A rewriting is its own rewriting under the same options, and has no other.
abbrev pub RewritingIsFixed : Type 0
RewritingIsFixed =
    (order : Endianness) (form : Form) (input out : List ℕ) → IsForm form → AreBytes input
    → IsRewriting order form input out
    → IsRewriting order form out out × ((again : List ℕ) → IsRewriting order form out again → again ≡ out)

-- A rewriting with the SRID of its outermost geometry is its own rewriting of this sort, and has no other.
abbrev pub RewritingWithSridIsFixed : Type 0
RewritingWithSridIsFixed =
    (order : Endianness) (input out : List ℕ) → AreBytes input → IsRewritingWithSrid order input out
    → IsRewritingWithSrid order out out × ((again : List ℕ) → IsRewritingWithSrid order out again → again ≡ out)

-- Two inputs have equal values exactly where these are written alike.
abbrev pub EqualEncodings : Type 0
EqualEncodings = (order : Endianness) (form : Form) (a b : List ℕ) (s u : Spelling) (t v : Value) (rest more : List ℕ)
    → IsForm form → AreBytes a → AreBytes b → Front a s t rest → Front b u v more
    → (encoding order form (geometry_of t) ≡ encoding order form (geometry_of v)) ↔ (t ≡ v)

-- Two inputs are written alike under EWKB exactly where their values are equal and the same SRID, or none, is written.
abbrev pub EqualEncodingsWithSrid : Type 0
EqualEncodingsWithSrid =
    (order : Endianness) (i j : Option ℕ) (a b : List ℕ) (s u : Spelling) (t v : Value) (rest more : List ℕ)
    → IsForm (Ewkb i) → IsForm (Ewkb j) → AreBytes a → AreBytes b → Front a s t rest → Front b u v more
    → (encoding order (Ewkb i) (geometry_of t) ≡ encoding order (Ewkb j) (geometry_of v)) ↔ ((t ≡ v) × (i ≡ j))

-- Two inputs have equal values and equal outermost SRIDs exactly where they are written alike with their own SRIDs.
abbrev pub EqualEncodingsWithOwnSrid : Type 0
EqualEncodingsWithOwnSrid =
    (order : Endianness) (a b : List ℕ) (s u : Spelling) (t v : Value) (rest more : List ℕ) → AreBytes a → AreBytes b
    → Front a s t rest → Front b u v more
    → (encoding order (Ewkb (header s).srid) (geometry_of t) ≡ encoding order (Ewkb (header u).srid) (geometry_of v))
    ↔ ((t ≡ v) × ((header s).srid ≡ (header u).srid))

-- A dimension's name is its own.
abbrev pub NamedDimension : Type 0
NamedDimension = (d : Dimension) → named (as_dimensions d) ≡ Some d

-- Of two words that are numbers, the one whose rank is no higher is the number that is no greater.
abbrev pub RanksInOrder : Type 0
RanksInOrder =
    (v w : ℕ) → IsWord v → IsWord w → is_nan v ≡ false → is_nan w ≡ false → rank v ≤ rank w
    → from_bits binary64 v ≤ᶠ from_bits binary64 w
