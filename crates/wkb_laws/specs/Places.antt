-- Where the parts of a geometry are in its bytes.
use Rattle.std.proofs.Common.{◌≡◌, ℕ, zero, suc, ◌+◌, ◌*◌, ◌≤◌, List, ◌++◌, length, drop, take, Some, slice_get, sum_by}
use Rattle.wkb_laws.specs.Prelude.{Endianness, Dimension, AreBytes, number, width, IsEach, Coordinate, Value, Values}
use Rattle.wkb_laws.specs.Prelude.{line_string, polygon, no_members, member, members, Spelling, node, Spellings}
use Rattle.wkb_laws.specs.Prelude.{no_spellings, spelling, header, has_srid, any, SpellsCoordinate, SpellsCoordinates}
use Rattle.wkb_laws.specs.Prelude.{Spells, SpellsEach, srid_size, ring_end, Item}
use Rattle.wkb_laws.specs.Encodings.{spelled_size}

-- A spelling and a value leave no byte open.
abbrev pub HasOneEncoding : Type 0
HasOneEncoding =
    (s : Spelling) (t : Value) (x y : List ℕ) → AreBytes x → AreBytes y → Spells s t x → Spells s t y → x ≡ y

-- A count and coordinates, as a line string or a ring has them, leave no byte open either.
abbrev pub HaveOneEncoding : Type 0
HaveOneEncoding = (order : Endianness) (d : Dimension) (cs : List Coordinate) (x y : List ℕ) → AreBytes x → AreBytes y
    → SpellsCoordinates order d cs x → SpellsCoordinates order d cs y → x ≡ y

-- One coordinate leaves no byte open.
abbrev pub CoordinateHasOneEncoding : Type 0
CoordinateHasOneEncoding =
    (order : Endianness) (d : Dimension) (c : Coordinate) (x y : List ℕ) → AreBytes x → AreBytes y
    → SpellsCoordinate order d c x → SpellsCoordinate order d c y → x ≡ y

-- how many bytes come before the parts of a geometry with a count: the order byte, the code, the SRID and the count
abbrev pub behind_count : Spelling → ℕ
behind_count s = 9 + srid_size (has_srid s)

-- the spelling and the value of this number
abbrev pub IsOneOf : ℕ → Spellings → Values → Spelling → Value → Type 0
IsOneOf zero (spelling s ss) (member t ts) s' t' = (s' ≡ s) × (t' ≡ t)
IsOneOf (suc k) (spelling s ss) (member t ts) s' t' = IsOneOf k ss ts s' t'
IsOneOf _ _ _ s' t' = ⊥

-- the member of this number of a geometry, by its spelling and its value
abbrev pub IsMember : ℕ → Spelling → Value → Spelling → Value → Type 0
IsMember k (node h words ss) t s' t' = IsOneOf k ss (members t) s' t'

-- the first k spellings, and the first k values
abbrev pub first_spellings : ℕ → Spellings → Spellings
first_spellings zero ss = no_spellings
first_spellings (suc k) no_spellings = no_spellings
first_spellings (suc k) (spelling s ss) = spelling s (first_spellings k ss)

abbrev pub first_values : ℕ → Values → Values
first_values zero ts = no_members
first_values (suc k) no_members = no_members
first_values (suc k) (member t ts) = member t (first_values k ts)

-- the bytes are those of the first k members, one after another
abbrev pub SpellsFirst : ℕ → Spelling → Value → List ℕ → Type 0
SpellsFirst k (node h words ss) t bytes = SpellsEach any (first_spellings k ss) (first_values k (members t)) bytes

-- the number of these bytes
abbrev pub first_size : ℕ → Spellings → Values → ℕ
first_size zero ss ts = 0
first_size (suc k) (spelling s ss) (member t ts) = spelled_size s t + first_size k ss ts
first_size (suc k) ss ts = 0

-- where the member of this number begins: after the count and the members before it
abbrev pub member_start : ℕ → Spelling → Value → ℕ
member_start k (node h words ss) t = behind_count (node h words ss) + first_size k ss (members t)

-- The first member begins where the count ends.
abbrev pub FirstStart : Type 0
FirstStart = (whole : Spelling) (value : Value) → member_start 0 whole value ≡ behind_count whole

-- A member begins where the one before it ends.
abbrev pub NextStart : Type 0
NextStart = (k : ℕ) (whole : Spelling) (value : Value) (s : Spelling) (t : Value) → IsMember k whole value s t
    → member_start (suc k) whole value ≡ member_start k whole value + spelled_size s t

-- where the ring of this number begins: after the count and the rings before it
abbrev pub ring_start : ℕ → Spelling → Dimension → List (List Coordinate) → ℕ
ring_start j s d rings = behind_count s + sum_by (λ cs. ring_end d (length cs)) (take j rings)

-- The first ring begins where the count ends.
abbrev pub FirstRingStart : Type 0
FirstRingStart =
    (s : Spelling) (d : Dimension) (rings : List (List Coordinate)) → ring_start 0 s d rings ≡ behind_count s

-- A ring begins where the one before it ends.
abbrev pub NextRingStart : Type 0
NextRingStart = (j : ℕ) (s : Spelling) (d : Dimension) (rings : List (List Coordinate)) (ring : List Coordinate)
    → slice_get rings j ≡ Some ring
    → ring_start (suc j) s d rings ≡ ring_start j s d rings + ring_end d (length ring)

-- the bytes of a part are those of the whole from an offset on
pub record StandsAt (start : ℕ) (part whole : List ℕ) : Type 0 where
  pub within : start + length part ≤ length whole
  pub is : take (length part) (drop start whole) ≡ part

-- A geometry's bytes are its head up to the count, those of the first k members, those of this one, and others. It
-- starts where the first k members end.
pub record HoldsMember (whole : Item) (k : ℕ) (part : Item) : Type 0 where
  pub start : ℕ
  pub head : List ℕ
  pub before : List ℕ
  pub after : List ℕ
  pub is : IsMember k whole.spelled whole.value part.spelled part.value
  pub spells : Spells part.spelled part.value part.encoding
  pub others : SpellsFirst k whole.spelled whole.value before
  pub parts : whole.encoding ≡ head ++ (before ++ (part.encoding ++ after))
  pub counted : length head ≡ behind_count whole.spelled
  pub start_is : start ≡ length head + length before
  pub place : start ≡ member_start k whole.spelled whole.value

-- Whatever spells a geometry with members holds the bytes of each.
abbrev pub MembersStand : Type 0
MembersStand = (whole : Item) (k : ℕ) (s : Spelling) (t : Value)
    → Spells whole.spelled whole.value whole.encoding → IsMember k whole.spelled whole.value s t
    → (bytes : List ℕ) × HoldsMember whole k (record { encoding = bytes; spelled = s; value = t })

-- A polygon's bytes are its head up to the count, those of j rings, those of this one, which are a count and its
-- coordinates in the polygon's order, and others. It starts where the j rings end.
pub record HoldsRing (whole : Item) (j : ℕ) (ring : List Coordinate) : Type 0 where
  pub start : ℕ
  pub head : List ℕ
  pub before : List ℕ
  pub bytes : List ℕ
  pub after : List ℕ
  pub dimension : Dimension
  pub rings : List (List Coordinate)
  pub value_is : whole.value ≡ polygon dimension rings
  pub is : slice_get rings j ≡ Some ring
  pub spells : SpellsCoordinates (header whole.spelled).order dimension ring bytes
  pub others : IsEach (SpellsCoordinates (header whole.spelled).order dimension) (take j rings) before
  pub parts : whole.encoding ≡ head ++ (before ++ (bytes ++ after))
  pub counted : length head ≡ behind_count whole.spelled
  pub start_is : start ≡ length head + length before
  pub place : start ≡ ring_start j whole.spelled dimension rings

-- Whatever spells a polygon holds the bytes of each ring.
abbrev pub RingsStand : Type 0
RingsStand = (whole : Item) (d : Dimension) (rings : List (List Coordinate)) (j : ℕ) (ring : List Coordinate)
    → Spells whole.spelled whole.value whole.encoding → whole.value ≡ polygon d rings → slice_get rings j ≡ Some ring
    → HoldsRing whole j ring

-- The bytes that spell a member are those of the whole at its place, and no others.
abbrev pub MembersInPlace : Type 0
MembersInPlace = (whole : Item) (k : ℕ) (part : Item) → AreBytes whole.encoding → AreBytes part.encoding
    → Spells whole.spelled whole.value whole.encoding → Spells part.spelled part.value part.encoding
    → IsMember k whole.spelled whole.value part.spelled part.value
    → StandsAt (member_start k whole.spelled whole.value) part.encoding whole.encoding

-- The bytes that spell a ring are those of its polygon at the ring's place, in the polygon's order.
abbrev pub RingsInPlace : Type 0
RingsInPlace =
    (whole : Item) (d : Dimension) (rings : List (List Coordinate)) (j : ℕ) (ring : List Coordinate) (bytes : List ℕ)
    → AreBytes whole.encoding → AreBytes bytes
    → Spells whole.spelled whole.value whole.encoding → SpellsCoordinates (header whole.spelled).order d ring bytes
    → whole.value ≡ polygon d rings → slice_get rings j ≡ Some ring
    → StandsAt (ring_start j whole.spelled d rings) bytes whole.encoding

-- the word of this number of the coordinate of this number
pub record IsWordOf (coordinates : List Coordinate) (i n w : ℕ) : Type 0 where
  pub coordinate : Coordinate
  pub coordinate_is : slice_get coordinates i ≡ Some coordinate
  pub word_is : slice_get coordinate n ≡ Some w

-- After the four bytes of a count, word n of coordinate i is the number eight bytes a word further on.
abbrev pub WordsStand : Type 0
WordsStand = (order : Endianness) (d : Dimension) (cs : List Coordinate) (bytes rest : List ℕ) (i n w : ℕ)
    → SpellsCoordinates order d cs bytes → IsWordOf cs i n w
    → number order 8 (drop (4 + 8 * (width d * i + n)) (bytes ++ rest)) ≡ w

-- A word of a line string stands after its count, in its order.
abbrev pub LineStringWordsStand : Type 0
LineStringWordsStand = (s : Spelling) (d : Dimension) (cs : List Coordinate) (bytes rest : List ℕ) (i n w : ℕ)
    → Spells s (line_string d cs) bytes → IsWordOf cs i n w
    → number (header s).order 8 (drop (behind_count s + 8 * (width d * i + n)) (bytes ++ rest)) ≡ w
