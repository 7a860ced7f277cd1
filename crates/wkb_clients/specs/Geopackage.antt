-- What a GeoPackage blob holds (OGC 12-128, clause 2.1.3).
use Rattle.std.specs.Prelude.{◌≡◌, ℕ, ◌+◌, ◌*◌, ◌/◌, ◌%◌, ◌<◌, ◌≤◌, List, [], ◌∷◌, ◌++◌, length, drop, slice_index}
use Rattle.std.specs.Prelude.{Bool, true, not, ◌&&◌, ◌==◌, ◌⊎◌, ◌^◌, false, nat_le, if◌then◌else◌, Option, Result}
use Rattle.std.specs.Prelude.{MatchOption, MatchResult, Vec}
use Rattle.std.specs.Global.{Global}
use Rattle.wkb.specs.Prelude.{Endianness, BigEndian, LittleEndian, number, is_nan, IsMemory, WkbError, order_byte}
use Rattle.wkb.specs.Prelude.{number_bytes, empty_word}
use Rattle.wkb.specs.Checks.{Range, Bounds, AreBounds, BoundsFront, rank}
use Rattle.wkb.specs.Reads.{IsFront, IsRefusal}
use Rattle.wkb_clients.specs.Common.{Item}
use Rattle.wkb_clients.specs.declared.geopackage.BlobHeader.{BlobHeader}
use Rattle.wkb_clients.specs.declared.geopackage.Package.{Package}
use Rattle.wkb_clients.specs.declared.geopackage.Unread.{Unread}
use Rattle.wkb_clients.specs.declared.geopackage.Unread.TheVariants as reasons

-- the byte of the flags: the order, three bits for the kind of the envelope, and whether the geometry is empty
abbrev pub flags : List ℕ → ℕ
flags blob = slice_index blob 3

abbrev pub order_said : ℕ → Endianness
order_said n = if n == 1 then LittleEndian else BigEndian

abbrev pub header_order : List ℕ → Endianness
header_order blob = order_said (flags blob % 2)

abbrev pub envelope_kind : List ℕ → ℕ
envelope_kind blob = flags blob / 2 % 8

-- where the geometry begins: behind eight bytes and an envelope of no, two, three or four axes
abbrev pub start_behind : ℕ → ℕ
start_behind kind =
    if kind == 0 then 8 else (if kind == 1 then 40 else (if kind == 2 then 56 else (if kind == 3 then 56 else 72)))

abbrev pub body_of : List ℕ → List ℕ
body_of blob = drop (start_behind (envelope_kind blob)) blob

-- The blob begins with "GP" and the version 0. No bit of a later use is set, the envelope is whole, and the header has
-- what the flags and the bytes behind them say.
pub record IsBlobHeader (blob : List ℕ) (h : BlobHeader) : Type 0 where
  pub g : slice_index blob 0 ≡ 71
  pub p : slice_index blob 1 ≡ 80
  pub version : slice_index blob 2 ≡ 0
  pub clear : flags blob < 32
  pub known : envelope_kind blob ≤ 4
  pub whole : start_behind (envelope_kind blob) ≤ length blob
  pub order : h.order ≡ header_order blob
  pub envelope : h.envelope ≡ envelope_kind blob
  pub empty : h.empty ≡ nat_le 16 (flags blob)
  pub srs : h.srs ≡ number h.order 4 (drop 4 blob)

abbrev pub HasNoBlobHeader : List ℕ → Type 0
HasNoBlobHeader blob = (h : BlobHeader) → IsBlobHeader blob h → ⊥

-- whether a word is a number at most another, in the order of numbers
abbrev pub is_number_at_most : ℕ → ℕ → Bool
is_number_at_most v w = not (is_nan v) && nat_le (rank v) (rank w)

-- Whether two words are numbers, at most the least and at least the greatest of a range. Where that has no number, as
-- on each axis of an empty geometry, they are NaNs.
abbrev pub is_around : Bool → ℕ → ℕ → ℕ → ℕ → Bool
is_around none low high least greatest =
    if none then is_nan low && is_nan high
    else is_number_at_most low least && (not (is_nan high) && nat_le (rank greatest) (rank high))

-- whether the two words at an offset are around the range
unfoldable pub axis_around : Endianness → List ℕ → ℕ → Range → Bool
axis_around order blob at r =
    is_around (r.count == 0) (number order 8 (drop at blob)) (number order 8 (drop (at + 8) blob)) r.least r.greatest

-- of z and m the envelope says nothing where the geometry has no number
abbrev pub other_around : Endianness → List ℕ → ℕ → Range → Bool
other_around order blob at r = if r.count == 0 then true else axis_around order blob at r

-- the axes behind x and y: z, m, or both
abbrev pub others_around : Endianness → ℕ → List ℕ → Bounds → Bool
others_around order kind blob b =
    if kind == 2 then other_around order blob 40 b.z
    else (if kind == 3 then other_around order blob 40 b.m
    else (if kind == 4 then other_around order blob 40 b.z && other_around order blob 56 b.m else true))

-- whether an envelope of this kind is around the bounds, on each axis that it has
abbrev pub envelope_around : Endianness → ℕ → List ℕ → Bounds → Bool
envelope_around order kind blob b =
    if kind == 0 then true
    else (axis_around order blob 8 b.x && axis_around order blob 24 b.y) && others_around order kind blob b

-- whether the code has a flag of EWKB, of which the WKB of ISO 13249-3 has none
abbrev pub is_ewkb : List ℕ → Bool
is_ewkb body = nat_le 5 (length body) && nat_le (2 ^ 29) (number (order_said (slice_index body 0)) 4 (drop 1 body))

-- The blob has this header, then an envelope around all numbers of the geometry, then the geometry, whose code is one
-- of ISO. The clause asks that of its members' codes, too, which aren't looked at here.
pub record HoldsGeometry (blob : List ℕ) (h : BlobHeader) (w : Item) : Type 0 where
  pub header : IsBlobHeader blob h
  pub iso : is_ewkb (body_of blob) ≡ false
  pub front : IsFront (body_of blob) w
  pub around : (b : Bounds) → AreBounds b w.value → envelope_around h.order h.envelope blob b ≡ true

abbrev pub HoldsNoGeometry : List ℕ → Type 0
HoldsNoGeometry blob = (h : BlobHeader) (w : Item) → HoldsGeometry blob h w → ⊥

-- There is a header and a geometry behind it, and the envelope isn't around its numbers.
pub record HasWrongEnvelope (blob : List ℕ) : Type 0 where
  pub header : BlobHeader
  pub is_header : IsBlobHeader blob header
  pub bounds : Bounds
  pub front : BoundsFront (body_of blob) bounds
  pub wrong : envelope_around header.order header.envelope blob bounds ≡ false

-- There is a header, and EWKB behind it.
pub record HoldsEwkb (blob : List ℕ) : Type 0 where
  pub header : BlobHeader
  pub is_header : IsBlobHeader blob header
  pub ewkb : is_ewkb (body_of blob) ≡ true

-- There is a header, and the error says why what is behind it is rejected, or that an allocation failed.
pub record IsNotRead (blob : List ℕ) (e : WkbError) : Type 0 where
  pub header : BlobHeader
  pub is_header : IsBlobHeader blob header
  pub why : IsMemory e ⊎ IsRefusal (body_of blob) e

-- the reason is true of the blob
abbrev pub IsWhy : List ℕ → Unread → Type 0
IsWhy blob reasons.Header = HasNoBlobHeader blob
IsWhy blob reasons.Envelope = HasWrongEnvelope blob
IsWhy blob reasons.Ewkb = HoldsEwkb blob
IsWhy blob (reasons.Geometry e) = IsNotRead blob e

-- an allocation failed
abbrev pub IsWantOfMemory : Unread → Type 0
IsWantOfMemory (reasons.Geometry e) = IsMemory e
IsWantOfMemory _ = ⊥

-- whatever package the blob holds is what is read of it, unless an allocation fails
abbrev pub GivesBack : List ℕ → Result Package Unread → Type 0
GivesBack blob r = (p : Package) → HoldsGeometry blob p.header p.geometry → MatchResult r (λ q. q ≡ p) IsWantOfMemory

-- ---- what is written

abbrev pub flags_of : BlobHeader → ℕ
flags_of h = order_byte h.order + 2 * h.envelope + (if h.empty then 16 else 0)

-- "GP", the version 0, the flags and the reference system
abbrev pub header_bytes : BlobHeader → List ℕ
header_bytes h = 71 ∷ 80 ∷ 0 ∷ flags_of h ∷ number_bytes h.order 4 h.srs

-- the word of an axis, and a NaN where it has no number
abbrev pub word_or_nan : Bool → ℕ → ℕ
word_or_nan none w = if none then empty_word else w

abbrev pub range_bytes : Endianness → Range → List ℕ
range_bytes order r =
    number_bytes order 8 (word_or_nan (r.count == 0) r.least)
    ++ number_bytes order 8 (word_or_nan (r.count == 0) r.greatest)

abbrev pub envelope_bytes : Endianness → ℕ → Bounds → List ℕ
envelope_bytes order kind b = if kind == 0 then [] else range_bytes order b.x ++ range_bytes order b.y

-- the blob holds the package, and is its header, the envelope of its geometry's bounds, and the geometry's bytes
pub record IsBlobOf (p : Package) (blob : List ℕ) : Type 0 where
  pub holds : HoldsGeometry blob p.header p.geometry
  pub bounds : Bounds
  pub bounded : AreBounds bounds p.geometry.value
  pub whole : blob
      ≡ header_bytes p.header ++ (envelope_bytes p.header.order p.header.envelope bounds ++ p.geometry.encoding)

-- what is found is that blob; none where the geometry is EWKB, or the envelope has more axes
abbrev pub FindsBlob : Package → Option (Vec ℕ Global) → Type 0
FindsBlob p found =
    MatchOption found ((1 < p.header.envelope) ⊎ (is_ewkb p.geometry.encoding ≡ true)) (λ blob. IsBlobOf p blob.items)
