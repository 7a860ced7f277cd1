-- One geometry whose members are the geometries that the rows of a column begin with.
use Rattle.std.specs.Prelude.{◌≡◌, ℕ, suc, ◌<◌, ◌≤◌, List, ◌++◌, length, Option, Some, None, false, drop, nat_lt, ◌||◌}
use Rattle.std.specs.Prelude.{if◌then◌else◌}
use Rattle.wkb_geom.specs.declared.code.TheConstants.{MULTI_POINT, GEOMETRY_COLLECTION}
use Rattle.wkb_laws.specs.Prelude.{WkbType, Dimension, encodings, FrontWithin, max_nesting, geometries_of}
use Rattle.wkb_geom.specs.Reading.{type_of, type_kind, type_dimension}
use Rattle.wkb_geom.specs.Spellings.{Spelling, Wanted, IsPart, member_part}
use Rattle.wkb_geom.specs.Values.{Value, Values, no_members, member, kind, dimension, members, count, nest}
use Rattle.wkb_check.specs.Public.{member_room}
use Rattle.wkb_rewrite.specs.Targets.{encoding_for}
use Rattle.wkb_sink.specs.Options.{inner_options, counted_header}
use Rattle.wkb_sink.specs.declared.options.WriteOptions.{WriteOptions}
use Rattle.wkb_abi.specs.Classes.{IsRowStatus}
use Rattle.wkb_abi.specs.Columns.{IsRow, LacksRow}
use Rattle.wkb_geom.specs.Codes.{dimension_of_thousands}
use Rattle.wkb_abi.specs.Requests.{request_of, options_for}
use Rattle.wkb_abi.specs.RowItems.{RowHas}
use Rattle.wkb_abi.specs.Statuses.{IsFaultWithin, IsStatusOfWriting, plain_fault}
use Rattle.wkb_c.specs.declared.collect.CollectTarget.{CollectTarget}
use Rattle.wkb_abi.specs.declared.{column.Column.Column, fault.WkbFault.WkbFault, options.Options.Options}
use Rattle.wkb_abi.specs.declared.{options.Request.Request, status.TheConstants.INCORRECT_TYPE}
use Rattle.wkb_abi.specs.declared.status.TheConstants.{TOO_MANY_ROWS}

-- what a kind, a dimension and a request ask for together; no row's own SRID is written
abbrev pub collect_with : ℕ → Option Dimension → Option Request → Option CollectTarget
collect_with kind (Some d) (Some request) =
    Some (record { kind = kind; dimension = d; options = options_for request None })
collect_with kind (Some d) None = None
collect_with kind None request = None

-- what the numbers ask for, where each means something; only these kinds have members
abbrev pub collect_asked : ℕ → ℕ → Options → Option CollectTarget
collect_asked kind dimension o =
    if nat_lt kind MULTI_POINT || nat_lt GEOMETRY_COLLECTION kind then None
    else collect_with kind (dimension_of_thousands dimension) (request_of o)

-- these numbers ask for this
pub record IsAsked (k n : ℕ) (o : Options) (target : CollectTarget) : Type 0 where
  pub low : MULTI_POINT ≤ k
  pub high : k ≤ GEOMETRY_COLLECTION
  pub kind_is : target.kind ≡ k
  pub named : dimension_of_thousands n ≡ Some target.dimension
  pub request : Request
  pub asked : request_of o ≡ Some request
  pub options_are : target.options ≡ options_for request None

-- ---- members

-- the bytes begin with this value, which is a member that is wanted once its SRID is dropped
pub record BeginsWithMember (w : Wanted) (row : List ℕ) (t : Value) : Type 0 where
  pub s : Spelling
  pub rest : List ℕ
  pub front : FrontWithin member_room row s t rest
  pub wanted : IsPart w (kind t) (dimension t) false

-- the rows from row i on begin with these members, one a row and in order
abbrev pub AreRowMembers : Column → Wanted → ℕ → Values → Type 0
AreRowMembers c w i no_members = Unit {0}
AreRowMembers c w i (member t ts) = RowHas (BeginsWithMember w) c i t × AreRowMembers c w (suc i) ts

-- each of the rows below this number begins with a member
pub record HaveMembers (c : Column) (w : Wanted) (rows : ℕ) : Type 0 where
  pub values : Values
  pub many : count values ≡ rows
  pub are : AreRowMembers c w 0 values

-- ---- what is written

-- This is the encoding of the value that has this kind and this dimension and the members of these rows, one a row and
-- in order.
pub record IsCollected (c : Column) (rows k d : ℕ) (o : Options) (encoding : List ℕ) : Type 0 where
  pub value : Value
  pub kind_is : kind value ≡ k
  pub dimension_is : dimension_of_thousands d ≡ Some (dimension value)
  pub many : count (members value) ≡ rows
  pub are : AreRowMembers c (member_part k (dimension value)) 0 (members value)
  pub shallow : nest value ≤ max_nesting
  pub request : Request
  pub asked : request_of o ≡ Some request
  pub written : encoding ≡ encoding_for (options_for request None) value

-- ---- what is rejected

-- the bytes begin with a geometry that is no member, and this status and this fault say so
pub record IsUnwanted (w : Wanted) (row : List ℕ) (status : ℕ) (fault : WkbFault) : Type 0 where
  pub s : Spelling
  pub t : Value
  pub rest : List ℕ
  pub front : FrontWithin member_room row s t rest
  pub unwanted : IsPart w (kind t) (dimension t) false → ⊥
  pub status_is : status ≡ INCORRECT_TYPE
  pub fault_is : fault ≡ plain_fault INCORRECT_TYPE 0 0

-- row i begins with no member, and this status and this fault say why; where it has no bytes, only the status does
pub data IsUnfit (c : Column) (w : Wanted) (i status : ℕ) (fault : WkbFault) : Type 0 where
  no_row : LacksRow c i status → IsUnfit c w i status fault
  refused : (row : List ℕ) → IsRow c i row → IsFaultWithin member_room row status fault → IsUnfit c w i status fault
  no_member : (row : List ℕ) → IsRow c i row → IsUnwanted w row status fault → IsUnfit c w i status fault

-- row i is the first of these rows that begins with no member
pub record IsFirstUnfit (c : Column) (w : Wanted) (rows i status : ℕ) (fault : WkbFault) : Type 0 where
  pub below : i < rows
  pub before : HaveMembers c w i
  pub unfit : IsUnfit c w i status fault

-- row i is the first that begins with no member of a geometry of this kind and this dimension
pub record IsFirstUnfitFor (k d : ℕ) (c : Column) (rows i status : ℕ) (fault : WkbFault) : Type 0 where
  pub named : Dimension
  pub named_is : dimension_of_thousands d ≡ Some named
  pub first : IsFirstUnfit c (member_part k named) rows i status fault

-- what a call returns that collects rows
pub data IsStatusOfCollecting (status : ℕ) : Type 0 where
  writes : IsStatusOfWriting status → IsStatusOfCollecting status
  has_too_many : status ≡ TOO_MANY_ROWS → IsStatusOfCollecting status
  lacks_row : IsRowStatus status → IsStatusOfCollecting status

-- ---- how it is found

-- which members a target takes
abbrev pub part_of : CollectTarget → Wanted
part_of target = member_part target.kind target.dimension

-- the target takes a geometry of this type as a member, once its SRID is dropped
abbrev pub TakesMember : CollectTarget → WkbType → Type 0
TakesMember target t = IsPart (part_of target) (type_kind t) (type_dimension t) false

-- the options of a target's members
abbrev pub inner_of : CollectTarget → WriteOptions
inner_of target = inner_options target.options

-- the header and the count of the whole
abbrev pub front_of : CollectTarget → ℕ → List ℕ
front_of target rows = counted_header target.options (type_of target.kind target.dimension) rows

-- the encodings of members, one after another
abbrev pub inside_of : CollectTarget → Values → List ℕ
inside_of target ts = encodings (inner_of target).endianness (inner_of target).form (geometries_of ts)

-- where a slice has room for the bytes, they are laid at its start, and nothing else changes
abbrev pub LaysIfFits : List ℕ → List ℕ → List ℕ → Type 0
LaysIfFits before after bytes = length bytes ≤ length before → after ≡ bytes ++ drop (length bytes) before

-- the bytes begin with a member, whose encoding is this long and is laid where it fits
pub record WritesMember (target : CollectTarget) (before after row : List ℕ) (size : ℕ) : Type 0 where
  pub t : Value
  pub begins : BeginsWithMember (part_of target) row t
  pub size_is : size ≡ length (encoding_for (inner_of target) t)
  pub short : size ≤ length row
  pub laid : LaysIfFits before after (encoding_for (inner_of target) t)

-- the encodings of the members that these rows begin with are together this long
pub record AreMeasured (c : Column) (target : CollectTarget) (rows size : ℕ) : Type 0 where
  pub have : HaveMembers c (part_of target) rows
  pub size_is : size ≡ length (inside_of target have.values)
  pub short : size ≤ length c.bytes.now

-- and are laid where they fit
pub record WritesMembers (c : Column) (target : CollectTarget) (rows : ℕ) (before after : List ℕ) (size : ℕ)
    : Type 0 where
  pub measured : AreMeasured c target rows size
  pub laid : LaysIfFits before after (inside_of target measured.have.values)

-- this is the front of the whole, and behind it the encodings of the members that these rows begin with
pub record IsWhole (c : Column) (target : CollectTarget) (rows : ℕ) (encoding : List ℕ) : Type 0 where
  pub have : HaveMembers c (part_of target) rows
  pub encoding_is : encoding ≡ front_of target rows ++ inside_of target have.values
