-- The numbers of the enums of wkb.h, which programs are compiled with.
use Rattle.std.specs.Prelude.{◌≡◌, ℕ, List, Option, Some}
use Rattle.wkb_check.specs.declared.pieces.TheConstants.{RING}
use Rattle.wkb_geom.specs.Codes.{thousands, dimension_of_thousands}
use Rattle.wkb_laws.specs.Prelude.{order_byte, Coordinate, Values, kind, point, line_string, polygon, multi_point}
use Rattle.wkb_laws.specs.Prelude.{multi_line_string, multi_polygon, collection, Dimension, Xy, Xyz, Xym, Xyzm, Cause}
use Rattle.wkb_geom.specs.declared.common.Endianness.TheVariants.{BigEndian, LittleEndian}
use Rattle.wkb_abi.specs.Classes.{IsRefusalStatus, IsShortStatus}
use Rattle.wkb_abi.specs.Statuses.{cause_status, cause_fault}
use Rattle.wkb_abi.specs.declared.numbers.TheConstants.{FIRST, SECOND, DIFFERENT, EQUAL}
use Rattle.wkb_abi.specs.declared.options.TheConstants.{BIG_ENDIAN, LITTLE_ENDIAN, ISO, EWKB_OWN_SRID, EWKB_WITH_SRID}
use Rattle.wkb_abi.specs.declared.options.TheConstants.{EWKB_WITHOUT_SRID}
use Rattle.wkb_abi.specs.declared.status.TheConstants.{INVALID_BYTE_ORDER, CODE_OUT_OF_RANGE, NESTING_DEPTH_EXCEEDED}
use Rattle.wkb_abi.specs.declared.status.TheConstants.{NO_ROOM, SHORT_LINE_STRING, SHORT_MULTI_POINT, SHORT_LINEAR_RING}
use Rattle.wkb_abi.specs.declared.status.TheConstants.{OK, UNKNOWN_OPTION, TOO_MANY_ROWS, SHORT_HEADER, INCORRECT_TYPE}
use Rattle.wkb_abi.specs.declared.status.TheConstants.{NO_MEMORY, NULL_ROW, BAD_OFFSETS, BAD_LEVELS, SHORT_POINT}

-- what a call returns
pub record HaveStatusNumbers : Type 0 where
  pub ok : OK ≡ 0
  pub no_memory : NO_MEMORY ≡ 1
  pub no_room : NO_ROOM ≡ 2
  pub unknown_option : UNKNOWN_OPTION ≡ 3
  pub too_many_rows : TOO_MANY_ROWS ≡ 4
  pub null_row : NULL_ROW ≡ 16
  pub bad_offsets : BAD_OFFSETS ≡ 17
  pub bad_levels : BAD_LEVELS ≡ 18
  pub short_header : SHORT_HEADER ≡ 32
  pub invalid_byte_order : INVALID_BYTE_ORDER ≡ 33
  pub code_out_of_range : CODE_OUT_OF_RANGE ≡ 34
  pub incorrect_type : INCORRECT_TYPE ≡ 35
  pub nesting_depth_exceeded : NESTING_DEPTH_EXCEEDED ≡ 36
  pub short_point : SHORT_POINT ≡ 48
  pub short_line_string : SHORT_LINE_STRING ≡ 49
  pub short_multi_point : SHORT_MULTI_POINT ≡ 50
  pub short_linear_ring : SHORT_LINEAR_RING ≡ 51

-- the orders and the forms of options
pub record HaveOptionNumbers : Type 0 where
  pub big_endian : BIG_ENDIAN ≡ 0
  pub little_endian : LITTLE_ENDIAN ≡ 1
  pub iso : ISO ≡ 0
  pub ewkb_own_srid : EWKB_OWN_SRID ≡ 1
  pub ewkb_with_srid : EWKB_WITH_SRID ≡ 2
  pub ewkb_without_srid : EWKB_WITHOUT_SRID ≡ 3

-- the kinds of parts
pub record HaveKindNumbers : Type 0 where
  pub ring : RING ≡ 0
  pub point_is : (d : Dimension) (c : Option Coordinate) → kind (point d c) ≡ 1
  pub line_string_is : (d : Dimension) (cs : List Coordinate) → kind (line_string d cs) ≡ 2
  pub polygon_is : (d : Dimension) (rings : List (List Coordinate)) → kind (polygon d rings) ≡ 3
  pub multi_point_is : (d : Dimension) (members : List (Option Coordinate)) → kind (multi_point d members) ≡ 4
  pub multi_line_string_is : (d : Dimension) (members : List (List Coordinate)) → kind (multi_line_string d members) ≡ 5
  pub multi_polygon_is : (d : Dimension) (members : List (List (List Coordinate))) → kind (multi_polygon d members) ≡ 6
  pub collection_is : (d : Dimension) (members : Values) → kind (collection d members) ≡ 7

-- their dimensions, whether reported or asked for
pub record HaveDimensionNumbers : Type 0 where
  pub xy : thousands Xy ≡ 0
  pub xyz : thousands Xyz ≡ 1
  pub xym : thousands Xym ≡ 2
  pub xyzm : thousands Xyzm ≡ 3
  pub named : (d : Dimension) → dimension_of_thousands (thousands d) ≡ Some d

-- their byte orders
pub record HaveOrderNumbers : Type 0 where
  pub big : order_byte BigEndian ≡ BIG_ENDIAN
  pub little : order_byte LittleEndian ≡ LITTLE_ENDIAN

-- which of two inputs is rejected, and whether they have one value
pub record HaveInputNumbers : Type 0 where
  pub first : FIRST ≡ 1
  pub second : SECOND ≡ 2
  pub different : DIFFERENT ≡ 0
  pub equal : EQUAL ≡ 1

-- each cause has a status of the class of refusals
abbrev pub AreRefusals : Type 0
AreRefusals = (cause : Cause) → IsRefusalStatus (cause_status cause)

-- only those that tell where the input ends too early have one of its last part
abbrev pub OthersTellNoEnd : Type 0
OthersTellNoEnd =
    (cause : Cause) (part offset : ℕ) → (IsShortStatus (cause_status cause) → ⊥)
    → ((cause_fault part offset cause).end ≡ 0) × ((cause_fault part offset cause).len ≡ 0)
