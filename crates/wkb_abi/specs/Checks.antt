-- What `wkb_check` reports of the geometry at the start of an input.
use Rattle.std.specs.Prelude.{◌≡◌, ◌≢◌, ℕ, suc, List, length, is_some, unwrap_or}
use mir.Val.{bool_byte as from_bool}
use Rattle.wkb_laws.specs.Prelude.{thousands, width, order_byte, Value, kind, dimension, member_count, Spelling, header}
use Rattle.wkb_geom.specs.Fronts.{Front}
use Rattle.wkb_geom.specs.Counted.{coordinate_count}
use Rattle.wkb_check.specs.Pieces.{count_of, leading}
use Rattle.wkb_abi.specs.declared.{fault.WkbFault.WkbFault, found.Found.Found, status.TheConstants.OK}
use Rattle.wkb_abi.specs.declared.status.TheConstants.{NO_MEMORY}
use Rattle.wkb_bounds.specs.Bounded.{BoundsFront}
use Rattle.wkb_bounds.specs.declared.range.Bounds.{Bounds}
use Rattle.wkb_abi.specs.Statuses.{IsFault}

-- the input begins with a geometry, and these are its numbers
pub record IsFound (input : List ℕ) (found : Found) : Type 0 where
  pub s : Spelling
  pub t : Value
  pub rest : List ℕ
  pub front : Front input s t rest
  pub size_is : found.size ≡ length front.front
  pub parts_are : found.parts ≡ suc (member_count t)
  pub coordinates_are : found.coordinates ≡ coordinate_count t
  pub offset_is : found.offset ≡ leading (header s) t
  pub count_is : found.count ≡ count_of t
  pub kind_is : found.kind ≡ kind t
  pub dimension_is : found.dimension ≡ thousands (dimension t)
  pub width_is : found.width ≡ width (dimension t)
  pub has_srid_is : found.has_srid ≡ from_bool (is_some (header s).srid)
  pub srid_is : found.srid ≡ unwrap_or (header s).srid 0
  pub order_is : found.order ≡ order_byte (header s).order

-- the entry of a row without a geometry
abbrev pub all_zeros : Found
all_zeros = record {
  size = 0;
  parts = 0;
  coordinates = 0;
  offset = 0;
  count = 0;
  srid = 0;
  has_srid = 0;
  kind = 0;
  dimension = 0;
  width = 0;
  order = 0;
}

-- what a call does that reports the geometry at the start of an input, or why there is none
pub record TellsFound (input : List ℕ) (before after : Found) (fault fault' : WkbFault) (status : ℕ) : Type 0 where
  pub accepted : status ≡ OK → IsFound input after
  pub refused : status ≢ OK → IsFault input status fault'
  pub no_memory : status ≢ NO_MEMORY
  pub found_kept : status ≢ OK → after ≡ before
  pub fault_kept : status ≡ OK → fault' ≡ fault

-- the effect of a call that lays the bounds of the geometry at the start of an input, or reports its error
pub record TellsBounds (input : List ℕ) (before after : Bounds) (fault fault' : WkbFault) (status : ℕ) : Type 0 where
  pub accepted : status ≡ OK → BoundsFront input after
  pub refused : status ≢ OK → IsFault input status fault'
  pub no_memory : status ≢ NO_MEMORY
  pub bounds_kept : status ≢ OK → after ≡ before
  pub fault_kept : status ≡ OK → fault' ≡ fault
