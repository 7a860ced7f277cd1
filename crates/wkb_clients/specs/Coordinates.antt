-- All coordinates of a value, and the multi point that has a point at each of them.
use Rattle.std.specs.Prelude.{◌≡◌, ◌⊎◌, ◌≤◌, ◌^◌, ℕ, List, [], map, length, Option, Some, MatchOption, Vec}
use Rattle.std.specs.Global.{Global}
use Rattle.wkb.specs.Prelude.{as_dimensions, WkbError, IsMemory}
use Rattle.wkb.specs.Values.{Value, multi_point, dimension}
use Rattle.wkb.specs.Coordinates.{coordinates_of, HasOnly}
use Rattle.wkb.specs.Spellings.{Spelling, Front}
use Rattle.wkb.specs.Geometries.{Geometry, normal_point}
use Rattle.wkb.specs.Geometries.{multi_point as points_of}
use Rattle.wkb.specs.Encodings.{encoding_of, fault_of}
use Rattle.wkb.specs.Writes.{WriteOptions, Reports}

-- a collection in the value has a member of another dimension
abbrev pub HasOther : Value → Type 0
HasOther t = HasOnly (dimension t) t → ⊥

-- the multi point with a point at each coordinate of the value, in its dimension
abbrev pub points_meant : Value → Geometry
points_meant t = points_of (as_dimensions (dimension t)) (map (λ c. Some c) (coordinates_of t))

-- The bytes are that multi point's encoding under the options, and are read as it, with nothing behind: bit for bit,
-- but for a coordinate of NaNs, which is read as an empty point.
pub record IsMultiPointOf (options : WriteOptions) (t : Value) (bytes : List ℕ) : Type 0 where
  pub encoding_is : bytes ≡ encoding_of options (points_meant t)
  pub spelling : Spelling
  pub read : Front bytes spelling
      (multi_point (dimension t) (map (λ c. normal_point (Some c)) (coordinates_of t))) []

-- what is found is that encoding, or nothing if a member has another dimension
abbrev pub FindsPoints : WriteOptions → Value → Option (Vec ℕ Global) → Type 0
FindsPoints options t found = MatchOption found (HasOther t) (λ bytes. IsMultiPointOf options t bytes.items)

-- there are more points than a count of four bytes can say, and the error is the one of the writer
pub record HasTooMany (options : WriteOptions) (t : Value) (e : WkbError) : Type 0 where
  pub many : 2 ^ 32 ≤ length (coordinates_of t)
  pub reports : Reports e (fault_of options (points_meant t))

-- an allocation failed, or there are too many points
abbrev pub IsWantOfRoom : WriteOptions → Value → WkbError → Type 0
IsWantOfRoom options t e = IsMemory e ⊎ HasTooMany options t e
