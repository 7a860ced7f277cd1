-- The words that most files here need, passed on from one place. Declares nothing.
pub use Rattle.wkb.specs.Prelude.{width, IsMemory, AreBytes, number, Dimension, LittleEndian, Xy, Iso, WkbError}
pub use Rattle.wkb.specs.Values.{Coordinate, Value, polygon, Values, collection, kind, point, members}
pub use Rattle.wkb.specs.Spellings.{Front, max_nesting, Spelling, Spells, header}
pub use Rattle.wkb.specs.Reads.{Item, Reading, geometry_at, whole_of, Listed, HasNoFront, IsFront, members_spelled}
pub use Rattle.wkb.specs.Reads.{list_of_spellings, point_seen, polygon_seen, multi_polygon_seen, LinearRing, words_seen}
pub use Rattle.wkb.specs.Reads.{ring_seen, ring_dimension}
pub use Rattle.wkb.specs.Laws.{IsWordOf, IsMember, HoldsMember, HoldsRing, StandsAt, member_start, ring_start}
