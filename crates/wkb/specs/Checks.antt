-- The results of the check without allocation, and the bounds.
pub use Rattle.wkb_check.specs.Public.{Describes, DescribesFront, DescribesOnlyFront, IsRefusedFor, IsRefusedOnlyFor}
pub use Rattle.wkb_check.specs.Public.{Checks, IsBounded}
pub use Rattle.wkb_geom.specs.Counted.{coordinate_count}
pub use Rattle.wkb_geom.specs.Refusals.{left_in}
pub use Rattle.wkb_check.specs.declared.{answer.Summary.Summary, answer.Refused.Refused}
pub use Rattle.wkb_bounds.specs.Bounded.{on, AreBounds, BoundsFront, BoundsOnlyFront, FindsBounds, nothing}
pub use Rattle.wkb_bounds.specs.Ordinates.{Axis, x_axis, y_axis, z_axis, m_axis, axis_place, words_in, words_on}
pub use Rattle.wkb_bounds.specs.Ordinates.{words_of_each, words_on_each}
pub use Rattle.wkb_geom.specs.Ranks.{rank}
pub use Rattle.wkb_bounds.specs.Ranges.{lower, higher, no_numbers, with_number, with_word, widened, range_of}
pub use Rattle.wkb_bounds.specs.declared.{range.Range.Range, range.Bounds.Bounds}
pub use Rattle.wkb_geom.specs.Reading.{type_kind, type_dimension, type_of}
