-- Why an input is rejected, and in which order.
pub use Rattle.wkb_geom.specs.Refusals.{srid_size, point_end, line_string_end, multi_point_end, ring_end, slots_asked}
pub use Rattle.wkb_geom.specs.Refusals.{room_inside, Opens, IsAllowed, OpensCounted, RefusesRings, no_ring_count}
pub use Rattle.wkb_geom.specs.Refusals.{short_ring, later_ring, Refuses, no_order_byte, bad_order_byte, no_code}
pub use Rattle.wkb_geom.specs.Refusals.{bad_code, wrong_part, too_deep, short_point, no_count, short_line_string}
pub use Rattle.wkb_geom.specs.Refusals.{short_multi_point, bad_ring, bad_member, RefusesEach, this_member, later_member}
