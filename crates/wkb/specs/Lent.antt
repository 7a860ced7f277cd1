-- Lemmas: where the bytes are that views lend, a member's in those of the whole, a ring's in those of its polygon.
pub use Rattle.wkb_view.specs.Lends.{IsRingAt}
pub use Rattle.wkb_view.proofs.Places.{point_is_member, line_string_is_member, polygon_is_member, member_stands}
pub use Rattle.wkb_view.proofs.Places.{next_member_stands, ring_stands, ring_word_stands, word_stands}
pub use Rattle.wkb_view.proofs.Places.{held_member_stands, held_ring_stands}
