-- Lemmas that join the clauses of calls to each other, so that no client proves it anew.
pub use Rattle.wkb_laws.proofs.Rewritings.{outer_srid as srid_of_options}
pub use Rattle.wkb_read.proofs.OwnBytes.{memory_or, member_of}
pub use Rattle.wkb_view.proofs.Places.{part_is_member, front_stands, rest_stands, stands_within, begins_there}
pub use Rattle.wkb_view.proofs.Places.{number_is_read}
pub use Rattle.wkb_view.proofs.ViewLaws.{parts_counted, members_counted, empty_point_read, point_read}
