-- The lemmas that speak of all inputs, to be cited. Each has the name of its statement in `Laws`, in small letters:
-- `has_one_front` is `HasOneFront`.
pub use Rattle.wkb_laws.proofs.OneFront.{one_front_lem as has_one_front}
pub use Rattle.wkb_laws.proofs.Rewritings.{rest_is_free_lem as rest_is_free, bytes_are_read_lem as bytes_are_read}
pub use Rattle.wkb_laws.proofs.Rewritings.{encoding_spells_lem as encoding_spells}
pub use Rattle.wkb_laws.proofs.Rewritings.{written_is_read_lem as written_is_read}
pub use Rattle.wkb_laws.proofs.Rewritings.{writable_is_read_lem as writable_is_read}
pub use Rattle.wkb_laws.proofs.Rewritings.{rewriting_is_read_lem as rewriting_is_read}
pub use Rattle.wkb_laws.proofs.Rewritings.{rewriting_is_fixed_lem as rewriting_is_fixed}
pub use Rattle.wkb_laws.proofs.Rewritings.{rewriting_with_srid_is_fixed_lem as rewriting_with_srid_is_fixed}
pub use Rattle.wkb_laws.proofs.Rewritings.{equal_encodings_lem as equal_encodings}
pub use Rattle.wkb_laws.proofs.Rewritings.{equal_encodings_with_srid_lem as equal_encodings_with_srid}
pub use Rattle.wkb_laws.proofs.Rewritings.{equal_encodings_with_own_srid_lem as equal_encodings_with_own_srid}
pub use Rattle.wkb_laws.proofs.Rewritings.{equal_spelled_lem as equal_spelled}
pub use Rattle.wkb_laws.proofs.Rewritings.{equal_spelled_with_srid_lem as equal_spelled_with_srid}
pub use Rattle.wkb_laws.proofs.Outcomes.{read_or_refused_lem as read_or_refused, never_both_lem as never_both}
pub use Rattle.wkb_laws.proofs.Outcomes.{one_refusal_lem as one_refusal, refused_outward_lem as refused_outward}
pub use Rattle.wkb_laws.proofs.Cut.{cut_is_refused_lem as cut_is_refused}
pub use Rattle.wkb_laws.proofs.GeometryAt.{geometry_agrees_lem as geometry_agrees, front_is_read_lem as front_is_read}
pub use Rattle.wkb_laws.proofs.GeometryAt.{refusal_is_read_lem as refusal_is_read}
pub use Rattle.wkb_laws.proofs.GeometryAt.{reading_is_bounded_lem as reading_is_bounded}
pub use Rattle.wkb_laws.proofs.Bounds.{front_is_bounded_lem as front_is_bounded}
pub use Rattle.wkb_laws.proofs.Bounds.{refusal_is_bounded_lem as refusal_is_bounded}
pub use Rattle.wkb_laws.proofs.EncodingSizes.{encoding_has_size_lem as encoding_has_size}
pub use Rattle.wkb_laws.proofs.Lengths.{length_of_encoding_lem as length_of_encoding}
pub use Rattle.wkb_laws.proofs.Lengths.{length_of_front_lem as length_of_front}
pub use Rattle.wkb_laws.proofs.Lengths.{front_is_writable_lem as front_is_writable}
pub use Rattle.wkb_laws.proofs.Lengths.{ewkb_is_writable_lem as ewkb_is_writable}
pub use Rattle.wkb_laws.proofs.Lengths.{size_is_refused_lem as size_is_refused}
pub use Rattle.wkb_laws.proofs.Lengths.{own_srid_is_writable_lem as own_srid_is_writable}
pub use Rattle.wkb_laws.proofs.Lengths.{spelled_is_writable_lem as spelled_is_writable}
pub use Rattle.wkb_laws.proofs.Values.{named_dimension_lem as named_dimension}
pub use Rattle.wkb_laws.proofs.Spelled.{in_full_lem as spelled_in_full, size_of_spelled_lem as size_of_spelled}
pub use Rattle.wkb_laws.proofs.OneEncoding.{one_encoding_lem as has_one_encoding, coordinates_lem as have_one_encoding}
pub use Rattle.wkb_laws.proofs.OneEncoding.{coordinate_lem as coordinate_has_one_encoding}
pub use Rattle.wkb_laws.proofs.PartsInPlace.{first_start_lem as first_start, next_start_lem as next_start}
pub use Rattle.wkb_laws.proofs.PartsInPlace.{first_ring_lem as first_ring_start, next_ring_lem as next_ring_start}
pub use Rattle.wkb_laws.proofs.PartsInPlace.{members_lem as members_stand, rings_lem as rings_stand}
pub use Rattle.wkb_laws.proofs.PartsInPlace.{members_in_place_lem as members_in_place}
pub use Rattle.wkb_laws.proofs.PartsInPlace.{rings_in_place_lem as rings_in_place, words_lem as words_stand}
pub use Rattle.wkb_laws.proofs.PartsInPlace.{line_string_words_lem as line_string_words_stand}
pub use Rattle.wkb_laws.proofs.Doubles.{in_order as ranks_in_order}
