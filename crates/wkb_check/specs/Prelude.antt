-- The words of pieces and of what is found, passed on from one place. Declares nothing.
pub use Rattle.wkb_check.specs.declared.{answer.Refused.Refused, answer.Summary.Summary, pieces.Piece.Piece}
pub use Rattle.wkb_check.specs.declared.walk.Walk.{Walk}
pub use Rattle.wkb_check.specs.Inputs.{IsAccepted, HaveOneValue, HaveTwoValues}
pub use Rattle.wkb_check.specs.Known.{HasGeometry, HasGeometries, AreWhole, decoded_rings}
pub use Rattle.wkb_check.specs.Passes.{open_counts, IsFollowed, Passes, tally, weight}
pub use Rattle.wkb_check.specs.Pieces.{count_of, leading, IsPieceAt, own_end, piece_of, ring_piece, piece_at, last_end}
pub use Rattle.wkb_check.specs.Pieces.{first_rings, Steps, subject_pieces, IsAhead, IsTaken, OnlyMember, HeaderIs}
pub use Rattle.wkb_check.specs.Pieces.{bytes_left, pieces_of, IsInside}
pub use Rattle.wkb_check.specs.Public.{DescribesFront, Checks}
pub use Rattle.wkb_check.specs.Subjects.{Subject, whole, ring, dimension_in, subject_coordinates, subjects, order_in}
pub use Rattle.wkb_check.specs.Subjects.{SpellsSubject, subjects_of_each, subjects_of_rings, rings_of}
pub use Rattle.wkb_check.specs.Walked.{inside_walked, Tally, onward, ahead_of, Walked, walked, coordinates_by}
pub use Rattle.wkb_check.specs.Walked.{item_coordinates, rings_walked, members_walked, type_walked, body_walked}
