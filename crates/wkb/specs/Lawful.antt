-- Lemmas: the views of what was read are lawful. For a type of one's own that holds one, and shows what the view shows.
pub use Rattle.wkb_view.proofs.ViewLaws.{coord_view_lawful, ring_view_lawful, point_view_lawful, members_view_lawful}
pub use Rattle.wkb_view.proofs.ViewLaws.{line_string_view_lawful, multi_point_view_lawful, parts_view_lawful}
pub use Rattle.wkb_view.proofs.ViewLaws.{x_is_there, y_is_there, word_is_there, has_two}
