-- Lemmas: which kind of view `as_type` of a geometry that was read hands out.
pub use Rattle.wkb_read.specs.Views.{Handed, handed_kind}
pub use Rattle.wkb_read.proofs.Handed.{kind_handed, not_point, not_line_string, not_polygon, not_multi_point}
pub use Rattle.wkb_read.proofs.Handed.{not_multi_line_string, not_multi_polygon, not_collection}
