-- Lemmas: what calls return for bytes that begin with a geometry, as those do that `buf` of a geometry returns.
pub use Rattle.wkb_read.proofs.Results.{only_front}
pub use Rattle.wkb_view.proofs.Fronts.{never_refused, one_geometry, one_item, one_listed, no_longer}
pub use Rattle.wkb_read.proofs.OwnBytes.{memory_alone, read_the_same, no_refusal, not_refused}
