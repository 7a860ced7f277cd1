-- Lemmas: members by their index, of a list, of a geometry that bytes spell, and of what `as_type` hands out.
pub use Rattle.wkb_view.proofs.Places.{item_found, item_missing, one_member, member_falls}
pub use Rattle.wkb_read.proofs.OwnBytes.{no_member}
pub use Rattle.wkb_view.proofs.ViewLaws.{items_lawful}
