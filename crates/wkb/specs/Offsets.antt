-- Lemmas: what the reader's clauses say of the geometry at an offset in a blob, and of its words.
pub use Rattle.wkb_read.specs.Reads.{BeginsAt}
pub use Rattle.wkb_read.proofs.OwnBytes.{begins_at, none_begins_at}
pub use Rattle.wkb_view.proofs.Places.{no_word, no_word_there}
