pub mod Canonical
pub mod Checks
pub mod Coordinates
pub mod Prelude
pub mod Values
pub mod Spellings
pub mod Refusals
pub mod Geometries
mod PlainGeometry
mod LawfulPlain
pub mod Plain
pub mod Levels
pub mod Encodings
pub mod Reads
pub mod Writes
pub mod Laws
pub mod Known
pub mod Bridges
pub mod Handed
pub mod Kept
pub mod Lawful
pub mod Lent
pub mod Members
pub mod Offsets
pub mod Order
pub mod OwnBytes
pub mod Ranges
