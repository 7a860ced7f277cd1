pub mod Collections
pub mod NextPart
