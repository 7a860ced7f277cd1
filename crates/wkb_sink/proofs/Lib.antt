pub mod Appended
pub mod Behind
pub mod Laid
pub mod Lengths
pub mod Prelude
pub mod Steps
pub mod Stores
pub mod Turned
