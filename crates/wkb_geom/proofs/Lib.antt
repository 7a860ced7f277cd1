mod Layouts
pub mod Heads
pub mod Codes
pub mod Meanings
pub mod Faults
pub mod Items
pub mod Lawful
