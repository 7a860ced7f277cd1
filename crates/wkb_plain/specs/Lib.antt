pub mod Runs
pub mod Kinds
pub mod Lawful
