pub mod Blocks
pub mod Held
pub mod Options
pub mod Progress
pub mod Puts
pub mod Runs
pub mod Sinks
