pub mod AllCoordinates
pub mod Calls
pub mod Kept
mod Ordinates
pub mod Ranges
mod Rewritings
pub mod Same
mod Visits
