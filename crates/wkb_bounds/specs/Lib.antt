pub mod Ranges
pub mod Extremes
pub mod Ordinates
pub mod Bounded
pub mod Runs
pub mod Within
pub mod Walking
