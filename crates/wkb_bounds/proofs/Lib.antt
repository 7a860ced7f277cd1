pub mod Ranking
pub mod Runs
pub mod Widening
pub mod Words
pub mod Scanning
pub mod Within
