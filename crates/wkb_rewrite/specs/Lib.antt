pub mod Shares
pub mod Targets
pub mod Rewritings
pub mod Copies
