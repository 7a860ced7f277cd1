pub mod Answers
pub mod Bodies
pub mod Counted
pub mod Measures
pub mod Prelude
