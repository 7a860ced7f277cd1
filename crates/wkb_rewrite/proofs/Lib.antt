mod Held
mod ValueShares
pub mod Encodings
mod Spelled
mod Laying
mod Walks
mod Comparing
pub mod Measured
mod Encoded
mod Standing
mod Copying
