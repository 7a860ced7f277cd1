pub mod Prelude
pub mod AsWritten
pub mod Bodies
pub mod LastItem
pub mod NoMemory
pub mod NoSrids
pub mod Opens
pub mod Parts
pub mod Places
pub mod Results
pub mod Stack
mod Sums
pub mod Handed
pub mod OwnBytes
