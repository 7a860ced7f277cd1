pub mod KeysFound
pub mod Rings
pub mod BoxesHold
pub mod Packages
pub mod Blobs
pub mod AllPoints
