mod Words
mod RowItems
mod Called
mod Encodings
mod LevelRows
mod Collecting
mod Gathering
