pub mod OnesEach
pub mod Pieces
pub mod RingLaws
pub mod PolygonLaws
pub mod ColumnLaws
pub mod Floors
pub mod RowWrites
pub mod Scans
