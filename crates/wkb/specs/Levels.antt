-- What columns of coordinates mean: their levels, their rows, and what becomes of a row that is written.
pub use Rattle.wkb_levels.specs.declared.{ends.Ends.Ends, levels.Levels.Levels, levels.Place.Place, rings.Rings.Rings}
pub use Rattle.wkb_levels.specs.declared.{points.Points.Points, polygons.Polygons.Polygons, single.Single.Single}
pub use Rattle.wkb_levels.specs.declared.{row.Row.Row, row.Kind.Kind, rows.Rows.Rows, write.Written.Written}
pub use Rattle.wkb_levels.specs.declared.ends.Ends.TheVariants as ends
pub use Rattle.wkb_levels.specs.declared.single.Single.TheVariants as singles
pub use Rattle.wkb_levels.specs.declared.row.Row.TheVariants as rows
pub use Rattle.wkb_levels.specs.declared.row.Kind.TheVariants as column_kinds
pub use Rattle.wkb_levels.specs.declared.write.Written.TheVariants as written
pub use Rattle.wkb_levels.specs.Cuts.{start_at, AreEnds, AreOnes, pieces_from, only, only_each}
pub use Rattle.wkb_levels.specs.EndLists.{start_of, ends_of, begin_of, AreEndsWithin}
pub use Rattle.wkb_levels.specs.RingLists.{rings_in, rings_dimensions, rings_rings, FitWords, FitRings}
pub use Rattle.wkb_levels.specs.PointLists.{points_dimensions, points_points}
pub use Rattle.wkb_levels.specs.PolygonLists.{polygons_of, polygons_dimensions, polygons_polygons}
pub use Rattle.wkb_levels.specs.Columns.{column_rings, column_singles, row_begin, row_end, singles_of, AreEndsBetween}
pub use Rattle.wkb_levels.specs.Columns.{AreRowLevels, rings_begin, rings_end, coordinates_begin, coordinates_end}
pub use Rattle.wkb_levels.specs.Columns.{AreItems, SpansSingles, SpansRings, SpansCoordinates, EndUpTo, IsClear}
pub use Rattle.wkb_levels.specs.Columns.{IsLevelFloor, IsFloor}
pub use Rattle.wkb_levels.specs.RowsLeft.{AreAllRows, IsPast, GivesRow}
pub use Rattle.wkb_levels.specs.Columns.{spanned, AreFromLast}
pub use Rattle.wkb_levels.proofs.Scans.{no_item_twice}
pub use Rattle.wkb_levels.specs.Meant.{single_dimensions, single_meant, row_meant, rings_meant, kind_meant, IsLevelRow}
pub use Rattle.wkb_levels.specs.Meant.{HasNoLevelRow, FindsRow}
pub use Rattle.wkb_levels.specs.RowWrites.{HasRowEncoding, IsRowWrite}
