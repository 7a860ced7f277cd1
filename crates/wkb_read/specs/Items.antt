-- The item that the view of a kind shows.
use Rattle.wkb_read.specs.Prelude.{Item, point_seen, line_string_seen, polygon_seen, multi_point_seen}
use Rattle.wkb_read.specs.Prelude.{multi_line_string_seen, multi_polygon_seen}
use Rattle.wkb_read.specs.Places.{collection_seen}
use Rattle.wkb_read.specs.declared.geometry.View.{View}
use Rattle.wkb_read.specs.declared.geometry.View.TheVariants.{Point, LineString, Polygon, MultiPoint, MultiLineString}
use Rattle.wkb_read.specs.declared.geometry.View.TheVariants.{MultiPolygon, GeometryCollection}

abbrev pub kind_seen : View → Item
kind_seen (Point p) = point_seen p
kind_seen (LineString l) = line_string_seen l
kind_seen (Polygon p) = polygon_seen p
kind_seen (MultiPoint m) = multi_point_seen m
kind_seen (MultiLineString m) = multi_line_string_seen m
kind_seen (MultiPolygon m) = multi_polygon_seen m
kind_seen (GeometryCollection c) = collection_seen c
