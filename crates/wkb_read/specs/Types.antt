-- The kind of a value.
use Rattle.wkb_read.specs.Prelude.{Value, polygon, multi_line_string, multi_polygon, collection}
use Rattle.wkb_geom.specs.Values.{point, line_string, multi_point}
use Rattle.wkb_read.specs.declared.geometry_type.GeometryType.{GeometryType}
use Rattle.wkb_read.specs.declared.geometry_type.GeometryType.TheVariants.{Polygon, MultiLineString, GeometryCollection}
use Rattle.wkb_read.specs.declared.geometry_type.GeometryType.TheVariants.{Point, LineString, MultiPoint, MultiPolygon}

-- the kind that a value has, as the reader names it
abbrev pub geometry_type_of : Value → GeometryType
geometry_type_of (point d c) = Point
geometry_type_of (line_string d cs) = LineString
geometry_type_of (polygon d rings) = Polygon
geometry_type_of (multi_point d points) = MultiPoint
geometry_type_of (multi_line_string d lines) = MultiLineString
geometry_type_of (multi_polygon d polygons) = MultiPolygon
geometry_type_of (collection d ts) = GeometryCollection

-- a geometry of this value is kept with a list: of the ends of its rings or line strings, of its polygons or members
abbrev pub IsListed : Value → Type 0
IsListed (point d c) = ⊥
IsListed (line_string d cs) = ⊥
IsListed (multi_point d points) = ⊥
IsListed _ = Unit {0}
