-- What `as_type` of a geometry of any kind returns: the view of its kind, or the members of a collection.
use Rattle.std.specs.Prelude.{◌≡◌, List, ℕ}
use Rattle.wkb_read.specs.Prelude.{Coordinate, Values, Listed, Item, point_seen, line_string_seen, polygon_seen}
use Rattle.wkb_read.specs.Prelude.{multi_point_seen, multi_line_string_seen, multi_polygon_seen}
use Rattle.wkb_geom.specs.declared.geom.GeometryType.{GeometryType}
use Rattle.wkb_geom.specs.declared.geom.GeometryType.TheVariants.{Point, LineString, Polygon, MultiPoint}
use Rattle.wkb_geom.specs.declared.geom.GeometryType.TheVariants.{MultiLineString, MultiPolygon, GeometryCollection}
use Rattle.wkb_view.specs.declared.point.Point as views
use Rattle.wkb_view.specs.declared.line_string.LineString as lines
use Rattle.wkb_view.specs.declared.multi_point.MultiPoint as points
use Rattle.wkb_read.specs.Places.{collection_seen, AreMembers}

-- a collection with these members, which is this geometry
pub record IsCollectionOf (w : Item) (members : List Item) : Type 0 where
  pub whole : Listed Values
  pub is : collection_seen whole ≡ w
  pub all : AreMembers whole members

-- What `as_type` of a geometry of any kind hands out.
abbrev pub Handed : Type 0 → Type 0 → Type 0 → Type 0
Handed R T N =
    GeometryType views.Point lines.LineString (Listed (List (List Coordinate))) points.MultiPoint
    (Listed (List (List Coordinate)))
    (Listed (List (List (List Coordinate)))) Item R T N

-- The kind of what was handed out, from 1 for a point; the last three of the type are never handed out.
abbrev pub handed_kind : {R T N : Type 0} → Handed R T N → ℕ
handed_kind (Point p) = 1
handed_kind (LineString l) = 2
handed_kind (Polygon p) = 3
handed_kind (MultiPoint m) = 4
handed_kind (MultiLineString m) = 5
handed_kind (MultiPolygon m) = 6
handed_kind (GeometryCollection gs) = 7
handed_kind _ = 0

-- the view is the geometry's: it has its bytes, its spelling and its value
abbrev pub IsViewOf : {R T N : Type 0} → Item → Handed R T N → Type 0
IsViewOf w (Point p) = point_seen p.now ≡ w
IsViewOf w (LineString l) = line_string_seen l.now ≡ w
IsViewOf w (Polygon p) = polygon_seen p.now ≡ w
IsViewOf w (MultiPoint m) = multi_point_seen m.now ≡ w
IsViewOf w (MultiLineString m) = multi_line_string_seen m.now ≡ w
IsViewOf w (MultiPolygon m) = multi_polygon_seen m.now ≡ w
IsViewOf w (GeometryCollection gs) = IsCollectionOf w gs.now
IsViewOf w _ = ⊥
