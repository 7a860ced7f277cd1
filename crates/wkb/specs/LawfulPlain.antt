-- Lemmas: a plain geometry of any kind is lawful, and has the dimensions that it shows. `Plain` passes them on.
use Rattle.std.proofs.Common.{ap, ◌∙◌, sym, subst, ◌≡◌, List, [], ◌∷◌, map, refl}
use Rattle.wkb_geom.specs.Geometries.{Geometry, dimensions_of, geometries, IsGeometry, AreGeometries}
use Rattle.wkb.specs.declared.geom.geometry.Geometry.{Geometry as PlainGeometry}
use Rattle.wkb.specs.declared.geom.geometry.Geometry.TheOpen.{Geometry-F, GeometryCollection-F, Point, LineString}
use Rattle.wkb.specs.declared.geom.geometry.Geometry.TheOpen.{Polygon, MultiPoint, MultiLineString, MultiPolygon}
use Rattle.wkb.specs.declared.geom.geometry.Geometry.TheOpen.{GeometryCollection, Rect, Triangle, Line}
use Rattle.wkb.specs.declared.geom.geometry.Geometry.TheViews.{out-Geometry}
use Rattle.wkb.specs.declared.geom.geometry.Geometry.TheFolds.{fold_out-Geometry, map-Geometry, ind-Geometry}
use Rattle.wkb.specs.declared.geom.geometry.Geometry.TheFolds.{fold-roll-Geometry, fold-GeometryCollection}
use Rattle.wkb.specs.declared.geom.geometry.Geometry.TheFolds.{fold_out-GeometryCollection, map-GeometryCollection}
use Rattle.wkb.specs.declared.geom.geometry.Geometry.TheFolds.{fold-roll-GeometryCollection}
use Rattle.wkb.specs.declared.geom.geometry.GeometryCollection.{GeometryCollection as PlainCollection}
use Rattle.wkb_plain.specs.Lawful.{line_string_lawful, multi_line_string_lawful, multi_polygon_lawful, triangle_lawful}
use Rattle.wkb_plain.specs.Lawful.{point_lawful, polygon_lawful, multi_point_lawful, line_lawful, rect_lawful}
use Rattle.wkb.specs.PlainGeometry.{geometry_layer, collection_layer, plain_geometry, layer_dimensions}
use Rattle.wkb.specs.PlainGeometry.{plain_dimensions, collection_members}

abbrev plain_collection : PlainCollection → Geometry
plain_collection = fold-GeometryCollection Geometry Geometry geometry_layer collection_layer

-- one layer, with the geometry that each collection means in its place
abbrev meant_layer : Geometry-F PlainGeometry PlainCollection → Geometry
meant_layer x =
    geometry_layer (map-Geometry PlainGeometry PlainCollection Geometry Geometry plain_geometry plain_collection x)

layer-dimensions_of : (x : Geometry-F PlainGeometry PlainCollection)
    → dimensions_of (meant_layer x) ≡ layer_dimensions x
layer-dimensions_of (GeometryCollection c) =
    ap dimensions_of (fold_out-GeometryCollection Geometry Geometry geometry_layer collection_layer c)
layer-dimensions_of _ = refl

-- a plain geometry means one of the dimensions that it shows
pub dimensions_of-plain_geometry : (g : PlainGeometry) → dimensions_of (plain_geometry g) ≡ plain_dimensions g
dimensions_of-plain_geometry g =
    ap dimensions_of (fold_out-Geometry Geometry Geometry geometry_layer collection_layer g)
    ∙ layer-dimensions_of (out-Geometry g)

-- one layer of a collection, with the geometry that each member means in its place
abbrev meant_collection : GeometryCollection-F PlainGeometry PlainCollection → Geometry
meant_collection x =
    collection_layer
    (map-GeometryCollection PlainGeometry PlainCollection Geometry Geometry plain_geometry plain_collection x)

abbrev LawfulGeometry : Type 0
LawfulGeometry = (g : PlainGeometry) × IsGeometry (plain_geometry g)

abbrev LawfulCollection : Type 0
LawfulCollection = (c : PlainCollection) × IsGeometry (plain_collection c)

-- one layer without the proofs beside its parts
abbrev bare_layer : Geometry-F LawfulGeometry LawfulCollection → Geometry-F PlainGeometry PlainCollection
bare_layer y = map-Geometry LawfulGeometry LawfulCollection PlainGeometry PlainCollection (λ e. e.0) (λ e. e.0) y

IsGeometry-layer : (y : Geometry-F LawfulGeometry LawfulCollection) → IsGeometry (meant_layer (bare_layer y))
IsGeometry-layer (Point p) = point_lawful p
IsGeometry-layer (LineString l) = line_string_lawful l
IsGeometry-layer (Polygon p) = polygon_lawful p
IsGeometry-layer (MultiPoint m) = multi_point_lawful m
IsGeometry-layer (MultiLineString m) = multi_line_string_lawful m
IsGeometry-layer (MultiPolygon m) = multi_polygon_lawful m
IsGeometry-layer (GeometryCollection c) = c.1
IsGeometry-layer (Rect r) = rect_lawful r
IsGeometry-layer (Triangle t) = triangle_lawful t
IsGeometry-layer (Line l) = line_lawful l

AreGeometries-members : (ms : List LawfulGeometry) → AreGeometries (geometries (map plain_geometry (map (λ e. e.0) ms)))
AreGeometries-members [] = tt
AreGeometries-members (m ∷ ms) = (m.1, AreGeometries-members ms)

-- a plain geometry is lawful
pub IsGeometry-plain_geometry : (g : PlainGeometry) → IsGeometry (plain_geometry g)
IsGeometry-plain_geometry =
    ind-Geometry (λ g. IsGeometry (plain_geometry g)) (λ c. IsGeometry (plain_collection c))
    (λ x y is.
    subst IsGeometry (sym (fold-roll-Geometry Geometry Geometry geometry_layer collection_layer x))
    (subst (λ z. IsGeometry (meant_layer z)) is (IsGeometry-layer y)))
    (λ x y is.
    subst IsGeometry (sym (fold-roll-GeometryCollection Geometry Geometry geometry_layer collection_layer x))
    (subst (λ z. IsGeometry (meant_collection z)) is (AreGeometries-members y.members.items)))

AreGeometries-plain : (gs : List PlainGeometry) → AreGeometries (geometries (map plain_geometry gs))
AreGeometries-plain [] = tt
AreGeometries-plain (g ∷ gs) = (IsGeometry-plain_geometry g, AreGeometries-plain gs)

-- each member of a plain collection is lawful
pub collection_lawful : (c : PlainCollection) → AreGeometries (geometries (collection_members c))
collection_lawful c = AreGeometries-plain c.members.items
