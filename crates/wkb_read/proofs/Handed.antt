-- Which kind of view `as_type` of a geometry that was read hands out.
use Rattle.wkb_read.proofs.Prelude.{◌≡◌, List, arith, Bor, Coordinate, Item, Listed}
use Rattle.wkb_geom.specs.declared.geom.GeometryType.TheVariants.{Point, LineString, Polygon, MultiPoint}
use Rattle.wkb_geom.specs.declared.geom.GeometryType.TheVariants.{MultiLineString, MultiPolygon, GeometryCollection}
use Rattle.wkb_view.specs.declared.point.Point as points
use Rattle.wkb_view.specs.declared.line_string.LineString as lines
use Rattle.wkb_view.specs.declared.multi_point.MultiPoint as multi_points
use Rattle.wkb_geom.specs.Values.{kind}
use Rattle.wkb_read.specs.Views.{IsViewOf, Handed, handed_kind}

-- The kind that was handed out is that of the geometry's value.
pub kind_handed : {R T N : Type 0} (w : Item) (r : Handed R T N) → IsViewOf w r → kind w.value ≡ handed_kind r
kind_handed w r view = grind arith

-- Where `as_type` handed out no point, the value is no point's.
pub not_point : {R T N : Type 0} (w : Item) (r : Handed R T N) → IsViewOf w r
    → ((p : Bor points.Point) → r ≡ Point p → ⊥) → kind w.value ≡ 1 → ⊥
not_point w r view none one = grind arith

-- Where it handed out no line string, the value is no line string's.
pub not_line_string : {R T N : Type 0} (w : Item) (r : Handed R T N) → IsViewOf w r
    → ((l : Bor lines.LineString) → r ≡ LineString l → ⊥) → kind w.value ≡ 2 → ⊥
not_line_string w r view none two = grind arith

-- Where it handed out no polygon, the value is no polygon's.
pub not_polygon : {R T N : Type 0} (w : Item) (r : Handed R T N) → IsViewOf w r
    → ((p : Bor (Listed (List (List Coordinate)))) → r ≡ Polygon p → ⊥) → kind w.value ≡ 3 → ⊥
not_polygon w r view none three = grind arith

-- Where it handed out no multi point, the value is no multi point's.
pub not_multi_point : {R T N : Type 0} (w : Item) (r : Handed R T N) → IsViewOf w r
    → ((m : Bor multi_points.MultiPoint) → r ≡ MultiPoint m → ⊥) → kind w.value ≡ 4 → ⊥
not_multi_point w r view none four = grind arith

-- Where it handed out no multi line string, the value is no multi line string's.
pub not_multi_line_string : {R T N : Type 0} (w : Item) (r : Handed R T N) → IsViewOf w r
    → ((m : Bor (Listed (List (List Coordinate)))) → r ≡ MultiLineString m → ⊥) → kind w.value ≡ 5 → ⊥
not_multi_line_string w r view none five = grind arith

-- Where it handed out no multi polygon, the value is no multi polygon's.
pub not_multi_polygon : {R T N : Type 0} (w : Item) (r : Handed R T N) → IsViewOf w r
    → ((m : Bor (Listed (List (List (List Coordinate))))) → r ≡ MultiPolygon m → ⊥) → kind w.value ≡ 6 → ⊥
not_multi_polygon w r view none six = grind arith

-- Where it handed out no members, the value is no collection's.
pub not_collection : {R T N : Type 0} (w : Item) (r : Handed R T N) → IsViewOf w r
    → ((gs : Bor (List Item)) → r ≡ GeometryCollection gs → ⊥) → kind w.value ≡ 7 → ⊥
not_collection w r view none seven = grind arith
