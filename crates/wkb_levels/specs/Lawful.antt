-- Lemmas that prove the laws of the traits: of what points, rings, polygons and singles mean.
use Rattle.std.specs.Prelude.{◌≡◌, ℕ, ◌-◌, List, [], ◌∷◌, map, All, Some, refl}
use Rattle.std.specs.List.{AllByRecursion}
use Rattle.std.proofs.lemmas.List.Elements.{All-take, All-drop, All-from_recursion, recursion_from_All}
use Rattle.wkb_geom.specs.declared.common.Dimensions.{Dimensions}
use Rattle.wkb_geom.specs.Geometries.{IsPoint, IsCoordinate, AreCoordinates, IsGeometry, dimensions_of}
use Rattle.wkb_plain.specs.Kinds.{line_string_coordinates}
use Rattle.wkb_plain.specs.Runs.{coordinates_in}
use Rattle.wkb_plain.specs.Lawful.{point_lawful, line_string_lawful, coordinates_in-lawful}
use Rattle.wkb_levels.specs.declared.{points.Points.Points, polygons.Polygons.Polygons, rings.Rings.Rings}
use Rattle.wkb_levels.specs.declared.single.Single.{Single}
use Rattle.wkb_levels.specs.declared.single.Single.TheVariants as singles
use Rattle.wkb_levels.specs.Cuts.{pieces_from}
use Rattle.wkb_levels.specs.EndLists.{start_of, ends_of}
use Rattle.wkb_levels.specs.PointLists.{points_dimensions, points_points}
use Rattle.wkb_levels.specs.RingLists.{rings_dimensions, rings_rings}
use Rattle.wkb_levels.specs.PolygonLists.{polygons_dimensions, polygons_polygons}
use Rattle.wkb_levels.specs.Meant.{single_dimensions, single_meant}

each-lawful : (d : Dimensions) (cs : List (List ℕ)) → AreCoordinates d cs
    → AllByRecursion (IsPoint d) (map (λ c. Some c) cs)
each-lawful d [] are = tt
each-lawful d (c ∷ cs) are = (are.0, each-lawful d cs are.1)

pub points_lawful : (p : Points) → AllByRecursion (IsPoint (points_dimensions p)) (points_points p)
points_lawful p = each-lawful (points_dimensions p) (line_string_coordinates p.line) (line_string_lawful p.line)

-- what holds of all items holds of all items of the pieces
pub pieces-all : {A : Type 0} (P : A → Type 0) (base : ℕ) (items : List A) (start : ℕ) (ends : List ℕ) → All P items
    → AllByRecursion (AllByRecursion P) (pieces_from base items start ends)
pieces-all P base items start [] all = tt
pieces-all P base items start (e ∷ ends) all = (
  recursion_from_All P _ (All-take P (e - base - (start - base)) _ (All-drop P (start - base) items all)),
  pieces-all P base items e ends all,
)

pub rings_lawful : (r : Rings) → AllByRecursion (AreCoordinates (rings_dimensions r)) (rings_rings r)
rings_lawful r =
    pieces-all (IsCoordinate r.dim) 0 (coordinates_in r.dim r.words.now) (start_of r.ends) (ends_of r.ends)
    (All-from_recursion (IsCoordinate r.dim) _ (coordinates_in-lawful r.dim r.words.now r.in_range))

pub polygons_lawful : (p : Polygons)
    → AllByRecursion (AllByRecursion (AreCoordinates (polygons_dimensions p))) (polygons_polygons p)
polygons_lawful p =
    pieces-all (AreCoordinates (polygons_dimensions p)) (start_of p.ends) (rings_rings p.rings) (start_of p.ends)
    (ends_of p.ends)
    (All-from_recursion (AreCoordinates (polygons_dimensions p)) _ (rings_lawful p.rings))

pub single_has_one_dimension : (s : Single) → dimensions_of (single_meant s) ≡ single_dimensions s
single_has_one_dimension (singles.Point p) = refl
single_has_one_dimension (singles.LineString l) = refl
single_has_one_dimension (singles.Polygon p) = refl
single_has_one_dimension (singles.MultiPoint m) = refl
single_has_one_dimension (singles.MultiLineString m) = refl

pub single_lawful : (s : Single) → IsGeometry (single_meant s)
single_lawful (singles.Point p) = point_lawful p
single_lawful (singles.LineString l) = line_string_lawful l
single_lawful (singles.Polygon p) = rings_lawful p
single_lawful (singles.MultiPoint m) = points_lawful m
single_lawful (singles.MultiLineString m) = rings_lawful m
