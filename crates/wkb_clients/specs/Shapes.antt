-- What the shapes of a map mean: each coordinate is the words of a place.
use Rattle.std.specs.Prelude.{ℕ, List, [], ◌∷◌, map}
use Rattle.wkb.specs.Prelude.traits.{Xy}
use Rattle.wkb.specs.Geometries.{Geometry, line_string, polygon, multi_polygon}
use Rattle.wkb_cases.specs.Places.{words_of_place}
use Rattle.wkb_clients.specs.declared.shapes.Path.{Path}
use Rattle.wkb_clients.specs.declared.shapes.Area.{Area}
use Rattle.wkb_clients.specs.declared.shapes.Area.TheVariants as areas
use Rattle.wkb_clients.specs.declared.shapes.Region.{Region}

-- the words of a path's places
abbrev pub path_words : Path → List (List ℕ)
path_words path = map words_of_place path.places.now

-- a path is a line string
abbrev pub path_meant : Path → Geometry
path_meant path = line_string Xy (path_words path)

-- the outline, and then the holes
abbrev pub area_rings : Area → List (List (List ℕ))
area_rings areas.Nothing = []
area_rings (areas.Within outline holes) = path_words outline ∷ map path_words holes.now

-- an area is a polygon
abbrev pub area_meant : Area → Geometry
area_meant area = polygon Xy (area_rings area)

-- the rings of each area
abbrev pub region_rings : Region → List (List (List (List ℕ)))
region_rings region = map area_rings region.areas.now

-- a region is a multi polygon
abbrev pub region_meant : Region → Geometry
region_meant region = multi_polygon Xy (region_rings region)
