-- Lemmas: the shapes of a map are lawful, since places are coordinates.
use Rattle.std.specs.Prelude.{List, [], ◌∷◌, map}
use Rattle.std.specs.List.{AllByRecursion}
use Rattle.wkb.specs.Prelude.traits.{Xy}
use Rattle.wkb.specs.Geometries.{IsCoordinate, AreCoordinates}
use Rattle.wkb_cases.specs.Places.{words_of_place}
use Rattle.wkb_cases.specs.LawfulPlaces.{place_lawful}
use Rattle.wkb_clients.specs.Shapes.{path_words, area_rings, region_rings}
use Rattle.wkb_clients.specs.declared.shapes.Path.{Path}
use Rattle.wkb_clients.specs.declared.shapes.Area.{Area}
use Rattle.wkb_clients.specs.declared.shapes.Area.TheVariants as areas
use Rattle.wkb_clients.specs.declared.shapes.Region.{Region}

-- what holds of whatever is read from an item holds of what is read from each item of a list
all_lawful : {A X : Type 0} (read : A → X) (P : X → Type 0) → ((a : A) → P (read a)) → (items : List A)
    → AllByRecursion P (map read items)
all_lawful read P law [] = tt
all_lawful read P law (a ∷ items) = (law a, all_lawful read P law items)

pub path_lawful : (path : Path) → AreCoordinates Xy (path_words path)
path_lawful path = all_lawful words_of_place (IsCoordinate Xy) place_lawful path.places.now

pub area_lawful : (area : Area) → AllByRecursion (AreCoordinates Xy) (area_rings area)
area_lawful areas.Nothing = tt
area_lawful (areas.Within outline holes) =
    (path_lawful outline, all_lawful path_words (AreCoordinates Xy) path_lawful holes.now)

pub region_lawful : (region : Region) → AllByRecursion (AllByRecursion (AreCoordinates Xy)) (region_rings region)
region_lawful region = all_lawful area_rings (AllByRecursion (AreCoordinates Xy)) area_lawful region.areas.now
