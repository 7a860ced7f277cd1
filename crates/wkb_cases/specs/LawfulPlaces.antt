-- Lemmas: the words of a place are those of a coordinate.
use Rattle.std.specs.Prelude.{refl}
use Rattle.wkb_cases.specs.declared.places.Place.{Place}
use Rattle.wkb_cases.specs.Places.{words_of_place}
use Rattle.wkb.specs.Prelude.traits.{Xy}
use Rattle.wkb.specs.Geometries.{IsCoordinate}

pub place_lawful : (place : Place) → IsCoordinate Xy (words_of_place place)
place_lawful place = record { len = refl; words = (place.longitude_fits, (place.latitude_fits, tt)) }
