-- What a place means as a coordinate.
use Rattle.std.specs.Prelude.{ℕ, List, [], ◌∷◌}
use Rattle.wkb_cases.specs.declared.places.Place.{Place}

abbrev pub words_of_place : Place → List ℕ
words_of_place place = place.longitude ∷ place.latitude ∷ []
