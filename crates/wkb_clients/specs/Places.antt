-- What is read again of a place that was written.
use Rattle.std.specs.Prelude.{◌≡◌, ℕ, Option, true, MatchOption}
use Rattle.wkb.specs.Prelude.{all_nan}
use Rattle.wkb_cases.specs.declared.places.Place.{Place}
use Rattle.wkb_cases.specs.Places.{words_of_place}

-- a place is read again as its own words, or as none if both are NaNs
abbrev pub IsReadAgain : Place → Option (ℕ × ℕ) → Type 0
IsReadAgain place found =
    MatchOption found (all_nan (words_of_place place) ≡ true) (λ words. words ≡ (place.longitude, place.latitude))
