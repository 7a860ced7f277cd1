-- The parts of a value and of a spelling, as the calls of views return them.
use Rattle.std.specs.Prelude.{ℕ, List, [], ◌∷◌, Option, slice_get}
use Rattle.wkb_geom.specs.Values.{Coordinate, Value, Values, multi_point, collection, no_members, member}
use Rattle.wkb_geom.specs.Spellings.{Spelling, node, Spellings, no_spellings, spelling}

-- the members of a collection, as a list
abbrev pub list_of_values : Values → List Value
list_of_values no_members = []
list_of_values (member v vs) = v ∷ list_of_values vs

-- the value is a collection
abbrev pub IsCollection : Value → Type 0
IsCollection (collection d vs) = Unit {0}
IsCollection _ = ⊥

-- the points of a multi point
abbrev pub points_of : Value → List (Option Coordinate)
points_of (multi_point d ps) = ps
points_of _ = []

-- the spellings of the members of a geometry
abbrev pub members_spelled : Spelling → Spellings
members_spelled (node h words ss) = ss

-- the spellings of members, as a list
abbrev pub list_of_spellings : Spellings → List Spelling
list_of_spellings no_spellings = []
list_of_spellings (spelling s ss) = s ∷ list_of_spellings ss

-- the spelling of the member at an index
abbrev pub spelling_at : Spelling → ℕ → Option Spelling
spelling_at s i = slice_get (list_of_spellings (members_spelled s)) i
