-- What rings one after another mean.
use Rattle.std.specs.Prelude.{ℕ, ◌+◌, ◌/◌, ◌<◌, List, length}
use Rattle.wkb_geom.specs.declared.common.Dimensions.{Dimensions}
use Rattle.wkb_geom.specs.Dimensions.{size}
use Rattle.wkb_plain.specs.Runs.{coordinates_in}
use Rattle.wkb_levels.specs.declared.{rings.Rings.Rings, ends.Ends.Ends}
use Rattle.wkb_levels.specs.Cuts.{pieces_from}
use Rattle.wkb_levels.specs.EndLists.{start_of, ends_of, AreEndsWithin}

-- the rings of the coordinates in some words
abbrev pub rings_in : Dimensions → List ℕ → Ends → List (List (List ℕ))
rings_in d words e = pieces_from 0 (coordinates_in d words) (start_of e) (ends_of e)

abbrev pub rings_dimensions : Rings → Dimensions
rings_dimensions r = r.dim

abbrev pub rings_rings : Rings → List (List (List ℕ))
rings_rings r = rings_in r.dim r.words.now r.ends

-- the dimension has words, and the ends of rings don't fall or pass these words
abbrev pub FitWords : Dimensions → List ℕ → Ends → Type 0
FitWords d words e = (0 < size d) × AreEndsWithin (length words / size d) e

-- the ends of polygons don't fall or pass these rings, the first of which is where the first polygon begins
abbrev pub FitRings : Rings → Ends → Type 0
FitRings r e = AreEndsWithin (start_of e + length (rings_rings r)) e
