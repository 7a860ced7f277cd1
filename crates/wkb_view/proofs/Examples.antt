-- What is asked for after a count, and what is returned where the count, or what it counts, is missing.
use Rattle.wkb_view.proofs.Prelude.{◌≡◌, ◌/◌, min, [], ◌∷◌, ◌++◌, refl, pieces}
use Rattle.wkb_view.proofs.Hex.{hex}

-- ---- lists, whose entries are asked for at once

-- worked values: a claimed count with no bytes left, with room for eleven parts, and one that is met
worked_capacities : min 4294967295 (0 / 9) ∷ min 4294967295 (100 / 9) ∷ min 1000 (9000 / 9) ∷ [] ≡ 0 ∷ 11 ∷ 1000 ∷ []
worked_capacities = refl

-- ---- the ends at which the parts of a list are found

-- worked values: two rings of a polygon, and two members of a multi line string
worked_ends :
    pieces 9 (29 ∷ 33 ∷ []) (hex "01 03000000 02000000 01000000 000000000000f03f 0000000000000040 00000000")
    ∷ pieces 9 (34 ∷ 47 ∷ []) (hex "01 05000000 02000000"
    ++ hex "01 02000000 01000000 000000000000f03f 0000000000000040" ++ hex "00 20000002 000010e6 00000000")
    ∷ [] ≡ (hex "01000000 000000000000f03f 0000000000000040" ∷ hex "00000000" ∷ [])
    ∷ (hex "01 02000000 01000000 000000000000f03f 0000000000000040" ∷ hex "00 20000002 000010e6 00000000" ∷ []) ∷ []
worked_ends = refl
