-- Bytes from text in hex, two digits a byte; spaces are for reading.
use Rattle.std.specs.Prelude.{ℕ, ◌+◌, ◌-◌, ◌*◌, List, [], ◌∷◌, ◌++◌, codes, nat_lt, ◌==◌, if◌then◌else◌}
use Prim.Native.String.{String}

-- the digits among the characters' codes: 0 to 9 and a to f
abbrev pub digits : List ℕ → List ℕ
digits [] = []
digits (c ∷ cs) = (if c == 32 then [] else (if nat_lt c 58 then c - 48 else c - 87) ∷ []) ++ digits cs

abbrev pub pairs : List ℕ → List ℕ
pairs [] = []
pairs (high ∷ []) = []
pairs (high ∷ low ∷ rest) = (16 * high + low) ∷ pairs rest

abbrev pub hex : String → List ℕ
hex text = pairs (digits (codes text))
