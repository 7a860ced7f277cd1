-- The shares of a value, by how it is spelled.
use Rattle.std.proofs.Common.{◌≡◌, ℕ, List, [], ◌∷◌, ◌++◌, length, map, refl, ap, rules}
use Rattle.std.specs.List.{concat}
use Rattle.wkb_laws.specs.Prelude.{Dimension, Coordinate, Value, Values, no_members, member, kind, dimension, members}
use Rattle.wkb_laws.specs.Prelude.{point, line_string, Spelling, node, Spellings, no_spellings, spelling, Spells}
use Rattle.wkb_laws.specs.Prelude.{SpellsEach, Wanted}
unfoldable use Rattle.wkb_laws.specs.Prelude.{point_words}
use Rattle.wkb_check.specs.Prelude.{count_of, rings_of}
use Rattle.wkb_rewrite.specs.Shares.{Share}

-- the words of a value itself
abbrev pub value_words : Value → List ℕ
value_words (point d c) = point_words d c
value_words (line_string d cs) = concat cs
value_words _ = []

abbrev pub own_share : Value → Share
own_share t = record { kind = kind t; dimension = dimension t; count = count_of t; words = value_words t }

abbrev pub ring_share : Dimension → List Coordinate → Share
ring_share d cs = record { kind = 0; dimension = d; count = length cs; words = concat cs }

-- the shares of a value, and of members
abbrev mutual
  pub shares_of : Spelling → Value → List Share
  shares_of (node h words ss) t =
      own_share t ∷ (map (ring_share (dimension t)) (rings_of t) ++ shares_of_each ss (members t))

  pub shares_of_each : Spellings → Values → List Share
  shares_of_each no_spellings ts = []
  shares_of_each (spelling s ss) no_members = []
  shares_of_each (spelling s ss) (member t ts) = shares_of s t ++ shares_of_each ss ts

-- however a value is spelled, they are the same
mutual
  pub shares_same : (s u : Spelling) (t : Value) (x y : List ℕ) → Spells s t x → Spells u t y
      → shares_of s t ≡ shares_of u t
  shares_same (node h words ss) (node k own us) t x y a b =
      ap (λ xs. own_share t ∷ (map (ring_share (dimension t)) (rings_of t) ++ xs))
      (each_same _ ss us (members t) a.second.rest b.second.rest a.second.second b.second.second)

  each_same : (w : Wanted) (ss us : Spellings) (ts : Values) (x y : List ℕ) → SpellsEach w ss ts x
      → SpellsEach w us ts y
      → shares_of_each ss ts ≡ shares_of_each us ts
  each_same w no_spellings no_spellings ts x y a b = refl
  each_same w (spelling s ss) (spelling u us) (member t ts) x y a b =
      λ i. shares_same s u t a.front b.front a.first.0 b.first.0 i
      ++ each_same w ss us ts a.rest b.rest a.second b.second i
  each_same w _ _ _ x y a b = search rules
