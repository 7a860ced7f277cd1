-- A point by its words.
use Rattle.std.specs.Prelude.{ℕ, [], ◌∷◌, Some}
use Rattle.wkb.specs.Prelude.traits.{Xy}
use Rattle.wkb.specs.Geometries.{Geometry, point}

-- the point at this x and y
abbrev pub point_at : ℕ → ℕ → Geometry
point_at x y = point Xy (Some (x ∷ y ∷ []))
