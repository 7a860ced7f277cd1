-- Lemmas: each point of a multi point that was read is lawful. Those on all bytes and on
-- coordinates that are fitted are passed on. Laws of the traits cite them.
use Rattle.std.proofs.Common.{◌≡◌, ℕ, ◌+◌, ◌-◌, List, [], ◌∷◌, drop, map, Result, Ok, Err, refl, false, subst}
use Rattle.std.specs.List.{AllByRecursion}
use Rattle.wkb_geom.specs.Geometries.{IsPoint}
use Rattle.wkb_view.specs.Prelude.{BigEndian, Dimension, Layout, as_dimensions, Cause, AreBytes, laid, body_start}
use Rattle.wkb_view.specs.Prelude.{point_of, point_item, points_of}
use Rattle.wkb_view.specs.Members.{layout_said, member_item, point_ends, multi_point_item}
use Rattle.wkb_view.specs.Pieces.{pieces}
pub use Rattle.wkb_laws.proofs.ReadIsLawful.{number-lt, AreBytes-drop, AreBytes-take, named_size, coordinate_lawful}
pub use Rattle.wkb_laws.proofs.ReadIsLawful.{ring_lawful, line_string_item_lawful, point_item_lawful, member_dimension}
pub use Rattle.wkb_laws.proofs.Fitted.{line_string_fits, line_strings_fit, polygons_fit, IsGeometry-fitted}
pub use Rattle.wkb_laws.proofs.Fitted.{fitted_geometry-same}

member_by : (d : Dimension) (encoding : List ℕ) (r : Result Layout Cause) → ((l : Layout) → r ≡ Ok l → l.dimension ≡ d)
    → AreBytes encoding
    → IsPoint (as_dimensions d) (point_of (point_item (layout_said d r) encoding).value)
member_by d encoding (Ok l) same h =
    subst (λ e. IsPoint (as_dimensions e) (point_of (point_item l encoding).value)) (same l refl)
    (point_item_lawful l encoding h)
member_by d encoding (Err c) same h = point_item_lawful (laid BigEndian d false) encoding h

member_points_lawful : (d : Dimension) (start : ℕ) (ends encoding : List ℕ) → AreBytes encoding
    → AllByRecursion (IsPoint (as_dimensions d))
    (map (λ i. point_of i.value) (map (member_item 1 d) (pieces start ends encoding)))
member_points_lawful d start [] encoding h = tt
member_points_lawful d start (end ∷ ends) encoding h = (
  member_by d _ _ (member_dimension 1 d _)
      (AreBytes-take (end - start) (drop start encoding) (AreBytes-drop start encoding h)),
  member_points_lawful d end ends encoding h,
)

pub multi_point_item_lawful : (l : Layout) (n : ℕ) (encoding : List ℕ) → AreBytes encoding
    → AllByRecursion (IsPoint (as_dimensions l.dimension)) (points_of (multi_point_item l n encoding).value)
multi_point_item_lawful l n encoding h =
    member_points_lawful l.dimension (body_start l.has_srid + 4) (point_ends l n) encoding h
