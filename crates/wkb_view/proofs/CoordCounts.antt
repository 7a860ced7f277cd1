-- How many coordinates the rings of a view have.
use Rattle.wkb_view.proofs.Prelude.{◌≡◌, ℕ, ◌+◌, ◌-◌, ◌*◌, ◌/◌, List, [], ◌∷◌, length, sum_by, sym, arith, ap, ◌∙◌}
use Rattle.wkb_view.proofs.Prelude.{rings_size, Dimension, width, as_dimensions, Layout, Listed, Coordinate, AreBytes}
use Rattle.wkb_view.proofs.Prelude.{BytesSpell, body_start, polygon_laid, polygon_seen}
use Rattle.std.proofs.lemmas.List.Sums.{sum_by-cons}
use Rattle.std.proofs.Math.Nat.{mul-div_cancel_left}
use Rattle.wkb_geom.specs.Dimensions.{size}
use Rattle.wkb_view.proofs.Sizes.{polygon_size, rings_same}
use Rattle.wkb_view.specs.Lawful.{named_size}
use Rattle.wkb_view.proofs.Items.{width-within}

-- the bytes of rings, by how many of them and of coordinates there are
module _ (w : ℕ) where
  abbrev bytes_in : List (List ℕ) → ℕ
  bytes_in cs = 4 + 8 * w * length cs

  summed : (rs : List (List (List ℕ))) → sum_by bytes_in rs ≡ 4 * length rs + 8 * w * sum_by length rs
  summed [] = omega arith
  summed (r ∷ rs) =
      let more = summed rs in
      let bytes : sum_by bytes_in (r ∷ rs) ≡ 4 + 8 * w * length r + sum_by bytes_in rs = sum_by-cons bytes_in r rs in
      let all : sum_by length (r ∷ rs) ≡ length r + sum_by length rs = sum_by-cons length r rs in
      bytes ∙ omega arith ∙ ap (λ n. 4 * length (r ∷ rs) + 8 * w * n) (sym all)

pub rings_counted : (d : Dimension) (rs : List (List (List ℕ)))
    → rings_size (as_dimensions d) rs ≡ 4 + 4 * length rs + 8 * width d * sum_by length rs
rings_counted d rs = grind (arith, summed (size (as_dimensions d)) rs, named_size d)

pub coordinates_counted : (d : Dimension) (n k s : ℕ) → n ≡ 4 + 4 * k + 8 * width d * s
    → (n - 4 - 4 * k) / (8 * width d) ≡ s
coordinates_counted d n k s is = grind (arith, mul-div_cancel_left, width-within)

-- the bytes of a polygon's view after the header
pub view_counted : (l : Layout) (ends bytes : List ℕ) (p : Listed (List (List Coordinate)))
    → polygon_laid l ends bytes ≡ p → AreBytes bytes → BytesSpell (polygon_seen (polygon_laid l ends bytes))
    → (n : ℕ) → n ≡ length bytes - body_start l.has_srid
    → n ≡ 4 + 4 * length p.parts + 8 * width p.dimension * sum_by length p.parts
view_counted l ends bytes p view fine spells n is = grind (arith, polygon_size, rings_same, rings_counted)
